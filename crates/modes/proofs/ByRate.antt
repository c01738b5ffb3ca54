-- In a mode that is known a record's bits are made as at its rate, of the record as its rate has it; what a mode's rate tells.
-- Assumes nothing.
use Prim.Native.Nat.{ℕ, ◌+◌, ◌-◌}
use mathlib.Core.Path.{◌≡◌, refl, sym, ap, ◌∙◌}
use mathlib.Core.Bool.{Bool, true, false, not, ◌&&◌, ◌||◌, cond}
use mathlib.Core.List.{[]}
use native.Mathlib.Omega.{arith}
use lib.Dec.{ltb}
use Rattle.refusals.specs.declared.types.Refusal.TheVariants.{OutsideTheClock, UnknownMode, UnusedBitSet}
use Rattle.refusals.specs.declared.types.Refusal.{Refusal}
use Rattle.std.specs.Prelude.{Err, Ok, Result}
use Rattle.pictures.specs.declared.types.Counting.{Counting}
use Rattle.refusals.proofs.Answered.{Clear, neither}
use Rattle.refusals.proofs.Results.{not_accepted, accepted_so}
use Rattle.pictures.specs.Pictures.{counting}
use Rattle.refusals.proofs.ByNumber.{clear_at}
use Rattle.rates.specs.declared.types.Rate.{Rate}
use Rattle.pictures.specs.Pictures.{several, place_outside, place_unused}
use Rattle.record.specs.declared.types.Record.{Record}
use Rattle.layout.specs.Flags.{unused_colour}
use Rattle.record.specs.Record.{fields_of, info_of, group_above_15, at_place}
use Rattle.record.specs.Calls.{write_refusals, packed_of}
use Rattle.record.proofs.Accepted.{Writable, writable}
use Rattle.modes.specs.Modes.{unknown, high_rate, rate_at, pictures_at, with_mode, rated_of, high_row_of}
use Rattle.modes.specs.Calls.{write_refusals_in, packed_in}
use Rattle.modes.specs.AtRate.{place_left, at_rate}
use Rattle.modes.proofs.EachMode.{some_picture}

-- a place is left for the rate exactly where it is not used
pub left_unused : (pictures place : ℕ) → ltb 0 (place_left pictures place) ≡ place_unused pictures place
left_unused pictures place = go (several pictures)
  where
    go : (t : Bool) → ltb 0 (cond t 0 place) ≡ (not t && ltb 0 place)
    go true = refl
    go false = refl

-- the place makes no bit
pub info_at_place : (rate : Rate) (place : ℕ) (r : Record) → info_of rate (at_place place r) ≡ info_of rate r
unfolding info_of fields_of
info_at_place rate place r = refl

module _ (mode : ℕ) (r : Record) where
  pub packs_at_rate :
      unknown mode ≡ false → place_outside (pictures_at mode) r.place ≡ false → packed_in mode r ≡ packed_of (rate_at mode) (at_rate (pictures_at mode) r)
  unfolding packed_in packed_of
  packs_at_rate known inside =
      rw (known, inside, left_unused (pictures_at mode) r.place, info_at_place (rate_at mode) (place_left (pictures_at mode) r.place) r)

  -- a record that is clear of refusals is so at its rate, and so is its place
  module _ (clear : Clear (write_refusals_in mode r)) where
    pub place_inside : place_outside (pictures_at mode) r.place ≡ false
    place_inside =
        let eight = neither (place_outside (pictures_at mode) r.place || group_above_15 r.groups) _ (clear_at OutsideTheClock (write_refusals_in mode r) clear) in
        (neither (place_outside (pictures_at mode) r.place) (group_above_15 r.groups) eight.0).0

    pub place_used : place_unused (pictures_at mode) r.place ≡ false
    place_used =
        let colour = unused_colour (rate_at mode) r.flags.colour in
        let ten = neither (place_unused (pictures_at mode) r.place || colour) _ (clear_at UnusedBitSet (write_refusals_in mode r) clear) in
        (neither (place_unused (pictures_at mode) r.place) colour ten.0).0

    pub clear_at_rate : Clear (write_refusals (rate_at mode) (at_rate (pictures_at mode) r))
    clear_at_rate = rw (left_unused (pictures_at mode) r.place) (rw place_inside at clear)

    -- its address and groups fit their bits
    pub fits_of : Writable r.address r.groups
    fits_of = writable (rate_at mode) (at_rate (pictures_at mode) r) clear_at_rate

-- a rate, or a row, that was told is the mode's own, and the mode is one of those that are asked for; a mode that was refused is not
module _ (mode : ℕ) (told : Result Rate Refusal) (asked : told ≡ rated_of mode) where
  pub rate_told : (rate : Rate) → told ≡ Ok rate → (unknown mode ≡ false) × (rate_at mode ≡ rate)
  unfolding rated_of
  rate_told rate e = let taken = accepted_so (with_mode mode []) (sym asked ∙ e) in (taken.0.0, taken.1)

  pub rate_refused : (n : Refusal) → told ≡ Err n → (unknown mode ≡ true) × (n ≡ UnknownMode)
  unfolding rated_of
  rate_refused n e = go (unknown mode) refl
    where
      go : (t : Bool) → unknown mode ≡ t → (unknown mode ≡ true) × (n ≡ UnknownMode)
      go true t = let two : ◌≡◌ {A = Result Rate Refusal} (Err n) (Err UnknownMode) = sym e ∙ asked ∙ rw t in (t, cc)
      go false t = let other : Err n ≡ Ok (rate_at mode) = sym e ∙ asked ∙ rw t in absurd (not_accepted n other)

module _ (mode : ℕ) (told : Result Counting Refusal) (asked : told ≡ high_row_of mode) where
  pub row_told : (own : Counting) → told ≡ Ok own → (high_rate mode ≡ true) × ((rate_at mode ≡ own.rate) × (own.last + 1 ≡ pictures_at mode))
  unfolding high_row_of
  row_told own e = go (high_rate mode) refl
    where
      go : (t : Bool) → high_rate mode ≡ t → (high_rate mode ≡ true) × ((rate_at mode ≡ own.rate) × (own.last + 1 ≡ pictures_at mode))
      go true t =
          let given : ◌≡◌ {A = Result Counting Refusal} (Ok own) (Ok (counting (rate_at mode) (pictures_at mode - 1))) = sym e ∙ asked ∙ rw t in
          let same : own ≡ counting (rate_at mode) (pictures_at mode - 1) = cc in
          let place : own.last ≡ pictures_at mode - 1 = ap (λ (c : Counting). c.last) same in
          (t, (sym (ap (λ (c : Counting). c.rate) same), omega (arith, some_picture mode, place)))
      go false t = let other : Err UnknownMode ≡ Ok own = sym (sym e ∙ asked ∙ rw t) in absurd (not_accepted UnknownMode other)

  pub row_refused : (n : Refusal) → told ≡ Err n → (high_rate mode ≡ false) × (n ≡ UnknownMode)
  unfolding high_row_of
  row_refused n e = go (high_rate mode) refl
    where
      go : (t : Bool) → high_rate mode ≡ t → (high_rate mode ≡ false) × (n ≡ UnknownMode)
      go true t = let other : Err n ≡ Ok (counting (rate_at mode) (pictures_at mode - 1)) = sym e ∙ asked ∙ rw t in absurd (not_accepted n other)
      go false t = let two : ◌≡◌ {A = Result Counting Refusal} (Err n) (Err UnknownMode) = sym e ∙ asked ∙ rw t in (t, cc)
