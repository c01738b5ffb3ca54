-- `superframes::reading::unpacked` meets its contract: 8 as `record` gives it, and then what is judged after it.
-- Assumes nothing.
use Prim.Native.Nat.{ℕ, ◌+◌, ◌/◌, ◌%◌}
use mathlib.Core.Path.{◌≡◌, refl, sym, ◌∙◌}
use mathlib.Core.Bool.{Bool, true, false, ◌||◌, cond}
use Rattle.refusals.specs.declared.types.Refusal.{Refusal}
use Rattle.std.specs.Prelude.{Err, Ok, Result}
use Rattle.refusals.specs.declared.types.Refusal.TheVariants.{OutsideTheClock}
use Rattle.refusals.proofs.Answered.{neither}
use Rattle.refusals.proofs.Results.{not_accepted, passed_on}
use Rattle.rates.specs.declared.types.Rate.{Rate}
use Rattle.rates.specs.declared.types.Flag.{Flag}
use Rattle.rates.specs.Rates.{frames_in_second}
use Rattle.rates.specs.Face.{outside}
use Rattle.layout.specs.Flags.{flag_of}
use Rattle.pictures.specs.Pictures.{place_outside}
use Rattle.record.specs.declared.types.Record.{Record}
use Rattle.record.specs.Record.{record_of, digit_above_9}
use Rattle.record.specs.Calls as at_rate
use Rattle.superframes.specs.SubFrames.{place_in}
use Rattle.superframes.specs.Bare.{without, bare, judged_of}
use Rattle.superframes.specs.Calls.{unpacked_of}
use Rattle.superframes.proofs.Bare.{eight_alone, digits_same, held_bare}
use Rattle.superframes.proofs.reading.unpacked.Goals as goal

-- 8 applies as well where something else makes it apply
sooner : (a b c : Bool) → (a || c) ≡ true → ((a || b) || c) ≡ true
sooner true b c e = refl
sooner false true c e = refl
sooner false false c e = e

module _ (rate : Rate) (last info : ℕ) (held : Result Record Refusal) (asked : held ≡ at_rate.unpacked_of rate (without info)) where
  abbrev whole : Record
  whole = record_of rate info

  abbrev bad : Bool
  bad = digit_above_9 info || outside (frames_in_second rate) whole.address

  as_found : held ≡ cond bad (Err OutsideTheClock) (Ok (bare whole))
  unfolding at_rate.unpacked_of
  as_found = asked ∙ rw (held_bare info rate, digits_same info) (eight_alone Err (Ok (bare whole)) rate (digit_above_9 info) whole)

  refused : (n : Refusal) → held ≡ Err n → Err n ≡ unpacked_of rate (last + 1) info
  unfolding unpacked_of
  refused n e = go bad refl
    where
      go : (t : Bool) → bad ≡ t → Err n ≡ unpacked_of rate (last + 1) info
      go true t =
          let eight : ◌≡◌ {A = Result Record Refusal} (Err n) (Err OutsideTheClock) = sym e ∙ as_found ∙ rw t in
          let first = sooner (digit_above_9 info) (place_outside (last + 1) (place_in (last + 1) whole.flags)) (outside (frames_in_second rate) whole.address) t in
          eight ∙ rw first
      go false t =
          let other : Err n ≡ Ok (bare whole) = sym e ∙ as_found ∙ rw t in absurd (not_accepted n other)

  went_on :
      (r : Record) → held ≡ Ok r → (drop second : Flag) → drop ≡ flag_of (info / 1024 % 2) → second ≡ flag_of (info / 2048 % 2) → (given : Result Record Refusal)
      → given ≡ judged_of rate (last + 1) drop second r → given ≡ unpacked_of rate (last + 1) info
  unfolding unpacked_of record_of
  went_on r e drop second first next given told = go bad refl
    where
      go : (t : Bool) → bad ≡ t → given ≡ unpacked_of rate (last + 1) info
      go true t =
          let other : Err OutsideTheClock ≡ Ok r = sym (sym e ∙ as_found ∙ rw t) in absurd (not_accepted OutsideTheClock other)
      go false t =
          let own : ◌≡◌ {A = Result Record Refusal} (Ok r) (Ok (bare whole)) = sym e ∙ as_found ∙ rw t in
          let same : r ≡ bare whole = cc in
          let clear = neither (digit_above_9 info) _ t in
          told ∙ rw (same, first, next, clear.0)

pub returns-in_err-held : goal.returns-in_err-held
returns-in_err-held c = passed_on c.from_residual.ensures.1 (search (refused, c.in_err-held.was))

pub returns : goal.returns
returns c = search (went_on, c.in_ok-held.was)
