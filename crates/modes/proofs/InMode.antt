-- A call that counts by mode gives 2 in a mode in which nothing is counted, and else answers as its row does.
-- Assumes nothing.
use Prim.Native.Nat.{ℕ, ◌+◌, ◌-◌}
use mathlib.Core.Path.{◌≡◌, refl, sym, ap, ◌∙◌}
use mathlib.Core.Bool.{Bool, true, false}
use mathlib.Core.List.{[]}
use native.Mathlib.Omega.{arith}
use Rattle.std.specs.Prelude.{Err, Ok, Result}
use Rattle.refusals.specs.declared.types.Refusal.{Refusal}
use Rattle.refusals.specs.declared.types.Refusal.TheVariants.{UnknownMode}
use Rattle.refusals.proofs.Results.{not_accepted, accepted_so}
use Rattle.rates.specs.declared.types.Rate.{Rate}
use Rattle.pictures.specs.declared.types.Counting.{Counting}
use Rattle.pictures.specs.Pictures.{counting}
use Rattle.modes.specs.Modes.{uncounted, rate_at, pictures_at, with_counting, in_mode, counting_of}
use Rattle.modes.proofs.EachMode.{some_picture}

-- a row that was told is of a mode that is counted; in a mode that was refused nothing is
module _ (mode : ℕ) (row : Result Counting Refusal) (asked : row ≡ counting_of mode) where
  pub counted_told : (own : Counting) → row ≡ Ok own → uncounted mode ≡ false
  unfolding counting_of
  counted_told own e = (accepted_so (with_counting mode []) (sym asked ∙ e)).0.0

  pub counted_refused : (r : Refusal) → row ≡ Err r → (uncounted mode ≡ true) × (r ≡ UnknownMode)
  unfolding counting_of
  counted_refused r e = go (uncounted mode) refl
    where
      go : (t : Bool) → uncounted mode ≡ t → (uncounted mode ≡ true) × (r ≡ UnknownMode)
      go true t = let two : ◌≡◌ {A = Result Counting Refusal} (Err r) (Err UnknownMode) = sym e ∙ asked ∙ rw t in (t, cc)
      go false t = let other : Err r ≡ Ok (counting (rate_at mode) (pictures_at mode - 1)) = sym e ∙ asked ∙ rw t in absurd (not_accepted r other)

module _ {A : Type 0} (refused : Refusal → A) (mode : ℕ) (call : Rate → ℕ → A) where
  -- in a mode that is known the answer is that of its row
  pub known_is : uncounted mode ≡ false → in_mode refused mode call ≡ call (rate_at mode) (pictures_at mode)
  known_is known = rw known

  -- and what is no refusal was answered in a mode that is known
  pub answered :
      (given : A) → ((r : Refusal) → refused r ≡ given → ⊥) → in_mode refused mode call ≡ given
      → (uncounted mode ≡ false) × (call (rate_at mode) (pictures_at mode) ≡ given)
  answered given apart e = go (uncounted mode) refl
    where
      go : (t : Bool) → uncounted mode ≡ t → (uncounted mode ≡ false) × (call (rate_at mode) (pictures_at mode) ≡ given)
      go true t = let turned_away : refused UnknownMode ≡ given = rw t at e in absurd (apart UnknownMode turned_away)
      go false t = (t, sym (known_is t) ∙ e)

module _ {A : Type 0} (mode : ℕ) (call : Rate → ℕ → Result A Refusal) where
  -- so what is accepted was answered in a mode that is known
  pub accepted_in :
      (given : A) → in_mode Err mode call ≡ Ok given → (uncounted mode ≡ false) × (call (rate_at mode) (pictures_at mode) ≡ Ok given)
  accepted_in given e = answered Err mode call (Ok given) not_accepted e

  -- the row that was told is the mode's own, and a mode that has none is refused as the call refuses it
  module _ (row : Result Counting Refusal) (asked : row ≡ counting_of mode) where
    pub no_row : (r : Refusal) → row ≡ Err r → Err r ≡ in_mode Err mode call
    no_row r e = let is = counted_refused mode row asked r e in rw (is.0, is.1)

    pub by_its_row : (own : Counting) → row ≡ Ok own → (given : Result A Refusal) → given ≡ call own.rate (own.last + 1) → given ≡ in_mode Err mode call
    unfolding counting_of
    by_its_row own e given told = go (uncounted mode) refl
      where
        go : (t : Bool) → uncounted mode ≡ t → given ≡ in_mode Err mode call
        go true t = let other : Err UnknownMode ≡ Ok own = sym (sym e ∙ asked ∙ rw t) in absurd (not_accepted UnknownMode other)
        go false t =
            let given_row : ◌≡◌ {A = Result Counting Refusal} (Ok own) (Ok (counting (rate_at mode) (pictures_at mode - 1))) = sym e ∙ asked ∙ rw t in
            let same : own ≡ counting (rate_at mode) (pictures_at mode - 1) = cc in
            let rate : own.rate ≡ rate_at mode = ap (λ (c : Counting). c.rate) same in
            let place : own.last ≡ pictures_at mode - 1 = ap (λ (c : Counting). c.last) same in
            let share : own.last + 1 ≡ pictures_at mode = omega (arith, some_picture mode, place) in
            told ∙ rw (rate, share, t)
