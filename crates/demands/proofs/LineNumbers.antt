-- The line numbers that can't be: what `atc` says by the ends of the columns is what Table 4 says as it is printed. One test, computed over all six bits on both
-- interfaces, and carried to every second byte.
-- Assumes nothing.
use Prim.Native.Nat.{ℕ, ◌+◌, ◌/◌, ◌%◌}
use mathlib.Core.Path.{◌≡◌, refl, sym, ◌∙◌}
use mathlib.Core.Bool.{Bool, true, false, not, ◌&&◌, ◌||◌, true≢false}
use mathlib.Core.List.{List, [], ◌∷◌}
use mathlib.Core.Logic.{◌↔◌, ◌⊎◌, inl, inr}
use native.Mathlib.Omega.{arith}
use lib.Dec.{eqb}
use borrow.Author.Tests.{eqb-true, eq-eqb}
use Rattle.runs.proofs.Same.{both_true}
use Rattle.interval.specs.Line.{some_below}
use Rattle.interval.proofs.Lists.{none_of}
use Rattle.atc.specs.declared.types.Interface.{Interface}
use Rattle.atc.specs.declared.types.Interface.TheVariants.{Lines525, Lines625, HighDefinition}
use Rattle.atc.specs.Lines.{lacks_entry, is_impossible_line}
use Rattle.trips.proofs.Nineteen.{claims_a_line}
use Rattle.demands.specs.Table4.{Row, none, table4, entry_among, OfLines, ClaimsImpossibleLine}

-- "VITC on line N", "Repeated VITC on line (N+2)": each entry of the table is the line that its number stands for
abbrev stands : ℕ → ℕ → Bool
stands line entry = eqb entry none || eqb entry line

abbrev all_stand : List Row → Bool
all_stand [] = true
all_stand (r ∷ rows) =
    (stands r.number r.once525 && stands (r.number + 2) r.repeated525)
    && ((stands r.number r.once625 && stands (r.number + 2) r.repeated625) && all_stand rows)

pub entries_stand : all_stand table4 ≡ true
unfolding table4
entries_stand = refl

-- one of two tests holds and the other does not
abbrev unlike : Bool → Bool → Bool
unlike true b = not b
unlike false b = b

like : (a b : Bool) → unlike a b ≡ false → a ≡ b
like true true e = refl
like true false e = absurd (true≢false e)
like false b e = sym e

-- the table says of six bits something else than the ends of their columns
abbrev differs : Interface → ℕ → Bool
differs interface six = unlike (lacks_entry interface six) (eqb (entry_among interface six table4) none)

none_differs : (interface : Interface) → OfLines interface → some_below 64 (differs interface) ≡ false
unfolding lacks_entry entry_among table4 some_below
none_differs Lines525 lines = refl
none_differs Lines625 lines = refl
none_differs HighDefinition lines = elim lines [ ]

-- only the low six bits are looked at
low_six : (interface : Interface) (second : ℕ) → lacks_entry interface second ≡ lacks_entry interface (second % 64)
unfolding lacks_entry
low_six interface second =
    let b5 : second / 32 % 2 ≡ second % 64 / 32 % 2 = omega arith in
    let number : second % 32 ≡ second % 64 % 32 = omega arith in
    go interface b5 number
  where
    go : (face : Interface) → second / 32 % 2 ≡ second % 64 / 32 % 2 → second % 32 ≡ second % 64 % 32 → lacks_entry face second ≡ lacks_entry face (second % 64)
    go Lines525 b5 number = rw (b5, number)
    go Lines625 b5 number = rw (b5, number)
    go HighDefinition b5 number = refl

pub as_printed : (interface : Interface) → OfLines interface → (second : ℕ) → lacks_entry interface second ≡ eqb (entry_among interface (second % 64) table4) none
as_printed interface lines second =
    low_six interface second ∙ like _ _ (none_of (differs interface) 64 (second % 64) (omega arith) (none_differs interface lines))

of_lines : (interface : Interface) (second : ℕ) → lacks_entry interface second ≡ true → OfLines interface
unfolding lacks_entry
of_lines Lines525 second e = tt
of_lines Lines625 second e = tt
of_lines HighDefinition second e = absurd (true≢false (sym e))

module _ (interface : Interface) (type second : ℕ) where
  either : (type ≡ 1) ⊎ (type ≡ 2) → (eqb type 1 || eqb type 2) ≡ true
  either (inl one) = rw (eq-eqb type 1 one)
  either (inr two) = rw two

  -- 19 applies exactly where the request says
  pub impossible_exactly : (is_impossible_line interface type second ≡ true) ↔ ClaimsImpossibleLine interface type second
  impossible_exactly = (
    λ e.
        (let lacking = (both_true (eqb type 1 || eqb type 2) (lacks_entry interface second) e).1 in
        let lines = of_lines interface second lacking in
        (lines, claims_a_line interface type second e, eqb-true _ none (sym (as_printed interface lines second) ∙ lacking))),
    λ claims. rw (either claims.1, as_printed interface claims.0 second, claims.2),
  )

  -- and elsewhere it does not
  pub possible : (ClaimsImpossibleLine interface type second → ⊥) → is_impossible_line interface type second ≡ false
  possible not_claimed = go (is_impossible_line interface type second) refl
    where
      go : (t : Bool) → is_impossible_line interface type second ≡ t → t ≡ false
      go true e = absurd (not_claimed (impossible_exactly.0 e))
      go false e = refl
