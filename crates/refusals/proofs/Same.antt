-- Two refusals are the same where their numbers are: no two of the table share a number.
-- Assumes nothing.
use Prim.Native.Nat.{ℕ}
use mathlib.Core.Path.{◌≡◌, refl, sym, ap, ◌∙◌}
use mathlib.Core.Bool.{true, false, cond}
use mathlib.Core.List.{List, [], ◌∷◌}
use native.Mathlib.Omega.{arith}
use lib.Dec.{eqb}
use borrow.Author.Tests.{eqb-true, eqb-false, eq-eqb, ne_eqb}
use Rattle.refusals.specs.declared.types.Refusal.{Refusal}
use Rattle.refusals.specs.declared.types.Refusal.TheVariants.{WrongLength, UnknownMode, ElementTooHigh, WrongSync, WrongCheck, LowBitsSet, UnknownType, OutsideTheClock, SkippedAddress, UnusedBitSet, MarkSet, NoRoom, StateNotReached, NumberPastTheDay, ImpossibleLine, MisnamedMode}
use Rattle.refusals.specs.Table.{number, same_refusal, the_order}

-- the first refusal of a list that has a number
numbered : ℕ → List Refusal → Refusal
numbered n [] = WrongLength
numbered n (r ∷ order) = cond (eqb n (number r)) r (numbered n order)

-- each refusal of the table is found by its number
found_by_number : (r : Refusal) → numbered (number r) the_order ≡ r
unfolding numbered
found_by_number WrongLength = refl
found_by_number UnknownMode = refl
found_by_number ElementTooHigh = refl
found_by_number WrongSync = refl
found_by_number WrongCheck = refl
found_by_number LowBitsSet = refl
found_by_number UnknownType = refl
found_by_number OutsideTheClock = refl
found_by_number SkippedAddress = refl
found_by_number UnusedBitSet = refl
found_by_number MarkSet = refl
found_by_number NoRoom = refl
found_by_number StateNotReached = refl
found_by_number NumberPastTheDay = refl
found_by_number ImpossibleLine = refl
found_by_number MisnamedMode = refl

pub number_of_one : (one other : Refusal) → number one ≡ number other → one ≡ other
number_of_one one other e = sym (found_by_number one) ∙ ap (λ (n : ℕ). numbered n the_order) e ∙ found_by_number other

pub same-true : (one other : Refusal) → same_refusal one other ≡ true → one ≡ other
same-true one other e = number_of_one one other (eqb-true (number one) (number other) e)

pub same-false : (one other : Refusal) → same_refusal one other ≡ false → (one ≡ other → ⊥)
same-false one other e same = eqb-false (number one) (number other) e (ap number same)

pub eq-same : (one other : Refusal) → one ≡ other → same_refusal one other ≡ true
eq-same one other e = eq-eqb (number one) (number other) (ap number e)

pub ne-same : (one other : Refusal) → (one ≡ other → ⊥) → same_refusal one other ≡ false
ne-same one other apart = ne_eqb (number one) (number other) (λ e. apart (number_of_one one other e))

-- no refusal has the number 0
pub some_number : (r : Refusal) → number r ≡ 0 → ⊥
some_number WrongLength e = absurd (omega arith)
some_number UnknownMode e = absurd (omega arith)
some_number ElementTooHigh e = absurd (omega arith)
some_number WrongSync e = absurd (omega arith)
some_number WrongCheck e = absurd (omega arith)
some_number LowBitsSet e = absurd (omega arith)
some_number UnknownType e = absurd (omega arith)
some_number OutsideTheClock e = absurd (omega arith)
some_number SkippedAddress e = absurd (omega arith)
some_number UnusedBitSet e = absurd (omega arith)
some_number MarkSet e = absurd (omega arith)
some_number NoRoom e = absurd (omega arith)
some_number StateNotReached e = absurd (omega arith)
some_number NumberPastTheDay e = absurd (omega arith)
some_number ImpossibleLine e = absurd (omega arith)
some_number MisnamedMode e = absurd (omega arith)
