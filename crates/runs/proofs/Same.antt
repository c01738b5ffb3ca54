-- The test of two runs for the same elements, and what gathering tells of a run.
-- Assumes nothing.
use Prim.Native.Nat.{ℕ, ◌≤◌}
use mathlib.Core.Path.{◌≡◌, refl, ap₂}
use mathlib.Core.Bool.{Bool, true, false, ◌&&◌, cond, false≢true}
use mathlib.Core.List.{List, [], ◌∷◌}
use lib.Dec.{ltb, eqb}
use lib.ListN.{length}
use borrow.Author.Tests.{eq-eqb, eqb-true, le-ltb}
use Rattle.bits.specs.Bits.{value, some_above}
use Rattle.std.proofs.Common.{Ok, Err}
use Rattle.runs.specs.declared.types.NoNumber.TheVariants.{TooLong, NoBit}
use Rattle.runs.specs.Gather.{gathered_of}
use Rattle.runs.specs.Run.{same}

pub both_true : (s t : Bool) → (s && t) ≡ true → (s ≡ true) × (t ≡ true)
both_true true t e = (refl, e)
both_true false t e = absurd (false≢true e)

pub same_itself : (xs : List ℕ) → same xs xs ≡ true
unfolding same
same_itself [] = refl
same_itself (x ∷ xs) = rw (eq-eqb x x refl, same_itself xs)

pub same_elements : (xs ys : List ℕ) → same xs ys ≡ true → xs ≡ ys
unfolding same
same_elements [] [] e = refl
same_elements [] (y ∷ ys) e = absurd (false≢true e)
same_elements (x ∷ xs) [] e = absurd (false≢true e)
same_elements (x ∷ xs) (y ∷ ys) e =
    let parts = both_true (eqb x y) (same xs ys) e in
    ap₂ (λ (z : ℕ) (zs : List ℕ). z ∷ zs) (eqb-true x y parts.0) (same_elements xs ys parts.1)

-- runs that are not the same test so
pub not_same : (xs ys : List ℕ) → (xs ≡ ys → ⊥) → same xs ys ≡ false
not_same xs ys other = go (same xs ys) refl
  where
    go : (t : Bool) → same xs ys ≡ t → same xs ys ≡ false
    go true e = absurd (other (same_elements xs ys e))
    go false e = e

-- a number that was gathered is the run's, all of whose elements are bits
pub gathered_is : (run : List ℕ) (n : ℕ) → gathered_of run ≡ Ok n → (some_above 1 run ≡ false) × (n ≡ value run)
unfolding gathered_of
gathered_is run n e = go (ltb 64 (length run)) (some_above 1 run) e
  where
    go : (long high : Bool) → cond long (Err TooLong) (cond high (Err NoBit) (Ok (value run))) ≡ Ok n → (high ≡ false) × (n ≡ value run)
    go true high is = (cc, cc)
    go false true is = (cc, cc)
    go false false is = (refl, cc)

-- at most 64 elements that make no number have one above 1
pub not_gathered : (run : List ℕ) → length run ≤ 64 → ((n : ℕ) → gathered_of run ≡ Ok n → ⊥) → some_above 1 run ≡ true
unfolding gathered_of
not_gathered run short none = go (some_above 1 run) refl
  where
    go : (t : Bool) → some_above 1 run ≡ t → some_above 1 run ≡ true
    go true t = t
    go false t = absurd (none (value run) (rw (le-ltb 64 (length run) short, t)))
