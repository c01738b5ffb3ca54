-- The ones of a remainder by 8: places of other remainders do not count, and every eighth does.
-- Assumes nothing.
use Prim.Native.Nat.{ℕ, zero, suc, ◌+◌, ◌%◌, ◌≤◌, ◌<◌}
use mathlib.Core.Path.{◌≡◌, refl, sym}
use mathlib.Core.Bool.{Bool, true, false, cond}
use mathlib.Core.List.{List, [], ◌∷◌, ◌++◌}
use native.Mathlib.Omega.{arith}
use native.Mathlib.Nat.{zero-add, add-zero}
use lib.Dec.{eqb}
use lib.ListN.{length, drop}
use borrow.Author.Tests.{eq-eqb, ne_eqb}
use Rattle.interval.specs.Line.{ones_from}

-- 1 for a one, and 0 for any other element
abbrev pub one_in : ℕ → ℕ
one_in element = cond (eqb element 1) 1 0

pub one_small : (element : ℕ) → one_in element ≤ 1
one_small element = go (eqb element 1)
  where
    go : (t : Bool) → cond t 1 0 ≤ 1
    go true = omega arith
    go false = omega arith

module _ (remainder : ℕ) where
  -- the counts of two runs side by side
  pub ones_append : (xs ys : List ℕ) (place : ℕ) → ones_from remainder place (xs ++ ys) ≡ ones_from remainder place xs + ones_from remainder (length xs + place) ys
  unfolding ones_from
  ones_append [] ys place = rw (zero-add place) (sym (zero-add (ones_from remainder place ys)))
  ones_append (x ∷ xs) ys place =
      let next : length xs + suc place ≡ suc (length xs) + place = omega arith in
      rw (ones_append xs ys (suc place), next) (omega arith)

  -- places of other remainders do not count
  pub skip : (many : ℕ) (xs : List ℕ) (place : ℕ) → ((i : ℕ) → i < many → (place + i) % 8 ≡ remainder → ⊥)
      → ones_from remainder place xs ≡ ones_from remainder (place + many) (drop many xs)
  unfolding ones_from
  skip zero xs place others = rw (add-zero place)
  skip (suc many) [] place others = refl
  skip (suc many) (x ∷ xs) place others =
      let here : eqb (place % 8) remainder ≡ false = ne_eqb (place % 8) remainder (λ e. others 0 (omega arith) (rw (add-zero place) e)) in
      let next : suc place + many ≡ place + suc many = omega arith in
      rw (here, zero-add (ones_from remainder (suc place) xs), ← next)
      (skip many xs (suc place) (λ i h e. others (suc i) (omega arith) (let same : suc place + i ≡ place + suc i = omega arith in rw same at e)))

  -- the element at a place of the remainder counts, and the next seven do not
  pub stride : (x : ℕ) (xs : List ℕ) (place : ℕ) → place % 8 ≡ remainder
      → ones_from remainder place (x ∷ xs) ≡ one_in x + ones_from remainder (place + 8) (drop 7 xs)
  unfolding ones_from
  stride x xs place at =
      let next : suc place + 7 ≡ place + 8 = omega arith in
      rw (eq-eqb (place % 8) remainder at, skip 7 xs (suc place) (λ i h e. omega arith), next)
