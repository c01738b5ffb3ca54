-- Facts over all modes: a computed test over the rows of the table, carried to each mode; and which modes have which row.
-- Assumes nothing.
use Prim.Native.Nat.{ℕ, zero, suc, ◌+◌, ◌<◌, ◌≤◌}
use mathlib.Core.Path.{◌≡◌, refl, sym}
use mathlib.Core.Bool.{Bool, true, false, not, ◌&&◌, true≢false}
use mathlib.Core.List.{List, [], ◌∷◌, ◌++◌}
use mathlib.Core.Logic.{◌↔◌}
use native.Mathlib.Omega.{arith}
use lib.Dec.{ltb, leb}
use lib.ListN.{drop}
use borrow.Author.Tests.{ltb-true, leb-true, leb-false, le-leb, lt-leb}
use Rattle.modes.specs.Modes.{Row, table, high_rates, row_of, unknown, uncounted, high_rate, rate_at, pictures_at}

-- a test that holds of each row
every_row : (Row → Bool) → List Row → Bool
every_row test [] = true
every_row test (row ∷ rows) = test row && every_row test rows

-- and of what is said past the last, holds of each mode's row
at_row : (test : Row → Bool) (rows : List Row) → every_row test rows ≡ true → (n : ℕ) → test (row_of [] 0) ≡ true → test (row_of rows n) ≡ true
unfolding every_row
at_row test [] all n past = past
at_row test (row ∷ rows) all n past = go (test row) refl all n (λ rest m. at_row test rows rest m past)
  where
    go : (t : Bool) → test row ≡ t → (t && every_row test rows) ≡ true → (n : ℕ)
        → (every_row test rows ≡ true → (m : ℕ) → test (row_of rows m) ≡ true) → test (row_of (row ∷ rows) n) ≡ true
    go true t rest zero further = t
    go true t rest (suc n) further = further rest n
    go false t rest n further = absurd (true≢false (sym rest))

-- some picture has each address
pub some_picture : (mode : ℕ) → 0 < pictures_at mode
unfolding pictures_at every_row
some_picture mode = ltb-true 0 _ (at_row (λ row. ltb 0 row.pictures) (table ++ high_rates) refl mode refl)

-- and none has more than three sub-frame bits can tell apart
pub few_pictures : (mode : ℕ) → pictures_at mode ≤ 8
unfolding pictures_at every_row
few_pictures mode = leb-true _ 8 (at_row (λ row. leb row.pictures 8) (table ++ high_rates) refl mode refl)

-- "in modes 0 to 2" a picture has its address to itself; "in modes 3 to 5" two share one; and "in modes 3 to 10", and in what is said past the tables, several do
pub alone : (mode : ℕ) → mode < 3 → pictures_at mode ≡ 1
unfolding pictures_at
alone zero few = refl
alone (suc zero) few = refl
alone (suc (suc zero)) few = refl
alone (suc (suc (suc mode))) few = absurd (omega arith)

pub pairs : (mode : ℕ) → 3 ≤ mode → mode ≤ 5 → pictures_at mode ≡ 2
unfolding pictures_at
pairs zero more few = absurd (omega arith)
pairs (suc zero) more few = absurd (omega arith)
pairs (suc (suc zero)) more few = absurd (omega arith)
pairs (suc (suc (suc zero))) more few = refl
pairs (suc (suc (suc (suc zero)))) more few = refl
pairs (suc (suc (suc (suc (suc zero))))) more few = refl
pairs (suc (suc (suc (suc (suc (suc mode)))))) more few = absurd (omega arith)

pub several_share : (mode : ℕ) → 3 ≤ mode → 1 < pictures_at mode
unfolding pictures_at every_row
several_share zero more = absurd (omega arith)
several_share (suc zero) more = absurd (omega arith)
several_share (suc (suc zero)) more = absurd (omega arith)
several_share (suc (suc (suc mode))) more = ltb-true 1 _ (at_row (λ row. ltb 1 row.pictures) (drop 3 (table ++ high_rates)) refl mode refl)

-- "with the flag places and drop rules of modes 0, 1 and 2": these go by the rate, and modes 3, 4 and 5 have that of 0, 1 and 2
pub same_rate : (mode : ℕ) → mode < 3 → rate_at (3 + mode) ≡ rate_at mode
unfolding rate_at
same_rate zero few = refl
same_rate (suc zero) few = refl
same_rate (suc (suc zero)) few = refl
same_rate (suc (suc (suc mode))) few = absurd (omega arith)

-- a mode of a high frame rate is counted, and it is one of 6 to 10
first_only : (s t : Bool) → (s && not t) ≡ true → (s ≡ true) × (t ≡ false)
first_only true true e = absurd (true≢false (sym e))
first_only true false e = (refl, refl)
first_only false t e = absurd (true≢false (sym e))

pub high_counted : (mode : ℕ) → high_rate mode ≡ true → uncounted mode ≡ false
unfolding high_rate
high_counted mode e = (first_only (unknown mode) (uncounted mode) e).1

pub high_exactly : (mode : ℕ) → (high_rate mode ≡ true) ↔ ((6 ≤ mode) × (mode ≤ 10))
unfolding high_rate unknown uncounted
high_exactly mode = (
  λ e. (let both = first_only (leb 6 mode) (leb 11 mode) e in
      let few = leb-false 11 mode both.1 in (leb-true 6 mode both.0, omega arith)),
  λ within. (let more = le-leb 6 mode within.0 in
      let few : leb 11 mode ≡ false = lt-leb 11 mode (omega arith) in
      rw (more, few)),
)

-- and to a mode of no high frame rate 2 is given everywhere or nowhere
pub low_known : (mode : ℕ) → high_rate mode ≡ false → unknown mode ≡ uncounted mode
unfolding high_rate unknown uncounted
low_known mode e = go (leb 6 mode) refl (leb 11 mode) refl e
  where
    go : (s : Bool) → leb 6 mode ≡ s → (t : Bool) → leb 11 mode ≡ t → (s && not t) ≡ false → s ≡ t
    go true s true t e = refl
    go true s false t e = absurd (true≢false e)
    go false s true t e = let few = leb-false 6 mode s in let more = leb-true 11 mode t in absurd (omega arith)
    go false s false t e = refl
