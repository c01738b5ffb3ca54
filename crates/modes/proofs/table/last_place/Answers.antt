-- `modes::table::last_place` meets its contract: the rows of both tables, and past them what is said there.
-- Assumes nothing.
use mathlib.Core.Path.{◌≡◌}
use mathlib.Core.Bool.{true, false}
use Prim.Native.Nat.{ℕ, ◌+◌, ◌<◌, ◌≤◌}
use borrow.Author.Tests.{lt-ltb, le-ltb, eq-eqb, ne_eqb}
use Rattle.modes.specs.Modes.{pictures_at}
use Rattle.modes.proofs.InCode.{by_four, row_by_row}
use Rattle.modes.proofs.table.last_place.Goals as goal

module _ (mode : ℕ) where
  alone : mode < 3 → 0 + 1 ≡ pictures_at mode
  alone few = rw (lt-ltb mode 3 few) at (row_by_row mode).1

  module _ (more : 3 ≤ mode) where
    at_72 : mode ≡ 6 → 2 + 1 ≡ pictures_at mode
    at_72 e = rw (le-ltb mode 3 more, eq-eqb mode 6 e) at (row_by_row mode).1

    module _ (other : mode ≡ 6 → ⊥) where
      by_four_lem : by_four mode ≡ true → 3 + 1 ≡ pictures_at mode
      by_four_lem t = rw (le-ltb mode 3 more, ne_eqb mode 6 other, t) at (row_by_row mode).1

      module _ (apart : by_four mode ≡ false) where
        by_five : mode ≡ 9 → 4 + 1 ≡ pictures_at mode
        by_five e = rw (le-ltb mode 3 more, ne_eqb mode 6 other, apart, eq-eqb mode 9 e) at (row_by_row mode).1

        by_two : (mode ≡ 9 → ⊥) → 1 + 1 ≡ pictures_at mode
        by_two differs = rw (le-ltb mode 3 more, ne_eqb mode 6 other, apart, ne_eqb mode 9 differs) at (row_by_row mode).1

pub returns-then-mode-lt-FIRST_OF_PAIRS : goal.returns-then-mode-lt-FIRST_OF_PAIRS
returns-then-mode-lt-FIRST_OF_PAIRS c = search alone

pub returns-then-mode-eq6 : goal.returns-then-mode-eq6
returns-then-mode-eq6 c = search at_72

pub returns-then-mode : goal.returns-then-mode
returns-then-mode c = search by_four_lem

pub returns-then-mode-eq9 : goal.returns-then-mode-eq9
returns-then-mode-eq9 c = search by_five

pub returns : goal.returns
returns c = search by_two
