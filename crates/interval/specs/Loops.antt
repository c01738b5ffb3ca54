-- What holds at each turn of the loop that writes groups, over plain values.
-- Assumes nothing.
use Rattle.std.specs.Prelude.{ℕ, ◌-◌, ◌*◌, ◌≤◌, ◌≡◌, List, ◌++◌, length, take}
use Rattle.interval.specs.Line.{groups}

-- writing groups of ten: what is stored and what is left make the whole
pub record Grouping (info : ℕ) (line : List ℕ) (left g : ℕ) : Type 0 where
  pub within : g ≤ 8
  pub long : length line ≡ 80
  pub so_far : take (10 * g) line ++ groups (8 - g) left ≡ groups 8 info
