-- `modes::table::is_high_rate` meets its contract: unknown to the lines, and counted.
-- Assumes nothing.
use mathlib.Core.Path.{◌≡◌}
use mathlib.Core.Bool.{Bool, not, ◌&&◌}
use Prim.Native.Nat.{ℕ}
use Rattle.modes.specs.Modes.{unknown, uncounted, high_rate}
use Rattle.modes.proofs.table.is_high_rate.Goals as goal

both : (mode : ℕ) (s t : Bool) → s ≡ unknown mode → t ≡ uncounted mode → (s && not t) ≡ high_rate mode
unfolding high_rate
both mode s t first second = rw (first, second)

pub returns : goal.returns
returns c = search both
