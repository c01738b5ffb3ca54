-- The number of the ways, where numbers are given.
-- Assumes nothing.
use Rattle.std.specs.Prelude.{ℕ}
use Rattle.register.specs.declared.types.Ways.{Ways}
use Rattle.register.specs.declared.types.Ways.TheVariants.{ForwardOnly, Both}

abbrev pub ways_number : Ways → ℕ
ways_number ForwardOnly = 0
ways_number Both = 1
