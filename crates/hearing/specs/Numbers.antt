-- The number of a way, where numbers are given.
-- Assumes nothing.
use Rattle.std.specs.Prelude.{ℕ}
use Rattle.hearing.specs.declared.types.Way.{Way}
use Rattle.hearing.specs.declared.types.Way.TheVariants.{Forward, Backward}

abbrev pub way_number : Way → ℕ
way_number Forward = 0
way_number Backward = 1
