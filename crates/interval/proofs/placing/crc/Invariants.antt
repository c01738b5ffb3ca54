-- `interval::placing::crc` meets its contract. At each turn the number is that of the bits from the i-th on.
-- Assumes nothing.
use Rattle.std.proofs.Common.{◌≤◌, take}
use Rattle.runs.specs.Loops.{Gathering}
use Rattle.interval.specs.Line.{crc_of}
use Rattle.interval.proofs.placing.crc.Given as goal

abbrev pub invariant-loop-i : goal.invariant-loop-i
invariant-loop-i l = (l.i ≤ 8) × Gathering (crc_of l.front) l.number (take l.i (crc_of l.front))
