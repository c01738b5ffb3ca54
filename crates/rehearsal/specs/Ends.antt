-- How far the reading goes, where the output takes each answer.
-- Assumes nothing.
use Rattle.std.specs.Prelude.{◌≡◌}
use Rattle.rehearsal.specs.declared.types.End.{End}
use Rattle.rehearsal.specs.declared.types.End.TheVariants.{Input, Pieces}

-- to a read that brought nothing, or so many pieces that no number stands for more
abbrev pub IsLast : End → Type 0
IsLast (Input came) = came ≡ 0
IsLast (Pieces n) = n ≡ 18446744073709551615
