-- "FACE is 0 for an interface of 525 lines, 1 for one of 625, 2 for high definition".
-- Assumes nothing.
use Rattle.std.specs.Prelude.{ℕ, ◌==◌, if◌then◌else◌, Option, Some, None}
use Rattle.atc.specs.declared.types.Interface.{Interface}
use Rattle.atc.specs.declared.types.Interface.TheVariants.{Lines525, Lines625, HighDefinition}

-- the interface that a number names, if it names one
abbrev pub face_of : ℕ → Option Interface
face_of number = (if number == 0 then Some Lines525 else (if number == 1 then Some Lines625 else (if number == 2 then Some HighDefinition else None)))
