-- The number of what was found, where numbers are given.
-- Assumes nothing.
use Rattle.std.specs.Prelude.{ℕ}
use Rattle.polarity.specs.declared.types.Found.{Found}
use Rattle.polarity.specs.declared.types.Found.TheVariants.{Corrected, Uncorrected}

abbrev pub found_number : Found → ℕ
found_number Corrected = 0
found_number Uncorrected = 1
