-- "Counting at 24, 25 and 30 frames, with drop-frame at 30", and document 02, A4: "Pairs: 48, 50, 59.94 and 60", and A6: "72, 96, 100, 120 as 24x5, 120 as 30x4,
-- and 120 drop": the rows of the table of counting modes.
-- Assumes nothing.
use Rattle.std.specs.Prelude.{ℕ}
use Rattle.rates.specs.declared.types.Flag.{Flag}
use Rattle.rates.specs.declared.types.Flag.TheVariants.{No, Yes}

-- a mode and a drop flag that count
pub data CountingMode : ℕ → Flag → Type 0 where
  at24 : CountingMode 0 No
  at25 : CountingMode 1 No
  at30 : CountingMode 2 No
  at30drop : CountingMode 2 Yes
  at48 : CountingMode 3 No
  at50 : CountingMode 4 No
  at60 : CountingMode 5 No
  at60drop : CountingMode 5 Yes
  at72 : CountingMode 6 No
  at96 : CountingMode 7 No
  at100 : CountingMode 8 No
  at24x5 : CountingMode 9 No
  at30x4 : CountingMode 10 No
  at30x4drop : CountingMode 10 Yes
