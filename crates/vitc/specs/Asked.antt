-- What `information` asks of a line.
-- Assumes nothing.
use Rattle.std.specs.Prelude.{ℕ, ◌≡◌, List, length}
use Rattle.bits.specs.Bits.{AllBits}

-- a run of bits, so many of them
pub record BitRun (size : ℕ) (run : List ℕ) : Type 0 where
  pub long : length run ≡ size
  pub clean : AllBits run
