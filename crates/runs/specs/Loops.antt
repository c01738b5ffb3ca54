-- What holds at each turn of the two loops, over plain values.
-- Assumes nothing.
use Rattle.std.specs.Prelude.{ℕ, ◌-◌, ◌≤◌, ◌≡◌, false, List, ◌++◌, length, take}
use Rattle.bits.specs.Bits.{value, to_bits, some_above}

-- gathering from the end: the number is that of the elements behind those that are still to come
pub record Gathering (run : List ℕ) (number : ℕ) (rest : List ℕ) : Type 0 where
  pub behind : List ℕ
  pub whole : rest ++ behind ≡ run
  pub short : length run ≤ 64
  pub so_far : number ≡ value behind
  pub clean : some_above 1 behind ≡ false

-- scattering from the front: what is stored and what is left make the whole
pub record Scattering (number size : ℕ) (run : List ℕ) (left i : ℕ) : Type 0 where
  pub within : i ≤ size
  pub long : length run ≡ size
  pub so_far : take i run ++ to_bits (size - i) left ≡ to_bits size number
