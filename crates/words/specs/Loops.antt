-- What holds at each turn of the loops, over plain values.
-- Assumes nothing.
use Rattle.std.specs.Prelude.{ℕ, ◌+◌, ◌-◌, ◌%◌, ◌<◌, ◌≤◌, ◌≡◌, List, ◌++◌, length, take, drop}
use Rattle.bits.specs.Bits.{to_bits}
use Rattle.words.specs.Words.{sum9, data_words}

-- summing: the sum so far and the words ahead make the whole
pub record Summing (words : List ℕ) (sum i : ℕ) : Type 0 where
  pub within : i ≤ length words
  pub small : sum < 512
  pub so_far : (sum + sum9 (drop i words)) % 512 ≡ sum9 words % 512

-- storing data words from the front: what is stored and what is left make the whole
pub record Storing (info carried size : ℕ) (run : List ℕ) (left bits i : ℕ) : Type 0 where
  pub within : i ≤ size
  pub long : length run ≡ size
  pub so_far : take i run ++ data_words (to_bits (size - i) bits) left ≡ data_words (to_bits size carried) info
