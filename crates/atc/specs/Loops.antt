-- What holds at each turn of the loops, over plain values.
-- Assumes nothing.
use Rattle.std.specs.Prelude.{ℕ, ◌≤◌, ◌≡◌, List, length, drop}
use Rattle.words.specs.Words.{gathered}

-- gathering from the end: the number is that of the words from the i-th on
pub record Gathering (part : ℕ → ℕ) (base : ℕ) (words : List ℕ) (number i : ℕ) : Type 0 where
  pub within : i ≤ length words
  pub so_far : number ≡ gathered part base (drop i words)
