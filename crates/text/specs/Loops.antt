-- What holds of a text that is laid into a run element by element, over plain values.
-- Assumes nothing.
use Rattle.std.specs.Prelude.{ℕ, ◌+◌, ◌≤◌, ◌≡◌, List, length, take}
use Rattle.runs.specs.Run.{placed}

-- laying: the first i elements of the text are in their places
pub record Laying (text whole : List ℕ) (at : ℕ) (out : List ℕ) (i : ℕ) : Type 0 where
  pub within : i ≤ length text
  pub room : at + length text ≤ length whole
  pub so_far : out ≡ placed at (take i text) whole
