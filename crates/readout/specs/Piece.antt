-- What is told of a piece of the input. Which characters a read brings no contract can say; that the scribe and the lines are those of some characters, it can.
-- Assumes nothing.
use Rattle.std.specs.Prelude.{ℕ, ◌≡◌, List}
use Rattle.runs.specs.Run.{placed}
use Rattle.scribe.specs.declared.types.Scribe.{Scribe}
use Rattle.scribe.specs.declared.types.Telling.{Telling}
use Rattle.scribe.specs.Told.{text_of, telling_of}

-- some characters came, or none; the scribe is the one that they bring about, and their lines stand at the start of the lent run
pub record PieceTold (before : Scribe) (out : List ℕ) (telling : Telling) (out_left : List ℕ) : Type 0 where
  pub characters : List ℕ
  pub told : telling ≡ telling_of before characters
  pub stands : out_left ≡ placed 0 (text_of before characters) out
