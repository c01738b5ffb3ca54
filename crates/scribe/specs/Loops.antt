-- What holds where a call is made, and at each turn of the loop, over plain values.
-- Assumes nothing.
use Rattle.std.specs.Prelude.{◌≡◌, ℕ, ◌+◌, ◌*◌, ◌%◌, ◌^◌, ◌≤◌, List, ◌++◌, length}
use Rattle.bits.specs.Bits.{AllBits}
use Rattle.runs.specs.Run.{placed}
use Rattle.register.specs.declared.types.Reader.{Reader}
use Rattle.following.specs.Reach.{fed, answers}
use Rattle.reader.specs.Feeding.{Passing}
use Rattle.scribe.specs.Told.{lines_of}

-- a sound reader, and room for a line for each element
pub record Ready (reader : Reader) (run out : List ℕ) : Type 0 where
  pub sound : Passing reader
  pub room : 64 * length run ≤ length out

-- telling: the lines so far stand at the start, and what the rest of the run still brings makes the whole
pub record Following (first : Reader) (bits : ℕ) (run whole : List ℕ) (now : Reader) (so_far at : ℕ) (rest out : List ℕ) : Type 0 where
  pub done : ℕ
  pub parted : done + length rest ≡ length run
  pub clean : AllBits rest
  pub ready : Ready now run whole
  pub few : at ≤ 64 * done
  pub text : List ℕ
  pub long : at ≡ length text
  pub stands : out ≡ placed 0 text whole
  pub counts : so_far ≡ (bits + done) % 2 ^ 64
  pub told : lines_of bits (answers first run) ≡ text ++ lines_of so_far (answers now rest)
  pub onward : fed first run ≡ fed now rest
