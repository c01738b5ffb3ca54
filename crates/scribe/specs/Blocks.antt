-- A run of bits, block by block: the line of each block's answer after the lines before it.
-- Assumes nothing.
use Rattle.std.specs.Prelude.{ℕ, ◌+◌, ◌%◌, ◌^◌, List, length}
use Rattle.register.specs.declared.types.Reader.{Reader}
use Rattle.reader.specs.declared.types.Blocked.{Blocked}
use Rattle.reader.specs.Blocks.{blocked_of}
use Rattle.following.specs.Reach.{fed, answers}
use Rattle.text.specs.Gathered.{place_after}
use Rattle.lines.specs.Lines.{line_of}
use Rattle.scribe.specs.declared.types.Block.{Block}
use Rattle.scribe.specs.Told.{lines_of}

-- the block that takes all that it can of the run
abbrev pub block_of : Reader → List ℕ → Blocked
block_of reader run = blocked_of reader (length run) run

-- "the bits so far", in a machine word
abbrev pub bits_after : Reader → ℕ → List ℕ → ℕ
bits_after reader bits run = (bits + (block_of reader run).taken) % 2 ^ 64

abbrev pub line_of_block : Reader → ℕ → List ℕ → List ℕ
line_of_block reader bits run = line_of (bits_after reader bits run) (block_of reader run).heard

unfoldable pub block_told : Reader → ℕ → List ℕ → List ℕ → ℕ → Block
block_told reader bits run out at =
    record {
      reader = (block_of reader run).reader;
      bits = bits_after reader bits run;
      taken = (block_of reader run).taken;
      at = place_after (line_of_block reader bits run) at out;
    }

-- all blocks of a run
unfoldable pub run_told : Reader → ℕ → List ℕ → Block
run_told reader bits run =
    record {
      reader = fed reader run;
      bits = (bits + length run) % 2 ^ 64;
      taken = length run;
      at = length (lines_of bits (answers reader run));
    }
