-- Which way bits run; and where the sync word stands in a register, which is looked at before a word is read in it.
-- Assumes nothing.
use Rattle.std.specs.Prelude.{ℕ, Bool, true, false, ◌&&◌, ◌||◌, List, reverse, take, drop}
use Rattle.runs.specs.Run.{same}
use Rattle.polarity.specs.Word.{sync_word}
use Rattle.register.specs.declared.types.Reader.{Reader}
use Rattle.register.specs.declared.types.Ways.{Ways}
use Rattle.register.specs.declared.types.Ways.TheVariants.{ForwardOnly, Both}
use Rattle.register.specs.Held.{register}
use Rattle.hearing.specs.declared.types.Way.{Way}
use Rattle.hearing.specs.declared.types.Way.TheVariants.{Forward, Backward}

-- bits as they run: from the first to the last, or from the last to the first
abbrev pub running : Way → List ℕ → List ℕ
running Forward bits = bits
running Backward bits = reverse bits

-- is reverse allowed?
abbrev pub reverses : Ways → Bool
reverses ForwardOnly = false
reverses Both = true

-- the sync word stands in the register as it does in a word: at its end or, where reverse is allowed, turned round at its beginning
unfoldable pub synced : Reader → Bool
synced reader =
    same (drop 64 (register reader)) sync_word || (reverses reader.ways && same (take 16 (register reader)) (reverse sync_word))
