-- `words::making::data_word` meets its contract: the count of ones of the byte is that of its bit list.
-- Assumes nothing.
use mathlib.Core.Path.{◌≡◌}
use Prim.Native.Nat.{ℕ, ◌+◌, ◌*◌, ◌%◌}
use lib.Count.{ones}
use Rattle.bits.proofs.Count.{low_ones}
use Rattle.words.specs.Words.{with_opposite, data_word}
use Rattle.words.proofs.making.data_word.Goals as goal

made :
    (nibble bit result : ℕ) → let byte = 8 * bit + 16 * nibble in
    result ≡ with_opposite (byte + 256 * (ones (byte % 256) % 2)) → result ≡ data_word nibble bit
unfolding data_word
made nibble bit result e = rw (← low_ones 8 (8 * bit + 16 * nibble)) e

pub returns : goal.returns
returns c = search made
