-- The parts of a word that is made of 64 bits; it is read as its information bits are heard.
-- Assumes nothing.
use Prim.Native.Nat.{ℕ, ◌^◌, ◌<◌}
use mathlib.Core.Path.{◌≡◌, refl}
use mathlib.Core.Bool.{true, false}
use lib.Dec.{eqb}
use lib.ListN.{length, drop}
use lib.Seq.{drop_at}
use borrow.Author.Tests.{eq-eqb}
use Rattle.bits.specs.Bits.{to_bits, some_above}
use Rattle.bits.proofs.Bit.{bits_of_number, length_to_bits, within_append}
use Rattle.runs.specs.Run.{same}
use Rattle.runs.proofs.Same.{same_itself}
use Rattle.polarity.specs.Word.{sync_word, word_with}
use Rattle.polarity.specs.Heard.{heard_of}
use Rattle.polarity.proofs.Zeros.{info_of_word}
use Rattle.ltc.specs.Calls.{read_of}
use Rattle.ltc.proofs.Words.{length_with}

sync_clean : some_above 1 sync_word ≡ false
unfolding some_above sync_word
sync_clean = refl

module _ (info : ℕ) (low : info < 2 ^ 64) where
  sync_of_word : drop 64 (word_with info) ≡ sync_word
  sync_of_word = drop_at (to_bits 64 info) sync_word 64 (length_to_bits 64 info)

  -- a word is read as its information bits are heard
  pub read_is_heard : (mode : ℕ) → read_of mode (word_with info) ≡ heard_of mode info
  unfolding read_of heard_of
  read_is_heard mode =
      let long : eqb (length (word_with info)) 80 ≡ true = eq-eqb _ 80 (length_with info) in
      let clean : some_above 1 (word_with info) ≡ false = within_append 1 (to_bits 64 info) sync_word (bits_of_number 64 info) sync_clean in
      let seen : same (drop 64 (word_with info)) sync_word ≡ true = rw sync_of_word (same_itself sync_word) in
      rw (long, clean, seen, info_of_word info low)
