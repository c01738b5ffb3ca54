-- The two parts of 80 elements, and which sixteen are the sync word.
-- Assumes nothing.
use Prim.Native.Nat.{ℕ}
use mathlib.Core.Path.{◌≡◌, refl, sym, ap, ap₂, ◌∙◌}
use mathlib.Core.Bool.{false, ◌||◌}
use mathlib.Core.List.{List, ◌++◌}
use native.Mathlib.Omega.{arith}
use lib.ListN.{length, take, drop, length-drop, take-append-drop}
use lib.Seq.{length-take-le}
use Rattle.bits.specs.Bits.{value, to_bits, some_above}
use Rattle.bits.proofs.Bit.{above_append}
use Rattle.bits.proofs.Inverse.{to_bits_value}
use Rattle.runs.specs.Run.{same}
use Rattle.runs.proofs.Same.{not_same}
use Rattle.polarity.specs.Word.{sync_word, word_with, info_in}

module _ (word : List ℕ) (long : length word ≡ 80) where
  -- the two parts of a word
  pub parts : take 64 word ++ drop 64 word ≡ word
  parts = take-append-drop 64 word

  pub low_length : length (take 64 word) ≡ 64
  low_length = length-take-le 64 word (omega arith)

  pub high_length : length (drop 64 word) ≡ 16
  high_length = length-drop 64 word ∙ omega arith

  -- an element above 1 is in one part or in the other
  pub above_in_parts : some_above 1 word ≡ (some_above 1 (take 64 word) || some_above 1 (drop 64 word))
  above_in_parts = ap (some_above 1) (sym parts) ∙ above_append 1 (take 64 word) (drop 64 word)

  module _ (low : some_above 1 (take 64 word) ≡ false) (high : some_above 1 (drop 64 word) ≡ false) where
    -- sixteen bits are the sync word exactly where they stand for its number
    pub sync_by_number : value (drop 64 word) ≡ 0xbffc → drop 64 word ≡ sync_word
    unfolding sync_word to_bits
    sync_by_number e = sym (to_bits_value (drop 64 word) high) ∙ rw (high_length, e)

    pub other_sync : (value (drop 64 word) ≡ 0xbffc → ⊥) → same (drop 64 word) sync_word ≡ false
    unfolding value sync_word
    other_sync other = not_same (drop 64 word) sync_word (λ e. other (ap value e ∙ of_the_sync))
      where
        of_the_sync : value sync_word ≡ 0xbffc
        of_the_sync = refl

    pub word_is : value (drop 64 word) ≡ 0xbffc → word ≡ word_with (info_in word)
    word_is e =
        let info : take 64 word ≡ to_bits 64 (info_in word) = rw low_length at (sym (to_bits_value (take 64 word) low)) in
        sym parts ∙ ap₂ (λ (xs ys : List ℕ). xs ++ ys) info (sync_by_number e)
