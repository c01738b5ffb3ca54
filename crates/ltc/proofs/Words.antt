-- A word has 80 elements, and is stored as its two parts.
-- Assumes nothing.
use Prim.Native.Nat.{ℕ, ◌≤◌}
use mathlib.Core.Path.{◌≡◌, ap, ◌∙◌}
use mathlib.Core.List.{List, [], ◌++◌, append-nil}
use native.Mathlib.Omega.{arith}
use lib.ListN.{length, take, drop, length-append, length-drop, drop_of_length-le}
use lib.Seq.{length-take-le, take_at, drop_at}
use borrow.Rule.Slice.PartMut.{mid_of, post_of, put_mid}
use Rattle.bits.specs.Bits.{to_bits}
use Rattle.bits.proofs.Bit.{length_to_bits}
use Rattle.record.specs.declared.types.Record.{Record}
use Rattle.polarity.specs.declared.types.Found.{Found}
use Rattle.polarity.specs.Word.{sync_word, word_with, word_of}

pub length_with : (info : ℕ) → length (word_with info) ≡ 80
unfolding sync_word
length_with info = length-append (to_bits 64 info) sync_word ∙ rw (length_to_bits 64 info)

pub word_length : (mode : ℕ) (r : Record) (make : Found) → length (word_of mode r make) ≡ 80
unfolding word_of
word_length mode r make = length_with _

-- the low 64 elements are stored, and then the sync word after them
module _ (info : ℕ) (word low high : List ℕ) (long : length word ≡ 80) (stored : low ≡ to_bits (length (mid_of 0 64 word)) info) where
  low_is : low ≡ to_bits 64 info
  low_is = stored ∙ ap (λ (k : ℕ). to_bits k info) (length-take-le 64 word (omega arith))

  after : List ℕ
  after = low ++ post_of 0 64 word

  low_length : length low ≡ 64
  low_length = ap length low_is ∙ length_to_bits 64 info

  rest_length : length (post_of 0 64 word) ≡ 16
  rest_length = length-drop 64 word ∙ omega arith

  pub both_stored : high ≡ to_bits (length (mid_of 64 16 (low ++ post_of 0 64 word))) 0xbffc → put_mid 64 16 (low ++ post_of 0 64 word) high ≡ word_with info
  unfolding sync_word to_bits
  both_stored e =
      let front : take 64 (low ++ post_of 0 64 word) ≡ low = take_at low (post_of 0 64 word) 64 low_length in
      let back : drop 64 (low ++ post_of 0 64 word) ≡ post_of 0 64 word = drop_at low (post_of 0 64 word) 64 low_length in
      let size : length (mid_of 64 16 (low ++ post_of 0 64 word)) ≡ 16 = rw back (length-take-le 16 (post_of 0 64 word) (omega (arith, rest_length))) in
      let sync : high ≡ sync_word = e ∙ ap (λ (k : ℕ). to_bits k 0xbffc) size in
      let few : length (post_of 0 64 word) ≤ 16 = omega (arith, rest_length) in
      let none : drop 16 (post_of 0 64 word) ≡ [] = drop_of_length-le (post_of 0 64 word) few in
      rw (front, back, none, sync, low_is) (ap (λ (l : List ℕ). to_bits 64 info ++ l) (append-nil sync_word))
