-- The zeros of a word, by the language's count of ones over its 64 information bits: the sync word has three more. And those bits of the word.
-- Assumes nothing.
use Prim.Native.Nat.{ℕ, ◌-◌, ◌%◌, ◌^◌, ◌<◌, ◌≤◌}
use mathlib.Core.Path.{◌≡◌, ap, ◌∙◌}
use native.Mathlib.Omega.{arith}
use lib.Dec.{eqb}
use lib.Count.{ones as counted, ones-le}
use lib.Seq.{take_at}
use Rattle.bits.specs.Bits.{value, to_bits, how_many, zeros_in}
use Rattle.bits.proofs.Bit.{length_to_bits}
use Rattle.bits.proofs.Count.{count_zeros, how_many_append}
use Rattle.bits.proofs.Inverse.{value_to_bits}
use Rattle.polarity.specs.Word.{sync_word, word_with, info_in, odd_zeros}

pub word_zeros : (info : ℕ) → info < 2 ^ 64 → zeros_in (word_with info) ≡ 67 - counted info
unfolding sync_word how_many
word_zeros info h =
    let own = count_zeros 64 info h in
    how_many_append 0 (to_bits 64 info) sync_word ∙ omega arith

pub odd_by_count : (info : ℕ) → info < 2 ^ 64 → eqb ((67 - counted info) % 2) 1 ≡ odd_zeros (word_with info)
unfolding odd_zeros
odd_by_count info h = rw (word_zeros info h)

pub few_ones : (info : ℕ) → info < 2 ^ 64 → counted info ≤ 64
few_ones info h = ones-le 64 info h

-- the information bits of the word that is made of them
pub info_of_word : (info : ℕ) → info < 2 ^ 64 → info_in (word_with info) ≡ info
info_of_word info h = ap value (take_at (to_bits 64 info) sync_word 64 (length_to_bits 64 info)) ∙ value_to_bits 64 info h
