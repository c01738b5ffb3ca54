-- Data words: what is written into one is read from it again, and one that is not refused is written so.
-- Assumes nothing.
use Prim.Native.Nat.{ℕ, zero, suc, ◌+◌, ◌-◌, ◌*◌, ◌/◌, ◌%◌, ◌^◌, ◌<◌, ◌≤◌}
use mathlib.Core.Path.{◌≡◌, refl, sym, ap, ◌∙◌}
use mathlib.Core.Bool.{false, not}
use mathlib.Core.List.{List, [], ◌∷◌, map}
use native.Mathlib.Nat.{pow-suc}
use native.Mathlib.Omega.{arith}
use lib.Arith.{lt-one}
use lib.Dec.{eqb}
use lib.ListN.{length}
use borrow.Author.Tests.{eq-eqb, ne_eqb, eqb-true, eqb-false, not-false}
use Rattle.refusals.proofs.Answered.{neither}
use Rattle.bits.specs.Bits.{value, to_bits, ones_in, some_above, AllBits}
use Rattle.bits.proofs.Bit.{head_within, tail_within, within_cons}
use Rattle.bits.proofs.Joined.{one_more_bit}
use Rattle.bits.proofs.Count.{evened}
use Rattle.bits.proofs.Inverse.{low_bits}
use Rattle.words.specs.Words.{with_opposite, data_word, even_bit, wrong_word, low_set, some_word, data_words, gathered, nibble_in, bit_in, info_in, byte_in}

-- b0 to b8 are b0 to b7 and b8
nine_of : (word : ℕ) → to_bits 9 word ≡ to_bits 9 (word % 256 + 256 * (word / 256 % 2))
nine_of word =
    let low : word % 512 ≡ word % 256 + 256 * (word / 256 % 2) = omega arith in
    sym (low_bits 9 word) ∙ ap (to_bits 9) low

-- the count of ones in b0 to b8 is even exactly where b8 is the one that makes it so
even_exactly : (word : ℕ) → ones_in (to_bits 9 word) % 2 ≡ ones_in (to_bits 9 (word % 256 + 256 * (word / 256 % 2))) % 2
even_exactly word = ap (λ (bits : List ℕ). ones_in bits % 2) (nine_of word)

module _ (word : ℕ) where
  b8_made : word / 256 % 2 ≡ even_bit (word % 256) → ones_in (to_bits 9 word) % 2 ≡ 0
  b8_made e =
      even_exactly word
      ∙ ap (λ (bits : List ℕ). ones_in bits % 2) (one_more_bit 8 (word % 256) (word / 256 % 2) (omega arith) (omega arith))
      ∙ (evened (to_bits 8 (word % 256)) (word / 256 % 2) (omega arith)).1 e

  b8_found : ones_in (to_bits 9 word) % 2 ≡ 0 → word / 256 % 2 ≡ even_bit (word % 256)
  b8_found even =
      (evened (to_bits 8 (word % 256)) (word / 256 % 2) (omega arith)).0
      (ap (λ (bits : List ℕ). ones_in bits % 2) (sym (one_more_bit 8 (word % 256) (word / 256 % 2) (omega arith) (omega arith)))
      ∙ sym (even_exactly word) ∙ even)

-- nine bits and the opposite of b8, by their parts
record Parts (byte b8 word : ℕ) : Type 0 where
  low : word % 256 ≡ byte
  eighth : word / 256 % 2 ≡ b8
  ninth : word / 512 ≡ 1 - b8

parts : (byte b8 : ℕ) → byte < 256 → b8 < 2 → Parts byte b8 (with_opposite (byte + 256 * b8))
parts byte zero h b = record { low = omega arith; eighth = omega arith; ninth = omega arith }
parts byte (suc zero) h b = record { low = omega arith; eighth = omega arith; ninth = omega arith }
parts byte (suc (suc n)) h b = absurd (omega arith)

-- of two bits that differ one is the other's opposite
other_bit : (a b : ℕ) → a < 2 → b < 2 → (a ≡ b → ⊥) → a ≡ 1 - b
other_bit zero zero l m apart = absurd (apart refl)
other_bit zero (suc zero) l m apart = refl
other_bit zero (suc (suc b)) l m apart = absurd (omega arith)
other_bit (suc zero) zero l m apart = refl
other_bit (suc zero) (suc zero) l m apart = absurd (apart refl)
other_bit (suc zero) (suc (suc b)) l m apart = absurd (omega arith)
other_bit (suc (suc a)) b l m apart = absurd (omega arith)

whole_again : (word b8 : ℕ) → word ≤ 1023 → word / 256 % 2 ≡ b8 → (word / 512 % 2 ≡ b8 → ⊥) → with_opposite (word % 256 + 256 * b8) ≡ word
whole_again word b8 small e apart =
    let top : (word % 256 + 256 * b8) / 256 ≡ b8 = omega arith in
    let all : word ≡ word % 256 + 256 * (word / 256 % 2) + 512 * (word / 512) = omega arith in
    let one : word / 512 % 2 ≡ word / 512 = omega arith in
    let ninth : word / 512 ≡ 1 - b8 = other_bit (word / 512) b8 (omega arith) (omega arith) (λ same. apart (one ∙ same)) in
    rw top (omega (arith, all, ninth))

-- what is written into a data word
pub record Made (nibble bit word : ℕ) : Type 0 where
  pub small : word ≤ 1023
  pub nibble_again : nibble_in word ≡ nibble
  pub bit_again : bit_in word ≡ bit
  pub right : wrong_word word ≡ false
  pub low_clear : low_set word ≡ false

made_of : (nibble bit b8 word : ℕ) → nibble < 16 → bit < 2 → b8 < 2 → b8 ≡ even_bit (8 * bit + 16 * nibble) → Parts (8 * bit + 16 * nibble) b8 word → Made nibble bit word
made_of nibble bit b8 word n b e is p =
    let apart : word / 512 % 2 ≡ word / 256 % 2 → ⊥ = λ same. omega (arith, p.eighth, p.ninth) in
    let count : ones_in (to_bits 9 word) % 2 ≡ 0 = b8_made word (p.eighth ∙ is ∙ ap (λ (byte : ℕ). even_bit byte) (sym p.low)) in
    record {
      small = omega (arith, p.ninth);
      nibble_again = omega (arith, p.low);
      bit_again = omega (arith, p.low);
      right = rw (eq-eqb (ones_in (to_bits 9 word) % 2) 0 count) (ne_eqb (word / 512 % 2) (word / 256 % 2) apart);
      low_clear = ap not (eq-eqb (word % 8) 0 (omega (arith, p.low)));
    }

pub made : (nibble bit : ℕ) → nibble < 16 → bit < 2 → Made nibble bit (data_word nibble bit)
unfolding data_word
made nibble bit n b =
    let byte = 8 * bit + 16 * nibble in
    made_of nibble bit (even_bit byte) (data_word nibble bit) n b (omega arith) refl (parts byte (even_bit byte) (omega arith) (omega arith))

-- a data word that is not refused is the one that is written for what it holds
pub written_again : (word : ℕ) → word ≤ 1023 → wrong_word word ≡ false → low_set word ≡ false → data_word (nibble_in word) (bit_in word) ≡ word
unfolding data_word
written_again word small right low =
    let tests = neither (not (eqb (ones_in (to_bits 9 word) % 2) 0)) (eqb (word / 512 % 2) (word / 256 % 2)) right in
    let even : ones_in (to_bits 9 word) % 2 ≡ 0 = eqb-true _ 0 (not-false _ tests.0) in
    let clear : word % 8 ≡ 0 = eqb-true _ 0 (not-false _ low) in
    let byte : 8 * bit_in word + 16 * nibble_in word ≡ word % 256 = omega arith in
    let b8 = b8_found word even in
    rw byte (whole_again word (even_bit (word % 256)) small b8 (λ same. eqb-false _ _ tests.1 (same ∙ sym b8)))

-- what is written into data words is read from them again
pub record AllMade (bits : List ℕ) (info : ℕ) (words : List ℕ) : Type 0 where
  pub small : some_above 1023 words ≡ false
  pub right : some_word wrong_word words ≡ false
  pub low_clear : some_word low_set words ≡ false
  pub info_again : info < 16 ^ length bits → info_in words ≡ info
  pub byte_again : byte_in words ≡ value bits

pub all_made : (bits : List ℕ) (info : ℕ) → AllBits bits → AllMade bits info (data_words bits info)
unfolding data_words some_above some_word gathered value
all_made [] info all = record { small = refl; right = refl; low_clear = refl; info_again = λ low. sym (lt-one low); byte_again = refl }
all_made (bit ∷ bits) info all =
    let one = made (info % 16) bit (omega arith) (omega (arith, head_within 1 bit bits all)) in
    let rest = all_made bits (info / 16) (tail_within 1 bit bits all) in
    record {
      small = within_cons 1023 (data_word (info % 16) bit) (data_words bits (info / 16)) one.small rest.small;
      right = rw one.right rest.right;
      low_clear = rw one.low_clear rest.low_clear;
      info_again = λ low.
          let below : info / 16 < 16 ^ length bits = omega (arith, pow-suc 16 (length bits)) in
          rw (one.nibble_again, rest.info_again below) (omega arith);
      byte_again = rw (one.bit_again, rest.byte_again);
    }

-- data words that are not refused are those that are written for what they hold
pub all_again : (words : List ℕ) → some_above 1023 words ≡ false → some_word wrong_word words ≡ false → some_word low_set words ≡ false
    → data_words (map bit_in words) (info_in words) ≡ words
unfolding data_words some_word gathered
all_again [] small right low = refl
all_again (word ∷ words) small right low =
    let r = neither (wrong_word word) (some_word wrong_word words) right in
    let l = neither (low_set word) (some_word low_set words) low in
    let digit : (nibble_in word + 16 * info_in words) % 16 ≡ nibble_in word = omega arith in
    let others : (nibble_in word + 16 * info_in words) / 16 ≡ info_in words = omega arith in
    rw (digit, others, written_again word (head_within 1023 word words small) r.0 l.0)
    (ap (λ (rest : List ℕ). word ∷ rest) (all_again words (tail_within 1023 word words small) r.1 l.1))

-- the bits that data words carry in b3 are the byte's
pub byte_value : (words : List ℕ) → byte_in words ≡ value (map bit_in words)
unfolding gathered value
byte_value [] = refl
byte_value (word ∷ words) = rw (byte_value words)

pub carried_all_bits : (words : List ℕ) → AllBits (map bit_in words)
unfolding some_above
carried_all_bits [] = refl
carried_all_bits (word ∷ words) = within_cons 1 (bit_in word) (map bit_in words) (omega arith) (carried_all_bits words)
