-- "ATC": one word of a packet, and what its data words hold together.
-- Assumes nothing.
use Rattle.std.specs.Prelude.{ℕ, ◌+◌, ◌-◌, ◌*◌, ◌/◌, ◌%◌, Bool, false, not, ◌||◌, List, [], ◌∷◌, eqb}
use Rattle.bits.specs.Bits.{to_bits, ones_in}

-- "b9 is its opposite": nine bits, and in b9 the opposite of b8
abbrev pub with_opposite : ℕ → ℕ
with_opposite nine = nine + 512 * (1 - nine / 256)

-- "b8 makes the count of ones in b0 to b8 even": b8 for the eight bits below it
abbrev pub even_bit : ℕ → ℕ
even_bit byte = ones_in (to_bits 8 byte) % 2

-- a data word: "information bits 4(k-1) to 4(k-1)+3 in b4 to b7. Its b0 to b2 are zero", and one bit in b3
unfoldable pub data_word : ℕ → ℕ → ℕ
data_word nibble bit = let byte = 8 * bit + 16 * nibble in with_opposite (byte + 256 * even_bit byte)

-- "b8 or b9 of a data word": the count of ones in b0 to b8 is not even, or b9 is not the opposite of b8
abbrev pub wrong_word : ℕ → Bool
wrong_word word = not (eqb (ones_in (to_bits 9 word) % 2) 0) || eqb (word / 512 % 2) (word / 256 % 2)

-- "b0 to b2 of a data word not zero"
abbrev pub low_set : ℕ → Bool
low_set word = not (eqb (word % 8) 0)

-- some word of a list meets the test
unfoldable pub some_word : (ℕ → Bool) → List ℕ → Bool
some_word test [] = false
some_word test (word ∷ words) = test word || some_word test words

-- the data words of a list of bits for b3, the information bits four to a word from the lowest
unfoldable pub data_words : List ℕ → ℕ → List ℕ
data_words [] info = []
data_words (bit ∷ bits) info = data_word (info % 16) bit ∷ data_words bits (info / 16)

-- and what data words hold: a part of each word, as a digit, the lowest first
unfoldable pub gathered : (ℕ → ℕ) → ℕ → List ℕ → ℕ
gathered part base [] = 0
gathered part base (word ∷ words) = part word + base * gathered part base words

abbrev pub nibble_in : ℕ → ℕ
nibble_in word = word / 16 % 16

abbrev pub bit_in : ℕ → ℕ
bit_in word = word / 8 % 2

-- the information bits of data words, and the byte that they carry in b3
abbrev pub info_in : List ℕ → ℕ
info_in = gathered nibble_in 16

abbrev pub byte_in : List ℕ → ℕ
byte_in = gathered bit_in 2

-- "the nine low bits of words .. summed"
unfoldable pub sum9 : List ℕ → ℕ
sum9 [] = 0
sum9 (word ∷ words) = word % 512 + sum9 words
