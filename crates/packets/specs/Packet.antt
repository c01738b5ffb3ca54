-- "23 words: 000, 3FF, 3FF, 260, 260, 110 (hex), then 16 data words, then the checksum"; and document 02, A6, of modes 6 to 10: "The packet has 161 (hex) as its fifth word
-- and type 80 to 8F hex". The family of a packet is its mode's.
-- Assumes nothing.
use Rattle.std.specs.Prelude.{ℕ, ◌/◌, ◌%◌, Bool, not, cond, List, [], ◌∷◌, ◌++◌, ltb, eqb, take, drop}
use Rattle.bits.specs.Bits.{to_bits}
use Rattle.runs.specs.Run.{same}
use Rattle.modes.specs.Modes.{high_rate}
use Rattle.words.specs.Words.{with_opposite, data_words, byte_in, sum9}

abbrev pub fifth_word : ℕ → ℕ
fifth_word mode = cond (high_rate mode) 0x161 0x260

unfoldable pub header : ℕ → List ℕ
header mode = 0x000 ∷ 0x3FF ∷ 0x3FF ∷ 0x260 ∷ fifth_word mode ∷ 0x110 ∷ []

unfoldable pub is_headed : ℕ → List ℕ → Bool
is_headed mode words = same (take 6 words) (header mode)

-- "Checksum: the nine low bits of words 4 to 22 (counting from 1) summed modulo 512, b9 the opposite of b8"
unfoldable pub checksum_of : List ℕ → ℕ
checksum_of words = with_opposite (sum9 (take 19 (drop 3 words)) % 512)

-- "Words 1 to 8 carry the payload type in b3, low bit first .. Words 9 to 16 carry a second byte so"
abbrev pub carried_of : ℕ → ℕ → List ℕ
carried_of type second = to_bits 8 type ++ to_bits 8 second

-- the 22 words before the checksum, in a mode, of 64 information bits, a type and a second byte; and the packet
unfoldable pub front_of : ℕ → ℕ → ℕ → ℕ → List ℕ
front_of mode info type second = header mode ++ data_words (carried_of type second) info

unfoldable pub packet_with : ℕ → ℕ → ℕ → ℕ → List ℕ
packet_with mode info type second = front_of mode info type second ++ (checksum_of (front_of mode info type second) ∷ [])

-- the data words of a packet, and what they carry
abbrev pub data_in : List ℕ → List ℕ
data_in words = take 16 (drop 6 words)

abbrev pub type_in : List ℕ → ℕ
type_in words = byte_in (take 8 (drop 6 words))

abbrev pub second_in : List ℕ → ℕ
second_in words = byte_in (take 8 (drop 14 words))

-- "payload type above 2"; of the other family, any but "80 to 8F hex"
abbrev pub is_unknown_type : ℕ → ℕ → Bool
is_unknown_type mode type = cond (high_rate mode) (not (eqb (type / 16) 8)) (ltb 2 type)
