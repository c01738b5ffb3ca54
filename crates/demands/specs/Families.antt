-- Document 02, A6, of packets: "161 (hex) as its fifth word and type 80 to 8F hex", the second byte by section 9.2.2 of source document 003 (ST 12-3), and the sub-frame bits by its
-- Table 2, as they are printed. `packets` says the first two by the mode, and `superframes` computes the others from the rate and the pictures to an address; that both say the same is a law.
-- Assumes nothing.
use Rattle.std.specs.Prelude.{ℕ, ◌+◌, ◌*◌, ◌/◌, ◌%◌, ◌^◌, ◌≤◌, ◌≡◌, cond, List, [], ◌∷◌, ltb, eqb, length}

-- "Refusals 4 and 7 apply per packet family": the types of modes 0 to 5, and of modes 6 to 10
pub record PayloadType (mode type : ℕ) : Type 0 where
  pub low : mode ≤ 5 → type ≤ 2
  pub high : 6 ≤ mode → (0x80 ≤ type) × (type ≤ 0x8F)

-- "23 words: 000, 3FF, 3FF, 260, 260, 110 (hex), ..", and of modes 6 to 10 "161 (hex) as its fifth word"
abbrev pub opening : ℕ → List ℕ
opening mode = cond (ltb mode 6) (0x000 ∷ 0x3FF ∷ 0x3FF ∷ 0x260 ∷ 0x260 ∷ 0x110 ∷ []) (0x000 ∷ 0x3FF ∷ 0x3FF ∷ 0x260 ∷ 0x161 ∷ 0x110 ∷ [])

-- "Table 1 - Super-frame counts": the super-frame count and N, by mode
pub data SuperFrame : ℕ → ℕ → ℕ → Type 0 where
  as_72 : SuperFrame 6 24 3
  as_96 : SuperFrame 7 24 4
  as_100 : SuperFrame 8 25 4
  as_120_at_24 : SuperFrame 9 24 5
  as_120_at_30 : SuperFrame 10 30 4

-- a byte by its bits, b7 first
abbrev byte : ℕ → ℕ → ℕ → ℕ → ℕ → ℕ → ℕ → ℕ → ℕ
byte b7 b6 b5 b4 b3 b2 b1 b0 = 128 * b7 + (64 * b6 + (32 * b5 + (16 * b4 + (8 * b3 + (4 * b2 + (2 * b1 + b0))))))

-- "b7 is reserved and shall be set to zero"; "Super-frame count as per Table 6" in b6 and b5; N in b4 to b0
pub data Names : ℕ → ℕ → Type 0 where
  frames_72 : Names 6 (byte 0 0 0 0 0 0 1 1)
  frames_96 : Names 7 (byte 0 0 0 0 0 1 0 0)
  frames_100 : Names 8 (byte 0 0 1 0 0 1 0 0)
  frames_24_by_5 : Names 9 (byte 0 0 0 0 0 1 0 1)
  frames_30_by_4 : Names 10 (byte 0 1 0 0 0 1 0 0)

abbrev pub NamesMode : ℕ → ℕ → Type 0
NamesMode mode second = 6 ≤ mode → Names mode second

-- a column of Table 2: the bits of the sub-frames that are used, "sub-frame 1 the highest", and those that "shall be zero"
pub record Column : Type 0 where
  pub used : List ℕ
  pub zeros : List ℕ

abbrev column_of : List ℕ → List ℕ → Column
column_of used zeros = record { used = used; zeros = zeros }

-- of modes 6 to 10: 100 frames, 120 frames (24 x 5), and the others
abbrev pub column : ℕ → Column
column mode =
    cond (eqb mode 8) (column_of (59 ∷ 11 ∷ []) (27 ∷ 43 ∷ 58 ∷ []))
    (cond (eqb mode 9) (column_of (27 ∷ 11 ∷ 43 ∷ []) (58 ∷ 59 ∷ []))
    (column_of (27 ∷ 11 ∷ []) (43 ∷ 58 ∷ 59 ∷ [])))

abbrev pub bit_at : ℕ → ℕ → ℕ
bit_at place info = info / 2 ^ place % 2

-- the number that some bits say, the first of them the highest
abbrev pub said_at : List ℕ → ℕ → ℕ
said_at [] info = 0
said_at (place ∷ places) info = 2 ^ length places * bit_at place info + said_at places info

abbrev pub AllZero : List ℕ → ℕ → Type 0
AllZero [] info = Unit {0}
AllZero (place ∷ places) info = (bit_at place info ≡ 0) × AllZero places info
