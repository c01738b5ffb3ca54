-- The vertical interval line: "Information bit n stands at n + 2 + 2 x (n / 8, rounded down). Pairs 1, 0 stand at 0 and 1, 10 and 11, up to
-- 80 and 81. Bits 82-89 are the CRC by x^8 + 1: for each remainder of the bit's place by 8, the 90 bits hold an even number of ones."
-- Assumes nothing.
use Rattle.std.specs.Prelude.{ℕ, zero, suc, ◌+◌, ◌*◌, ◌/◌, ◌%◌, Bool, false, not, ◌||◌, cond, List, [], ◌∷◌, ◌++◌, eqb, get_or}
use Rattle.bits.specs.Bits.{value, to_bits}

-- what f gives at 0, 1, 2 and so on: an element for each number below the count
unfoldable pub each : ℕ → (ℕ → ℕ) → List ℕ
each zero f = []
each (suc count) f = f 0 ∷ each count (λ n. f (suc n))

-- the test holds of some number below the count
unfoldable pub some_below : ℕ → (ℕ → Bool) → Bool
some_below zero test = false
some_below (suc count) test = some_below count test || test count

-- the place of information bit n
abbrev pub place_of : ℕ → ℕ
place_of n = n + 2 + 2 * (n / 8)

-- the 64 elements at those places, and the number that they stand for
unfoldable pub information_of : List ℕ → List ℕ
information_of line = each 64 (λ n. get_or line (place_of n) 0)

abbrev pub info_in : List ℕ → ℕ
info_in line = value (information_of line)

-- pair g stands at 10 g and 10 g + 1, and is not 1, 0
abbrev pub wrong_at : List ℕ → ℕ → Bool
wrong_at line g = not (eqb (get_or line (10 * g) 0) 1) || not (eqb (get_or line (10 * g + 1) 0) 0)

-- one of the nine pairs is wrong
unfoldable pub wrong_pair : List ℕ → Bool
wrong_pair line = some_below 9 (wrong_at line)

-- how many ones stand at places of this remainder by 8, where the first element stands at the place given
unfoldable pub ones_from : ℕ → ℕ → List ℕ → ℕ
ones_from remainder place [] = 0
ones_from remainder place (element ∷ elements) =
    cond (eqb (place % 8) remainder) (cond (eqb element 1) 1 0) 0 + ones_from remainder (suc place) elements

abbrev pub ones_at : ℕ → List ℕ → ℕ
ones_at remainder line = ones_from remainder 0 line

-- of this remainder the line holds an odd number of ones
abbrev pub odd_at : List ℕ → ℕ → Bool
odd_at line remainder = not (eqb (ones_at remainder line % 2) 0)

-- of one of the eight remainders the count is odd
unfoldable pub wrong_crc : List ℕ → Bool
wrong_crc line = some_below 8 (odd_at line)

-- groups of ten: the pair, and the next eight bits of the information
unfoldable pub groups : ℕ → ℕ → List ℕ
groups zero info = []
groups (suc count) info = (1 ∷ 0 ∷ to_bits 8 info) ++ groups count (info / 256)

-- places 0 to 81: eight groups, and the ninth pair
unfoldable pub payload : ℕ → List ℕ
payload info = groups 8 info ++ (1 ∷ 0 ∷ [])

-- places 82 to 89: each the one bit that makes the count of its remainder even
unfoldable pub crc_of : List ℕ → List ℕ
crc_of front = each 8 (λ i. ones_at ((82 + i) % 8) front % 2)

-- the whole line
unfoldable pub line_with : ℕ → List ℕ
line_with info = payload info ++ crc_of (payload info)
