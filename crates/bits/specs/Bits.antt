-- "Lent bits stand one to an element, 0 or 1", low bit first in each field.
-- Assumes nothing.
use Rattle.std.specs.Prelude.{ℕ, zero, suc, ◌+◌, ◌*◌, ◌/◌, ◌%◌, ◌≡◌, Bool, false, ◌||◌, cond, List, [], ◌∷◌, ltb, eqb}

-- the number that a list of bits stands for
unfoldable pub value : List ℕ → ℕ
value [] = 0
value (bit ∷ bits) = bit + 2 * value bits

-- the bit list of a number at a width
unfoldable pub to_bits : ℕ → ℕ → List ℕ
to_bits zero n = []
to_bits (suc width) n = n % 2 ∷ to_bits width (n / 2)

-- some element is above the limit: 1 for bits, 1,023 for packet words
unfoldable pub some_above : ℕ → List ℕ → Bool
some_above limit [] = false
some_above limit (element ∷ elements) = ltb limit element || some_above limit elements

-- every element is a bit
abbrev pub AllBits : List ℕ → Type 0
AllBits elements = some_above 1 elements ≡ false

-- how many elements equal the one given
unfoldable pub how_many : ℕ → List ℕ → ℕ
how_many given [] = 0
how_many given (element ∷ elements) = cond (eqb element given) 1 0 + how_many given elements

abbrev pub ones_in : List ℕ → ℕ
ones_in = how_many 1

abbrev pub zeros_in : List ℕ → ℕ
zeros_in = how_many 0
