-- "A reader has a mode and its last 80 bits, or fewer if it has had fewer." With A3 it also has the ways in which it hears.
-- Assumes nothing.
use Rattle.std.specs.Prelude.{ℕ, ◌-◌, Bool, not, ◌||◌, List, [], ◌∷◌, ◌++◌, ltb, eqb, length, take, drop, replicate}
use Rattle.bits.specs.Bits.{value, to_bits, ones_in}
use Rattle.register.specs.declared.types.Reader.{Reader}
use Rattle.register.specs.declared.types.Ways.{Ways}

-- the 80 places of a reader's register, the oldest bit first
abbrev pub register : Reader → List ℕ
register reader = to_bits 64 reader.info ++ to_bits 16 reader.sync

-- the bits that it holds
abbrev pub held_bits : Reader → List ℕ
held_bits reader = drop (80 - reader.held) (register reader)

-- "its last 80 bits, or fewer if it has had fewer"
abbrev pub latest : List ℕ → List ℕ
latest bits = drop (length bits - 80) bits

-- and one bit more
abbrev pub push : List ℕ → ℕ → List ℕ
push bits bit = latest (bits ++ (bit ∷ []))

-- bits in a register, zeros below them
abbrev pub padded : List ℕ → List ℕ
padded bits = replicate (80 - length bits) 0 ++ bits

-- the reader that holds these bits
unfoldable pub reader_with : ℕ → Ways → List ℕ → Reader
reader_with mode ways bits =
    record { mode = mode; ways = ways; held = length bits; info = value (take 64 (padded bits)); sync = value (drop 64 (padded bits)) }

abbrev pub fresh_of : ℕ → Ways → Reader
fresh_of mode ways = record { mode = mode; ways = ways; held = 0; info = 0; sync = 0 }

-- in a mode that is known, a state that no feeding reaches holds more than 80 bits, or a one below those that it holds
unfoldable pub unreached : Reader → Bool
unreached reader = ltb 80 reader.held || not (eqb (ones_in (take (80 - reader.held) (register reader))) 0)
