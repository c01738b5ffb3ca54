-- The 64 information bits as a number, low bit first.
-- Assumes nothing.
use Rattle.std.specs.Prelude.{ℕ, ◌+◌, ◌-◌, ◌*◌, ◌/◌, ◌%◌, ◌^◌, List, [], ◌∷◌}

-- what stands in bits first to last
abbrev pub bits : ℕ → ℕ → ℕ → ℕ
bits first last info = info / 2 ^ first % 2 ^ (last + 1 - first)

-- fields side by side, the first in the lowest bits: a list of widths, and a value for each
unfoldable pub join : List ℕ → List ℕ → ℕ
join [] values = 0
join (width ∷ widths) [] = 0
join (width ∷ widths) (value ∷ values) = value + 2 ^ width * join widths values

-- and taken apart again
unfoldable pub split : List ℕ → ℕ → List ℕ
split [] info = []
split (width ∷ widths) info = info % 2 ^ width ∷ split widths (info / 2 ^ width)

-- the fields of the 64 bits: units, group, tens and flags, group, for frames, seconds, minutes and hours
unfoldable pub layout : List ℕ
layout =
    4 ∷ 4 ∷ 2 ∷ 1 ∷ 1 ∷ 4  -- 0-3 frame units, group 1, 8-9 frame tens, bit 10, bit 11, group 2
    ∷ 4 ∷ 4 ∷ 3 ∷ 1 ∷ 4  -- 16-19 second units, group 3, 24-26 second tens, bit 27, group 4
    ∷ 4 ∷ 4 ∷ 3 ∷ 1 ∷ 4  -- 32-35 minute units, group 5, 40-42 minute tens, bit 43, group 6
    ∷ 4 ∷ 4 ∷ 2 ∷ 1 ∷ 1 ∷ 4  -- 48-51 hour units, group 7, 56-57 hour tens, bit 58, bit 59, group 8
    ∷ []
