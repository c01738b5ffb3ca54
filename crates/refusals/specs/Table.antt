-- The numbers for what is turned away: document 01's table, in its order and words, and after it those that requests of document 02 add.
-- Assumes nothing.
use Rattle.std.specs.Prelude.{ℕ, Bool, List, [], ◌∷◌, eqb}
use Rattle.refusals.specs.declared.types.Refusal.{Refusal}
use Rattle.refusals.specs.declared.types.Refusal.TheVariants.{WrongLength, UnknownMode, ElementTooHigh, WrongSync, WrongCheck, LowBitsSet, UnknownType, OutsideTheClock, SkippedAddress, UnusedBitSet, MarkSet, NoRoom, StateNotReached, NumberPastTheDay, ImpossibleLine, MisnamedMode}

-- the number that a refusal is given by
abbrev pub number : Refusal → ℕ
-- read: not exactly 80, 90 or 23 elements
number WrongLength = 1
-- mode above 2. Document 02, A4: above 5. A6: above 10, and above 5 on the linear track and the interval line; a call that is of high frame rates alone refuses modes 0 to 5
number UnknownMode = 2
-- read or fed: element above 1 (bits) or above 1,023 (words)
number ElementTooHigh = 3
-- sync word, a sync pair, or one of the first six packet words is wrong. A6: the fifth by the packet's family
number WrongSync = 4
-- odd zeros (LTC), CRC, b8 or b9 of a data word, packet checksum word. Document 02, A1: odd zeros only where the polarity bit is 1
number WrongCheck = 5
-- b0 to b2 of a data word not zero
number LowBitsSet = 6
-- payload type above 2. A6: in modes 6 to 10, other than 80 to 8F hex
number UnknownType = 7
-- digit above 9 in a units field, or hour, minute, second, frame outside the clock; in a record, a group above 15. A4, A6: in modes 3 to 10, a place not below the pictures to an
-- address
number OutsideTheClock = 8
-- mode 2, drop set, one of the skipped addresses. A4, A6: modes 5 and 10 as well
number SkippedAddress = 9
-- unused bit set (in a record: colour in mode 0), or drop asked for in mode 0 or 1. A4: colour in mode 3, drop in modes 3 and 4; in modes 0 to 2, a place other than 0. A6: drop
-- in modes 6 to 9; in modes 6 to 10, another sub-frame bit than the mode uses, and in a record colour, mark or a group flag
number UnusedBitSet = 10
-- LTC write of a record with mark 1. A4: in modes 3 to 5, a VITC line or packet of type 1 or 2 whose mark and pair place differ; LTC and type 0, a second picture
number MarkSet = 11
-- write: fewer than 80, 90 or 23 elements from the start given, or start past the end
number NoRoom = 12
-- reader state that no feeding reaches
number StateNotReached = 13
-- frame number not below the day's count. A4, A6: in modes 3 to 10, a picture's
number NumberPastTheDay = 14
-- A9: types 1 and 2 on 525 or 625 line interfaces, second byte whose low six bits have no entry in Table 4 of source document 000
number ImpossibleLine = 19
-- A6: in modes 6 to 10, second byte that does not name the mode given
number MisnamedMode = 23

-- whether two are the same: whether their numbers are
abbrev pub same_refusal : Refusal → Refusal → Bool
same_refusal one other = eqb (number one) (number other)

-- "The lowest that applies is given, except that 13 comes straight after 2", and 19 (A9: "It is checked after 7") and 23 (A6: "straight after 7")
-- straight after 7, of which a packet is given one at most: the refusals in the order in which they are given
abbrev pub the_order : List Refusal
the_order =
    WrongLength ∷ UnknownMode ∷ StateNotReached ∷ ElementTooHigh ∷ WrongSync ∷ WrongCheck ∷ LowBitsSet ∷ UnknownType
    ∷ ImpossibleLine ∷ MisnamedMode ∷ OutsideTheClock ∷ SkippedAddress ∷ UnusedBitSet ∷ MarkSet ∷ NoRoom ∷ NumberPastTheDay
    ∷ []
