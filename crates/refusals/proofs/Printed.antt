-- The numbers of the refusals as they are printed, in the order of the table: so that a table with two of them exchanged is refused.
-- Assumes nothing.
use mathlib.Core.Path.{◌≡◌, refl}
use mathlib.Core.List.{List, [], ◌∷◌, map}
use Prim.Native.Nat.{ℕ}
use Rattle.refusals.specs.declared.types.Refusal.{Refusal}
use Rattle.refusals.specs.declared.types.Refusal.TheVariants.{WrongLength, UnknownMode, ElementTooHigh, WrongSync, WrongCheck, LowBitsSet, UnknownType, OutsideTheClock, SkippedAddress, UnusedBitSet, MarkSet, NoRoom, StateNotReached, NumberPastTheDay, ImpossibleLine, MisnamedMode}
use Rattle.refusals.specs.Table.{number}

-- the table from top to bottom
abbrev pub table : List Refusal
table =
    WrongLength ∷ UnknownMode ∷ ElementTooHigh ∷ WrongSync ∷ WrongCheck ∷ LowBitsSet ∷ UnknownType ∷ OutsideTheClock ∷ SkippedAddress ∷ UnusedBitSet
    ∷ MarkSet ∷ NoRoom ∷ StateNotReached ∷ NumberPastTheDay ∷ ImpossibleLine ∷ MisnamedMode ∷ []

pub as_printed : map number table ≡ 1 ∷ 2 ∷ 3 ∷ 4 ∷ 5 ∷ 6 ∷ 7 ∷ 8 ∷ 9 ∷ 10 ∷ 11 ∷ 12 ∷ 13 ∷ 14 ∷ 19 ∷ 23 ∷ []
as_printed = refl
