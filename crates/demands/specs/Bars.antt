-- The bars to rehearse: "Marked P: proved of the written definitions, as a single table under a single claim." And a second table, of document 02, A4, and a third, of A6, under the same
-- claim.
-- Assumes nothing.
use Rattle.clock.specs.declared.types.DayFrame.{DayFrame}
use Rattle.refusals.specs.declared.types.Refusal.{Refusal}
use Rattle.pictures.specs.declared.types.PictureInSecond.{PictureInSecond}
use Rattle.atc.specs.declared.types.Contents.{Contents}
use Rattle.std.specs.Prelude.{ℕ, zero, suc, ◌≡◌, cond, List, [], ◌∷◌, ◌++◌, map, eqb, ℤ, pos, negsuc, take, drop, replicate, Err, Ok, Result}
use Rattle.refusals.specs.Table.{number as refusal_number}
use Rattle.bits.specs.Bits.{value}
use Rattle.rates.specs.declared.types.Flag.{Flag}
use Rattle.rates.specs.declared.types.Flag.TheVariants.{No, Yes}
use Rattle.rates.specs.declared.types.Address.{Address}
use Rattle.rates.specs.Face.{showing}
use Rattle.pictures.specs.declared.types.Picture.{Picture}
use Rattle.pictures.specs.Pictures.{picture}
use Rattle.record.specs.declared.types.Flags.{Flags}
use Rattle.record.specs.declared.types.Groups.{Groups}
use Rattle.record.specs.declared.types.Record.{Record}
use Rattle.modes.specs.Calls.{number_in, in_second_in, picture_in, fields_in, span_in, plus_in}
use Rattle.polarity.specs.declared.types.Found.TheVariants.{Corrected}
use Rattle.ltc.specs.Calls as ltc
use Rattle.vitc.specs.Calls as vitc
use Rattle.atc.specs.declared.types.Interface.TheVariants.{HighDefinition}
use Rattle.atc.specs.Calls as atc

-- what a call tells, whichever it is: a number, a picture, a signed count, the elements that a write leaves, or a refusal
pub data Told : Type 0 where
  number : ℕ → Told
  shows : Picture → Told
  frames : ℤ → Told
  elements : List ℕ → Told
  refused_by : ℕ → Told

abbrev of_numbered : Result DayFrame Refusal → Told
of_numbered (Ok n) = number n.0
of_numbered (Err r) = refused_by (refusal_number r)

abbrev of_in_second : Result PictureInSecond Refusal → Told
of_in_second (Ok n) = number n.0
of_in_second (Err r) = refused_by (refusal_number r)

abbrev of_pictured : Result Picture Refusal → Told
of_pictured (Ok p) = shows p
of_pictured (Err r) = refused_by (refusal_number r)

abbrev of_span : Result ℤ Refusal → Told
of_span (Ok z) = frames z
of_span (Err r) = refused_by (refusal_number r)

-- a bar: what the call tells, and what the document says it must be
pub record Bar : Type 0 where
  pub told : Told
  pub must : Told

infix 20 ◌is◌
abbrev ◌is◌ : Told → Told → Bar
t is m = record { told = t; must = m }

-- an address where each has one picture
abbrev alone : Address → Picture
alone a = picture a 0

-- in a mode, drop or not: the picture of a number, and the number of a picture
abbrev of_number : ℕ → Flag → ℕ → Told
of_number mode drop n = of_pictured (picture_in mode drop (record { 0 = n }))

abbrev numbered : ℕ → Flag → Picture → Told
numbered mode drop p = of_numbered (number_in mode drop p)

-- and its number within its second
abbrev in_second : ℕ → Flag → Picture → Told
in_second mode drop p = of_in_second (in_second_in mode drop p)

-- "30 drop": the number of an address, and the address of a number
abbrev drop30 : Address → Told
drop30 a = numbered 2 Yes (alone a)

abbrev drop30at : ℕ → Told
drop30at n = of_number 2 Yes n

-- "25": an address from its fields, and the distance from one to another
abbrev at25 : Address → Told
at25 a = of_pictured (fields_in 1 No (alone a))

abbrev from25 : Address → Address → Told
from25 a b = of_span (span_in 1 No (alone a) (alone b))

-- "10:01:00;02, groups and flags 0 but drop"
abbrev the_record : Record
the_record =
    record {
      address = showing 10 1 0 2;
      flags = record { drop = Yes; colour = No; mark = No; bgf0 = No; bgf1 = No; bgf2 = No };
      groups = record { group1 = 0; group2 = 0; group3 = 0; group4 = 0; group5 = 0; group6 = 0; group7 = 0; group8 = 0 };
      place = 0;
    }

-- what a write of it leaves in a lent run of zeros: as LTC, corrected, on VITC, as ATC type 1, second byte 0 (on a high definition interface: by A9 the others
-- refuse a second byte that claims line 0)
abbrev as_ltc : List ℕ
as_ltc = ltc.run_of 2 the_record Corrected 0 (replicate 80 0)

abbrev on_vitc : List ℕ
on_vitc = vitc.run_of 2 the_record 0 (replicate 90 0)

abbrev as_atc : List ℕ
as_atc = atc.run_of 2 HighDefinition the_record 1 0 0 (replicate 23 0)

-- the places of the ones, where the first bit stands at the place given
unfoldable pub ones_among : ℕ → List ℕ → List ℕ
ones_among place [] = []
ones_among place (bit ∷ bits) = cond (eqb bit 1) (place ∷ []) [] ++ ones_among (suc place) bits

-- "Packed low bit first": so many bytes
unfoldable pub packed : ℕ → List ℕ → List ℕ
packed zero bits = []
packed (suc count) bits = value (take 8 bits) ∷ packed count (drop 8 bits)

-- the bars marked P, in the document's order
unfoldable pub bars : List Bar
bars =
    -- 30 drop: 00:00:59;29 is 1,799; 00:01:00;02 is 1,800
    (drop30 (showing 0 0 59 29) is number 1799)
    ∷ (drop30 (showing 0 1 0 2) is number 1800)
    -- 00:01:00;00 and 00:01:00;01 are refused by 9; 00:10:00;00 is 17,982
    ∷ (drop30 (showing 0 1 0 0) is refused_by 9)
    ∷ (drop30 (showing 0 1 0 1) is refused_by 9)
    ∷ (drop30 (showing 0 10 0 0) is number 17982)
    -- 00:09:59;29 is 17,981; 01:00:00;00 is 107,892
    ∷ (drop30 (showing 0 9 59 29) is number 17981)
    ∷ (drop30 (showing 1 0 0 0) is number 107892)
    -- 23:59:59;29 is 2,589,407; number 2,589,408 is refused by 14
    ∷ (drop30 (showing 23 59 59 29) is number 2589407)
    ∷ (drop30at 2589408 is refused_by 14)
    -- 25: frame 24 accepted, 25 refused by 8. Hour 24 refused by 8
    ∷ (at25 (showing 0 0 0 24) is shows (alone (showing 0 0 0 24)))
    ∷ (at25 (showing 0 0 0 25) is refused_by 8)
    ∷ (at25 (showing 24 0 0 0) is refused_by 8)
    -- From 23:59:59:24 to 00:00:00:00 at 25 is +1; the other way is -1
    ∷ (from25 (showing 23 59 59 24) (showing 0 0 0 0) is frames (pos 1))
    ∷ (from25 (showing 0 0 0 0) (showing 23 59 59 24) is frames (negsuc 0))
    -- 10:01:00;02, groups and flags 0 but drop, is number 1,080,720. As LTC the ones in 0-63 stand at 1, 10, 27, 32, 56
    ∷ (drop30 (showing 10 1 0 2) is number 1080720)
    ∷ (elements (ones_among 0 (take 64 as_ltc)) is elements (1 ∷ 10 ∷ 27 ∷ 32 ∷ 56 ∷ []))
    -- Packed low bit first the word is 02 04 00 08 01 00 00 01 FC BF
    ∷ (elements (packed 10 as_ltc) is elements (0x02 ∷ 0x04 ∷ 0x00 ∷ 0x08 ∷ 0x01 ∷ 0x00 ∷ 0x00 ∷ 0x01 ∷ 0xFC ∷ 0xBF ∷ []))
    -- The same with mark 0 on VITC: CRC ones at 82, 83, 86
    ∷ (elements (ones_among 82 (drop 82 on_vitc)) is elements (82 ∷ 83 ∷ 86 ∷ []))
    -- The same as ATC type 1, second byte 0
    ∷ (elements as_atc is elements (
    0x000 ∷ 0x3FF ∷ 0x3FF ∷ 0x260 ∷ 0x260 ∷ 0x110 ∷ 0x228 ∷ 0x200 ∷ 0x140 ∷ 0x200 ∷ 0x200 ∷ 0x200 ∷ 0x200 ∷ 0x200 ∷ 0x110 ∷ 0x200
    ∷ 0x200 ∷ 0x200 ∷ 0x200 ∷ 0x200 ∷ 0x110 ∷ 0x200 ∷ 0x158 ∷ []))
    ∷ []

-- the one claim: each tells what it must
abbrev pub Rehearsed : List Bar → Type 0
Rehearsed table = map (λ (bar : Bar). bar.told) table ≡ map (λ (bar : Bar). bar.must) table

-- Document 02, A4: "Day counts are double those in document 01; 59.94 drop has 5,178,816", and what goes with it: the last picture of a day in a mode and the first
-- number that is refused; the 60 pictures of a second; the highest number within a second in a mode, and the first in a second, that of 59.94 drop with skipped numbers too;
-- the step over the skipped numbers of 59.94 drop; drop where it may not be asked for; a field outside the clock; a place that none of a pair has, and a place where there are
-- no pairs; and the second picture of 00:00:00:00 on a line at 50, where the mark is information bit 59, and in a packet of type 2 at 60
abbrev second_picture : Record
second_picture =
    record {
      address = showing 0 0 0 0;
      flags = record { drop = No; colour = No; mark = Yes; bgf0 = No; bgf1 = No; bgf2 = No };
      groups = record { group1 = 0; group2 = 0; group3 = 0; group4 = 0; group5 = 0; group6 = 0; group7 = 0; group8 = 0 };
      place = 1;
    }

unfoldable pub pair_bars : List Bar
pair_bars =
    (of_number 3 No 4147199 is shows (picture (showing 23 59 59 23) 1))
    ∷ (of_number 3 No 4147200 is refused_by 14)
    ∷ (of_number 4 No 4319999 is shows (picture (showing 23 59 59 24) 1))
    ∷ (of_number 4 No 4320000 is refused_by 14)
    ∷ (of_number 5 No 5183999 is shows (picture (showing 23 59 59 29) 1))
    ∷ (of_number 5 No 5184000 is refused_by 14)
    ∷ (of_number 5 Yes 5178815 is shows (picture (showing 23 59 59 29) 1))
    ∷ (of_number 5 Yes 5178816 is refused_by 14)
    ∷ (numbered 5 No (picture (showing 0 0 0 29) 1) is number 59)
    ∷ (numbered 5 No (picture (showing 0 0 1 0) 0) is number 60)
    ∷ (in_second 2 No (picture (showing 0 0 0 29) 0) is number 29)
    ∷ (in_second 3 No (picture (showing 0 0 0 23) 1) is number 47)
    ∷ (in_second 4 No (picture (showing 0 0 0 24) 1) is number 49)
    ∷ (in_second 5 No (picture (showing 0 0 0 29) 1) is number 59)
    ∷ (in_second 5 No (picture (showing 0 0 1 0) 0) is number 0)
    ∷ (in_second 5 Yes (picture (showing 0 1 0 2) 0) is number 4)
    ∷ (numbered 5 Yes (picture (showing 0 0 59 29) 1) is number 3599)
    ∷ (numbered 5 Yes (picture (showing 0 1 0 2) 0) is number 3600)
    ∷ (numbered 5 Yes (picture (showing 0 1 0 1) 1) is refused_by 9)
    ∷ (numbered 3 Yes (picture (showing 0 0 0 0) 0) is refused_by 10)
    ∷ (numbered 4 Yes (picture (showing 0 0 0 0) 0) is refused_by 10)
    ∷ (numbered 4 No (picture (showing 24 0 0 0) 0) is refused_by 8)
    ∷ (numbered 3 No (picture (showing 0 0 0 24) 1) is refused_by 8)
    ∷ (numbered 5 No (picture (showing 0 0 0 0) 2) is refused_by 8)
    ∷ (numbered 2 No (picture (showing 0 0 0 0) 1) is refused_by 10)
    ∷ (elements (ones_among 0 (vitc.run_of 4 second_picture 0 (replicate 90 0))) is elements (0 ∷ 10 ∷ 20 ∷ 30 ∷ 40 ∷ 50 ∷ 60 ∷ 70 ∷ 75 ∷ 80 ∷ 83 ∷ 88 ∷ []))
    ∷ (elements (atc.run_of 5 HighDefinition second_picture 2 0 0 (replicate 23 0)) is elements (
    0x000 ∷ 0x3FF ∷ 0x3FF ∷ 0x260 ∷ 0x260 ∷ 0x110 ∷ 0x200 ∷ 0x108 ∷ 0x200 ∷ 0x200 ∷ 0x200 ∷ 0x200 ∷ 0x180 ∷ 0x200 ∷ 0x200 ∷ 0x200
    ∷ 0x200 ∷ 0x200 ∷ 0x200 ∷ 0x200 ∷ 0x200 ∷ 0x200 ∷ 0x258 ∷ []))
    ∷ []

-- Document 02, A6: "120 drop has 10,357,632 pictures a day", "72 refuses 3, and 24x5 refuses 5, 6 and 7", "drop by its flag, which 6 to 9 refuse by 10", "LTC and VITC refuse them by 2, and 2
-- begins above 10 elsewhere", and what goes with it: the last picture of a day in a mode and the first number that is refused; the highest number within a second; the step over
-- the skipped numbers of 120 drop; distances and sums that count pictures; types and second bytes that are not the mode's; a mark that is set; packets of each mode, with groups, read
-- and written; two of modes 0 to 5, with flags, groups and a second byte, beside them; and packets whose checksum or low bits are wrong, where the type is as well
abbrev of_written : Result Unit Refusal → List ℕ → Told
of_written (Ok _) left = elements left
of_written (Err r) left = refused_by (refusal_number r)

-- a record of a picture, its flags drop, colour, mark, BGF0, BGF1 and BGF2, and its groups
abbrev flags_of : Flag → Flag → Flag → Flag → Flag → Flag → Flags
flags_of drop colour mark bgf0 bgf1 bgf2 = record { drop = drop; colour = colour; mark = mark; bgf0 = bgf0; bgf1 = bgf1; bgf2 = bgf2 }

abbrev groups_of : ℕ → ℕ → ℕ → ℕ → ℕ → ℕ → ℕ → ℕ → Groups
groups_of g1 g2 g3 g4 g5 g6 g7 g8 = record { group1 = g1; group2 = g2; group3 = g3; group4 = g4; group5 = g5; group6 = g6; group7 = g7; group8 = g8 }

abbrev record_of : Picture → Flags → Groups → Record
record_of p flags groups = record { address = p.address; flags = flags; groups = groups; place = p.place }

-- a record without groups, with a mark or without
abbrev record_at : Picture → Flag → Flag → Record
record_at p drop mark = record_of p (flags_of drop No mark No No No) (groups_of 0 0 0 0 0 0 0 0)

-- with groups 1 to 8, or 15 to 8
abbrev rising : Groups
rising = groups_of 1 2 3 4 5 6 7 8

abbrev falling : Groups
falling = groups_of 15 14 13 12 11 10 9 8

-- what a write of it into a packet tells
abbrev in_packet : ℕ → Record → ℕ → ℕ → Told
in_packet mode r type second =
    of_written (atc.written_of mode HighDefinition r type second 0 (replicate 23 0)) (atc.run_of mode HighDefinition r type second 0 (replicate 23 0))

abbrev midnight_at : ℕ → Picture
midnight_at place = picture (showing 0 0 0 0) place

-- the distance from one picture to another, and a picture so many on or back
abbrev between : ℕ → Flag → Picture → Picture → Told
between mode drop from to = of_span (span_in mode drop from to)

abbrev on : ℕ → Flag → Picture → ℤ → Told
on mode drop p z = of_pictured (plus_in mode drop p z)

-- what a read of a packet tells: its picture
abbrev of_read : Result Contents Refusal → Told
of_read (Ok c) = shows (picture c.«record».address c.«record».place)
of_read (Err r) = refused_by (refusal_number r)

abbrev read_as : ℕ → List ℕ → Told
read_as mode words = of_read (atc.read_of mode HighDefinition words)

-- midnight, place 1 of 72; the same with another checksum and type 90 hex; and with type 90 hex and b0 of the first data word set
abbrev of72 : List ℕ
of72 =
    0x000 ∷ 0x3FF ∷ 0x3FF ∷ 0x260 ∷ 0x161 ∷ 0x110 ∷ 0x200 ∷ 0x200 ∷ 0x180 ∷ 0x200 ∷ 0x200 ∷ 0x200 ∷ 0x200 ∷ 0x108 ∷ 0x108 ∷ 0x108
    ∷ 0x200 ∷ 0x200 ∷ 0x200 ∷ 0x200 ∷ 0x200 ∷ 0x200 ∷ 0x169 ∷ []

abbrev wrong_sum : List ℕ
wrong_sum =
    0x000 ∷ 0x3FF ∷ 0x3FF ∷ 0x260 ∷ 0x161 ∷ 0x110 ∷ 0x200 ∷ 0x200 ∷ 0x180 ∷ 0x200 ∷ 0x108 ∷ 0x200 ∷ 0x200 ∷ 0x108 ∷ 0x108 ∷ 0x108
    ∷ 0x200 ∷ 0x200 ∷ 0x200 ∷ 0x200 ∷ 0x200 ∷ 0x200 ∷ 0x270 ∷ []

abbrev low_bit : List ℕ
low_bit =
    0x000 ∷ 0x3FF ∷ 0x3FF ∷ 0x260 ∷ 0x161 ∷ 0x110 ∷ 0x101 ∷ 0x200 ∷ 0x180 ∷ 0x200 ∷ 0x108 ∷ 0x200 ∷ 0x200 ∷ 0x108 ∷ 0x108 ∷ 0x108
    ∷ 0x200 ∷ 0x200 ∷ 0x200 ∷ 0x200 ∷ 0x200 ∷ 0x200 ∷ 0x172 ∷ []

unfoldable pub high_bars : List Bar
high_bars =
    (of_number 6 No 6220799 is shows (picture (showing 23 59 59 23) 2))
    ∷ (of_number 6 No 6220800 is refused_by 14)
    ∷ (of_number 7 No 8294399 is shows (picture (showing 23 59 59 23) 3))
    ∷ (of_number 7 No 8294400 is refused_by 14)
    ∷ (of_number 8 No 8639999 is shows (picture (showing 23 59 59 24) 3))
    ∷ (of_number 8 No 8640000 is refused_by 14)
    ∷ (of_number 9 No 10367999 is shows (picture (showing 23 59 59 23) 4))
    ∷ (of_number 9 No 10368000 is refused_by 14)
    ∷ (of_number 10 No 10367999 is shows (picture (showing 23 59 59 29) 3))
    ∷ (of_number 10 No 10368000 is refused_by 14)
    ∷ (of_number 10 Yes 10357631 is shows (picture (showing 23 59 59 29) 3))
    ∷ (of_number 10 Yes 10357632 is refused_by 14)
    ∷ (of_number 11 No 0 is refused_by 2)
    ∷ (in_second 6 No (picture (showing 0 0 0 23) 2) is number 71)
    ∷ (in_second 7 No (picture (showing 0 0 0 23) 3) is number 95)
    ∷ (in_second 8 No (picture (showing 0 0 0 24) 3) is number 99)
    ∷ (in_second 9 No (picture (showing 0 0 0 23) 4) is number 119)
    ∷ (in_second 10 No (picture (showing 0 0 0 29) 3) is number 119)
    ∷ (in_second 10 Yes (picture (showing 0 1 0 2) 0) is number 8)
    ∷ (numbered 10 Yes (picture (showing 0 0 59 29) 3) is number 7199)
    ∷ (numbered 10 Yes (picture (showing 0 1 0 2) 0) is number 7200)
    ∷ (numbered 10 Yes (picture (showing 0 1 0 1) 3) is refused_by 9)
    ∷ (numbered 6 Yes (midnight_at 0) is refused_by 10)
    ∷ (numbered 7 Yes (midnight_at 0) is refused_by 10)
    ∷ (numbered 8 Yes (midnight_at 0) is refused_by 10)
    ∷ (numbered 9 Yes (midnight_at 0) is refused_by 10)
    ∷ (numbered 6 No (midnight_at 2) is number 2)
    ∷ (numbered 6 No (midnight_at 3) is refused_by 8)
    ∷ (numbered 9 No (midnight_at 4) is number 4)
    ∷ (numbered 9 No (midnight_at 5) is refused_by 8)
    ∷ (numbered 9 No (midnight_at 6) is refused_by 8)
    ∷ (numbered 9 No (midnight_at 7) is refused_by 8)
    ∷ (of_written (vitc.written_of 6 (record_at (midnight_at 0) No No) 0 (replicate 90 0)) [] is refused_by 2)
    ∷ (of_written (ltc.written_of 6 (record_at (midnight_at 0) No No) 0 (replicate 80 0)) [] is refused_by 2)
    ∷ (in_packet 11 (record_at (midnight_at 0) No No) 0x80 0x44 is refused_by 2)
    ∷ (in_packet 9 (record_at (midnight_at 0) No No) 0x90 0x05 is refused_by 7)
    ∷ (in_packet 9 (record_at (midnight_at 5) No No) 0x80 0x85 is refused_by 23)
    ∷ (in_packet 9 (record_at (midnight_at 5) No No) 0x80 0x44 is refused_by 23)
    ∷ (in_packet 9 (record_at (midnight_at 5) No No) 0x80 0x05 is refused_by 8)
    ∷ (in_packet 9 (record_at (midnight_at 4) No Yes) 0x80 0x05 is refused_by 10)
    ∷ (in_packet 6 (record_at (midnight_at 1) No No) 0x80 0x03 is elements (
    0x000 ∷ 0x3FF ∷ 0x3FF ∷ 0x260 ∷ 0x161 ∷ 0x110 ∷ 0x200 ∷ 0x200 ∷ 0x180 ∷ 0x200 ∷ 0x200 ∷ 0x200 ∷ 0x200 ∷ 0x108 ∷ 0x108 ∷ 0x108
    ∷ 0x200 ∷ 0x200 ∷ 0x200 ∷ 0x200 ∷ 0x200 ∷ 0x200 ∷ 0x169 ∷ []))
    ∷ (in_packet 8 (record_at (midnight_at 3) No No) 0x8F 0x24 is elements (
    0x000 ∷ 0x3FF ∷ 0x3FF ∷ 0x260 ∷ 0x161 ∷ 0x110 ∷ 0x108 ∷ 0x108 ∷ 0x288 ∷ 0x108 ∷ 0x200 ∷ 0x200 ∷ 0x200 ∷ 0x108 ∷ 0x200 ∷ 0x200
    ∷ 0x108 ∷ 0x200 ∷ 0x200 ∷ 0x108 ∷ 0x180 ∷ 0x200 ∷ 0x109 ∷ []))
    ∷ (in_packet 9 (record_at (midnight_at 4) No No) 0x80 0x05 is elements (
    0x000 ∷ 0x3FF ∷ 0x3FF ∷ 0x260 ∷ 0x161 ∷ 0x110 ∷ 0x200 ∷ 0x200 ∷ 0x200 ∷ 0x200 ∷ 0x200 ∷ 0x200 ∷ 0x180 ∷ 0x108 ∷ 0x108 ∷ 0x200
    ∷ 0x108 ∷ 0x200 ∷ 0x200 ∷ 0x200 ∷ 0x200 ∷ 0x200 ∷ 0x169 ∷ []))
    ∷ (in_packet 10 (record_at (picture (showing 10 1 0 2) 2) Yes No) 0x80 0x44 is elements (
    0x000 ∷ 0x3FF ∷ 0x3FF ∷ 0x260 ∷ 0x161 ∷ 0x110 ∷ 0x120 ∷ 0x200 ∷ 0x140 ∷ 0x200 ∷ 0x200 ∷ 0x200 ∷ 0x180 ∷ 0x108 ∷ 0x110 ∷ 0x200
    ∷ 0x108 ∷ 0x200 ∷ 0x200 ∷ 0x200 ∷ 0x218 ∷ 0x200 ∷ 0x1E9 ∷ []))
    ∷ (in_packet 10 (record_of (picture (showing 12 34 56 7) 1) (flags_of No No No No No No) rising) 0x84 0x44 is elements (
    0x000 ∷ 0x3FF ∷ 0x3FF ∷ 0x260 ∷ 0x161 ∷ 0x110 ∷ 0x170 ∷ 0x110 ∷ 0x288 ∷ 0x120 ∷ 0x260 ∷ 0x230 ∷ 0x250 ∷ 0x248 ∷ 0x140 ∷ 0x250
    ∷ 0x138 ∷ 0x260 ∷ 0x120 ∷ 0x170 ∷ 0x218 ∷ 0x180 ∷ 0x171 ∷ []))
    ∷ (in_packet 7 (record_of (picture (showing 12 34 56 7) 3) (flags_of No No No No No No) falling) 0x88 0x04 is elements (
    0x000 ∷ 0x3FF ∷ 0x3FF ∷ 0x260 ∷ 0x161 ∷ 0x110 ∷ 0x170 ∷ 0x2F0 ∷ 0x180 ∷ 0x2E8 ∷ 0x260 ∷ 0x1D0 ∷ 0x1D0 ∷ 0x1C8 ∷ 0x140 ∷ 0x1B0
    ∷ 0x138 ∷ 0x2A0 ∷ 0x120 ∷ 0x290 ∷ 0x110 ∷ 0x180 ∷ 0x269 ∷ []))
    ∷ (in_packet 9 (record_of (picture (showing 1 2 3 4) 3) (flags_of No No No No No No) rising) 0x80 0x05 is elements (
    0x000 ∷ 0x3FF ∷ 0x3FF ∷ 0x260 ∷ 0x161 ∷ 0x110 ∷ 0x140 ∷ 0x110 ∷ 0x180 ∷ 0x120 ∷ 0x230 ∷ 0x230 ∷ 0x200 ∷ 0x248 ∷ 0x228 ∷ 0x250
    ∷ 0x288 ∷ 0x260 ∷ 0x110 ∷ 0x170 ∷ 0x200 ∷ 0x180 ∷ 0x1C9 ∷ []))
    ∷ (in_packet 2 (record_of (picture (showing 12 34 56 7) 0) (flags_of No Yes No Yes No Yes) falling) 2 0x8A is elements (
    0x000 ∷ 0x3FF ∷ 0x3FF ∷ 0x260 ∷ 0x260 ∷ 0x110 ∷ 0x170 ∷ 0x1F8 ∷ 0x180 ∷ 0x1E0 ∷ 0x260 ∷ 0x1D0 ∷ 0x250 ∷ 0x2C0 ∷ 0x140 ∷ 0x2B8
    ∷ 0x1B0 ∷ 0x1A8 ∷ 0x120 ∷ 0x290 ∷ 0x290 ∷ 0x288 ∷ 0x1F0 ∷ []))
    ∷ (in_packet 1 (record_of (picture (showing 1 2 3 4) 0) (flags_of No No Yes Yes Yes No) rising) 0 0x75 is elements (
    0x000 ∷ 0x3FF ∷ 0x3FF ∷ 0x260 ∷ 0x260 ∷ 0x110 ∷ 0x140 ∷ 0x110 ∷ 0x200 ∷ 0x120 ∷ 0x230 ∷ 0x230 ∷ 0x180 ∷ 0x140 ∷ 0x228 ∷ 0x250
    ∷ 0x108 ∷ 0x260 ∷ 0x218 ∷ 0x278 ∷ 0x1C8 ∷ 0x180 ∷ 0x218 ∷ []))
    ∷ (read_as 6 of72 is shows (midnight_at 1))
    ∷ (read_as 7 of72 is refused_by 23)
    ∷ (read_as 5 of72 is refused_by 4)
    ∷ (read_as 6 wrong_sum is refused_by 5)
    ∷ (read_as 6 low_bit is refused_by 6)
    ∷ (between 6 No (midnight_at 0) (picture (showing 0 0 1 0) 0) is frames (pos 72))
    ∷ (between 9 No (picture (showing 23 59 59 23) 4) (midnight_at 0) is frames (pos 1))
    ∷ (between 10 Yes (picture (showing 0 1 0 2) 0) (picture (showing 0 0 59 29) 3) is frames (negsuc 0))
    ∷ (on 10 Yes (picture (showing 0 0 59 29) 3) (pos 1) is shows (picture (showing 0 1 0 2) 0))
    ∷ (on 9 No (midnight_at 0) (negsuc 0) is shows (picture (showing 23 59 59 23) 4))
    ∷ (of_pictured (fields_in 6 No (midnight_at 2)) is shows (midnight_at 2))
    ∷ (of_pictured (fields_in 6 No (midnight_at 3)) is refused_by 8)
    ∷ []
