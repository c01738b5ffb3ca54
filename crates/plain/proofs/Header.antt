-- The numbers once more, as a host's engineer reads them in the header: each name beside its number, and each field of a struct beside the field of ours that has its name, so that no two could be exchanged.
-- Assumes nothing.
use Prim.Native.Nat.{ℕ}
use mathlib.Core.Path.{◌≡◌, refl}
use mathlib.Core.Bool.{Bool, false, ◌||◌}
use mathlib.Core.List.{List, [], ◌∷◌}
use lib.Dec.{eqb}
use Rattle.std.specs.Prelude.{Ok, map}
use Rattle.refusals.specs.Table.{number, the_order}
use Rattle.rates.specs.declared.types.Flag.{Flag}
use Rattle.rates.specs.declared.types.Flag.TheVariants.{No, Yes}
use Rattle.rates.specs.Face.{showing}
use Rattle.pictures.specs.Pictures.{picture}
use Rattle.record.specs.declared.types.Record.{Record}
use Rattle.polarity.specs.declared.types.Found.TheVariants.{Corrected, Uncorrected}
use Rattle.atc.specs.declared.types.Interface.TheVariants.{Lines525, Lines625, HighDefinition}
use Rattle.hearing.specs.declared.types.Way.TheVariants.{Forward, Backward}
use Rattle.hearing.specs.declared.types.Heard.TheVariants.{Accepted}
use Rattle.register.specs.declared.types.Ways.TheVariants.{ForwardOnly, Both}
use Rattle.plain.specs.declared.types.PlainRecord.{PlainRecord}
use Rattle.plain.specs.Given.{picture_given, flags_given, groups_given, record_given, interface_given, make_given, ways_given, reader_given}
use Rattle.plain.specs.Shown.{found_shown, way_shown, record_shown}
use Rattle.plain.specs.Answers.{done, accepted, no_record, packet_answer, heard_shown}

-- the codes; no number of the table is one of them
pub codes : (done ≡ 0) × (accepted ≡ 100)
codes = (refl, refl)

abbrev has : ℕ → List ℕ → Bool
has n [] = false
has n (m ∷ ms) = eqb n m || has n ms

pub no_refusal_is_a_code : (has 0 (map number the_order) ≡ false) × (has 100 (map number the_order) ≡ false)
no_refusal_is_a_code = (refl, refl)

-- SHX_LINES_525 and its neighbours, SHX_CORRECTED, SHX_FORWARD_ONLY, SHX_FORWARD
pub interfaces : (interface_given 0 ≡ Lines525) × (interface_given 1 ≡ Lines625) × (interface_given 2 ≡ HighDefinition)
interfaces = (refl, refl, refl)

pub polarities : (make_given 0 ≡ Corrected) × (make_given 1 ≡ Uncorrected) × (found_shown Corrected ≡ 0) × (found_shown Uncorrected ≡ 1)
polarities = (refl, refl, refl, refl)

pub directions : (ways_given 0 ≡ ForwardOnly) × (ways_given 1 ≡ Both) × (way_shown Forward ≡ 0) × (way_shown Backward ≡ 1)
directions = (refl, refl, refl, refl)

-- a picture, a record, a reader: each field by its name
pub picture_by_name :
    picture_given (record { hours = 1; minutes = 2; seconds = 3; frames = 4; place = 5 }) ≡ picture (showing 1 2 3 4) 5
picture_by_name = refl

-- a record whose other numbers all differ, with these flags: a number's, and ours
abbrev plain_with : ℕ → ℕ → ℕ → ℕ → ℕ → ℕ → PlainRecord
plain_with drop colour mark bgf0 bgf1 bgf2 =
    record {
      hours = 1;
      minutes = 2;
      seconds = 3;
      frames = 4;
      drop = drop;
      colour = colour;
      mark = mark;
      bgf0 = bgf0;
      bgf1 = bgf1;
      bgf2 = bgf2;
      group1 = 6;
      group2 = 7;
      group3 = 8;
      group4 = 9;
      group5 = 10;
      group6 = 11;
      group7 = 12;
      group8 = 13;
      place = 5;
    }

abbrev record_with : Flag → Flag → Flag → Flag → Flag → Flag → Record
record_with drop colour mark bgf0 bgf1 bgf2 =
    record {
      address = showing 1 2 3 4;
      flags = record { drop = drop; colour = colour; mark = mark; bgf0 = bgf0; bgf1 = bgf1; bgf2 = bgf2 };
      groups = record { group1 = 6; group2 = 7; group3 = 8; group4 = 9; group5 = 10; group6 = 11; group7 = 12; group8 = 13 };
      place = 5;
    }

-- three settings, in which no two flags are set alike
abbrev plain_sample : PlainRecord
plain_sample = plain_with 1 0 1 0 1 0

abbrev sample : Record
sample = record_with Yes No Yes No Yes No

pub record_by_name :
    (record_given plain_sample ≡ sample) × (record_shown sample ≡ plain_sample)
    × (record_given (plain_with 0 1 1 0 0 1) ≡ record_with No Yes Yes No No Yes) × (record_shown (record_with No Yes Yes No No Yes) ≡ plain_with 0 1 1 0 0 1)
    × (record_given (plain_with 0 0 0 1 1 1) ≡ record_with No No No Yes Yes Yes) × (record_shown (record_with No No No Yes Yes Yes) ≡ plain_with 0 0 0 1 1 1)
unfolding record_given record_shown flags_given groups_given
record_by_name = (refl, refl, refl, refl, refl, refl)

pub reader_by_name :
    reader_given (record { info = 1; sync = 2; mode = 3; ways = 1; held = 4 })
    ≡ record { mode = 3; ways = Both; held = 4; info = 1; sync = 2 }
reader_by_name = refl

-- what a packet carries, and zeros beside a refusal
pub contents_by_name :
    packet_answer (Ok (record { «record» = sample; payload_type = 1; second = 2 }))
    ≡ record { code = 100; contents = record { «record» = plain_sample; payload_type = 1; second = 2 } }
unfolding record_shown
contents_by_name = refl

-- what was found, and the way
pub heard_by_name :
    (heard_shown (Accepted (record { «record» = sample; found = Uncorrected; way = Forward })) ≡ record { code = 100; found = 1; way = 0; «record» = plain_sample })
    × (heard_shown (Accepted (record { «record» = sample; found = Corrected; way = Backward })) ≡ record { code = 100; found = 0; way = 1; «record» = plain_sample })
unfolding record_shown
heard_by_name = (refl, refl)

pub zeros :
    no_record
    ≡ record {
      hours = 0;
      minutes = 0;
      seconds = 0;
      frames = 0;
      drop = 0;
      colour = 0;
      mark = 0;
      bgf0 = 0;
      bgf1 = 0;
      bgf2 = 0;
      group1 = 0;
      group2 = 0;
      group3 = 0;
      group4 = 0;
      group5 = 0;
      group6 = 0;
      group7 = 0;
      group8 = 0;
      place = 0;
    }
unfolding no_record
zeros = refl
