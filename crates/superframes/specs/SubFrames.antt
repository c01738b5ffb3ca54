-- Document 02, A6: "The picture within a super-frame is carried in sub-frame bits, sub-frame 1 the highest. For 30x4, 24x5, 96 and 72: sub-frame 1 at bit 27, 2 at 11, and 3 at
-- 43, used only by 24x5; for 100: 1 at 59, 2 at 11." By the table of flags these are the mark, the colour frame bit and BGF0 at the super-frame's own rate, and sub-frames 4 and
-- 5, which no mode uses, are BGF1 and BGF2 (source document 003, Table 2). So nothing stands anywhere else than in document 01: a place is spread over a record's flags, and
-- gathered from them. Said of any number of pictures to a super-frame.
-- Assumes nothing.
use Rattle.std.specs.Prelude.{ℕ, ◌+◌, ◌*◌, ◌/◌, ◌%◌, Bool, ◌&&◌, ◌||◌, cond, leb}
use Rattle.rates.specs.declared.types.Flag.{Flag}
use Rattle.rates.specs.declared.types.Flag.TheVariants.{No}
use Rattle.rates.specs.Rates.{is_yes}
use Rattle.layout.specs.Flags.{flag_of, bit_of}
use Rattle.record.specs.declared.types.Flags.{Flags}
use Rattle.record.specs.declared.types.Record.{Record}

-- "3 at 43, used only by 24x5": up to four pictures need only two bits
abbrev pub two_bits : ℕ → Bool
two_bits pictures = leb pictures 4

-- three sub-frames as a number, "sub-frame 1 the highest"
abbrev pub three_as : Flag → Flag → Flag → ℕ
three_as first second third = 4 * bit_of first + (2 * bit_of second + bit_of third)

-- the place that they say: by the upper two of them where two are used
abbrev pub place_said : ℕ → Flag → Flag → Flag → ℕ
place_said pictures first second third = cond (two_bits pictures) (three_as first second third / 2) (three_as first second third)

abbrev pub place_in : ℕ → Flags → ℕ
place_in pictures f = place_said pictures f.mark f.colour f.bgf0

-- and the number that three sub-frames make for a place
abbrev pub three_for : ℕ → ℕ → ℕ
three_for pictures place = cond (two_bits pictures) (2 * place) place

-- "Other sub-frame bits must be zero"
abbrev pub other_set : ℕ → Flags → Bool
other_set pictures f = (two_bits pictures && is_yes f.bgf0) || (is_yes f.bgf1 || is_yes f.bgf2)

-- "A record with colour, mark or a group flag set"
abbrev pub flag_besides_drop : Flags → Bool
flag_besides_drop f = is_yes f.colour || (is_yes f.mark || (is_yes f.bgf0 || (is_yes f.bgf1 || is_yes f.bgf2)))

-- read: the record of a place, with no flag but drop; and that of the place that the sub-frame bits say
abbrev pub placed_at : ℕ → Flag → Record → Record
placed_at place drop held =
    record {
      address = held.address;
      flags = record { drop = drop; colour = No; mark = No; bgf0 = No; bgf1 = No; bgf2 = No };
      groups = held.groups;
      place = place;
    }

abbrev pub gathered : ℕ → Record → Record
gathered pictures held = placed_at (place_in pictures held.flags) held.flags.drop held

-- written: the record with a number of three bits in its flags; and with the one that three sub-frames make for its place
abbrev pub flagged : ℕ → Record → Record
flagged three r =
    record {
      address = r.address;
      flags =
          record {
            drop = r.flags.drop;
            colour = flag_of (three / 2 % 2);
            mark = flag_of (three / 4 % 2);
            bgf0 = flag_of (three % 2);
            bgf1 = No;
            bgf2 = No;
          };
      groups = r.groups;
      place = 0;
    }

abbrev pub spread : ℕ → Record → Record
spread pictures r = flagged (three_for pictures r.place) r
