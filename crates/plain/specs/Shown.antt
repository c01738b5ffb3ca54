-- Our types in a host's numbers: what `Given` reads there.
-- Assumes nothing.
use Rattle.std.specs.Prelude.{ℕ}
use Rattle.rates.specs.declared.types.Flag.{Flag}
use Rattle.rates.specs.Rates.{flag_number}
use Rattle.pictures.specs.declared.types.Picture.{Picture}
use Rattle.record.specs.declared.types.Record.{Record}
use Rattle.polarity.specs.declared.types.Found.{Found}
use Rattle.polarity.specs.Numbers.{found_number}
use Rattle.hearing.specs.declared.types.Way.{Way}
use Rattle.hearing.specs.Numbers.{way_number}
use Rattle.register.specs.declared.types.Ways.{Ways}
use Rattle.register.specs.Numbers.{ways_number}
use Rattle.register.specs.declared.types.Reader.{Reader}
use Rattle.plain.specs.declared.types.PlainPicture.{PlainPicture}
use Rattle.plain.specs.declared.types.PlainRecord.{PlainRecord}
use Rattle.plain.specs.declared.types.PlainReader.{PlainReader}

abbrev pub flag_shown : Flag → ℕ
flag_shown = flag_number

abbrev pub found_shown : Found → ℕ
found_shown = found_number

abbrev pub way_shown : Way → ℕ
way_shown = way_number

abbrev pub ways_shown : Ways → ℕ
ways_shown = ways_number

abbrev pub picture_shown : Picture → PlainPicture
picture_shown p =
    record { hours = p.address.hours; minutes = p.address.minutes; seconds = p.address.seconds; frames = p.address.frames.0; place = p.place }

unfoldable pub record_shown : Record → PlainRecord
record_shown r =
    record {
      hours = r.address.hours;
      minutes = r.address.minutes;
      seconds = r.address.seconds;
      frames = r.address.frames.0;
      drop = flag_shown r.flags.drop;
      colour = flag_shown r.flags.colour;
      mark = flag_shown r.flags.mark;
      bgf0 = flag_shown r.flags.bgf0;
      bgf1 = flag_shown r.flags.bgf1;
      bgf2 = flag_shown r.flags.bgf2;
      group1 = r.groups.group1;
      group2 = r.groups.group2;
      group3 = r.groups.group3;
      group4 = r.groups.group4;
      group5 = r.groups.group5;
      group6 = r.groups.group6;
      group7 = r.groups.group7;
      group8 = r.groups.group8;
      place = r.place;
    }

abbrev pub reader_shown : Reader → PlainReader
reader_shown r = record { info = r.info; sync = r.sync; mode = r.mode; ways = ways_shown r.ways; held = r.held }
