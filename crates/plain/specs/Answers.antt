-- "an answer has a code: 0 done or nothing, a refusal's own number, 100 accepted; one convention for all calls", and what stands beside the code: zeros on a refusal, and
-- where a reader answers nothing.
-- Assumes nothing.
use Rattle.refusals.specs.Table.{number}
use Rattle.clock.specs.declared.types.DayFrame.{DayFrame}
use Rattle.refusals.specs.declared.types.Refusal.{Refusal}
use Rattle.pictures.specs.declared.types.PictureInSecond.{PictureInSecond}
use Rattle.pictures.specs.declared.types.Picture.{Picture}
use Rattle.polarity.specs.declared.types.Word.{Word}
use Rattle.record.specs.declared.types.Record.{Record}
use Rattle.atc.specs.declared.types.Contents.{Contents}
use Rattle.std.specs.Prelude.{ℕ, pos, Err, Ok, Result, ℤ}
use Rattle.hearing.specs.declared.types.Heard.{Heard}
use Rattle.hearing.specs.declared.types.Heard.TheVariants.{Nothing, Accepted, Refused}
use Rattle.reader.specs.declared.types.Stepped.{Stepped}
use Rattle.reader.specs.declared.types.Blocked.{Blocked}
use Rattle.plain.specs.declared.types.PlainPicture.{PlainPicture}
use Rattle.plain.specs.declared.types.PlainRecord.{PlainRecord}
use Rattle.plain.specs.declared.types.PlainContents.{PlainContents}
use Rattle.plain.specs.declared.types.PlainReader.{PlainReader}
use Rattle.plain.specs.declared.types.PlainHeard.{PlainHeard}
use Rattle.plain.specs.declared.types.NumberAnswer.{NumberAnswer}
use Rattle.plain.specs.declared.types.SecondAnswer.{SecondAnswer}
use Rattle.plain.specs.declared.types.PictureAnswer.{PictureAnswer}
use Rattle.plain.specs.declared.types.DistanceAnswer.{DistanceAnswer}
use Rattle.plain.specs.declared.types.WordAnswer.{WordAnswer}
use Rattle.plain.specs.declared.types.LineAnswer.{LineAnswer}
use Rattle.plain.specs.declared.types.PacketAnswer.{PacketAnswer}
use Rattle.plain.specs.declared.types.StepAnswer.{StepAnswer}
use Rattle.plain.specs.declared.types.BlockAnswer.{BlockAnswer}
use Rattle.plain.specs.Shown.{found_shown, way_shown, picture_shown, record_shown, reader_shown}

-- "0 done or nothing", "100 accepted"
abbrev pub done : ℕ
done = 0

abbrev pub accepted : ℕ
accepted = 100

-- "zeros"
abbrev pub no_picture : PlainPicture
no_picture = record { hours = 0; minutes = 0; seconds = 0; frames = 0; place = 0 }

unfoldable pub no_record : PlainRecord
no_record =
    record {
      hours = 0;
      minutes = 0;
      seconds = 0;
      frames = 0;
      drop = 0;
      colour = 0;
      mark = 0;
      bgf0 = 0;
      bgf1 = 0;
      bgf2 = 0;
      group1 = 0;
      group2 = 0;
      group3 = 0;
      group4 = 0;
      group5 = 0;
      group6 = 0;
      group7 = 0;
      group8 = 0;
      place = 0;
    }

-- a count: done, and the number, the picture or the distance
abbrev pub number_answer : Result DayFrame Refusal → NumberAnswer
number_answer (Ok n) = record { code = done; number = n.0 }
number_answer (Err r) = record { code = number r; number = 0 }

abbrev pub second_answer : Result PictureInSecond Refusal → SecondAnswer
second_answer (Ok n) = record { code = done; number = n.0 }
second_answer (Err r) = record { code = number r; number = 0 }

abbrev pub picture_answer : Result Picture Refusal → PictureAnswer
picture_answer (Ok p) = record { code = done; picture = picture_shown p }
picture_answer (Err r) = record { code = number r; picture = no_picture }

abbrev pub distance_answer : Result ℤ Refusal → DistanceAnswer
distance_answer (Ok z) = record { code = done; pictures = z }
distance_answer (Err r) = record { code = number r; pictures = pos 0 }

-- a write: done, and nothing beside the code
abbrev pub written_code : Result Unit Refusal → ℕ
written_code (Ok tt) = done
written_code (Err r) = number r

-- a read: accepted, and what was read
abbrev pub word_answer : Result Word Refusal → WordAnswer
word_answer (Ok w) = record { code = accepted; found = found_shown w.found; «record» = record_shown w.«record» }
word_answer (Err r) = record { code = number r; found = 0; «record» = no_record }

abbrev pub line_answer : Result Record Refusal → LineAnswer
line_answer (Ok r) = record { code = accepted; «record» = record_shown r }
line_answer (Err r) = record { code = number r; «record» = no_record }

abbrev pub contents_with : PlainRecord → ℕ → ℕ → PlainContents
contents_with r type second = record { «record» = r; payload_type = type; second = second }

abbrev pub packet_answer : Result Contents Refusal → PacketAnswer
packet_answer (Ok c) = record { code = accepted; contents = contents_with (record_shown c.«record») c.payload_type c.second }
packet_answer (Err r) = record { code = number r; contents = contents_with no_record 0 0 }

-- a step: nothing, accepted with the whole record, or refused; and the reader after it
abbrev pub heard_with : ℕ → ℕ → ℕ → PlainRecord → PlainHeard
heard_with code found way r = record { code = code; found = found; way = way; «record» = r }

abbrev pub heard_shown : Heard → PlainHeard
heard_shown Nothing = heard_with done 0 0 no_record
heard_shown (Accepted report) =
    heard_with accepted (found_shown report.found) (way_shown report.way) (record_shown report.«record»)
heard_shown (Refused r) = heard_with (number r) 0 0 no_record

abbrev pub step_with : PlainHeard → PlainReader → StepAnswer
step_with heard reader = record { heard = heard; reader = reader }

abbrev pub step_answer : Stepped → StepAnswer
step_answer s = step_with (heard_shown s.heard) (reader_shown s.reader)

-- a block: the same, and the number of bits that it took
abbrev pub block_with : PlainHeard → PlainReader → ℕ → BlockAnswer
block_with heard reader taken = record { heard = heard; reader = reader; taken = taken }

abbrev pub block_answer : Blocked → BlockAnswer
block_answer b = block_with (heard_shown b.heard) (reader_shown b.reader) b.taken
