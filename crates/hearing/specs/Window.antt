-- "A step .. answers nothing if it holds fewer than 80 or the last 16 are not the sync word; else it answers the record, or the first refusal that
-- applies to those 80 bits." A3: "With reverse allowed, a window of 80 bits that reads backwards as an accepted word is reported as such, with its
-- direction .. Complaints are given only for windows that end in the forward sync word, so a bad reversed word is passed over."
-- Assumes nothing.
use Rattle.polarity.specs.declared.types.Word.{Word}
use Rattle.refusals.specs.declared.types.Refusal.{Refusal}
use Rattle.std.specs.Prelude.{ℕ, ◌&&◌, cond, List, reverse, eqb, length, drop, Err, Result, Ok}
use Rattle.runs.specs.Run.{same}
use Rattle.record.specs.declared.types.Record.{Record}
use Rattle.polarity.specs.declared.types.Found.{Found}
use Rattle.polarity.specs.Word.{sync_word}
use Rattle.ltc.specs.Calls.{read_of}
use Rattle.register.specs.declared.types.Ways.{Ways}
use Rattle.register.specs.declared.types.Ways.TheVariants.{ForwardOnly, Both}
use Rattle.hearing.specs.declared.types.Way.{Way}
use Rattle.hearing.specs.declared.types.Way.TheVariants.{Forward, Backward}
use Rattle.hearing.specs.declared.types.Report.{Report}
use Rattle.hearing.specs.declared.types.Heard.{Heard}
use Rattle.hearing.specs.declared.types.Heard.TheVariants.{Nothing, Accepted, Refused}

-- a record, what was found, and which way it runs
abbrev pub reporting : Record → Found → Way → Report
reporting r found way = record { «record» = r; found = found; way = way }

-- "The answer holds the whole record inside the accepted case", and beside it what was found and the way
abbrev pub told : Result Word Refusal → Heard
told (Ok word) = Accepted (reporting word.«record» word.found Forward)
told (Err n) = Refused n

-- what is heard forward in the bits that are held
unfoldable pub forward_in : ℕ → List ℕ → Heard
forward_in mode bits = cond (eqb (length bits) 80 && same (drop 64 bits) sync_word) (told (read_of mode bits)) Nothing

-- "With reverse allowed", and else nothing; and what is not accepted "is passed over"
abbrev pub told_backward : Ways → Result Word Refusal → Heard
told_backward ForwardOnly word = Nothing
told_backward Both (Ok word) = Accepted (reporting word.«record» word.found Backward)
told_backward Both (Err n) = Nothing

-- what is heard backward: the bits that are held, turned round. Fewer than 80 are no word
unfoldable pub backward_in : ℕ → Ways → List ℕ → Heard
backward_in mode ways bits = told_backward ways (read_of mode (reverse bits))

-- an answer, or where there is none another
abbrev pub or_else : Heard → Heard → Heard
or_else Nothing other = other
or_else (Accepted report) other = Accepted report
or_else (Refused n) other = Refused n

-- what is heard in the bits that are held
unfoldable pub heard_in : ℕ → Ways → List ℕ → Heard
heard_in mode ways bits = or_else (forward_in mode bits) (backward_in mode ways bits)
