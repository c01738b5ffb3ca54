-- What each call answers: its refusals in the table's order, and then what is accepted.
-- Assumes nothing.
use Rattle.refusals.specs.declared.types.Refusal.{Refusal}
use Rattle.std.specs.Prelude.{ℕ, List, ◌++◌, Err, Ok, Result}
use Rattle.refusals.specs.Answer.{Cause, answer}
use Rattle.runs.specs.Run.{written_by, run_after, room_refusals}
use Rattle.record.specs.declared.types.Record.{Record}
use Rattle.modes.specs.Modes.{with_mode}
use Rattle.modes.specs.declared.types.Shows.TheVariants.{ByMark}
use Rattle.modes.specs.Calls.{information_in, bits_refusals_in}
use Rattle.modes.specs.Shown.{shown_record, carried_refusals_in}
use Rattle.interval.specs.Line.{info_in, line_with}
use Rattle.interval.specs.Calls.{form_refusals}

-- those of the form; then those of the 64 bits
abbrev pub read_refusals : ℕ → List ℕ → List Cause
read_refusals mode line = form_refusals mode line ++ bits_refusals_in mode (info_in line)

-- the record, of the picture that its mark shows
unfoldable pub read_of : ℕ → List ℕ → Result Record Refusal
read_of mode line = answer Err (read_refusals mode line) (Ok (shown_record mode ByMark (info_in line)))

-- 2 a mode that is unknown; those of the record; 11 in modes 3 to 5, the mark and the pair place differ; 12 fewer than 90 elements from the start given, or start past the end
abbrev pub written_rows : ℕ → Record → ℕ → List ℕ → List Cause
written_rows mode r start run = with_mode mode (carried_refusals_in mode ByMark r ++ room_refusals 90 start run)

unfoldable pub written_of : ℕ → Record → ℕ → List ℕ → Result Unit Refusal
written_of mode r start run = written_by (written_rows mode r start run)

-- the line of a record
unfoldable pub line_of : ℕ → Record → List ℕ
line_of mode r = line_with (information_in mode r)

-- the lent run as a write leaves it
abbrev pub run_of : ℕ → Record → ℕ → List ℕ → List ℕ
run_of mode r start run = run_after (written_rows mode r start run) start (line_of mode r) run
