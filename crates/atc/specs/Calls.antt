-- What reading and writing a packet answer: refusals in the table's order, and then what is accepted.
-- Assumes nothing.
use Rattle.refusals.specs.declared.types.Refusal.TheVariants.{ImpossibleLine, MisnamedMode, UnknownType}
use Rattle.refusals.specs.declared.types.Refusal.{Refusal}
use Rattle.std.specs.Prelude.{ℕ, List, [], ◌∷◌, ◌++◌, Err, Ok, Result}
use Rattle.refusals.specs.Answer.{Cause, ◌when◌, answer}
use Rattle.runs.specs.Run.{written_by, run_after, room_refusals}
use Rattle.record.specs.declared.types.Record.{Record}
use Rattle.modes.specs.Modes.{with_counting}
use Rattle.superframes.specs.Named.{misnamed}
use Rattle.words.specs.Words.{info_in}
use Rattle.packets.specs.Packet.{packet_with, data_in, type_in, second_in, is_unknown_type}
use Rattle.packets.specs.Calls.{form_refusals}
use Rattle.atc.specs.declared.types.Interface.{Interface}
use Rattle.atc.specs.declared.types.Contents.{Contents}
use Rattle.atc.specs.Lines.{is_impossible_line}
use Rattle.atc.specs.Records.{held_in, held_refusals, info_for, carried_refusals}

-- what a packet carries besides its record: 7 a payload type that is not of the mode's family; straight after it 19, a line number that can't be, and 23, a second byte that does
-- not name the mode (no type of modes 6 to 10 is 1 or 2, so there 7 is given before 19)
abbrev pub payload_refusals : ℕ → Interface → ℕ → ℕ → List Cause
payload_refusals mode interface type second =
    (UnknownType when is_unknown_type mode type)
    ∷ (ImpossibleLine when is_impossible_line interface type second)
    ∷ (MisnamedMode when misnamed mode second)
    ∷ []

-- what a packet carries, once its form is judged: the type and the second byte, then the record's own
abbrev pub content_refusals : ℕ → Interface → List ℕ → List Cause
content_refusals mode interface words =
    payload_refusals mode interface (type_in words) (second_in words) ++ held_refusals mode (info_in (data_in words))

abbrev pub read_refusals : ℕ → Interface → List ℕ → List Cause
read_refusals mode interface words = form_refusals mode words ++ content_refusals mode interface words

abbrev pub contents_with : Record → ℕ → ℕ → Contents
contents_with r type second = record { «record» = r; payload_type = type; second = second }

-- "Reading gives record, type and second byte", the record of the picture that is shown; no mark is refused
unfoldable pub read_of : ℕ → Interface → List ℕ → Result Contents Refusal
read_of mode interface words =
    answer Err (read_refusals mode interface words)
    (Ok (contents_with (held_in mode (type_in words) (info_in (data_in words))) (type_in words) (second_in words)))

-- 2 a mode in which nothing is counted; 7, 19 and 23; the record's own; 11 in modes 3 to 5, another picture than the packet shows; 12 fewer than 23 elements from the start, or start past the end
abbrev pub written_rows : ℕ → Interface → Record → ℕ → ℕ → ℕ → List ℕ → List Cause
written_rows mode interface r type second start run =
    with_counting mode
    (payload_refusals mode interface type second ++ (carried_refusals mode type r ++ room_refusals 23 start run))

unfoldable pub written_of : ℕ → Interface → Record → ℕ → ℕ → ℕ → List ℕ → Result Unit Refusal
written_of mode interface r type second start run = written_by (written_rows mode interface r type second start run)

-- the packet of a record, a type and a second byte
abbrev pub packet_of : ℕ → Record → ℕ → ℕ → List ℕ
packet_of mode r type second = packet_with mode (info_for mode r) type second

-- "A refused write leaves every element. A write fills its own elements from the given start .. and touches no other"
unfoldable pub run_of : ℕ → Interface → Record → ℕ → ℕ → ℕ → List ℕ → List ℕ
run_of mode interface r type second start run =
    run_after (written_rows mode interface r type second start run) start (packet_of mode r type second) run

-- A step of `read`, which no promise to a caller names: the record's own answer, with the type and the second byte beside it.
abbrev pub packet_as : ℕ → ℕ → Result Record Refusal → Result Contents Refusal
packet_as type second (Ok r) = Ok (contents_with r type second)
packet_as type second (Err n) = Err n
