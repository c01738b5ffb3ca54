-- What reading and writing linear words, vertical interval lines and ancillary packets answer a host, and the lent run as a write leaves it.
-- Assumes nothing.
use Rattle.refusals.specs.declared.types.Refusal.{Refusal}
use Rattle.refusals.specs.declared.types.Refusal.TheVariants.{WrongLength}
use Rattle.std.specs.Prelude.{ℕ, not, ◌||◌, List, [], ◌∷◌, eqb, length, Err}
use Rattle.refusals.specs.Answer.{Cause, ◌when◌, answer}
use Rattle.modes.specs.Modes.{with_mode, with_counting}
use Rattle.ltc.specs.Calls as ltc
use Rattle.vitc.specs.Calls as vitc
use Rattle.atc.specs.Calls as atc
use Rattle.plain.specs.declared.types.PlainRecord.{PlainRecord}
use Rattle.plain.specs.declared.types.PlainContents.{PlainContents}
use Rattle.plain.specs.declared.types.WordAnswer.{WordAnswer}
use Rattle.plain.specs.declared.types.LineAnswer.{LineAnswer}
use Rattle.plain.specs.declared.types.PacketAnswer.{PacketAnswer}
use Rattle.plain.specs.Given.{record_given, flag_above_1, no_make, make_given, no_interface, interface_given}
use Rattle.plain.specs.Answers.{word_answer, line_answer, packet_answer, written_code}
use Rattle.host.specs.Unnamed.{then_unnamed}

-- a read is handed nothing but a mode and a run
unfoldable pub ltc_read : ℕ → List ℕ → WordAnswer
ltc_read mode word = word_answer (ltc.read_of mode word)

unfoldable pub vitc_read : ℕ → List ℕ → LineAnswer
vitc_read mode line = line_answer (vitc.read_of mode line)

-- 2 a mode that is unknown; 3 a flag above 1, or a make that is none; and else as the write answers
abbrev pub ltc_rows : ℕ → PlainRecord → ℕ → List Cause
ltc_rows mode r make = then_unnamed (with_mode mode []) (flag_above_1 r || no_make make)

unfoldable pub ltc_written : ℕ → PlainRecord → ℕ → ℕ → List ℕ → ℕ
ltc_written mode r make start run = written_code (answer Err (ltc_rows mode r make) (ltc.written_of mode (record_given r) start run))

-- "A refused write leaves every element"
unfoldable pub ltc_run : ℕ → PlainRecord → ℕ → ℕ → List ℕ → List ℕ
ltc_run mode r make start run =
    answer (λ (_ : Refusal). run) (ltc_rows mode r make) (ltc.run_of mode (record_given r) (make_given make) start run)

abbrev pub vitc_rows : ℕ → PlainRecord → List Cause
vitc_rows mode r = then_unnamed (with_mode mode []) (flag_above_1 r)

unfoldable pub vitc_written : ℕ → PlainRecord → ℕ → List ℕ → ℕ
vitc_written mode r start run = written_code (answer Err (vitc_rows mode r) (vitc.written_of mode (record_given r) start run))

unfoldable pub vitc_run : ℕ → PlainRecord → ℕ → List ℕ → List ℕ
vitc_run mode r start run = answer (λ (_ : Refusal). run) (vitc_rows mode r) (vitc.run_of mode (record_given r) start run)

-- 1 not exactly 23 elements; 2 a mode in which nothing is counted; 3 an interface that is none; and else as the read answers
abbrev pub open_rows : ℕ → ℕ → List ℕ → List Cause
open_rows mode interface words = then_unnamed ((WrongLength when not (eqb (length words) 23)) ∷ with_counting mode []) (no_interface interface)

unfoldable pub atc_read : ℕ → ℕ → List ℕ → PacketAnswer
atc_read mode interface words =
    packet_answer (answer Err (open_rows mode interface words) (atc.read_of mode (interface_given interface) words))

-- 2 a mode in which nothing is counted; 3 a flag above 1, or an interface that is none; and else as the write answers
abbrev pub atc_rows : ℕ → ℕ → PlainContents → List Cause
atc_rows mode interface c = then_unnamed (with_counting mode []) (flag_above_1 c.«record» || no_interface interface)

unfoldable pub atc_written : ℕ → ℕ → PlainContents → ℕ → List ℕ → ℕ
atc_written mode interface c start run =
    written_code
    (answer Err (atc_rows mode interface c)
    (atc.written_of mode (interface_given interface) (record_given c.«record») c.payload_type c.second start run))

unfoldable pub atc_run : ℕ → ℕ → PlainContents → ℕ → List ℕ → List ℕ
atc_run mode interface c start run =
    answer (λ (_ : Refusal). run) (atc_rows mode interface c)
    (atc.run_of mode (interface_given interface) (record_given c.«record») c.payload_type c.second start run)
