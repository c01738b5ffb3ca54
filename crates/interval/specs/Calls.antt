-- What each call answers: refusals in the table's order.
-- Assumes nothing.
use Rattle.refusals.specs.declared.types.Refusal.TheVariants.{ElementTooHigh, UnknownMode, WrongCheck, WrongLength, WrongSync}
use Rattle.std.specs.Prelude.{ℕ, not, List, [], ◌∷◌, eqb, length}
use Rattle.refusals.specs.Answer.{Cause, ◌when◌}
use Rattle.bits.specs.Bits.{some_above}
use Rattle.modes.specs.Modes.{unknown}
use Rattle.interval.specs.Line.{wrong_pair, wrong_crc}

-- the form of a line, whatever it carries: 1 not exactly 90 elements; 2 a mode that is unknown; 3 an element above 1; 4 a sync pair is wrong; 5 CRC
abbrev pub form_refusals : ℕ → List ℕ → List Cause
form_refusals mode line =
    (WrongLength when not (eqb (length line) 90))
    ∷ (UnknownMode when unknown mode)
    ∷ (ElementTooHigh when some_above 1 line)
    ∷ (WrongSync when wrong_pair line)
    ∷ (WrongCheck when wrong_crc line)
    ∷ []
