-- What a reader is judged to be: refused as the list says, or of a known mode and a state that feeding reaches.
-- Assumes nothing.
use mathlib.Core.Path.{◌≡◌}
use Rattle.std.specs.Prelude.{Result, Ok}
use Rattle.refusals.specs.declared.types.Refusal.{Refusal}
use Rattle.refusals.specs.Answer.{verdict_of}
use Rattle.refusals.proofs.Verdicts.{sound_clear}
use Rattle.register.specs.declared.types.Reader.{Reader}
use Rattle.reader.specs.Steps.{reader_refusals}
use Rattle.reader.specs.Feeding.{Passing}

-- a reader that nothing is found against passes
pub passing : (reader : Reader) (found : Result Unit Refusal) → found ≡ verdict_of (reader_refusals reader) → found ≡ Ok tt → Passing reader
passing reader found judged sound =
    let clear = sound_clear (reader_refusals reader) found judged sound in
    record { known = clear.0; passes = clear.1.0 }
