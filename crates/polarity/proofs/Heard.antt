-- Bits that 5 does not refuse are heard as what the record says, the mark taken off, with what was found.
-- Assumes nothing.
use Prim.Native.Nat.{ℕ}
use mathlib.Core.Path.{◌≡◌, sym}
use mathlib.Core.Bool.{false}
use Rattle.record.specs.declared.types.Record.{Record}
use Rattle.refusals.specs.declared.types.Refusal.{Refusal}
use Rattle.polarity.specs.declared.types.Word.{Word}
use Rattle.std.specs.Prelude.{Err, Ok, Result}
use Rattle.refusals.proofs.Answered.{carried}
use Rattle.rates.specs.declared.types.Flag.TheVariants.{No}
use Rattle.record.specs.Record.{marked}
use Rattle.modes.specs.Calls.{record_in, bits_refusals_in, unpacked_in}
use Rattle.modes.specs.Modes.{rate_at, with_mode}
use Rattle.polarity.specs.declared.types.Found.{Found}
use Rattle.polarity.specs.Word.{reading, word_with, miscorrected, found_in}
use Rattle.polarity.specs.Heard.{heard_of}

-- what the record says, the mark taken off, with what was found
abbrev pub with_found : Found → Result Record Refusal → Result Word Refusal
with_found found (Ok r) = Ok (reading (marked No r) found)
with_found found (Err n) = Err n

-- bits that 5 does not refuse are heard as that
pub heard_is :
    (mode info : ℕ) → miscorrected (rate_at mode) (word_with info) ≡ false
    → heard_of mode info ≡ with_found (found_in (word_with info)) (unpacked_in mode info)
unfolding heard_of unpacked_in
heard_is mode info right =
    rw right (sym (carried (with_found (found_in (word_with info))) Err (Ok (record_in mode info)) (with_mode mode (bits_refusals_in mode info))))
