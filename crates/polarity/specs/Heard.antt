-- What 64 information bits are heard as, after which the sync word has been seen: refusals in the table's order, and then what is accepted.
-- Assumes nothing.
use Rattle.refusals.specs.declared.types.Refusal.TheVariants.{WrongCheck}
use Rattle.polarity.specs.declared.types.Word.{Word}
use Rattle.refusals.specs.declared.types.Refusal.{Refusal}
use Rattle.std.specs.Prelude.{ℕ, List, ◌∷◌, Err, Result, Ok}
use Rattle.refusals.specs.Answer.{Cause, ◌when◌, answer}
use Rattle.rates.specs.declared.types.Flag.TheVariants.{No}
use Rattle.record.specs.Record.{marked}
use Rattle.modes.specs.Modes.{rate_at, with_mode}
use Rattle.modes.specs.Calls.{record_in, bits_refusals_in}
use Rattle.polarity.specs.Word.{reading, word_with, miscorrected, found_in}

-- 2 a mode that is unknown; 5 "only if its zeros are odd and its polarity bit is 1"; then the record's
abbrev pub heard_refusals : ℕ → ℕ → List Cause
heard_refusals mode info = with_mode mode ((WrongCheck when miscorrected (rate_at mode) (word_with info)) ∷ bits_refusals_in mode info)

unfoldable pub heard_of : ℕ → ℕ → Result Word Refusal
heard_of mode info = answer Err (heard_refusals mode info) (Ok (reading (marked No (record_in mode info)) (found_in (word_with info))))
