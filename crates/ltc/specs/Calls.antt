-- What each call on linear words answers: its refusals in the table's order, and then what is accepted.
-- Assumes nothing.
use Rattle.refusals.specs.declared.types.Refusal.TheVariants.{ElementTooHigh, MarkSet, NoRoom, UnknownMode, WrongCheck, WrongLength, WrongSync}
use Rattle.polarity.specs.declared.types.Word.{Word}
use Rattle.refusals.specs.declared.types.Refusal.{Refusal}
use Rattle.std.specs.Prelude.{ℕ, Bool, not, ◌||◌, List, [], ◌∷◌, ◌++◌, eqb, length, drop, Err, Result, Ok}
use Rattle.refusals.specs.Answer.{Cause, ◌when◌, answer}
use Rattle.bits.specs.Bits.{some_above}
use Rattle.runs.specs.Run.{lacks_room, written_by, run_after, same}
use Rattle.rates.specs.declared.types.Flag.TheVariants.{No}
use Rattle.rates.specs.Rates.{is_yes}
use Rattle.record.specs.declared.types.Record.{Record}
use Rattle.record.specs.Record.{marked}
use Rattle.modes.specs.declared.types.Shows.TheVariants.{First}
use Rattle.modes.specs.Calls.{record_in, bits_refusals_in, write_refusals_in}
use Rattle.modes.specs.Modes.{unknown, rate_at, with_mode}
use Rattle.modes.specs.Shown.{unshown}
use Rattle.polarity.specs.declared.types.Found.{Found}
use Rattle.polarity.specs.Word.{reading, sync_word, info_in, miscorrected, found_in, word_of}

-- reading: 1 not exactly 80 elements; 2 a mode that is unknown; 3 an element above 1; 4 another sync word; 5 "only if its zeros are odd and its polarity
-- bit is 1"; then the record's
abbrev pub read_refusals : ℕ → List ℕ → List Cause
read_refusals mode word =
    (WrongLength when not (eqb (length word) 80))
    ∷ (UnknownMode when unknown mode)
    ∷ (ElementTooHigh when some_above 1 word)
    ∷ (WrongSync when not (same (drop 64 word) sync_word))
    ∷ (WrongCheck when miscorrected (rate_at mode) word)
    ∷ bits_refusals_in mode (info_in word)

-- the record with mark 0, of the first picture, and what was found
unfoldable pub read_of : ℕ → List ℕ → Result Word Refusal
read_of mode word = answer Err (read_refusals mode word) (Ok (reading (marked No (record_in mode (info_in word))) (found_in word)))

-- a mark, or (A4) "a second picture"
abbrev pub mark_or_second : ℕ → Record → Bool
mark_or_second mode r = is_yes r.flags.mark || unshown mode First r

-- writing: 2; 8, 9 and 10 of the record; 11 a mark or a second picture; 12 no room for 80 elements from the start
unfoldable pub written_rows : ℕ → Record → ℕ → List ℕ → List Cause
written_rows mode r start run =
    with_mode mode
    (write_refusals_in mode r ++ ((MarkSet when mark_or_second mode r) ∷ (NoRoom when lacks_room 80 start (length run)) ∷ []))

unfoldable pub written_of : ℕ → Record → ℕ → List ℕ → Result Unit Refusal
written_of mode r start run = written_by (written_rows mode r start run)

-- the lent run as a write leaves it that is told which to make
unfoldable pub run_of : ℕ → Record → Found → ℕ → List ℕ → List ℕ
run_of mode r make start run = run_after (written_rows mode r start run) start (word_of mode r make) run
