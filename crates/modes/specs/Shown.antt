-- Document 02, A4: "In VITC and ATC the mark is 0 on the first of a pair and 1 on the second; LTC has one word for each pair, .. which reads as its first picture". Which
-- picture of an address a word, a line or a packet shows, written; and read, of lines and packets (a linear word is read as its bits are, which hold the first).
-- Assumes nothing.
use Rattle.refusals.specs.declared.types.Refusal.{Refusal}
use Rattle.refusals.specs.declared.types.Refusal.TheVariants.{MarkSet}
use Rattle.std.specs.Prelude.{ℕ, Bool, not, cond, List, [], ◌∷◌, ◌++◌, eqb, Err, Ok, Result}
use Rattle.refusals.specs.Answer.{Cause, ◌when◌, answer}
use Rattle.rates.specs.declared.types.Flag.{Flag}
use Rattle.layout.specs.Flags.{bit_of}
use Rattle.pictures.specs.Pictures.{several}
use Rattle.record.specs.declared.types.Record.{Record}
use Rattle.record.specs.Record.{at_place}
use Rattle.modes.specs.declared.types.Shows.{Shows}
use Rattle.modes.specs.declared.types.Shows.TheVariants.{First, ByMark}
use Rattle.modes.specs.Modes.{pictures_at, with_mode}
use Rattle.modes.specs.Calls.{record_in, information_in, bits_refusals_in, write_refusals_in}

-- the place that is shown: the first, or by the mark, which says nothing of a place where a picture has the address to itself
abbrev pub place_shown : ℕ → Shows → Flag → ℕ
place_shown mode First mark = 0
place_shown mode ByMark mark = cond (several (pictures_at mode)) (bit_of mark) 0

-- read: the record that the bits hold, at the place that is shown
abbrev pub shown_record : ℕ → Shows → ℕ → Record
shown_record mode shows info = at_place (place_shown mode shows (record_in mode info).flags.mark) (record_in mode info)

unfoldable pub shown_in : ℕ → Shows → ℕ → Result Record Refusal
shown_in mode shows info = answer Err (with_mode mode (bits_refusals_in mode info)) (Ok (shown_record mode shows info))

-- written: "refused by 11 if the record's mark and pair place differ", and what shows the first alone refuses "a second picture by 11"
abbrev pub unshown : ℕ → Shows → Record → Bool
unshown mode shows r = not (eqb r.place (place_shown mode shows r.flags.mark))

-- what a record is refused with where it is carried: its own refusals, and then 11
abbrev pub carried_refusals_in : ℕ → Shows → Record → List Cause
carried_refusals_in mode shows r = write_refusals_in mode r ++ ((MarkSet when unshown mode shows r) ∷ [])

-- the bits that carry it
unfoldable pub carried_in : ℕ → Shows → Record → Result ℕ Refusal
carried_in mode shows r = answer Err (with_mode mode (carried_refusals_in mode shows r)) (Ok (information_in mode r))
