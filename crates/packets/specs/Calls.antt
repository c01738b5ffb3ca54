-- What each call answers: refusals in the table's order.
-- Assumes nothing.
use Rattle.refusals.specs.declared.types.Refusal.TheVariants.{ElementTooHigh, LowBitsSet, UnknownMode, WrongCheck, WrongLength, WrongSync}
use Rattle.std.specs.Prelude.{ℕ, not, ◌||◌, List, [], ◌∷◌, eqb, length, get_or}
use Rattle.refusals.specs.Answer.{Cause, ◌when◌}
use Rattle.bits.specs.Bits.{some_above}
use Rattle.runs.specs.Run.{room_refusals}
use Rattle.modes.specs.Modes.{uncounted, with_counting}
use Rattle.words.specs.Words.{wrong_word, low_set, some_word}
use Rattle.packets.specs.Packet.{is_headed, checksum_of, data_in}

-- the form of a packet, whatever it carries: 1 not exactly 23 elements; 2 a mode in which nothing is counted; 3 an element above 1,023; 4 one of the first six
-- words is wrong, the fifth by the mode's family; 5 b8 or b9 of a data word, or the checksum word; 6 b0 to b2 of a data word not zero
abbrev pub form_refusals : ℕ → List ℕ → List Cause
form_refusals mode words =
    (WrongLength when not (eqb (length words) 23))
    ∷ (UnknownMode when uncounted mode)
    ∷ (ElementTooHigh when some_above 1023 words)
    ∷ (WrongSync when not (is_headed mode words))
    ∷ (WrongCheck when (some_word wrong_word (data_in words) || not (eqb (get_or words 22 0) (checksum_of words))))
    ∷ (LowBitsSet when some_word low_set (data_in words))
    ∷ []

-- placing the 23 words: 2 a mode in which nothing is counted, which has no packets; 12 no room for them
abbrev pub place_refusals : ℕ → ℕ → List ℕ → List Cause
place_refusals mode start run = with_counting mode (room_refusals 23 start run)
