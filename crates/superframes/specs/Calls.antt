-- What each call answers in the modes of high frame rates, 6 to 10: refusals in the table's order, and then what is accepted. (`atc/specs/Records.antt` has these lists and those of
-- modes 0 to 5 as one; that they are the same is a law, `atc/proofs/Families.antt`.)
-- Assumes nothing.
use Rattle.refusals.specs.declared.types.Refusal.{Refusal}
use Rattle.refusals.specs.declared.types.Refusal.TheVariants.{UnknownMode}
use Rattle.std.specs.Prelude.{ℕ, not, ◌||◌, List, ◌∷◌, Err, Ok, Result}
use Rattle.refusals.specs.Answer.{Cause, ◌when◌, answer}
use Rattle.rates.specs.declared.types.Rate.{Rate}
use Rattle.rates.specs.Refused.{refusals_besides}
use Rattle.pictures.specs.Pictures.{place_outside}
use Rattle.record.specs.declared.types.Record.{Record}
use Rattle.record.specs.Record.{record_of, info_of, digit_above_9, group_above_15}
use Rattle.modes.specs.Modes.{rate_at, pictures_at, high_rate}
use Rattle.superframes.specs.SubFrames.{place_in, other_set, flag_besides_drop, gathered, spread}

-- reading: 8 as of any bits, or a place "not below the pictures to an address"; 9; 10 "Other sub-frame bits", or drop at 24 or 25
abbrev pub bits_refusals : Rate → ℕ → ℕ → List Cause
bits_refusals rate pictures info =
    let held = record_of rate info in
    refusals_besides (digit_above_9 info || place_outside pictures (place_in pictures held.flags)) (other_set pictures held.flags) rate
    held.flags.drop held.address

-- writing: 8 as of any record, its place among them; 9; 10 "colour, mark or a group flag set", or drop at 24 or 25
abbrev pub write_refusals : Rate → ℕ → Record → List Cause
write_refusals rate pictures r =
    refusals_besides (place_outside pictures r.place || group_above_15 r.groups) (flag_besides_drop r.flags) rate r.flags.drop r.address

-- at a rate, with so many pictures to a super-frame
unfoldable pub unpacked_of : Rate → ℕ → ℕ → Result Record Refusal
unpacked_of rate pictures info = answer Err (bits_refusals rate pictures info) (Ok (gathered pictures (record_of rate info)))

unfoldable pub packed_of : Rate → ℕ → Record → Result ℕ Refusal
packed_of rate pictures r = answer Err (write_refusals rate pictures r) (Ok (info_of rate (spread pictures r)))

-- 2 comes first: these calls are of modes 6 to 10
abbrev pub with_high_rate : ℕ → List Cause → List Cause
with_high_rate mode rows = (UnknownMode when not (high_rate mode)) ∷ rows

unfoldable pub unpacked_in : ℕ → ℕ → Result Record Refusal
unpacked_in mode info =
    answer Err (with_high_rate mode (bits_refusals (rate_at mode) (pictures_at mode) info)) (Ok (gathered (pictures_at mode) (record_of (rate_at mode) info)))

unfoldable pub packed_in : ℕ → Record → Result ℕ Refusal
packed_in mode r =
    answer Err (with_high_rate mode (write_refusals (rate_at mode) (pictures_at mode) r)) (Ok (info_of (rate_at mode) (spread (pictures_at mode) r)))
