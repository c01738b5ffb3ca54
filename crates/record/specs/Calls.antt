-- What each call of the record answers: its refusals in the table's order, and then what is accepted.
-- Assumes nothing.
use Rattle.refusals.specs.declared.types.Refusal.{Refusal}
use Rattle.std.specs.Prelude.{ℕ, Bool, false, ◌||◌, List, ltb, Err, Ok, Result}
use Rattle.refusals.specs.Answer.{Cause, answer}
use Rattle.rates.specs.declared.types.Rate.{Rate}
use Rattle.rates.specs.Refused.{refusals_besides}
use Rattle.record.specs.declared.types.Record.{Record}
use Rattle.layout.specs.Flags.{unused_colour}
use Rattle.record.specs.Record.{record_of, info_of, digit_above_9, group_above_15}

-- 8 a field outside the clock, or what `bad` says: a digit above 9 in the bits, a group above 15 in a record (by mode, a place that none of a pair has); 9 at 30, drop set, one of
-- the skipped addresses; 10 an unused bit: drop at 24 or 25, colour at 24, or what `unused` says: a place in a record
abbrev pub record_refusals : Rate → Bool → Bool → Record → List Cause
record_refusals rate bad unused r =
    refusals_besides bad (unused || unused_colour rate r.flags.colour) rate r.flags.drop r.address

-- the refusals of 64 information bits, and of a record: at a rate an address has one picture, and no place but the first is used
abbrev pub bits_refusals : Rate → ℕ → List Cause
bits_refusals rate info = record_refusals rate (digit_above_9 info) false (record_of rate info)

abbrev pub write_refusals : Rate → Record → List Cause
write_refusals rate r = record_refusals rate (group_above_15 r.groups) (ltb 0 r.place) r

-- the record that 64 information bits hold
unfoldable pub unpacked_of : Rate → ℕ → Result Record Refusal
unpacked_of rate info = answer Err (bits_refusals rate info) (Ok (record_of rate info))

-- the 64 information bits that a record makes
unfoldable pub packed_of : Rate → Record → Result ℕ Refusal
packed_of rate r = answer Err (write_refusals rate r) (Ok (info_of rate r))
