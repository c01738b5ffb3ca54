-- The record in the 64 information bits of a packet: in modes 0 to 5 with its mark, as on a line; in modes 6 to 10 by its sub-frame bits (document 02, A6). Of what makes 8, 9 or
-- 10 apply, address, digits, groups and drop are the same in both families. The lists of either family by itself are in `modes/specs/Calls.antt` and `superframes/specs/Calls.antt`; that
-- these say the same is a law (`proofs/Families.antt`).
-- Assumes nothing.
use Rattle.refusals.specs.declared.types.Refusal.{Refusal}
use Rattle.refusals.specs.declared.types.Refusal.TheVariants.{MarkSet}
use Rattle.std.specs.Prelude.{ℕ, false, ◌||◌, cond, List, [], ◌∷◌, ◌++◌, eqb, Err, Ok, Result}
use Rattle.refusals.specs.Answer.{Cause, ◌when◌, answer}
use Rattle.rates.specs.Refused.{refusals_besides}
use Rattle.layout.specs.Flags.{unused_colour}
use Rattle.pictures.specs.Pictures.{place_outside, place_unused}
use Rattle.record.specs.declared.types.Record.{Record}
use Rattle.record.specs.Record.{info_of, digit_above_9, group_above_15}
use Rattle.modes.specs.declared.types.Shows.{Shows}
use Rattle.modes.specs.declared.types.Shows.TheVariants.{First, ByMark}
use Rattle.modes.specs.Modes.{rate_at, pictures_at, high_rate, with_counting}
use Rattle.modes.specs.Calls.{record_in, information_in}
use Rattle.modes.specs.Shown.{shown_record, unshown}
use Rattle.superframes.specs.SubFrames.{place_in, other_set, flag_besides_drop, gathered, spread}

-- A4: types 1 and 2 show the picture that the mark says; "type 0 keeps the mark unread" and shows the first
abbrev pub shows_by : ℕ → Shows
shows_by type = cond (eqb type 0) First ByMark

-- read: the record, and what it is refused with
abbrev pub held_in : ℕ → ℕ → ℕ → Record
held_in mode type info = cond (high_rate mode) (gathered (pictures_at mode) (record_in mode info)) (shown_record mode (shows_by type) info)

abbrev pub held_refusals : ℕ → ℕ → List Cause
held_refusals mode info =
    let held = record_in mode info in
    let pictures = pictures_at mode in
    refusals_besides
    (cond (high_rate mode) (digit_above_9 info || place_outside pictures (place_in pictures held.flags)) (digit_above_9 info))
    (cond (high_rate mode) (other_set pictures held.flags) (unused_colour (rate_at mode) held.flags.colour))
    (rate_at mode) held.flags.drop held.address

unfoldable pub held_for : ℕ → ℕ → ℕ → Result Record Refusal
held_for mode type info = answer Err (with_counting mode (held_refusals mode info)) (Ok (held_in mode type info))

-- written: the bits, and what the record is refused with; 11 is of modes 3 to 5, and no mark can stand in modes 6 to 10
abbrev pub info_for : ℕ → Record → ℕ
info_for mode r = cond (high_rate mode) (info_of (rate_at mode) (spread (pictures_at mode) r)) (information_in mode r)

abbrev pub record_refusals_for : ℕ → Record → List Cause
record_refusals_for mode r =
    refusals_besides (place_outside (pictures_at mode) r.place || group_above_15 r.groups)
    (cond (high_rate mode) (flag_besides_drop r.flags) (place_unused (pictures_at mode) r.place || unused_colour (rate_at mode) r.flags.colour))
    (rate_at mode) r.flags.drop r.address

abbrev pub carried_refusals : ℕ → ℕ → Record → List Cause
carried_refusals mode type r = record_refusals_for mode r ++ ((MarkSet when cond (high_rate mode) false (unshown mode (shows_by type) r)) ∷ [])

unfoldable pub made_for : ℕ → ℕ → Record → Result ℕ Refusal
made_for mode type r = answer Err (with_counting mode (carried_refusals mode type r)) (Ok (info_for mode r))
