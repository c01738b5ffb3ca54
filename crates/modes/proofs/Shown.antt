-- Bits are read as the record that they hold, at the place that is shown.
-- Assumes nothing.
use Prim.Native.Nat.{ℕ}
use mathlib.Core.Path.{◌≡◌, sym}
use Rattle.record.specs.declared.types.Record.{Record}
use Rattle.refusals.specs.declared.types.Refusal.{Refusal}
use Rattle.std.specs.Prelude.{Err, Ok, Result}
use Rattle.refusals.proofs.Answered.{carried}
use Rattle.record.specs.Record.{at_place}
use Rattle.modes.specs.declared.types.Shows.{Shows}
use Rattle.modes.specs.Modes.{with_mode}
use Rattle.modes.specs.Calls.{record_in, bits_refusals_in, unpacked_in}
use Rattle.modes.specs.Shown.{place_shown, shown_in}

-- what the record's own answer comes to, at the place that is shown
abbrev pub shown_as : ℕ → Shows → Result Record Refusal → Result Record Refusal
shown_as mode shows (Ok r) = Ok (at_place (place_shown mode shows r.flags.mark) r)
shown_as mode shows (Err n) = Err n

pub shown_is : (mode : ℕ) (shows : Shows) (info : ℕ) → shown_in mode shows info ≡ shown_as mode shows (unpacked_in mode info)
unfolding shown_in unpacked_in
shown_is mode shows info = sym (carried (shown_as mode shows) Err (Ok (record_in mode info)) (with_mode mode (bits_refusals_in mode info)))
