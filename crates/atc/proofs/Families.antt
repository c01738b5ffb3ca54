-- In a mode of a high frame rate a packet's record is the one of its sub-frame bits, and in any other mode the one that a line's bits hold, at the picture that the type shows.
-- Assumes nothing.
use Prim.Native.Nat.{ℕ}
use mathlib.Core.Path.{◌≡◌}
use mathlib.Core.Bool.{true, false}
use Rattle.record.specs.declared.types.Record.{Record}
use Rattle.modes.specs.Modes.{high_rate}
use Rattle.modes.specs.Shown.{shown_in, carried_in}
use Rattle.modes.proofs.EachMode.{high_counted, low_known}
use Rattle.superframes.specs.Calls.{unpacked_in, packed_in}
use Rattle.atc.specs.Records.{shows_by, held_for, made_for}

module _ (mode type : ℕ) where
  module _ (high : high_rate mode ≡ true) where
    pub high_held : (info : ℕ) → unpacked_in mode info ≡ held_for mode type info
    unfolding unpacked_in held_for
    high_held info = rw (high, high_counted mode high)

    pub high_made : (r : Record) → packed_in mode r ≡ made_for mode type r
    unfolding packed_in made_for
    high_made r = rw (high, high_counted mode high)

  module _ (low : high_rate mode ≡ false) where
    pub low_held : (info : ℕ) → shown_in mode (shows_by type) info ≡ held_for mode type info
    unfolding shown_in held_for
    low_held info = rw (low, low_known mode low)

    pub low_made : (r : Record) → carried_in mode (shows_by type) r ≡ made_for mode type r
    unfolding carried_in made_for
    low_made r = rw (low, low_known mode low)
