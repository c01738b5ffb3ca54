-- `atc::payload::record_in` meets its contract: by the sub-frame bits in a mode of a high frame rate, and else as the type shows it.
-- Assumes nothing.
use Prim.Native.Nat.{ℕ}
use mathlib.Core.Path.{◌≡◌, sym, ◌∙◌}
use mathlib.Core.Bool.{Bool, true, false}
use Rattle.record.specs.declared.types.Record.{Record}
use Rattle.refusals.specs.declared.types.Refusal.{Refusal}
use Rattle.std.specs.Prelude.{Result}
use Rattle.modes.specs.declared.types.Shows.{Shows}
use Rattle.modes.specs.Modes.{high_rate}
use Rattle.modes.specs.Shown.{shown_in}
use Rattle.superframes.specs.Calls.{unpacked_in}
use Rattle.atc.specs.Records.{shows_by, held_for}
use Rattle.atc.proofs.Families.{high_held, low_held}
use Rattle.atc.proofs.payload.record_in.Goals as goal

module _ (mode type info : ℕ) (high : Bool) (asked : high ≡ high_rate mode) (given : Result Record Refusal) where
  by_sub_frames : high ≡ true → given ≡ unpacked_in mode info → given ≡ held_for mode type info
  by_sub_frames t told = told ∙ high_held mode type (sym asked ∙ t) info

  as_shown : high ≡ false → (shows : Shows) → shows ≡ shows_by type → given ≡ shown_in mode shows info → given ≡ held_for mode type info
  as_shown f shows by told = told ∙ rw by (low_held mode type (sym asked ∙ f) info)

pub returns-then-is_high_rate : goal.returns-then-is_high_rate
returns-then-is_high_rate c = search by_sub_frames

pub returns : goal.returns
returns c = search as_shown
