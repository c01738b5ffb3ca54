-- `atc::payload::bits_of` meets its contract: by the sub-frame bits in a mode of a high frame rate, and else with its mark.
-- Assumes nothing.
use Prim.Native.Nat.{ℕ}
use mathlib.Core.Path.{◌≡◌, sym, ◌∙◌}
use mathlib.Core.Bool.{Bool, true, false}
use Rattle.std.specs.Prelude.{Result}
use Rattle.refusals.specs.declared.types.Refusal.{Refusal}
use Rattle.record.specs.declared.types.Record.{Record}
use Rattle.modes.specs.declared.types.Shows.{Shows}
use Rattle.modes.specs.Modes.{high_rate}
use Rattle.modes.specs.Shown.{carried_in}
use Rattle.superframes.specs.Calls.{packed_in}
use Rattle.atc.specs.Records.{shows_by, made_for}
use Rattle.atc.proofs.Families.{high_made, low_made}
use Rattle.atc.proofs.payload.bits_of.Goals as goal

module _ (mode type : ℕ) (r : Record) (high : Bool) (asked : high ≡ high_rate mode) (given : Result ℕ Refusal) where
  by_sub_frames : high ≡ true → given ≡ packed_in mode r → given ≡ made_for mode type r
  by_sub_frames t told = told ∙ high_made mode type (sym asked ∙ t) r

  as_shown : high ≡ false → (shows : Shows) → shows ≡ shows_by type → given ≡ carried_in mode shows r → given ≡ made_for mode type r
  as_shown f shows by told = told ∙ rw by (low_made mode type (sym asked ∙ f) r)

pub returns-then-is_high_rate : goal.returns-then-is_high_rate
returns-then-is_high_rate c = search by_sub_frames

pub returns : goal.returns
returns c = search as_shown
