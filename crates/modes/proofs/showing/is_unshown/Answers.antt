-- `modes::showing::is_unshown` meets its contract: the place is held to the one that is shown.
-- Assumes nothing.
use mathlib.Core.Path.{◌≡◌}
use mathlib.Core.Bool.{not}
use Prim.Native.Nat.{ℕ}
use lib.Dec.{eqb}
use Rattle.record.specs.declared.types.Record.{Record}
use Rattle.modes.specs.declared.types.Shows.{Shows}
use Rattle.modes.specs.Shown.{place_shown, unshown}
use Rattle.modes.proofs.showing.is_unshown.Goals as goal

held_to : (mode : ℕ) (shows : Shows) (r : Record) (n : ℕ) → n ≡ place_shown mode shows r.flags.mark → not (eqb r.place n) ≡ unshown mode shows r
held_to mode shows r n e = rw e

pub returns : goal.returns
returns c = search held_to
