-- `hearing::windows::heard_backward` meets its contract: a reader that hears forward only does not look.
-- Assumes nothing.
use mathlib.Core.Path.{◌≡◌}
use Rattle.register.specs.declared.types.Reader.{Reader}
use Rattle.register.specs.declared.types.Ways.TheVariants.{ForwardOnly, Both}
use Rattle.register.specs.Held.{held_bits}
use Rattle.hearing.specs.declared.types.Heard.{Heard}
use Rattle.hearing.specs.declared.types.Heard.TheVariants.{Nothing}
use Rattle.hearing.specs.Window.{backward_in}
use Rattle.hearing.proofs.windows.heard_backward.Goals as goal

module _ (r : Reader) where
  does_not_look : r.ways ≡ ForwardOnly → Nothing ≡ backward_in r.mode r.ways (held_bits r)
  unfolding backward_in
  does_not_look e = rw e

  looks : r.ways ≡ Both → (heard : Heard) → heard ≡ backward_in r.mode Both (held_bits r) → heard ≡ backward_in r.mode r.ways (held_bits r)
  looks e heard is = rw e is

pub returns-in-ForwardOnly : goal.returns-in-ForwardOnly
returns-in-ForwardOnly c = search does_not_look

pub returns-in-Both : goal.returns-in-Both
returns-in-Both c = search looks
