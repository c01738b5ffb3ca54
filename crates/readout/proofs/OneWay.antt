-- `readout` stays forward only: so is the reader of every scribe that pieces of characters bring a fresh one to.
-- Assumes nothing.
use mathlib.Core.Path.{◌≡◌, refl, ◌∙◌}
use Rattle.register.specs.declared.types.Ways.TheVariants.{ForwardOnly}
use Rattle.following.proofs.Turns.{fed_keeps}
use Rattle.characters.specs.Characters.{bits_in}
use Rattle.scribe.specs.declared.types.Scribe.{Scribe}
use Rattle.scribe.specs.Told.{counted, scribe_after, Brought, fresh, piece}

pub forward_only : {scribe : Scribe} → Brought scribe → scribe.reader.ways ≡ ForwardOnly
unfolding scribe_after
forward_only fresh = refl
forward_only (piece {scribe} characters brought) = (fed_keeps (bits_in (counted scribe characters)) scribe.reader).1 ∙ forward_only brought
