-- `round::distances::distance` meets its contract: a day more, a day less, or the difference as it is, by the tests of the definition.
-- Assumes nothing.
use mathlib.Core.Path.{◌≡◌, ◌∙◌}
use Prim.Native.Nat.{ℕ, ◌+◌, ◌/◌, ◌≤◌, ◌<◌}
use lib.IntN.{ℤ, sub_ℕ}
use mir.Facts.{to_z-of_z}
use borrow.Author.Tests.{lt-ltb, le-ltb, le-leb, lt-leb}
use Rattle.round.specs.Round.{distance_of}
use Rattle.round.proofs.distances.distance.Goals as goal

module _ (day from to : ℕ) (z y : ℤ) where
  a_day_more : to + day / 2 < from → z ≡ sub_ℕ (to + day) from → y ≡ z → y ≡ distance_of day from to
  unfolding distance_of
  a_day_more far e same = same ∙ e ∙ rw (lt-ltb (to + day / 2) from far)

  a_day_less : from ≤ to + day / 2 → from + day / 2 ≤ to → z ≡ sub_ℕ to (from + day) → y ≡ z → y ≡ distance_of day from to
  unfolding distance_of
  a_day_less near far e same = same ∙ e ∙ rw (le-ltb (to + day / 2) from near, le-leb (from + day / 2) to far)

  as_it_is : from ≤ to + day / 2 → to < from + day / 2 → z ≡ sub_ℕ to from → y ≡ z → y ≡ distance_of day from to
  unfolding distance_of
  as_it_is near close e same = same ∙ e ∙ rw (le-ltb (to + day / 2) from near, lt-leb (from + day / 2) to close)

pub returns-then-end-half : goal.returns-then-end-half
returns-then-end-half c = search (a_day_more, to_z-of_z)

pub returns-then-start-half : goal.returns-then-start-half
returns-then-start-half c = search (a_day_less, to_z-of_z)

pub returns : goal.returns
returns c = search (as_it_is, to_z-of_z)
