-- A count at a rate: what the test of drop-frame leads to, and how large the place it starts from gets.
-- Assumes nothing.
use mathlib.Core.Path.{◌≡◌, sym}
use mathlib.Core.Bool.{Bool, true, false}
use Prim.Native.Nat.{ℕ, ◌-◌, ◌*◌, ◌/◌, ◌≤◌, ◌<◌}
use native.Mathlib.Nat.{sub-zero}
use Rattle.rates.specs.declared.types.Rate.{Rate}
use Rattle.rates.specs.declared.types.Address.{Address}
use Rattle.rates.specs.Rates.{frames_in_second}
use Rattle.clock.specs.Counting.{minutes_of, place_of, count_of}
use Rattle.rates.proofs.Sizes.{some_rate, rate_small}
use Rattle.clock.proofs.Sizes.{Bytes, place_small, place_large}

module _ (rate : Rate) (fps : ℕ) (a : Address) (pace : fps ≡ frames_in_second rate) where
  pub large : 60 * minutes_of a ≤ place_of fps a
  large = place_large fps a (rw pace (some_rate rate))

  pub small : Bytes a → place_of fps a < 30000000
  small b = place_small fps a b (rw pace (rate_small rate))

  module _ (drop : Bool) where
    pub dropped : drop ≡ true → place_of fps a - 2 * (minutes_of a - minutes_of a / 10) ≡ count_of (frames_in_second rate) drop a
    unfolding count_of
    dropped d = rw (← pace, d)

    pub whole : drop ≡ false → place_of fps a ≡ count_of (frames_in_second rate) drop a
    unfolding count_of
    whole d = rw (← pace, d) (sym (sub-zero (place_of fps a)))
