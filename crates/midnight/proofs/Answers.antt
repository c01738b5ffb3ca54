-- Where an address is clear of refusals the clock shows it, and where it has a number it is clear: said of what the calls answer. That numbers and addresses match one to one
-- is said in the crate `pictures`, for any number of pictures to an address.
-- Assumes nothing.
use mathlib.Core.Path.{◌≡◌, refl, sym, ap, ◌∙◌}
use mathlib.Core.Bool.{Bool, true, false, not, ◌&&◌, true≢false}
use lib.Dec.{lit<}
use Rattle.std.specs.Prelude.{Ok}
use Rattle.refusals.specs.declared.types.Refusal.TheVariants.{OutsideTheClock, SkippedAddress, UnusedBitSet}
use Rattle.refusals.proofs.ByNumber.{clear_at}
use Rattle.refusals.proofs.Answered.{Clear, neither}
use Rattle.refusals.proofs.Results.{accepted_so}
use Rattle.rates.specs.declared.types.Rate.{Rate}
use Rattle.rates.specs.declared.types.Rate.TheVariants.{At24, At25, At30}
use Rattle.rates.specs.declared.types.Flag.{Flag}
use Rattle.rates.specs.declared.types.Address.{Address}
use Rattle.clock.specs.declared.types.DayFrame.{DayFrame}
use Rattle.rates.specs.Rates.{is_yes, frames_in_second, frames_in_day, may_drop}
use Rattle.rates.specs.Face.{outside, skipped}
use Rattle.clock.specs.Counting.{day_of, count_of}
use Rattle.rates.specs.Refused.{refusals_of}
use Rattle.clock.specs.Calls.{number_of}
use Rattle.midnight.proofs.Ways.{Way, plain, drops}
use Rattle.midnight.proofs.Shown.{turned_away}

-- a rate and a drop that can be counted in: drop at 30 only
pub record Counts (rate : Rate) (drop : Bool) : Type 0 where
  pub way : Way (frames_in_second rate) drop
  pub day : frames_in_day rate drop ≡ day_of (frames_in_second rate) drop
  pub nine : (skip : Bool) → (may_drop rate && (drop && skip)) ≡ (drop && skip)

pub counts : (rate : Rate) (drop : Bool) → (drop && not (may_drop rate)) ≡ false → Counts rate drop
counts At24 true allowed = absurd (true≢false allowed)
counts At24 false allowed = record { way = plain 24 (lit< tt); day = refl; nine = λ skip. refl }
counts At25 true allowed = absurd (true≢false allowed)
counts At25 false allowed = record { way = plain 25 (lit< tt); day = refl; nine = λ skip. refl }
counts At30 true allowed = record { way = drops; day = refl; nine = λ skip. refl }
counts At30 false allowed = record { way = plain 30 (lit< tt); day = refl; nine = λ skip. refl }

module _ (rate : Rate) (drop : Flag) where
  -- where an address is clear of refusals, the rate counts and the clock shows it
  pub clear_address :
      (a : Address) → Clear (refusals_of rate drop a)
      → Counts rate (is_yes drop) × (turned_away (frames_in_second rate) (is_yes drop) a ≡ false)
  clear_address a clear =
      let rows = refusals_of rate drop a in
      let kind = counts rate (is_yes drop) (clear_at UnusedBitSet rows clear) in
      (kind, rw (clear_at OutsideTheClock rows clear) (sym (kind.nine (skipped a)) ∙ clear_at SkippedAddress rows clear))

  pub address_clear :
      (a : Address) → (is_yes drop && not (may_drop rate)) ≡ false
      → turned_away (frames_in_second rate) (is_yes drop) a ≡ false → Clear (refusals_of rate drop a)
  address_clear a allowed stands =
      let tests = neither (outside (frames_in_second rate) a) (is_yes drop && skipped a) stands in
      let kind = counts rate (is_yes drop) allowed in
      (tests.0, (kind.nine (skipped a) ∙ tests.1, (allowed, tt)))

  -- an address that has a number is clear of refusals, and that is its number
  pub numbered : (a : Address) (n : DayFrame) → number_of rate drop a ≡ Ok n
      → Clear (refusals_of rate drop a) × (count_of (frames_in_second rate) (is_yes drop) a ≡ n.0)
  unfolding number_of
  numbered a n e =
      let taken = accepted_so (refusals_of rate drop a) e in
      (taken.0, ap (λ (m : DayFrame). m.0) taken.1)
