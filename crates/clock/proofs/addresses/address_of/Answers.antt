-- `clock::addresses::address_of` meets its contract: the tests that led to each `return` are the rows of the list up to the one that applies.
-- Assumes nothing.
use mathlib.Core.Path.{◌≡◌, ap, ◌∙◌}
use mathlib.Core.Bool.{Bool, true, false, not, ◌&&◌}
use Prim.Native.Nat.{ℕ, ◌≤◌, ◌<◌}
use native.Mathlib.Omega.{arith}
use borrow.Author.Tests.{le-leb, lt-leb}
use Rattle.std.specs.Prelude.{Err, Ok}
use Rattle.refusals.specs.declared.types.Refusal.TheVariants.{NumberPastTheDay, UnusedBitSet}
use Rattle.rates.specs.declared.types.Rate.{Rate}
use Rattle.rates.specs.declared.types.Flag.{Flag}
use Rattle.rates.specs.declared.types.Address.{Address}
use Rattle.clock.specs.declared.types.DayFrame.{DayFrame}
use Rattle.rates.specs.Rates.{is_yes, frames_in_second, frames_in_day, may_drop}
use Rattle.clock.specs.Counting.{address_at}
use Rattle.clock.specs.Calls.{address_of}
use Rattle.rates.proofs.Sizes.{day_small}
use Rattle.clock.proofs.addresses.address_of.Goals as goal

module _ (rate : Rate) (drop : Flag) (n : DayFrame) (dropped drops : Bool) (asked : dropped ≡ is_yes drop) (may : drops ≡ may_drop rate) where
  no_drop : (dropped && not drops) ≡ true → Err UnusedBitSet ≡ address_of rate drop n
  unfolding address_of
  no_drop e = rw (← asked, ← may, e)

  module _ (allowed : (dropped && not drops) ≡ false) (day : ℕ) (whole : day ≡ frames_in_day rate dropped) where
    past_the_day : day ≤ n.0 → Err NumberPastTheDay ≡ address_of rate drop n
    unfolding address_of
    past_the_day high = rw (← asked, ← may, allowed, ← whole, le-leb day n.0 high)

    of_the_day : n.0 < day → (a : Address) → a ≡ address_at (frames_in_second rate) dropped n.0 → Ok a ≡ address_of rate drop n
    unfolding address_of
    of_the_day low a e = ap Ok e ∙ rw (← asked, ← may, allowed, ← whole, lt-leb day n.0 low)

below : (rate : Rate) (n day : ℕ) (dropped : Bool) → day ≡ frames_in_day rate dropped → n < day → n < 2592000
below rate n day dropped whole low = omega (arith, day_small rate day dropped whole)

pub returns-then-unused : goal.returns-then-unused
returns-then-unused c = search no_drop

pub returns-then-frames_in_day-number : goal.returns-then-frames_in_day-number
returns-then-frames_in_day-number c = search (past_the_day)

pub address_at-requires : goal.address_at-requires
address_at-requires c = search below

pub returns : goal.returns
returns c = search of_the_day
