-- `rates::judging::verdict` meets its contract: the tests that led to each `return` are the rows of the list up to the one that applies.
-- Assumes nothing.
use mathlib.Core.Path.{◌≡◌}
use mathlib.Core.Bool.{Bool, true, false, not, ◌&&◌, ◌||◌}
use Rattle.std.specs.Prelude.{Err, Ok}
use Rattle.refusals.specs.declared.types.Refusal.TheVariants.{OutsideTheClock, SkippedAddress, UnusedBitSet}
use Rattle.refusals.specs.Answer.{verdict_of}
use Rattle.rates.specs.declared.types.Rate.{Rate}
use Rattle.rates.specs.Rates.{may_drop}
use Rattle.rates.specs.Refused.{address_refusals}
use Rattle.rates.proofs.judging.verdict.Goals as goal

module _ (rate : Rate) (drop out skip unused drops : Bool) (may : drops ≡ may_drop rate) where
  eight : out ≡ true → Err OutsideTheClock ≡ verdict_of (address_refusals rate drop out skip unused)
  eight o = rw o

  module _ (within : out ≡ false) where
    nine : (drops && (drop && skip)) ≡ true → Err SkippedAddress ≡ verdict_of (address_refusals rate drop out skip unused)
    nine s = rw (within, ← may, s)

    module _ (stands : (drops && (drop && skip)) ≡ false) where
      ten : (unused || (drop && not drops)) ≡ true → Err UnusedBitSet ≡ verdict_of (address_refusals rate drop out skip unused)
      ten u = rw (within, ← may, stands, u)

      sound : (unused || (drop && not drops)) ≡ false → Ok tt ≡ verdict_of (address_refusals rate drop out skip unused)
      sound u = rw (within, ← may, stands, u)

pub returns-then-out : goal.returns-then-out
returns-then-out c = search eight

pub returns-then-nine : goal.returns-then-nine
returns-then-nine c = search nine

pub returns-then-ten : goal.returns-then-ten
returns-then-ten c = search ten

pub returns : goal.returns
returns c = search sound
