-- `clock::addresses::add` meets its contract: the verdict refuses as the call's list does, and what is sound is moved on or back.
-- Assumes nothing.
use mathlib.Core.Path.{◌≡◌, ap, ◌∙◌}
use mathlib.Core.Bool.{Bool}
use Prim.Native.Nat.{ℕ, ◌+◌, ◌-◌, ◌<◌}
use native.Mathlib.Omega.{arith}
use lib.IntN.{ℤ}
use mir.Facts.{to_z-of_z}
use Rattle.refusals.specs.declared.types.Refusal.{Refusal}
use Rattle.std.specs.Prelude.{Err, Ok, Result}
use Rattle.rates.specs.declared.types.Rate.{Rate}
use Rattle.rates.specs.declared.types.Flag.{Flag}
use Rattle.rates.specs.declared.types.Address.{Address}
use Rattle.refusals.specs.Answer.{verdict_of}
use Rattle.round.specs.Round.{sum_of}
use Rattle.round.proofs.Round.{sum_below}
use Rattle.rates.specs.Rates.{is_yes, frames_in_second, frames_in_day}
use Rattle.clock.specs.Counting.{count_of, address_at}
use Rattle.rates.specs.Refused.{refusals_of}
use Rattle.clock.specs.Calls.{plus_of}
use Rattle.refusals.proofs.Results.{passed_on}
use Rattle.refusals.proofs.Verdicts.{refused_by, passed_by}
use Rattle.rates.proofs.Sizes.{some_day, day_small, last_and_one}
use Rattle.clock.proofs.addresses.add.Goals as goal

module _ (rate : Rate) (drop : Flag) (a : Address) (z : ℤ) (found : Result Unit Refusal) (judged : found ≡ verdict_of (refusals_of rate drop a)) where
  refused : (n : Refusal) → found ≡ Err n → Err n ≡ plus_of rate drop a z
  unfolding plus_of
  refused n e = refused_by Err _ (refusals_of rate drop a) found judged n e

  moved :
      (dropped : Bool) (day m n : ℕ) (y : ℤ) (b : Address) → dropped ≡ is_yes drop → day ≡ frames_in_day rate dropped
      → m ≡ count_of (frames_in_second rate) dropped a → n ≡ sum_of (day - 1 + 1) m y → y ≡ z → b ≡ address_at (frames_in_second rate) dropped n
      → found ≡ Ok tt → Ok b ≡ plus_of rate drop a z
  unfolding plus_of
  moved dropped day m n y b asked whole number total same e sound =
      ap Ok (e ∙ rw (total, same, last_and_one rate day dropped whole, number, whole, asked)) ∙ passed_by Err _ (refusals_of rate drop a) found judged sound

below :
    (rate : Rate) (day m n : ℕ) (drop : Bool) (z : ℤ) → day ≡ frames_in_day rate drop → n ≡ sum_of (day - 1 + 1) m z → n < 2592000
below rate day m n drop z whole e =
    let some = some_day rate day drop whole in
    omega (arith, day_small rate day drop whole, sum_below (day - 1 + 1) (omega arith) m z)

pub overflow_sub-last : goal.overflow_sub-last
overflow_sub-last c = search some_day

pub address_at-requires : goal.address_at-requires
address_at-requires c = search below

pub returns-in_err-judge : goal.returns-in_err-judge
returns-in_err-judge c = passed_on c.from_residual.ensures.1 (search (refused, c.in_err-judge.was))

pub returns : goal.returns
returns c = search (moved, to_z-of_z, c.in_ok-judge.was)
