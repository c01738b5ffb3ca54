-- `clock::numbers::distance` meets its contract: the verdict on both addresses refuses as the call's list does, and what is sound is measured.
-- Assumes nothing.
use mathlib.Core.Path.{◌≡◌, ap, ◌∙◌}
use mathlib.Core.Bool.{Bool}
use Prim.Native.Nat.{ℕ, ◌+◌, ◌-◌, ◌<◌}
use native.Mathlib.Omega.{arith}
use lib.IntN.{ℤ}
use mir.Syntax.{w32, w64}
use mir.Val.{SFits, to_z, of_z}
use mir.Facts.{to_z-of_z}
use borrow.Author.Rules.{rules}
use Rattle.refusals.specs.declared.types.Refusal.{Refusal}
use Rattle.std.specs.Prelude.{Err, Ok, Result}
use Rattle.rates.specs.declared.types.Rate.{Rate}
use Rattle.rates.specs.declared.types.Flag.{Flag}
use Rattle.rates.specs.declared.types.Address.{Address}
use Rattle.refusals.specs.Answer.{verdict_of}
use Rattle.round.specs.Round.{distance_of}
use Rattle.round.proofs.Sizes.{distance_small}
use Rattle.rates.specs.Rates.{is_yes, frames_in_second, frames_in_day}
use Rattle.clock.specs.Counting.{count_of}
use Rattle.rates.specs.Refused.{refusals_of_two}
use Rattle.clock.specs.Calls.{span_of}
use Rattle.refusals.proofs.Results.{passed_on}
use Rattle.refusals.proofs.Verdicts.{refused_by, passed_by}
use Rattle.rates.proofs.Sizes.{day_small, some_day, last_and_one}
use Rattle.clock.proofs.Sizes.{count_small}
use Rattle.clock.proofs.numbers.distance.Goals as goal

module _
    (rate : Rate) (drop : Flag) (from to : Address) (found : Result Unit Refusal) (judged : found ≡ verdict_of (refusals_of_two rate drop from to)) where
  refused : (n : Refusal) → found ≡ Err n → Err n ≡ span_of rate drop from to
  unfolding span_of
  refused n e = refused_by Err _ (refusals_of_two rate drop from to) found judged n e

  -- the distance is told as it was measured: it fits 64 bits, and 32
  measured :
      (day m n : ℕ) (dropped : Bool) (z : ℤ) → SFits w64 z → SFits w32 z → z ≡ distance_of (day - 1 + 1) m n → day ≡ frames_in_day rate dropped
      → m ≡ count_of (frames_in_second rate) dropped from → n ≡ count_of (frames_in_second rate) dropped to → dropped ≡ is_yes drop → found ≡ Ok tt
      → Ok (to_z w32 (of_z w32 (to_z w64 (of_z w64 z)))) ≡ span_of rate drop from to
  unfolding span_of
  measured day m n dropped z wide narrow e whole first second asked sound =
      let same : to_z w32 (of_z w32 (to_z w64 (of_z w64 z))) ≡ z = rw (to_z-of_z wide) (to_z-of_z narrow) in
      ap Ok (same ∙ e ∙ rw (last_and_one rate day dropped whole, whole, first, second, asked))
      ∙ passed_by Err _ (refusals_of_two rate drop from to) found judged sound

-- the distance of two addresses fits 32 bits
narrow :
    (rate : Rate) (day m n : ℕ) (drop : Bool) (z : ℤ) → z ≡ distance_of (day - 1 + 1) m n → day ≡ frames_in_day rate drop → m < 30000000 → n < 30000000
    → SFits w32 z
narrow rate day m n drop z e whole first second =
    let whole_day = day_small rate day drop whole in
    rw e (distance_small (day - 1 + 1) m n (omega arith) (omega arith) (omega arith))

pub overflow_sub-last : goal.overflow_sub-last
overflow_sub-last c = search some_day

pub overflow_cast-frames : goal.overflow_cast-frames
overflow_cast-frames c = search (narrow, count_small, rules)

pub returns-in_err-judge_two : goal.returns-in_err-judge_two
returns-in_err-judge_two c = passed_on c.from_residual.ensures.1 (search (refused, c.in_err-judge_two.was))

pub returns : goal.returns
returns c = search (measured, narrow, count_small, rules, c.in_ok-judge_two.was)
