-- `pictures::numbers::distance` meets its contract: the verdict on both pictures refuses as the call's list does, and what is sound is measured.
-- Assumes nothing.
use mathlib.Core.Path.{◌≡◌, ap, ◌∙◌}
use mathlib.Core.Bool.{Bool}
use Prim.Native.Nat.{ℕ, ◌+◌, ◌^◌, ◌<◌}
use native.Mathlib.Omega.{arith}
use lib.IntN.{ℤ}
use mir.Syntax.{w32}
use mir.Val.{SFits, to_z, of_z}
use mir.Facts.{to_z-of_z}
use borrow.Author.Rules.{rules}
use Rattle.refusals.specs.declared.types.Refusal.{Refusal}
use Rattle.std.specs.Prelude.{Err, Ok, Result}
use Rattle.clock.specs.declared.types.DayFrame.{DayFrame}
use Rattle.refusals.specs.Answer.{verdict_of}
use Rattle.refusals.proofs.Answered.{Clear}
use Rattle.refusals.proofs.Results.{passed_on}
use Rattle.refusals.proofs.Verdicts.{refused_by, passed_by, sound_clear}
use Rattle.rates.specs.declared.types.Rate.{Rate}
use Rattle.rates.specs.declared.types.Flag.{Flag}
use Rattle.rates.specs.Rates.{is_yes, frames_in_second}
use Rattle.round.specs.Round.{distance_of}
use Rattle.pictures.specs.declared.types.Picture.{Picture}
use Rattle.pictures.specs.Pictures.{pictures_in_day, picture_number}
use Rattle.pictures.specs.Calls.{picture_refusals, two_refusals, number_of, span_of, number_told}
use Rattle.pictures.proofs.Two.{apart}
use Rattle.pictures.proofs.Moves.{told_number}
use Rattle.pictures.proofs.numbers.distance.Goals as goal

module _
    (rate : Rate) (last : ℕ) (drop : Flag) (from to : Picture) (found : Result Unit Refusal)
    (judged : found ≡ verdict_of (two_refusals rate (last + 1) drop from to)) where
  refused : (n : Refusal) → found ≡ Err n → Err n ≡ span_of rate (last + 1) drop from to
  unfolding span_of
  refused n e = refused_by Err _ (two_refusals rate (last + 1) drop from to) found judged n e

  module _ (sound : found ≡ Ok tt) where
    both : Clear (picture_refusals rate (last + 1) drop from) × Clear (picture_refusals rate (last + 1) drop to)
    both = apart rate (last + 1) drop from to (sound_clear (two_refusals rate (last + 1) drop from to) found judged sound)

    -- the number that was told of either is its own, and small
    module _ (first second : Result DayFrame Refusal) (m n : ℕ) (one : first ≡ number_of rate (last + 1) drop from) (other : second ≡ number_of rate (last + 1) drop to)
        (start : m ≡ number_told first) (stop : n ≡ number_told second) where
      first_told : m ≡ picture_number (frames_in_second rate) (last + 1) (is_yes drop) from
      first_told = start ∙ ap number_told one ∙ (told_number rate (last + 1) drop (omega arith) from both.0).0

      second_told : n ≡ picture_number (frames_in_second rate) (last + 1) (is_yes drop) to
      second_told = stop ∙ ap number_told other ∙ (told_number rate (last + 1) drop (omega arith) to both.1).0

      small : last < 256 → (m < 2 ^ 30) × (n < 2 ^ 30)
      small few = (
        rw first_told ((told_number rate (last + 1) drop (omega arith) from both.0).1 (omega arith)),
        rw second_told ((told_number rate (last + 1) drop (omega arith) to both.1).1 (omega arith)),
      )

      measured :
          (dropped : Bool) (end : ℕ) (z : ℤ) → SFits w32 z → dropped ≡ is_yes drop → end + 1 ≡ pictures_in_day rate (last + 1) dropped
          → z ≡ distance_of (end + 1) m n → Ok (to_z w32 (of_z w32 z)) ≡ span_of rate (last + 1) drop from to
      unfolding span_of
      measured dropped end z fits asked whole e =
          ap Ok (to_z-of_z fits ∙ e ∙ rw (whole, first_told, second_told, asked))
          ∙ passed_by Err _ (two_refusals rate (last + 1) drop from to) found judged sound

pub between-requires : goal.between-requires
between-requires c =
    let few =
    small _ _ _ _ _ _ c.judge_two.ensures c.in_ok-judge_two.was _ _ _ _ c.number_of.ensures c.number_of-2.ensures c.told-start.ensures
    c.told-end.ensures (search rules) in
    (c.last_number-end_of_day.ensures.1, few.0, few.1)

pub returns-in_err-judge_two : goal.returns-in_err-judge_two
returns-in_err-judge_two c = passed_on c.from_residual.ensures.1 (search (refused, c.in_err-judge_two.was))

pub returns : goal.returns
returns c =
    measured _ _ _ _ _ _ c.judge_two.ensures c.in_ok-judge_two.was _ _ _ _ c.number_of.ensures c.number_of-2.ensures
    c.told-start.ensures c.told-end.ensures _ _ _ (search rules) c.is_yes.ensures c.last_number-end_of_day.ensures.0 c.between.ensures
