-- `pictures::numbers::number_in_second` meets its contract: the verdict refuses as the call's list does, and what is sound has its number, which fits.
-- Assumes nothing.
use mathlib.Core.Path.{◌≡◌}
use Prim.Native.Nat.{ℕ, ◌+◌, ◌*◌, ◌<◌, ◌≤◌}
use native.Mathlib.Omega.{arith}
use native.Mathlib.Nat.{mul-le-mul_left, mul-le-mul_right}
use Rattle.refusals.specs.declared.types.Refusal.{Refusal}
use Rattle.std.specs.Prelude.{Err, Ok, Result}
use Rattle.pictures.specs.declared.types.PictureInSecond.{PictureInSecond}
use Rattle.refusals.specs.Answer.{verdict_of}
use Rattle.refusals.proofs.Results.{passed_on}
use Rattle.refusals.proofs.Verdicts.{refused_by, passed_by}
use Rattle.rates.specs.declared.types.Rate.{Rate}
use Rattle.rates.specs.declared.types.Flag.{Flag}
use Rattle.pictures.specs.declared.types.Picture.{Picture}
use Rattle.pictures.specs.Pictures.{number_in_second}
use Rattle.pictures.specs.Calls.{picture_refusals, in_second_of}
use Rattle.pictures.proofs.numbers.number_in_second.Goals as goal

-- up to 256 pictures for each frame that a byte can say, and a place, fit 16 bits
module _ (last frames place : ℕ) (few : last < 256) (low : frames < 256) (part : place < 256) where
  product : (last + 1) * frames ≤ 65280
  product =
      let most : last + 1 ≤ 256 = omega arith in
      let high : frames ≤ 255 = omega arith in
      omega (arith, mul-le-mul_left (last + 1) high, mul-le-mul_right 255 most)

  product_fits : (last + 1) * frames < 65536
  product_fits = omega (arith, product)

  sum_fits : (last + 1) * frames + place < 65536
  sum_fits = omega (arith, product)

module _
    (rate : Rate) (last : ℕ) (drop : Flag) (p : Picture) (found : Result Unit Refusal) (judged : found ≡ verdict_of (picture_refusals rate (last + 1) drop p)) where
  abbrev number : Result PictureInSecond Refusal
  number = Ok (record { 0 = number_in_second (last + 1) p })

  refused : (n : Refusal) → found ≡ Err n → Err n ≡ in_second_of rate (last + 1) drop p
  unfolding in_second_of
  refused n e = refused_by Err number (picture_refusals rate (last + 1) drop p) found judged n e

  accepted : found ≡ Ok tt → Ok (record { 0 = (last + 1) * p.address.frames.0 + p.place }) ≡ in_second_of rate (last + 1) drop p
  unfolding in_second_of
  accepted sound = passed_by Err number (picture_refusals rate (last + 1) drop p) found judged sound

pub overflow_mul-number : goal.overflow_mul-number
overflow_mul-number c = search product_fits

pub overflow_add-number-2 : goal.overflow_add-number-2
overflow_add-number-2 c = search sum_fits

pub returns-in_err-judge : goal.returns-in_err-judge
returns-in_err-judge c = passed_on c.from_residual.ensures.1 (search (refused, c.in_err-judge.was))

pub returns : goal.returns
returns c = search (accepted, c.in_ok-judge.was)
