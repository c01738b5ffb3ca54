-- The distance and the sum, said of what the calls answer: for every number of pictures to an address above 0 and every rate.
-- Assumes nothing.
use Prim.Native.Nat.{ℕ, suc, ◌+◌, ◌*◌, ◌/◌, ◌%◌, ◌^◌, ◌<◌, ◌≤◌}
use mathlib.Core.Path.{◌≡◌, refl, sym, ap, ◌∙◌}
use native.Mathlib.Omega.{arith}
use native.Mathlib.Nat.{mul-le-mul_left, mul-mod_right}
use borrow.Author.Tests.{lt-leb}
use lib.IntN.{ℤ, pos, negsuc, sub_ℕ}
use lib.Signed.{◌≤ℤ◌, ◌<ℤ◌}
use Rattle.refusals.specs.declared.types.Refusal.{Refusal}
use Rattle.std.specs.Prelude.{Err, Ok}
use Rattle.refusals.specs.declared.types.Refusal.TheVariants.{UnusedBitSet}
use Rattle.refusals.proofs.Answered.{Clear, otherwise_accepted}
use Rattle.refusals.proofs.Results.{accepted_so, refused_alike}
use Rattle.refusals.proofs.ByNumber.{clear_at}
use Rattle.rates.specs.declared.types.Rate.{Rate}
use Rattle.rates.specs.declared.types.Flag.{Flag}
use Rattle.clock.specs.declared.types.DayFrame.{DayFrame}
use Rattle.rates.specs.Rates.{is_yes, frames_in_second, frames_in_day}
use Rattle.round.specs.Round.{distance_of, sum_of}
use Rattle.rates.specs.Refused.{refusals_of}
use Rattle.round.proofs.Round.{Brought, brought, arrives, in_range, sum_below, back_and_on}
use Rattle.rates.proofs.Sizes.{even_day, some_day}
use Rattle.pictures.specs.declared.types.Picture.{Picture}
use Rattle.pictures.specs.Pictures.{pictures_in_day, picture_number, picture_at}
use Rattle.pictures.specs.Steps.{pictures_on}
use Rattle.pictures.specs.Calls.{picture_refusals, two_refusals, number_refusals, number_of, number_told, picture_of, span_of, plus_of}
use Rattle.pictures.proofs.Sizes.{clear_of_picture, day_fits}
use Rattle.pictures.proofs.Two.{apart, together}
use Rattle.pictures.proofs.Shown.{picture_of_number, shown_at_number, shown_on, shown_round, shown_below}
use Rattle.pictures.proofs.Answers.{sound, numbered}

-- so many for each of an even count are even
even_product : (n day : ℕ) → day % 2 ≡ 0 → n * day % 2 ≡ 0
even_product n day e =
    let half : day ≡ 2 * (day / 2) = omega arith in
    let whole : n * day ≡ 2 * (n * (day / 2)) = ap (λ (k : ℕ). n * k) half ∙ omega arith in
    rw whole (mul-mod_right 2 (n * (day / 2)))

-- a sum is refused as the number of its picture is
pub sum_refused :
    (rate : Rate) (pictures : ℕ) (drop : Flag) (p : Picture) (n : Refusal) (z : ℤ) → number_of rate pictures drop p ≡ Err n
    → plus_of rate pictures drop p z ≡ Err n
unfolding number_of plus_of
sum_refused rate pictures drop p n z e = refused_alike _ _ (picture_refusals rate pictures drop p) n e

module _ (rate : Rate) (pictures : ℕ) (drop : Flag) (some : 0 < pictures) where
  -- the day, a picture's number and a number's picture
  abbrev day : ℕ
  day = pictures_in_day rate pictures (is_yes drop)

  abbrev number : Picture → ℕ
  number p = picture_number (frames_in_second rate) pictures (is_yes drop) p

  abbrev numbered_so : ℕ → Picture
  numbered_so n = picture_at (frames_in_second rate) pictures (is_yes drop) n

  some_day_of : 0 < pictures_in_day rate pictures (is_yes drop)
  some_day_of = omega (arith, mul-le-mul_left pictures (some_day rate (frames_in_day rate (is_yes drop)) (is_yes drop) refl))

  -- a day of an even count of frames is even, however many pictures each has
  even : pictures_in_day rate pictures (is_yes drop) % 2 ≡ 0
  even = even_product pictures (frames_in_day rate (is_yes drop)) (even_day rate (is_yes drop))

  -- a picture that is clear of refusals is the picture of its number, which is below the day
  found : (p : Picture) → Clear (picture_refusals rate pictures drop p) → (number p < day) × (numbered_so (number p) ≡ p)
  found p clear =
      let is = sound rate pictures drop some p clear in
      let at = picture_of_number (frames_in_second rate) pictures (is_yes drop) some is.counts.way p is.stands is.place in
      (rw is.counts.day at.0, at.1)

  -- the number that is told of such a picture is its own, and small
  pub told_number :
      (p : Picture) → Clear (picture_refusals rate pictures drop p)
      → (number_told (number_of rate pictures drop p) ≡ picture_number (frames_in_second rate) pictures (is_yes drop) p)
      × (pictures ≤ 256 → picture_number (frames_in_second rate) pictures (is_yes drop) p < 2 ^ 30)
  unfolding number_of
  told_number p clear = (
    ap number_told (otherwise_accepted Err _ (picture_refusals rate pictures drop p) clear),
    λ few. omega (arith, (found p clear).0, day_fits rate pictures (frames_in_day rate (is_yes drop)) (is_yes drop) refl few),
  )

  -- the distance is measured between two pictures that are both clear of refusals
  measured :
      (from to : Picture) (z : ℤ) → span_of rate pictures drop from to ≡ Ok z
      → Clear (picture_refusals rate pictures drop from) × Clear (picture_refusals rate pictures drop to) × Brought day (number from) (number to) z
  unfolding span_of
  measured from to z e =
      let rows = two_refusals rate pictures drop from to in
      let taken = accepted_so rows e in
      let both = apart rate pictures drop from to taken.0 in
      let within = brought day (number from) (number to) even (found from both.0).0 (found to both.1).0 in
      (both.0, both.1, rw taken.1 at within)

  -- "Adding the distance gives the second address back"
  pub adding_the_distance : (from to : Picture) (z : ℤ) → span_of rate pictures drop from to ≡ Ok z → plus_of rate pictures drop from z ≡ Ok to
  unfolding plus_of
  adding_the_distance from to z e =
      let taken = measured from to z e in
      let target = found to taken.1 in
      otherwise_accepted Err _ (picture_refusals rate pictures drop from) taken.0
      ∙ ap Ok (rw (arrives target.0 taken.2) target.1)

  -- "into the range from minus half a day up to, and not including, plus half a day"
  pub distance_in_range :
      (from to : Picture) (z : ℤ) → span_of rate pictures drop from to ≡ Ok z → (sub_ℕ 0 (day / 2) ≤ℤ z) × (z <ℤ pos (day / 2))
  distance_in_range from to z e = in_range (measured from to z e).2

  -- what a sum says where it is accepted
  moved :
      (p q : Picture) (z : ℤ) → plus_of rate pictures drop p z ≡ Ok q
      → Clear (picture_refusals rate pictures drop p) × (numbered_so (sum_of day (number p) z) ≡ q)
  unfolding plus_of
  moved p q z e = accepted_so (picture_refusals rate pictures drop p) e

  -- a distance is measured wherever both pictures have numbers, and a sum is made wherever the picture has one
  pub distance_is :
      (from to : Picture) (m n : DayFrame) → number_of rate pictures drop from ≡ Ok m → number_of rate pictures drop to ≡ Ok n
      → span_of rate pictures drop from to ≡ Ok (distance_of day m.0 n.0)
  unfolding span_of
  distance_is from to m n e f =
      let first = numbered rate pictures drop some from m e in
      let second = numbered rate pictures drop some to n f in
      otherwise_accepted Err _ (two_refusals rate pictures drop from to) (together rate pictures drop from to first.0 second.0)
      ∙ rw (first.1, second.1)

  pub sum_is :
      (p : Picture) (n : DayFrame) (z : ℤ) → number_of rate pictures drop p ≡ Ok n
      → plus_of rate pictures drop p z ≡ picture_of rate pictures drop (record { 0 = sum_of day n.0 z })
  unfolding plus_of picture_of
  sum_is p n z e =
      let taken = numbered rate pictures drop some p n e in
      let low = sum_below day some_day_of n.0 z in
      let allowed = clear_at UnusedBitSet (refusals_of rate drop p.address) (clear_of_picture rate drop pictures p taken.0) in
      otherwise_accepted Err _ (picture_refusals rate pictures drop p) taken.0
      ∙ rw taken.1
      (sym (otherwise_accepted Err _ (number_refusals rate pictures drop (sum_of day n.0 z)) (allowed, (lt-leb _ _ low, tt))))

  -- adding a count is as many pictures on, round midnight
  pub added_is_stepped :
      (p q : Picture) (k : ℕ) → plus_of rate pictures drop p (pos k) ≡ Ok q → pictures_on (frames_in_second rate) pictures (is_yes drop) k p ≡ q
  unfolding sum_of
  added_is_stepped p q k e =
      let fps = frames_in_second rate in
      let sum = moved p q (pos k) e in
      let is = sound rate pictures drop some p sum.0 in
      let start = shown_at_number fps pictures (is_yes drop) some is.counts.way p is.stands is.place in
      let on = shown_on fps pictures (is_yes drop) some (number p) k ∙ shown_round fps pictures (is_yes drop) some is.counts.way (number p + k) in
      rw start at on ∙ rw (← is.counts.day) sum.1

  -- adding a count below 0 is undone by as many pictures on
  pub taken_off_is_stepped :
      (p q : Picture) (k : ℕ) → plus_of rate pictures drop p (negsuc k) ≡ Ok q → pictures_on (frames_in_second rate) pictures (is_yes drop) (suc k) q ≡ p
  unfolding sum_of
  taken_off_is_stepped p q k e =
      let fps = frames_in_second rate in
      let sum = moved p q (negsuc k) e in
      let is = sound rate pictures drop some p sum.0 in
      let m = sum_of day (number p) (negsuc k) in
      let low = sum_below day some_day_of (number p) (negsuc k) in
      let start = shown_below fps pictures (is_yes drop) some is.counts.way m (rw (← is.counts.day) low) ∙ sum.1 in
      let on = shown_on fps pictures (is_yes drop) some m (suc k) ∙ shown_round fps pictures (is_yes drop) some is.counts.way (m + suc k) in
      let here = found p sum.0 in
      rw start at on ∙ rw (← is.counts.day, back_and_on day (number p) k here.0) here.1
