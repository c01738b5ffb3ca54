-- Two pictures are clear of refusals together exactly where each is.
-- Assumes nothing.
use Prim.Native.Nat.{ℕ}
use mathlib.Core.Path.{◌≡◌, refl}
use mathlib.Core.Bool.{Bool, true, false, not, ◌&&◌, ◌||◌}
use Rattle.refusals.specs.declared.types.Refusal.TheVariants.{OutsideTheClock, SkippedAddress, UnusedBitSet}
use Rattle.refusals.proofs.Answered.{Clear, neither}
use Rattle.refusals.proofs.ByNumber.{clear_at}
use Rattle.rates.specs.declared.types.Rate.{Rate}
use Rattle.rates.specs.declared.types.Flag.{Flag}
use Rattle.rates.specs.Rates.{is_yes, frames_in_second, may_drop}
use Rattle.rates.specs.Face.{outside, skipped}
use Rattle.pictures.specs.declared.types.Picture.{Picture}
use Rattle.pictures.specs.Pictures.{place_outside, place_unused}
use Rattle.pictures.specs.Calls.{picture_refusals, two_refusals}

-- where two addresses together are not skipped, neither is
neither_skipped : (p q s t : Bool) → (p && (q && (s || t))) ≡ false → ((p && (q && s)) ≡ false) × ((p && (q && t)) ≡ false)
neither_skipped true true s t e = neither s t e
neither_skipped true false s t e = (refl, refl)
neither_skipped false q s t e = (refl, refl)

both_false : (s t : Bool) → s ≡ false → t ≡ false → (s || t) ≡ false
both_false s t e f = rw (e, f)

both_unskipped : (p q s t : Bool) → (p && (q && s)) ≡ false → (p && (q && t)) ≡ false → (p && (q && (s || t))) ≡ false
both_unskipped true true s t e f = both_false s t e f
both_unskipped true false s t e f = refl
both_unskipped false q s t e f = refl

module _ (rate : Rate) (pictures : ℕ) (drop : Flag) (p q : Picture) where
  pub apart : Clear (two_refusals rate pictures drop p q) → Clear (picture_refusals rate pictures drop p) × Clear (picture_refusals rate pictures drop q)
  apart clear =
      let rows = two_refusals rate pictures drop p q in
      let eight = neither _ _ (clear_at OutsideTheClock rows clear) in
      let place = neither (place_outside pictures p.place) (place_outside pictures q.place) eight.0 in
      let out = neither (outside (frames_in_second rate) p.address) (outside (frames_in_second rate) q.address) eight.1 in
      let skip = neither_skipped (may_drop rate) (is_yes drop) (skipped p.address) (skipped q.address) (clear_at SkippedAddress rows clear) in
      let ten = neither _ _ (clear_at UnusedBitSet rows clear) in
      let unused = neither (place_unused pictures p.place) (place_unused pictures q.place) ten.0 in (
        (both_false _ _ place.0 out.0, (skip.0, (both_false _ _ unused.0 ten.1, tt))),
        (both_false _ _ place.1 out.1, (skip.1, (both_false _ _ unused.1 ten.1, tt))),
      )

  pub together :
      Clear (picture_refusals rate pictures drop p) → Clear (picture_refusals rate pictures drop q) → Clear (two_refusals rate pictures drop p q)
  together first second =
      let one = picture_refusals rate pictures drop p in
      let other = picture_refusals rate pictures drop q in
      let eight = neither (place_outside pictures p.place) (outside (frames_in_second rate) p.address) (clear_at OutsideTheClock one first) in
      let eight' = neither (place_outside pictures q.place) (outside (frames_in_second rate) q.address) (clear_at OutsideTheClock other second) in
      let ten = neither (place_unused pictures p.place) (is_yes drop && not (may_drop rate)) (clear_at UnusedBitSet one first) in
      let ten' = neither (place_unused pictures q.place) (is_yes drop && not (may_drop rate)) (clear_at UnusedBitSet other second) in (
        both_false _ _ (both_false _ _ eight.0 eight'.0) (both_false _ _ eight.1 eight'.1),
        (
          both_unskipped (may_drop rate) (is_yes drop) (skipped p.address) (skipped q.address)
              (clear_at SkippedAddress one first) (clear_at SkippedAddress other second),
          (both_false _ _ (both_false _ _ ten.0 ten'.0) ten.1, tt),
        ),
      )
