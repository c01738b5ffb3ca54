-- What a list that is clear says of a picture's address and place, and how large the numbers of pictures get.
-- Assumes nothing.
use Prim.Native.Nat.{ℕ, ◌+◌, ◌*◌, ◌<◌, ◌≤◌}
use mathlib.Core.Path.{◌≡◌, refl, sym}
use mathlib.Core.Bool.{Bool, true, false, not, ◌&&◌, true≢false}
use native.Mathlib.Omega.{arith}
use native.Mathlib.Nat.{mul-le-mul_left, mul-le-mul_right}
use lib.Dec.{ltb, leb}
use borrow.Author.Tests.{ltb-true, ltb-false, leb-true, leb-false}
use Rattle.refusals.specs.declared.types.Refusal.TheVariants.{OutsideTheClock, SkippedAddress, UnusedBitSet}
use Rattle.refusals.proofs.Answered.{Clear, neither}
use Rattle.refusals.proofs.ByNumber.{clear_at}
use Rattle.rates.specs.declared.types.Rate.{Rate}
use Rattle.rates.specs.declared.types.Flag.{Flag}
use Rattle.rates.specs.declared.types.Address.{Address}
use Rattle.rates.specs.Rates.{is_yes, frames_in_second, frames_in_day, may_drop}
use Rattle.rates.specs.Face.{outside}
use Rattle.rates.specs.Refused.{refusals_of}
use Rattle.rates.proofs.Sizes.{day_small}
use Rattle.clock.specs.Counting.{count_of}
use Rattle.midnight.proofs.Answers.{clear_address}
use Rattle.midnight.proofs.Shown.{address_of_number}
use Rattle.pictures.specs.declared.types.Picture.{Picture}
use Rattle.pictures.specs.Pictures.{place_outside, place_unused}
use Rattle.pictures.specs.Calls.{picture_refusals}

-- a place that is neither outside nor unused is one of the pictures'
pub place_below : (pictures place : ℕ) → 0 < pictures → place_outside pictures place ≡ false → place_unused pictures place ≡ false → place < pictures
place_below pictures place some inside used = go (ltb 1 pictures) refl (leb pictures place) refl (ltb 0 place) refl inside used
  where
    go :
        (s : Bool) → ltb 1 pictures ≡ s → (o : Bool) → leb pictures place ≡ o → (u : Bool) → ltb 0 place ≡ u
        → (s && o) ≡ false → (not s && u) ≡ false → place < pictures
    go true s true o u' u out unused = absurd (true≢false out)
    go true s false o u' u out unused = leb-false pictures place o
    go false s o' o true u out unused = absurd (true≢false unused)
    go false s o' o false u out unused = let none = ltb-false 0 place u in omega arith

-- and the other way round
pub place_clear : (pictures place : ℕ) → place < pictures → (place_outside pictures place ≡ false) × (place_unused pictures place ≡ false)
place_clear pictures place low = go (ltb 1 pictures) refl (leb pictures place) refl (ltb 0 place) refl
  where
    go :
        (s : Bool) → ltb 1 pictures ≡ s → (o : Bool) → leb pictures place ≡ o → (u : Bool) → ltb 0 place ≡ u
        → ((s && o) ≡ false) × ((not s && u) ≡ false)
    go s' s true o u' u = let high = leb-true pictures place o in absurd (omega arith)
    go true s false o u' u = (refl, refl)
    go false s false o true u =
        let one = ltb-false 1 pictures s in
        let some = ltb-true 0 place u in absurd (omega arith)
    go false s false o false u = (refl, refl)

-- a place that is not used is not the first, and its picture has the address to itself
pub unused_alone : (pictures place : ℕ) → 0 < pictures → place_unused pictures place ≡ true → (pictures ≡ 1) × (0 < place)
unused_alone pictures place some unused = go (ltb 1 pictures) refl (ltb 0 place) refl unused
  where
    go : (s : Bool) → ltb 1 pictures ≡ s → (u : Bool) → ltb 0 place ≡ u → (not s && u) ≡ true → (pictures ≡ 1) × (0 < place)
    go true s u' u e = absurd (true≢false (sym e))
    go false s true u e = let few = ltb-false 1 pictures s in (omega arith, ltb-true 0 place u)
    go false s false u e = absurd (true≢false (sym e))

module _ (rate : Rate) (drop : Flag) where
  -- an address that is clear of refusals has a number of the day
  pub count_below : (a : Address) → Clear (refusals_of rate drop a) → count_of (frames_in_second rate) (is_yes drop) a < frames_in_day rate (is_yes drop)
  count_below a clear =
      let shown = clear_address rate drop a clear in
      rw shown.0.day (address_of_number shown.0.way a shown.1).0

  module _ (pictures : ℕ) (p : Picture) (clear : Clear (picture_refusals rate pictures drop p)) where
    abbrev tests : ((place_outside pictures p.place ≡ false) × (outside (frames_in_second rate) p.address ≡ false))
        × ((place_unused pictures p.place ≡ false) × ((is_yes drop && not (may_drop rate)) ≡ false))
    tests =
        let rows = picture_refusals rate pictures drop p in
        (neither _ _ (clear_at OutsideTheClock rows clear), neither _ _ (clear_at UnusedBitSet rows clear))

    -- where a picture is clear of refusals its address is
    pub clear_of_picture : Clear (refusals_of rate drop p.address)
    clear_of_picture = (tests.0.1, (clear_at SkippedAddress (picture_refusals rate pictures drop p) clear, (tests.1.1, tt)))

    pub place_of_clear : 0 < pictures → p.place < pictures
    place_of_clear some = place_below pictures p.place some tests.0.0 tests.1.0

-- so many full addresses and a place below that are below as many of the addresses
pub within : (pictures count place day : ℕ) → count < day → place < pictures → pictures * count + place < pictures * day
within pictures count place day low part = omega (arith, mul-le-mul_left pictures low)

-- a day of up to 256 pictures to an address
pub day_fits : (rate : Rate) (pictures day : ℕ) (drop : Bool) → day ≡ frames_in_day rate drop → pictures ≤ 256 → pictures * day ≤ 663552000
day_fits rate pictures day drop whole few =
    let small = day_small rate day drop whole in
    omega (arith, mul-le-mul_left pictures small, mul-le-mul_right 2592000 few)

-- so many for each of a day's addresses fit
pub count_fits : (rate : Rate) (pictures n : ℕ) (drop : Bool) → pictures ≤ 256 → n < frames_in_day rate drop → pictures * n < 663552000
count_fits rate pictures n drop few low =
    let small = day_small rate (frames_in_day rate drop) drop refl in
    let most : n ≤ 2591999 = omega arith in
    omega (arith, mul-le-mul_left pictures most, mul-le-mul_right 2591999 few)
