-- n pictures after midnight show the address that the clock shows after n / N steps and the place n % N, and numbers and pictures match one to one: for every number of
-- pictures N to an address above 0, and every way of counting, from one statement.
-- Assumes nothing.
use Prim.Native.Nat.{ℕ, zero, suc, ◌+◌, ◌*◌, ◌/◌, ◌%◌, ◌<◌, ◌≤◌}
use mathlib.Core.Path.{◌≡◌, refl, sym, ap, ◌∙◌}
use mathlib.Core.Bool.{Bool, true, false}
use native.Mathlib.Omega.{arith}
use native.Mathlib.Nat.{div-add-mod', mod-lt, mod-eq_of_lt, zero-div, zero-mod, add-zero, mul_comm, div-lt_iff_lt-mul}
use lib.Arith.{mod-mul}
use lib.Dec.{ltb}
use borrow.Author.Tests.{ltb-true, ltb-false}
use Rattle.rates.specs.declared.types.Address.{Address}
use Rattle.clock.specs.Counting.{day_of, count_of}
use Rattle.midnight.specs.Steps.{midnight, step, stepped, shown}
use Rattle.midnight.proofs.Ways.{Way}
use Rattle.midnight.proofs.Face.{parts}
use Rattle.midnight.proofs.Shown.{turned_away, some_day, shown_is, number_of_address, address_of_number, never_shown, shown_at_its_number}
use Rattle.pictures.specs.declared.types.Picture.{Picture}
use Rattle.pictures.specs.Pictures.{picture, picture_number, picture_at}
use Rattle.pictures.specs.Steps.{picture_on, pictures_on, picture_shown}
use Rattle.pictures.proofs.Sizes.{within}

module _ (fps pictures : ℕ) (drop : Bool) (some : 0 < pictures) where
  -- one picture on from the picture at a quotient and a remainder
  on : (a : ℕ → Address) → ((k : ℕ) → a (k + 1) ≡ step fps drop (a k)) → (n : ℕ)
      → picture_on fps pictures drop (picture (a (n / pictures)) (n % pictures)) ≡ picture (a (suc n / pictures)) (suc n % pictures)
  on a next n = go (ltb (n % pictures + 1) pictures) refl
    where
      whole : n / pictures * pictures + n % pictures ≡ n
      whole = div-add-mod' n pictures

      go : (t : Bool) → ltb (n % pictures + 1) pictures ≡ t
          → picture_on fps pictures drop (picture (a (n / pictures)) (n % pictures)) ≡ picture (a (suc n / pictures)) (suc n % pictures)
      go true t =
          let room : n % pictures + 1 < pictures = ltb-true (n % pictures + 1) pictures t in
          let same = parts (n / pictures) (suc n) room (omega (arith, whole)) in
          rw (t, same.0, same.1)
      go false t =
          let full : pictures ≤ n % pictures + 1 = ltb-false (n % pictures + 1) pictures t in
          let carry = parts (n / pictures + 1) (suc n) some (omega (arith, whole, full, mod-lt n some)) in
          rw (t, carry.0, carry.1, next (n / pictures))

  one_on : (k : ℕ) → k + 1 ≡ suc k
  one_on k = omega arith

  -- so many pictures on from the first picture of an address
  pub pictures_on_lem : (a : Address) (n : ℕ) → pictures_on fps pictures drop n (picture a 0) ≡ picture (stepped fps drop (n / pictures) a) (n % pictures)
  unfolding pictures_on stepped
  pictures_on_lem a zero = rw (zero-div pictures, zero-mod pictures)
  pictures_on_lem a (suc n) = ap (picture_on fps pictures drop) (pictures_on_lem a n) ∙ on (λ k. stepped fps drop k a) (λ k. rw (one_on k)) n

  -- n pictures after midnight show the address that the clock shows n / N steps after midnight, and the place n % N
  pub picture_shown_lem : (n : ℕ) → picture_shown fps pictures drop n ≡ picture (shown fps drop (n / pictures)) (n % pictures)
  picture_shown_lem = pictures_on_lem midnight

  -- so many pictures on from what is shown is shown so many later
  pub shown_on : (n k : ℕ) → pictures_on fps pictures drop k (picture_shown fps pictures drop n) ≡ picture_shown fps pictures drop (n + k)
  unfolding pictures_on
  shown_on n zero = rw (add-zero n)
  shown_on n (suc k) = let sum : n + suc k ≡ suc (n + k) = omega arith in rw sum (ap (picture_on fps pictures drop) (shown_on n k))

  module _ (way : Way fps drop) where
    -- with whole days taken off, that is the picture of its number
    pub shown_round : (n : ℕ) → picture_shown fps pictures drop n ≡ picture_at fps pictures drop (n % (pictures * day_of fps drop))
    shown_round n =
        let split : n % (pictures * day_of fps drop) ≡ n / pictures % day_of fps drop * pictures + n % pictures =
        rw (mul_comm pictures (day_of fps drop)) (mod-mul n (some_day way) some) in
        let same = parts (n / pictures % day_of fps drop) (n % (pictures * day_of fps drop)) (mod-lt n some) split in
        picture_shown_lem n ∙ rw (shown_is way (n / pictures), same.0, same.1)

    pub shown_below : (n : ℕ) → n < pictures * day_of fps drop → picture_shown fps pictures drop n ≡ picture_at fps pictures drop n
    shown_below n low = rw (mod-eq_of_lt low) at (shown_round n)

    -- the number of picture n is n
    pub number_of_picture : (n : ℕ) → n < pictures * day_of fps drop → picture_number fps pictures drop (picture_at fps pictures drop n) ≡ n
    number_of_picture n low =
        let below : n / pictures < day_of fps drop = (div-lt_iff_lt-mul some).1 (omega arith) in
        rw (number_of_address way (n / pictures) below) (omega (arith, div-add-mod' n pictures))

    -- a picture whose address the clock shows, at one of the places, has a number of the day and is that number's picture
    pub picture_of_number :
        (p : Picture) → turned_away fps drop p.address ≡ false → p.place < pictures
        → (picture_number fps pictures drop p < pictures * day_of fps drop) × (picture_at fps pictures drop (picture_number fps pictures drop p) ≡ p)
    picture_of_number p stands low =
        let number = address_of_number way p.address stands in
        let same = parts (count_of fps drop p.address) (picture_number fps pictures drop p) low (omega arith) in
        (within pictures (count_of fps drop p.address) p.place (day_of fps drop) number.0 low, rw (same.0, same.1, number.1))

    -- it is what is shown at its number
    pub shown_at_number :
        (p : Picture) → turned_away fps drop p.address ≡ false → p.place < pictures
        → picture_shown fps pictures drop (picture_number fps pictures drop p) ≡ p
    shown_at_number p stands low =
        let same = parts (count_of fps drop p.address) (picture_number fps pictures drop p) low (omega arith) in
        picture_shown_lem (picture_number fps pictures drop p) ∙ rw (same.0, same.1, shown_at_its_number way p.address stands)

    -- and no other picture is ever shown
    pub shown_only : (p : Picture) (n : ℕ) → picture_shown fps pictures drop n ≡ p → (turned_away fps drop p.address ≡ false) × (p.place < pictures)
    shown_only p n e =
        let same : picture (shown fps drop (n / pictures)) (n % pictures) ≡ p = sym (picture_shown_lem n) ∙ e in
        let address : shown fps drop (n / pictures) ≡ p.address = ap (λ (q : Picture). q.address) same in
        let place : n % pictures ≡ p.place = ap (λ (q : Picture). q.place) same in
        (standing (turned_away fps drop p.address) refl address, rw place at (mod-lt n some))
      where
        standing : (t : Bool) → turned_away fps drop p.address ≡ t → shown fps drop (n / pictures) ≡ p.address → turned_away fps drop p.address ≡ false
        standing true t address = absurd (never_shown way p.address t (n / pictures) address)
        standing false t address = t
