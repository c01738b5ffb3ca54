-- A clock that skips nothing: its faces and their places match one to one, and one frame on is one place on.
-- Assumes nothing.
use Prim.Native.Nat.{ℕ, ◌+◌, ◌*◌, ◌/◌, ◌%◌, ◌<◌, ◌≤◌}
use mathlib.Core.Path.{◌≡◌, refl, sym, ap₂, ◌∙◌}
use mathlib.Core.Bool.{Bool, true, false}
use native.Mathlib.Omega.{arith}
use native.Mathlib.Nat.{div-add-mod', mod-lt, mod-eq_of_lt, div-lt_iff_lt-mul}
use lib.Arith.{digits_div, digits_mod, digits_lt, mod-mul}
use lib.Dec.{ltb, lit<}
use borrow.Author.Tests.{ltb-true, ltb-false}
use Rattle.rates.specs.declared.types.Address.{Address}
use Rattle.rates.proofs.Inside.{Inside}
use Rattle.rates.specs.Face.{showing}
use Rattle.midnight.specs.Steps.{second_on, frame_on}
use Rattle.clock.specs.Counting.{minutes_of, place_of, face_at}

-- what a test that was taken or left tells `omega`
ruleset tests = (arith, ltb-true, ltb-false)

-- a number made of a quotient and a remainder has that quotient and that remainder
pub parts : {k r : ℕ} (q n : ℕ) → r < k → n ≡ q * k + r → (n / k ≡ q) × (n % k ≡ r)
parts q n h e = (rw e (digits_div q h), rw e (digits_mod q h))

-- one on in a field of k: with no carry, and with a carry into the next
carry_none : (k n : ℕ) → n % k + 1 < k → ((n + 1) / k ≡ n / k) × ((n + 1) % k ≡ n % k + 1)
carry_none k n h = parts (n / k) (n + 1) h (omega (arith, div-add-mod' n k))

carry_one : (k n : ℕ) → 0 < k → k ≤ n % k + 1 → ((n + 1) / k ≡ n / k + 1) × ((n + 1) % k ≡ 0)
carry_one k n some h = parts (n / k + 1) (n + 1) some (omega (arith, div-add-mod' n k, mod-lt n some))

-- the face at second q of the day and frame f of that second
abbrev pub second_at : ℕ → ℕ → Address
second_at q f = showing (q / 60 / 60) (q / 60 % 60) (q % 60) f

-- one second on is the next second of the day; after the last comes midnight
second_on_lem : (q : ℕ) → q < 86400 → second_on (q / 60 / 60) (q / 60 % 60) (q % 60) ≡ second_at ((q + 1) % 86400) 0
second_on_lem q h = go (ltb (q % 60 + 1) 60) refl (ltb (q / 60 % 60 + 1) 60) refl (ltb (q / 60 / 60 + 1) 24) refl
  where
    within : (q + 1) / 60 / 60 < 24 → (q + 1) % 86400 ≡ q + 1
    within low = omega arith

    go : (s : Bool) → ltb (q % 60 + 1) 60 ≡ s → (m : Bool) → ltb (q / 60 % 60 + 1) 60 ≡ m
        → (l : Bool) → ltb (q / 60 / 60 + 1) 24 ≡ l
        → second_on (q / 60 / 60) (q / 60 % 60) (q % 60) ≡ second_at ((q + 1) % 86400) 0
    go true s m' m l' l =
        let second = carry_none 60 q (ltb-true _ _ s) in
        rw (s, within (omega arith), second.0, second.1)
    go false s true m l' l =
        let second = carry_one 60 q (lit< tt) (ltb-false _ _ s) in
        let minute = carry_none 60 (q / 60) (ltb-true _ _ m) in
        rw (s, m, within (rw (second.0, minute.0) (omega arith)), second.0, second.1, minute.0, minute.1)
    go false s false m true l =
        let second = carry_one 60 q (lit< tt) (ltb-false _ _ s) in
        let minute = carry_one 60 (q / 60) (lit< tt) (ltb-false _ _ m) in
        rw (s, m, l, within (rw (second.0, minute.0) (ltb-true _ _ l)), second.0, second.1, minute.0, minute.1)
    go false s false m false l =
        let last : q + 1 ≡ 86400 = omega tests in
        rw (s, m, l, last)

module _ (fps : ℕ) (some : 0 < fps) where
  pub face_of : (q f : ℕ) → f < fps → face_at fps (q * fps + f) ≡ second_at q f
  face_of q f h = λ i. second_at (digits_div q h i) (digits_mod q h i)

  -- the second of the day in which a place below the day's end lies
  pub second_below : (p : ℕ) → p < 86400 * fps → p / fps < 86400
  second_below p h = (div-lt_iff_lt-mul some).1 h

  -- one frame on is one place on, round the day
  pub frame_on_lem : (p : ℕ) → p < 86400 * fps → frame_on fps (face_at fps p) ≡ face_at fps ((p + 1) % (86400 * fps))
  frame_on_lem p h = go (ltb (p % fps + 1) fps) refl
    where
      -- the place with whole days taken off
      off : {q f : ℕ} → ((p + 1) / fps ≡ q) × ((p + 1) % fps ≡ f) → (p + 1) % (86400 * fps) ≡ q % 86400 * fps + f
      off e = mod-mul (p + 1) (lit< tt) some ∙ ap₂ (λ (x y : ℕ). x % 86400 * fps + y) e.0 e.1

      go : (t : Bool) → ltb (p % fps + 1) fps ≡ t → frame_on fps (face_at fps p) ≡ face_at fps ((p + 1) % (86400 * fps))
      go true t =
          let room = ltb-true _ _ t in
          rw (t, off (carry_none fps p room), mod-eq_of_lt (second_below p h)) (sym (face_of (p / fps) (p % fps + 1) room))
      go false t =
          rw (t, off (carry_one fps p some (ltb-false _ _ t)))
          (second_on_lem (p / fps) (second_below p h) ∙ sym (face_of ((p / fps + 1) % 86400) 0 some))

module _ (fps : ℕ) (some : 0 < fps) where
  -- every place below the day's end has a face inside the clock
  pub face_inside : (p : ℕ) → p < 86400 * fps → Inside fps (face_at fps p)
  face_inside p h =
      let below = second_below fps some p h in
      record { hours = omega arith; minutes = omega arith; seconds = omega arith; frames = mod-lt p some }

  -- the place of a place's face is that place
  pub place_of_face : (p : ℕ) → place_of fps (face_at fps p) ≡ p
  place_of_face p =
      let seconds : 60 * minutes_of (face_at fps p) + (face_at fps p).seconds ≡ p / fps = omega arith in
      rw seconds (div-add-mod' p fps)

  -- and the face of a face's place is that face
  pub face_of_place : (a : Address) → Inside fps a → face_at fps (place_of fps a) ≡ a
  face_of_place a i =
      let second = 60 * minutes_of a + a.seconds in
      let minute : second / 60 ≡ minutes_of a = omega arith in
      let hours : minutes_of a / 60 ≡ a.hours = omega arith in
      let minutes : minutes_of a % 60 ≡ a.minutes = omega arith in
      let seconds : second % 60 ≡ a.seconds = omega arith in
      face_of fps some second a.frames.0 i.frames ∙ rw (minute, hours, minutes, seconds)

  pub place_below : (a : Address) → Inside fps a → place_of fps a < 86400 * fps
  place_below a i = digits_lt (omega arith) i.frames
