-- Drop-frame: where the numbers of a day stand on a clock that skips nothing.
-- Assumes nothing.
use Prim.Native.Nat.{ℕ, zero, suc, ◌+◌, ◌-◌, ◌*◌, ◌/◌, ◌%◌, ◌<◌, ◌≤◌}
use mathlib.Core.Path.{◌≡◌, refl, ap₂, subst, ◌∙◌}
use mathlib.Core.Bool.{Bool, true, false, not, ◌&&◌, and-false}
use native.Mathlib.Omega.{arith}
use lib.Arith.{mod-mul}
use lib.Dec.{ltb, eqb, lit<}
use borrow.Author.Tests.{ltb-true, ltb-false, lt-ltb, le-ltb, eq-eqb, ne_eqb, eqb-true, not-false}
use Rattle.rates.specs.Face.{skipped}
use Rattle.midnight.specs.Steps.{past_skipped}
use Rattle.clock.specs.Counting.{place_at, face_at}
use Rattle.midnight.proofs.Face.{parts}

-- the two kinds of number: 0 or 1 of ten minutes, or the e-th after them in the c-th of the ten minutes
pub data View : ℕ → Type 0 where
  early : (tens b : ℕ) → b < 2 → View (17982 * tens + b)
  late : (tens c e : ℕ) → c < 10 → e < 1798 → View (17982 * tens + (1798 * c + (e + 2)))

-- every number is of one of the two kinds
pub view : (n : ℕ) → View n
view n = go (ltb (n % 17982) 2) refl
  where
    go : (t : Bool) → ltb (n % 17982) 2 ≡ t → View n
    go true t =
        let whole : 17982 * (n / 17982) + n % 17982 ≡ n = omega arith in
        subst View whole (early (n / 17982) (n % 17982) (ltb-true _ _ t))
    go false t =
        let b = n % 17982 in
        let some : 2 ≤ b = ltb-false _ _ t in
        let whole : 17982 * (n / 17982) + (1798 * ((b - 2) / 1798) + ((b - 2) % 1798 + 2)) ≡ n = omega arith in
        subst View whole (late (n / 17982) ((b - 2) / 1798) ((b - 2) % 1798) (omega arith) (omega arith))

-- number n stands at place p
pub record Stands (n p : ℕ) : Type 0 where
  pub place : place_at true n ≡ p

-- the place of a number of either kind: minute c of ten minutes starts 1,800 places after the one before
pub early_stands : (tens b : ℕ) → b < 2 → Stands (17982 * tens + b) (18000 * tens + b)
early_stands tens b h =
    let ten : (17982 * tens + b) / 17982 ≡ tens = omega arith in
    let rest : (17982 * tens + b) % 17982 ≡ b = omega arith in
    let none : (b - 2) / 1798 ≡ 0 = omega arith in
    record { place = rw (ten, rest, none) (omega arith) }

pub late_stands :
    (tens c e : ℕ) → c < 10 → e < 1798
    → Stands (17982 * tens + (1798 * c + (e + 2))) (18000 * tens + (1800 * c + (e + 2)))
late_stands tens c e h k =
    let n = 17982 * tens + (1798 * c + (e + 2)) in
    let ten : n / 17982 ≡ tens = omega arith in
    let rest : n % 17982 ≡ 1798 * c + (e + 2) = omega arith in
    let minute : (1798 * c + (e + 2) - 2) / 1798 ≡ c = omega arith in
    record { place = rw (ten, rest, minute) (omega arith) }

-- whether a face is skipped, by its place: the r-th frame of minute m of the day
pub skipped_face : (m r : ℕ) → r < 1800 → skipped (face_at 30 (1800 * m + r)) ≡ (ltb r 2 && not (eqb (m % 10) 0))
skipped_face m r h =
    let second : (1800 * m + r) / 30 ≡ 60 * m + r / 30 = omega arith in
    let frame : (1800 * m + r) % 30 ≡ r % 30 = omega arith in
    let seconds : (60 * m + r / 30) % 60 ≡ r / 30 = omega arith in
    let minute : (60 * m + r / 30) / 60 ≡ m = omega arith in
    let tenth : m % 60 % 10 ≡ m % 10 = omega arith in
    rw (second, frame, seconds, minute, tenth) (go (ltb r 2) refl (ltb (r % 30) 2) refl)
  where
    tenth_not : Bool
    tenth_not = not (eqb (m % 10) 0)

    go : (b : Bool) → ltb r 2 ≡ b → (f : Bool) → ltb (r % 30) 2 ≡ f
        → (ltb (r % 30) 2 && (eqb (r / 30) 0 && tenth_not)) ≡ (ltb r 2 && tenth_not)
    go true e f' f =
        let low = ltb-true r 2 e in
        rw (e, lt-ltb (r % 30) 2 (omega arith), eq-eqb (r / 30) 0 (omega arith))
    go false e true f =
        let high = ltb-false r 2 e in
        let low = ltb-true (r % 30) 2 f in
        rw (e, f, ne_eqb (r / 30) 0 (omega arith))
    go false e false f = rw (e, f)

-- the face of a place that is shown stays as it is; at a skipped minute's start it gives way to the one two places on
stays : (m r : ℕ) → r < 1800 → (ltb r 2 && not (eqb (m % 10) 0)) ≡ false → past_skipped true (face_at 30 (1800 * m + r)) ≡ face_at 30 (1800 * m + r)
stays m r h shown = rw (skipped_face m r h, shown)

leaps : (m : ℕ) → (m % 10 ≡ 0 → ⊥) → past_skipped true (face_at 30 (1800 * m + 0)) ≡ face_at 30 (1800 * m + 2)
leaps m tenth_not =
    let second : (1800 * m + 0) / 30 ≡ (1800 * m + 2) / 30 = omega arith in
    let frame : (1800 * m + 2) % 30 ≡ 2 = omega arith in
    rw (skipped_face m 0 (lit< tt), ne_eqb (m % 10) 0 tenth_not, second, frame)

-- the start of ten minutes is never skipped
tenth : (tens r : ℕ) → (ltb r 2 && not (eqb (10 * tens % 10) 0)) ≡ false
tenth tens r = rw (eq-eqb (10 * tens % 10) 0 (omega arith)) (and-false (ltb r 2))

-- one step of the clock, on the places: one on and round the day, and past the skipped two
abbrev pub OneOn : ℕ → Type 0
OneOn n = past_skipped true (face_at 30 ((place_at true n + 1) % 2592000)) ≡ face_at 30 (place_at true ((n + 1) % 2589408))

-- number n has place p, and p + 1 is frame r of minute m; the next number n' has the place that the clock goes on to
one_on :
    {n n' p p' : ℕ} (m r r' : ℕ) → Stands n p → Stands n' p'
    → (p + 1) % 2592000 ≡ 1800 * m + r → (n + 1) % 2589408 ≡ n' → p' ≡ 1800 * m + r'
    → past_skipped true (face_at 30 (1800 * m + r)) ≡ face_at 30 (1800 * m + r') → OneOn n
one_on m r r' at at' on next land moved = rw (at.place, on, next, at'.place, land) moved

-- within ten minutes, and in their first two frames
in_the_first_two : (tens b : ℕ) → b < 2 → 17982 * tens + b < 2589408 → OneOn (17982 * tens + b)
in_the_first_two tens zero h low =
    one_on (10 * tens) 1 1 (early_stands tens 0 h) (early_stands tens 1 (lit< tt)) (omega arith) (omega arith) (omega arith)
    (stays (10 * tens) 1 (lit< tt) (tenth tens 1))
in_the_first_two tens (suc b) h low =
    one_on (10 * tens) 2 2 (early_stands tens (suc b) h) (late_stands tens 0 0 (lit< tt) (lit< tt)) (omega arith) (omega arith) (omega arith)
    (stays (10 * tens) 2 (lit< tt) (tenth tens 2))

module _ (tens c e : ℕ) (low : tens < 144) where
  within_a_minute : c < 10 → e + 1 < 1798 → OneOn (17982 * tens + (1798 * c + (e + 2)))
  within_a_minute h k =
      one_on (10 * tens + c) (e + 3) (e + 3) (late_stands tens c e h (omega arith)) (late_stands tens c (e + 1) h k)
      (omega arith) (omega arith) (omega arith)
      (stays (10 * tens + c) (e + 3) (omega arith) (rw (le-ltb (e + 3) 2 (omega arith))))

  into_a_minute : c < 9 → e ≡ 1797 → OneOn (17982 * tens + (1798 * c + (e + 2)))
  into_a_minute h k =
      one_on (10 * tens + (c + 1)) 0 2 (late_stands tens c e (omega arith) (omega arith)) (late_stands tens (c + 1) 0 (omega arith) (lit< tt))
      (omega arith) (omega arith) (omega arith)
      (leaps (10 * tens + (c + 1)) (omega arith))

  -- ten minutes on, round the day's 144 times ten minutes
  ten_on : (size n : ℕ) → 0 < size → n ≡ (tens + 1) * size + 0 → n % (144 * size) ≡ (tens + 1) % 144 * size + 0
  ten_on size n some e =
      mod-mul n (lit< tt) some
      ∙ ap₂ (λ (x y : ℕ). x % 144 * size + y) (parts (tens + 1) n some e).0 (parts (tens + 1) n some e).1

  into_ten_minutes : c ≡ 9 → e ≡ 1797 → OneOn (17982 * tens + (1798 * c + (e + 2)))
  into_ten_minutes h k =
      one_on (10 * ((tens + 1) % 144)) 0 0 (late_stands tens c e (omega arith) (omega arith)) (early_stands ((tens + 1) % 144) 0 (lit< tt))
      (ten_on 18000 _ (lit< tt) (omega arith) ∙ omega arith) (ten_on 17982 _ (lit< tt) (omega arith) ∙ omega arith) (omega arith)
      (stays (10 * ((tens + 1) % 144)) 0 (lit< tt) (tenth ((tens + 1) % 144) 0))

pub step_place : {n : ℕ} → View n → n < 2589408 → OneOn n
step_place (early tens b h) low = in_the_first_two tens b h low
step_place (late tens c e h k) low = go (ltb (e + 1) 1798) refl (ltb c 9) refl
  where
    of_the_day : tens < 144
    of_the_day = omega arith

    go : (s : Bool) → ltb (e + 1) 1798 ≡ s → (t : Bool) → ltb c 9 ≡ t → OneOn (17982 * tens + (1798 * c + (e + 2)))
    go true s t' t = within_a_minute tens c e of_the_day h (ltb-true _ _ s)
    go false s true t = into_a_minute tens c e of_the_day (ltb-true _ _ t) (omega (arith, ltb-false (e + 1) 1798 s))
    go false s false t =
        into_ten_minutes tens c e of_the_day (omega (arith, ltb-false c 9 t)) (omega (arith, ltb-false (e + 1) 1798 s))

-- the number at a place: two fewer for each minute begun, but for every tenth
abbrev pub number_at : ℕ → ℕ
number_at p = p - 2 * (p / 1800 - p / 1800 / 10)

-- what is true of the place of a number of the day: it is below the day's end, it is shown, and the number is got back from it
pub record OfTheDay (n : ℕ) : Type 0 where
  pub below : place_at true n < 2592000
  pub seen : skipped (face_at 30 (place_at true n)) ≡ false
  pub back : number_at (place_at true n) ≡ n

-- the same of a place p that is frame r of minute m
of_the_day :
    {n p : ℕ} (m r : ℕ) → Stands n p → p ≡ 1800 * m + r → r < 1800 → m < 1440 → (ltb r 2 && not (eqb (m % 10) 0)) ≡ false
    → p - 2 * (m - m / 10) ≡ n → OfTheDay n
of_the_day m r at e h k shown back =
    let minute : (1800 * m + r) / 1800 ≡ m = omega arith in
    record {
      below = rw at.place (omega arith);
      seen = rw (at.place, e) (skipped_face m r h ∙ shown);
      back = rw at.place (rw e (rw minute (rw e at back)));
    }

pub place_of_day : {n : ℕ} → View n → n < 2589408 → OfTheDay n
place_of_day (early tens b h) low =
    of_the_day (10 * tens) b (early_stands tens b h) (omega arith) (omega arith) (omega arith) (tenth tens b) (omega arith)
place_of_day (late tens c e h k) low =
    of_the_day (10 * tens + c) (e + 2) (late_stands tens c e h k) (omega arith) (omega arith) (omega arith)
    (rw (le-ltb (e + 2) 2 (omega arith))) (omega arith)

-- and back: a place that is shown has a number of the day, which stands there
pub number_of_place :
    (m r : ℕ) → r < 1800 → m < 1440 → (ltb r 2 && not (eqb (m % 10) 0)) ≡ false
    → (number_at (1800 * m + r) < 2589408) × Stands (number_at (1800 * m + r)) (1800 * m + r)
number_of_place m r h k shown = go (ltb r 2) refl
  where
    minute : (1800 * m + r) / 1800 ≡ m
    minute = omega arith

    found :
        {n p : ℕ} → Stands n p → 1800 * m + r - 2 * (m - m / 10) ≡ n → p ≡ 1800 * m + r → n < 2589408
        → (number_at (1800 * m + r) < 2589408) × Stands (number_at (1800 * m + r)) (1800 * m + r)
    found at e land low =
        rw (minute, e) (low, record { place = at.place ∙ land })

    go : (t : Bool) → ltb r 2 ≡ t → (number_at (1800 * m + r) < 2589408) × Stands (number_at (1800 * m + r)) (1800 * m + r)
    go true t =
        let low = ltb-true r 2 t in
        let tenth : m % 10 ≡ 0 = eqb-true (m % 10) 0 (not-false _ (rw t at shown)) in
        found (early_stands (m / 10) r low) (omega arith) (omega arith) (omega arith)
    go false t =
        let high = ltb-false r 2 t in
        found (late_stands (m / 10) (m % 10) (r - 2) (omega arith) (omega arith)) (omega arith) (omega arith) (omega arith)
