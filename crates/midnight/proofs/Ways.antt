-- The ways of counting: a rate that skips nothing, and 30 with drop-frame. What the laws of the clock rest on, for every way of counting.
-- Assumes nothing.
use Prim.Native.Nat.{ℕ, ◌+◌, ◌*◌, ◌/◌, ◌%◌, ◌<◌}
use mathlib.Core.Path.{◌≡◌, refl, sym, ap, ◌∙◌}
use mathlib.Core.Bool.{Bool, true, false, ◌&&◌}
use native.Mathlib.Omega.{arith}
use native.Mathlib.Nat.{add-zero, sub-zero}
use lib.Dec.{lit<}
use Rattle.rates.specs.declared.types.Address.{Address}
use Rattle.rates.specs.Face.{skipped}
use Rattle.midnight.specs.Steps.{past_skipped}
use Rattle.clock.specs.Counting.{day_of, minutes_of, place_of, count_of, place_at, face_at}
use Rattle.rates.proofs.Inside.{Inside}
use Rattle.midnight.proofs.Face.{place_of_face, place_below, face_of_place}
use Rattle.midnight.proofs.Skip.{view, step_place, place_of_day, skipped_face, number_of_place}

pub data Way : ℕ → Bool → Type 0 where
  plain : (fps : ℕ) → 0 < fps → Way fps false
  drops : Way 30 true

pub some_frames : {fps : ℕ} {drop : Bool} → Way fps drop → 0 < fps
some_frames (plain fps some) = some
some_frames drops = lit< tt

-- what is true of number n of the day: its place is below the day's end and is shown, the next number has the place that one
-- clock step goes on to, and the number is got back from its face
pub record Kept (fps : ℕ) (drop : Bool) (n : ℕ) : Type 0 where
  pub below : place_at drop n < 86400 * fps
  pub seen : (drop && skipped (face_at fps (place_at drop n))) ≡ false
  pub on : past_skipped drop (face_at fps ((place_at drop n + 1) % (86400 * fps))) ≡ face_at fps (place_at drop ((n + 1) % day_of fps drop))
  pub back : count_of fps drop (face_at fps (place_at drop n)) ≡ n

-- the minutes of a place's face
minutes_of_face : (p : ℕ) → minutes_of (face_at 30 p) ≡ p / 1800
minutes_of_face p = omega arith

pub kept : {fps : ℕ} {drop : Bool} → Way fps drop → (n : ℕ) → n < day_of fps drop → Kept fps drop n
unfolding count_of
kept (plain fps some) n h =
    record {
      below = omega arith;
      seen = refl;
      on = rw (add-zero n, sub-zero (86400 * fps), add-zero ((n + 1) % (86400 * fps)));
      back = rw (add-zero n, place_of_face fps some n) (sub-zero n);
    }
kept drops n h =
    let day = place_of_day (view n) h in
    record {
      below = day.below;
      seen = day.seen;
      on = step_place (view n) h;
      back = rw (place_of_face 30 (lit< tt) (place_at true n), minutes_of_face (place_at true n)) day.back;
    }

-- an address inside the clock that is not skipped has a number of the day, whose place is the address's own
pub counted : {fps : ℕ} {drop : Bool} → Way fps drop → (a : Address) → Inside fps a → (drop && skipped a) ≡ false
    → (count_of fps drop a < day_of fps drop) × (place_at drop (count_of fps drop a) ≡ place_of fps a)
unfolding count_of
counted (plain fps some) a i seen = (omega (arith, place_below fps some a i), omega arith)
counted drops a i seen =
    let m = minutes_of a in
    let r = a.seconds * 30 + a.frames.0 in
    let low : r < 1800 = omega arith in
    let place : place_of 30 a ≡ 1800 * m + r = omega arith in
    let minute : (1800 * m + r) / 1800 ≡ m = omega arith in
    let face : face_at 30 (1800 * m + r) ≡ a = rw place at (face_of_place 30 (lit< tt) a i) in
    let stands = number_of_place m r low (omega arith) (sym (skipped_face m r low) ∙ ap skipped face ∙ seen) in
    rw place (rw minute at stands.0, rw minute at stands.1.place)
