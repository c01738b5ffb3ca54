-- What the clock shows is the closed form, and numbers and addresses match one to one: for every way of counting from one statement.
-- Assumes nothing.
use Prim.Native.Nat.{ℕ, zero, suc, ◌+◌, ◌%◌, ◌<◌}
use mathlib.Core.Path.{◌≡◌, refl, sym, ap, ◌∙◌}
use mathlib.Core.Bool.{Bool, true, false, ◌&&◌, ◌||◌, true≢false}
use native.Mathlib.Omega.{arith}
use native.Mathlib.Nat.{mod-lt, mod-eq_of_lt, mod_self, mod-add-mod, zero-div, zero-mod, add-zero, zero-add}
use lib.Dec.{lit<}
use Rattle.refusals.proofs.Answered.{neither}
use Rattle.rates.specs.declared.types.Address.{Address}
use Rattle.rates.specs.Face.{outside, skipped}
use Rattle.midnight.specs.Steps.{midnight, step, stepped, shown}
use Rattle.clock.specs.Counting.{day_of, count_of, address_at, face_at, place_at}
use Rattle.rates.proofs.Inside.{inside, inside_not_outside}
use Rattle.midnight.proofs.Face.{face_inside, face_of_place, frame_on_lem}
use Rattle.midnight.proofs.Ways.{Way, plain, drops, some_frames, kept, counted}

-- an address that the clock never shows: a field is outside the clock, or it is one of the skipped ones
abbrev pub turned_away : ℕ → Bool → Address → Bool
turned_away fps drop a = outside fps a || (drop && skipped a)

pub some_day : {fps : ℕ} {drop : Bool} → Way fps drop → 0 < day_of fps drop
some_day (plain fps some) = omega arith
some_day drops = lit< tt

-- "Number 0 is 00:00:00:00"
pub first_address : {fps : ℕ} {drop : Bool} → Way fps drop → address_at fps drop 0 ≡ midnight
unfolding address_at
first_address (plain fps some) = rw (zero-div fps, zero-mod fps)
first_address drops = refl

module _ {fps : ℕ} {drop : Bool} (way : Way fps drop) where
  -- one clock step is one number on; after the day's last comes midnight
  pub step_on : (n : ℕ) → n < day_of fps drop → step fps drop (address_at fps drop n) ≡ address_at fps drop ((n + 1) % day_of fps drop)
  unfolding address_at
  step_on n h =
      let number = kept way n h in
      rw (frame_on_lem fps (some_frames way) (place_at drop n) number.below) number.on

  -- a number of steps on from the address of n is the address of the sum, with whole days taken off
  pub stepped_is : (k n : ℕ) → n < day_of fps drop → stepped fps drop k (address_at fps drop n) ≡ address_at fps drop ((n + k) % day_of fps drop)
  unfolding stepped
  stepped_is zero n h = rw (add-zero n, mod-eq_of_lt h)
  stepped_is (suc k) n h =
      let sum : n + suc k ≡ n + k + 1 = omega arith in
      rw (stepped_is k n h, step_on ((n + k) % day_of fps drop) (mod-lt (n + k) (some_day way)), mod-add-mod (n + k) (day_of fps drop) 1, sum)

  -- what the clock shows n steps after midnight: for n below the day the address of n, and after the day's count midnight again
  pub shown_is : (n : ℕ) → shown fps drop n ≡ address_at fps drop (n % day_of fps drop)
  shown_is n = rw (← first_address way) (stepped_is n 0 (some_day way) ∙ rw (zero-add n))

  -- after the day's count the clock shows midnight again
  pub midnight_again : shown fps drop (day_of fps drop) ≡ midnight
  midnight_again = shown_is (day_of fps drop) ∙ rw (mod_self (day_of fps drop)) (first_address way)

  -- the number of the n-th address is n
  pub number_of_address : (n : ℕ) → n < day_of fps drop → count_of fps drop (address_at fps drop n) ≡ n
  unfolding address_at
  number_of_address n h = (kept way n h).back

  -- the n-th address is not turned away
  pub address_stands : (n : ℕ) → n < day_of fps drop → turned_away fps drop (address_at fps drop n) ≡ false
  unfolding address_at
  address_stands n h =
      let number = kept way n h in
      rw (inside_not_outside fps (face_at fps (place_at drop n)) (face_inside fps (some_frames way) (place_at drop n) number.below)) number.seen

  -- an address that is not turned away has a number of the day, and is that number's address
  pub address_of_number : (a : Address) → turned_away fps drop a ≡ false
      → (count_of fps drop a < day_of fps drop) × (address_at fps drop (count_of fps drop a) ≡ a)
  unfolding address_at
  address_of_number a stands =
      let tests = neither (outside fps a) (drop && skipped a) stands in
      let within = inside fps a tests.0 in
      let number = counted way a within tests.1 in
      (number.0, rw number.1 (face_of_place fps (some_frames way) a within))

  -- an address that is turned away is never shown, however long the clock is stepped
  pub never_shown : (a : Address) → turned_away fps drop a ≡ true → (n : ℕ) → shown fps drop n ≡ a → ⊥
  never_shown a away n e =
      let stands = address_stands (n % day_of fps drop) (mod-lt n (some_day way)) in
      true≢false (sym away ∙ ap (turned_away fps drop) (sym e ∙ shown_is n) ∙ stands)

  -- any other is shown at its number, within the day
  pub shown_at_its_number : (a : Address) → turned_away fps drop a ≡ false → shown fps drop (count_of fps drop a) ≡ a
  shown_at_its_number a stands =
      let number = address_of_number a stands in
      shown_is (count_of fps drop a) ∙ rw (mod-eq_of_lt number.0) number.1
