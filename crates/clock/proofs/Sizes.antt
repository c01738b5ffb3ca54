-- How large the clock's numbers get: what each sum and product of the code needs to fit its type.
-- Assumes nothing.
use Prim.Native.Nat.{ℕ, ◌+◌, ◌*◌, ◌/◌, ◌≤◌, ◌<◌}
use mathlib.Core.Path.{◌≡◌}
use mathlib.Core.Bool.{Bool, true, false}
use native.Mathlib.Omega.{arith}
use native.Mathlib.Nat.{mul-le-mul_left, div-lt_iff_lt-mul}
use Rattle.rates.specs.declared.types.Rate.{Rate}
use Rattle.rates.specs.declared.types.Address.{Address}
use Rattle.rates.specs.Rates.{frames_in_second}
use Rattle.rates.proofs.Sizes.{rate_small}
use Rattle.clock.specs.Counting.{minutes_of, place_of, count_of, place_at}

-- an address whose fields are bytes
pub record Bytes (a : Address) : Type 0 where
  pub hours : a.hours < 256
  pub minutes : a.minutes < 256
  pub seconds : a.seconds < 256
  pub frames : a.frames.0 < 256

pub place_small : (fps : ℕ) (a : Address) → Bytes a → fps ≤ 30 → place_of fps a < 30000000
place_small fps a b low = omega (arith, mul-le-mul_left (60 * minutes_of a + a.seconds) low)

-- a place is at least the frames of its minutes
pub place_large : (fps : ℕ) (a : Address) → 0 < fps → 60 * minutes_of a ≤ place_of fps a
place_large fps a some = omega (arith, mul-le-mul_left (60 * minutes_of a + a.seconds) some)

-- the same of a count that is known to be an address's, and of a day that is known to be a rate's
pub count_small :
    (rate : Rate) (n : ℕ) (drop : Bool) (a : Address) → n ≡ count_of (frames_in_second rate) drop a
    → a.hours < 256 → a.minutes < 256 → a.seconds < 256 → a.frames.0 < 256 → n < 30000000
unfolding count_of
count_small rate n drop a e h m s f =
    let bytes : Bytes a = record { hours = h; minutes = m; seconds = s; frames = f } in
    rw e (omega (arith, place_small (frames_in_second rate) a bytes (rate_small rate)))

-- a number below 2,592,000 shows fewer than 256 hours
pub place_at_small : (drop : Bool) (n : ℕ) → n < 2592000 → place_at drop n < 2600000
place_at_small true n h = omega arith
place_at_small false n h = omega arith

pub hours_small : (fps p : ℕ) → 24 ≤ fps → p < 2600000 → p / fps / 60 / 60 < 256
hours_small fps p h low =
    let some : 0 < fps = omega arith in
    let within : p < 110000 * fps = omega (arith, mul-le-mul_left 110000 h) in
    let second : p / fps < 110000 = (div-lt_iff_lt-mul some).1 within in
    omega arith
