-- The clock of document 01, "The clock": the standard's one-frame step, and what n steps from midnight show.
-- Assumes nothing.
use Rattle.std.specs.Prelude.{ℕ, zero, suc, ◌+◌, Bool, ◌&&◌, cond, ltb}
use Rattle.rates.specs.declared.types.Address.{Address}
use Rattle.rates.specs.Face.{showing, skipped}

-- "Number 0 is 00:00:00:00"
abbrev pub midnight : Address
midnight = showing 0 0 0 0

-- one on, each field with its carry into the next; after the last hour comes midnight
abbrev pub hour_on : ℕ → Address
hour_on h = cond (ltb (h + 1) 24) (showing (h + 1) 0 0 0) midnight

abbrev pub minute_on : ℕ → ℕ → Address
minute_on h m = cond (ltb (m + 1) 60) (showing h (m + 1) 0 0) (hour_on h)

abbrev pub second_on : ℕ → ℕ → ℕ → Address
second_on h m s = cond (ltb (s + 1) 60) (showing h m (s + 1) 0) (minute_on h m)

abbrev pub frame_on : ℕ → Address → Address
frame_on fps a =
    cond (ltb (a.frames.0 + 1) fps)
    (showing a.hours a.minutes a.seconds (a.frames.0 + 1))
    (second_on a.hours a.minutes a.seconds)

-- under drop-frame a clock that would show 00 or 01 where they are skipped shows 02
abbrev pub past_skipped : Bool → Address → Address
past_skipped drop a = cond (drop && skipped a) (showing a.hours a.minutes a.seconds 2) a

-- one clock step
abbrev pub step : ℕ → Bool → Address → Address
step fps drop a = past_skipped drop (frame_on fps a)

-- a number of clock steps on from an address
unfoldable pub stepped : ℕ → Bool → ℕ → Address → Address
stepped fps drop zero a = a
stepped fps drop (suc n) a = step fps drop (stepped fps drop n a)

-- "each later number is one clock step on": what the clock shows n steps after midnight
abbrev pub shown : ℕ → Bool → ℕ → Address
shown fps drop n = stepped fps drop n midnight
