-- Numbers and addresses in closed form. What a reader has to believe is the clock that is stepped; that these are
-- its is proved, once over the rate and drop, in the crate `midnight`.
-- Assumes nothing.
use Rattle.std.specs.Prelude.{ℕ, ◌+◌, ◌-◌, ◌*◌, ◌/◌, ◌%◌, Bool, cond}
use Rattle.rates.specs.declared.types.Address.{Address}
use Rattle.rates.specs.Face.{showing}

-- the frames in a day: drop-frame skips two numbers in 1,296 of its 1,440 minutes
abbrev pub day_of : ℕ → Bool → ℕ
day_of fps drop = 86400 * fps - cond drop 2592 0

-- the minutes that have begun since midnight, the first not counted
abbrev pub minutes_of : Address → ℕ
minutes_of a = 60 * a.hours + a.minutes

-- the place of an address on a clock that skips nothing
abbrev pub place_of : ℕ → Address → ℕ
place_of fps a = (60 * minutes_of a + a.seconds) * fps + a.frames.0

-- the frame number of an address: two fewer for each minute begun, but for every tenth
unfoldable pub count_of : ℕ → Bool → Address → ℕ
count_of fps drop a = place_of fps a - cond drop (2 * (minutes_of a - minutes_of a / 10)) 0

-- the place of number n on a clock that skips nothing: ten minutes have 17,982 numbers, in which 18 are skipped; after the first
-- two of them each 1,798 are a minute, and each minute but the first begins two places late (the subtraction stops at 0)
abbrev pub place_at : Bool → ℕ → ℕ
place_at drop n = n + cond drop (18 * (n / 17982) + 2 * ((n % 17982 - 2) / 1798)) 0

-- what a clock that skips nothing shows at a place
abbrev pub face_at : ℕ → ℕ → Address
face_at fps p = showing (p / fps / 60 / 60) (p / fps / 60 % 60) (p / fps % 60) (p % fps)

-- the address of frame number n
unfoldable pub address_at : ℕ → Bool → ℕ → Address
address_at fps drop n = face_at fps (place_at drop n)
