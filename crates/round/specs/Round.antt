-- The distance from one number to another, and a number plus a signed count, round a day of so many numbers.
-- Assumes nothing.
use Rattle.std.specs.Prelude.{ℕ, suc, ◌+◌, ◌-◌, ◌/◌, ◌%◌, cond, ltb, leb, ℤ, pos, negsuc}
use Rattle.std.proofs.Math.IntN.{sub_ℕ}

-- "later number less earlier, brought by whole days into the range from minus half a day up to, and not including, plus half a day": one day
-- is enough for two numbers of a day, and half a day is a number where the day's count is even, as it is at every rate
unfoldable pub distance_of : ℕ → ℕ → ℕ → ℤ
distance_of day from to =
    cond (ltb (to + day / 2) from) (sub_ℕ (to + day) from)
    (cond (leb (from + day / 2) to) (sub_ℕ to (from + day)) (sub_ℕ to from))

-- "Adding any signed 32-bit count to an address goes round midnight either way"
unfoldable pub sum_of : ℕ → ℕ → ℤ → ℕ
sum_of day n (pos count) = (n + count) % day
sum_of day n (negsuc less) = (n + (day - suc less % day)) % day
