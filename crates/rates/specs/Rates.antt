-- "Counting at 24, 25 and 30 frames, with drop-frame at 30", and the table of frames in a day.
-- Assumes nothing.
use Rattle.std.specs.Prelude.{ℕ, Bool, true, false, cond}
use Rattle.rates.specs.declared.types.Flag.{Flag}
use Rattle.rates.specs.declared.types.Flag.TheVariants.{No, Yes}
use Rattle.rates.specs.declared.types.Rate.{Rate}
use Rattle.rates.specs.declared.types.Rate.TheVariants.{At24, At25, At30}

-- "In a record, mark and flags are yes or no"
-- the number of a flag, where numbers are given
abbrev pub flag_number : Flag → ℕ
flag_number No = 0
flag_number Yes = 1

abbrev pub is_yes : Flag → Bool
is_yes No = false
is_yes Yes = true

-- the one of three things that belongs to the rate
abbrev pub by_rate : {A : Type 0} → Rate → A → A → A → A
by_rate At24 at24 at25 at30 = at24
by_rate At25 at24 at25 at30 = at25
by_rate At30 at24 at25 at30 = at30

abbrev pub frames_in_second : Rate → ℕ
frames_in_second rate = by_rate rate 24 25 30

abbrev pub frames_in_day : Rate → Bool → ℕ
frames_in_day rate drop = by_rate rate 2073600 2160000 (cond drop 2589408 2592000)

-- "drop-frame at 30": whether drop may be asked for
abbrev pub may_drop : Rate → Bool
may_drop rate = by_rate rate false false true
