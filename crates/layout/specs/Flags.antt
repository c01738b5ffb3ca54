-- Flags as bits, and the table of flags: where the mark and the binary group flags stand at each rate.
-- Assumes nothing.
use Rattle.std.specs.Prelude.{ℕ, zero, suc, Bool, false}
use Rattle.rates.specs.declared.types.Flag.{Flag}
use Rattle.rates.specs.declared.types.Flag.TheVariants.{No, Yes}
use Rattle.rates.specs.declared.types.Rate.{Rate}
use Rattle.rates.specs.Rates.{is_yes, by_rate}
use Rattle.layout.specs.Layout.{bits}

-- "In a record, mark and flags are yes or no"
abbrev pub flag_of : ℕ → Flag
flag_of zero = No
flag_of (suc n) = Yes

abbrev pub bit_of : Flag → ℕ
bit_of No = 0
bit_of Yes = 1

-- the flag that stands at a place
abbrev pub flag_at : ℕ → ℕ → Flag
flag_at place info = flag_of (bits place place info)

-- where the mark and BGF0 and BGF2 stand; BGF1 stands at 58 at every rate
pub record Places : Type 0 where
  pub mark : ℕ
  pub bgf0 : ℕ
  pub bgf2 : ℕ

abbrev pub places : Rate → Places
places rate =
    by_rate rate
    (record { mark = 27; bgf0 = 43; bgf2 = 59 })
    (record { mark = 59; bgf0 = 27; bgf2 = 43 })
    (record { mark = 27; bgf0 = 43; bgf2 = 59 })

-- "in a record: colour in mode 0": the colour bit is unused at 24
abbrev pub unused_colour : Rate → Flag → Bool
unused_colour rate colour = by_rate rate (is_yes colour) false false
