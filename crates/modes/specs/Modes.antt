-- "Modes are numbers: 0 is 24 frames, 1 is 25, 2 is 30", and document 02, A4: "Modes 3, 4 and 5 are 48, 50 and 60, with the flag places and drop rules of modes 0, 1
-- and 2", and A6: "Modes 6 to 10 are 72, 96, 100, 24x5 and 30x4 .., for counting and packets only": the table of modes, and the one place where a mode is unknown.
-- Assumes nothing.
use Rattle.refusals.specs.declared.types.Refusal.TheVariants.{UnknownMode}
use Rattle.refusals.specs.declared.types.Refusal.{Refusal}
use Rattle.pictures.specs.declared.types.Counting.{Counting}
use Rattle.std.specs.Prelude.{ℕ, zero, suc, ◌-◌, Bool, not, ◌&&◌, List, [], ◌∷◌, ◌++◌, leb, length, Err, Ok, Result}
use Rattle.refusals.specs.Answer.{Cause, ◌when◌, answer}
use Rattle.rates.specs.declared.types.Rate.{Rate}
use Rattle.rates.specs.declared.types.Rate.TheVariants.{At24, At25, At30}
use Rattle.pictures.specs.Pictures.{counting}

infix 20 ◌by◌
-- a row: the rate at which addresses count, and how many pictures share an address
pub record Row : Type 0 where
  pub rate : Rate
  pub pictures : ℕ

abbrev pub ◌by◌ : Rate → ℕ → Row
rate by pictures = record { rate = rate; pictures = pictures }

-- a row for each mode, from 0 on
abbrev pub table : List Row
table = (At24 by 1) ∷ (At25 by 1) ∷ (At30 by 1) ∷ (At24 by 2) ∷ (At25 by 2) ∷ (At30 by 2) ∷ []

-- and from 6 on
abbrev pub high_rates : List Row
high_rates = (At24 by 3) ∷ (At24 by 4) ∷ (At25 by 4) ∷ (At24 by 5) ∷ (At30 by 4) ∷ []

-- "LTC and VITC refuse them by 2": to the linear track and the interval line a mode is unknown past the first table
unfoldable pub unknown : ℕ → Bool
unknown mode = leb (length table) mode

-- "and 2 begins above 10 elsewhere": nothing is counted past both
unfoldable pub uncounted : ℕ → Bool
uncounted mode = leb (length (table ++ high_rates)) mode

-- the modes of high frame rates, 6 to 10: counted, and unknown to the lines
unfoldable pub high_rate : ℕ → Bool
high_rate mode = unknown mode && not (uncounted mode)

-- row n; what is said past the last row no call gives out, since 2 is given first
abbrev pub row_of : List Row → ℕ → Row
row_of [] n = At30 by 2
row_of (row ∷ rows) zero = row
row_of (row ∷ rows) (suc n) = row_of rows n

-- the rate of a mode that is counted, and how many pictures share an address
unfoldable pub rate_at : ℕ → Rate
rate_at mode = (row_of (table ++ high_rates) mode).rate

unfoldable pub pictures_at : ℕ → ℕ
pictures_at mode = (row_of (table ++ high_rates) mode).pictures

-- 2 comes before whatever the rate refuses: on the lines, and elsewhere
abbrev pub with_mode : ℕ → List Cause → List Cause
with_mode mode rows = (UnknownMode when unknown mode) ∷ rows

abbrev pub with_counting : ℕ → List Cause → List Cause
with_counting mode rows = (UnknownMode when uncounted mode) ∷ rows

-- a call that counts by mode: 2, and else what the call answers by the mode's row
abbrev pub in_mode : {A : Type 0} → (Refusal → A) → ℕ → (Rate → ℕ → A) → A
in_mode refused mode call = answer refused (with_counting mode []) (call (rate_at mode) (pictures_at mode))

-- 2, or how pictures are counted in the mode: its rate, and the place of the last picture that shares an address
unfoldable pub counting_of : ℕ → Result Counting Refusal
counting_of mode = answer Err (with_counting mode []) (Ok (counting (rate_at mode) (pictures_at mode - 1)))

-- 2, or the rate of a mode that the lines know
unfoldable pub rated_of : ℕ → Result Rate Refusal
rated_of mode = answer Err (with_mode mode []) (Ok (rate_at mode))

-- 2, or the row of a high frame rate: its rate, and the place of the last picture that shares an address
unfoldable pub high_row_of : ℕ → Result Counting Refusal
high_row_of mode = answer Err ((UnknownMode when not (high_rate mode)) ∷ []) (Ok (counting (rate_at mode) (pictures_at mode - 1)))
