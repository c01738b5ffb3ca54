-- What the code says of each mode, row by row of both tables, and past them.
-- Assumes nothing.
use Prim.Native.Nat.{ℕ, zero, suc, ◌+◌, ◌<◌}
use mathlib.Core.Path.{◌≡◌, refl}
use mathlib.Core.Bool.{Bool, false, ◌||◌, cond}
use native.Mathlib.Omega.{arith}
use lib.Dec.{ltb, eqb}
use borrow.Author.Tests.{le-ltb, ne_eqb}
use Rattle.rates.specs.declared.types.Rate.{Rate}
use Rattle.rates.specs.declared.types.Rate.TheVariants.{At24, At25, At30}
use Rattle.modes.specs.Modes.{rate_at, pictures_at}

abbrev pub by24 : ℕ → Bool
by24 mode = eqb mode 0 || (eqb mode 3 || (eqb mode 6 || (eqb mode 7 || eqb mode 9)))

abbrev pub by25 : ℕ → Bool
by25 mode = eqb mode 1 || (eqb mode 4 || eqb mode 8)

abbrev pub by_four : ℕ → Bool
by_four mode = eqb mode 7 || (eqb mode 8 || eqb mode 10)

abbrev rate_in_code : ℕ → Rate
rate_in_code mode = cond (by24 mode) At24 (cond (by25 mode) At25 At30)

abbrev last_in_code : ℕ → ℕ
last_in_code mode = cond (ltb mode 3) 0 (cond (eqb mode 6) 2 (cond (by_four mode) 3 (cond (eqb mode 9) 4 1)))

-- past both tables no number of a row is met
far : (mode k : ℕ) → k < 11 → eqb (suc (suc (suc (suc (suc (suc (suc (suc (suc (suc (suc mode))))))))))) k ≡ false
far mode k low = ne_eqb (suc (suc (suc (suc (suc (suc (suc (suc (suc (suc (suc mode))))))))))) k (λ e. omega arith)

pub row_by_row : (mode : ℕ) → (rate_in_code mode ≡ rate_at mode) × (last_in_code mode + 1 ≡ pictures_at mode)
unfolding rate_at pictures_at
row_by_row zero = (refl, refl)
row_by_row (suc zero) = (refl, refl)
row_by_row (suc (suc zero)) = (refl, refl)
row_by_row (suc (suc (suc zero))) = (refl, refl)
row_by_row (suc (suc (suc (suc zero)))) = (refl, refl)
row_by_row (suc (suc (suc (suc (suc zero))))) = (refl, refl)
row_by_row (suc (suc (suc (suc (suc (suc zero)))))) = (refl, refl)
row_by_row (suc (suc (suc (suc (suc (suc (suc zero))))))) = (refl, refl)
row_by_row (suc (suc (suc (suc (suc (suc (suc (suc zero)))))))) = (refl, refl)
row_by_row (suc (suc (suc (suc (suc (suc (suc (suc (suc zero))))))))) = (refl, refl)
row_by_row (suc (suc (suc (suc (suc (suc (suc (suc (suc (suc zero)))))))))) = (refl, refl)
row_by_row (suc (suc (suc (suc (suc (suc (suc (suc (suc (suc (suc mode))))))))))) = (
  rw (far mode 0 (omega arith), far mode 3 (omega arith), far mode 6 (omega arith), far mode 7 (omega arith), far mode 9 (omega arith), far mode 1 (omega arith), far mode 4 (omega arith), far mode 8 (omega arith)),
  rw (le-ltb (suc (suc (suc (suc (suc (suc (suc (suc (suc (suc (suc mode))))))))))) 3 (omega arith), far mode 6 (omega arith), far mode 7 (omega arith), far mode 8 (omega arith), far mode 10 (omega arith), far mode 9 (omega arith)),
)
