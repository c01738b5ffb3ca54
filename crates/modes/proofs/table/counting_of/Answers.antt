-- `modes::table::counting_of` meets its contract: 2 past both tables, and else the mode's row.
-- Assumes nothing.
use Prim.Native.Nat.{ℕ, ◌+◌, ◌-◌}
use mathlib.Core.Path.{◌≡◌}
use mathlib.Core.Bool.{Bool, true, false}
use native.Mathlib.Omega.{arith}
use Rattle.std.specs.Prelude.{Err, Ok}
use Rattle.refusals.specs.declared.types.Refusal.TheVariants.{UnknownMode}
use Rattle.rates.specs.declared.types.Rate.{Rate}
use Rattle.pictures.specs.Pictures.{counting}
use Rattle.modes.specs.Modes.{uncounted, rate_at, pictures_at, counting_of}
use Rattle.modes.proofs.table.counting_of.Goals as goal

module _ (mode : ℕ) (past : Bool) (asked : past ≡ uncounted mode) where
  no_mode : past ≡ true → Err UnknownMode ≡ counting_of mode
  unfolding counting_of
  no_mode e = rw (← asked, e)

  known : past ≡ false → (rate : Rate) (last : ℕ) → rate ≡ rate_at mode → last + 1 ≡ pictures_at mode → Ok (counting rate last) ≡ counting_of mode
  unfolding counting_of
  known e rate last at share = let place : last ≡ pictures_at mode - 1 = omega arith in rw (at, place, ← asked, e)

pub returns-then-is_uncounted : goal.returns-then-is_uncounted
returns-then-is_uncounted c = search no_mode

pub returns : goal.returns
returns c = search known
