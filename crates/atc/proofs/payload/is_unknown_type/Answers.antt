-- `atc::payload::is_unknown_type` meets its contract: one test for each family.
-- Assumes nothing.
use Prim.Native.Nat.{ℕ, ◌/◌}
use mathlib.Core.Path.{◌≡◌}
use mathlib.Core.Bool.{Bool, true, false, not}
use lib.Dec.{ltb, eqb}
use Rattle.modes.specs.Modes.{high_rate}
use Rattle.packets.specs.Packet.{is_unknown_type}
use Rattle.atc.proofs.payload.is_unknown_type.Goals as goal

module _ (mode type : ℕ) (high : Bool) (asked : high ≡ high_rate mode) where
  of_high_rates : high ≡ true → not (eqb (type / 16) 8) ≡ is_unknown_type mode type
  of_high_rates t = rw (← asked, t)

  of_the_others : high ≡ false → ltb 2 type ≡ is_unknown_type mode type
  of_the_others f = rw (← asked, f)

pub returns-then-is_high_rate : goal.returns-then-is_high_rate
returns-then-is_high_rate c = search of_high_rates

pub returns : goal.returns
returns c = search of_the_others
