-- `packets::form::fifth_word` meets its contract: one for each family.
-- Assumes nothing.
use Prim.Native.Nat.{ℕ}
use mathlib.Core.Path.{◌≡◌}
use mathlib.Core.Bool.{Bool, true, false}
use Rattle.modes.specs.Modes.{high_rate}
use Rattle.packets.specs.Packet.{fifth_word}
use Rattle.packets.proofs.form.fifth_word.Goals as goal

module _ (mode : ℕ) (high : Bool) (asked : high ≡ high_rate mode) where
  of_high_rates : high ≡ true → 0x161 ≡ fifth_word mode
  of_high_rates t = rw (← asked, t)

  of_the_others : high ≡ false → 0x260 ≡ fifth_word mode
  of_the_others f = rw (← asked, f)

pub returns-then-is_high_rate : goal.returns-then-is_high_rate
returns-then-is_high_rate c = search of_high_rates

pub returns : goal.returns
returns c = search of_the_others
