-- `modes::showing::place_shown` meets its contract: the first, or by the mark where several pictures share an address.
-- Assumes nothing.
use mathlib.Core.Path.{◌≡◌}
use mathlib.Core.Bool.{Bool, true, false, cond}
use Prim.Native.Nat.{ℕ, ◌+◌}
use native.Mathlib.Omega.{arith}
use borrow.Author.Tests.{lt-ltb}
use Rattle.rates.specs.declared.types.Flag.{Flag}
use Rattle.rates.specs.declared.types.Flag.TheVariants.{No, Yes}
use Rattle.rates.specs.Rates.{is_yes}
use Rattle.layout.specs.Flags.{bit_of}
use Rattle.modes.specs.declared.types.Shows.{Shows}
use Rattle.modes.specs.declared.types.Shows.TheVariants.{ByMark}
use Rattle.modes.specs.Modes.{pictures_at}
use Rattle.modes.specs.Shown.{place_shown}
use Rattle.modes.proofs.showing.place_shown.Goals as goal

bit_of_lem : (mark : Flag) (set : Bool) → set ≡ is_yes mark → bit_of mark ≡ cond set 1 0
bit_of_lem No set e = rw e
bit_of_lem Yes set e = rw e

module _ (mode : ℕ) (shows : Shows) (mark : Flag) where
  module _ (e : shows ≡ ByMark) (last : ℕ) (share : last + 1 ≡ pictures_at mode) where
    alone : last ≡ 0 → 0 ≡ place_shown mode shows mark
    alone none = rw (e, ← share, none)

    module _ (more : last ≡ 0 → ⊥) (set : Bool) (asked : set ≡ is_yes mark) where
      second : set ≡ true → 1 ≡ place_shown mode shows mark
      second t = rw (e, ← share, lt-ltb 1 (last + 1) (omega arith), bit_of_lem mark set asked, t)

      again_first : set ≡ false → 0 ≡ place_shown mode shows mark
      again_first t = rw (e, ← share, lt-ltb 1 (last + 1) (omega arith), bit_of_lem mark set asked, t)

pub returns-then-last_place-eq0 : goal.returns-then-last_place-eq0
returns-then-last_place-eq0 c = search alone

pub returns-then-is_yes : goal.returns-then-is_yes
returns-then-is_yes c = search second

pub returns-else-is_yes : goal.returns-else-is_yes
returns-else-is_yes c = search again_first
