-- `register::places::is_unreached` meets its contract: a one below the bits that are held is a register less blank than its empty places.
-- Assumes nothing.
use mathlib.Core.Path.{◌≡◌, sym}
use mathlib.Core.Bool.{true}
use Prim.Native.Nat.{ℕ, ◌-◌, ◌≤◌, ◌<◌}
use native.Mathlib.Omega.{arith}
use lib.Dec.{ltb}
use borrow.Author.Tests.{lt-ltb, le-ltb}
use Rattle.register.specs.declared.types.Reader.{Reader}
use Rattle.register.specs.Blank.{blank}
use Rattle.register.specs.Held.{register, unreached}
use Rattle.register.proofs.Blanks.{ones_by_blank}
use Rattle.register.proofs.Registers.{register_length, register_clean}
use Rattle.register.proofs.places.is_unreached.Goals as goal

module _ (r : Reader) where
  too_many : 80 < r.held → true ≡ unreached r
  unfolding unreached
  too_many h = rw (lt-ltb 80 r.held h)

  by_blank : (n : ℕ) → n ≡ blank (register r) → r.held ≤ 80 → ltb n (80 - r.held) ≡ unreached r
  unfolding unreached
  by_blank n e h =
      rw (le-ltb 80 r.held h, e) (sym (ones_by_blank (80 - r.held) (register r) (register_clean r) (rw (register_length r) (omega arith))))

pub returns-then-held-gt80 : goal.returns-then-held-gt80
returns-then-held-gt80 c = search too_many

pub returns : goal.returns
returns c = search by_blank
