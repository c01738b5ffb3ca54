-- `clock::addresses::place` meets its contract: in the first two frames of ten minutes no minute of the ten has been skipped at.
-- Assumes nothing.
use mathlib.Core.Path.{◌≡◌, sym}
use mathlib.Core.Bool.{Bool, true, false, not}
use Prim.Native.Nat.{ℕ, ◌+◌, ◌-◌, ◌*◌, ◌/◌, ◌%◌, ◌<◌}
use native.Mathlib.Nat.{add-zero}
use native.Mathlib.Omega.{arith}
use borrow.Author.Tests.{not-true, not-false}
use Rattle.clock.specs.Counting.{place_at}
use Rattle.clock.proofs.addresses.place.Goals as goal

module _ (n : ℕ) (drop : Bool) where
  unskipped : not drop ≡ true → n ≡ place_at drop n
  unskipped e = rw (not-true drop e) (sym (add-zero n))

  early : not drop ≡ false → n % 17982 < 2 → n + 18 * (n / 17982) ≡ place_at drop n
  early e low = rw (not-false drop e) (omega arith)

  late : not drop ≡ false → n + (18 * (n / 17982) + 2 * ((n % 17982 - 2) / 1798)) ≡ place_at drop n
  late e = rw (not-false drop e)

pub returns-then-not-drop : goal.returns-then-not-drop
returns-then-not-drop c = search unskipped

pub returns-then-rest-lt2 : goal.returns-then-rest-lt2
returns-then-rest-lt2 c = search early

pub returns : goal.returns
returns c = search late
