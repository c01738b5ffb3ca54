-- `atc::reading::byte_in` meets its contract: eight digits of one bit fit a byte.
-- Assumes nothing.
use Prim.Native.Nat.{ℕ, ◌/◌, ◌%◌, ◌^◌, ◌≤◌}
use native.Mathlib.Nat.{pow-le-pow_right}
use native.Mathlib.Omega.{arith}
use lib.ListN.{length}
use Rattle.words.proofs.Lists.{gathered_below}
use Rattle.atc.proofs.reading.byte_in.Goals as goal

pub overflow_cast-result : goal.overflow_cast-result
overflow_cast-result c =
    let below = gathered_below (λ (word : ℕ). word / 8 % 2) 2 (λ word. omega arith) c.args.words.now in
    let few : 2 ^ length c.args.words.now ≤ 2 ^ 8 = pow-le-pow_right {n = 2} (omega arith) c.requires in
    omega (arith, c.digits_in.ensures, below, few)
