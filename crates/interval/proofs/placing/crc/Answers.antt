-- `interval::placing::crc` meets its contract. At each turn the number is that of the bits from the i-th on.
-- Assumes nothing.
use Prim.Native.Nat.{ℕ, ◌+◌, ◌-◌, ◌*◌, ◌%◌, ◌^◌, ◌≤◌, ◌<◌}
use mathlib.Core.Path.{◌≡◌}
use mathlib.Core.List.{List}
use native.Mathlib.Omega.{arith}
use lib.ListN.{get_or, take}
use Rattle.runs.specs.Loops.{Gathering}
use Rattle.interval.specs.Line.{ones_at, crc_of}
use Rattle.interval.proofs.Lists.{get_d_each}
use Rattle.interval.proofs.Pass.{odds_of}
use Rattle.interval.proofs.Gathers.{each_begins, each_room, each_turns}
use Rattle.interval.proofs.placing.crc.Goals as goal

module _ (front : List ℕ) where
  begun : Gathering (crc_of front) 0 (take 8 (crc_of front))
  unfolding crc_of
  begun = each_begins 8 (λ i. ones_at ((82 + i) % 8) front % 2) (omega arith)

  -- the bit of a place is the count of its remainder
  bit_at : (odds : List ℕ) → odds ≡ odds_of front → (place : ℕ) → get_or odds (place % 8) 0 ≡ ones_at (place % 8) front % 2
  bit_at odds told place = rw told (get_d_each 8 (λ n. ones_at n front % 2) (place % 8) (omega arith))

  module _
      (i : ℕ) (within : i ≤ 8) (some : 0 < i) (bit : ℕ) (told : bit ≡ ones_at ((82 + (i - 1)) % 8) front % 2) (number : ℕ)
      (g : Gathering (crc_of front) number (take i (crc_of front))) where
    room : number < 2 ^ 63
    unfolding crc_of
    room = each_room 8 (λ i. ones_at ((82 + i) % 8) front % 2) i within some bit told number g

    turned : Gathering (crc_of front) (2 * number + bit) (take (i - 1) (crc_of front))
    unfolding crc_of
    turned = each_turns 8 (λ i. ones_at ((82 + i) % 8) front % 2) i within some bit told number g (omega (arith, told))

pub loop-i-init : goal.loop-i-init
loop-i-init c = (omega arith, begun _)

pub overflow_mul-number : goal.overflow_mul-number
overflow_mul-number c =
    let few : c.loop-i.number < 2 ^ 63 = room _ _ c.loop-i.invariant.0 (omega arith) _ (bit_at _ _ c.count_ones.ensures (82 + (c.loop-i.i - 1))) _ c.loop-i.invariant.1 in
    omega arith

pub overflow_add-number-in-loop-i : goal.overflow_add-number-in-loop-i
overflow_add-number-in-loop-i c =
    let told = bit_at _ _ c.count_ones.ensures (82 + (c.loop-i.i - 1)) in
    let few : c.loop-i.number < 2 ^ 63 = room _ _ c.loop-i.invariant.0 (omega arith) _ told _ c.loop-i.invariant.1 in
    omega (arith, told)

pub loop-i-preserved : goal.loop-i-preserved
loop-i-preserved c = (omega arith, turned _ _ c.loop-i.invariant.0 (omega arith) _ (bit_at _ _ c.count_ones.ensures (82 + (c.loop-i.i - 1))) _ c.loop-i.invariant.1)
