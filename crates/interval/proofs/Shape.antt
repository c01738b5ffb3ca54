-- The parts of a line that 64 bits make: how long they are, and that each element is a bit.
-- Assumes nothing.
use Prim.Native.Nat.{ℕ, zero, suc, ◌+◌, ◌*◌, ◌/◌, ◌%◌}
use mathlib.Core.Path.{◌≡◌, refl}
use mathlib.Core.List.{List, [], ◌∷◌}
use native.Mathlib.Omega.{arith}
use lib.ListN.{length, length-append}
use Rattle.bits.specs.Bits.{value, to_bits, some_above, AllBits}
use Rattle.bits.proofs.Bit.{within_append, bits_of_number, length_to_bits}
use Rattle.bits.proofs.Inverse.{to_bits_value}
use Rattle.interval.specs.Line.{ones_at, groups, payload, crc_of, line_with}
use Rattle.interval.proofs.Lists.{length_each, within_each}

pub length_groups : (count info : ℕ) → length (groups count info) ≡ 10 * count
unfolding groups
length_groups zero info = refl
length_groups (suc count) info =
    rw (length-append (to_bits 8 info) (groups count (info / 256)), length_to_bits 8 info, length_groups count (info / 256)) (omega arith)

pub clean_groups : (count info : ℕ) → AllBits (groups count info)
unfolding groups some_above
clean_groups zero info = refl
clean_groups (suc count) info =
    within_append 1 (to_bits 8 info) (groups count (info / 256)) (bits_of_number 8 info) (clean_groups count (info / 256))

module _ (info : ℕ) where
  pub length_payload : length (payload info) ≡ 82
  unfolding payload
  length_payload = rw (length-append (groups 8 info) (1 ∷ 0 ∷ []), length_groups 8 info)

  pub clean_payload : AllBits (payload info)
  unfolding payload some_above
  clean_payload = within_append 1 (groups 8 info) (1 ∷ 0 ∷ []) (clean_groups 8 info) refl

module _ (front : List ℕ) where
  pub length_crc : length (crc_of front) ≡ 8
  unfolding crc_of
  length_crc = length_each 8 (λ i. ones_at ((82 + i) % 8) front % 2)

  pub clean_crc : AllBits (crc_of front)
  unfolding crc_of
  clean_crc = within_each 1 8 (λ i. ones_at ((82 + i) % 8) front % 2) (λ i. omega arith)

  -- the CRC as a number of eight bits
  pub crc_bits : to_bits 8 (value (crc_of front)) ≡ crc_of front
  crc_bits = rw length_crc at (to_bits_value (crc_of front) clean_crc)

module _ (info : ℕ) where
  pub length_line : length (line_with info) ≡ 90
  unfolding line_with
  length_line = rw (length-append (payload info) (crc_of (payload info)), length_payload info, length_crc (payload info))

  pub clean_line : AllBits (line_with info)
  unfolding line_with
  clean_line = within_append 1 (payload info) (crc_of (payload info)) (clean_payload info) (clean_crc (payload info))
