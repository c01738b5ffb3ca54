-- `value` and `to_bits` are inverse, at every width; and the low bits of a number are its own.
-- Assumes nothing.
use Prim.Native.Nat.{ℕ, zero, suc, ◌+◌, ◌*◌, ◌/◌, ◌%◌, ◌^◌, ◌<◌}
use mathlib.Core.Path.{◌≡◌, refl}
use mathlib.Core.List.{List, [], ◌∷◌}
use native.Mathlib.Nat.{pow-suc}
use native.Mathlib.Numerals.{add-one}
use native.Mathlib.Omega.{arith}
use lib.ListN.{length}
use lib.Pow.{field, mod-mod-pow}
use Rattle.bits.specs.Bits.{value, to_bits, AllBits}
use Rattle.bits.proofs.Bit.{head_within, tail_within}

-- half of a number that has one bit more
pub half_below : (width n : ℕ) → n < 2 ^ suc width → n / 2 < 2 ^ width
half_below width n h = omega arith

pub value_to_bits : (width n : ℕ) → n < 2 ^ width → value (to_bits width n) ≡ n
unfolding value to_bits
value_to_bits zero n h = omega arith
value_to_bits (suc width) n h = rw (value_to_bits width (n / 2) (half_below width n h)) (omega arith)

pub to_bits_value : (bits : List ℕ) → AllBits bits → to_bits (length bits) (value bits) ≡ bits
unfolding value to_bits
to_bits_value [] all = refl
to_bits_value (bit ∷ bits) all =
    let small = head_within 1 bit bits all in
    let low : (bit + 2 * value bits) % 2 ≡ bit = omega arith in
    let rest : (bit + 2 * value bits) / 2 ≡ value bits = omega arith in
    rw (low, rest, to_bits_value bits (tail_within 1 bit bits all))

-- a list of bits stands for a number below two to its length
pub value_below : (bits : List ℕ) → AllBits bits → value bits < 2 ^ length bits
unfolding value
value_below [] all = omega arith
value_below (bit ∷ bits) all =
    let small = head_within 1 bit bits all in
    let rest = value_below bits (tail_within 1 bit bits all) in
    omega (arith, pow-suc 2 (length bits))

-- the low bits of a number, whatever stands above them
pub low_bits : (width n : ℕ) → to_bits width (n % 2 ^ width) ≡ to_bits width n
unfolding to_bits
low_bits zero n = refl
low_bits (suc width) n =
    let lowest : n % 2 ^ suc width % 2 ≡ n % 2 = rw (← add-one width) (mod-mod-pow n width 1) in
    let others : n % 2 ^ suc width / 2 ≡ n / 2 % 2 ^ width = rw (← add-one width) (field n width 1) in
    rw (lowest, others, low_bits width (n / 2))
