-- Lists of bits side by side: one more bit, and two registers shifted by one.
-- Assumes nothing.
use Prim.Native.Nat.{ℕ, zero, suc, ◌+◌, ◌*◌, ◌/◌, ◌%◌, ◌^◌, ◌<◌}
use mathlib.Core.Path.{◌≡◌, ap, ap₂, sym, ◌∙◌}
use mathlib.Core.List.{List, [], ◌∷◌, ◌++◌, append_assoc}
use native.Mathlib.Nat.{pow-succ', mul_assoc, zero-add, suc-add}
use native.Mathlib.Numerals.{add-one}
use native.Mathlib.Omega.{arith}
use lib.ListN.{length, drop}
use Rattle.bits.specs.Bits.{value, to_bits}
use Rattle.bits.proofs.Inverse.{half_below}

twice : (k m : ℕ) → 2 ^ suc k * m ≡ 2 * (2 ^ k * m)
twice k m = rw pow-succ' (mul_assoc 2 (2 ^ k) m)

-- the second list counts from where the first ends
pub value_append : (low high : List ℕ) → value (low ++ high) ≡ value low + 2 ^ length low * value high
unfolding value
value_append [] high = omega arith
value_append (bit ∷ low) high = rw (value_append low high) (omega (arith, twice (length low) (value high)))

-- the low bits of a number do not see what stands above them
pub to_bits_append : (low high n m : ℕ) → n < 2 ^ low → to_bits (low + high) (n + 2 ^ low * m) ≡ to_bits low n ++ to_bits high m
unfolding to_bits
to_bits_append zero high n m h =
    let all : n + 1 * m ≡ m = omega arith in
    rw (zero-add, all)
to_bits_append (suc low) high n m h =
    let lowest : (n + 2 ^ suc low * m) % 2 ≡ n % 2 = omega (arith, twice low m) in
    let others : (n + 2 ^ suc low * m) / 2 ≡ n / 2 + 2 ^ low * m = omega (arith, twice low m) in
    rw (suc-add, lowest, others, to_bits_append low high (n / 2) m (half_below low n h))

-- one more bit at the top
pub one_more_bit : (width n bit : ℕ) → n < 2 ^ width → bit < 2 → to_bits (suc width) (n + 2 ^ width * bit) ≡ to_bits width n ++ (bit ∷ [])
unfolding to_bits
one_more_bit width n bit h k =
    let itself : bit % 2 ≡ bit = omega arith in
    ap (λ (k : ℕ). to_bits k (n + 2 ^ width * bit)) (sym (add-one width)) ∙ to_bits_append width 1 n bit h ∙ rw itself

-- two registers side by side, shifted by one: a bit enters at the top of the upper, the upper's lowest goes over to the
-- top of the lower, and the lower's lowest leaves
pub shifted :
    (m n lower upper bit : ℕ) → lower < 2 ^ suc m → upper < 2 ^ suc n → bit < 2
    → to_bits (suc m) (lower / 2 + 2 ^ m * (upper % 2)) ++ to_bits (suc n) (upper / 2 + 2 ^ n * bit)
    ≡ drop 1 (to_bits (suc m) lower ++ to_bits (suc n) upper) ++ (bit ∷ [])
unfolding to_bits
shifted m n lower upper bit h k l =
    ap₂ (λ (xs ys : List ℕ). xs ++ ys)
    (one_more_bit m (lower / 2) (upper % 2) (half_below m lower h) (omega arith))
    (one_more_bit n (upper / 2) bit (half_below n upper k) l)
    ∙ append_assoc (to_bits m (lower / 2)) (upper % 2 ∷ []) (to_bits n (upper / 2) ++ (bit ∷ []))
    ∙ sym (append_assoc (to_bits m (lower / 2)) (upper % 2 ∷ to_bits n (upper / 2)) (bit ∷ []))
