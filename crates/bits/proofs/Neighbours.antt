-- A digit too small for it has not both of its top two bits set.
-- Assumes nothing.
use Prim.Native.Nat.{ℕ, zero, suc, ◌+◌, ◌*◌, ◌/◌, ◌%◌, ◌^◌, ◌<◌}
use mathlib.Core.Path.{◌≡◌, sym, ap, ◌∙◌}
use mathlib.Core.List.{List, [], ◌∷◌}
use native.Mathlib.Nat.{div-one, add_comm}
use native.Mathlib.Numerals.{add-one}
use native.Mathlib.Omega.{arith}
use lib.ListN.{get_or}
use lib.Pow.{shr-shr, mod-pow-add}
use Rattle.bits.specs.Bits.{to_bits}

-- it holds of each
abbrev pub Each : {A : Type 0} → (A → Type 0) → List A → Type 0
Each Law [] = Unit {0}
Each Law (x ∷ xs) = Law x × Each Law xs

-- the bit at a place
pub bit_at : (width n place : ℕ) → place < width → get_or (to_bits width n) place 0 ≡ n / 2 ^ place % 2
unfolding to_bits
bit_at zero n place h = absurd (omega arith)
bit_at (suc width) n zero h = ap (λ (k : ℕ). k % 2) (sym (div-one n))
bit_at (suc width) n (suc place) h = bit_at width (n / 2) place (omega arith) ∙ ap (λ (k : ℕ). k % 2) (shr-shr n 1 place ∙ ap (λ (k : ℕ). n / 2 ^ k) (add_comm 1 place ∙ add-one place))

-- a digit among the bits: where it stands, and how many of its bits are below the top two
pub record Digit : Type 0 where
  pub first : ℕ
  pub below : ℕ

-- it is too small for its top two bits to be both set
abbrev pub Small : ℕ → Digit → Type 0
Small n d = n / 2 ^ d.first % 2 ^ (2 + d.below) < 3 * 2 ^ d.below

pub not_both :
    (n : ℕ) (d : Digit) → Small n d → n / 2 ^ (d.first + d.below) % 2 ≡ 1 → n / 2 ^ (d.first + d.below + 1) % 2 ≡ 1 → ⊥
not_both n d small one other =
    let digit = n / 2 ^ d.first in
    let top = digit / 2 ^ d.below in
    let here : top ≡ n / 2 ^ (d.first + d.below) = shr-shr n d.first d.below in
    let next : top / 2 ≡ n / 2 ^ (d.first + d.below + 1) = ap (λ (k : ℕ). k / 2) here ∙ shr-shr n (d.first + d.below) 1 in
    let low : top % 2 ≡ 1 = rw here one in
    let high : top / 2 % 2 ≡ 1 = rw next other in
    let three : top % 4 ≡ 3 = mod-pow-add top 1 1 ∙ rw (low, high) in
    let cut : digit % 2 ^ (2 + d.below) ≡ 3 * 2 ^ d.below + digit % 2 ^ d.below =
    mod-pow-add digit 2 d.below ∙ ap (λ (k : ℕ). k * 2 ^ d.below + digit % 2 ^ d.below) three in
    omega (arith, small, cut)
