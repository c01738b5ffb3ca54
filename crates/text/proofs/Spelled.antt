-- A number's decimal digits, the fewest that hold it, are its decimal; and how many there are at most.
-- Assumes nothing.
use Prim.Native.Nat.{ℕ, zero, suc, ◌-◌, ◌*◌, ◌/◌, ◌%◌, ◌^◌, ◌≤◌, ◌<◌}
use mathlib.Core.Path.{◌≡◌, refl}
use mathlib.Core.Bool.{Bool, true, false}
use native.Mathlib.Omega.{arith}
use lib.Dec.{ltb}
use lib.ListN.{length, length-append}
use borrow.Author.Tests.{lt-ltb, le-ltb, ltb-true, ltb-false}
use native.Mathlib.Nat.{pow-succ', one-le-pow, pow-le-pow_right}
use Rattle.io.specs.Digits.{last_digits, IsDigitCount}
use Rattle.text.specs.Numerals.{decimal_within}

ten : (k : ℕ) → 10 ^ suc k ≡ 10 * 10 ^ k
ten k = pow-succ' 10 k

-- with no zeros in front: the fewest digits that hold the number, at least one
pub spelled : (k m n : ℕ) → k ≤ m → IsDigitCount 10 1 n k → last_digits 10 k n ≡ decimal_within m n
unfolding decimal_within
spelled zero m n h f = absurd (omega (arith, f.0))
spelled (suc zero) (suc m) n h f =
    let low : n < 10 = omega (arith, f.1, ten 0) in
    rw (lt-ltb n 10 low, lt-ltb (n % 10) 10 (omega arith))
spelled (suc (suc k)) (suc m) n h f =
    let one_less : suc (suc k) - 1 ≡ suc k = omega arith in
    let least : 10 ^ suc k ≤ n = rw one_less at (f.2 (omega arith)) in
    let some : 0 < 10 ^ k = one-le-pow k 10 (omega arith) in
    let high : 10 ≤ n = omega (arith, ten k) in
    let fewer : 1 < suc k → 10 ^ (suc k - 1) ≤ n / 10 = λ more. (let same : suc k - 1 ≡ k = omega arith in rw same (omega (arith, ten k))) in
    let rest : IsDigitCount 10 1 (n / 10) (suc k) = (omega arith, omega (arith, f.1, ten (suc k)), fewer) in
    rw (le-ltb n 10 high, lt-ltb (n % 10) 10 (omega arith), spelled (suc k) m (n / 10) (omega arith) rest)
spelled (suc zero) zero n h f = elim h [ ]
spelled (suc (suc k)) zero n h f = elim h [ ]

-- a 64-bit number has at most 20 decimal digits
pub within_twenty : (k n : ℕ) → n < 2 ^ 64 → IsDigitCount 10 1 n k → k ≤ 20
within_twenty k n small f = go (ltb 20 k) refl
  where
    go : (t : Bool) → ltb 20 k ≡ t → k ≤ 20
    go false t = ltb-false 20 k t
    go true t =
        let many : 20 < k = ltb-true 20 k t in
        let least : 10 ^ (k - 1) ≤ n = f.2 (omega arith) in
        let more : 10 ^ 20 ≤ 10 ^ (k - 1) = pow-le-pow_right (omega arith) {i = 20} (omega arith) in
        absurd (omega arith)

-- a number below ten to the k has at most k digits
pub few_digits : (m k n : ℕ) → n < 10 ^ suc k → length (decimal_within m n) ≤ suc k
unfolding decimal_within
few_digits zero k n h = omega arith
few_digits (suc m) k n h = go (ltb n 10) refl k h (few_digits m)
  where
    go : (t : Bool) → ltb n 10 ≡ t → (k : ℕ) → n < 10 ^ suc k → ((k n : ℕ) → n < 10 ^ suc k → length (decimal_within m n) ≤ suc k) → length (decimal_within (suc m) n) ≤ suc k
    go true t k h rest = rw t (omega arith)
    go false t zero h rest = absurd (omega (arith, ltb-false n 10 t, ten 0))
    go false t (suc k) h rest =
        let fewer = rest k (n / 10) (omega (arith, ten (suc k))) in
        rw (t, length-append) (omega arith)

pub at_most : (m n : ℕ) → length (decimal_within m n) ≤ m
unfolding decimal_within
at_most zero n = omega arith
at_most (suc m) n = go (ltb n 10) refl (at_most m (n / 10))
  where
    go : (t : Bool) → ltb n 10 ≡ t → length (decimal_within m (n / 10)) ≤ m → length (decimal_within (suc m) n) ≤ suc m
    go true t h = rw t (omega arith)
    go false t h = rw (t, length-append) (omega arith)
