-- What characters stand for: part by part, at most one bit each, and each of the bits 0 or 1.
-- Assumes nothing.
use Prim.Native.Nat.{ℕ, suc, ◌-◌, ◌≤◌}
use mathlib.Core.Path.{◌≡◌, refl, ap}
use mathlib.Core.Bool.{Bool, true, false, true≢false, false≢true}
use mathlib.Core.List.{List, [], ◌∷◌, ◌++◌}
use native.Mathlib.Omega.{arith}
use lib.ListN.{length}
use lib.Dec.{eqb}
use borrow.Author.Tests.{eqb-true}
use Rattle.bits.specs.Bits.{AllBits, some_above}
use Rattle.bits.proofs.Bit.{within_cons}
use Rattle.text.specs.Ascii.{zero_digit}
use Rattle.characters.specs.Characters.{is_skipped, is_digit, one_digit, bits_in, goes_on}

-- of characters one after the other none ends the reading where none does in either part, and their bits follow one another
pub in_parts : (cs ds : List ℕ) → goes_on cs ≡ true → (bits_in (cs ++ ds) ≡ bits_in cs ++ bits_in ds) × (goes_on (cs ++ ds) ≡ goes_on ds)
unfolding bits_in goes_on
in_parts [] ds on = (refl, refl)
in_parts (c ∷ cs) ds on = go (is_skipped c) (is_digit c) refl refl (in_parts cs ds)
  where
    go : (s d : Bool) → is_skipped c ≡ s → is_digit c ≡ d
        → (goes_on cs ≡ true → (bits_in (cs ++ ds) ≡ bits_in cs ++ bits_in ds) × (goes_on (cs ++ ds) ≡ goes_on ds))
        → (bits_in (c ∷ cs ++ ds) ≡ bits_in (c ∷ cs) ++ bits_in ds) × (goes_on (c ∷ cs ++ ds) ≡ goes_on ds)
    go true d s t rest = let r = rest (rw s at on) in (rw s r.0, rw s r.1)
    go false true s t rest = let r = rest (rw (s, t) at on) in (rw (s, t) (ap (λ (l : List ℕ). (c - zero_digit) ∷ l) r.0), rw (s, t) r.1)
    go false false s t rest = absurd (false≢true (rw (s, t) at on))

-- after a character that ends the reading none stands for a bit
pub ended : (cs ds : List ℕ) → goes_on cs ≡ false → (bits_in (cs ++ ds) ≡ bits_in cs) × (goes_on (cs ++ ds) ≡ false)
unfolding bits_in goes_on
ended [] ds off = absurd (true≢false off)
ended (c ∷ cs) ds off = go (is_skipped c) (is_digit c) refl refl (ended cs ds)
  where
    go : (s d : Bool) → is_skipped c ≡ s → is_digit c ≡ d → (goes_on cs ≡ false → (bits_in (cs ++ ds) ≡ bits_in cs) × (goes_on (cs ++ ds) ≡ false))
        → (bits_in (c ∷ cs ++ ds) ≡ bits_in (c ∷ cs)) × (goes_on (c ∷ cs ++ ds) ≡ false)
    go true d s t rest = let r = rest (rw s at off) in (rw s r.0, rw s r.1)
    go false true s t rest = let r = rest (rw (s, t) at off) in (rw (s, t, r.0), rw (s, t) r.1)
    go false false s t rest = (rw (s, t), rw (s, t))

-- a character stands for at most one bit
pub few_bits : (cs : List ℕ) → length (bits_in cs) ≤ length cs
unfolding bits_in
few_bits [] = omega arith
few_bits (c ∷ cs) = go (is_skipped c) (is_digit c) refl refl (few_bits cs)
  where
    go : (s d : Bool) → is_skipped c ≡ s → is_digit c ≡ d → length (bits_in cs) ≤ length cs → length (bits_in (c ∷ cs)) ≤ suc (length cs)
    go true d s t h = rw s (omega arith)
    go false true s t h = rw (s, t) (omega arith)
    go false false s t h = rw (s, t) (omega arith)

-- a character 0 or 1 is the bit 0 or 1
digit_low : (c : ℕ) → is_digit c ≡ true → c - zero_digit ≤ 1
digit_low c e = go (eqb c zero_digit) refl
  where
    go : (t : Bool) → eqb c zero_digit ≡ t → c - zero_digit ≤ 1
    go true t = omega (arith, eqb-true c zero_digit t)
    go false t = omega (arith, eqb-true c one_digit (rw t at e))

pub sifted_clean : (cs : List ℕ) → AllBits (bits_in cs)
unfolding bits_in some_above
sifted_clean [] = refl
sifted_clean (c ∷ cs) = go (is_skipped c) refl (is_digit c) refl (sifted_clean cs)
  where
    go : (s : Bool) → is_skipped c ≡ s → (d : Bool) → is_digit c ≡ d → AllBits (bits_in cs) → AllBits (bits_in (c ∷ cs))
    go true s d t rest = rw s rest
    go false s true t rest = rw (s, t) (within_cons 1 (c - zero_digit) (bits_in cs) (digit_low c t) rest)
    go false s false t rest = rw (s, t)
