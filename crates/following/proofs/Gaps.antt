-- The sync word's twelve ones, wherever else they lay over an accepted word, would cover one of its gaps.
-- Assumes nothing.
use Prim.Native.Nat.{ℕ, zero, suc, ◌+◌, ◌-◌, ◌<◌, ◌≤◌}
use mathlib.Core.Path.{◌≡◌, refl, sym, ap, subst, ◌∙◌}
use mathlib.Core.Bool.{Bool, true, false, ◌&&◌, ◌||◌, false≢true}
use mathlib.Core.List.{List, [], ◌∷◌}
use mathlib.Core.Logic.{◌⊎◌, inl, inr, ⊎_elim}
use native.Mathlib.Omega.{arith}
use lib.Dec.{ltb, eqb}
use lib.ListN.{get_or}
use borrow.Author.Tests.{ltb-true, ltb-false, eqb-true, eqb-false}
use Rattle.bits.specs.Bits.{some_above}
use Rattle.bits.proofs.Bit.{head_within, tail_within}
use Rattle.bits.proofs.Neighbours.{Each}
use Rattle.runs.proofs.Same.{both_true}
use Rattle.following.proofs.Apart.{gaps, NotBoth}
use Rattle.following.proofs.Turned.{Over}

-- twelve ones that end two bits before the k-th cover one of these places and the next
abbrev covers : ℕ → List ℕ → Bool
covers k [] = false
covers k (place ∷ places) = (ltb (place + 3) k && ltb k (place + 15)) || covers k places

abbrev all_covered : ℕ → ℕ → Bool
all_covered k zero = true
all_covered k (suc n) = covers k gaps && all_covered (suc k) n

covered : (n from : ℕ) → all_covered from n ≡ true → (k : ℕ) → from ≤ k → k < from + n → covers k gaps ≡ true
covered zero from all k low high = absurd (omega arith)
covered (suc n) from all k low high = go (ltb from k) refl (covered n (suc from) (both_true (covers from gaps) (all_covered (suc from) n) all).1 k)
  where
    first : covers from gaps ≡ true
    first = (both_true (covers from gaps) (all_covered (suc from) n) all).0

    go : (t : Bool) → ltb from k ≡ t → (suc from ≤ k → k < suc from + n → covers k gaps ≡ true) → covers k gaps ≡ true
    go true t rest = let more = ltb-true from k t in rest (omega arith) (omega arith)
    go false t rest =
        let less = ltb-false from k t in
        let same : from ≡ k = omega arith in
        subst (λ (j : ℕ). covers j gaps ≡ true) same first

-- not 80 is less or more
apart_from : (k : ℕ) → (k ≡ 80 → ⊥) → (k < 80) ⊎ (80 < k)
apart_from k other = go (ltb k 80) refl
  where
    go : (t : Bool) → ltb k 80 ≡ t → (k < 80) ⊎ (80 < k)
    go true t = inl (ltb-true k 80 t)
    go false t = let high = ltb-false k 80 t in inr (omega arith)

-- ones at every place that twelve ones cover, and a word that has not both: no such word
covers_none :
    (word : List ℕ) (k : ℕ) (places : List ℕ) → Each (NotBoth word) places → some_above 77 places ≡ false → covers k places ≡ true
    → ((place : ℕ) → place ≤ 78 → place + 3 ≤ k → k ≤ place + 14 → get_or word place 0 ≡ 1) → ⊥
covers_none word k [] apart within covering ones = false≢true covering
covers_none word k (place ∷ places) apart within covering ones = go (ltb (place + 3) k && ltb k (place + 15)) refl (λ e. covers_none word k places apart.1 (tail_within 77 place places within) e ones)
  where
    small : place ≤ 77
    small = head_within 77 place places within

    go : (t : Bool) → (ltb (place + 3) k && ltb k (place + 15)) ≡ t → (covers k places ≡ true → ⊥) → ⊥
    go true t rest =
        let both = both_true (ltb (place + 3) k) (ltb k (place + 15)) t in
        let low = ltb-true (place + 3) k both.0 in
        let high = ltb-true k (place + 15) both.1 in
        let near = small in
        apart.0 (ones place (omega arith) (omega arith) (omega arith)) (ones (place + 1) (omega arith) (omega arith) (omega arith))
    go false t rest = rest (rw t at covering)

-- Twelve ones of a window that lies over an accepted word lie over the word's own twelve, or reach out of the word: at its beginning so far that three of them
-- at most are over it, or at its end so far that two of its places at most are under them.
module _
    (window word : List ℕ) (a b from : ℕ) (over : Over window a word b) (level : (a ≡ 0) ⊎ (b ≡ 0)) (early : from ≤ 66)
    (ones : (place : ℕ) → from ≤ place → place < from + 12 → get_or window place 0 ≡ 1) (low : a ≤ from + b + 8) (high : from + b ≤ 77 + a) where
  ones_in_word : (place : ℕ) → place ≤ 78 → place + 3 ≤ from + b + 14 - a → from + b + 14 - a ≤ place + 14 → get_or word place 0 ≡ 1
  ones_in_word place near below above =
      ⊎_elim
      (λ none.
      let there : place - b + b ≡ place = omega arith in
      ap (λ (n : ℕ). get_or word n 0) (sym there)
      ∙ sym (over.agree (place - b) (omega arith))
      ∙ ones (place - b + a) (omega arith) (omega arith))
      (λ none.
      let there : place + b ≡ place = omega arith in
      ap (λ (n : ℕ). get_or word n 0) (sym there)
      ∙ sym (over.agree place (omega arith))
      ∙ ones (place + a) (omega arith) (omega arith))
      level

  pub own_twelve : Each (NotBoth word) gaps → from + b ≡ 66 + a
  unfolding some_above
  own_twelve apart = go (eqb (from + b) (66 + a)) refl
    where
      never : covers (from + b + 14 - a) gaps ≡ true → ⊥
      never covering = covers_none word (from + b + 14 - a) gaps apart refl covering ones_in_word

      go : (t : Bool) → eqb (from + b) (66 + a) ≡ t → from + b ≡ 66 + a
      go true t = eqb-true (from + b) (66 + a) t
      go false t =
          let other = eqb-false (from + b) (66 + a) t in
          ⊎_elim
          (λ (less : from + b + 14 - a < 80). absurd (never (covered 74 6 refl (from + b + 14 - a) (omega arith) less)))
          (λ (more : 80 < from + b + 14 - a). absurd (never (covered 11 81 refl (from + b + 14 - a) more (omega arith))))
          (apart_from (from + b + 14 - a) (λ e. other (omega arith)))
