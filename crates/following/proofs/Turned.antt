-- Lists turned round, place by place; and two lists of 80 elements of which one lies so many places on over the other.
-- Assumes nothing.
use Prim.Native.Nat.{ℕ, suc, ◌+◌, ◌-◌, ◌<◌}
use mathlib.Core.Path.{◌≡◌, refl, sym, ap, ◌∙◌}
use mathlib.Core.Bool.{Bool, true, false}
use mathlib.Core.List.{List, [], ◌∷◌, ◌++◌, reverse, reverse-cons}
use native.Mathlib.Omega.{arith}
use lib.Dec.{ltb}
use lib.ListN.{length, get_or, length-reverse, get_or-append}
use lib.Seq.{get_or-append-add}
use borrow.Author.Tests.{ltb-true, ltb-false}

-- the element at a place is the one that stands as far from the end
pub turned_at : (elements : List ℕ) (place : ℕ) → place < length elements → get_or (reverse elements) place 0 ≡ get_or elements (length elements - suc place) 0
turned_at [] place h = absurd (omega arith)
turned_at (element ∷ elements) place h = rw (reverse-cons element elements) (go (ltb place (length elements)) refl (turned_at elements place))
  where
    size : length (reverse elements) ≡ length elements
    size = length-reverse elements

    go : (t : Bool) → ltb place (length elements) ≡ t
        → (place < length elements → get_or (reverse elements) place 0 ≡ get_or elements (length elements - suc place) 0)
        → get_or (reverse elements ++ (element ∷ [])) place 0 ≡ get_or (element ∷ elements) (suc (length elements) - suc place) 0
    go true t rest =
        let low = ltb-true place (length elements) t in
        let on : suc (length elements) - suc place ≡ suc (length elements - suc place) = omega arith in
        rw on (get_or-append (reverse elements) (element ∷ []) 0 place (rw size low) ∙ rest low)
    go false t rest =
        let last : place ≡ length (reverse elements) + 0 = let high = ltb-false place (length elements) t in omega (arith, size) in
        let first : suc (length elements) - suc place ≡ 0 = let high = ltb-false place (length elements) t in omega arith in
        rw first (rw last (get_or-append-add (reverse elements) (element ∷ []) 0 0))

-- from place a of the one and place b of the other on, they agree
pub record Over (xs : List ℕ) (a : ℕ) (ys : List ℕ) (b : ℕ) : Type 0 where
  pub agree : (i : ℕ) → i + a + b < 80 → get_or xs (i + a) 0 ≡ get_or ys (i + b) 0

module _ {xs ys : List ℕ} {a b : ℕ} (over : Over xs a ys b) where
  pub over_back : Over ys b xs a
  over_back = record { agree = λ i h. sym (over.agree i (omega arith)) }

  -- turned round, each lies over the other as far from the end
  pub over_turned : length xs ≡ 80 → length ys ≡ 80 → Over (reverse xs) b (reverse ys) a
  over_turned long also =
      record {
        agree = λ i h.
            let j = 79 - i - a - b in
            let here : length xs - suc (i + b) ≡ j + a = omega arith in
            let there : length ys - suc (i + a) ≡ j + b = omega arith in
            turned_at xs (i + b) (omega arith)
            ∙ ap (λ (n : ℕ). get_or xs n 0) here
            ∙ over.agree j (omega arith)
            ∙ ap (λ (n : ℕ). get_or ys n 0) (sym there)
            ∙ sym (turned_at ys (i + a) (omega arith));
      }
