-- What the library's `any` says of words is what the definitions say, and what a few of the words tell of all.
-- Assumes nothing.
use Prim.Native.Nat.{ℕ}
use mathlib.Core.Path.{◌≡◌, refl, sym, ap, ◌∙◌}
use mathlib.Core.Bool.{Bool, true, false, ◌||◌}
use mathlib.Core.List.{List, [], ◌∷◌, ◌++◌}
use lib.Dec.{ltb}
use Rattle.std.specs.List.{list_any, fold}
use Rattle.std.proofs.lemmas.List.Folds.{list_any-append}
use Rattle.bits.specs.Bits.{some_above}
use Rattle.words.specs.Words.{some_word}

pub any_above : (limit : ℕ) (words : List ℕ) → list_any (λ word. ltb limit word) words ≡ some_above limit words
unfolding some_above
any_above limit [] = refl
any_above limit (word ∷ words) = ap (λ (t : Bool). ltb limit word || t) (any_above limit words)

pub any_word : (test : ℕ → Bool) (words : List ℕ) → list_any test words ≡ some_word test words
unfolding some_word
any_word test [] = refl
any_word test (word ∷ words) = ap (λ (t : Bool). test word || t) (any_word test words)

-- a fold that passes over all words finds what `any` finds
pub any_by_fold : (test : ℕ → Bool) (words : List ℕ) → fold (λ met word. met || test word) false words ≡ list_any test words
any_by_fold test words = go false words
  where
    go : (met : Bool) (words : List ℕ) → fold (λ met word. met || test word) met words ≡ (met || list_any test words)
    go true [] = refl
    go false [] = refl
    go true (word ∷ words) = go true words
    go false (word ∷ words) = go (test word) words

-- a few of the words were tested: where one of them met the test, one of all words does; else what is after them tells of all
module _
    (test : ℕ → Bool) (words before few after : List ℕ) (met : Bool) (folded : met ≡ fold (λ met word. met || test word) false few) (parted : before ≡ few ++ after)
    (ahead : list_any test before ≡ list_any test words) where
  either : (met || list_any test after) ≡ list_any test words
  either =
      let here : met ≡ list_any test few = folded ∙ any_by_fold test few in
      rw here (sym (list_any-append test few after) ∙ ap (list_any test) (sym parted) ∙ ahead)

  pub few_tell : met ≡ true → true ≡ list_any test words
  few_tell hit = rw hit at either

  pub few_passed : met ≡ false → list_any test after ≡ list_any test words
  few_passed miss = rw miss at either
