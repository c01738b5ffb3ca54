-- Where the sync word stands in a window that lies over an accepted word: at the window's end, it is that word's own; and turned round at the window's
-- beginning, it is nowhere. So no window that ends in the sync word is accepted when it is turned round.
-- Assumes nothing.
use Prim.Native.Nat.{ℕ, suc, ◌+◌, ◌-◌, ◌<◌, ◌≤◌}
use mathlib.Core.Path.{◌≡◌, refl, sym, ap, ◌∙◌}
use mathlib.Core.List.{List, [], ◌∷◌, reverse, reverse-reverse}
use mathlib.Core.Logic.{◌⊎◌, inl, ⊎_elim}
use native.Mathlib.Omega.{arith}
use lib.ListN.{length, get_or, drop, replicate, get_or-replicate, get_or-append}
use lib.Seq.{get_or-drop}
use Rattle.polarity.specs.Word.{sync_word}
use Rattle.following.specs.Following.{CodeWord}
use Rattle.following.proofs.CodeWords.{word_long, word_synced, gaps_of}
use Rattle.following.proofs.Gaps.{own_twelve}
use Rattle.following.proofs.Turned.{Over, turned_at}

-- the sync word has twelve ones in a row
twelve_ones : (i : ℕ) → i < 12 → get_or sync_word (2 + i) 0 ≡ 1
unfolding sync_word
twelve_ones i h =
    sym (get_or-drop 2 sync_word i 0) ∙ get_or-append (replicate 12 1) (0 ∷ 1 ∷ []) 0 i h ∙ get_or-replicate 12 i 1 0 h

-- a window that ends in it
module _ (window : List ℕ) (ends : drop 64 window ≡ sync_word) where
  sync_at : (i : ℕ) → get_or window (64 + i) 0 ≡ get_or sync_word i 0
  sync_at i = sym (get_or-drop 64 window i 0) ∙ ap (λ (l : List ℕ). get_or l i 0) ends

  last_ones : (place : ℕ) → 66 ≤ place → place < 78 → get_or window place 0 ≡ 1
  last_ones place low high =
      let here : 64 + (2 + (place - 66)) ≡ place = omega arith in
      rw here at (sync_at (2 + (place - 66)) ∙ twelve_ones (place - 66) (omega arith))

-- a window that begins with it turned round
module _ (window : List ℕ) (long : length window ≡ 80) (begins : drop 64 (reverse window) ≡ sync_word) where
  turned_sync_at : (place : ℕ) → place < 16 → get_or window place 0 ≡ get_or sync_word (15 - place) 0
  turned_sync_at place low =
      let there : length window - suc (64 + (15 - place)) ≡ place = omega arith in
      rw there at (sym (turned_at window (64 + (15 - place)) (omega arith)) ∙ sync_at (reverse window) begins (15 - place))

  first_ones : (place : ℕ) → 2 ≤ place → place < 14 → get_or window place 0 ≡ 1
  first_ones place low high =
      let here : 15 - place ≡ 2 + (13 - place) = omega arith in
      turned_sync_at place (omega arith) ∙ rw here (twelve_ones (13 - place) (omega arith))

module _ {mode : ℕ} (word : CodeWord mode) (window : List ℕ) {a b : ℕ} (over : Over window a word.bits b) (level : (a ≡ 0) ⊎ (b ≡ 0)) where
  pub own_sync : drop 64 window ≡ sync_word → a ≤ 74 + b → b ≤ 11 + a → a ≡ b
  own_sync ends low high =
      let same = own_twelve window word.bits a b 66 over level (omega arith) (last_ones window ends) (omega arith) (omega arith) (gaps_of word) in
      omega arith

  pub no_turned_sync : length window ≡ 80 → drop 64 (reverse window) ≡ sync_word → a ≤ 10 + b → b ≤ 75 + a → ⊥
  unfolding sync_word
  no_turned_sync long begins low high =
      let same = own_twelve window word.bits a b 2 over level (omega arith) (first_ones window long begins) (omega arith) (omega arith) (gaps_of word) in
      let none : a ≡ 0 = ⊎_elim (λ e. e) (λ e. omega arith) level in
      let here : b ≡ 64 = omega arith in
      let one : get_or window 0 0 ≡ 1 = turned_sync_at window long begins 0 (omega arith) in
      let zero : get_or word.bits 64 0 ≡ 0 = sync_at word.bits (word_synced word) 0 in
      let met : get_or window 0 0 ≡ get_or word.bits 64 0 = rw (none, here) at (over.agree 0 (omega arith)) in
      omega arith

-- "A window may not be both; prove it": one that ends in the sync word, accepted or refused, is not accepted when it is turned round
pub not_both_ways : {mode : ℕ} (window : List ℕ) → drop 64 window ≡ sync_word → (other : CodeWord mode) → other.bits ≡ reverse window → ⊥
not_both_ways window ends other turned =
    no_turned_sync other other.bits {a = 0} {b = 0} record { agree = λ i h. refl } (inl refl) (word_long other)
    (ap (λ (l : List ℕ). drop 64 (reverse l)) turned ∙ ap (drop 64) (reverse-reverse window) ∙ ends)
    (omega arith)
    (omega arith)
