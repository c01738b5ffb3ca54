-- Nothing is heard in a window that lies over a code word as it runs, but so many places on or back, unless that is too far.
-- Assumes nothing.
use Prim.Native.Nat.{ℕ, ◌+◌, ◌-◌, ◌<◌, ◌≤◌}
use mathlib.Core.Path.{◌≡◌, refl, sym, ap, subst, ◌∙◌}
use mathlib.Core.Bool.{Bool, true, false, and-false}
use mathlib.Core.List.{List, ◌++◌, reverse, reverse-reverse}
use mathlib.Core.Logic.{◌⊎◌, inl, inr, ⊎_elim}
use native.Mathlib.Omega.{arith}
use lib.Dec.{ltb, eqb}
use lib.ListN.{length, drop, length-reverse, length-drop}
use borrow.Author.Tests.{ltb-true, ltb-false}
use Rattle.polarity.specs.declared.types.Word.{Word}
use Rattle.refusals.specs.declared.types.Refusal.{Refusal}
use Rattle.std.specs.Prelude.{Err, Result, Ok}
use Rattle.runs.proofs.Same.{not_same}
use Rattle.polarity.specs.Word.{reading, sync_word}
use Rattle.ltc.specs.Calls.{read_of}
use Rattle.register.specs.declared.types.Ways.{Ways}
use Rattle.register.specs.declared.types.Ways.TheVariants.{ForwardOnly, Both}
use Rattle.register.specs.Held.{latest}
use Rattle.hearing.specs.declared.types.Way.{Way}
use Rattle.hearing.specs.declared.types.Way.TheVariants.{Forward, Backward}
use Rattle.hearing.specs.declared.types.Heard.TheVariants.{Nothing}
use Rattle.hearing.specs.Window.{told_backward, forward_in, backward_in, heard_in}
use Rattle.hearing.specs.Looks.{running}
use Rattle.following.specs.Following.{CodeWord, settled, Settles}
use Rattle.following.specs.Following.Settles.{forward_only, both_forward, both_backward}
use Rattle.following.proofs.CodeWords.{word_long, word_synced, running_long}
use Rattle.following.proofs.Synced.{own_sync, no_turned_sync}
use Rattle.following.proofs.Turned.{Over, over_back, over_turned}
use Rattle.following.proofs.Window.{word_over, before_over}

-- no code word is the window turned round; a reader that hears forward only does not look
abbrev pub Unturned : ℕ → Ways → List ℕ → Type 0
Unturned mode ForwardOnly window = Unit {0}
Unturned mode Both window = (other : CodeWord mode) → other.bits ≡ reverse window → ⊥

module _ (mode : ℕ) (window : List ℕ) where
  pub forward_silent : (drop 64 window ≡ sync_word → ⊥) → forward_in mode window ≡ Nothing
  unfolding forward_in
  forward_silent unlike = rw (not_same (drop 64 window) sync_word unlike, and-false (eqb (length window) 80))

  pub backward_silent : (ways : Ways) → Unturned mode ways window → backward_in mode ways window ≡ Nothing
  unfolding backward_in
  backward_silent ForwardOnly none = refl
  backward_silent Both none = go (read_of mode (reverse window)) refl
    where
      go : (word : Result Word Refusal) → read_of mode (reverse window) ≡ word → told_backward Both word ≡ Nothing
      go (Ok word) e = absurd (none record { bits = reverse window; says = word.«record»; found = word.found; accepted = e } refl)
      go (Err n) e = refl

  silent : (ways : Ways) → (drop 64 window ≡ sync_word → ⊥) → Unturned mode ways window → heard_in mode ways window ≡ Nothing
  unfolding heard_in
  silent ways unlike none = rw (forward_silent unlike) (backward_silent ways none)

-- what ends in the sync word, or is a code word turned round, is no shorter than 80
ends_full : (window : List ℕ) → drop 64 window ≡ sync_word → length window ≡ 80
unfolding sync_word
ends_full window ends = let sixteen : length window - 64 ≡ 16 = sym (length-drop 64 window) ∙ ap length ends in omega arith

turned_full : {mode : ℕ} (window : List ℕ) (other : CodeWord mode) → other.bits ≡ reverse window → length window ≡ 80
turned_full window other is = sym (length-reverse window) ∙ ap length (sym is) ∙ word_long other

-- where it is full, a window lies over a word as it runs, but so many places on
module _ {mode : ℕ} (word : CodeWord mode) (window : List ℕ) (a b : ℕ) (level : (a ≡ 0) ⊎ (b ≡ 0)) (unlike : a ≡ b → ⊥) where
  abbrev Lies : Way → Type 0
  Lies way = length window ≡ 80 → Over window a (running way word.bits) b

  -- turned round with a word that runs backward
  lies_turned : Lies Backward → length window ≡ 80 → Over (reverse window) b word.bits a
  lies_turned lies full =
      subst (λ (l : List ℕ). Over (reverse window) b l a) (reverse-reverse word.bits)
      (over_turned (lies full) full (running_long Backward word))

  -- it does not end in the sync word
  no_end : (way : Way) → Lies way → a ≤ 74 + b → b ≤ 10 + a → drop 64 window ≡ sync_word → ⊥
  no_end Forward lies low high ends = unlike (own_sync word window (lies (ends_full window ends)) level ends low (omega arith))
  no_end Backward lies low high ends =
      let full = ends_full window ends in
      no_turned_sync word (reverse window) (lies_turned lies full) (⊎_elim inr inl level) (length-reverse window ∙ full)
      (ap (drop 64) (reverse-reverse window) ∙ ends)
      (omega arith)
      (omega arith)

  -- nor is it a code word turned round
  forward_unturned : Lies Forward → a ≤ 10 + b → b ≤ 75 + a → (other : CodeWord mode) → other.bits ≡ reverse window → ⊥
  forward_unturned lies low high other is =
      let full = turned_full window other is in
      no_turned_sync word window (lies full) level full (ap (drop 64) (sym is) ∙ word_synced other) low high

  backward_unturned : Lies Backward → a ≤ 74 + b → b ≤ 10 + a → (other : CodeWord mode) → other.bits ≡ reverse window → ⊥
  backward_unturned lies low high other is =
      let over = subst (λ (l : List ℕ). Over l b word.bits a) (sym is) (lies_turned lies (turned_full window other is)) in
      unlike (own_sync other word.bits (over_back over) level (word_synced word) low (omega arith))

  unturned :
      {ways : Ways} {way : Way} {from : ℕ} → Settles ways way from → Lies way → a + from ≤ 79 + b → b ≤ from + a → Unturned mode ways window
  unturned forward_only lies low high = tt
  unturned both_forward lies low high = forward_unturned lies (omega arith) (omega arith)
  unturned both_backward lies low high = backward_unturned lies (omega arith) (omega arith)

-- none is settled before the fifth bit, and all are some bits before the last
pub settles_late : {ways : Ways} {way : Way} {from : ℕ} → Settles ways way from → (settled ≤ from) × (from < 75)
settles_late forward_only = (omega arith, omega arith)
settles_late both_forward = (omega arith, omega arith)
settles_late both_backward = (omega arith, omega arith)

module _ {mode : ℕ} {ways : Ways} {way : Way} {from : ℕ} (settles : Settles ways way from) (word : CodeWord mode) (past xs rest : List ℕ) where
  -- the word lies over the last bits as far as it has run
  module _ (parts : running way word.bits ≡ xs ++ rest) (short : length xs < 80) where
    lies : length (latest (past ++ xs)) ≡ 80 → Over (latest (past ++ xs)) (80 - length xs) (running way word.bits) 0
    lies full = subst (λ (l : List ℕ). Over (latest (past ++ xs)) (80 - length xs) l 0) (sym parts) (word_over past xs rest full short)

    no_sync : settled < length xs → drop 64 (latest (past ++ xs)) ≡ sync_word → ⊥
    no_sync late = no_end word (latest (past ++ xs)) (80 - length xs) 0 (inr refl) (λ e. omega arith) way lies (omega arith) (omega arith)

    -- inside a word, once it is settled
    pub inside_quiet : from < length xs → heard_in mode ways (latest (past ++ xs)) ≡ Nothing
    inside_quiet late =
        let after_five = (settles_late settles).0 in
        silent mode (latest (past ++ xs)) ways
        (no_sync (omega arith))
        (unturned word (latest (past ++ xs)) (80 - length xs) 0 (inr refl) (λ e. omega arith) settles lies (omega arith) (omega arith))

    -- and up to then after a whole word
    pub after_quiet :
        (before : CodeWord mode) (earlier : List ℕ) → past ≡ earlier ++ running way before.bits → 0 < length xs → length xs ≤ from
        → heard_in mode ways (latest (past ++ xs)) ≡ Nothing
    after_quiet before earlier ran some soon =
        silent mode (latest (past ++ xs)) ways (no_sync_yet (ltb settled (length xs)) refl)
        (unturned before (latest (past ++ xs)) 0 (length xs) (inl refl) (λ e. omega arith) settles before_lies (let late = (settles_late settles).1 in omega arith) (omega arith))
      where
        before_lies : length (latest (past ++ xs)) ≡ 80 → Over (latest (past ++ xs)) 0 (running way before.bits) (length xs)
        before_lies =
            subst (λ (l : List ℕ). length (latest (l ++ xs)) ≡ 80 → Over (latest (l ++ xs)) 0 (running way before.bits) (length xs)) (sym ran)
            (before_over earlier (running way before.bits) xs (running_long way before))

        no_sync_yet : (t : Bool) → ltb settled (length xs) ≡ t → drop 64 (latest (past ++ xs)) ≡ sync_word → ⊥
        no_sync_yet true t = no_sync (ltb-true settled (length xs) t)
        no_sync_yet false t =
            let soon = ltb-false settled (length xs) t in
            no_end before (latest (past ++ xs)) 0 (length xs) (inl refl) (λ e. omega arith) way before_lies (omega arith) (omega arith)
