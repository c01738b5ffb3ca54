-- The last 80 of all the bits so far, and how a word that runs on in them lies over them.
-- Assumes nothing.
use Prim.Native.Nat.{ℕ, ◌+◌, ◌-◌, ◌<◌, ◌≤◌}
use mathlib.Core.Path.{◌≡◌, refl, sym, ap, ◌∙◌}
use mathlib.Core.Bool.{Bool, true, false}
use mathlib.Core.List.{List, [], ◌∷◌, ◌++◌, append_assoc}
use native.Mathlib.Omega.{arith}
use lib.Dec.{ltb}
use lib.ListN.{length, get_or, length-append, get_or-append}
use lib.Seq.{drop-drop, drop-append-le, get_or-drop, get_or-append-add}
use borrow.Author.Tests.{ltb-true, ltb-false}
use Rattle.register.specs.Held.{latest, push}
use Rattle.register.proofs.Pushed.{latest_length, push_full}
use Rattle.following.proofs.Turned.{Over}

-- a bit pushed onto the last 80 leaves the last 80 of one bit more
pub push_latest : (past : List ℕ) (bit : ℕ) → push (latest past) bit ≡ latest (past ++ (bit ∷ []))
push_latest past bit = go (ltb (length past) 80) refl
  where
    longer : length (past ++ (bit ∷ [])) ≡ length past + 1
    longer = length-append past (bit ∷ [])

    go : (t : Bool) → ltb (length past) 80 ≡ t → push (latest past) bit ≡ latest (past ++ (bit ∷ []))
    go true t =
        let short = ltb-true (length past) 80 t in
        let none : length past - 80 ≡ 0 = omega arith in
        rw none
    go false t =
        let full = ltb-false (length past) 80 t in
        let held : length (latest past) ≡ 80 = latest_length past ∙ omega arith in
        let one : length past + 1 - 80 ≡ length past - 80 + 1 = omega arith in
        push_full (latest past) bit held
        ∙ rw (longer, one, drop-drop 1 (length past - 80) past) (sym (drop-append-le (length past - 80 + 1) past (bit ∷ []) (omega arith)))

-- where 80 are held, they are the last of a past and what came after it
module _ (past xs : List ℕ) (full : length (latest (past ++ xs)) ≡ 80) where
  held_at : (place : ℕ) → place < length xs → length xs ≤ place + 80 → get_or (latest (past ++ xs)) (place + 80 - length xs) 0 ≡ get_or xs place 0
  held_at place within near =
      let size = length-append past xs in
      let enough : 80 ≤ length (past ++ xs) = omega (arith, latest_length (past ++ xs)) in
      let here : length (past ++ xs) - 80 + (place + 80 - length xs) ≡ length past + place = omega arith in
      get_or-drop (length (past ++ xs) - 80) (past ++ xs) (place + 80 - length xs) 0
      ∙ ap (λ (n : ℕ). get_or (past ++ xs) n 0) here
      ∙ get_or-append-add past xs place 0

-- the word that runs lies at their end as far as it has come
pub word_over : (past xs rest : List ℕ) → length (latest (past ++ xs)) ≡ 80 → length xs < 80 → Over (latest (past ++ xs)) (80 - length xs) (xs ++ rest) 0
word_over past xs rest full short =
    record {
      agree = λ i h.
          let here : i + (80 - length xs) ≡ i + 80 - length xs = omega arith in
          let itself : i + 0 ≡ i = omega arith in
          rw (here, itself) (held_at past xs full i (omega arith) (omega arith) ∙ sym (get_or-append xs rest 0 i (omega arith)));
    }

-- and the one before it at their beginning, but for as much
pub before_over :
    (past word xs : List ℕ) → length word ≡ 80 → length (latest ((past ++ word) ++ xs)) ≡ 80 → Over (latest ((past ++ word) ++ xs)) 0 word (length xs)
before_over past word xs long full =
    record {
      agree = λ i h.
          let both : length (word ++ xs) ≡ 80 + length xs = length-append word xs ∙ rw long in
          let parts = append_assoc past word xs in
          let held = held_at past (word ++ xs) (ap (λ (l : List ℕ). length (latest l)) (sym parts) ∙ full) (i + length xs) (omega arith) (omega arith) in
          let here : i + length xs + 80 - length (word ++ xs) ≡ i + 0 = omega arith in
          ap (λ (l : List ℕ). get_or (latest l) (i + 0) 0) parts
          ∙ ap (λ (n : ℕ). get_or (latest (past ++ (word ++ xs))) n 0) (sym here)
          ∙ held
          ∙ get_or-append word xs 0 (i + length xs) (omega arith);
    }
