-- A word put into a run: side by side with another, with one element more, and what stands past it.
-- Assumes nothing.
use Prim.Native.Nat.{ℕ, suc, ◌+◌, ◌-◌, ◌≤◌, ◌<◌}
use mathlib.Core.Path.{◌≡◌, sym, ap, ◌∙◌}
use mathlib.Core.List.{List, [], ◌∷◌, ◌++◌, append_assoc}
use native.Mathlib.Omega.{arith}
use lib.ListN.{length, take, drop, set, get_or, length-append, length-drop, take-append-drop}
use lib.Seq.{drop-drop, take_at, drop_at, set_at, drop-cons, length-take-le, get_or-append-add, get_or-drop}
use Rattle.runs.specs.Run.{placed}

pub placed_none : (at : ℕ) (run : List ℕ) → placed at [] run ≡ run
unfolding placed
placed_none at run =
    let same : at + 0 ≡ at = omega arith in
    rw same (take-append-drop at run)

module _ (at : ℕ) (word run : List ℕ) (fits : at + length word ≤ length run) where
  -- the run up to the word's end
  before : List ℕ
  before = take at run ++ word

  before_length : length before ≡ at + length word
  unfolding before
  before_length = length-append (take at run) word ∙ rw (length-take-le at run (omega arith))

  in_two : placed at word run ≡ before ++ drop (at + length word) run
  unfolding placed before
  in_two = sym (append_assoc (take at run) word (drop (at + length word) run))

  pub placed_length : length (placed at word run) ≡ length run
  placed_length = rw (in_two, length-append, before_length, length-drop) (omega arith)

  -- one element more
  pub placed_more : (v : ℕ) → at + length word < length run → set (placed at word run) (at + length word) v ≡ placed at (word ++ (v ∷ [])) run
  unfolding placed before
  placed_more v low =
      let next : drop (at + length word) run ≡ get_or run (at + length word) 0 ∷ drop (suc (at + length word)) run = drop-cons run (at + length word) 0 low in
      let size : at + length (word ++ (v ∷ [])) ≡ suc (at + length word) = rw length-append (omega arith) in
      rw (in_two, next, size)
      (set_at before (get_or run (at + length word) 0) (drop (suc (at + length word)) run) v (at + length word) before_length
      ∙ (append_assoc (take at run) word (v ∷ drop (suc (at + length word)) run)
      ∙ ap (λ (l : List ℕ). take at run ++ l) (sym (append_assoc word (v ∷ []) (drop (suc (at + length word)) run)))))

  -- two words side by side are one
  pub placed_on : (next : List ℕ) → placed (at + length word) next (placed at word run) ≡ placed at (word ++ next) run
  unfolding placed before
  placed_on next =
      let size : at + length (word ++ next) ≡ at + length word + length next = rw length-append (omega arith) in
      let past : drop (at + length word + length next) (placed at word run) ≡ drop (at + length word + length next) run =
      sym (drop-drop (length next) (at + length word) (placed at word run))
      ∙ (ap (drop (length next)) (rw in_two (drop_at before (drop (at + length word) run) (at + length word) before_length))
      ∙ drop-drop (length next) (at + length word) run) in
      let front : take (at + length word) (placed at word run) ≡ before =
      rw in_two (take_at before (drop (at + length word) run) (at + length word) before_length) in
      rw (past, front, size)
      (append_assoc (take at run) word (next ++ drop (at + length word + length next) run)
      ∙ ap (λ (l : List ℕ). take at run ++ l) (sym (append_assoc word next (drop (at + length word + length next) run))))

-- past a word at its start a run is as it was
pub read_past : (word run : List ℕ) (i : ℕ) → length word ≤ i → get_or (placed 0 word run) i 0 ≡ get_or run i 0
unfolding placed
read_past word run i h =
    let there : i ≡ length word + (i - length word) = omega arith in
    let size : 0 + length word ≡ length word = omega arith in
    rw (size, there) (get_or-append-add word (drop (length word) run) (i - length word) 0 ∙ get_or-drop (length word) run (i - length word) 0)

-- two texts laid one after the other
pub laid_two :
    (at : ℕ) (first second run : List ℕ) {p q : ℕ} {mid out : List ℕ}
    → at + length first ≤ length run
    → p ≡ at + length first
    → mid ≡ placed at first run
    → q ≡ p + length second
    → out ≡ placed p second mid
    → (q ≡ at + length (first ++ second)) × (out ≡ placed at (first ++ second) run)
laid_two at first second run fits here made there done = (
  there ∙ rw (here, length-append) (omega arith),
  done ∙ rw (here, made) (placed_on at first run fits second),
)

-- a run that starts with a word is as long as the word
pub starts_within : (word run : List ℕ) → length word ≤ length (placed 0 word run)
unfolding placed
starts_within word run = simp length-append (omega arith)

-- a text that starts with a line of this length
pub told_within : (line text : List ℕ) {n : ℕ} {after : List ℕ} → n ≡ length line → after ≡ placed 0 line text → n ≤ length after
told_within line text told made = rw (told, made) (starts_within line text)

-- so many elements at the start of a run
pub prefix_length : (n : ℕ) (run : List ℕ) → n ≤ length run → n ≡ length (take n run)
prefix_length n run h = sym (length-take-le n run h)
