-- A word in the middle of a run: what a lent part leaves when it comes back, and that the word is read there again.
-- Assumes nothing.
use Prim.Native.Nat.{ℕ, ◌+◌, ◌-◌, ◌≤◌}
use mathlib.Core.Path.{◌≡◌, refl, ap, ◌∙◌}
use mathlib.Core.List.{List, ◌++◌}
use native.Mathlib.Nat.{add-sub_cancel_left}
use native.Mathlib.Omega.{arith}
use lib.ListN.{length, take, drop, length-drop, take-append-drop}
use lib.Seq.{drop-drop, take_at, drop_at, length-take-le}
use borrow.Rule.Slice.PartMut.{put_mid}
use Rattle.runs.specs.Run.{placed}

module _ (start : ℕ) (word run : List ℕ) where
  -- a part of a run that was lent from the start on, and comes back as the word
  pub put_is_placed : (size : ℕ) → length word ≡ size → put_mid start ((start + size) - start) run word ≡ placed start word run
  unfolding placed
  put_is_placed size e = rw (add-sub_cancel_left start size, e, drop-drop size start run)

  -- the word is read there again
  pub read_back : start ≤ length run → take (length word) (drop start (placed start word run)) ≡ word
  unfolding placed
  read_back h = rw (drop_at (take start run) (word ++ drop (start + length word) run) start (length-take-le start run h)) (take_at word (drop (start + length word) run) (length word) refl)

-- a run with its own part put back is as it was
pub placed_same : (start size : ℕ) (run : List ℕ) → start + size ≤ length run → placed start (take size (drop start run)) run ≡ run
unfolding placed
placed_same start size run h =
    let few : length (take size (drop start run)) ≡ size = length-take-le size (drop start run) (rw length-drop (omega arith)) in
    rw (few, ← drop-drop size start run) (ap (λ (l : List ℕ). take start run ++ l) (take-append-drop size (drop start run)) ∙ take-append-drop start run)
