-- A text that is laid into a run element by element, as a loop would, is placed there in the end: it begins, goes on and ends.
-- Assumes nothing.
use Prim.Native.Nat.{ℕ, suc, ◌+◌, ◌≤◌, ◌<◌}
use mathlib.Core.Path.{◌≡◌, sym, ap, ◌∙◌}
use mathlib.Core.List.{List}
use native.Mathlib.Numerals.{add-one}
use native.Mathlib.Omega.{arith}
use lib.ListN.{length, take, set, get_or}
use lib.Seq.{take-suc, take_all, length-take-le}
use Rattle.runs.specs.Run.{placed}
use Rattle.text.specs.Loops.{Laying}
use Rattle.text.proofs.Laid.{placed_none, placed_more, placed_length}

module _ (text whole : List ℕ) (at : ℕ) where
  pub lay_begins : at + length text ≤ length whole → Laying text whole at whole 0
  lay_begins room = record { within = omega arith; room = room; so_far = sym (placed_none at whole) }

  module _ (out : List ℕ) (i : ℕ) (l : Laying text whole at out i) where
    few : length (take i text) ≡ i
    few = length-take-le i text l.within

    pub lay_long : length out ≡ length whole
    lay_long = rw l.so_far (placed_length at (take i text) whole (rw few (omega (arith, l.within, l.room))))

    pub lay_turns : i < length text → Laying text whole at (set out (at + i) (get_or text i 0)) (i + 1)
    lay_turns low =
        let here : at + length (take i text) ≡ at + i = ap (λ (n : ℕ). at + n) few in
        let more : set (placed at (take i text) whole) (at + length (take i text)) (get_or text i 0) ≡ placed at (take (suc i) text) whole =
        rw (take-suc text i 0 low)
        (placed_more at (take i text) whole (rw few (omega (arith, l.room))) (get_or text i 0) (rw few (omega (arith, l.room)))) in
        record {
          within = omega arith;
          room = l.room;
          so_far = rw (l.so_far, add-one i) (rw here at more);
        }

    pub lay_ends : length text ≤ i → (at + i ≡ at + length text) × (out ≡ placed at text whole)
    lay_ends high =
        let all : take i text ≡ text = take_all i text high in
        (omega (arith, l.within), l.so_far ∙ rw all)
