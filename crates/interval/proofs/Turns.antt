-- The loops go on and end.
-- Assumes nothing.
use Prim.Native.Nat.{ℕ, suc, ◌+◌, ◌-◌, ◌*◌, ◌/◌, ◌%◌, ◌≤◌, ◌<◌}
use mathlib.Core.Path.{◌≡◌, refl, sym, ap, ◌∙◌}
use mathlib.Core.Bool.{Bool, ◌||◌}
use mathlib.Core.List.{List, [], ◌∷◌, ◌++◌, append-nil, append_assoc}
use native.Mathlib.Nat.{add-sub_cancel_left}
use native.Mathlib.Numerals.{add-one}
use native.Mathlib.Omega.{arith}
use lib.ListN.{length, take, drop, length-drop, length-append}
use lib.Seq.{take_all, take_at, length-take-le}
use borrow.Rule.Slice.PartMut.{put_mid}
use Rattle.bits.specs.Bits.{to_bits}
use Rattle.bits.proofs.Bit.{length_to_bits}
use Rattle.bits.proofs.Inverse.{low_bits}
use Rattle.runs.specs.Run.{placed}
use Rattle.runs.proofs.Parts.{put_is_placed}
use Rattle.interval.specs.Line.{some_below, groups}
use Rattle.interval.specs.Loops.{Grouping}

-- one test more
pub test_turns : (test : ℕ → Bool) (told : Bool) (i : ℕ) → told ≡ some_below i test → (told || test i) ≡ some_below (i + 1) test
unfolding some_below
test_turns test told i so_far = rw (add-one i) (ap (λ (t : Bool). t || test i) so_far)

-- a group of ten as one number: the pair 1, 0 and eight bits
pub group_bits : (left : ℕ) → to_bits 10 (1 + 4 * (left % 256)) ≡ 1 ∷ 0 ∷ to_bits 8 left
unfolding to_bits
group_bits left =
    let one : (1 + 4 * (left % 256)) % 2 ≡ 1 = omega arith in
    let half : (1 + 4 * (left % 256)) / 2 ≡ 2 * (left % 256) = omega arith in
    let none : 2 * (left % 256) % 2 ≡ 0 = omega arith in
    let byte : 2 * (left % 256) / 2 ≡ left % 256 = omega arith in
    rw (one, half, none, byte) (ap (λ (l : List ℕ). 1 ∷ 0 ∷ l) (low_bits 8 left))

-- a part that is lent has as many elements as were asked for
pub lent_length : (run : List ℕ) (start size : ℕ) → start + size ≤ length run → length (take ((start + size) - start) (drop start run)) ≡ size
lent_length run start size room =
    rw (add-sub_cancel_left start size) (length-take-le size (drop start run) (rw length-drop (omega arith)))

-- a part that comes back right after what is done is done with it
module _ (run done part : List ℕ) (start size : ℕ) (so_far : take start run ≡ done) (long : length part ≡ size) (room : start + size ≤ length run) where
  pub put_next : take (start + size) (put_mid start ((start + size) - start) run part) ≡ done ++ part
  unfolding placed
  put_next =
      let first : length (take start run) ≡ start = length-take-le start run (omega arith) in
      let both : length (take start run ++ part) ≡ start + size = length-append (take start run) part ∙ rw (first, long) in
      rw (put_is_placed start part run size long, ← append_assoc (take start run) part (drop (start + length part) run), take_at (take start run ++ part) (drop (start + length part) run) (start + size) both, so_far)

  pub put_length : length (put_mid start ((start + size) - start) run part) ≡ length run
  unfolding placed
  put_length =
      rw (put_is_placed start part run size long, length-append (take start run) (part ++ drop (start + length part) run), length-append part (drop (start + length part) run), length-take-le start run (omega arith), length-drop (start + length part) run, long)
      (omega arith)

module _ (info : ℕ) (part : List ℕ) (left g : ℕ) (s : Grouping info part left g) where
  pub groups_turn : (group : List ℕ) → g < 8 → group ≡ to_bits (length (take ((10 * g + 10) - 10 * g) (drop (10 * g) part))) (1 + 4 * (left % 256))
      → Grouping info (put_mid (10 * g) ((10 * g + 10) - 10 * g) part group) (left / 256) (g + 1)
  unfolding groups
  groups_turn group h e =
      let room : 10 * g + 10 ≤ length part = omega (arith, s.long) in
      let told : group ≡ to_bits 10 (1 + 4 * (left % 256)) = rw (lent_length part (10 * g) 10 room) at e in
      let ten : length group ≡ 10 = rw told (length_to_bits 10 (1 + 4 * (left % 256))) in
      let next : 10 * (g + 1) ≡ 10 * g + 10 = omega arith in
      let more : 8 - g ≡ suc (8 - (g + 1)) = omega arith in
      let so_far : take (10 * g) part ++ ((1 ∷ 0 ∷ to_bits 8 left) ++ groups (8 - (g + 1)) (left / 256)) ≡ groups 8 info = rw more at s.so_far in
      record {
        within = omega arith;
        long = put_length part (take (10 * g) part) group (10 * g) 10 refl ten room ∙ s.long;
        so_far =
            rw (next, put_next part (take (10 * g) part) group (10 * g) 10 refl ten room, told ∙ group_bits left, append_assoc (take (10 * g) part) (1 ∷ 0 ∷ to_bits 8 left) (groups (8 - (g + 1)) (left / 256)))
            so_far;
      }

  pub groups_end : 8 ≤ g → part ≡ groups 8 info
  unfolding groups
  groups_end h =
      let all : g ≡ 8 = omega (arith, s.within) in
      let so_far : take 80 part ++ [] ≡ groups 8 info = rw all at s.so_far in
      sym (append-nil part) ∙ (rw (take_all 80 part (omega (arith, s.long))) at so_far)
