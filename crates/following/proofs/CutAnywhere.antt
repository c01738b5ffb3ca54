-- "Feeding a run of 0s and 1s in blocks cut anywhere, going on after each stop, gives the same answers and end state as bit by bit."
-- Assumes nothing.
use Prim.Native.Nat.{ℕ, ◌≤◌}
use mathlib.Core.Path.{◌≡◌, refl, sym, ap, ◌∙◌}
use mathlib.Core.Bool.{false}
use mathlib.Core.List.{List, [], ◌∷◌, ◌++◌, append-nil, append_assoc}
use native.Mathlib.Omega.{arith}
use lib.ListN.{length, drop}
use Rattle.bits.specs.Bits.{AllBits}
use Rattle.modes.specs.Modes.{unknown}
use Rattle.register.specs.declared.types.Reader.{Reader}
use Rattle.hearing.specs.declared.types.Heard.{Heard}
use Rattle.following.specs.Reach.{fed, answers, Reached}
use Rattle.following.specs.Cuts.{said, Cut, cut_block, in_blocks, AllOpen}
use Rattle.reader.specs.Feeding.{Passing}
use Rattle.following.proofs.Passing.{reached_passing}
use Rattle.following.proofs.OneBlock.{next_passing, rest_clean, block_then_fed, block_then_answers, rest_shorter}

passing_answers :
    (cuts : List Cut) (r : Reader) (run : List ℕ) → Passing r → AllBits run
    → answers r run ≡ (in_blocks r cuts run).heard ++ answers (in_blocks r cuts run).reader (in_blocks r cuts run).left
unfolding in_blocks
passing_answers [] r run p all = refl
passing_answers (cut ∷ cuts) r run p all =
    let b = cut_block r cut run in
    let rest = in_blocks b.reader cuts (drop b.taken run) in
    block_then_answers r p cut run all
    ∙ ap (λ (l : List Heard). said b ++ l) (passing_answers cuts b.reader (drop b.taken run) (next_passing r p cut run all) (rest_clean r p cut run all))
    ∙ sym (append_assoc (said b) rest.heard (answers rest.reader rest.left))

passing_fed :
    (cuts : List Cut) (r : Reader) (run : List ℕ) → Passing r → AllBits run
    → fed r run ≡ fed (in_blocks r cuts run).reader (in_blocks r cuts run).left
unfolding in_blocks
passing_fed [] r run p all = refl
passing_fed (cut ∷ cuts) r run p all =
    let b = cut_block r cut run in
    block_then_fed r p cut run all ∙ passing_fed cuts b.reader (drop b.taken run) (next_passing r p cut run all) (rest_clean r p cut run all)

passing_ends :
    (cuts : List Cut) (r : Reader) (run : List ℕ) → Passing r → AllBits run → AllOpen cuts → length run ≤ length cuts
    → (in_blocks r cuts run).left ≡ []
unfolding in_blocks
passing_ends [] r [] p all each enough = refl
passing_ends [] r (element ∷ elements) p all each enough = absurd (omega arith)
passing_ends (cut ∷ cuts) r run p all each enough =
    let b = cut_block r cut run in
    let fewer : length (drop b.taken run) ≤ length cuts = (let less = rest_shorter r p cut run all each.0 each.1 in omega arith) in
    passing_ends cuts b.reader (drop b.taken run) (next_passing r p cut run all) (rest_clean r p cut run all) each.2 fewer

module _ (r : Reader) (known : unknown r.mode ≡ false) (reached : Reached r) (cuts : List Cut) (run : List ℕ) (all : AllBits run) where
  -- so far the answers are those of the single steps, and what is left goes on from the same state
  pub cut_anywhere :
      (answers r run ≡ (in_blocks r cuts run).heard ++ answers (in_blocks r cuts run).reader (in_blocks r cuts run).left)
      × (fed r run ≡ fed (in_blocks r cuts run).reader (in_blocks r cuts run).left)
  cut_anywhere =
      let p = reached_passing r known reached in
      (passing_answers cuts r run p all, passing_fed cuts r run p all)

  -- at the run's end: the same answers and end state
  pub cut_to_the_end : (in_blocks r cuts run).left ≡ [] → ((in_blocks r cuts run).heard ≡ answers r run) × ((in_blocks r cuts run).reader ≡ fed r run)
  unfolding fed answers
  cut_to_the_end none =
      let played = in_blocks r cuts run in
      (sym (cut_anywhere.0 ∙ rw none (append-nil played.heard)), sym (cut_anywhere.1 ∙ rw none))

  -- and going on comes to the end: each block takes a bit
  pub comes_to_the_end : AllOpen cuts → length run ≤ length cuts → (in_blocks r cuts run).left ≡ []
  comes_to_the_end each enough = passing_ends cuts r run (reached_passing r known reached) all each enough
