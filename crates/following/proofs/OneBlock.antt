-- A block of a run of bits takes some, and answers and leaves the reader as they do one by one; what is left of the run goes on from there.
-- Assumes nothing.
use Prim.Native.Nat.{ℕ, suc, ◌-◌, ◌≤◌, ◌<◌}
use mathlib.Core.Path.{◌≡◌, refl, sym, ap, ap₂, ◌∙◌}
use mathlib.Core.Bool.{Bool, true, false}
use mathlib.Core.List.{List, [], ◌∷◌, ◌++◌}
use native.Mathlib.Omega.{arith}
use lib.Dec.{ltb, eqb}
use lib.ListN.{length, take, drop, length-take, length-drop, take-append-drop}
use lib.Seq.{take-take}
use borrow.Author.Tests.{le-ltb, ne_eqb, ltb-true, ltb-false}
use Rattle.bits.specs.Bits.{AllBits}
use Rattle.bits.proofs.Bit.{head_within, within_take, within_drop}
use Rattle.modes.specs.Modes.{unknown}
use Rattle.register.specs.declared.types.Reader.{Reader}
use Rattle.hearing.specs.declared.types.Heard.{Heard}
use Rattle.register.specs.Held.{unreached}
use Rattle.reader.specs.Steps.{stepped_of}
use Rattle.reader.specs.Blocks.{is_answer, going, blocked_of}
use Rattle.following.specs.Reach.{fed, answers}
use Rattle.following.specs.Cuts.{said, Cut, cut_block}
use Rattle.reader.specs.Feeding.{Passing}
use Rattle.following.proofs.Cut.{block_fed, block_answers, fed_cut, answers_cut}
use Rattle.following.proofs.Passing.{fed_passing, passing_goes}

-- a block takes no more bits than it is lent
going_within : (run : List ℕ) (r : Reader) (limit : ℕ) → (going r limit run).taken ≤ length run
unfolding going
going_within [] r limit = omega arith
going_within (element ∷ elements) r limit =
    go (eqb limit 0) refl (ltb 1 element) refl (is_answer (stepped_of r element).heard) refl (going_within elements (stepped_of r element).reader (limit - 1))
  where
    go : (l : Bool) → eqb limit 0 ≡ l → (h : Bool) → ltb 1 element ≡ h → (a : Bool) → is_answer (stepped_of r element).heard ≡ a
        → (going (stepped_of r element).reader (limit - 1) elements).taken ≤ length elements
        → (going r limit (element ∷ elements)).taken ≤ suc (length elements)
    go true l h e a f rest = rw l (omega arith)
    go false l true e a f rest = rw (l, e) (omega arith)
    go false l false e true f rest = rw (l, e, f) (omega arith)
    go false l false e false f rest = rw (l, e, f) (omega arith)

pub taken_within : (r : Reader) (limit : ℕ) (run : List ℕ) → (blocked_of r limit run).taken ≤ length run
unfolding blocked_of
taken_within r limit run = go (unknown r.mode) refl (unreached r) refl
  where
    go : (m : Bool) → unknown r.mode ≡ m → (u : Bool) → unreached r ≡ u → (blocked_of r limit run).taken ≤ length run
    go true m true v = simp (m, v) (omega arith)
    go true m false v = simp (m, v) (omega arith)
    go false m true v = simp (m, v) (omega arith)
    go false m false v = rw (m, v) (going_within run r limit)

-- with a limit, and a bit to take, it takes one
takes_one : (run : List ℕ) (r : Reader) (limit : ℕ) → AllBits run → 0 < limit → 0 < length run → 0 < (going r limit run).taken
unfolding going
takes_one [] r limit all some more = absurd (omega arith)
takes_one (element ∷ elements) r limit all some more = go (is_answer (stepped_of r element).heard) refl
  where
    go : (a : Bool) → is_answer (stepped_of r element).heard ≡ a → 0 < (going r limit (element ∷ elements)).taken
    go true a = rw (ne_eqb limit 0 (omega arith), le-ltb 1 element (head_within 1 element elements all), a) (omega arith)
    go false a = rw (ne_eqb limit 0 (omega arith), le-ltb 1 element (head_within 1 element elements all), a) (omega arith)

module _ (r : Reader) (p : Passing r) (cut : Cut) (run : List ℕ) (all : AllBits run) where
  goes : cut_block r cut run ≡ going r cut.limit (take cut.lent run)
  goes = passing_goes r cut.limit (take cut.lent run) p

  bits_taken : take (cut_block r cut run).taken (take cut.lent run) ≡ take (cut_block r cut run).taken run
  bits_taken =
      let within = going_within (take cut.lent run) r cut.limit in
      take-take (cut_block r cut run).taken cut.lent run (rw goes (omega (arith, length-take cut.lent run)))

  block_reader : (cut_block r cut run).reader ≡ fed r (take (cut_block r cut run).taken run)
  block_reader = sym (ap (fed r) (sym bits_taken) ∙ rw goes (block_fed (take cut.lent run) r cut.limit))

  block_said : said (cut_block r cut run) ≡ answers r (take (cut_block r cut run).taken run)
  block_said =
      sym (ap (answers r) (sym bits_taken) ∙ rw goes (block_answers (take cut.lent run) r cut.limit (within_take 1 cut.lent run all)))

  -- the reader after it is sound, and what is left is bits
  pub next_passing : Passing (cut_block r cut run).reader
  next_passing = rw block_reader (fed_passing (take (cut_block r cut run).taken run) r p)

  pub rest_clean : AllBits (drop (cut_block r cut run).taken run)
  rest_clean = within_drop 1 (cut_block r cut run).taken run all

  pub block_then_fed : fed r run ≡ fed (cut_block r cut run).reader (drop (cut_block r cut run).taken run)
  block_then_fed =
      let first = take (cut_block r cut run).taken run in
      let rest = drop (cut_block r cut run).taken run in
      ap (fed r) (sym (take-append-drop (cut_block r cut run).taken run))
      ∙ fed_cut first rest r
      ∙ ap (λ (next : Reader). fed next rest) (sym block_reader)

  pub block_then_answers : answers r run ≡ said (cut_block r cut run) ++ answers (cut_block r cut run).reader (drop (cut_block r cut run).taken run)
  block_then_answers =
      let first = take (cut_block r cut run).taken run in
      let rest = drop (cut_block r cut run).taken run in
      ap (answers r) (sym (take-append-drop (cut_block r cut run).taken run))
      ∙ answers_cut first rest r
      ∙ ap₂ (λ (l : List Heard) (next : Reader). l ++ answers next rest) (sym block_said) (sym block_reader)

  pub rest_shorter : 0 < cut.limit → 0 < cut.lent → length (drop (cut_block r cut run).taken run) ≤ length run - 1
  rest_shorter some more = go (ltb 0 (length run)) refl
    where
      go : (t : Bool) → ltb 0 (length run) ≡ t → length (drop (cut_block r cut run).taken run) ≤ length run - 1
      go true t =
          let size = ltb-true 0 (length run) t in
          let one = takes_one (take cut.lent run) r cut.limit (within_take 1 cut.lent run all) some (rw length-take (omega arith)) in
          let taken : 0 < (cut_block r cut run).taken = rw goes one in
          rw length-drop (omega arith)
      go false t = let size = ltb-false 0 (length run) t in rw length-drop (omega arith)
