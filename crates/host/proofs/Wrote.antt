-- The writes: whatever is written, with a byte that stands for nothing the number is given and the run is left as it was; else the write answers, and leaves the run as it does.
-- Assumes nothing.
use Prim.Native.Nat.{ℕ}
use mathlib.Core.Path.{◌≡◌, ap, ◌∙◌}
use mathlib.Core.Bool.{Bool, true, false}
use mathlib.Core.List.{List, ◌++◌}
use Rattle.refusals.specs.declared.types.Refusal.{Refusal}
use Rattle.std.specs.Prelude.{Err, Ok, Result}
use Rattle.refusals.specs.declared.types.Refusal.TheVariants.{ElementTooHigh}
use Rattle.refusals.specs.Answer.{Cause, answer}
use Rattle.runs.specs.Run.{placed, written_by, run_after}
use Rattle.plain.specs.Answers.{written_code}
use Rattle.host.specs.Unnamed.{then_unnamed}
use Rattle.host.proofs.Firsts.{unnamed, named}

module _ (before : List Cause) (none : Bool) (run : List ℕ) (written : Result Unit Refusal) (left : List ℕ) where
  -- the code, and the run afterwards, as a host has them
  abbrev Wrote : ℕ → List ℕ → Type 0
  Wrote n out =
      (n ≡ written_code (answer Err (then_unnamed before none) written)) × (out ≡ answer (λ (_ : Refusal). run) (then_unnamed before none) left)

  pub turned_away : none ≡ true → (k : Refusal) → k ≡ answer (λ (r : Refusal). r) before ElementTooHigh → Wrote (written_code (Err k)) run
  turned_away e k is = (ap written_code (unnamed Err before none written k e is), unnamed (λ (_ : Refusal). run) before none left k e is)

  pub answered :
      none ≡ false → (rest rows : List Cause) → rows ≡ before ++ rest → written ≡ written_by rows
      → (start : ℕ) (word : List ℕ) → left ≡ run_after rows start word run → (n : ℕ) → n ≡ written_code written → Wrote n left
  answered e rest rows begins by start word leaves n told = (
    told ∙ ap written_code (named Err before rest rows begins none (Ok tt) written e by),
    named (λ (_ : Refusal). run) before rest rows begins none (placed start word run) left e leaves,
  )
