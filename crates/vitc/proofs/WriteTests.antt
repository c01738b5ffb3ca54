-- What each answer of the record leads to in a write: what the write answers, and the run as it leaves it.
-- Assumes nothing.
use mathlib.Core.Path.{◌≡◌, sym, ◌∙◌}
use mathlib.Core.List.{List}
use Prim.Native.Nat.{ℕ}
use Rattle.std.specs.Prelude.{Err, Ok, Result}
use Rattle.refusals.specs.declared.types.Refusal.{Refusal}
use Rattle.refusals.specs.Answer.{Cause}
use Rattle.refusals.proofs.Answered.{otherwise_accepted}
use Rattle.runs.specs.Run.{written_by, run_after, room_refusals}
use Rattle.record.specs.declared.types.Record.{Record}
use Rattle.modes.specs.declared.types.Shows.TheVariants.{ByMark}
use Rattle.modes.specs.Shown.{carried_in}
use Rattle.modes.proofs.Told.{carried_rows, uncarried_as, carried_is}
use Rattle.interval.specs.Line.{line_with}
use Rattle.vitc.specs.Calls.{line_of, written_of, run_of}

module _ (mode start : ℕ) (r : Record) (run : List ℕ) (packed : Result ℕ Refusal) (asked : packed ≡ carried_in mode ByMark r) where
  abbrev Outcome : Result Unit Refusal → List ℕ → Type 0
  Outcome answered left = (answered ≡ written_of mode r start run) × (left ≡ run_of mode r start run)

  pub no_record : (n : Refusal) → packed ≡ Err n → Outcome (Err n) run
  unfolding written_of
  no_record n e = (uncarried_as mode r ByMark Err _ n (sym asked ∙ e), uncarried_as mode r ByMark (λ (_ : Refusal). run) _ n (sym asked ∙ e))

  -- the line was placed, or there was no room for it: what came back is what the write answers
  pub placed : (info : ℕ) → packed ≡ Ok info → (answered : Result Unit Refusal) (left : List ℕ)
      → (answered ≡ written_by (room_refusals 90 start run)) × (left ≡ run_after (room_refusals 90 start run) start (line_with info) run)
      → Outcome answered left
  unfolding written_of line_of
  placed info e answered left told =
      let made = carried_is mode r ByMark info (sym asked ∙ e) in
      let before : List Cause = carried_rows mode r ByMark in (
        told.0 ∙ sym (otherwise_accepted Err (written_by (room_refusals 90 start run)) before made.0),
        told.1
            ∙ rw (← made.1)
            (sym (otherwise_accepted (λ (_ : Refusal). run) (run_after (room_refusals 90 start run) start (line_of mode r) run) before made.0)),
      )
