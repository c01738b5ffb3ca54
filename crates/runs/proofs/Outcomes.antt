-- What a write answers and the run that it leaves come from one list of refusals: so it is done or refused, and where it is refused the run is as it was;
-- where it is done there was room, and its word is read from there again.
-- Assumes nothing.
use Prim.Native.Nat.{ℕ, ◌+◌, ◌-◌, ◌≤◌}
use mathlib.Core.Path.{◌≡◌, sym, ap, ◌∙◌}
use mathlib.Core.Bool.{Bool, true, false}
use mathlib.Core.List.{List}
use mathlib.Core.Logic.{◌⊎◌, inl, inr, ⊎_elim}
use native.Mathlib.Omega.{arith}
use lib.ListN.{length, take, drop}
use borrow.Rule.Slice.PartMut.{put_mid}
use borrow.Author.Tests.{ltb-false, le-ltb}
use Rattle.refusals.specs.declared.types.Refusal.{Refusal}
use Rattle.std.specs.Prelude.{Err, Ok, Result}
use Rattle.refusals.specs.Answer.{Cause, answer, test_of}
use Rattle.refusals.proofs.Answered.{Clear, otherwise_accepted, clear_or_refused, kept}
use Rattle.refusals.proofs.Results.{not_accepted, accepted_so}
use Rattle.refusals.proofs.ByNumber.{rows_before, given_at}
use Rattle.runs.specs.Run.{placed, lacks_room, written_by, run_after}
use Rattle.runs.proofs.Parts.{put_is_placed, read_back}

-- an answer and the run come from one list, whatever kind the answer is of: "A refused write leaves every element."
pub unchanged :
    {A : Type 0} (refused : Refusal → A) (done : A) (apart : (number : Refusal) → refused number ≡ done → ⊥)
    (rows : List Cause) (start : ℕ) (word run : List ℕ) (number : Refusal) → answer refused rows done ≡ refused number → run_after rows start word run ≡ run
unchanged refused done apart rows start word run number is_refused =
    kept run (placed start word run) rows (λ clear. apart number (sym is_refused ∙ otherwise_accepted refused done rows clear))

module _ (rows : List Cause) where
  pub done_or_refused : ((written_by rows ≡ Ok tt) ⊎ ((number : Refusal) × (written_by rows ≡ Err number)))
      × ((number : Refusal) → written_by rows ≡ Ok tt → written_by rows ≡ Err number → ⊥)
  done_or_refused = (
    ⊎_elim (λ clear. inl (otherwise_accepted Err (Ok tt) rows clear)) inr (clear_or_refused Err (Ok tt) rows),
    λ number is_done is_refused. not_accepted number (sym is_refused ∙ is_done),
  )

  -- a write is done exactly where its list is clear
  pub done_clear : written_by rows ≡ Ok tt → Clear rows
  done_clear is_done = (accepted_so rows is_done).0

  pub clear_done : Clear rows → written_by rows ≡ Ok tt
  clear_done = otherwise_accepted Err (Ok tt) rows

  module _ (start : ℕ) (word run : List ℕ) where
    -- a write that is done leaves its word in the middle of the run
    pub stored : Clear rows → run_after rows start word run ≡ placed start word run
    stored = otherwise_accepted (λ (_ : Refusal). run) (placed start word run) rows

    -- how a write ends: what it answers, and the run as it leaves it
    abbrev pub Outcome : Result Unit Refusal → List ℕ → Type 0
    Outcome answered left = (answered ≡ written_by rows) × (left ≡ run_after rows start word run)

    -- the rows before a number are clear and it applies: it is given, and the run is as it was
    pub turned_away : (n : Refusal) → Clear (rows_before n rows) → test_of n rows ≡ true → Outcome (Err n) run
    turned_away n before applies = (
      sym (given_at Err (Ok tt) n rows before applies),
      sym (given_at (λ (_ : Refusal). run) (placed start word run) n rows before applies),
    )

    -- no row applies: the part that was lent from the start on has come back as the word
    pub written_there :
        Clear rows → (size : ℕ) → length word ≡ size → (part : List ℕ) → part ≡ word
        → Outcome (Ok tt) (put_mid start ((start + size) - start) run part)
    written_there clear size long part whole =
        (sym (clear_done clear), rw whole (put_is_placed start word run size long) ∙ sym (stored clear))

    module _ (size : ℕ) (long : length word ≡ size) where
      -- and that word is read from there again
      pub stored_reads : Clear rows → start + size ≤ length run → take size (drop start (run_after rows start word run)) ≡ word
      stored_reads clear room =
          ap (λ (l : List ℕ). take size (drop start l)) (stored clear) ∙ (rw long at (read_back start word run (omega arith)))

-- where 12 does not apply there is room, and the other way
pub has_room : (size start elements : ℕ) → lacks_room size start elements ≡ false → start + size ≤ elements
has_room size start elements = ltb-false elements (start + size)

pub room_for : (size start elements : ℕ) → start + size ≤ elements → lacks_room size start elements ≡ false
room_for size start elements = le-ltb elements (start + size)

-- the same where a call has tested it
pub room_told : (size start elements : ℕ) (full : Bool) → full ≡ lacks_room size start elements → full ≡ false → start + size ≤ elements
room_told size start elements full measured some = has_room size start elements (sym measured ∙ some)
