-- What each answer of a read leads to once the form is judged: the form is refused, or the record answers.
-- Assumes nothing.
use mathlib.Core.Path.{◌≡◌, sym, ◌∙◌}
use Prim.Native.Nat.{ℕ}
use mathlib.Core.Bool.{false}
use mathlib.Core.List.{List}
use lib.Dec.{eqb}
use lib.ListN.{length}
use borrow.Author.Tests.{eqb-true, not-false}
use Rattle.refusals.specs.declared.types.Refusal.{Refusal}
use Rattle.std.specs.Prelude.{Err, Ok, Result}
use Rattle.refusals.specs.declared.types.Refusal.TheVariants.{ElementTooHigh, UnknownMode, WrongLength}
use Rattle.record.specs.declared.types.Record.{Record}
use Rattle.refusals.specs.Answer.{verdict_of}
use Rattle.refusals.proofs.Answered.{Clear, otherwise_accepted}
use Rattle.refusals.proofs.ByNumber.{clear_at}
use Rattle.refusals.proofs.Verdicts.{refused_by, sound_clear}
use Rattle.modes.specs.Modes.{unknown}
use Rattle.modes.specs.declared.types.Shows.TheVariants.{ByMark}
use Rattle.modes.specs.Shown.{shown_in}
use Rattle.interval.specs.Line.{info_in}
use Rattle.interval.specs.Calls.{form_refusals}
use Rattle.vitc.specs.Asked.{BitRun}
use Rattle.vitc.specs.Calls.{read_of}

module _ (mode : ℕ) (line : List ℕ) (found : Result Unit Refusal) (judged : found ≡ verdict_of (form_refusals mode line)) where
  pub refused : (n : Refusal) → found ≡ Err n → Err n ≡ read_of mode line
  unfolding read_of
  refused n e = refused_by Err _ (form_refusals mode line) found judged n e

  module _ (sound : found ≡ Ok tt) where
    clear : Clear (form_refusals mode line)
    clear = sound_clear (form_refusals mode line) found judged sound

    pub bit_run : BitRun 90 line
    bit_run =
        record {
          long = eqb-true (length line) 90 (not-false (eqb (length line) 90) (clear_at WrongLength (form_refusals mode line) clear));
          clean = clear_at ElementTooHigh (form_refusals mode line) clear;
        }

    pub by_record : (info : ℕ) → info ≡ info_in line → (a : Result Record Refusal) → a ≡ shown_in mode ByMark info → a ≡ read_of mode line
    unfolding read_of shown_in
    by_record info is a told =
        let known : unknown mode ≡ false = clear_at UnknownMode (form_refusals mode line) clear in
        (rw (is, known) at told) ∙ sym (otherwise_accepted Err _ (form_refusals mode line) clear)
