-- `host::reading::shx_step` meets its contract: with ways that are none 2, 13 or 3, and the reader as it was; else the reader answers.
-- Assumes nothing.
use Prim.Native.Nat.{ℕ}
use mathlib.Core.Path.{◌≡◌, refl, ap, ◌∙◌}
use mathlib.Core.Bool.{Bool, true, false}
use mathlib.Core.List.{[], ◌∷◌}
use lib.Dec.{ltb}
use Rattle.refusals.specs.Table.{number}
use Rattle.refusals.specs.declared.types.Refusal.{Refusal}
use Rattle.refusals.specs.declared.types.Refusal.TheVariants.{ElementTooHigh}
use Rattle.refusals.specs.Answer.{◌when◌}
use Rattle.register.specs.declared.types.Reader.{Reader}
use Rattle.hearing.specs.declared.types.Heard.TheVariants.{Refused as Unheard}
use Rattle.reader.specs.declared.types.Stepped.{Stepped}
use Rattle.reader.specs.Steps.{feed_refusals, after, bit_taken, stepped_of}
use Rattle.plain.specs.declared.types.PlainReader.{PlainReader}
use Rattle.plain.specs.declared.types.PlainHeard.{PlainHeard}
use Rattle.plain.specs.declared.types.StepAnswer.{StepAnswer}
use Rattle.plain.specs.Given.{reader_given, no_ways}
use Rattle.plain.specs.Answers.{step_with, step_answer, heard_with, no_record}
use Rattle.host.specs.Unnamed.{after_reader}
use Rattle.host.specs.Reading.{step_for}
use Rattle.host.proofs.Fed.{turned_away, answered}
use Rattle.host.proofs.reading.shx_step.Goals as goal

module _ (r : PlainReader) (element : ℕ) (none : Bool) (tested : none ≡ no_ways r.ways) where
  turned :
      none ≡ true → (given : Reader) (k : Refusal) (code : ℕ) (heard : PlainHeard) → given ≡ reader_given r → k ≡ after_reader given → code ≡ number k
      → heard ≡ heard_with code 0 0 no_record
      → step_with heard r ≡ step_for r element
  unfolding step_for
  turned e given k code heard from is by told =
      turned_away step_answer step_with (λ reader n. after reader (Unheard n)) r (λ n. refl) none tested e given k heard (step_answer (stepped_of (reader_given r) element)) from is (told ∙ rw by)

  fed :
      none ≡ false → (given : Reader) (s : Stepped) (a : StepAnswer) → given ≡ reader_given r → s ≡ stepped_of given element → a ≡ step_answer s → a ≡ step_for r element
  unfolding step_for stepped_of
  fed e given s a from is told =
      let same : s ≡ stepped_of (reader_given r) element = is ∙ rw from in
      answered step_answer step_with (λ reader n. after reader (Unheard n)) r (λ n. refl) none tested e ((ElementTooHigh when ltb 1 element) ∷ []) (feed_refusals (reader_given r) element) refl (bit_taken (reader_given r) element) a (told ∙ ap step_answer same)

pub returns-then-is_no_ways : goal.returns-then-is_no_ways
returns-then-is_no_ways c = search turned

pub returns : goal.returns
returns c = search fed
