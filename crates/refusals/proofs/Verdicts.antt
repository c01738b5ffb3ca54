-- A call that takes its refusal from a verdict answers as its own list of refusals says.
-- Assumes nothing.
use mathlib.Core.Path.{◌≡◌, sym, ap, ◌∙◌}
use mathlib.Core.List.{List}
use Rattle.std.specs.Prelude.{Result, Ok, Err}
use Rattle.refusals.specs.declared.types.Refusal.{Refusal}
use Rattle.refusals.specs.Answer.{Cause, answer, verdict_of}
use Rattle.refusals.proofs.Answered.{Clear, carried}
use Rattle.refusals.proofs.Results.{accepted_so}

-- what a call answers on a verdict
told : {A : Type 0} → (Refusal → A) → A → Result Unit Refusal → A
told refused accepted (Ok _) = accepted
told refused accepted (Err r) = refused r

module _ {A : Type 0} (refused : Refusal → A) (accepted : A) (refusals : List Cause) (found : Result Unit Refusal) (judged : found ≡ verdict_of refusals) where
  by_verdict : told refused accepted found ≡ answer refused refusals accepted
  unfolding told
  by_verdict = rw judged (carried (told refused accepted) Err (Ok tt) refusals)

  pub refused_by : (r : Refusal) → found ≡ Err r → refused r ≡ answer refused refusals accepted
  unfolding told
  refused_by r e = ap (told refused accepted) (sym e) ∙ by_verdict

  pub passed_by : found ≡ Ok tt → accepted ≡ answer refused refusals accepted
  unfolding told
  passed_by e = ap (told refused accepted) (sym e) ∙ by_verdict

-- where the verdict is sound, no row of the list applies
pub sound_clear : (refusals : List Cause) (found : Result Unit Refusal) → found ≡ verdict_of refusals → found ≡ Ok tt → Clear refusals
sound_clear refusals found judged e = (accepted_so refusals (sym judged ∙ e)).0
