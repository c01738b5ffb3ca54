-- What a call's list of refusals comes to, where it answers with what it accepts or with a refusal.
-- Assumes nothing.
use mathlib.Core.Path.{◌≡◌, sym, ap, ◌∙◌}
use mathlib.Core.List.{List}
use Rattle.std.specs.Prelude.{Result, Ok, Err, IsErrAnd}
use Rattle.std.proofs.lemmas.Result.{err_from_is_err_and}
use Rattle.refusals.specs.declared.types.Refusal.{Refusal}
use Rattle.refusals.specs.Answer.{Cause, answer}
use Rattle.refusals.proofs.Answered.{Clear, carried, accepted_as}

-- what is refused is not accepted
pub not_accepted : {A : Type 0} {accepted : A} (r : Refusal) → ◌≡◌ {A = Result A Refusal} (Err r) (Ok accepted) → ⊥
not_accepted r e = cc

-- what is accepted is what the call accepts, and no row of its list applies
pub accepted_so :
    {A : Type 0} {accepted given : A} (refusals : List Cause) → answer Err refusals (Ok accepted) ≡ Ok given → Clear refusals × (accepted ≡ given)
accepted_so {accepted = accepted} {given = given} refusals e =
    let taken = accepted_as Err (Ok accepted) refusals (Ok given) not_accepted e in
    let same : accepted ≡ given = cc (taken.1) in
    (taken.0, same)

-- one answer told as another: what is accepted as something else, and what is refused as it is
told_as : {A B : Type 0} → B → Result A Refusal → Result B Refusal
told_as accepted (Ok _) = Ok accepted
told_as accepted (Err r) = Err r

-- calls that share their list are refused alike, whatever they accept
pub refused_alike :
    {A B : Type 0} (one : A) (other : B) (refusals : List Cause) (r : Refusal) → answer Err refusals (Ok one) ≡ Err r → answer Err refusals (Ok other) ≡ Err r
unfolding told_as
refused_alike one other refusals r e = sym (carried (told_as other) Err (Ok one) refusals) ∙ ap (told_as other) e

-- what a call is refused with is passed on by a `?`
pub passed_on : {A : Type 0} {left wanted : Result A Refusal} {r : Refusal} → IsErrAnd left (λ x. x ≡ r) → Err r ≡ wanted → left ≡ wanted
passed_on {left = left} given e = let passed = err_from_is_err_and left given in passed.1 ∙ ap Err passed.2 ∙ e
