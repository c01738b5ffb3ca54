-- `pictures::judging::judge_two` meets its contract: the rate's judge of two, told what the places make of 8 and 10.
-- Assumes nothing.
use mathlib.Core.Path.{◌≡◌, ◌∙◌}
use mathlib.Core.Bool.{Bool, ◌||◌}
use Prim.Native.Nat.{ℕ, ◌+◌}
use Rattle.refusals.specs.declared.types.Refusal.{Refusal}
use Rattle.std.specs.Prelude.{Result}
use Rattle.refusals.specs.Answer.{verdict_of}
use Rattle.rates.specs.declared.types.Rate.{Rate}
use Rattle.rates.specs.declared.types.Flag.{Flag}
use Rattle.rates.specs.Refused.{refusals_of_two_besides}
use Rattle.pictures.specs.declared.types.Picture.{Picture}
use Rattle.pictures.specs.Pictures.{place_outside, place_unused}
use Rattle.pictures.specs.Calls.{two_refusals}
use Rattle.pictures.proofs.judging.judge_two.Goals as goal

judged :
    (rate : Rate) (last : ℕ) (drop : Flag) (p q : Picture) (out out' unused unused' : Bool) (found : Result Unit Refusal)
    → out ≡ place_outside (last + 1) p.place → out' ≡ place_outside (last + 1) q.place
    → unused ≡ place_unused (last + 1) p.place → unused' ≡ place_unused (last + 1) q.place
    → found ≡ verdict_of (refusals_of_two_besides (out || out') (unused || unused') rate drop p.address q.address)
    → found ≡ verdict_of (two_refusals rate (last + 1) drop p q)
judged rate last drop p q out out' unused unused' found outside outside' not_used not_used' e = e ∙ rw (outside, outside', not_used, not_used')

pub returns : goal.returns
returns c = search judged
