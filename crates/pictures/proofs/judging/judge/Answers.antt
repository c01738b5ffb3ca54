-- `pictures::judging::judge` meets its contract: the rate's judge, told what the place makes of 8 and 10.
-- Assumes nothing.
use mathlib.Core.Path.{◌≡◌, ◌∙◌}
use mathlib.Core.Bool.{Bool}
use Prim.Native.Nat.{ℕ, ◌+◌}
use Rattle.refusals.specs.declared.types.Refusal.{Refusal}
use Rattle.std.specs.Prelude.{Result}
use Rattle.refusals.specs.Answer.{verdict_of}
use Rattle.rates.specs.declared.types.Rate.{Rate}
use Rattle.rates.specs.declared.types.Flag.{Flag}
use Rattle.rates.specs.Refused.{refusals_besides}
use Rattle.pictures.specs.declared.types.Picture.{Picture}
use Rattle.pictures.specs.Pictures.{place_outside, place_unused}
use Rattle.pictures.specs.Calls.{picture_refusals}
use Rattle.pictures.proofs.judging.judge.Goals as goal

judged :
    (rate : Rate) (last : ℕ) (drop : Flag) (p : Picture) (out unused : Bool) (found : Result Unit Refusal)
    → out ≡ place_outside (last + 1) p.place → unused ≡ place_unused (last + 1) p.place
    → found ≡ verdict_of (refusals_besides out unused rate drop p.address) → found ≡ verdict_of (picture_refusals rate (last + 1) drop p)
judged rate last drop p out unused found outside not_used e = e ∙ rw (outside, not_used)

pub returns : goal.returns
returns c = search judged
