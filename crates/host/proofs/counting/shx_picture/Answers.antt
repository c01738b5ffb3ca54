-- `host::counting::shx_picture` meets its contract: a drop that is no flag is turned away, and with one that is the call answers.
-- Assumes nothing.
use mathlib.Core.Path.{refl}
use Rattle.std.proofs.Common.{rules}
use Rattle.std.proofs.lemmas.Result.{MatchResult-weaker}
use Rattle.modes.specs.Calls.{picture_in}
use Rattle.plain.specs.Answers.{picture_answer}
use Rattle.host.specs.Counting.{picture_for}
use Rattle.host.proofs.Counted.{counted_lem}
use Rattle.host.proofs.counting.shx_picture.Goals as goal

pub returns : goal.returns
unfolding picture_for picture_in
returns c =
    counted_lem picture_answer c.args.mode c.args.drop (λ f. picture_in c.args.mode f (record { 0 = c.args.number })) _ refl _ _ c.into.ensures _ c.drop_given.ensures
    (MatchResult-weaker c.drop_given.result c.and_then.ensures (λ f called. search rules) (λ r e. e))
