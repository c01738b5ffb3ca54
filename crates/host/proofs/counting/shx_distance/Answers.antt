-- `host::counting::shx_distance` meets its contract: a drop that is no flag is turned away, and with one that is the call answers.
-- Assumes nothing.
use mathlib.Core.Path.{refl}
use Rattle.std.proofs.Common.{rules}
use Rattle.std.proofs.lemmas.Result.{MatchResult-weaker}
use Rattle.modes.specs.Calls.{span_in}
use Rattle.plain.specs.Given.{picture_given}
use Rattle.plain.specs.Answers.{distance_answer}
use Rattle.host.specs.Counting.{distance_for}
use Rattle.host.proofs.Counted.{counted_lem}
use Rattle.host.proofs.counting.shx_distance.Goals as goal

pub returns : goal.returns
unfolding distance_for span_in
returns c =
    counted_lem distance_answer c.args.mode c.args.drop (λ f. span_in c.args.mode f (picture_given c.args.from) (picture_given c.args.to)) _ refl _ _ c.into.ensures _ c.drop_given.ensures
    (MatchResult-weaker c.drop_given.result c.and_then.ensures (λ f called. search rules) (λ r e. e))
