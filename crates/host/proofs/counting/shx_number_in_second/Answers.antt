-- `host::counting::shx_number_in_second` meets its contract: a drop that is no flag is turned away, and with one that is the call answers.
-- Assumes nothing.
use mathlib.Core.Path.{refl}
use Rattle.std.proofs.Common.{rules}
use Rattle.std.proofs.lemmas.Result.{MatchResult-weaker}
use Rattle.modes.specs.Calls.{in_second_in}
use Rattle.plain.specs.Given.{picture_given}
use Rattle.plain.specs.Answers.{second_answer}
use Rattle.host.specs.Counting.{in_second_for}
use Rattle.host.proofs.Counted.{counted_lem}
use Rattle.host.proofs.counting.shx_number_in_second.Goals as goal

pub returns : goal.returns
unfolding in_second_for in_second_in
returns c =
    counted_lem second_answer c.args.mode c.args.drop (λ f. in_second_in c.args.mode f (picture_given c.args.picture)) _ refl _ _ c.into.ensures _ c.drop_given.ensures
    (MatchResult-weaker c.drop_given.result c.and_then.ensures (λ f called. search rules) (λ r e. e))
