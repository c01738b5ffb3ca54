-- `host::counting::shx_number` meets its contract: a drop that is no flag is turned away, and with one that is the call answers.
-- Assumes nothing.
use mathlib.Core.Path.{refl}
use Rattle.std.proofs.Common.{rules}
use Rattle.std.proofs.lemmas.Result.{MatchResult-weaker}
use Rattle.modes.specs.Calls.{number_in}
use Rattle.plain.specs.Given.{picture_given}
use Rattle.plain.specs.Answers.{number_answer}
use Rattle.host.specs.Counting.{number_for}
use Rattle.host.proofs.Counted.{counted_lem}
use Rattle.host.proofs.counting.shx_number.Goals as goal

pub returns : goal.returns
unfolding number_for number_in
returns c =
    counted_lem number_answer c.args.mode c.args.drop (λ f. number_in c.args.mode f (picture_given c.args.picture)) _ refl _ _ c.into.ensures _ c.drop_given.ensures
    (MatchResult-weaker c.drop_given.result c.and_then.ensures (λ f called. search rules) (λ r e. e))
