-- `host::counting::shx_add` meets its contract: a drop that is no flag is turned away, and with one that is the call answers.
-- Assumes nothing.
use mathlib.Core.Path.{refl}
use mir.Facts.{to_z-of_z}
use Rattle.std.proofs.Common.{rules}
use Rattle.std.proofs.lemmas.Result.{MatchResult-weaker}
use Rattle.modes.specs.Calls.{plus_in}
use Rattle.plain.specs.Given.{picture_given}
use Rattle.plain.specs.Answers.{picture_answer}
use Rattle.host.specs.Counting.{add_for}
use Rattle.host.proofs.Counted.{counted_lem}
use Rattle.host.proofs.counting.shx_add.Goals as goal

pub returns : goal.returns
unfolding add_for plus_in
returns c =
    counted_lem picture_answer c.args.mode c.args.drop (λ f. plus_in c.args.mode f (picture_given c.args.picture) c.args.pictures) _ refl _ _ c.into.ensures _ c.drop_given.ensures
    (MatchResult-weaker c.drop_given.result c.and_then.ensures (λ f called. search (rules, to_z-of_z)) (λ r e. e))
