-- `reader::stepping::feed` meets its contract. At each turn what is still to come makes the whole block.
-- Assumes nothing.
use mathlib.Core.Path.{◌≡◌}
use native.Mathlib.Omega.{arith}
use borrow.Author.Rules.{rules}
use Rattle.reader.proofs.Turns.{feeding_ends, stops_before}
use Rattle.reader.proofs.FeedTests.{begins, reached, shown, none_left, sound, unsynced, answered, unanswered}
use Rattle.reader.proofs.stepping.feed.Goals as goal
use Rattle.reader.proofs.stepping.feed.Goals.{then-is_synced+else-is_answer, else-is_synced}

pub loop-taken-init : goal.loop-taken-init
loop-taken-init c = search begins

pub returns-then-element-gt1 : goal.returns-then-element-gt1
returns-then-element-gt1 c =
    let more = reached _ _ _ _ _ _ c.loop-taken.invariant c.loop-taken-test.true in
    let same = shown _ _ _ _ _ _ c.loop-taken.invariant more in
    stops_before _ _ _ _ _ _ c.loop-taken.invariant more (rw same at c.if-element-gt1.true)

pub pushed-now-requires : goal.pushed-now-requires
pushed-now-requires c = (search sound, omega arith)

pub returns-then-is_answer : goal.returns-then-is_answer
returns-then-is_answer c =
    let more = reached _ _ _ _ _ _ c.loop-taken.invariant c.loop-taken-test.true in
    let same = shown _ _ _ _ _ _ c.loop-taken.invariant more in
    answered _ _ _ _ _ _ c.loop-taken.invariant more (rw same at c.if-element-gt1.false) _ (rw same at c.pushed-now.ensures) _
    c.heard_apart-answer.ensures _ c.is_answer.ensures c.if-is_answer.true

pub loop-taken-preserved : goal.loop-taken-preserved
loop-taken-preserved c =
    let more = reached _ _ _ _ _ _ c.loop-taken.invariant c.loop-taken-test.true in
    let same = shown _ _ _ _ _ _ c.loop-taken.invariant more in
    elim c.if-is_synced.branch [
      | then-is_synced+else-is_answer w ↦ unanswered _ _ _ _ _ _ c.loop-taken.invariant more (rw same at c.if-element-gt1.false) _ (rw same at c.pushed-now.ensures) _
          w.heard_apart-answer.ensures
          _
          w.is_answer.ensures
          (search rules)
          (search rules)
          w.if-is_answer.false
      | else-is_synced w ↦ unsynced _ _ _ _ _ _ c.loop-taken.invariant more (rw same at c.if-element-gt1.false) _ (rw same at c.pushed-now.ensures)
          (search rules)
          (search rules)
          _
          c.is_synced.ensures
          w.if-is_synced.false
    ]

pub returns : goal.returns
returns c = let all : c.loop-taken.taken ≡ c.min-end.result = omega (arith, c.loop-taken.invariant.within, none_left _ _ _ _ _ _ c.loop-taken.invariant (omega arith)) in rw all at (feeding_ends _ _ _ _ _ _ c.loop-taken.invariant (omega (arith, all)))
