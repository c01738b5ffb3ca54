-- `requests::numbers::number_in` meets its contract.
-- Assumes nothing.
use Rattle.std.proofs.Common.{◌≤◌}
use Rattle.requests.proofs.numbers.number_in.Given as goal

abbrev pub invariant-loop-character : goal.invariant-loop-character
invariant-loop-character l = l.value ≤ l.most
