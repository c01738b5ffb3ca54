-- `requests::fields::Fields::numbers` meets its contract: each number that was read is within the limit of its field.
-- Assumes nothing.
use Rattle.std.proofs.Common.{◌≡◌, length, IsNone}
use Rattle.requests.specs.Parsing.{rest_of, Limited}
use Rattle.requests.proofs.fields.Fields.numbers.Given as goal

abbrev pub invariant-loop-i : goal.invariant-loop-i
invariant-loop-i g l = record {
  same_length : length l.numbers ≡ length l.form;
  so_far : Limited l.form l.numbers l.i;
  untaken : IsNone (rest_of l.initial.self) → (l.i ≡ 0) × IsNone (rest_of l.self);
}
