-- "The lowest that applies is given, except that 13 comes straight after 2": a call lists its refusals in the order in which they are given, and the
-- first whose test holds is its answer. What it is for a list to follow an order is said here too.
-- Assumes nothing.
use Rattle.std.specs.Prelude.{Bool, true, false, cond, List, [], ◌∷◌, Result, Ok, Err}
use Rattle.refusals.specs.declared.types.Refusal.{Refusal}
use Rattle.refusals.specs.Table.{same_refusal}

infix 20 ◌when◌
-- a row of a call's list: the refusal, and the test that says whether it applies
pub record Cause : Type 0 where
  pub refusal : Refusal
  pub applies : Bool

abbrev pub ◌when◌ : Refusal → Bool → Cause
r when test = record { refusal = r; applies = test }

-- the refusal of the first row that applies, in the call's own case for a refusal; where none applies, what is accepted
abbrev pub answer : {A : Type 0} → (Refusal → A) → List Cause → A → A
answer refused [] accepted = accepted
answer refused (row ∷ rows) accepted = cond row.applies (refused row.refusal) (answer refused rows accepted)

-- what a list of refusals comes to
abbrev pub verdict_of : List Cause → Result Unit Refusal
verdict_of rows = answer Err rows (Ok tt)

-- the test of a refusal in a call's list: one that the list does not have never applies
abbrev pub test_of : Refusal → List Cause → Bool
test_of r [] = false
test_of r (row ∷ rows) = cond (same_refusal row.refusal r) row.applies (test_of r rows)

-- the first refusal of an order that applies, wherever it stands in the list
abbrev pub first_of : {A : Type 0} → List Refusal → (Refusal → A) → List Cause → A → A
first_of [] refused rows accepted = accepted
first_of (r ∷ order) refused rows accepted = cond (test_of r rows) (refused r) (first_of order refused rows accepted)

-- the rows' refusals come in an order: each stands in it after the one before
abbrev pub in_order : List Refusal → List Cause → Bool
in_order order [] = true
in_order [] (row ∷ rows) = false
in_order (r ∷ order) (row ∷ rows) = cond (same_refusal r row.refusal) (in_order order rows) (in_order order (row ∷ rows))
