-- "The lowest that applies is given, except that 13 comes straight after 2" (and 19 straight after 7): of a list that follows an order, the first number of the
-- order that applies is given.
-- Assumes nothing.
use Prim.Native.Nat.{ℕ}
use mathlib.Core.Path.{subst, ap, ◌≡◌, refl, sym, ◌∙◌}
use mathlib.Core.Bool.{Bool, true, false, ◌||◌, cond, true≢false}
use mathlib.Core.List.{List, [], ◌∷◌}
use mathlib.Core.Logic.{◌↔◌, ⊎_elim}
use Rattle.std.specs.Prelude.{Result, Ok, Err}
use Rattle.refusals.specs.declared.types.Refusal.{Refusal}
use Rattle.refusals.specs.Table.{number, same_refusal, the_order}
use Rattle.refusals.specs.Answer.{Cause, answer, test_of, first_of, in_order}
use Rattle.refusals.proofs.Answered.{Clear, neither, otherwise_accepted, clear_or_refused}
use Rattle.refusals.proofs.Same.{number_of_one, some_number, same-true, same-false, eq-same, ne-same}
use Rattle.refusals.proofs.ByNumber.{rows_before, given_at, given_before_err}

-- a number stands in a list
abbrev pub among : Refusal → List Refusal → Bool
among n [] = false
among n (m ∷ order) = same_refusal m n || among n order

-- some number stands twice
abbrev pub twice : List Refusal → Bool
twice [] = false
twice (n ∷ order) = among n order || twice order

-- a number that the order does not have applies in no list that follows it
absent : (n : Refusal) (order : List Refusal) (rows : List Cause) → among n order ≡ false → in_order order rows ≡ true → test_of n rows ≡ false
absent n order [] other follows = refl
absent n [] (row ∷ rows) other follows = absurd (true≢false (sym follows))
absent n (m ∷ order) (row ∷ rows) other follows =
    let apart = neither (same_refusal m n) (among n order) other in
    go (same_refusal m row.refusal) refl follows apart.0 (absent n order rows apart.1) (absent n order (row ∷ rows) apart.1)
  where
    go : (t : Bool) → same_refusal m row.refusal ≡ t → cond t (in_order order rows) (in_order order (row ∷ rows)) ≡ true → same_refusal m n ≡ false
        → (in_order order rows ≡ true → test_of n rows ≡ false) → (in_order order (row ∷ rows) ≡ true → test_of n (row ∷ rows) ≡ false)
        → test_of n (row ∷ rows) ≡ false
    go true same rest apart later all =
        let here : same_refusal row.refusal n ≡ false = rw (← same-true m row.refusal same) apart in
        rw here (later rest)
    go false different rest apart later all = all rest

module _ {A : Type 0} (refused : Refusal → A) (accepted : A) where
  none_left : (order : List Refusal) → first_of order refused [] accepted ≡ accepted
  none_left [] = refl
  none_left (n ∷ order) = none_left order

  -- a row whose number the order does not have is passed over
  passed_over :
      (order : List Refusal) (row : Cause) (rows : List Cause) → among row.refusal order ≡ false
      → first_of order refused (row ∷ rows) accepted ≡ first_of order refused rows accepted
  passed_over [] row rows other = refl
  passed_over (n ∷ order) row rows other =
      let apart = neither (same_refusal n row.refusal) (among row.refusal order) other in
      let here : same_refusal row.refusal n ≡ false = ne-same row.refusal n (λ same. same-false n row.refusal apart.0 (sym same)) in
      rw (here, passed_over order row rows apart.1)

  -- "The lowest that applies is given": the first of the order that applies, and what is accepted where none does
  pub first_is_given :
      (order : List Refusal) → twice order ≡ false → (rows : List Cause) → in_order order rows ≡ true
      → answer refused rows accepted ≡ first_of order refused rows accepted
  first_is_given order once [] follows = sym (none_left order)
  first_is_given [] once (row ∷ rows) follows = absurd (true≢false (sym follows))
  first_is_given (n ∷ order) once (row ∷ rows) follows =
      go (same_refusal n row.refusal) refl follows (first_is_given order apart.1 rows) (first_is_given order apart.1 (row ∷ rows))
    where
      apart : (among n order ≡ false) × (twice order ≡ false)
      apart = neither (among n order) (twice order) once

      own : n ≡ row.refusal → answer refused rows accepted ≡ first_of order refused rows accepted → (t : Bool) → row.applies ≡ t
          → answer refused (row ∷ rows) accepted ≡ cond row.applies (refused row.refusal) (first_of order refused (row ∷ rows) accepted)
      own same later true e = rw e
      own same later false e = rw (passed_over order row rows (rw (← same) apart.0), e) later

      go : (t : Bool) → same_refusal n row.refusal ≡ t → cond t (in_order order rows) (in_order order (row ∷ rows)) ≡ true
          → (in_order order rows ≡ true → answer refused rows accepted ≡ first_of order refused rows accepted)
          → (in_order order (row ∷ rows) ≡ true → answer refused (row ∷ rows) accepted ≡ first_of order refused (row ∷ rows) accepted)
          → answer refused (row ∷ rows) accepted ≡ first_of (n ∷ order) refused (row ∷ rows) accepted
      go true same rest later all =
          let number : n ≡ row.refusal = same-true n row.refusal same in
          let here : same_refusal row.refusal n ≡ true = eq-same row.refusal n (sym number) in
          rw (here, number) (own number (later rest) row.applies refl)
      go false different rest later all = rw (absent n order (row ∷ rows) apart.0 rest) (all rest)

  -- the same of `the_order`
  pub first_of_the_order : (rows : List Cause) → in_order the_order rows ≡ true → answer refused rows accepted ≡ first_of the_order refused rows accepted
  first_of_the_order = first_is_given the_order refl

-- and a refusal that is given applies
found_applies : {A : Type 0} (accepted : A) (order : List Refusal) (r : Refusal) (rows : List Cause) → first_of order Err rows (Ok accepted) ≡ Err r → test_of r rows ≡ true
found_applies accepted [] r rows e = absurd cc
found_applies accepted (one ∷ order) r rows e = go (test_of one rows) refl e (found_applies accepted order r rows)
  where
    go : (t : Bool) → test_of one rows ≡ t → cond t (Err one) (first_of order Err rows (Ok accepted)) ≡ Err r
        → (first_of order Err rows (Ok accepted) ≡ Err r → test_of r rows ≡ true) → test_of r rows ≡ true
    go true t here later = let same : one ≡ r = cc in rw (← same) t
    go false t there later = later there

-- So a refusal is given exactly where it applies and no row before its own does.
pub given_exactly :
    {A : Type 0} (accepted : A) (r : Refusal) (rows : List Cause) → in_order the_order rows ≡ true
    → (answer Err rows (Ok accepted) ≡ Err r) ↔ (Clear (rows_before r rows) × (test_of r rows ≡ true))
given_exactly accepted r rows follows = (
  λ e. (given_before_err accepted r rows e, found_applies accepted the_order r rows (sym (first_of_the_order Err (Ok accepted) rows follows) ∙ e)),
  λ both. given_at Err (Ok accepted) r rows both.0 both.1,
)

-- And so in whatever kind of answer that tells a refusal's number and 0 where nothing is refused.
pub given_exactly_as :
    {A : Type 0} (refused : Refusal → A) (accepted : A) (number_in : A → ℕ) → ((k : Refusal) → number_in (refused k) ≡ number k) → number_in accepted ≡ 0
    → (r : Refusal) (rows : List Cause) → in_order the_order rows ≡ true
    → (answer refused rows accepted ≡ refused r) ↔ (Clear (rows_before r rows) × (test_of r rows ≡ true))
given_exactly_as {A} refused accepted number_in tells nothing r rows follows = (there, λ both. given_at refused accepted r rows both.0 both.1)
  where
    -- a refusal that is told by its number is the one
    same : (k : Refusal) → answer refused rows accepted ≡ refused k → answer refused rows accepted ≡ refused r → k ≡ r
    same k given e = number_of_one k r (sym (tells k) ∙ ap number_in (sym given ∙ e) ∙ tells r)

    there : answer refused rows accepted ≡ refused r → Clear (rows_before r rows) × (test_of r rows ≡ true)
    there e = ⊎_elim by_none by_one (clear_or_refused {A = Result Unit Refusal} Err (Ok tt) rows)
      where
        by_none : Clear rows → Clear (rows_before r rows) × (test_of r rows ≡ true)
        by_none clear =
            let zero : 0 ≡ number r = sym nothing ∙ ap number_in (sym (otherwise_accepted refused accepted rows clear) ∙ e) ∙ tells r in
            absurd (some_number r (sym zero))

        by_one : (k : Refusal) × (answer {A = Result Unit Refusal} Err rows (Ok tt) ≡ Err k) → Clear (rows_before r rows) × (test_of r rows ≡ true)
        by_one given =
            let exactly = (given_exactly tt given.0 rows follows).0 given.1 in
            let is = same given.0 (given_at refused accepted given.0 rows exactly.0 exactly.1) e in
            subst (λ (k : Refusal). Clear (rows_before k rows) × (test_of k rows ≡ true)) is exactly

-- A number that is given applies.
pub given_applies : (r : Refusal) (rows : List Cause) → in_order the_order rows ≡ true → answer number rows 0 ≡ number r → test_of r rows ≡ true
given_applies r rows follows e = ((given_exactly_as number 0 (λ n. n) (λ k. refl) refl r rows follows).0 e).1
