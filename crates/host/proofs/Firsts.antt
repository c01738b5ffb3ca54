-- Where a byte stands for nothing, 3 or what comes before it is given; where each stands for something, the rows before 3 are the first of the call's own list, and the call answers.
-- Assumes nothing.
use Prim.Native.Nat.{ℕ, zero, suc}
use mathlib.Core.Path.{◌≡◌, refl, ap, sym, ◌∙◌}
use mathlib.Core.Bool.{Bool, true, false, ◌||◌, cond}
use mathlib.Core.List.{List, [], ◌∷◌, ◌++◌}
use lib.ListN.{take}
use Rattle.refusals.proofs.Same.{same-true}
use Rattle.refusals.specs.Table.{same_refusal}
use Rattle.refusals.specs.declared.types.Refusal.{Refusal}
use Rattle.refusals.specs.declared.types.Refusal.TheVariants.{ElementTooHigh}
use Rattle.refusals.specs.Answer.{Cause, ◌when◌, answer}
use Rattle.refusals.proofs.Answered.{carried}
use Rattle.host.specs.Unnamed.{then_unnamed}

module _ {A : Type 0} (refused : Refusal → A) where
  -- a list in two parts: the first part answers, or else the second
  pub in_two :
      (front back : List Cause) (accepted : A)
      → answer refused (front ++ back) accepted ≡ answer refused front (answer refused back accepted)
  in_two [] back accepted = refl
  in_two (row ∷ front) back accepted = ap (cond row.applies (refused row.refusal)) (in_two front back accepted)

  -- the same rows asked twice
  twice : (rows : List Cause) (accepted : A) → answer refused rows (answer refused rows accepted) ≡ answer refused rows accepted
  twice [] accepted = refl
  twice (row ∷ rows) accepted = go row.applies (twice rows accepted)
    where
      go :
          (t : Bool) → answer refused rows (answer refused rows accepted) ≡ answer refused rows accepted
          → cond t (refused row.refusal) (answer refused rows (cond t (refused row.refusal) (answer refused rows accepted)))
          ≡ cond t (refused row.refusal) (answer refused rows accepted)
      go true rest = refl
      go false rest = rest

  pub unnamed :
      (before : List Cause) (none : Bool) (answered : A) (k : Refusal) → none ≡ true → k ≡ answer (λ (r : Refusal). r) before ElementTooHigh
      → refused k ≡ answer refused (then_unnamed before none) answered
  unnamed before none answered k e is =
      rw e
      (ap refused is
      ∙ (carried refused (λ (r : Refusal). r) ElementTooHigh before
      ∙ sym (in_two before ((ElementTooHigh when true) ∷ []) answered)))

  -- then what the call would have answered is not asked
  pub unasked : (before : List Cause) (x y : A) → answer refused (then_unnamed before true) x ≡ answer refused (then_unnamed before true) y
  unasked before x y = in_two before ((ElementTooHigh when true) ∷ []) x ∙ sym (in_two before ((ElementTooHigh when true) ∷ []) y)

  pub named :
      (before rest rows : List Cause) → rows ≡ before ++ rest → (none : Bool) (accepted answered : A) → none ≡ false
      → answered ≡ answer refused rows accepted → answered ≡ answer refused (then_unnamed before none) answered
  named before rest rows begins none accepted answered e is =
      let whole : answered ≡ answer refused before (answer refused rest accepted) =
      is ∙ (ap (λ list. answer refused list accepted) begins ∙ in_two before rest accepted) in
      rw e
      (whole
      ∙ (sym (twice before (answer refused rest accepted))
      ∙ (ap (answer refused before) (sym whole) ∙ sym (in_two before ((ElementTooHigh when false) ∷ []) answered))))

-- a list with 3 where a byte stands for nothing, behind so many rows: in the row of 3, where the list has one there
abbrev pub with_three : ℕ → Bool → List Cause → List Cause
with_three zero none [] = (ElementTooHigh when none) ∷ []
with_three zero none (row ∷ rows) =
    cond (same_refusal row.refusal ElementTooHigh) ((ElementTooHigh when (none || row.applies)) ∷ rows) ((ElementTooHigh when none) ∷ row ∷ rows)
with_three (suc n) none [] = (ElementTooHigh when none) ∷ []
with_three (suc n) none (row ∷ rows) = row ∷ with_three n none rows

-- the rows before 3, 3, and else the call: that is one list
module _ {A : Type 0} (refused : Refusal → A) (none : Bool) (accepted : A) where
  pub one_list :
      (n : ℕ) (rows : List Cause)
      → answer refused (then_unnamed (take n rows) none) (answer refused rows accepted) ≡ answer refused (with_three n none rows) accepted
  one_list zero [] = refl
  one_list zero (row ∷ rows) = go (same_refusal row.refusal ElementTooHigh) refl none row.applies
    where
      go :
          (t : Bool) → same_refusal row.refusal ElementTooHigh ≡ t → (none applies : Bool)
          → cond none (refused ElementTooHigh) (cond applies (refused row.refusal) (answer refused rows accepted))
          ≡ answer refused
          (cond t ((ElementTooHigh when (none || applies)) ∷ rows) ((ElementTooHigh when none) ∷ (row.refusal when applies) ∷ rows))
          accepted
      go true e true applies = refl
      go true e false true = ap refused (same-true row.refusal ElementTooHigh e)
      go true e false false = refl
      go false e none applies = refl
  one_list (suc n) [] = refl
  one_list (suc n) (row ∷ rows) = go row.applies (one_list n rows)
    where
      go :
          (t : Bool) → answer refused (then_unnamed (take n rows) none) (answer refused rows accepted) ≡ answer refused (with_three n none rows) accepted
          → cond t (refused row.refusal)
          (answer refused (then_unnamed (take n rows) none) (cond t (refused row.refusal) (answer refused rows accepted)))
          ≡ cond t (refused row.refusal) (answer refused (with_three n none rows) accepted)
      go true rest = refl
      go false rest = rest
