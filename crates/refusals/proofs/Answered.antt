-- "No refusal is given otherwise": what a list of refusals answers where it is clear, and where it is not.
-- Assumes nothing.
use Prim.Native.Nat.{ℕ, ◌<◌}
use mathlib.Core.Path.{◌≡◌, refl, ◌∙◌, sym}
use mathlib.Core.Bool.{Bool, true, false, ◌||◌, cond, true≢false}
use mathlib.Core.List.{List, [], ◌∷◌}
use mathlib.Core.Logic.{◌⊎◌, inl, inr, ⊎_elim}
use Rattle.refusals.specs.declared.types.Refusal.{Refusal}
use Rattle.refusals.specs.Table.{number}
use Rattle.refusals.specs.Answer.{Cause, answer}

-- no test of the list holds
abbrev pub Clear : List Cause → Type 0
Clear [] = Unit {0}
Clear (row ∷ rows) = (row.applies ≡ false) × Clear rows

-- every number of the list is below the limit
abbrev pub Under : ℕ → List Cause → Type 0
Under limit [] = Unit {0}
Under limit (row ∷ rows) = (number row.refusal < limit) × Under limit rows

-- where one of two tests or the other would be refused, and nothing is, neither holds
pub neither : (s t : Bool) → (s || t) ≡ false → (s ≡ false) × (t ≡ false)
neither true t e = absurd (true≢false e)
neither false t e = (refl, e)

module _ {A : Type 0} (refused : Refusal → A) (accepted : A) where
  -- "No refusal is given otherwise": where none applies, what is accepted is the answer, and only there
  pub otherwise_accepted : (rows : List Cause) → Clear rows → answer refused rows accepted ≡ accepted
  otherwise_accepted [] clear = refl
  otherwise_accepted (row ∷ rows) clear = rw clear.0 (otherwise_accepted rows clear.1)

  pub accepted_only : (rows : List Cause) → ((n : Refusal) → answer refused rows accepted ≡ refused n → ⊥) → Clear rows
  accepted_only [] none = tt
  accepted_only (row ∷ rows) none = go row.applies refl (accepted_only rows)
    where
      go : (t : Bool) → row.applies ≡ t → (((n : Refusal) → answer refused rows accepted ≡ refused n → ⊥) → Clear rows) → Clear (row ∷ rows)
      go true e rest = absurd (none row.refusal (rw e))
      go false e rest = (e, rest (λ n same. none n (rw e same)))

  -- a list is clear, or a refusal is given
  pub clear_or_refused : (rows : List Cause) → Clear rows ⊎ ((n : Refusal) × (answer refused rows accepted ≡ refused n))
  clear_or_refused [] = inl tt
  clear_or_refused (row ∷ rows) = go row.applies refl (clear_or_refused rows)
    where
      go : (t : Bool) → row.applies ≡ t → Clear rows ⊎ ((n : Refusal) × (answer refused rows accepted ≡ refused n))
          → Clear (row ∷ rows) ⊎ ((n : Refusal) × (answer refused (row ∷ rows) accepted ≡ refused n))
      go true e rest = inr (row.refusal, rw e)
      go false e (inl clear) = inl (e, clear)
      go false e (inr given) = inr (given.0, rw e given.1)

  -- an answer that is no refusal is what is accepted
  pub accepted_as :
      (rows : List Cause) (given : A) → ((n : Refusal) → refused n ≡ given → ⊥) → answer refused rows accepted ≡ given
      → Clear rows × (accepted ≡ given)
  accepted_as rows given apart e =
      let clear = accepted_only rows (λ n same. apart n (sym same ∙ e)) in
      (clear, sym (otherwise_accepted rows clear) ∙ e)

-- where a list is not clear, what is the same for every number is given
pub kept : {A : Type 0} (same accepted : A) (rows : List Cause) → (Clear rows → ⊥) → answer (λ (n : Refusal). same) rows accepted ≡ same
kept same accepted rows some = ⊎_elim (λ clear. absurd (some clear)) (λ given. given.1) (clear_or_refused (λ (n : Refusal). same) accepted rows)

-- an answer that is carried over to another kind of answer lists the same refusals
pub carried :
    {A B : Type 0} (f : A → B) (refused : Refusal → A) (accepted : A) (rows : List Cause)
    → f (answer refused rows accepted) ≡ answer (λ (n : Refusal). f (refused n)) rows (f accepted)
carried f refused accepted [] = refl
carried f refused accepted (row ∷ rows) = go row.applies (carried f refused accepted rows)
  where
    go : (t : Bool) → f (answer refused rows accepted) ≡ answer (λ (n : Refusal). f (refused n)) rows (f accepted)
        → f (cond t (refused row.refusal) (answer refused rows accepted))
        ≡ cond t (f (refused row.refusal)) (answer (λ (n : Refusal). f (refused n)) rows (f accepted))
    go true rest = refl
    go false rest = rest

-- the number that is given stands in the list
pub given_below : (limit : ℕ) → 0 < limit → (rows : List Cause) → Under limit rows → answer number rows 0 < limit
given_below limit some [] under = some
given_below limit some (row ∷ rows) under = go row.applies (given_below limit some rows under.1)
  where
    go : (t : Bool) → answer number rows 0 < limit → cond t (number row.refusal) (answer number rows 0) < limit
    go true rest = under.0
    go false rest = rest
