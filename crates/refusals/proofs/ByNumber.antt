-- A fact about a list of refusals is found by its number, not by its place: so that a row more moves no proof.
-- Assumes nothing.
use mathlib.Core.Path.{◌≡◌, refl, ◌∙◌, sym}
use mathlib.Core.Bool.{Bool, true, false, cond, true≢false}
use mathlib.Core.List.{List, [], ◌∷◌}
use Prim.Native.Nat.{ℕ}
use Rattle.std.specs.Prelude.{Result, Ok, Err}
use Rattle.refusals.specs.declared.types.Refusal.{Refusal}
use Rattle.refusals.specs.Table.{number, same_refusal}
use Rattle.refusals.specs.Answer.{Cause, answer, test_of}
use Rattle.refusals.proofs.Answered.{Clear}
use Rattle.refusals.proofs.Same.{number_of_one, same-true, same-false}

-- the rows from a number on, and those before it
abbrev pub rows_from : Refusal → List Cause → List Cause
rows_from n [] = []
rows_from n (row ∷ rows) = cond (same_refusal row.refusal n) (row ∷ rows) (rows_from n rows)

abbrev pub rows_before : Refusal → List Cause → List Cause
rows_before n [] = []
rows_before n (row ∷ rows) = cond (same_refusal row.refusal n) [] (row ∷ rows_before n rows)

-- in a clear list no number applies
pub clear_at : (n : Refusal) (rows : List Cause) → Clear rows → test_of n rows ≡ false
clear_at n [] clear = refl
clear_at n (row ∷ rows) clear = go (same_refusal row.refusal n) clear.0 (clear_at n rows clear.1)
  where
    go : (t : Bool) → row.applies ≡ false → test_of n rows ≡ false → cond t row.applies (test_of n rows) ≡ false
    go true this rest = this
    go false this rest = rest

-- a list in which a number applies is not clear
pub not_clear : (n : Refusal) (rows : List Cause) → test_of n rows ≡ true → Clear rows → ⊥
not_clear n rows applies clear = true≢false (sym applies ∙ clear_at n rows clear)

-- a clear list is clear from a number on, and before it; and where both are, it is
pub clear_from : (n : Refusal) (rows : List Cause) → Clear rows → Clear (rows_from n rows)
clear_from n [] clear = tt
clear_from n (row ∷ rows) clear = go (same_refusal row.refusal n) clear (clear_from n rows clear.1)
  where
    go : (t : Bool) → Clear (row ∷ rows) → Clear (rows_from n rows) → Clear (cond t (row ∷ rows) (rows_from n rows))
    go true all rest = all
    go false all rest = rest

pub clear_before : (n : Refusal) (rows : List Cause) → Clear rows → Clear (rows_before n rows)
clear_before n [] clear = tt
clear_before n (row ∷ rows) clear = go (same_refusal row.refusal n) clear.0 (clear_before n rows clear.1)
  where
    go : (t : Bool) → row.applies ≡ false → Clear (rows_before n rows) → Clear (cond t [] (row ∷ rows_before n rows))
    go true this rest = tt
    go false this rest = (this, rest)

pub clear_whole : (n : Refusal) (rows : List Cause) → Clear (rows_before n rows) → Clear (rows_from n rows) → Clear rows
clear_whole n [] before from = tt
clear_whole n (row ∷ rows) before from = go (same_refusal row.refusal n) before from (clear_whole n rows)
  where
    go :
        (t : Bool) → Clear (cond t [] (row ∷ rows_before n rows)) → Clear (cond t (row ∷ rows) (rows_from n rows))
        → (Clear (rows_before n rows) → Clear (rows_from n rows) → Clear rows) → Clear (row ∷ rows)
    go true b f rest = f
    go false b f rest = (b.0, rest b.1 f)

-- where the rows before a number are clear, the others answer
pub answer_from :
    {A : Type 0} (refused : Refusal → A) (accepted : A) (n : Refusal) (rows : List Cause) → Clear (rows_before n rows)
    → answer refused rows accepted ≡ answer refused (rows_from n rows) accepted
answer_from refused accepted n [] before = refl
answer_from refused accepted n (row ∷ rows) before = go (same_refusal row.refusal n) before (answer_from refused accepted n rows)
  where
    go :
        (t : Bool) → Clear (cond t [] (row ∷ rows_before n rows))
        → (Clear (rows_before n rows) → answer refused rows accepted ≡ answer refused (rows_from n rows) accepted)
        → answer refused (row ∷ rows) accepted ≡ answer refused (cond t (row ∷ rows) (rows_from n rows)) accepted
    go true b rest = refl
    go false b rest = rw b.0 (rest b.1)

-- where the rows before a number are clear and the number applies, it is given
pub given_at :
    {A : Type 0} (refused : Refusal → A) (accepted : A) (n : Refusal) (rows : List Cause) → Clear (rows_before n rows) → test_of n rows ≡ true
    → answer refused rows accepted ≡ refused n
given_at refused accepted n [] before applies = absurd (true≢false (sym applies))
given_at refused accepted n (row ∷ rows) before applies =
    go (same_refusal row.refusal n) refl before applies (given_at refused accepted n rows)
  where
    go :
        (t : Bool) → same_refusal row.refusal n ≡ t → Clear (cond t [] (row ∷ rows_before n rows)) → cond t row.applies (test_of n rows) ≡ true
        → (Clear (rows_before n rows) → test_of n rows ≡ true → answer refused rows accepted ≡ refused n)
        → answer refused (row ∷ rows) accepted ≡ refused n
    go true same b this rest = rw (this, same-true row.refusal n same)
    go false other b later rest = rw b.0 (rest b.1 later)

-- and where a refusal is given, in an answer that tells refusals apart, the rows before it are clear
pub given_before :
    {A : Type 0} (refused : Refusal → A) (accepted : A) → ((k m : Refusal) → refused k ≡ refused m → k ≡ m)
    → (r : Refusal) (rows : List Cause) → answer refused rows accepted ≡ refused r → Clear (rows_before r rows)
given_before refused accepted apart r [] e = tt
given_before refused accepted apart r (row ∷ rows) e = go (same_refusal row.refusal r) refl row.applies refl e (given_before refused accepted apart r rows)
  where
    go :
        (t : Bool) → same_refusal row.refusal r ≡ t → (applies : Bool) → row.applies ≡ applies
        → cond applies (refused row.refusal) (answer refused rows accepted) ≡ refused r
        → (answer refused rows accepted ≡ refused r → Clear (rows_before r rows)) → Clear (cond t [] (row ∷ rows_before r rows))
    go true same applies this given rest = tt
    go false other true this given rest = absurd (same-false row.refusal r other (apart row.refusal r given))
    go false other false this given rest = (this, rest given)

-- the same of a Result, and of the number alone
err_apart : {A : Type 0} (k m : Refusal) → ◌≡◌ {A = Result A Refusal} (Err k) (Err m) → k ≡ m
err_apart k m e = cc

pub given_before_err : {A : Type 0} (accepted : A) (r : Refusal) (rows : List Cause) → answer Err rows (Ok accepted) ≡ Err r → Clear (rows_before r rows)
given_before_err accepted r rows e = given_before Err (Ok accepted) err_apart r rows e

pub given_before_number : (r : Refusal) (rows : List Cause) → answer number rows 0 ≡ number r → Clear (rows_before r rows)
given_before_number r rows e = given_before number 0 number_of_one r rows e
