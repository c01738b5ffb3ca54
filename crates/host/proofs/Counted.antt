-- The calls that count: whatever is counted and however it is shown, a drop that is no flag is turned away, and with one that is the call answers.
-- Assumes nothing.
use Prim.Native.Nat.{ℕ}
use mathlib.Core.Path.{◌≡◌, refl, ap, sym, ◌∙◌}
use mathlib.Core.Bool.{Bool, true, false, cond}
use mathlib.Core.List.{[]}
use Rattle.std.specs.Prelude.{Result, Ok, Err}
use Rattle.std.specs.Result.{MatchResult}
use Rattle.std.proofs.lemmas.Result.{MatchResult-at_ok, MatchResult-at_err}
use Rattle.rates.specs.declared.types.Flag.{Flag}
use Rattle.layout.specs.Flags.{flag_of}
use Rattle.refusals.specs.declared.types.Refusal.{Refusal}
use Rattle.refusals.specs.Answer.{answer}
use Rattle.modes.specs.Modes.{uncounted, with_counting}
use Rattle.plain.specs.Given.{no_flag}
use Rattle.host.specs.Unnamed.{after_mode}
use Rattle.host.specs.Counting.{counted}
use Rattle.host.proofs.Firsts.{unnamed, named}

module _ {A B : Type 0} (shown : A → B) (refused : Refusal → A) (mode drop : ℕ) (none : Bool) (tested : none ≡ no_flag drop) where
  pub no_flag_lem :
      none ≡ true → (past : Bool) (k : Refusal) (answered : A) (b : B) → past ≡ uncounted mode → k ≡ after_mode past → b ≡ shown (refused k)
      → b ≡ counted shown refused mode drop answered
  no_flag_lem e past k answered b asked is told =
      told ∙ ap shown (unnamed refused (with_counting mode []) (no_flag drop) answered k (rw (← tested) e) (is ∙ ap after_mode asked))

  pub a_flag :
      none ≡ false → (accepted answered : A) (b : B) → answered ≡ answer refused (with_counting mode []) accepted → b ≡ shown answered
      → b ≡ counted shown refused mode drop answered
  a_flag e accepted answered b by told =
      told
      ∙ ap shown
      (named refused (with_counting mode []) [] (with_counting mode []) refl (no_flag drop) accepted answered (rw (← tested) e) by)

-- a call that counts with the flag that a byte stands for, and answers what was wrong with the byte where it stands for none
module _
    {T B : Type 0} (shown : Result T Refusal → B) (mode drop : ℕ) (call : Flag → Result T Refusal) (accepted : Result T Refusal)
    (begins : call (flag_of drop) ≡ answer Err (with_counting mode []) accepted) (n : Result T Refusal) (b : B) (told : b ≡ shown n) where
  pub counted_lem :
      (given : Result Flag Refusal) → given ≡ cond (no_flag drop) (Err (after_mode (uncounted mode))) (Ok (flag_of drop))
      → MatchResult given (λ f. n ≡ call f) (λ r. n ≡ Err r) → b ≡ counted shown Err mode drop (call (flag_of drop))
  counted_lem given is called = go (no_flag drop) refl is
    where
      go :
          (none : Bool) → no_flag drop ≡ none → given ≡ cond none (Err (after_mode (uncounted mode))) (Ok (flag_of drop))
          → b ≡ counted shown Err mode drop (call (flag_of drop))
      go true e is =
          let refused : n ≡ Err (after_mode (uncounted mode)) = MatchResult-at_err (λ f. n ≡ call f) (λ r. n ≡ Err r) _ is called in
          no_flag_lem shown Err mode drop true (sym e) refl (uncounted mode) _ (call (flag_of drop)) b refl refl (told ∙ ap shown refused)
      go false e is =
          let answered : n ≡ call (flag_of drop) = MatchResult-at_ok (λ f. n ≡ call f) (λ r. n ≡ Err r) _ is called in
          a_flag shown Err mode drop false (sym e) refl accepted (call (flag_of drop)) b begins (told ∙ ap shown answered)
