-- "The count is of the steps in which the single-bit rule takes a bit": for every reader, limit and run, the bad ones too.
-- Assumes nothing.
use Prim.Native.Nat.{ℕ, zero, suc, ◌+◌, ◌-◌}
use mathlib.Core.Path.{◌≡◌, refl, sym, ap, ◌∙◌}
use mathlib.Core.Bool.{Bool, true, false, true≢false}
use mathlib.Core.List.{List, [], ◌∷◌}
use native.Mathlib.Numerals.{add-one}
use native.Mathlib.Omega.{arith}
use lib.Dec.{ltb, eqb}
use lib.ListN.{take}
use borrow.Author.Tests.{ne_eqb}
use Rattle.modes.specs.Modes.{unknown}
use Rattle.register.specs.declared.types.Reader.{Reader}
use Rattle.register.specs.Held.{unreached}
use Rattle.reader.specs.Steps.{stepped_of}
use Rattle.reader.specs.Blocks.{is_answer, going, blocked_of}
use Rattle.following.specs.Counting.{takes_bit, steps_taking, up_to_answer}
use Rattle.reader.specs.Feeding.{Passing}
use Rattle.following.proofs.Passing.{step_passing, passing_goes}

takes : (r : Reader) (element : ℕ) → Passing r → ltb 1 element ≡ false → takes_bit r element ≡ true
takes r element p small = rw (p.known, p.passes, small)

-- a step that does not take its bit answers why
untaken_answers : (r : Reader) (element : ℕ) → takes_bit r element ≡ false → is_answer (stepped_of r element).heard ≡ true
unfolding stepped_of
untaken_answers r element none = go (unknown r.mode) refl (unreached r) refl (ltb 1 element) refl
  where
    go : (m : Bool) → unknown r.mode ≡ m → (s : Bool) → unreached r ≡ s → (h : Bool) → ltb 1 element ≡ h → is_answer (stepped_of r element).heard ≡ true
    go false m false t false e = absurd (true≢false (simp (m, t, e) at none))
    go false m false t true e = simp (m, t, e)
    go false m true t h e = simp (m, t)
    go true m false t h e = simp (m, t)
    go true m true t h e = simp (m, t)

high_untaken : (r : Reader) (element : ℕ) → Passing r → ltb 1 element ≡ true → takes_bit r element ≡ false
high_untaken r element p high = rw (p.known, p.passes, high)

module _ (r : Reader) (never : (element : ℕ) → takes_bit r element ≡ false) where
  none_taken : (run : List ℕ) → steps_taking r (up_to_answer r run) ≡ 0
  unfolding steps_taking up_to_answer
  none_taken [] = refl
  none_taken (element ∷ elements) = rw (never element, untaken_answers r element (never element))

-- from a reader whose mode and state are sound: in the steps up to its stop
going_counts : (run : List ℕ) (r : Reader) (limit : ℕ) → Passing r → steps_taking r (up_to_answer r (take limit run)) ≡ (going r limit run).taken
unfolding going steps_taking up_to_answer
going_counts [] r zero p = refl
going_counts [] r (suc limit) p = refl
going_counts (element ∷ elements) r zero p = refl
going_counts (element ∷ elements) r (suc limit) p =
    go (ltb 1 element) refl (is_answer (stepped_of r element).heard) refl (going_counts elements (stepped_of r element).reader limit (step_passing r element p))
  where
    next : Reader
    next = (stepped_of r element).reader

    some : eqb (suc limit) 0 ≡ false
    some = ne_eqb (suc limit) 0 (omega arith)

    go : (h : Bool) → ltb 1 element ≡ h → (a : Bool) → is_answer (stepped_of r element).heard ≡ a
        → steps_taking next (up_to_answer next (take limit elements)) ≡ (going next limit elements).taken
        → steps_taking r (up_to_answer r (take (suc limit) (element ∷ elements))) ≡ (going r (suc limit) (element ∷ elements)).taken
    go true e a f rest = let none = high_untaken r element p e in rw (none, untaken_answers r element none, some, e)
    go false e true f rest = rw (takes r element p e, f, some, e)
    go false e false f rest =
        let t = (going next limit elements).taken in
        let more : 1 + t ≡ t + 1 = omega arith in
        let less : suc limit - 1 ≡ limit = omega arith in
        rw (takes r element p e, f, some, e, less) (ap (λ (n : ℕ). 1 + n) rest ∙ more)

-- and in the steps of the bits that it took
going_took : (run : List ℕ) (r : Reader) (limit : ℕ) → Passing r → steps_taking r (take (going r limit run).taken run) ≡ (going r limit run).taken
unfolding going steps_taking
going_took [] r limit p = refl
going_took (element ∷ elements) r limit p =
    go (eqb limit 0) refl (ltb 1 element) refl (is_answer (stepped_of r element).heard) refl
    (going_took elements (stepped_of r element).reader (limit - 1) (step_passing r element p))
  where
    next : Reader
    next = (stepped_of r element).reader

    rest : ℕ
    rest = (going next (limit - 1) elements).taken

    go : (l : Bool) → eqb limit 0 ≡ l → (h : Bool) → ltb 1 element ≡ h → (a : Bool) → is_answer (stepped_of r element).heard ≡ a
        → steps_taking next (take rest elements) ≡ rest
        → steps_taking r (take (going r limit (element ∷ elements)).taken (element ∷ elements)) ≡ (going r limit (element ∷ elements)).taken
    go true l h e a f took = rw l
    go false l true e a f took = rw (l, e)
    go false l false e true f took = rw (l, e, f) (rw (takes r element p e))
    go false l false e false f took = rw (l, e, f, add-one rest) (rw (takes r element p e, took) (omega arith))

-- a reader is sound, or neither a step nor a block of it takes a bit
data Stands (r : Reader) : Type 0 where
  sound : Passing r → Stands r
  turned_away : ((element : ℕ) → takes_bit r element ≡ false) → ((limit : ℕ) (run : List ℕ) → (blocked_of r limit run).taken ≡ 0) → Stands r

stands : (r : Reader) → Stands r
unfolding blocked_of
stands r = go (unknown r.mode) refl (unreached r) refl
  where
    go : (m : Bool) → unknown r.mode ≡ m → (s : Bool) → unreached r ≡ s → Stands r
    go false m false t = sound record { known = m; passes = t }
    go false m true t = turned_away (λ element. simp (m, t)) (λ limit run. simp (m, t))
    go true m false t = turned_away (λ element. simp (m, t)) (λ limit run. simp (m, t))
    go true m true t = turned_away (λ element. simp (m, t)) (λ limit run. simp (m, t))

module _ (r : Reader) (limit : ℕ) (run : List ℕ) where
  -- the count is of the steps, at most the limit and up to the first answer, in which the single-bit rule takes a bit
  pub count_of_steps : (blocked_of r limit run).taken ≡ steps_taking r (up_to_answer r (take limit run))
  count_of_steps = go (stands r)
    where
      go : Stands r → (blocked_of r limit run).taken ≡ steps_taking r (up_to_answer r (take limit run))
      go (sound p) = rw (passing_goes r limit run p) (sym (going_counts run r limit p))
      go (turned_away never none) = none limit run ∙ sym (none_taken r never (take limit run))

  -- and they are the first so many of the run
  pub first_are_taken : steps_taking r (take (blocked_of r limit run).taken run) ≡ (blocked_of r limit run).taken
  unfolding steps_taking
  first_are_taken = go (stands r)
    where
      go : Stands r → steps_taking r (take (blocked_of r limit run).taken run) ≡ (blocked_of r limit run).taken
      go (sound p) = rw (passing_goes r limit run p) (going_took run r limit p)
      go (turned_away never none) = rw (none limit run)
