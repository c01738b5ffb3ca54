-- What a fold over elements tells is what the definitions tell.
-- Assumes nothing.
use Prim.Native.Nat.{ℕ}
use mathlib.Core.Path.{◌≡◌, refl, sym, ◌∙◌}
use mathlib.Core.Bool.{Bool, false, not, ◌||◌, true}
use mathlib.Core.List.{List, [], ◌∷◌}
use lib.Dec.{ltb, eqb}
use Rattle.std.specs.List.{fold}
use Rattle.bits.specs.Bits.{some_above}
use Rattle.interval.specs.Line.{each, some_below, wrong_crc}
use Rattle.interval.proofs.Pass.{odds_of}
use Rattle.interval.proofs.Unstopped.{Unstopped, pass_begins, pass_turns, pass_ends}

module _ (whole : Bool) where
  -- what is still to come tells of the whole
  abbrev Ahead : List ℕ → Type 0
  Ahead line = some_above 1 line ≡ whole

  one_high : (high : Bool) (element : ℕ) (line : List ℕ) → Unstopped high whole (Ahead (element ∷ line)) → ltb 1 element ≡ true → whole ≡ true
  unfolding some_above
  one_high true element line u e = u.found refl
  one_high false element line u e = sym (u.none refl) ∙ rw e

  high_from : (high : Bool) (line : List ℕ) → Unstopped high whole (Ahead line) → fold (λ high element. high || ltb 1 element) high line ≡ whole
  unfolding some_above
  high_from high [] u = pass_ends whole high u sym
  high_from high (element ∷ line) u =
      high_from (high || ltb 1 element) line (pass_turns whole high (ltb 1 element) u (one_high high element line u) (λ e ahead. rw e at ahead))

pub high_told : (line : List ℕ) → fold (λ high element. high || ltb 1 element) false line ≡ some_above 1 line
high_told line = high_from (some_above 1 line) false line (pass_begins (some_above 1 line) refl)

-- eight counts, one after the other
pub crc_told : (line : List ℕ) → fold (λ wrong odd. wrong || not (eqb odd 0)) false (odds_of line) ≡ wrong_crc line
unfolding each some_below wrong_crc
crc_told line = refl
