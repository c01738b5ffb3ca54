-- `modes::table::high_row_of` meets its contract: 2, and else the mode's row.
-- Assumes nothing.
use mathlib.Core.Path.{◌≡◌, refl, ◌∙◌}
use mathlib.Core.Bool.{Bool, true, false, not, true≢false}
use Prim.Native.Nat.{ℕ}
use Rattle.std.specs.Prelude.{Result, Err}
use Rattle.refusals.specs.declared.types.Refusal.TheVariants.{UnknownMode}
use Rattle.pictures.specs.declared.types.Counting.{Counting}
use Rattle.refusals.specs.declared.types.Refusal.{Refusal}
use Rattle.modes.specs.Modes.{unknown, uncounted, high_rate, counting_of, high_row_of}
use Rattle.modes.proofs.table.high_row_of.Goals as goal

module _ (mode : ℕ) (high : Bool) (asked : high ≡ high_rate mode) where
  no_mode : not high ≡ true → Err UnknownMode ≡ high_row_of mode
  unfolding high_row_of
  no_mode e = rw (← asked, e)

  -- a mode of a high frame rate is counted
  known : not high ≡ false → (given : Result Counting Refusal) → given ≡ counting_of mode → given ≡ high_row_of mode
  unfolding high_row_of counting_of high_rate
  known e given told = told ∙ go (unknown mode) (uncounted mode) refl refl
    where
      go : (s t : Bool) → unknown mode ≡ s → uncounted mode ≡ t → counting_of mode ≡ high_row_of mode
      go true false s t = rw (s, t)
      go true true s t = let none : high ≡ false = asked ∙ rw (s, t) in absurd (true≢false (rw none at e))
      go false t s _ = let none : high ≡ false = asked ∙ rw s in absurd (true≢false (rw none at e))

pub returns-then-not-is_high_rate : goal.returns-then-not-is_high_rate
returns-then-not-is_high_rate c = search no_mode

pub returns : goal.returns
returns c = search known
