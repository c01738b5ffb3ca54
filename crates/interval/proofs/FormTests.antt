-- What each test of the form of a line leads to: the row of the list that applies, or that all are sound.
-- Assumes nothing.
use mathlib.Core.Path.{◌≡◌}
use mathlib.Core.Bool.{Bool, true, false}
use Prim.Native.Nat.{ℕ}
use mathlib.Core.List.{List}
use lib.ListN.{length}
use borrow.Author.Tests.{eq-eqb, ne_eqb}
use Rattle.std.specs.Prelude.{Err, Ok}
use Rattle.refusals.specs.declared.types.Refusal.{Refusal}
use Rattle.refusals.specs.declared.types.Refusal.TheVariants.{ElementTooHigh, UnknownMode, WrongCheck, WrongLength, WrongSync}
use Rattle.refusals.specs.Answer.{verdict_of}
use Rattle.bits.specs.Bits.{some_above}
use Rattle.modes.specs.Modes.{unknown}
use Rattle.interval.specs.Line.{wrong_pair, wrong_crc}
use Rattle.interval.specs.Calls.{form_refusals}

module _ (mode : ℕ) (line : List ℕ) where
  pub bad_length : (length line ≡ 90 → ⊥) → Err WrongLength ≡ verdict_of (form_refusals mode line)
  bad_length other = rw (ne_eqb (length line) 90 other)

  module _ (long : length line ≡ 90) where
    pub no_mode : (r : Refusal) → (unknown mode ≡ true) × (r ≡ UnknownMode) → Err r ≡ verdict_of (form_refusals mode line)
    no_mode r is = rw (eq-eqb (length line) 90 long, is.0, is.1)

    module _ (known : unknown mode ≡ false) (high : Bool) (e3 : high ≡ some_above 1 line) where
      pub too_high : high ≡ true → Err ElementTooHigh ≡ verdict_of (form_refusals mode line)
      too_high t = rw (eq-eqb (length line) 90 long, known, ← e3, t)

      module _ (low : high ≡ false) (pair : Bool) (e4 : pair ≡ wrong_pair line) where
        pub bad_pair : pair ≡ true → Err WrongSync ≡ verdict_of (form_refusals mode line)
        bad_pair t = rw (eq-eqb (length line) 90 long, known, ← e3, low, ← e4, t)

        module _ (paired : pair ≡ false) (check : Bool) (e5 : check ≡ wrong_crc line) where
          pub bad_check : check ≡ true → Err WrongCheck ≡ verdict_of (form_refusals mode line)
          bad_check t = rw (eq-eqb (length line) 90 long, known, ← e3, low, ← e4, paired, ← e5, t)

          pub all_sound : check ≡ false → Ok tt ≡ verdict_of (form_refusals mode line)
          all_sound t = rw (eq-eqb (length line) 90 long, known, ← e3, low, ← e4, paired, ← e5, t)
