-- What each test of the form of a packet leads to: the row of the list that applies, or that all are sound.
-- Assumes nothing.
use mathlib.Core.Path.{◌≡◌}
use mathlib.Core.Bool.{Bool, true, false, not}
use Prim.Native.Nat.{ℕ, ◌%◌}
use mathlib.Core.List.{List}
use lib.ListN.{length, get_or, take, drop}
use borrow.Author.Tests.{eq-eqb, ne_eqb}
use Rattle.std.specs.Prelude.{Err, Ok}
use Rattle.refusals.specs.declared.types.Refusal.{Refusal}
use Rattle.refusals.specs.declared.types.Refusal.TheVariants.{ElementTooHigh, LowBitsSet, UnknownMode, WrongCheck, WrongLength, WrongSync}
use Rattle.refusals.specs.Answer.{verdict_of}
use Rattle.bits.specs.Bits.{some_above}
use Rattle.modes.specs.Modes.{uncounted}
use Rattle.words.specs.Words.{wrong_word, low_set, some_word, with_opposite, sum9}
use Rattle.packets.specs.Packet.{is_headed, checksum_of}
use Rattle.packets.specs.Calls.{form_refusals}

module _ (mode : ℕ) (words : List ℕ) where
  pub wrong_size : (length words ≡ 23 → ⊥) → Err WrongLength ≡ verdict_of (form_refusals mode words)
  wrong_size other = rw (ne_eqb (length words) 23 other)

  module _ (size : length words ≡ 23) where
    pub no_mode : (r : Refusal) → (uncounted mode ≡ true) × (r ≡ UnknownMode) → Err r ≡ verdict_of (form_refusals mode words)
    no_mode r is = rw (eq-eqb (length words) 23 size, is.0, is.1)

    module _ (known : uncounted mode ≡ false) (high : Bool) (e3 : high ≡ some_above 1023 words) where
      pub high_word : high ≡ true → Err ElementTooHigh ≡ verdict_of (form_refusals mode words)
      high_word t = rw (eq-eqb (length words) 23 size, known, ← e3, t)

      module _ (low : high ≡ false) (headed : Bool) (e4 : headed ≡ is_headed mode words) where
        pub no_header : not headed ≡ true → Err WrongSync ≡ verdict_of (form_refusals mode words)
        no_header t = rw (eq-eqb (length words) 23 size, known, ← e3, low, ← e4, t)

        module _ (begun : not headed ≡ false) (wrong : Bool) (e5 : wrong ≡ some_word wrong_word (take 16 (drop 6 words))) where
          pub wrong_word_lem : wrong ≡ true → Err WrongCheck ≡ verdict_of (form_refusals mode words)
          wrong_word_lem t = rw (eq-eqb (length words) 23 size, known, ← e3, low, ← e4, begun, ← e5, t)

          module _ (right : wrong ≡ false) (sum : ℕ) (summed : sum ≡ with_opposite (sum9 (take 19 (drop 3 words)) % 512)) where
            pub wrong_sum : (get_or words 22 0 ≡ sum → ⊥) → Err WrongCheck ≡ verdict_of (form_refusals mode words)
            unfolding checksum_of
            wrong_sum other =
                rw (eq-eqb (length words) 23 size, known, ← e3, low, ← e4, begun, ← e5, right, ← summed, ne_eqb (get_or words 22 0) sum other)

            module _ (same : get_or words 22 0 ≡ sum) (set : Bool) (e6 : set ≡ some_word low_set (take 16 (drop 6 words))) where
              pub low_bits : set ≡ true → Err LowBitsSet ≡ verdict_of (form_refusals mode words)
              unfolding checksum_of
              low_bits t =
                  rw (eq-eqb (length words) 23 size, known, ← e3, low, ← e4, begun, ← e5, right, ← summed, eq-eqb (get_or words 22 0) sum same, ← e6, t)

              pub all_sound : set ≡ false → Ok tt ≡ verdict_of (form_refusals mode words)
              unfolding checksum_of
              all_sound t =
                  rw (eq-eqb (length words) 23 size, known, ← e3, low, ← e4, begun, ← e5, right, ← summed, eq-eqb (get_or words 22 0) sum same, ← e6, t)
