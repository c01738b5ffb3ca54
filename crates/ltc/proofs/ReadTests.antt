-- What each test of a read leads to: the row of the list that applies, or what the information bits are heard as.
-- Assumes nothing.
use mathlib.Core.Path.{◌≡◌, ap, sym, ◌∙◌}
use mathlib.Core.Bool.{true, false, or-true}
use Prim.Native.Nat.{ℕ}
use mathlib.Core.List.{List}
use native.Mathlib.Omega.{arith}
use lib.ListN.{length, take, drop}
use lib.Seq.{take_all}
use borrow.Author.Tests.{eq-eqb, ne_eqb}
use Rattle.std.specs.Prelude.{Err, Result}
use Rattle.refusals.specs.declared.types.Refusal.TheVariants.{ElementTooHigh, WrongLength, WrongSync}
use Rattle.polarity.specs.declared.types.Word.{Word}
use Rattle.refusals.specs.declared.types.Refusal.{Refusal}
use Rattle.bits.specs.Bits.{value, some_above}
use Rattle.std.proofs.Common.{Result, Ok}
use Rattle.runs.specs.declared.types.NoNumber.{NoNumber}
use Rattle.runs.specs.Gather.{gathered_of}
use Rattle.runs.specs.Run.{same}
use Rattle.runs.proofs.Same.{same_itself, gathered_is, not_gathered}
use Rattle.rates.specs.declared.types.Rate.{Rate}
use Rattle.modes.specs.Modes.{unknown, rate_at, rated_of}
use Rattle.modes.proofs.ByRate.{rate_told, rate_refused}
use Rattle.polarity.specs.Word.{sync_word, odd_zeros, miscorrected}
use Rattle.polarity.specs.Heard.{heard_of}
use Rattle.ltc.specs.Calls.{read_of}
use Rattle.ltc.proofs.Sync.{low_length, high_length, above_in_parts, sync_by_number, other_sync, word_is}

-- an answer that is not the first of its cases, as the `else` of a `let` is told it
abbrev Another : Result ℕ NoNumber → Type 0
Another answer = (n : ℕ) → answer ≡ Ok n → ⊥

module _ (mode : ℕ) (word : List ℕ) where
  pub wrong_size : (length word ≡ 80 → ⊥) → Err WrongLength ≡ read_of mode word
  unfolding read_of
  wrong_size other = rw (ne_eqb (length word) 80 other)

  module _ (long : length word ≡ 80) (rated : Result Rate Refusal) (asked : rated ≡ rated_of mode) where
    pub no_mode : (r : Refusal) → rated ≡ Err r → Err r ≡ read_of mode word
    unfolding read_of
    no_mode r e = let is = rate_refused mode rated asked r e in rw (eq-eqb (length word) 80 long, is.0, is.1)

    module _
        (rate : Rate) (within : rated ≡ Ok rate) (low high : Result ℕ NoNumber)
        (first : low ≡ gathered_of (take 64 word)) (last : high ≡ gathered_of (take 16 (drop 64 word))) where
      known : unknown mode ≡ false
      known = (rate_told mode rated asked rate within).0

      high_part : take 16 (drop 64 word) ≡ drop 64 word
      high_part = take_all 16 (drop 64 word) (omega (arith, high_length word long))

      pub no_bit_low : Another low → Err ElementTooHigh ≡ read_of mode word
      unfolding read_of
      no_bit_low e =
          let above = not_gathered (take 64 word) (omega (arith, low_length word long)) (λ n is. e n (first ∙ is)) in
          rw (eq-eqb (length word) 80 long, known, above_in_parts word long, above)

      pub no_bit_high : Another high → Err ElementTooHigh ≡ read_of mode word
      unfolding read_of
      no_bit_high e =
          let above = not_gathered (drop 64 word) (omega (arith, high_length word long)) (λ n is. e n (last ∙ ap gathered_of high_part ∙ is)) in
          rw (eq-eqb (length word) 80 long, known, above_in_parts word long, above, or-true (some_above 1 (take 64 word)))

      module _ (info sync : ℕ) (is_low : low ≡ Ok info) (is_high : high ≡ Ok sync) where
        low_is : (some_above 1 (take 64 word) ≡ false) × (info ≡ value (take 64 word))
        low_is = gathered_is (take 64 word) info (sym first ∙ is_low)

        high_is : (some_above 1 (drop 64 word) ≡ false) × (sync ≡ value (drop 64 word))
        high_is = gathered_is (drop 64 word) sync (ap gathered_of (sym high_part) ∙ sym last ∙ is_high)

        clean : some_above 1 word ≡ false
        clean = above_in_parts word long ∙ rw (low_is.0, high_is.0)

        pub another_sync : (sync ≡ 0xbffc → ⊥) → Err WrongSync ≡ read_of mode word
        unfolding read_of
        another_sync other =
            rw (
              eq-eqb (length word) 80 long,
              known,
              clean,
              other_sync word long low_is.0 high_is.0 (λ e. other (high_is.1 ∙ e)),
            )

        pub heard : sync ≡ 0xbffc → (w : Result Word Refusal) → w ≡ heard_of mode info → w ≡ read_of mode word
        unfolding read_of heard_of
        heard e w told =
            let whole = word_is word long low_is.0 high_is.0 (sym high_is.1 ∙ e) in
            let seen : same (drop 64 word) sync_word ≡ true =
            rw (sync_by_number word long low_is.0 high_is.0 (sym high_is.1 ∙ e)) (same_itself sync_word) in
            let wrong = ap (miscorrected (rate_at mode)) whole in
            let odd = ap odd_zeros whole in
            told ∙ rw (low_is.1, eq-eqb (length word) 80 long, known, clean, seen, wrong, odd)
