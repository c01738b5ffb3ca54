-- A word that is made corrected has even zeros; and what is found in a word says which of the two values of its polarity bit was made.
-- Assumes nothing.
use Prim.Native.Nat.{ℕ, ◌+◌, ◌-◌, ◌%◌, ◌^◌, ◌<◌}
use mathlib.Core.Path.{◌≡◌, refl, sym, ◌∙◌}
use mathlib.Core.Bool.{Bool, true, false, ◌&&◌, and-false, true≢false}
use mathlib.Core.List.{List}
use native.Mathlib.Omega.{arith}
use lib.Count.{ones as counted, ones-le}
use borrow.Author.Tests.{eqb-true, eqb-false, eq-eqb, ne_eqb}
use Rattle.rates.specs.declared.types.Rate.{Rate}
use Rattle.rates.specs.declared.types.Flag.{Flag}
use Rattle.rates.specs.declared.types.Flag.TheVariants.{No, Yes}
use Rattle.rates.specs.Rates.{is_yes}
use Rattle.record.specs.declared.types.Record.{Record}
use Rattle.layout.specs.Layout.{layout}
use Rattle.record.specs.Record.{fields_of, info_of, marked}
use Rattle.record.proofs.Accepted.{Writable}
use Rattle.layout.proofs.Fields.{all_ones, ones_join}
use Rattle.record.proofs.Marks.{fields_below, info_below, one_bit}
use Rattle.modes.specs.Modes.{rate_at}
use Rattle.modes.specs.Calls.{information_in}
use Rattle.polarity.specs.declared.types.Found.{Found}
use Rattle.polarity.specs.declared.types.Found.TheVariants.{Corrected, Uncorrected}
use Rattle.polarity.specs.Word.{word_with, odd_zeros, found_in, made}
use Rattle.polarity.proofs.Zeros.{odd_by_count}

module _ (rate : Rate) (r : Record) (fits : Writable r.address r.groups) where
  of_fields : (mark : Flag) → counted (info_of rate (marked mark r)) ≡ all_ones (fields_of rate (marked mark r))
  unfolding info_of
  of_fields mark = ones_join layout (fields_of rate (marked mark r)) (fields_below rate (marked mark r) fits)

  -- the mark adds one to the count of ones
  pub mark_counts : counted (info_of rate (marked Yes r)) ≡ counted (info_of rate (marked No r)) + 1
  unfolding fields_of counted
  mark_counts = omega (arith, one_bit (λ place b. counted b) rate r, of_fields Yes, of_fields No)

-- what is found uncorrected has odd zeros
pub odd_found : (word : List ℕ) → found_in word ≡ Uncorrected → odd_zeros word ≡ true
odd_found word e = go (odd_zeros word) refl
  where
    go : (odd : Bool) → odd_zeros word ≡ odd → odd_zeros word ≡ true
    go true o = o
    go false o = let even : Corrected ≡ Uncorrected = rw o at e in let z : ◌≡◌ {A = ℕ} 0 1 = cc in absurd (omega arith)

-- one more one turns the zeros about
turned : (a b : ℕ) → a < 2 ^ 64 → b < 2 ^ 64 → counted a ≡ counted b + 1 → odd_zeros (word_with b) ≡ true → odd_zeros (word_with a) ≡ false
turned a b ha hb more odd =
    let was : (67 - counted b) % 2 ≡ 1 = eqb-true _ _ (odd_by_count b hb ∙ odd) in
    sym (odd_by_count a ha) ∙ ne_eqb ((67 - counted a) % 2) 1 (omega (arith, ones-le 64 a ha, ones-le 64 b hb))

turned_back : (a b : ℕ) → a < 2 ^ 64 → b < 2 ^ 64 → counted a ≡ counted b + 1 → odd_zeros (word_with a) ≡ false → odd_zeros (word_with b) ≡ true
turned_back a b ha hb more even =
    let was : (67 - counted a) % 2 ≡ 1 → ⊥ = eqb-false _ _ (odd_by_count a ha ∙ even) in
    sym (odd_by_count b hb) ∙ eq-eqb ((67 - counted b) % 2) 1 (omega (arith, ones-le 64 a ha, ones-le 64 b hb))

module _ (mode : ℕ) (r : Record) (fits : Writable r.address r.groups) where
  -- the information bits with the polarity bit 0, and with it set
  abbrev clear : ℕ
  clear = information_in mode (marked No r)

  abbrev set : ℕ
  set = information_in mode (marked Yes r)

  low : (mark : Flag) → information_in mode (marked mark r) < 2 ^ 64
  low mark = info_below (rate_at mode) (marked mark r) fits

  -- a word that is made corrected is found so
  pub evened : odd_zeros (word_with (made Corrected clear set)) ≡ false
  evened = go (odd_zeros (word_with clear)) refl
    where
      go : (odd : Bool) → odd_zeros (word_with clear) ≡ odd → odd_zeros (word_with (made Corrected clear set)) ≡ false
      go true e = rw e (turned set clear (low Yes) (low No) (mark_counts (rate_at mode) r fits) e)
      go false e = rw e e

  -- the mark that a word of the record has: no, or else its zeros are even
  pub polarity :
      (make : Found)
      → (mark : Flag) × (made make clear set ≡ information_in mode (marked mark r)) × ((odd_zeros (word_with (made make clear set)) && is_yes mark) ≡ false)
  polarity Uncorrected = (No, refl, and-false (odd_zeros (word_with clear)))
  polarity Corrected = ((mark (odd_zeros (word_with clear)) refl).0, (mark (odd_zeros (word_with clear)) refl).1, rw evened)
    where
      mark : (odd : Bool) → odd_zeros (word_with clear) ≡ odd → (mark : Flag) × (made Corrected clear set ≡ information_in mode (marked mark r))
      mark true e = (Yes, rw e)
      mark false e = (No, rw e)

  -- a word that differs from the record's words in its mark at most, and is not refused by 5, is the one that is made by what is found in it
  pub only_polarity :
      (n : ℕ) (mark : Flag) → information_in mode (marked mark r) ≡ n → (odd_zeros (word_with n) && is_yes mark) ≡ false
      → made (found_in (word_with n)) clear set ≡ n
  only_polarity n mark e right = go (odd_zeros (word_with n)) refl mark e right
    where
      go : (odd : Bool) → odd_zeros (word_with n) ≡ odd → (mark : Flag) → information_in mode (marked mark r) ≡ n → (odd && is_yes mark) ≡ false
          → made (found_in (word_with n)) clear set ≡ n
      go true o No e right = rw o e
      go true o Yes e right = absurd (true≢false right)
      go false o No e right =
          let already : odd_zeros (word_with clear) ≡ false = rw e o in
          rw (o, already) e
      go false o Yes e right =
          let even : odd_zeros (word_with set) ≡ false = rw e o in
          let odd : odd_zeros (word_with clear) ≡ true = turned_back set clear (low Yes) (low No) (mark_counts (rate_at mode) r fits) even in
          rw (o, odd) e
