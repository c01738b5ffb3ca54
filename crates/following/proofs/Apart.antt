-- Places of an accepted word at which it has not both this bit and the next set: the top of each digit, and where the sync word has a zero.
-- No run of twelve ones, such as the sync word has, can cover one of them.
-- Assumes nothing.
use Prim.Native.Nat.{ℕ, ◌+◌, ◌/◌, ◌%◌, ◌^◌, ◌<◌}
use mathlib.Core.Path.{◌≡◌, refl, sym, ◌∙◌}
use mathlib.Core.Bool.{false}
use mathlib.Core.List.{List, [], ◌∷◌, ◌++◌, map}
use native.Mathlib.Omega.{arith}
use lib.ListN.{get_or, get_or-append}
use Rattle.std.specs.Prelude.{Ok}
use Rattle.refusals.specs.declared.types.Refusal.TheVariants.{OutsideTheClock}
use Rattle.refusals.proofs.ByNumber.{clear_from}
use Rattle.bits.specs.Bits.{to_bits, some_above}
use Rattle.bits.proofs.Bit.{head_within, tail_within, length_to_bits}
use Rattle.bits.proofs.Neighbours.{Each, Digit, Small, bit_at, not_both}
use Rattle.record.specs.declared.types.Record.{Record}
use Rattle.following.proofs.Digits.{digits, small_digits}
use Rattle.modes.specs.Modes.{rate_at}
use Rattle.polarity.specs.declared.types.Found.{Found}
use Rattle.polarity.specs.Word.{reading, sync_word, word_with, info_in}
use Rattle.ltc.specs.Calls.{read_refusals, read_of}
use Rattle.trips.proofs.Words.{read_clear, whole}

-- the lower of a digit's top two bits
abbrev top : Digit → ℕ
top d = d.first + d.below

-- in the sync word, bit 65 is a zero, and so is bit 78
abbrev pub gaps : List ℕ
gaps = map top digits ++ (65 ∷ 77 ∷ [])

abbrev pub NotBoth : List ℕ → ℕ → Type 0
NotBoth word place = get_or word place 0 ≡ 1 → get_or word (place + 1) 0 ≡ 1 → ⊥

module _ (info : ℕ) where
  bit_of_word : (place : ℕ) → place < 64 → get_or (word_with info) place 0 ≡ info / 2 ^ place % 2
  bit_of_word place h =
      get_or-append (to_bits 64 info) sync_word 0 place (rw (length_to_bits 64 info) h) ∙ bit_at 64 info place h

  in_digits :
      (ds : List Digit) → Each (Small info) ds → some_above 62 (map top ds) ≡ false → (rest : List ℕ) → Each (NotBoth (word_with info)) rest
      → Each (NotBoth (word_with info)) (map top ds ++ rest)
  in_digits [] small within rest known = known
  in_digits (d ∷ ds) small within rest known =
      let low = head_within 62 (top d) (map top ds) within in
      let apart : NotBoth (word_with info) (top d) =
      λ one other. not_both info d small.0 (sym (bit_of_word (top d) (omega arith)) ∙ one) (sym (bit_of_word (top d + 1) (omega arith)) ∙ other) in
      (apart, in_digits ds small.1 (tail_within 62 (top d) (map top ds) within) rest known)

  in_sync : Each (NotBoth (word_with info)) (65 ∷ 77 ∷ [])
  unfolding to_bits sync_word
  in_sync = (λ one other. omega arith, (λ one other. omega arith, tt))

pub apart : (mode : ℕ) (r : Record) (found : Found) (word : List ℕ) → read_of mode word ≡ Ok (reading r found) → Each (NotBoth word) gaps
unfolding some_above
apart mode r found word e =
    let clear = (read_clear mode r found word e).0 in
    let small = small_digits (rate_at mode) (info_in word) (clear_from OutsideTheClock (read_refusals mode word) clear) in
    rw (whole mode word clear) (in_digits (info_in word) digits small refl (65 ∷ 77 ∷ []) (in_sync (info_in word)))
