-- What is heard backward in a reader's register: its lower 16 places are the oldest bits, the last 16 when they are turned round.
-- Assumes nothing.
use Prim.Native.Nat.{ℕ, ◌+◌, ◌*◌, ◌/◌, ◌%◌, ◌^◌, ◌<◌, ◌≤◌}
use mathlib.Core.Path.{◌≡◌, refl, sym, ap, ap₂, ◌∙◌}
use mathlib.Core.Bool.{Bool, true, false, not, true≢false}
use mathlib.Core.List.{List, ◌++◌, reverse, reverse-append, reverse-reverse, append_assoc}
use native.Mathlib.Omega.{arith}
use lib.Dec.{ltb, eqb}
use lib.ListN.{length, take, drop, length-reverse, length-drop, take-append-drop}
use lib.Seq.{take_at, drop_at}
use borrow.Author.Tests.{eqb-true, eqb-false, ltb-true, ltb-false}
use Rattle.refusals.specs.declared.types.Refusal.TheVariants.{WrongLength, WrongSync}
use Rattle.bits.specs.Bits.{value, to_bits, AllBits}
use Rattle.bits.proofs.Bit.{length_to_bits, bits_of_number, within_reverse}
use Rattle.bits.proofs.Inverse.{value_to_bits, to_bits_value, value_below}
use Rattle.bits.proofs.Joined.{to_bits_append}
use Rattle.runs.specs.Run.{same}
use Rattle.runs.proofs.Same.{same_itself, not_same}
use Rattle.polarity.specs.Word.{sync_word, word_with}
use Rattle.polarity.specs.Heard.{heard_of}
use Rattle.ltc.specs.Calls.{read_of}
use Rattle.ltc.proofs.Parts.{read_is_heard}
use Rattle.register.specs.declared.types.Reader.{Reader}
use Rattle.register.specs.declared.types.Ways.{Ways}
use Rattle.register.specs.Held.{register, held_bits}
use Rattle.register.proofs.Registers.{register_length}
use Rattle.hearing.specs.declared.types.Heard.TheVariants.{Nothing}
use Rattle.hearing.specs.Window.{told_backward, backward_in}
use Rattle.hearing.proofs.Passed.{passed_over}
use Rattle.hearing.proofs.Upper.{short, full}

turned_sync : reverse (to_bits 16 0x3ffd) ≡ sync_word
unfolding to_bits sync_word
turned_sync = refl

module _ (r : Reader) where
  -- the oldest bits are the last when they are turned round
  last_of_turned : drop 64 (reverse (register r)) ≡ reverse (take 16 (register r))
  last_of_turned =
      let oldest = take 16 (register r) in
      let newer = drop 16 (register r) in
      ap (λ (l : List ℕ). drop 64 (reverse l)) (sym (take-append-drop 16 (register r)))
      ∙ ap (drop 64) (reverse-append oldest newer)
      ∙ drop_at (reverse newer) (reverse oldest) 64 (length-reverse newer ∙ length-drop 16 (register r) ∙ rw (register_length r))

  module _ (ways : Ways) where
    -- fewer than 80 bits: nothing
    pub short_is_passed_over : r.held < 80 → backward_in r.mode ways (held_bits r) ≡ Nothing
    unfolding backward_in
    short_is_passed_over h =
        passed_over ways r.mode WrongLength (reverse (held_bits r)) (rw (length-reverse (held_bits r)) (ap not (short r h)))

    -- 80 bits that do not begin with the sync word turned round: nothing
    pub other_is_passed_over : same (take 16 (register r)) (reverse sync_word) ≡ false → backward_in r.mode ways (held_bits r) ≡ Nothing
    unfolding backward_in
    other_is_passed_over other = go (ltb r.held 80) refl
      where
        go : (t : Bool) → ltb r.held 80 ≡ t → backward_in r.mode ways (held_bits r) ≡ Nothing
        go true e = short_is_passed_over (ltb-true r.held 80 e)
        go false e =
            let ends = ap (λ (l : List ℕ). drop 64 (reverse l)) (full r (ltb-false r.held 80 e)) ∙ last_of_turned in
            let back = reverse-reverse (take 16 (register r)) in
            let alike : drop 64 (reverse (held_bits r)) ≡ sync_word → same (take 16 (register r)) (reverse sync_word) ≡ true =
            λ s. ap (λ (l : List ℕ). same l (reverse sync_word)) (sym back ∙ ap reverse (sym ends ∙ s)) ∙ same_itself (reverse sync_word) in
            let unlike : same (drop 64 (reverse (held_bits r))) sync_word ≡ false =
            not_same (drop 64 (reverse (held_bits r))) sync_word (λ s. true≢false (sym (alike s) ∙ other)) in
            passed_over ways r.mode WrongSync (reverse (held_bits r)) (rw unlike)

-- the oldest 16, and the 64 after them
module _ (r : Reader) (low : r.info < 2 ^ 64) (high : r.sync < 2 ^ 16) where
  abbrev newer : ℕ
  newer = r.info / 0x10000 + 2 ^ 48 * r.sync

  in_parts : register r ≡ to_bits 16 (r.info % 0x10000) ++ to_bits 64 newer
  in_parts =
      let cut : r.info % 0x10000 + 2 ^ 16 * (r.info / 0x10000) ≡ r.info = omega arith in
      let lower_bits : to_bits 64 r.info ≡ to_bits 16 (r.info % 0x10000) ++ to_bits 48 (r.info / 0x10000) =
      ap (to_bits 64) (sym cut) ∙ to_bits_append 16 48 (r.info % 0x10000) (r.info / 0x10000) (omega arith) in
      let upper_bits : to_bits 64 newer ≡ to_bits 48 (r.info / 0x10000) ++ to_bits 16 r.sync =
      to_bits_append 48 16 (r.info / 0x10000) r.sync (omega arith) in
      ap (λ (l : List ℕ). l ++ to_bits 16 r.sync) lower_bits
      ∙ append_assoc (to_bits 16 (r.info % 0x10000)) (to_bits 48 (r.info / 0x10000)) (to_bits 16 r.sync)
      ∙ ap (λ (l : List ℕ). to_bits 16 (r.info % 0x10000) ++ l) (sym upper_bits)

  bottom : take 16 (register r) ≡ to_bits 16 (r.info % 0x10000)
  bottom = ap (take 16) in_parts ∙ take_at (to_bits 16 (r.info % 0x10000)) (to_bits 64 newer) 16 (length_to_bits 16 (r.info % 0x10000))

  -- the first 16 places are the sync word turned round exactly where they are this number
  pub lower : same (take 16 (register r)) (reverse sync_word) ≡ eqb (r.info % 0x10000) 0x3ffd
  lower = go (eqb (r.info % 0x10000) 0x3ffd) refl
    where
      its_bits : to_bits 16 0x3ffd ≡ reverse sync_word
      its_bits = sym (reverse-reverse (to_bits 16 0x3ffd)) ∙ ap reverse turned_sync

      go : (t : Bool) → eqb (r.info % 0x10000) 0x3ffd ≡ t → same (take 16 (register r)) (reverse sync_word) ≡ t
      go true t = rw (bottom ∙ ap (to_bits 16) (eqb-true (r.info % 0x10000) 0x3ffd t) ∙ its_bits) (same_itself (reverse sync_word))
      go false t =
          not_same (take 16 (register r)) (reverse sync_word)
          (λ s. eqb-false (r.info % 0x10000) 0x3ffd t
          (sym (value_to_bits 16 (r.info % 0x10000) (omega arith))
          ∙ ap value (sym bottom ∙ s ∙ sym its_bits)
          ∙ value_to_bits 16 0x3ffd (omega arith)))

  -- the 64 newer bits turned round, as a number
  module _ (info : ℕ) (is : info ≡ value (reverse (to_bits 64 newer))) where
    long : length (reverse (to_bits 64 newer)) ≡ 64
    long = length-reverse (to_bits 64 newer) ∙ length_to_bits 64 newer

    clean : AllBits (reverse (to_bits 64 newer))
    clean = within_reverse 1 (to_bits 64 newer) (bits_of_number 64 newer)

    again : reverse (to_bits 64 newer) ≡ to_bits 64 info
    again = sym (ap (to_bits 64) is ∙ (rw long at (to_bits_value (reverse (to_bits 64 newer)) clean)))

    below : info < 2 ^ 64
    below = rw is (rw long at (value_below (reverse (to_bits 64 newer)) clean))

    module _ (seen : r.info % 0x10000 ≡ 0x3ffd) (h : 80 ≤ r.held) where
      word : reverse (held_bits r) ≡ word_with info
      word =
          ap reverse (full r h ∙ in_parts)
          ∙ reverse-append (to_bits 16 (r.info % 0x10000)) (to_bits 64 newer)
          ∙ ap₂ (λ (xs : List ℕ) (n : ℕ). xs ++ reverse (to_bits 16 n)) again seen
          ∙ ap (λ (l : List ℕ). to_bits 64 info ++ l) turned_sync

      -- 80 bits that do: what the information bits of the word that they are, turned round, say
      pub full_turned : (ways : Ways) → backward_in r.mode ways (held_bits r) ≡ told_backward ways (heard_of r.mode info)
      unfolding backward_in
      full_turned ways = ap (told_backward ways) (ap (read_of r.mode) word ∙ read_is_heard info below r.mode)
