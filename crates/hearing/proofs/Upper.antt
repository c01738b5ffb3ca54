-- What is heard forward in a reader's register: its upper 16 places are the newest bits.
-- Assumes nothing.
use Prim.Native.Nat.{ℕ, ◌-◌, ◌^◌, ◌<◌, ◌≤◌, min}
use mathlib.Core.Path.{◌≡◌, refl, sym, ap, ◌∙◌}
use mathlib.Core.Bool.{Bool, true, false, ◌&&◌, and-false}
use mathlib.Core.List.{◌++◌}
use native.Mathlib.Omega.{arith}
use lib.Dec.{ltb, eqb}
use lib.ListN.{length, drop, length-drop}
use lib.Seq.{drop_at}
use borrow.Author.Tests.{eq-eqb, ne_eqb, eqb-true, eqb-false, ltb-true, ltb-false}
use Rattle.bits.specs.Bits.{value, to_bits}
use Rattle.bits.proofs.Bit.{length_to_bits}
use Rattle.bits.proofs.Inverse.{value_to_bits}
use Rattle.runs.specs.Run.{same}
use Rattle.runs.proofs.Same.{same_itself, not_same}
use Rattle.polarity.specs.Word.{sync_word, word_with}
use Rattle.polarity.specs.Heard.{heard_of}
use Rattle.ltc.specs.Calls.{read_of}
use Rattle.ltc.proofs.Parts.{read_is_heard}
use Rattle.register.specs.declared.types.Reader.{Reader}
use Rattle.register.specs.Held.{register, held_bits}
use Rattle.register.proofs.Registers.{register_length}
use Rattle.hearing.specs.declared.types.Heard.TheVariants.{Nothing}
use Rattle.hearing.specs.Window.{told, forward_in}

module _ (r : Reader) where
  top : drop 64 (register r) ≡ to_bits 16 r.sync
  top = drop_at (to_bits 64 r.info) (to_bits 16 r.sync) 64 (length_to_bits 64 r.info)

  -- the last 16 places are the sync word exactly where they are this number
  pub upper : r.sync < 2 ^ 16 → same (drop 64 (register r)) sync_word ≡ eqb r.sync 0xbffc
  unfolding value to_bits sync_word
  upper high = go (eqb r.sync 0xbffc) refl
    where
      of_the_sync : value sync_word ≡ 0xbffc
      of_the_sync = refl

      go : (t : Bool) → eqb r.sync 0xbffc ≡ t → same (drop 64 (register r)) sync_word ≡ t
      go true t = rw (top ∙ ap (to_bits 16) (eqb-true r.sync 0xbffc t)) (same_itself sync_word)
      go false t =
          not_same (drop 64 (register r)) sync_word
          (λ s. eqb-false r.sync 0xbffc t (sym (value_to_bits 16 r.sync high) ∙ ap value (sym top ∙ s) ∙ of_the_sync))

  size : length (held_bits r) ≡ min r.held 80
  size = length-drop (80 - r.held) (register r) ∙ rw (register_length r) (omega arith)

  pub short : r.held < 80 → eqb (length (held_bits r)) 80 ≡ false
  short h = ne_eqb (length (held_bits r)) 80 (omega (arith, size))

  pub full : 80 ≤ r.held → held_bits r ≡ register r
  full h = let none : 80 - r.held ≡ 0 = omega arith in rw none

  -- fewer than 80 bits: nothing
  pub short_hears_nothing : r.held < 80 → forward_in r.mode (held_bits r) ≡ Nothing
  unfolding forward_in
  short_hears_nothing h = rw (short h)

  -- 80 bits that do not end in the sync word: nothing
  pub other_hears_nothing : same (drop 64 (register r)) sync_word ≡ false → forward_in r.mode (held_bits r) ≡ Nothing
  unfolding forward_in
  other_hears_nothing other = go (ltb r.held 80) refl
    where
      go : (t : Bool) → ltb r.held 80 ≡ t → forward_in r.mode (held_bits r) ≡ Nothing
      go true e = short_hears_nothing (ltb-true r.held 80 e)
      go false e = rw (full (ltb-false r.held 80 e), other, and-false (eqb (length (register r)) 80))

  -- 80 bits that do: what the word's information bits say
  pub full_hears : r.info < 2 ^ 64 → r.sync ≡ 0xbffc → 80 ≤ r.held → forward_in r.mode (held_bits r) ≡ told (heard_of r.mode r.info)
  unfolding forward_in to_bits sync_word
  full_hears low seen h =
      let whole = full h in
      let eighty : length (held_bits r) ≡ 80 = size ∙ omega arith in
      let word : held_bits r ≡ word_with r.info = whole ∙ ap (λ (n : ℕ). to_bits 64 r.info ++ to_bits 16 n) seen in
      let sync : drop 64 (held_bits r) ≡ sync_word = ap (drop 64) whole ∙ top ∙ ap (to_bits 16) seen in
      let both : (eqb (length (held_bits r)) 80 && same (drop 64 (held_bits r)) sync_word) ≡ true =
      rw (eq-eqb (length (held_bits r)) 80 eighty, sync) (same_itself sync_word) in
      rw both (ap told (ap (read_of r.mode) word ∙ read_is_heard r.info low r.mode))
