-- What each answer of a read leads to once the form is judged: the type and the second byte are refused, or the record answers.
-- Assumes nothing.
use mathlib.Core.Path.{ap, ◌≡◌, sym, ◌∙◌}
use Prim.Native.Nat.{ℕ, ◌≤◌}
use native.Mathlib.Omega.{arith}
use mathlib.Core.List.{List}
use lib.ListN.{length, take, drop}
use Rattle.refusals.specs.declared.types.Refusal.{Refusal}
use Rattle.std.specs.Prelude.{Err, Ok, Result}
use Rattle.record.specs.declared.types.Record.{Record}
use Rattle.refusals.specs.declared.types.Refusal.TheVariants.{OutsideTheClock, UnknownType}
use Rattle.refusals.specs.Answer.{verdict_of}
use Rattle.refusals.proofs.Answered.{Clear}
use Rattle.refusals.proofs.ByNumber.{rows_before, clear_whole}
use Rattle.refusals.proofs.Verdicts.{refused_by, sound_clear}
use Rattle.words.specs.Words.{info_in, byte_in}
use Rattle.packets.specs.Packet.{type_in, second_in}
use Rattle.packets.specs.Calls.{form_refusals}
use Rattle.atc.specs.declared.types.Interface.{Interface}
use Rattle.atc.specs.Records.{held_for}
use Rattle.atc.specs.Calls.{contents_with, payload_refusals, read_refusals, packet_as, read_of}
use Rattle.atc.proofs.Answers.{size, past_the_form, past_the_payload}

module _ (mode : ℕ) (interface : Interface) (words : List ℕ) (found : Result Unit Refusal) (judged : found ≡ verdict_of (form_refusals mode words)) where
  pub refused : (n : Refusal) → found ≡ Err n → Err n ≡ read_of mode interface words
  unfolding read_of
  refused n e = refused_by Err _ (form_refusals mode words) found judged n e

  module _ (sound : found ≡ Ok tt) where
    clear : Clear (form_refusals mode words)
    clear = sound_clear (form_refusals mode words) found judged sound

    pub to_14 : 14 ≤ length words
    to_14 = omega (arith, size mode words clear)

    pub to_22 : 22 ≤ length words
    to_22 = omega (arith, size mode words clear)

    module _ (type second : ℕ) (typed : type ≡ byte_in (take 8 (drop 6 words))) (next : second ≡ byte_in (take 8 (drop 14 words)))
        (carried : Result Unit Refusal) (asked : carried ≡ verdict_of (payload_refusals mode interface type second)) where
      of_words : carried ≡ verdict_of (payload_refusals mode interface (type_in words) (second_in words))
      of_words = rw (← typed, ← next) asked

      pub barred : (n : Refusal) → carried ≡ Err n → Err n ≡ read_of mode interface words
      barred n e =
          refused_by Err _ (payload_refusals mode interface (type_in words) (second_in words)) carried of_words n e
          ∙ sym (past_the_form mode interface words clear)

      module _ (fit : carried ≡ Ok tt) (info : ℕ) (gathered : info ≡ info_in (take 16 (drop 6 words))) (unpacked : Result Record Refusal)
          (said : unpacked ≡ held_for mode type info) where
        told : packet_as type second unpacked ≡ read_of mode interface words
        told =
            let before = rows_before OutsideTheClock (read_refusals mode interface words) in
            let fits = sound_clear (payload_refusals mode interface (type_in words) (second_in words)) carried of_words fit in
            rw (said, gathered, typed, next) (sym (past_the_payload mode interface words (clear_whole UnknownType before clear fits)))

        pub unheld : (n : Refusal) → unpacked ≡ Err n → Err n ≡ read_of mode interface words
        unheld n e = ap (packet_as type second) (sym e) ∙ told

        pub held : (r : Record) → unpacked ≡ Ok r → Ok (contents_with r type second) ≡ read_of mode interface words
        held r e = ap (packet_as type second) (sym e) ∙ told
