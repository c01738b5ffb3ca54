-- Reading a packet: with an interface that is none 1, 2 or 3; else the read answers.
-- Assumes nothing.
use Prim.Native.Nat.{ℕ}
use mathlib.Core.Path.{◌≡◌, refl, ap, ◌∙◌}
use mathlib.Core.Bool.{Bool, true, false, not}
use mathlib.Core.List.{List, [], ◌∷◌}
use lib.Dec.{eqb}
use lib.ListN.{length}
use borrow.Author.Tests.{eq-eqb, ne_eqb}
use Rattle.refusals.specs.declared.types.Refusal.TheVariants.{WrongLength}
use Rattle.std.specs.Prelude.{Err, Ok, Result}
use Rattle.atc.specs.declared.types.Contents.{Contents}
use Rattle.refusals.specs.declared.types.Refusal.{Refusal}
use Rattle.refusals.specs.Answer.{Cause, ◌when◌}
use Rattle.modes.specs.Modes.{uncounted, with_counting}
use Rattle.atc.specs.declared.types.Interface.{Interface}
use Rattle.packets.specs.Packet.{data_in, type_in, second_in}
use Rattle.words.specs.Words.{info_in}
use Rattle.atc.specs.Records.{held_in}
use Rattle.atc.specs.Calls as atc
use Rattle.plain.specs.declared.types.PacketAnswer.{PacketAnswer}
use Rattle.plain.specs.Given.{no_interface, interface_given}
use Rattle.plain.specs.Answers.{packet_answer}
use Rattle.host.specs.Unnamed.{after_mode}
use Rattle.host.specs.Carriers.{atc_read}
use Rattle.host.proofs.Firsts.{unnamed, named}

module _ (mode interface : ℕ) (words : List ℕ) (none : Bool) (asked : none ≡ no_interface interface) (a : PacketAnswer) where
  -- the rows that come before 3
  before : List Cause
  before = (WrongLength when not (eqb (length words) 23)) ∷ with_counting mode []

  pub another_length : none ≡ true → (length words ≡ 23 → ⊥) → a ≡ packet_answer (Err WrongLength) → a ≡ atc_read mode interface words
  unfolding atc_read before
  another_length e other told =
      told
      ∙ ap packet_answer
      (unnamed Err before (no_interface interface) (atc.read_of mode (interface_given interface) words) WrongLength (rw (← asked) e)
      (rw (ne_eqb (length words) 23 other)))

  pub turned_away :
      none ≡ true → length words ≡ 23 → (past : Bool) (k : Refusal) → past ≡ uncounted mode → k ≡ after_mode past → a ≡ packet_answer (Err k)
      → a ≡ atc_read mode interface words
  unfolding atc_read before
  turned_away e whole past k known is told =
      told
      ∙ ap packet_answer
      (unnamed Err before (no_interface interface) (atc.read_of mode (interface_given interface) words) k (rw (← asked) e)
      (is ∙ (ap after_mode known ∙ rw (eq-eqb (length words) 23 whole))))

  pub answered :
      none ≡ false → (face : Interface) (read : Result Contents Refusal) → face ≡ interface_given interface → read ≡ atc.read_of mode face words
      → a ≡ packet_answer read → a ≡ atc_read mode interface words
  unfolding atc_read before atc.read_of
  answered e face read by is told =
      let same : read ≡ atc.read_of mode (interface_given interface) words = is ∙ rw by in
      let contents = atc.contents_with (held_in mode (type_in words) (info_in (data_in words))) (type_in words) (second_in words) in
      told
      ∙ ap packet_answer
      (same
      ∙ named Err before _ (atc.read_refusals mode (interface_given interface) words) refl (no_interface interface) (Ok contents)
      (atc.read_of mode (interface_given interface) words) (rw (← asked) e) refl)
