-- Words that have the form of a packet answer what their information bits hold, with the type and the second byte.
-- Assumes nothing.
use Prim.Native.Nat.{ℕ}
use mathlib.Core.Path.{◌≡◌, refl, sym, ◌∙◌}
use mathlib.Core.Bool.{true, false}
use mathlib.Core.List.{List}
use lib.Dec.{eqb}
use lib.ListN.{length}
use borrow.Author.Tests.{eqb-true, not-false}
use Rattle.refusals.specs.declared.types.Refusal.TheVariants.{OutsideTheClock, UnknownMode, WrongLength}
use Rattle.std.specs.Prelude.{Err, Ok}
use Rattle.refusals.specs.Table.{the_order}
use Rattle.refusals.specs.Answer.{answer, in_order}
use Rattle.refusals.proofs.Answered.{Clear, carried, otherwise_accepted}
use Rattle.refusals.proofs.ByNumber.{rows_before, clear_at, answer_from}
use Rattle.record.specs.declared.types.Record.{Record}
use Rattle.modes.specs.Modes.{uncounted, with_counting}
use Rattle.words.specs.Words.{info_in}
use Rattle.packets.specs.Packet.{data_in, type_in, second_in}
use Rattle.packets.specs.Calls.{form_refusals}
use Rattle.atc.specs.declared.types.Interface.{Interface}
use Rattle.atc.specs.Records.{held_in, held_refusals, held_for}
use Rattle.atc.specs.Calls.{content_refusals, read_refusals, contents_with, packet_as, read_of, written_rows}

module _ (mode : ℕ) (words : List ℕ) (clear : Clear (form_refusals mode words)) where
  pub size : length words ≡ 23
  size = eqb-true (length words) 23 (not-false (eqb (length words) 23) (clear_at WrongLength (form_refusals mode words) clear))

module _ (mode : ℕ) (interface : Interface) (words : List ℕ) where
  -- the type and the second byte are looked at next
  pub past_the_form :
      Clear (form_refusals mode words)
      → read_of mode interface words
      ≡ answer Err (content_refusals mode interface words)
      (Ok (contents_with (held_in mode (type_in words) (info_in (data_in words))) (type_in words) (second_in words)))
  unfolding read_of
  past_the_form = otherwise_accepted Err _ (form_refusals mode words)

  -- and then the record
  pub past_the_payload :
      Clear (rows_before OutsideTheClock (read_refusals mode interface words))
      → read_of mode interface words ≡ packet_as (type_in words) (second_in words) (held_for mode (type_in words) (info_in (data_in words)))
  unfolding read_of held_for
  past_the_payload before =
      let rows = read_refusals mode interface words in
      let info = info_in (data_in words) in
      let own = held_in mode (type_in words) info in
      let held = contents_with own (type_in words) (second_in words) in
      let known : uncounted mode ≡ false = clear_at UnknownMode (rows_before OutsideTheClock rows) before in
      let with_mode : answer Err (held_refusals mode info) (Ok held) ≡ answer Err (with_counting mode (held_refusals mode info)) (Ok held) = rw known in
      answer_from Err (Ok held) OutsideTheClock rows before
      ∙ (with_mode ∙ sym (carried (packet_as (type_in words) (second_in words)) Err (Ok own) (with_counting mode (held_refusals mode info))))

-- "The lowest that applies is given": both lists follow the table's order, 19 and 23 straight after 7
pub read_rows_in_order : (mode : ℕ) (interface : Interface) (words : List ℕ) → in_order the_order (read_refusals mode interface words) ≡ true
read_rows_in_order mode interface words = refl

pub written_rows_in_order :
    (mode : ℕ) (interface : Interface) (r : Record) (type second start : ℕ) (run : List ℕ)
    → in_order the_order (written_rows mode interface r type second start run) ≡ true
written_rows_in_order mode interface r type second start run = refl
