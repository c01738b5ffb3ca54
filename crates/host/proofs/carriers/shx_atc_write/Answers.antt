-- `host::carriers::shx_atc_write` meets its contract: what stands for nothing is turned away and the run is left as it was; else the write answers.
-- Assumes nothing.
use Prim.Native.Nat.{ℕ}
use mathlib.Core.Path.{◌≡◌, refl, ap, ◌∙◌}
use mathlib.Core.Bool.{Bool, true, false, ◌||◌}
use mathlib.Core.List.{List, []}
use Rattle.refusals.specs.declared.types.Refusal.{Refusal}
use Rattle.std.specs.Prelude.{Result, Err}
use Rattle.record.specs.declared.types.Record.{Record}
use Rattle.atc.specs.declared.types.Interface.{Interface}
use Rattle.atc.specs.Calls as atc
use Rattle.plain.specs.declared.types.PlainContents.{PlainContents}
use Rattle.modes.specs.Modes.{uncounted, with_counting}
use Rattle.plain.specs.Given.{record_given, flag_above_1, no_interface, interface_given}
use Rattle.plain.specs.Answers.{written_code}
use Rattle.host.specs.Unnamed.{after_mode}
use Rattle.host.specs.Carriers.{atc_written, atc_run}
use Rattle.host.proofs.Wrote.{turned_away, answered}
use borrow.Author.Rules.{rules}
use Rattle.host.proofs.carriers.shx_atc_write.Goals as goal

module _ (mode : ℕ) (interface : ℕ) (c : PlainContents) (start : ℕ) (run : List ℕ) (odd unnamed : Bool) (asked : odd ≡ flag_above_1 c.«record») (tested : unnamed ≡ no_interface interface) where
  turned :
      (odd || unnamed) ≡ true → (past : Bool) (k : Refusal) (n : ℕ) → past ≡ uncounted mode → k ≡ after_mode past → n ≡ written_code (Err k)
      → (n ≡ atc_written mode interface c start run) × (run ≡ atc_run mode interface c start run)
  unfolding atc_written atc_run
  turned e past k n known is told =
      let as_told =
      turned_away (with_counting mode []) (flag_above_1 c.«record» || no_interface interface) run (atc.written_of mode (interface_given interface) (record_given c.«record») c.payload_type c.second start run) (atc.run_of mode (interface_given interface) (record_given c.«record») c.payload_type c.second start run)
      (rw (← asked, ← tested) e) k (is ∙ ap after_mode known) in
      (told ∙ as_told.0, as_told.1)

  wrote :
      (odd || unnamed) ≡ false → (face : Interface) (given : Record) (w : Result Unit Refusal) (n : ℕ) (out : List ℕ) → face ≡ interface_given interface → given ≡ record_given c.«record»
      → (w ≡ atc.written_of mode face given c.payload_type c.second start run) × (out ≡ atc.run_of mode face given c.payload_type c.second start run) → n ≡ written_code w
      → (n ≡ atc_written mode interface c start run) × (out ≡ atc_run mode interface c start run)
  unfolding atc_written atc_run atc.written_of atc.run_of
  wrote e face given w n out by from left told =
      let same : w ≡ atc.written_of mode (interface_given interface) (record_given c.«record») c.payload_type c.second start run = left.0 ∙ rw (by, from) in
      let kept : out ≡ atc.run_of mode (interface_given interface) (record_given c.«record») c.payload_type c.second start run = left.1 ∙ rw (by, from) in
      let as_told =
      answered (with_counting mode []) (flag_above_1 c.«record» || no_interface interface) run (atc.written_of mode (interface_given interface) (record_given c.«record») c.payload_type c.second start run) (atc.run_of mode (interface_given interface) (record_given c.«record») c.payload_type c.second start run)
      (rw (← asked, ← tested) e) _ (atc.written_rows mode (interface_given interface) (record_given c.«record») c.payload_type c.second start run) refl refl start (atc.packet_of mode (record_given c.«record») c.payload_type c.second) refl n (told ∙ ap written_code same) in
      (as_told.0, kept ∙ as_told.1)

pub returns-then-no_flag-no_interface : goal.returns-then-no_flag-no_interface
returns-then-no_flag-no_interface c = turned _ _ _ _ _ _ _ c.has_flag_above_1-no_flag.ensures c.is_no_interface-no_interface.ensures (search rules) _ _ _ c.is_uncounted.ensures c.after_mode.ensures c.written.ensures

pub returns : goal.returns
returns c = wrote _ _ _ _ _ _ _ c.has_flag_above_1-no_flag.ensures c.is_no_interface-no_interface.ensures (search rules) _ _ _ _ _ c.interface_given.ensures c.into.ensures c.write.ensures c.written-2.ensures
