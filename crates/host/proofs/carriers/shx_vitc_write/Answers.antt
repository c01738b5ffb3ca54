-- `host::carriers::shx_vitc_write` meets its contract: what stands for nothing is turned away and the run is left as it was; else the write answers.
-- Assumes nothing.
use Prim.Native.Nat.{ℕ}
use mathlib.Core.Path.{◌≡◌, refl, ap, ◌∙◌}
use mathlib.Core.Bool.{Bool, true, false}
use mathlib.Core.List.{List, []}
use Rattle.refusals.specs.declared.types.Refusal.{Refusal}
use Rattle.std.specs.Prelude.{Result, Err}
use Rattle.record.specs.declared.types.Record.{Record}
use Rattle.vitc.specs.Calls as vitc
use Rattle.plain.specs.declared.types.PlainRecord.{PlainRecord}
use Rattle.modes.specs.Modes.{unknown, with_mode}
use Rattle.plain.specs.Given.{record_given, flag_above_1}
use Rattle.plain.specs.Answers.{written_code}
use Rattle.host.specs.Unnamed.{after_mode}
use Rattle.host.specs.Carriers.{vitc_written, vitc_run}
use Rattle.host.proofs.Wrote.{turned_away, answered}
use borrow.Author.Rules.{rules}
use Rattle.host.proofs.carriers.shx_vitc_write.Goals as goal

module _ (mode : ℕ) (r : PlainRecord) (start : ℕ) (run : List ℕ) (odd : Bool) (asked : odd ≡ flag_above_1 r) where
  turned :
      odd ≡ true → (past : Bool) (k : Refusal) (n : ℕ) → past ≡ unknown mode → k ≡ after_mode past → n ≡ written_code (Err k)
      → (n ≡ vitc_written mode r start run) × (run ≡ vitc_run mode r start run)
  unfolding vitc_written vitc_run
  turned e past k n known is told =
      let as_told =
      turned_away (with_mode mode []) (flag_above_1 r) run (vitc.written_of mode (record_given r) start run) (vitc.run_of mode (record_given r) start run)
      (rw (← asked) e) k (is ∙ ap after_mode known) in
      (told ∙ as_told.0, as_told.1)

  wrote :
      odd ≡ false → (given : Record) (w : Result Unit Refusal) (n : ℕ) (out : List ℕ) → given ≡ record_given r
      → (w ≡ vitc.written_of mode given start run) × (out ≡ vitc.run_of mode given start run) → n ≡ written_code w
      → (n ≡ vitc_written mode r start run) × (out ≡ vitc_run mode r start run)
  unfolding vitc_written vitc_run vitc.written_of
  wrote e given w n out from left told =
      let same : w ≡ vitc.written_of mode (record_given r) start run = left.0 ∙ rw (from) in
      let kept : out ≡ vitc.run_of mode (record_given r) start run = left.1 ∙ rw (from) in
      let as_told =
      answered (with_mode mode []) (flag_above_1 r) run (vitc.written_of mode (record_given r) start run) (vitc.run_of mode (record_given r) start run)
      (rw (← asked) e) _ (vitc.written_rows mode (record_given r) start run) refl refl start (vitc.line_of mode (record_given r)) refl n (told ∙ ap written_code same) in
      (as_told.0, kept ∙ as_told.1)

pub returns-then-no_flag : goal.returns-then-no_flag
returns-then-no_flag c = turned _ _ _ _ _ c.has_flag_above_1-no_flag.ensures (search rules) _ _ _ c.is_unknown.ensures c.after_mode.ensures c.written.ensures

pub returns : goal.returns
returns c = wrote _ _ _ _ _ c.has_flag_above_1-no_flag.ensures (search rules) _ _ _ _ c.into.ensures c.write.ensures c.written-2.ensures
