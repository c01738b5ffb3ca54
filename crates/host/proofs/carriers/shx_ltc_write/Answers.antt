-- `host::carriers::shx_ltc_write` meets its contract: what stands for nothing is turned away and the run is left as it was; else the write answers.
-- Assumes nothing.
use Prim.Native.Nat.{ℕ}
use mathlib.Core.Path.{◌≡◌, refl, ap, ◌∙◌}
use mathlib.Core.Bool.{Bool, true, false, ◌||◌}
use mathlib.Core.List.{List, []}
use Rattle.refusals.specs.declared.types.Refusal.{Refusal}
use Rattle.std.specs.Prelude.{Result, Err}
use Rattle.record.specs.declared.types.Record.{Record}
use Rattle.polarity.specs.declared.types.Found.{Found}
use Rattle.polarity.specs.Word.{word_of}
use Rattle.ltc.specs.Calls as ltc
use Rattle.plain.specs.declared.types.PlainRecord.{PlainRecord}
use Rattle.modes.specs.Modes.{unknown, with_mode}
use Rattle.plain.specs.Given.{record_given, flag_above_1, no_make, make_given}
use Rattle.plain.specs.Answers.{written_code}
use Rattle.host.specs.Unnamed.{after_mode}
use Rattle.host.specs.Carriers.{ltc_written, ltc_run}
use Rattle.host.proofs.Wrote.{turned_away, answered}
use borrow.Author.Rules.{rules}
use Rattle.host.proofs.carriers.shx_ltc_write.Goals as goal

module _ (mode : ℕ) (r : PlainRecord) (make : ℕ) (start : ℕ) (run : List ℕ) (odd unmade : Bool) (asked : odd ≡ flag_above_1 r) (tested : unmade ≡ no_make make) where
  turned :
      (odd || unmade) ≡ true → (past : Bool) (k : Refusal) (n : ℕ) → past ≡ unknown mode → k ≡ after_mode past → n ≡ written_code (Err k)
      → (n ≡ ltc_written mode r make start run) × (run ≡ ltc_run mode r make start run)
  unfolding ltc_written ltc_run
  turned e past k n known is told =
      let as_told =
      turned_away (with_mode mode []) (flag_above_1 r || no_make make) run (ltc.written_of mode (record_given r) start run) (ltc.run_of mode (record_given r) (make_given make) start run)
      (rw (← asked, ← tested) e) k (is ∙ ap after_mode known) in
      (told ∙ as_told.0, as_told.1)

  wrote :
      (odd || unmade) ≡ false → (given : Record) (made : Found) (w : Result Unit Refusal) (n : ℕ) (out : List ℕ) → given ≡ record_given r → made ≡ make_given make
      → (w ≡ ltc.written_of mode given start run) × (out ≡ ltc.run_of mode given made start run) → n ≡ written_code w
      → (n ≡ ltc_written mode r make start run) × (out ≡ ltc_run mode r make start run)
  unfolding ltc_written ltc_run ltc.written_of ltc.run_of ltc.written_rows
  wrote e given made w n out from by left told =
      let same : w ≡ ltc.written_of mode (record_given r) start run = left.0 ∙ rw (from) in
      let kept : out ≡ ltc.run_of mode (record_given r) (make_given make) start run = left.1 ∙ rw (from, by) in
      let as_told =
      answered (with_mode mode []) (flag_above_1 r || no_make make) run (ltc.written_of mode (record_given r) start run) (ltc.run_of mode (record_given r) (make_given make) start run)
      (rw (← asked, ← tested) e) _ (ltc.written_rows mode (record_given r) start run) refl refl start (word_of mode (record_given r) (make_given make)) refl n (told ∙ ap written_code same) in
      (as_told.0, kept ∙ as_told.1)

pub returns-then-no_flag-no_make : goal.returns-then-no_flag-no_make
returns-then-no_flag-no_make c = turned _ _ _ _ _ _ _ c.has_flag_above_1-no_flag.ensures c.is_no_make-no_make.ensures (search rules) _ _ _ c.is_unknown.ensures c.after_mode.ensures c.written.ensures

pub returns : goal.returns
returns c = wrote _ _ _ _ _ _ _ c.has_flag_above_1-no_flag.ensures c.is_no_make-no_make.ensures (search rules) _ _ _ _ _ c.into.ensures c.make_given.ensures c.write.ensures c.written-2.ensures
