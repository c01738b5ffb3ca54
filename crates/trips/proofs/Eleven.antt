-- 11 is given exactly where the record stands and another picture is asked for than a word, a line or a packet shows, or, on the linear track, a mark.
-- Assumes nothing.
use Prim.Native.Nat.{ℕ}
use mathlib.Core.Path.{◌≡◌}
use mathlib.Core.Bool.{true, false, cond}
use mathlib.Core.List.{List}
use mathlib.Core.Logic.{◌↔◌}
use Rattle.std.specs.Prelude.{Err}
use Rattle.refusals.specs.declared.types.Refusal.TheVariants.{MarkSet, OutsideTheClock, UnknownMode, UnknownType}
use Rattle.refusals.proofs.Answered.{Clear}
use Rattle.refusals.proofs.ByNumber.{rows_from, rows_before, clear_at, clear_from, clear_before, clear_whole}
use Rattle.refusals.proofs.First.{given_exactly}
use Rattle.record.specs.declared.types.Record.{Record}
use Rattle.modes.specs.declared.types.Shows.TheVariants.{ByMark}
use Rattle.modes.specs.Modes.{high_rate, with_mode, with_counting}
use Rattle.modes.specs.Calls.{write_refusals_in}
use Rattle.modes.specs.Shown.{unshown}
use Rattle.ltc.specs.Calls as ltc
use Rattle.ltc.proofs.Rows as linear
use Rattle.vitc.specs.Calls as vitc
use Rattle.vitc.proofs.Rows as interval
use Rattle.atc.specs.declared.types.Interface.{Interface}
use Rattle.atc.specs.Records.{shows_by, record_refusals_for}
use Rattle.atc.specs.Calls as atc
use Rattle.atc.proofs.Answers as ancillary

module _ (mode : ℕ) (r : Record) where
  -- the record's list clears it, on a line
  abbrev pub Stands : Type 0
  Stands = Clear (with_mode mode (write_refusals_in mode r))

  pub linear_refused_by_11 :
      (start : ℕ) (run : List ℕ) → (ltc.written_of mode r start run ≡ Err MarkSet) ↔ (Stands × (ltc.mark_or_second mode r ≡ true))
  unfolding ltc.written_of ltc.written_rows
  linear_refused_by_11 start run =
      given_exactly _ MarkSet (ltc.written_rows mode r start run) (linear.written_rows_in_order mode r start run)

  pub interval_refused_by_11 :
      (start : ℕ) (run : List ℕ) → (vitc.written_of mode r start run ≡ Err MarkSet) ↔ (Stands × (unshown mode ByMark r ≡ true))
  unfolding vitc.written_of
  interval_refused_by_11 start run =
      given_exactly _ MarkSet (vitc.written_rows mode r start run) (interval.written_rows_in_order mode r start run)

  pub ancillary_refused_by_11 :
      (interface : Interface) (type second start : ℕ) (run : List ℕ)
      → (atc.written_of mode interface r type second start run ≡ Err MarkSet)
      ↔ ((Clear (with_counting mode (record_refusals_for mode r)) × Clear (atc.payload_refusals mode interface type second))
      × (cond (high_rate mode) false (unshown mode (shows_by type) r) ≡ true))
  unfolding atc.written_of
  ancillary_refused_by_11 interface type second start run =
      let rows = atc.written_rows mode interface r type second start run in
      let before = rows_before MarkSet rows in
      let exactly =
      given_exactly _ MarkSet rows
      (ancillary.written_rows_in_order mode interface r type second start run) in (
        λ e. (let clear = (exactly.0 e).0 in (
          (
            (clear_at UnknownMode before clear, clear_from OutsideTheClock before clear),
            clear_before OutsideTheClock (rows_from UnknownType before) (clear_from UnknownType before clear),
          ),
          (exactly.0 e).1,
        )),
        λ both.
            (let own = with_counting mode (record_refusals_for mode r) in
            exactly.1 (
              clear_whole OutsideTheClock before (clear_at UnknownMode own both.0.0, both.0.1) (clear_from OutsideTheClock own both.0.0),
              both.1,
            )),
      )
