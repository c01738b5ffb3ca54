-- What each test of a write leads to: its answer, and the run as it leaves it.
-- Assumes nothing.
use mathlib.Core.Path.{◌≡◌, refl, sym, ◌∙◌}
use mathlib.Core.Bool.{true, false}
use Prim.Native.Nat.{ℕ}
use mathlib.Core.List.{List}
use Rattle.refusals.specs.declared.types.Refusal.{Refusal}
use Rattle.std.specs.Prelude.{Err, Ok, Result}
use Rattle.refusals.specs.declared.types.Refusal.TheVariants.{NoRoom, OutsideTheClock, UnknownMode}
use Rattle.refusals.specs.Answer.{Cause, answer, verdict_of}
use Rattle.refusals.proofs.Answered.{Clear, otherwise_accepted}
use Rattle.refusals.proofs.ByNumber.{rows_from, rows_before, clear_from, clear_whole, answer_from}
use Rattle.refusals.proofs.Verdicts.{refused_by, sound_clear}
use Rattle.runs.specs.Run.{written_by, run_after, room_refusals}
use Rattle.runs.proofs.Outcomes.{turned_away}
use Rattle.record.specs.declared.types.Record.{Record}
use Rattle.pictures.specs.declared.types.Counting.{Counting}
use Rattle.modes.specs.Modes.{uncounted, with_counting, counting_of}
use Rattle.modes.proofs.InMode.{counted_told, counted_refused}
use Rattle.modes.proofs.Told.{refused_by_rows, made_by_rows}
use Rattle.packets.specs.Packet.{packet_with}
use Rattle.packets.specs.Calls.{place_refusals}
use Rattle.atc.specs.declared.types.Interface.{Interface}
use Rattle.atc.specs.Records.{info_for, carried_refusals, made_for}
use Rattle.atc.specs.Calls.{payload_refusals, packet_of, written_rows, written_of, run_of}

module _ (mode : ℕ) (interface : Interface) (r : Record) (type second start : ℕ) (run : List ℕ) where
  abbrev pub Outcome : Result Unit Refusal → List ℕ → Type 0
  Outcome answered left = (answered ≡ written_of mode interface r type second start run) × (left ≡ run_of mode interface r type second start run)

  abbrev rows : List Cause
  rows = written_rows mode interface r type second start run

  abbrev payload_rows : List Cause
  payload_rows = payload_refusals mode interface type second

  -- the record's own, and then 11, after the mode
  abbrev record_rows : List Cause
  record_rows = with_counting mode (carried_refusals mode type r)

  module _ (row : Result Counting Refusal) (asked : row ≡ counting_of mode) where
    pub no_mode : (n : Refusal) → row ≡ Err n → Outcome (Err n) run
    unfolding written_of run_of
    no_mode n e =
        let is = counted_refused mode row asked n e in rw is.1 (turned_away rows start (packet_of mode r type second) run UnknownMode tt is.0)

    module _ (own : Counting) (counts : row ≡ Ok own) where
      known : uncounted mode ≡ false
      known = counted_told mode row asked own counts

      -- the record's own answer begins with the mode, which is known
      past_mode : {A : Type 0} (refused : Refusal → A) (accepted : A)
          → answer refused record_rows accepted ≡ answer refused (rows_from OutsideTheClock record_rows) accepted
      past_mode refused accepted = rw known

      pub no_payload : (n : Refusal) → verdict_of payload_rows ≡ Err n → Outcome (Err n) run
      unfolding written_of run_of
      no_payload n e = (
        rw known (refused_by Err _ payload_rows (verdict_of payload_rows) refl n e),
        rw known (refused_by (λ (_ : Refusal). run) _ payload_rows (verdict_of payload_rows) refl n e),
      )

      module _ (fit : verdict_of payload_rows ≡ Ok tt) where
        -- no row before the record's own applies
        front : Clear (rows_before OutsideTheClock rows)
        front = (known, sound_clear payload_rows (verdict_of payload_rows) refl fit)

        pub no_record : (n : Refusal) → made_for mode type r ≡ Err n → Outcome (Err n) run
        unfolding written_of run_of made_for
        no_record n e = (
          refused_by_rows record_rows (info_for mode r) Err _ n e ∙ past_mode Err _ ∙ sym (answer_from Err _ OutsideTheClock rows front),
          refused_by_rows record_rows (info_for mode r) (λ (_ : Refusal). run) _ n e
              ∙ past_mode (λ (_ : Refusal). run) _
              ∙ sym (answer_from (λ (_ : Refusal). run) _ OutsideTheClock rows front),
        )

        -- the packet was placed, or there was no room for it: what came back is what the write answers
        pub placed : (info : ℕ) → made_for mode type r ≡ Ok info → (answered : Result Unit Refusal) (left : List ℕ)
            → (answered ≡ written_by (place_refusals mode start run)) × (left ≡ run_after (place_refusals mode start run) start (packet_with mode info type second) run)
            → Outcome answered left
        unfolding written_of run_of made_for
        placed info e answered left told =
            let made = made_by_rows record_rows (info_for mode r) info e in
            let before = rows_before NoRoom rows in
            let clear : Clear before = clear_whole OutsideTheClock before front (clear_from OutsideTheClock record_rows made.0) in
            let word = packet_of mode r type second in
            let answered_so : answered ≡ written_by (room_refusals 23 start run) = rw known at told.0 in
            let left_so : left ≡ run_after (room_refusals 23 start run) start (packet_with mode info type second) run = rw known at told.1 in (
              answered_so ∙ sym (otherwise_accepted Err (written_by (room_refusals 23 start run)) before clear),
              left_so
                  ∙ rw (← made.1)
                  (sym (otherwise_accepted (λ (_ : Refusal). run) (run_after (room_refusals 23 start run) start word run) before clear)),
            )
