-- Demand 1. "Whatever bits, words, records or reader states it is given, it finishes and does nothing undefined. Bad input is turned away with the
-- number in document 01's table; nothing relies on the caller having looked first. A write that is turned away changes no element lent to it."
-- What it says of every call is in the promises of the calls, and docs/PROMISES.md says where; what it says of a write is here, of every carrier.
-- Assumes nothing.
use Prim.Native.Nat.{ℕ, ◌+◌, ◌≤◌}
use mathlib.Core.List.{List}
use mathlib.Core.Logic.{inl, inr, ⊎_elim}
use lib.ListN.{length}
use Rattle.refusals.proofs.Results.{not_accepted}
use Rattle.std.specs.Prelude.{Err, Ok}
use Rattle.refusals.specs.declared.types.Refusal.TheVariants.{NoRoom}
use Rattle.refusals.proofs.ByNumber.{clear_at}
use Rattle.runs.proofs.Outcomes.{unchanged, done_or_refused, done_clear, has_room}
use Rattle.record.specs.declared.types.Record.{Record}
use Rattle.polarity.specs.declared.types.Found.{Found}
use Rattle.polarity.specs.Word.{word_of}
use Rattle.ltc.specs.Calls as ltc
use Rattle.vitc.specs.Calls as vitc
use Rattle.atc.specs.declared.types.Interface.{Interface}
use Rattle.atc.specs.declared.types.Contents.{Contents}
use Rattle.atc.specs.Calls as atc
use Rattle.demands.specs.Carriers.{linear, interval, ancillary, DoneOrRefused, Unchanged}

-- Every write is done, or it is turned away with a number, and never both. Shut out: a write that does neither.
pub linear_done_or_refused : (make : Found) → DoneOrRefused (linear make)
unfolding ltc.written_of
linear_done_or_refused make mode r start run given = done_or_refused (ltc.written_rows mode r start run)

pub interval_done_or_refused : DoneOrRefused interval
unfolding vitc.written_of
interval_done_or_refused mode r start run given = done_or_refused (vitc.written_rows mode r start run)

pub ancillary_done_or_refused : (interface : Interface) → DoneOrRefused (ancillary interface)
unfolding atc.written_of
ancillary_done_or_refused interface mode c start run byte =
    let either = done_or_refused (atc.written_rows mode interface c.«record» c.payload_type c.second start run) in
    (⊎_elim (λ done. inl (byte, done)) inr either.0, λ number done. either.1 number done.1)

-- "A write that is turned away changes no element lent to it." Shut out: a write that stores before it looks.
pub linear_unchanged : (make : Found) → Unchanged (linear make)
unfolding ltc.written_of ltc.run_of
linear_unchanged make mode r start run = unchanged Err (Ok tt) not_accepted (ltc.written_rows mode r start run) start (word_of mode r make) run

pub interval_unchanged : Unchanged interval
unfolding vitc.written_of
interval_unchanged mode r start run = unchanged Err (Ok tt) not_accepted (vitc.written_rows mode r start run) start (vitc.line_of mode r) run

pub ancillary_unchanged : (interface : Interface) → Unchanged (ancillary interface)
unfolding atc.written_of atc.run_of
ancillary_unchanged interface mode c start run =
    unchanged Err (Ok tt) not_accepted (atc.written_rows mode interface c.«record» c.payload_type c.second start run) start
    (atc.packet_of mode c.«record» c.payload_type c.second) run

-- and it is turned away where there is no room
pub linear_room : (make : Found) (mode : ℕ) (r : Record) (start : ℕ) (run : List ℕ) → (linear make).Writes mode r start run → start + 80 ≤ length run
unfolding ltc.written_of ltc.written_rows
linear_room make mode r start run done =
    let rows = ltc.written_rows mode r start run in has_room 80 start (length run) (clear_at NoRoom rows (done_clear rows done))

pub interval_room : (mode : ℕ) (r : Record) (start : ℕ) (run : List ℕ) → interval.Writes mode r start run → start + 90 ≤ length run
unfolding vitc.written_of
interval_room mode r start run done =
    let rows = vitc.written_rows mode r start run in has_room 90 start (length run) (clear_at NoRoom rows (done_clear rows done))

pub ancillary_room :
    (interface : Interface) (mode : ℕ) (c : Contents) (start : ℕ) (run : List ℕ) → (ancillary interface).Writes mode c start run → start + 23 ≤ length run
unfolding atc.written_of
ancillary_room interface mode c start run done =
    let rows = atc.written_rows mode interface c.«record» c.payload_type c.second start run in
    has_room 23 start (length run) (clear_at NoRoom rows (done_clear rows done.1))
