-- Demand 2, and document 02, A4: what a place is refused by, and a mark that does not say it: 10 or 8, and 11.
-- Assumes nothing.
use Prim.Native.Nat.{ℕ, ◌<◌, ◌≤◌}
use mathlib.Core.Path.{◌≡◌, refl, sym, ◌∙◌}
use mathlib.Core.Bool.{Bool, true, false, cond, true≢false}
use mathlib.Core.List.{List}
use mathlib.Core.Logic.{◌↔◌}
use native.Mathlib.Omega.{arith}
use lib.Dec.{ltb}
use borrow.Author.Tests.{lt-ltb, le-leb}
use Rattle.refusals.proofs.Results.{accepted_so}
use Rattle.std.specs.Prelude.{Err, Ok}
use Rattle.refusals.specs.declared.types.Refusal.TheVariants.{OutsideTheClock, SkippedAddress, UnknownMode, UnusedBitSet, MarkSet}
use Rattle.refusals.proofs.Answered.{neither, accepted_as}
use Rattle.refusals.proofs.ByNumber.{clear_at}
use Rattle.rates.specs.declared.types.Flag.{Flag}
use Rattle.rates.specs.declared.types.Flag.TheVariants.{No}
use Rattle.clock.specs.declared.types.DayFrame.{DayFrame}
use Rattle.pictures.specs.declared.types.Picture.{Picture}
use Rattle.pictures.specs.Pictures.{picture}
use Rattle.pictures.specs.Calls.{picture_refusals, number_of}
use Rattle.record.specs.declared.types.Record.{Record}
use Rattle.rates.specs.Rates.{is_yes}
use Rattle.record.specs.Record.{at_place}
use Rattle.modes.specs.declared.types.Shows.{Shows}
use Rattle.modes.specs.declared.types.Shows.TheVariants.{First, ByMark}
use Rattle.modes.specs.Modes.{high_rate, rate_at, pictures_at, with_counting}
use Rattle.modes.specs.Calls.{number_in}
use Rattle.modes.specs.Shown.{unshown, carried_in}
use Rattle.modes.proofs.EachMode.{alone, pairs, several_share}
use Rattle.modes.proofs.Rows.{number_rows}
use Rattle.modes.proofs.Told.{carried_rows, carried_is}
use Rattle.polarity.specs.declared.types.Found.{Found}
use Rattle.ltc.specs.Calls.{mark_or_second}
use Rattle.ltc.proofs.Evened.{is_no}
use Rattle.atc.specs.declared.types.Interface.{Interface}
use Rattle.atc.specs.declared.types.Contents.{Contents}
use Rattle.atc.specs.Records.{shows_by}
use Rattle.trips.proofs.Eleven as eleven
use Rattle.demands.specs.Records.{Acceptable, OnLines, FirstPicture, MarkSays, PacketShows}
use Rattle.demands.specs.Table4.{ClaimsImpossibleLine}
use Rattle.demands.specs.Families.{PayloadType, NamesMode}
use Rattle.demands.specs.Carriers.{linear, interval, ancillary}
use Rattle.demands.proofs.Accepted.{known, known_exactly, counted_exactly, acceptable_exactly, on_lines_exactly}
use Rattle.demands.proofs.Pictures.{first_exactly, mark_says_exactly, packet_shows_exactly}
use Rattle.demands.proofs.Families.{payload_exactly}

-- "Pair place 1 in a record of modes 0 to 2 is refused by 10", and any other place but the first: of a record that is carried at the first, whatever shows the picture. Shut
-- out: 8 given for it, or the place unread.
pub place_refused_by_10 :
    (mode : ℕ) (shows : Shows) (r : Record) (n : ℕ) → mode < 3 → carried_in mode shows (at_place 0 r) ≡ Ok n → (FirstPicture r → ⊥)
    → carried_in mode shows r ≡ Err UnusedBitSet
unfolding carried_in
place_refused_by_10 mode shows r n few stands other =
    let rows = carried_rows mode (at_place 0 r) shows in
    let clear = (carried_is mode (at_place 0 r) shows n stands).0 in
    let one = alone mode few in
    let eight = clear_at OutsideTheClock rows clear in
    let some : ltb 0 r.place ≡ true = lt-ltb 0 r.place (omega arith) in
    rw (clear_at UnknownMode rows clear, one, (rw one at eight), clear_at SkippedAddress rows clear, some)

-- In modes 3 to 5 a place that is not below 2 is refused by 8, whatever else is wrong but the mode: of a record on a line. Of a picture that is counted, "in modes 3 to 10
-- refused by 8 if not below the pictures to an address". Shut out: 10 given for it; place 3 of 72 counted, or place 5 of 24x5.
pub place_refused_by_8 :
    (mode : ℕ) (shows : Shows) (r : Record) → 3 ≤ mode → mode ≤ 5 → 2 ≤ r.place → carried_in mode shows r ≡ Err OutsideTheClock
unfolding carried_in
place_refused_by_8 mode shows r pair few high = rw ((known_exactly mode).1 few, pairs mode pair few, le-leb 2 r.place high)

pub counted_place_refused_by_8 :
    (mode : ℕ) (drop : Flag) (p : Picture) → 3 ≤ mode → mode ≤ 10 → pictures_at mode ≤ p.place → number_in mode drop p ≡ Err OutsideTheClock
unfolding number_in number_of
counted_place_refused_by_8 mode drop p more few high =
    rw ((counted_exactly mode).1 few, lt-ltb 1 (pictures_at mode) (several_share mode more), le-leb (pictures_at mode) p.place high)

-- and in modes 0 to 2 any place but the first by 10, as of a record: of a picture whose address has a number. Shut out: 8 given for it.
pub counted_place_refused_by_10 :
    (mode : ℕ) (drop : Flag) (p : Picture) (n : DayFrame) → mode < 3 → number_in mode drop (picture p.address 0) ≡ Ok n → (p.place ≡ 0 → ⊥)
    → number_in mode drop p ≡ Err UnusedBitSet
unfolding number_in number_of
counted_place_refused_by_10 mode drop p n few stands other =
    let first = picture p.address 0 in
    let rows = with_counting mode (picture_refusals (rate_at mode) (pictures_at mode) drop first) in
    let clear = (accepted_so rows (sym (number_rows mode drop first) ∙ stands)).0 in
    let one = alone mode few in
    let eight = clear_at OutsideTheClock rows clear in
    let some : ltb 0 p.place ≡ true = lt-ltb 0 p.place (omega arith) in
    rw (clear_at UnknownMode rows clear, one, (rw one at eight), clear_at SkippedAddress rows clear, some)

-- Document 02, A4: "In modes 3 to 5 a VITC line or packet of type 1 or 2 is refused by 11 if the record's mark and pair place differ; LTC and type 0 refuse a second picture
-- by 11": of a record that is acceptable exactly then, whether or not there is room. Shut out: the mark unchecked on VITC; type 0 refused for its mark; a second picture
-- written as LTC.
otherwise : {Shown : Type 0} (other : Bool) → (other ≡ false) ↔ Shown → (Shown → ⊥) → other ≡ true
otherwise true is none = refl
otherwise false is none = absurd (none (is.0 refl))

differs : {Given Stands Ok Shown : Type 0} (other : Bool) → Given ↔ (Stands × (other ≡ true)) → Stands ↔ Ok → (Ok → (other ≡ false) ↔ Shown)
    → Given ↔ (Ok × (Shown → ⊥))
differs other exactly stands shown = (
  λ e. (let both = exactly.0 e in let ok = stands.0 both.0 in (ok, λ shows. true≢false (sym both.1 ∙ (shown ok).1 shows))),
  λ both. exactly.1 (stands.1 both.0, otherwise other (shown both.0) both.1),
)

pub linear_refused_by_11 :
    (make : Found) (mode : ℕ) (r : Record) (start : ℕ) (run : List ℕ)
    → (linear make).Refuses mode r start run MarkSet ↔ (OnLines mode r × ((r.flags.mark ≡ No) × FirstPicture r → ⊥))
linear_refused_by_11 make mode r start run =
    differs (mark_or_second mode r) (eleven.linear_refused_by_11 mode r start run) (on_lines_exactly mode r) (λ ok. (there, back))
  where
    there : mark_or_second mode r ≡ false → (r.flags.mark ≡ No) × FirstPicture r
    there e =
        let both = neither (is_yes r.flags.mark) (unshown mode First r) e in
        (is_no r.flags.mark both.0, (first_exactly mode r).0 both.1)

    back : (r.flags.mark ≡ No) × FirstPicture r → mark_or_second mode r ≡ false
    back plain = rw (plain.0, plain.1)

pub interval_refused_by_11 :
    (mode : ℕ) (r : Record) (start : ℕ) (run : List ℕ)
    → interval.Refuses mode r start run MarkSet ↔ (OnLines mode r × (MarkSays mode r → ⊥))
interval_refused_by_11 mode r start run =
    differs (unshown mode ByMark r) (eleven.interval_refused_by_11 mode r start run) (on_lines_exactly mode r)
    (λ ok. mark_says_exactly mode r ok.1 ok.0)

pub ancillary_refused_by_11 :
    (interface : Interface) (mode : ℕ) (c : Contents) (start : ℕ) (run : List ℕ)
    → (ancillary interface).Refuses mode c start run MarkSet
    ↔ ((Acceptable mode c.«record»
    × (PayloadType mode c.payload_type × (ClaimsImpossibleLine interface c.payload_type c.second → ⊥) × NamesMode mode c.second))
    × (PacketShows mode c.payload_type c.«record» → ⊥))
ancillary_refused_by_11 interface mode c start run =
    let r = c.«record» in
    let type = c.payload_type in
    let record_is = acceptable_exactly mode r in
    let few : Acceptable mode r → mode ≤ 10 = λ ok. (counted_exactly mode).0 (known ok.counts) in
    differs (cond (high_rate mode) false (unshown mode (shows_by type) r)) (eleven.ancillary_refused_by_11 mode r interface type c.second start run) (
      λ stands. (let ok = record_is.0 stands.0 in (ok, (payload_exactly mode (few ok) interface type c.second).0 stands.1)),
      λ ok. (record_is.1 ok.0, (payload_exactly mode (few ok.0) interface type c.second).1 ok.1),
    )
    (λ ok. packet_shows_exactly mode r ok.0 type)
