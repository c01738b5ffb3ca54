-- A record is clear of its refusals exactly where it is acceptable: where its mode counts, the clock, stepped picture by picture from midnight, shows its picture, no
-- unused bit is set and its groups are up to 15.
-- Assumes nothing.
use Prim.Native.Nat.{ℕ, zero, suc, ◌≤◌, ◌<◌}
use mathlib.Core.Path.{◌≡◌, refl, ◌∙◌}
use mathlib.Core.Bool.{Bool, true, false, not, ◌&&◌, ◌||◌, cond, true≢false}
use mathlib.Core.List.{List}
use mathlib.Core.Logic.{◌↔◌, ◌⊎◌, inl, inr, ⊎_elim}
use native.Mathlib.Omega.{arith}
use borrow.Author.Tests.{leb-false, lt-leb, lt-ltb}
use Rattle.refusals.specs.declared.types.Refusal.TheVariants.{OutsideTheClock, SkippedAddress, UnknownMode, UnusedBitSet}
use Rattle.refusals.specs.Answer.{Cause}
use Rattle.refusals.proofs.Answered.{Clear, neither}
use Rattle.refusals.proofs.ByNumber.{clear_at, clear_from}
use Rattle.rates.specs.declared.types.Rate.{Rate}
use Rattle.rates.specs.declared.types.Flag.{Flag}
use Rattle.rates.specs.declared.types.Flag.TheVariants.{No, Yes}
use Rattle.rates.specs.Face.{outside, skipped}
use Rattle.rates.specs.Rates.{is_yes, frames_in_second, may_drop}
use Rattle.midnight.proofs.Answers.{counts}
use Rattle.pictures.specs.declared.types.Picture.{Picture}
use Rattle.pictures.specs.Pictures.{picture, place_outside, place_unused, picture_number}
use Rattle.pictures.specs.Calls.{picture_refusals}
use Rattle.pictures.proofs.Sizes.{place_clear}
use Rattle.pictures.proofs.Shown.{shown_at_number, shown_only}
use Rattle.pictures.proofs.Answers.{sound}
use Rattle.record.specs.declared.types.Flags.{Flags}
use Rattle.record.specs.declared.types.Record.{Record}
use Rattle.layout.specs.Flags.{unused_colour}
use Rattle.record.specs.Record.{group_above_15}
use Rattle.modes.specs.Calls.{write_refusals_in}
use Rattle.modes.specs.Modes.{unknown, uncounted, high_rate, rate_at, pictures_at, with_mode, with_counting}
use Rattle.modes.proofs.EachMode.{some_picture, several_share, high_exactly, low_known}
use Rattle.superframes.specs.SubFrames.{flag_besides_drop}
use Rattle.ltc.proofs.Evened.{is_no}
use Rattle.atc.specs.Records.{record_refusals_for}
use Rattle.demands.specs.Modes.{CountingMode, at24, at25, at30, at30drop, at48, at50, at60, at60drop, at72, at96, at100, at24x5, at30x4, at30x4drop}
use Rattle.demands.specs.Records.{DropAlone, Acceptable, OnLines}

-- "LTC and VITC refuse them by 2, and 2 begins above 10 elsewhere"
pub known_exactly : (mode : ℕ) → (unknown mode ≡ false) ↔ (mode ≤ 5)
unfolding unknown
known_exactly mode = (λ e. let few = leb-false 6 mode e in omega arith, λ low. lt-leb 6 mode (omega arith))

pub counted_exactly : (mode : ℕ) → (uncounted mode ≡ false) ↔ (mode ≤ 10)
unfolding uncounted
counted_exactly mode = (λ e. let few = leb-false 11 mode e in omega arith, λ low. lt-leb 11 mode (omega arith))

-- a mode that is counted is one of a high frame rate, or one that the lines know
pub low_exactly : (mode : ℕ) → mode ≤ 10 → (high_rate mode ≡ false) ↔ (mode ≤ 5)
low_exactly mode few = (
  λ e. (known_exactly mode).0 (low_known mode e ∙ (counted_exactly mode).1 few),
  λ low. go (high_rate mode) refl low,
)
  where
    go : (t : Bool) → high_rate mode ≡ t → mode ≤ 5 → t ≡ false
    go true t low = let within = (high_exactly mode).0 t in absurd (omega arith)
    go false t low = refl

pub known : {mode : ℕ} {drop : Flag} → CountingMode mode drop → uncounted mode ≡ false
unfolding uncounted
known at24 = refl
known at25 = refl
known at30 = refl
known at30drop = refl
known at48 = refl
known at50 = refl
known at60 = refl
known at60drop = refl
known at72 = refl
known at96 = refl
known at100 = refl
known at24x5 = refl
known at30x4 = refl
known at30x4drop = refl

pub allowed : {mode : ℕ} {drop : Flag} → CountingMode mode drop → (is_yes drop && not (may_drop (rate_at mode))) ≡ false
unfolding rate_at
allowed at24 = refl
allowed at25 = refl
allowed at30 = refl
allowed at30drop = refl
allowed at48 = refl
allowed at50 = refl
allowed at60 = refl
allowed at60drop = refl
allowed at72 = refl
allowed at96 = refl
allowed at100 = refl
allowed at24x5 = refl
allowed at30x4 = refl
allowed at30x4drop = refl

counting : (mode : ℕ) (drop : Flag) → uncounted mode ≡ false → (is_yes drop && not (may_drop (rate_at mode))) ≡ false → CountingMode mode drop
unfolding uncounted rate_at
counting zero No low drops = at24
counting zero Yes low drops = absurd (true≢false drops)
counting (suc zero) No low drops = at25
counting (suc zero) Yes low drops = absurd (true≢false drops)
counting (suc (suc zero)) No low drops = at30
counting (suc (suc zero)) Yes low drops = at30drop
counting (suc (suc (suc zero))) No low drops = at48
counting (suc (suc (suc zero))) Yes low drops = absurd (true≢false drops)
counting (suc (suc (suc (suc zero)))) No low drops = at50
counting (suc (suc (suc (suc zero)))) Yes low drops = absurd (true≢false drops)
counting (suc (suc (suc (suc (suc zero))))) No low drops = at60
counting (suc (suc (suc (suc (suc zero))))) Yes low drops = at60drop
counting (suc (suc (suc (suc (suc (suc zero)))))) No low drops = at72
counting (suc (suc (suc (suc (suc (suc zero)))))) Yes low drops = absurd (true≢false drops)
counting (suc (suc (suc (suc (suc (suc (suc zero))))))) No low drops = at96
counting (suc (suc (suc (suc (suc (suc (suc zero))))))) Yes low drops = absurd (true≢false drops)
counting (suc (suc (suc (suc (suc (suc (suc (suc zero)))))))) No low drops = at100
counting (suc (suc (suc (suc (suc (suc (suc (suc zero)))))))) Yes low drops = absurd (true≢false drops)
counting (suc (suc (suc (suc (suc (suc (suc (suc (suc zero))))))))) No low drops = at24x5
counting (suc (suc (suc (suc (suc (suc (suc (suc (suc zero))))))))) Yes low drops = absurd (true≢false drops)
counting (suc (suc (suc (suc (suc (suc (suc (suc (suc (suc zero)))))))))) No low drops = at30x4
counting (suc (suc (suc (suc (suc (suc (suc (suc (suc (suc zero)))))))))) Yes low drops = at30x4drop
counting (suc (suc (suc (suc (suc (suc (suc (suc (suc (suc (suc mode))))))))))) drop low drops =
    let few = leb-false 11 (suc (suc (suc (suc (suc (suc (suc (suc (suc (suc (suc mode))))))))))) low in absurd (omega arith)

-- the colour bit is unused in modes 0 and 3
colour_of : (mode : ℕ) (colour : Flag) → unused_colour (rate_at mode) colour ≡ false → (mode ≡ 0) ⊎ (mode ≡ 3) → colour ≡ No
unfolding rate_at
colour_of mode No unused none = refl
colour_of mode Yes unused (inl none) = absurd (true≢false (rw none at unused))
colour_of mode Yes unused (inr none) = absurd (true≢false (rw none at unused))

colour_unused : (mode : ℕ) (colour : Flag) → mode ≤ 5 → ((mode ≡ 0) ⊎ (mode ≡ 3) → colour ≡ No) → unused_colour (rate_at mode) colour ≡ false
unfolding rate_at
colour_unused zero colour low colourless = rw (colourless (inl refl))
colour_unused (suc zero) colour low colourless = refl
colour_unused (suc (suc zero)) colour low colourless = refl
colour_unused (suc (suc (suc zero))) colour low colourless = rw (colourless (inr refl))
colour_unused (suc (suc (suc (suc zero)))) colour low colourless = refl
colour_unused (suc (suc (suc (suc (suc zero))))) colour low colourless = refl
colour_unused (suc (suc (suc (suc (suc (suc mode)))))) colour low colourless = absurd (omega arith)

-- no flag but drop is set
pub drop_alone : (f : Flags) → (flag_besides_drop f ≡ false) ↔ DropAlone f
drop_alone f = (
  λ e.
      (let colour = neither (is_yes f.colour) _ e in
      let mark = neither (is_yes f.mark) _ colour.1 in
      let bgf0 = neither (is_yes f.bgf0) _ mark.1 in
      let rest = neither (is_yes f.bgf1) _ bgf0.1 in
      record {
        colour = is_no f.colour colour.0;
        mark = is_no f.mark mark.0;
        bgf0 = is_no f.bgf0 bgf0.0;
        bgf1 = is_no f.bgf1 rest.0;
        bgf2 = is_no f.bgf2 rest.1;
      }),
  λ none. rw (none.colour, none.mark, none.bgf0, none.bgf1, none.bgf2),
)

module _ (mode : ℕ) (r : Record) where
  abbrev rate : Rate
  rate = rate_at mode

  abbrev fps : ℕ
  fps = frames_in_second rate

  abbrev dropped : Bool
  dropped = is_yes r.flags.drop

  abbrev own : Picture
  own = picture r.address r.place

  abbrev rows : List Cause
  rows = with_counting mode (record_refusals_for mode r)

  -- what makes 10 apply besides drop, by the family of the mode
  abbrev unused : Bool
  unused = place_unused (pictures_at mode) r.place || unused_colour rate r.flags.colour

  -- where it does not, the place is used, and the flags are as the mode asks
  record Used : Type 0 where
    place : place_unused (pictures_at mode) r.place ≡ false
    colourless : (mode ≡ 0) ⊎ (mode ≡ 3) → r.flags.colour ≡ No
    plain : 6 ≤ mode → DropAlone r.flags

  used : mode ≤ 10 → cond (high_rate mode) (flag_besides_drop r.flags) unused ≡ false → Used
  used few e = go (high_rate mode) refl e
    where
      go : (t : Bool) → high_rate mode ≡ t → cond t (flag_besides_drop r.flags) unused ≡ false → Used
      go true t e =
          let within = (high_exactly mode).0 t in
          let several = several_share mode (omega arith) in
          record {
            place = rw (lt-ltb 1 (pictures_at mode) several);
            colourless = λ (none : (mode ≡ 0) ⊎ (mode ≡ 3)). absurd (⊎_elim (λ (zero : mode ≡ 0). omega arith) (λ (three : mode ≡ 3). omega arith) none);
            plain = λ high. (drop_alone r.flags).0 e;
          }
      go false t e =
          let low = (low_exactly mode few).0 t in
          let tests = neither (place_unused (pictures_at mode) r.place) (unused_colour rate r.flags.colour) e in
          record {
            place = tests.0;
            colourless = colour_of mode r.flags.colour tests.1;
            plain = λ high. absurd (omega arith);
          }

  unused_not : place_unused (pictures_at mode) r.place ≡ false → Acceptable mode r → cond (high_rate mode) (flag_besides_drop r.flags) unused ≡ false
  unused_not place ok = go (high_rate mode) refl
    where
      go : (t : Bool) → high_rate mode ≡ t → cond t (flag_besides_drop r.flags) unused ≡ false
      go true t = (drop_alone r.flags).1 (ok.plain ((high_exactly mode).0 t).0)
      go false t =
          let low = (low_exactly mode ((counted_exactly mode).0 (known ok.counts))).0 t in
          rw place (colour_unused mode r.flags.colour low ok.colourless)

  there : Clear rows → Acceptable mode r
  there clear =
      let eight =
      neither (place_outside (pictures_at mode) r.place || group_above_15 r.groups) (outside fps r.address) (clear_at OutsideTheClock rows clear) in
      let bad = neither (place_outside (pictures_at mode) r.place) (group_above_15 r.groups) eight.0 in
      let ten = neither (cond (high_rate mode) (flag_besides_drop r.flags) unused) (dropped && not (may_drop rate)) (clear_at UnusedBitSet rows clear) in
      let is_used = used ((counted_exactly mode).0 (clear_at UnknownMode rows clear)) ten.0 in
      let stands : Clear (picture_refusals rate (pictures_at mode) r.flags.drop own) =
      (rw bad.0 eight.1, (clear_at SkippedAddress rows clear, (rw is_used.place ten.1, tt))) in
      let is = sound rate (pictures_at mode) r.flags.drop (some_picture mode) own stands in
      record {
        counts = counting mode r.flags.drop (clear_at UnknownMode rows clear) ten.1;
        steps = picture_number fps (pictures_at mode) dropped own;
        shows = shown_at_number fps (pictures_at mode) dropped (some_picture mode) is.counts.way own is.stands is.place;
        colourless = is_used.colourless;
        plain = is_used.plain;
        groups = bad.1;
      }

  back : Acceptable mode r → Clear rows
  back ok =
      let kind = counts rate dropped (allowed ok.counts) in
      let is = shown_only fps (pictures_at mode) dropped (some_picture mode) kind.way own ok.steps ok.shows in
      let place = place_clear (pictures_at mode) r.place is.1 in
      let tests = neither (outside fps r.address) (dropped && skipped r.address) is.0 in
      let nine = kind.nine (skipped r.address) ∙ tests.1 in (
        known ok.counts,
        (
          rw (place.0, ok.groups) tests.0,
          (nine, (rw (unused_not place.1 ok) (allowed ok.counts), tt)),
        ),
      )

  -- a record is clear of its refusals in a packet exactly where it is acceptable, and on a line where the line knows the mode besides
  pub acceptable_exactly : Clear rows ↔ Acceptable mode r
  acceptable_exactly = (there, back)

  pub on_lines_exactly : Clear (with_mode mode (write_refusals_in mode r)) ↔ OnLines mode r
  on_lines_exactly = (
    λ clear.
        (let line = with_mode mode (write_refusals_in mode r) in
        let low = (known_exactly mode).0 (clear_at UnknownMode line clear) in
        let few : mode ≤ 10 = omega arith in
        let high = (low_exactly mode few).1 low in
        (low, there ((counted_exactly mode).1 few, rw high (clear_from OutsideTheClock line clear)))),
    λ ok.
        (let few : mode ≤ 10 = let low = ok.0 in omega arith in
        let high = (low_exactly mode few).1 ok.0 in
        ((known_exactly mode).1 ok.0, (rw high at (clear_from OutsideTheClock rows (back ok.1))))),
  )

  -- the place of an acceptable record is one of the mode's
  pub place_shown : Acceptable mode r → r.place < pictures_at mode
  place_shown ok =
      let kind = counts rate dropped (allowed ok.counts) in
      (shown_only fps (pictures_at mode) dropped (some_picture mode) kind.way own ok.steps ok.shows).1
