-- Which picture a word, a line or a packet shows, in the request's words: what the calls test, and what the demands say.
-- Assumes nothing.
use Prim.Native.Nat.{ℕ, ◌<◌, ◌≤◌}
use mathlib.Core.Path.{◌≡◌, refl, sym, ◌∙◌}
use mathlib.Core.Bool.{Bool, true, false, not, cond, true≢false}
use mathlib.Core.Logic.{◌↔◌}
use native.Mathlib.Omega.{arith}
use lib.Dec.{leb, eqb}
use borrow.Author.Tests.{leb-true, leb-false, eqb-true, eq-eqb, not-false}
use Rattle.layout.specs.Flags.{bit_of}
use Rattle.record.specs.declared.types.Record.{Record}
use Rattle.modes.specs.declared.types.Shows.TheVariants.{First, ByMark}
use Rattle.modes.specs.Shown.{unshown}
use Rattle.modes.specs.Modes.{high_rate}
use Rattle.modes.proofs.EachMode.{alone, pairs, high_exactly}
use Rattle.atc.specs.Records.{shows_by}
use Rattle.demands.specs.Records.{Acceptable, FirstPicture, MarkSays, PacketShows}
use Rattle.demands.proofs.Accepted.{known, counted_exactly, low_exactly, place_shown}

-- a test that two numbers differ, not met
equal_exactly : (m n : ℕ) → (not (eqb m n) ≡ false) ↔ (m ≡ n)
equal_exactly m n = (λ e. eqb-true m n (not-false (eqb m n) e), λ e. rw (eq-eqb m n e))

module _ (mode : ℕ) (r : Record) where
  pub first_exactly : (unshown mode First r ≡ false) ↔ FirstPicture r
  first_exactly = equal_exactly r.place 0

  module _ (ok : Acceptable mode r) where
    pub mark_says_exactly : mode ≤ 5 → (unshown mode ByMark r ≡ false) ↔ MarkSays mode r
    mark_says_exactly line = go (leb 3 mode) refl
      where
        go : (t : Bool) → leb 3 mode ≡ t → (unshown mode ByMark r ≡ false) ↔ MarkSays mode r
        go true t =
            let more = leb-true 3 mode t in
            let same = equal_exactly r.place (bit_of r.flags.mark) in
            rw (pairs mode more line) (λ e few within. same.0 e, λ says. same.1 (says more line))
        go false t =
            let few = leb-false 3 mode t in
            let none : r.place < 1 = rw (alone mode few) at (place_shown mode r ok) in
            rw (alone mode few) (λ e more within. absurd (omega arith), λ says. (equal_exactly r.place 0).1 (omega arith))

    -- of a type, on a mode that lines know
    typed_exactly : mode ≤ 5 → (type : ℕ) → (unshown mode (shows_by type) r ≡ false) ↔ PacketShows mode type r
    typed_exactly line type = go (eqb type 0) refl
      where
        go : (t : Bool) → eqb type 0 ≡ t → (unshown mode (shows_by type) r ≡ false) ↔ PacketShows mode type r
        go true t =
            let zero = eqb-true type 0 t in
            rw t (
              λ e. record { first = λ low same. first_exactly.0 e; by_mark = λ other. absurd (other zero) },
              λ shows. first_exactly.1 (shows.first line zero),
            )
        go false t =
            let other : type ≡ 0 → ⊥ = λ same. true≢false (sym (eq-eqb type 0 same) ∙ t) in
            rw t (
              λ e. record { first = λ low same. absurd (other same); by_mark = λ some. (mark_says_exactly line).0 e },
              λ shows. (mark_says_exactly line).1 (shows.by_mark other),
            )

    pub packet_shows_exactly : (type : ℕ) → (cond (high_rate mode) false (unshown mode (shows_by type) r) ≡ false) ↔ PacketShows mode type r
    packet_shows_exactly type = go (high_rate mode) refl
      where
        go : (t : Bool) → high_rate mode ≡ t → (cond t false (unshown mode (shows_by type) r) ≡ false) ↔ PacketShows mode type r
        go true t =
            let high = ((high_exactly mode).0 t).0 in
            (λ e. record { first = λ low same. absurd (omega arith); by_mark = λ some more low. absurd (omega arith) }, λ shows. refl)
        go false t = typed_exactly ((low_exactly mode ((counted_exactly mode).0 (known ok.counts))).0 t) type
