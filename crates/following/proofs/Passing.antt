-- A reader whose mode and state are sound stays so, whatever is fed, and a block of it is never refused by 2 or 13.
-- Assumes nothing.
use Prim.Native.Nat.{ℕ}
use mathlib.Core.Path.{◌≡◌, refl, subst, ◌∙◌}
use mathlib.Core.Bool.{Bool, true, false}
use mathlib.Core.List.{List, [], ◌∷◌}
use mathlib.Core.Logic.{⊎_elim}
use lib.Dec.{ltb}
use borrow.Author.Tests.{ltb-false}
use Rattle.refusals.specs.declared.types.Refusal.{Refusal}
use Rattle.refusals.specs.declared.types.Refusal.TheVariants.{ElementTooHigh}
use Rattle.refusals.specs.Answer.{test_of}
use Rattle.refusals.proofs.Answered.{kept, carried, otherwise_accepted, clear_or_refused}
use Rattle.refusals.proofs.ByNumber.{not_clear}
use Rattle.bits.specs.Bits.{to_bits, how_many}
use Rattle.modes.specs.Modes.{unknown}
use Rattle.register.specs.declared.types.Reader.{Reader}
use Rattle.hearing.specs.declared.types.Heard.TheVariants.{Refused}
use Rattle.reader.specs.declared.types.Stepped.{Stepped}
use Rattle.register.specs.Held.{held_bits, push, reader_with, fresh_of, unreached}
use Rattle.reader.specs.Steps.{after, feed_refusals, bit_taken, stepped_of}
use Rattle.reader.specs.Blocks.{going, blocked_of}
use Rattle.reader.specs.Feeding.{Passing}
use Rattle.following.specs.Counting.{takes_bit}
use Rattle.following.specs.Reach.{fed, Reached}
use Rattle.register.proofs.Registers.{held_clean, check_of}
use Rattle.reader.proofs.Taken.{push_few, push_clean}

-- "A reader refused with 2, 3 or 13 comes back the same, with that bit not taken": whichever of the three applies
pub not_taken : (r : Reader) (element : ℕ) (n : Refusal) → test_of n (feed_refusals r element) ≡ true → ((stepped_of r element).reader ≡ r) × (takes_bit r element ≡ false)
unfolding stepped_of
not_taken r element n refused =
    let rows = feed_refusals r element in
    let some = not_clear n rows refused in
    let back = carried (λ (s : Stepped). s.reader) (λ (k : Refusal). after r (Refused k)) (bit_taken r element) rows in
    (back ∙ kept r (bit_taken r element).reader rows some, kept false true rows some)

-- by 3, an element above 1
pub high_not_taken : (r : Reader) (element : ℕ) → ltb 1 element ≡ true → (stepped_of r element).reader ≡ r
high_not_taken r element high = (not_taken r element ElementTooHigh high).0

-- a bit is pushed onto the list
pub passing_takes : (r : Reader) (element : ℕ) → Passing r → ltb 1 element ≡ false → stepped_of r element ≡ bit_taken r element
unfolding stepped_of
passing_takes r element p small = rw (p.known, p.passes, small)

pub step_passing : (r : Reader) (element : ℕ) → Passing r → Passing (stepped_of r element).reader
unfolding reader_with
step_passing r element p = go (ltb 1 element) refl
  where
    bits : List ℕ
    bits = held_bits r

    go : (t : Bool) → ltb 1 element ≡ t → Passing (stepped_of r element).reader
    go true t = rw (high_not_taken r element t) p
    go false t =
        let small = ltb-false 1 element t in
        rw (passing_takes r element p t)
        record {
          known = p.known;
          passes = check_of r.mode r.ways (push bits element) (push_few bits element) (push_clean bits element (held_clean r) small);
        }

-- and the mode and the ways stay, whatever is fed
pub step_keeps : (r : Reader) (element : ℕ) → ((stepped_of r element).reader.mode ≡ r.mode) × ((stepped_of r element).reader.ways ≡ r.ways)
unfolding stepped_of reader_with
step_keeps r element =
    let rows = feed_refusals r element in
    ⊎_elim
    (λ clear. rw (otherwise_accepted (λ (n : Refusal). after r (Refused n)) (bit_taken r element) rows clear) (refl, refl))
    (λ given. rw given.1 (refl, refl))
    (clear_or_refused (λ (n : Refusal). after r (Refused n)) (bit_taken r element) rows)

pub fed_passing : (elements : List ℕ) (r : Reader) → Passing r → Passing (fed r elements)
unfolding fed
fed_passing [] r p = p
fed_passing (element ∷ elements) r p = fed_passing elements (stepped_of r element).reader (step_passing r element p)

-- so a state that feeding reaches is sound
pub reached_passing : (r : Reader) → unknown r.mode ≡ false → Reached r → Passing r
unfolding unreached to_bits how_many
reached_passing r known reached =
    subst Passing reached.brought (fed_passing reached.elements (fresh_of r.mode r.ways) record { known = known; passes = refl })

pub passing_goes : (r : Reader) (limit : ℕ) (run : List ℕ) → Passing r → blocked_of r limit run ≡ going r limit run
unfolding blocked_of
passing_goes r limit run p = rw (p.known, p.passes)
