-- The loop over the blocks of a run begins, goes on and ends.
-- Assumes nothing.
use Rattle.std.proofs.Common.{◌≡◌, ℕ, ◌+◌, ◌-◌, ◌%◌, ◌^◌, ◌<◌, ◌≤◌, ◌==◌, Bool, true, false, true≢false, eqb-true, List, [], ◌∷◌, ◌++◌, length, take, drop, sym, refl, ap, ◌∙◌, append_assoc, append-nil, zero-add, arith, length-append, length-drop, take_all}
use Rattle.bits.specs.Bits.{AllBits}
use Rattle.bits.proofs.Bit.{within_drop}
use Rattle.runs.specs.Run.{placed}
use Rattle.register.specs.declared.types.Reader.{Reader}
use Rattle.following.specs.Reach.{fed, answers}
use Rattle.reader.specs.Feeding.{Passing}
use Rattle.following.proofs.OneBlock.{taken_within}
use Rattle.text.specs.Gathered.{out_after}
use Rattle.text.proofs.Laid.{placed_none, placed_length, laid_two}
use Rattle.text.proofs.Appends.{stands}
use Rattle.lines.proofs.Short.{line_short}
use Rattle.scribe.specs.declared.types.Block.{Block}
use Rattle.scribe.specs.Told.{lines_of}
use Rattle.scribe.specs.Blocks.{block_of, bits_after, line_of_block, block_told, run_told}
use Rattle.scribe.specs.Loops.{Ready, Following}
use Rattle.scribe.proofs.Lined.{takes_some, block_passing, fed_on, lines_on}

-- what is lent from a place on
pub rest_of : (run : List ℕ) (done : ℕ) → take (length run - done) (drop done run) ≡ drop done run
rest_of run done = take_all (length run - done) (drop done run) (rw length-drop (omega arith))

-- what is asked of the rest at each turn
pub some_left : (rest : List ℕ) {empty : Bool} → empty ≡ (length rest == 0) → empty ≡ false → 0 < length rest
some_left [] asked e = absurd (true≢false (sym asked ∙ e))
some_left (b ∷ rest) asked e = omega arith

pub none_left : (rest : List ℕ) {empty : Bool} → empty ≡ (length rest == 0) → empty ≡ true → rest ≡ []
none_left [] asked e = refl
none_left (b ∷ rest) asked e = absurd (omega (arith, eqb-true (length (b ∷ rest)) 0 (sym asked ∙ e)))

module _ (first : Reader) (bits : ℕ) (run whole : List ℕ) where
  pub following_begins : Ready first run whole → AllBits run → bits < 2 ^ 64 → Following first bits run whole first bits 0 run whole
  following_begins ready clean low =
      record {
        done = 0;
        parted = omega arith;
        clean = clean;
        ready = ready;
        few = omega arith;
        text = [];
        long = refl;
        stands = sym (placed_none 0 whole);
        counts = omega arith;
        told = refl;
        onward = refl;
      }

  module _ (now : Reader) (so_far at : ℕ) (rest out : List ℕ) (f : Following first bits run whole now so_far at rest out) where
    passing : Passing now
    passing = f.ready.sound

    fits : 0 + length f.text ≤ length whole
    fits = omega (arith, f.long, f.few, f.parted, f.ready.room)

    pub following_long : length out ≡ length whole
    following_long = rw f.stands (placed_length 0 f.text whole fits)

    pub following_ends :
        rest ≡ []
        → (record { reader = now; bits = so_far; taken = length run; at = at } ≡ run_told first bits run)
        × (out ≡ placed 0 (lines_of bits (answers first run)) whole)
    unfolding run_told fed answers lines_of
    following_ends none =
        let all : f.done ≡ length run = omega (arith, f.parted, ap length none) in
        let lines : lines_of bits (answers first run) ≡ f.text = rw none at f.told ∙ append-nil f.text in
        let last : fed first run ≡ now = rw none at f.onward in
        let size : at ≡ length (lines_of bits (answers first run)) = f.long ∙ ap length (sym lines) in
        let count : so_far ≡ (bits + length run) % 2 ^ 64 = f.counts ∙ rw all in
        (λ i. record { reader = sym last i; bits = count i; taken = length run; at = size i }, f.stands ∙ rw lines)

    module _ (some : 0 < length rest) (block : Block) (told : block ≡ block_told now so_far rest out at) where
      abbrev line : List ℕ
      line = line_of_block now so_far rest

      taken_is : block.taken ≡ (block_of now rest).taken
      unfolding block_told
      taken_is = ap (λ (b : Block). b.taken) told

      takes_one : 0 < block.taken
      takes_one = rw taken_is (takes_some now passing so_far rest f.clean some)

      pub stays_within : block.taken ≤ length rest
      stays_within = omega (arith, taken_is, taken_within now (length rest) rest)

      pub grows_shorter : length (take (length rest - block.taken) (drop block.taken rest)) < length rest
      grows_shorter = rw (rest_of, length-drop) (omega (arith, takes_one, stays_within))

      pub following_turns :
          (after : List ℕ) → after ≡ out_after (line_of_block now so_far rest) at out
          → Following first bits run whole block.reader block.bits block.at (take (length rest - block.taken) (drop block.taken rest)) after
      unfolding block_told
      following_turns after made =
          let short = line_short (bits_after now so_far rest) (block_of now rest).heard in
          let room : at + length line ≤ length out =
          omega (arith, following_long, short, f.few, f.parted, some, f.ready.room) in
          let placed_at_lem = stands line at out room (refl, refl) in
          let both = laid_two 0 f.text line whole fits (omega (arith, f.long)) f.stands (ap (λ (b : Block). b.at) told ∙ placed_at_lem.0) (made ∙ placed_at_lem.1) in
          let one = takes_one in
          let next = block_passing now passing so_far rest f.clean some in
          rw (rest_of rest block.taken)
          (record {
            done = f.done + block.taken;
            parted = rw length-drop (omega (arith, f.parted, stays_within));
            clean = within_drop 1 block.taken rest f.clean;
            ready = record { sound = rw told next; room = f.ready.room };
            few = rw (both.0, length-append) (omega (arith, taken_is, one, short, f.few, f.long));
            text = f.text ++ line;
            long = both.0 ∙ zero-add (length (f.text ++ line));
            stands = both.1;
            counts =
                ap (λ (b : Block). b.bits) told
                ∙ rw (f.counts, ← taken_is) (omega arith);
            told =
                f.told
                ∙ ap (λ (l : List ℕ). f.text ++ l) (lines_on now passing so_far rest f.clean some)
                ∙ sym (append_assoc f.text line _)
                ∙ rw told;
            onward = f.onward ∙ fed_on now passing so_far rest f.clean some ∙ rw told;
          })
