-- A block's answer and its line are those of its single steps: the lines of a run of bits are the line of its first block, and then the lines of the rest.
-- Assumes nothing.
use Rattle.std.proofs.Common.{◌≡◌, ℕ, zero, suc, ◌+◌, ◌-◌, ◌%◌, ◌^◌, ◌<◌, Bool, true, false, List, [], ◌∷◌, ◌++◌, length, drop, replicate, sym, refl, ap, ◌∙◌, true≢false, arith, length-drop, take_all}
use Rattle.bits.specs.Bits.{AllBits}
use Rattle.register.specs.declared.types.Reader.{Reader}
use Rattle.hearing.specs.declared.types.Heard.{Heard}
use Rattle.hearing.specs.declared.types.Heard.TheVariants.{Nothing, Accepted, Refused}
use Rattle.reader.specs.declared.types.Blocked.{Blocked}
use Rattle.reader.specs.Blocks.{is_answer, blocked_of}
use Rattle.following.specs.Reach.{fed, answers}
use Rattle.following.specs.Cuts.{said, Cut, cut_block}
use Rattle.reader.specs.Feeding.{Passing}
use Rattle.following.proofs.OneBlock.{next_passing, block_then_fed, block_then_answers, rest_shorter}
use Rattle.lines.specs.Lines.{line_of}
use Rattle.scribe.specs.Told.{one_on, lines_of}
use Rattle.scribe.specs.Blocks.{block_of, bits_after, line_of_block}

-- bit by bit or all at once, the bits so far are the same
pub counted_on : (bits more : ℕ) → (one_on bits + more) % 2 ^ 64 ≡ (bits + suc more) % 2 ^ 64
counted_on bits more = omega arith

-- nothing is told of bits without an answer
quiet_lines : (n bits : ℕ) (rest : List Heard) → lines_of bits (replicate (suc n) Nothing ++ rest) ≡ lines_of ((bits + suc n) % 2 ^ 64) rest
unfolding lines_of line_of
quiet_lines zero bits rest = refl
quiet_lines (suc n) bits rest = quiet_lines n (one_on bits) rest ∙ ap (λ (b : ℕ). lines_of b rest) (counted_on bits (suc n))

-- and an answer's line comes after them
one_line :
    (n bits : ℕ) (heard : Heard) (rest : List Heard)
    → lines_of bits ((replicate n Nothing ++ (heard ∷ [])) ++ rest) ≡ line_of ((bits + suc n) % 2 ^ 64) heard ++ lines_of ((bits + suc n) % 2 ^ 64) rest
unfolding lines_of line_of
one_line zero bits heard rest = refl
one_line (suc n) bits heard rest =
    one_line n (one_on bits) heard rest ∙ ap (λ (b : ℕ). line_of b heard ++ lines_of b rest) (counted_on bits (suc n))

no_line : (bits : ℕ) (heard : Heard) → is_answer heard ≡ false → line_of bits heard ≡ []
unfolding line_of
no_line bits Nothing e = refl
no_line bits (Accepted r) e = absurd (true≢false e)
no_line bits (Refused n) e = absurd (true≢false e)

said_lines :
    (bits : ℕ) (block : Blocked) (rest : List Heard) → 0 < block.taken
    → lines_of bits (said block ++ rest) ≡ line_of ((bits + block.taken) % 2 ^ 64) block.heard ++ lines_of ((bits + block.taken) % 2 ^ 64) rest
said_lines bits block rest some = go (is_answer block.heard) refl
  where
    more : block.taken ≡ suc (block.taken - 1)
    more = omega arith

    go : (a : Bool) → is_answer block.heard ≡ a
        → lines_of bits (said block ++ rest) ≡ line_of ((bits + block.taken) % 2 ^ 64) block.heard ++ lines_of ((bits + block.taken) % 2 ^ 64) rest
    go true a =
        let told = one_line (block.taken - 1) bits block.heard rest in
        rw a (rw (← more) at told)
    go false a =
        rw (a, no_line ((bits + block.taken) % 2 ^ 64) block.heard a)
        (ap (λ (k : ℕ). lines_of bits (replicate k Nothing ++ rest)) more
        ∙ quiet_lines (block.taken - 1) bits rest
        ∙ ap (λ (k : ℕ). lines_of ((bits + k) % 2 ^ 64) rest) (sym more))

module _ (r : Reader) (p : Passing r) (bits : ℕ) (run : List ℕ) (all : AllBits run) (some : 0 < length run) where
  whole : Cut
  whole = record { limit = length run; lent = length run }

  same_block : cut_block r whole run ≡ block_of r run
  unfolding whole
  same_block = ap (blocked_of r (length run)) (take_all (length run) run (omega arith))

  pub takes_some : 0 < (block_of r run).taken
  unfolding whole
  takes_some =
      let shorter = rw same_block at (rest_shorter r p whole run all some some) in
      omega (arith, length-drop (block_of r run).taken run)

  pub block_passing : Passing (block_of r run).reader
  block_passing = rw same_block at (next_passing r p whole run all)

  pub fed_on : fed r run ≡ fed (block_of r run).reader (drop (block_of r run).taken run)
  fed_on = rw same_block at (block_then_fed r p whole run all)

  pub lines_on :
      lines_of bits (answers r run)
      ≡ line_of_block r bits run ++ lines_of (bits_after r bits run) (answers (block_of r run).reader (drop (block_of r run).taken run))
  lines_on =
      ap (lines_of bits) (rw same_block at (block_then_answers r p whole run all))
      ∙ said_lines bits (block_of r run) (answers (block_of r run).reader (drop (block_of r run).taken run)) takes_some
