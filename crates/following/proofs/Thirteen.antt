-- "reader state that no feeding reaches": in a mode that is known, a step and a block answer 13 exactly for these.
-- Assumes nothing.
use Prim.Native.Nat.{ℕ, ◌-◌, ◌^◌, ◌<◌}
use mathlib.Core.Path.{◌≡◌, refl, ap}
use mathlib.Core.Bool.{Bool, true, false, ◌&&◌, cond}
use mathlib.Core.List.{List, [], ◌∷◌, reverse}
use mathlib.Core.Logic.{◌↔◌}
use native.Mathlib.Omega.{arith}
use lib.Dec.{ltb, eqb}
use lib.ListN.{length, drop}
use Rattle.refusals.specs.Table.{number}
use Rattle.polarity.specs.declared.types.Word.{Word}
use Rattle.refusals.specs.declared.types.Refusal.{Refusal}
use Rattle.std.specs.Prelude.{Err, Result, Ok}
use Rattle.refusals.specs.declared.types.Refusal.TheVariants.{StateNotReached}
use Rattle.refusals.proofs.Answered.{carried, given_below}
use Rattle.runs.specs.Run.{same}
use Rattle.rates.specs.declared.types.Flag.TheVariants.{No}
use Rattle.record.specs.Record.{marked}
use Rattle.modes.specs.Modes.{unknown}
use Rattle.modes.specs.Calls.{record_in}
use Rattle.polarity.specs.Word.{reading, sync_word, info_in, found_in}
use Rattle.ltc.specs.Calls.{read_refusals, read_of}
use Rattle.register.specs.declared.types.Reader.{Reader}
use Rattle.register.specs.declared.types.Ways.{Ways}
use Rattle.register.specs.declared.types.Ways.TheVariants.{ForwardOnly, Both}
use Rattle.hearing.specs.declared.types.Heard.{Heard}
use Rattle.hearing.specs.declared.types.Heard.TheVariants.{Nothing, Accepted, Refused}
use Rattle.register.specs.Held.{held_bits, push, unreached}
use Rattle.hearing.specs.Window.{told, forward_in, told_backward, backward_in, or_else, heard_in}
use Rattle.reader.specs.Steps.{stepped_of}
use Rattle.reader.specs.Blocks.{is_answer, going, blocked_of}
use Rattle.following.specs.Reach.{Reached}
use Rattle.reader.specs.Feeding.{Passing}
use Rattle.following.proofs.Passing.{step_passing, reached_passing, passing_goes}
use Rattle.following.proofs.Reached.{reached_exactly}

-- the number of a refusal
abbrev number_said : Heard → ℕ
number_said Nothing = 0
number_said (Accepted r) = 0
number_said (Refused r) = number r

-- no code word is refused by 13
word_below : (mode : ℕ) (bits : List ℕ) → number_said (told (read_of mode bits)) < 13
unfolding read_of
word_below mode bits =
    rw (carried (λ (w : Result Word Refusal). number_said (told w)) Err (Ok (reading (marked No (record_in mode (info_in bits))) (found_in bits))) (read_refusals mode bits))
    (given_below 13 (omega arith) (read_refusals mode bits) (omega arith))

forward_below : (mode : ℕ) (bits : List ℕ) → number_said (forward_in mode bits) < 13
unfolding forward_in
forward_below mode bits = go (eqb (length bits) 80 && same (drop 64 bits) sync_word)
  where
    go : (t : Bool) → number_said (cond t (told (read_of mode bits)) Nothing) < 13
    go true = word_below mode bits
    go false = omega arith

-- and nothing that is heard backward is refused
backward_below : (ways : Ways) (word : Result Word Refusal) → number_said (told_backward ways word) < 13
backward_below ForwardOnly word = omega arith
backward_below Both (Ok word) = omega arith
backward_below Both (Err n) = omega arith

either_below : (forward backward : Heard) → number_said forward < 13 → number_said backward < 13 → number_said (or_else forward backward) < 13
either_below Nothing backward f b = b
either_below (Accepted r) backward f b = f
either_below (Refused n) backward f b = f

heard_below : (mode : ℕ) (ways : Ways) (bits : List ℕ) → number_said (heard_in mode ways bits) < 13
unfolding heard_in backward_in
heard_below mode ways bits =
    either_below (forward_in mode bits) (backward_in mode ways bits) (forward_below mode bits) (backward_below ways (read_of mode (reverse bits)))

-- a reader whose mode and state are sound never says 13
step_below : (r : Reader) (element : ℕ) → Passing r → number_said (stepped_of r element).heard < 13
unfolding stepped_of
step_below r element p = go (ltb 1 element) refl
  where
    go : (t : Bool) → ltb 1 element ≡ t → number_said (stepped_of r element).heard < 13
    go true t = rw (p.known, p.passes, t) (omega arith)
    go false t = rw (p.known, p.passes, t) (heard_below r.mode r.ways (push (held_bits r) element))

block_below : (run : List ℕ) (r : Reader) (limit : ℕ) → Passing r → number_said (going r limit run).heard < 13
unfolding going
block_below [] r limit p = omega arith
block_below (element ∷ elements) r limit p =
    go (eqb limit 0) refl (ltb 1 element) refl (is_answer (stepped_of r element).heard) refl
    (block_below elements (stepped_of r element).reader (limit - 1) (step_passing r element p))
  where
    go : (l : Bool) → eqb limit 0 ≡ l → (t : Bool) → ltb 1 element ≡ t → (a : Bool) → is_answer (stepped_of r element).heard ≡ a
        → number_said (going (stepped_of r element).reader (limit - 1) elements).heard < 13
        → number_said (going r limit (element ∷ elements)).heard < 13
    go true l t e a f rest = rw l (omega arith)
    go false l true e a f rest = rw (l, e) (step_below r element p)
    go false l false e true f rest = rw (l, e, f) (step_below r element p)
    go false l false e false f rest = rw (l, e, f) rest

module _ (r : Reader) (known : unknown r.mode ≡ false) (low : r.info < 2 ^ 64) (high : r.sync < 2 ^ 16) where
  -- an answer that is 13 where the check fails and below 13 where it passes
  exactly :
      (heard : Heard) → (unreached r ≡ true → heard ≡ Refused StateNotReached) → (Passing r → number_said heard < 13)
      → (heard ≡ Refused StateNotReached) ↔ (Reached r → ⊥)
  exactly heard fails sound = (there, back (unreached r) refl)
    where
      there : heard ≡ Refused StateNotReached → Reached r → ⊥
      there e reached = let below = sound (reached_passing r known reached) in let is : number_said heard ≡ 13 = ap number_said e in omega arith

      back : (t : Bool) → unreached r ≡ t → (Reached r → ⊥) → heard ≡ Refused StateNotReached
      back true t none = fails t
      back false t none = absurd (none ((reached_exactly r known low high).0 t))

  pub step_thirteen : (element : ℕ) → ((stepped_of r element).heard ≡ Refused StateNotReached) ↔ (Reached r → ⊥)
  unfolding stepped_of
  step_thirteen element = exactly (stepped_of r element).heard (λ e. rw (known, e)) (step_below r element)

  pub block_thirteen : (limit : ℕ) (run : List ℕ) → ((blocked_of r limit run).heard ≡ Refused StateNotReached) ↔ (Reached r → ⊥)
  unfolding blocked_of
  block_thirteen limit run =
      exactly (blocked_of r limit run).heard (λ e. rw (known, e)) (λ p. rw (passing_goes r limit run p) (block_below run r limit p))
