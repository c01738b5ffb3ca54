-- A block is its single steps: the reader that it leaves is the one that its bits, one by one, bring about.
-- Assumes nothing.
use Prim.Native.Nat.{ℕ, suc, ◌+◌, ◌-◌, ◌<◌}
use mathlib.Core.Path.{◌≡◌, refl, sym, ap, ap₂, ◌∙◌}
use mathlib.Core.Bool.{Bool, true, false, true≢false}
use mathlib.Core.List.{List, [], ◌∷◌, ◌++◌}
use native.Mathlib.Numerals.{add-one}
use native.Mathlib.Omega.{arith}
use lib.Dec.{ltb, eqb}
use lib.ListN.{length, take}
use borrow.Author.Tests.{le-ltb}
use Rattle.bits.specs.Bits.{AllBits}
use Rattle.bits.proofs.Bit.{head_within, tail_within}
use Rattle.register.specs.declared.types.Reader.{Reader}
use Rattle.hearing.specs.declared.types.Heard.{Heard}
use Rattle.hearing.specs.declared.types.Heard.TheVariants.{Nothing, Accepted, Refused}
use Rattle.reader.specs.declared.types.Blocked.{Blocked}
use Rattle.reader.specs.Steps.{stepped_of}
use Rattle.reader.specs.Blocks.{is_answer, one_more, going}
use Rattle.following.specs.Reach.{fed, answers}
use Rattle.following.specs.Cuts.{said}
use Rattle.following.proofs.Passing.{high_not_taken}

pub block_fed : (run : List ℕ) (r : Reader) (limit : ℕ) → fed r (take (going r limit run).taken run) ≡ (going r limit run).reader
unfolding going fed
block_fed [] r limit = refl
block_fed (element ∷ elements) r limit =
    go (eqb limit 0) refl (ltb 1 element) refl (is_answer (stepped_of r element).heard) refl (block_fed elements (stepped_of r element).reader (limit - 1))
  where
    next : Reader
    next = (stepped_of r element).reader

    Said : Type 0
    Said = fed r (take (going r limit (element ∷ elements)).taken (element ∷ elements)) ≡ (going r limit (element ∷ elements)).reader

    go : (l : Bool) → eqb limit 0 ≡ l → (h : Bool) → ltb 1 element ≡ h → (a : Bool) → is_answer (stepped_of r element).heard ≡ a
        → fed next (take (going next (limit - 1) elements).taken elements) ≡ (going next (limit - 1) elements).reader → Said
    go true l h e a f rest = rw l
    go false l true e a f rest = rw (l, e) (sym (high_not_taken r element e))
    go false l false e true f rest = rw (l, e, f)
    go false l false e false f rest = rw (l, e, f, add-one (going next (limit - 1) elements).taken) rest

-- single steps may be cut anywhere
pub fed_cut : (first rest : List ℕ) (r : Reader) → fed r (first ++ rest) ≡ fed (fed r first) rest
unfolding fed
fed_cut [] rest r = refl
fed_cut (element ∷ first) rest r = fed_cut first rest (stepped_of r element).reader

pub answers_cut : (first rest : List ℕ) (r : Reader) → answers r (first ++ rest) ≡ answers r first ++ answers (fed r first) rest
unfolding fed answers
answers_cut [] rest r = refl
answers_cut (element ∷ first) rest r =
    ap (λ (l : List Heard). (stepped_of r element).heard ∷ l) (answers_cut first rest (stepped_of r element).reader)

pub one_answer_each : (elements : List ℕ) (r : Reader) → length (answers r elements) ≡ length elements
unfolding answers
one_answer_each [] r = refl
one_answer_each (element ∷ elements) r = ap suc (one_answer_each elements (stepped_of r element).reader)

quiet : (heard : Heard) → is_answer heard ≡ false → heard ≡ Nothing
quiet Nothing e = refl
quiet (Accepted r) e = absurd (true≢false e)
quiet (Refused n) e = absurd (true≢false e)

-- an answer to bits is an answer to one that was taken
answer_taken : (run : List ℕ) (r : Reader) (limit : ℕ) → AllBits run → is_answer (going r limit run).heard ≡ true → 0 < (going r limit run).taken
unfolding going
answer_taken [] r limit all e = absurd (true≢false (sym e))
answer_taken (element ∷ elements) r limit all e = go (eqb limit 0) refl (is_answer (stepped_of r element).heard) refl
  where
    small : ltb 1 element ≡ false
    small = le-ltb 1 element (head_within 1 element elements all)

    go : (l : Bool) → eqb limit 0 ≡ l → (a : Bool) → is_answer (stepped_of r element).heard ≡ a → 0 < (going r limit (element ∷ elements)).taken
    go true l a f = absurd (true≢false (sym (rw l at e)))
    go false l true f = rw (l, small, f) (omega arith)
    go false l false f = rw (l, small, f) (omega arith)

one_said : (block : Blocked) → (is_answer block.heard ≡ true → 0 < block.taken) → said (one_more block) ≡ Nothing ∷ said block
one_said block some = go (is_answer block.heard) refl
  where
    go : (a : Bool) → is_answer block.heard ≡ a → said (one_more block) ≡ Nothing ∷ said block
    go true a =
        let more = some a in
        let less : block.taken + 1 - 1 ≡ suc (block.taken - 1) = omega arith in
        rw (a, less)
    go false a = rw (a, add-one block.taken)

-- bits in a block have the answers that single steps give
pub block_answers :
    (run : List ℕ) (r : Reader) (limit : ℕ) → AllBits run → answers r (take (going r limit run).taken run) ≡ said (going r limit run)
unfolding going answers
block_answers [] r limit all = refl
block_answers (element ∷ elements) r limit all =
    go (eqb limit 0) refl (is_answer (stepped_of r element).heard) refl
    (block_answers elements (stepped_of r element).reader (limit - 1) (tail_within 1 element elements all))
  where
    next : Reader
    next = (stepped_of r element).reader

    rest : Blocked
    rest = going next (limit - 1) elements

    small : ltb 1 element ≡ false
    small = le-ltb 1 element (head_within 1 element elements all)

    go : (l : Bool) → eqb limit 0 ≡ l → (a : Bool) → is_answer (stepped_of r element).heard ≡ a
        → answers next (take rest.taken elements) ≡ said rest
        → answers r (take (going r limit (element ∷ elements)).taken (element ∷ elements)) ≡ said (going r limit (element ∷ elements))
    go true l a f same = rw l
    go false l true f same = rw (l, small, f) (rw f)
    go false l false f same =
        let silent = quiet (stepped_of r element).heard f in
        let told = one_said rest (answer_taken elements next (limit - 1) (tail_within 1 element elements all)) in
        rw (l, small, f, add-one rest.taken) (ap₂ (λ (h : Heard) (t : List Heard). h ∷ t) silent same ∙ sym (rw (add-one rest.taken) at told))
