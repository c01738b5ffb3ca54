-- A word fed after any past: nothing until its 80th bit, and then its own report.
-- Assumes nothing.
use Prim.Native.Nat.{ℕ, suc, ◌+◌, ◌-◌, ◌<◌, ◌≤◌}
use mathlib.Core.Path.{◌≡◌, refl, sym, ap, ap₂, ◌∙◌}
use mathlib.Core.List.{List, [], ◌∷◌, ◌++◌, append-nil, append_assoc}
use native.Mathlib.Omega.{arith}
use lib.ListN.{length, get_or, take, drop, replicate, length-append, length-drop}
use lib.Seq.{drop_at, drop-cons, split_at, length-take-le}
use borrow.Author.Tests.{le-ltb}
use Rattle.bits.specs.Bits.{AllBits}
use Rattle.bits.proofs.Bit.{head_within, tail_within}
use Rattle.register.specs.declared.types.Reader.{Reader}
use Rattle.register.specs.declared.types.Ways.{Ways}
use Rattle.hearing.specs.declared.types.Heard.{Heard}
use Rattle.reader.specs.declared.types.Stepped.{Stepped}
use Rattle.hearing.specs.declared.types.Heard.TheVariants.{Nothing}
use Rattle.register.specs.Held.{held_bits, latest, push, reader_with}
use Rattle.hearing.specs.Window.{heard_in}
use Rattle.reader.specs.Steps.{stepped_of}
use Rattle.following.specs.Reach.{answers}
use Rattle.reader.specs.Feeding.{Passing}
use Rattle.register.proofs.Registers.{held_of, held_clean}
use Rattle.reader.proofs.Taken.{push_few, push_clean}
use Rattle.following.proofs.Passing.{passing_takes, step_passing}
use Rattle.following.proofs.Window.{push_latest}

module _ (hear : List ℕ → Heard) where
  -- one answer for each bit after a past
  unfoldable pub heard_after : List ℕ → List ℕ → List Heard
  heard_after past [] = []
  heard_after past (bit ∷ bits) = hear (latest (past ++ (bit ∷ []))) ∷ heard_after (past ++ (bit ∷ [])) bits

  pub heard_cut : (past xs ys : List ℕ) → heard_after past (xs ++ ys) ≡ heard_after past xs ++ heard_after (past ++ xs) ys
  unfolding heard_after
  heard_cut past [] ys = ap (λ (before : List ℕ). heard_after before ys) (sym (append-nil past))
  heard_cut past (x ∷ xs) ys =
      ap (λ (rest : List Heard). hear (latest (past ++ (x ∷ []))) ∷ rest)
      (heard_cut (past ++ (x ∷ [])) xs ys
      ∙ ap (λ (before : List ℕ). heard_after (past ++ (x ∷ [])) xs ++ heard_after before ys) (append_assoc past (x ∷ []) xs))

  pub heard_length : (past xs : List ℕ) → length (heard_after past xs) ≡ length xs
  unfolding heard_after
  heard_length past [] = refl
  heard_length past (x ∷ xs) = ap suc (heard_length (past ++ (x ∷ [])) xs)

  -- 80 bits, a report of them, and nothing heard before they are whole
  module _
      (word : List ℕ) (long : length word ≡ 80) (report : Heard) (whole : hear word ≡ report) (past : List ℕ) (from : ℕ)
      (quiet : (xs rest : List ℕ) → word ≡ xs ++ rest → length xs < 80 → from < length xs → hear (latest (past ++ xs)) ≡ Nothing) where
    last_80 : latest (past ++ word) ≡ word
    last_80 =
        let size : length (past ++ word) - 80 ≡ length past = rw (length-append past word) (omega arith) in
        rw size (drop_at past word (length past) refl)

    reports :
        (xs : List ℕ) (y : ℕ) (ys : List ℕ) → word ≡ xs ++ (y ∷ ys) → from ≤ length xs
        → heard_after (past ++ xs) (y ∷ ys) ≡ replicate (length ys) Nothing ++ (report ∷ [])
    unfolding heard_after
    reports xs y [] parts h = rw (append_assoc past xs (y ∷ []), ← parts, last_80) (ap (λ (heard : Heard). heard ∷ []) whole)
    reports xs y (z ∷ ys) parts h =
        let more : word ≡ (xs ++ (y ∷ [])) ++ (z ∷ ys) = parts ∙ sym (append_assoc xs (y ∷ []) (z ∷ ys)) in
        let size : length (xs ++ (y ∷ [])) ≡ length xs + 1 = length-append xs (y ∷ []) in
        let all : length xs + length (y ∷ z ∷ ys) ≡ 80 = sym (length-append xs (y ∷ z ∷ ys)) ∙ sym (ap length parts) ∙ long in
        let silent = quiet (xs ++ (y ∷ [])) (z ∷ ys) more (omega arith) (omega arith) in
        rw (append_assoc past xs (y ∷ []))
        (ap₂ (λ (heard : Heard) (rest : List Heard). heard ∷ rest) silent (reports (xs ++ (y ∷ [])) z ys more (omega arith)))

    pub heeded : from < 80 → heard_after (past ++ take from word) (drop from word) ≡ replicate (79 - from) Nothing ++ (report ∷ [])
    heeded h =
        let parts = split_at word from 0 (omega arith) in
        let left : length (drop (suc from) word) ≡ 79 - from = length-drop (suc from) word ∙ omega arith in
        let taken : length (take from word) ≡ from = length-take-le from word (omega arith) in
        rw (drop-cons word from 0 (omega arith), ← left) (reports (take from word) (get_or word from 0) (drop (suc from) word) parts (omega arith))

-- a sound reader that holds the last 80 bits of a past answers so
pub answers_after :
    (bits : List ℕ) (r : Reader) (past : List ℕ) → Passing r → held_bits r ≡ latest past → AllBits bits
    → answers r bits ≡ heard_after (heard_in r.mode r.ways) past bits
unfolding answers heard_after reader_with
answers_after [] r past p holds all = refl
answers_after (bit ∷ bits) r past p holds all =
    let small = head_within 1 bit bits all in
    let next = (stepped_of r bit).reader in
    let takes = passing_takes r bit p (le-ltb 1 bit small) in
    let pushed : push (held_bits r) bit ≡ latest (past ++ (bit ∷ [])) = rw holds (push_latest past bit) in
    let still : held_bits next ≡ latest (past ++ (bit ∷ [])) =
    rw takes (held_of r.mode r.ways (push (held_bits r) bit) (push_few (held_bits r) bit) (push_clean (held_bits r) bit (held_clean r) small)) ∙ pushed in
    let rest = answers_after bits next (past ++ (bit ∷ [])) (step_passing r bit p) still (tail_within 1 bit bits all) in
    let told : (stepped_of r bit).heard ≡ heard_in r.mode r.ways (latest (past ++ (bit ∷ []))) =
    ap (λ (s : Stepped). s.heard) takes ∙ ap (heard_in r.mode r.ways) pushed in
    let same_mode : next.mode ≡ r.mode = ap (λ (s : Stepped). s.reader.mode) takes in
    let same_ways : next.ways ≡ r.ways = ap (λ (s : Stepped). s.reader.ways) takes in
    ap₂ (λ (heard : Heard) (later : List Heard). heard ∷ later) told
    (rest ∙ ap₂ (λ (mode : ℕ) (ways : Ways). heard_after (heard_in mode ways) (past ++ (bit ∷ [])) bits) same_mode same_ways)
