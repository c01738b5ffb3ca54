-- Characters may come in pieces cut anywhere: a piece that was cut short and the next bring about the scribe, and are told the lines, that they are in one.
-- What ends the reading in the first piece, or leaves the second no room, does so where they are in one.
-- Assumes nothing.
use Prim.Native.Nat.{ℕ, zero, suc, ◌+◌, ◌-◌, ◌%◌, ◌^◌, ◌<◌}
use mathlib.Core.Path.{◌≡◌, refl, sym, ap, ◌∙◌}
use mathlib.Core.Bool.{Bool, true, false, cond}
use mathlib.Core.List.{List, [], ◌∷◌, ◌++◌, append-nil, append_assoc}
use native.Mathlib.Numerals.{unary_clauses}
use native.Mathlib.Omega.{arith}
use lib.Dec.{ltb}
use lib.ListN.{length, take, length-append, length-take}
use borrow.Author.Tests.{ltb-false}
use Rattle.hearing.specs.declared.types.Heard.{Heard}
use Rattle.following.specs.Reach.{fed}
use Rattle.following.proofs.Cut.{fed_cut, answers_cut, one_answer_each}
use Rattle.lines.specs.Lines.{line_of}
use Rattle.characters.specs.Characters.{bits_in, goes_on}
use Rattle.characters.proofs.Meant.{in_parts, ended}
use Rattle.scribe.specs.declared.types.Scribe.{Scribe}
use Rattle.scribe.specs.Told.{counted, one_on, lines_of, text_of, left_after, scribe_after}
use Rattle.scribe.proofs.Lined.{counted_on}

-- of two pieces in one, those characters of the second count for which the first leaves room
count_in_parts : (left : ℕ) (first second : List ℕ) → take left (first ++ second) ≡ take left first ++ take (left - length first) second
count_in_parts zero first second = let none : 0 - length first ≡ 0 = omega arith in rw none
count_in_parts (suc left) [] second = simp unary_clauses
count_in_parts (suc left) (c ∷ first) second = simp unary_clauses (ap (λ (l : List ℕ). c ∷ l) (count_in_parts left first second))

-- a piece that is not empty uses up as many characters as it has, and the others may still come, unless one of its own ends the reading
left_after_lem : (s : Scribe) (piece : List ℕ) → 0 < length piece → (scribe_after s piece).left ≡ cond (goes_on (counted s piece)) (s.left - length piece) 0
unfolding scribe_after
left_after_lem s piece some = go (ltb 0 came) (goes_on (counted s piece)) refl
  where
    came : ℕ
    came = length (counted s piece)

    go : (t more : Bool) → ltb 0 came ≡ t → left_after s.left came more ≡ cond more (s.left - length piece) 0
    go true true t = rw t (omega (arith, length-take s.left piece))
    go true false t = rw t
    go false true t = rw t (omega (arith, length-take s.left piece, ltb-false 0 came t))
    go false false t = rw t

-- the lines of answers one after the other, the later with the bits of the earlier behind them
lines_in_parts :
    (bits : ℕ) (earlier later : List Heard) → bits < 2 ^ 64
    → lines_of bits (earlier ++ later) ≡ lines_of bits earlier ++ lines_of ((bits + length earlier) % 2 ^ 64) later
unfolding lines_of
lines_in_parts bits [] later word = ap (λ (b : ℕ). lines_of b later) (omega arith)
lines_in_parts bits (heard ∷ earlier) later word =
    ap (λ (l : List ℕ). line_of (one_on bits) heard ++ l) (lines_in_parts (one_on bits) earlier later (omega arith))
    ∙ rw (counted_on bits (length earlier)) (sym (append_assoc (line_of (one_on bits) heard) (lines_of (one_on bits) earlier) _))

-- the bits so far, in a machine word, of bits one after the other
bits_in_parts :
    (bits : ℕ) (earlier later : List ℕ) → (bits + length (earlier ++ later)) % 2 ^ 64 ≡ ((bits + length earlier) % 2 ^ 64 + length later) % 2 ^ 64
bits_in_parts bits earlier later = rw length-append (omega arith)

-- the bits of two pieces in one are those of the first and then of the second, and as many characters may still come: where the first ended the reading,
-- or left no room, nothing of the second counts
parts :
    (s : Scribe) (first second : List ℕ) → 0 < length first → 0 < length second
    → (bits_in (counted s (first ++ second)) ≡ bits_in (counted s first) ++ bits_in (counted (scribe_after s first) second))
    × ((scribe_after s (first ++ second)).left ≡ (scribe_after (scribe_after s first) second).left)
unfolding bits_in goes_on
parts s first second some more = go (goes_on (counted s first)) refl
  where
    -- the characters of the second piece that count where they are in one, unless the first ended the reading
    rest : List ℕ
    rest = take (s.left - length first) second

    in_one : (scribe_after s (first ++ second)).left ≡ cond (goes_on (counted s first ++ rest)) (s.left - (length first + length second)) 0
    in_one = left_after_lem s (first ++ second) (rw length-append (omega arith)) ∙ rw (count_in_parts, length-append)

    in_two :
        (scribe_after (scribe_after s first) second).left
        ≡ cond (goes_on (counted (scribe_after s first) second)) ((scribe_after s first).left - length second) 0
    in_two = left_after_lem (scribe_after s first) second more

    go : (t : Bool) → goes_on (counted s first) ≡ t
        → (bits_in (counted s (first ++ second)) ≡ bits_in (counted s first) ++ bits_in (counted (scribe_after s first) second))
        × ((scribe_after s (first ++ second)).left ≡ (scribe_after (scribe_after s first) second).left)
    go true t =
        let room : (scribe_after s first).left ≡ s.left - length first = left_after_lem s first some ∙ rw t in
        let on = in_parts (counted s first) rest t in
        let fewer : s.left - (length first + length second) ≡ s.left - length first - length second = omega arith in
        (rw (room, count_in_parts) on.0, rw (in_one, in_two, room, on.1, fewer))
    go false t =
        let none : (scribe_after s first).left ≡ 0 = left_after_lem s first some ∙ rw t in
        let over = ended (counted s first) rest t in
        (rw (none, count_in_parts, over.0) (sym (append-nil (bits_in (counted s first)))), rw (in_one, in_two, none, over.1) (omega arith))

-- "ends at the input's end": a piece that is shorter than was asked for ends nothing. Characters in two pieces, neither of them empty, bring about the
-- scribe, and are told the lines, that they are in one.
pub cut_anywhere :
    (s : Scribe) (first second : List ℕ) → s.bits < 2 ^ 64 → 0 < length first → 0 < length second
    → (scribe_after s (first ++ second) ≡ scribe_after (scribe_after s first) second)
    × (text_of s (first ++ second) ≡ text_of s first ++ text_of (scribe_after s first) second)
unfolding scribe_after
cut_anywhere s first second word some more =
    let p = parts s first second some more in
    let earlier = bits_in (counted s first) in
    let later = bits_in (counted (scribe_after s first) second) in
    let reader = ap (fed s.reader) p.0 ∙ fed_cut earlier later s.reader in
    let bits = ap (λ (l : List ℕ). (s.bits + length l) % 2 ^ 64) p.0 ∙ bits_in_parts s.bits earlier later in
    (λ i. record { reader = reader i; bits = bits i; left = p.1 i }, rw (p.0, answers_cut, lines_in_parts, one_answer_each))
