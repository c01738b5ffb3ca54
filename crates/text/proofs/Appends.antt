-- Text appended where there is room stands whole at its place, and what is appended next follows it.
-- Assumes nothing.
use Prim.Native.Nat.{ℕ, ◌+◌, ◌≤◌}
use mathlib.Core.Path.{◌≡◌, ◌∙◌}
use mathlib.Core.List.{List, ◌++◌, append_assoc}
use native.Mathlib.Omega.{arith}
use lib.ListN.{length, length-append}
use borrow.Author.Tests.{le-ltb}
use Rattle.runs.specs.Run.{placed}
use Rattle.text.specs.Gathered.{place_after, out_after}
use Rattle.text.proofs.Laid.{placed_length, laid_two}

-- a text was appended at a place of a run: the place after it, and the run as it now is
abbrev pub Appended : List ℕ → ℕ → List ℕ → ℕ → List ℕ → Type 0
Appended text at run place after = (place ≡ place_after text at run) × (after ≡ out_after text at run)

-- the text stands there
abbrev pub Stands : List ℕ → ℕ → List ℕ → ℕ → List ℕ → Type 0
Stands text at run place after = (place ≡ at + length text) × (after ≡ placed at text run)

pub stands :
    (text : List ℕ) (at : ℕ) (run : List ℕ) {place : ℕ} {after : List ℕ}
    → at + length text ≤ length run → Appended text at run place after → Stands text at run place after
unfolding place_after out_after
stands text at run room appended =
    let fits = le-ltb (length run) (at + length text) room in
    (appended.0 ∙ rw fits, appended.1 ∙ rw fits)

-- one text after another
pub two_stand :
    (at : ℕ) (first second run : List ℕ) {p q : ℕ} {mid out : List ℕ}
    → at + (length first + length second) ≤ length run
    → Appended first at run p mid
    → Appended second p mid q out
    → Stands (first ++ second) at run q out
two_stand at first second run {p} {q} {mid} room one two =
    let begun = stands first at run (omega arith) one in
    let long : length mid ≡ length run = rw begun.1 (placed_length at first run (omega arith)) in
    let done = stands second p mid (omega (arith, begun.0)) two in
    laid_two at first second run (omega arith) begun.0 begun.1 done.0 done.1

-- a word, a text and a last text
pub three_stand :
    (at : ℕ) (word text last run : List ℕ) {p q r : ℕ} {one two three : List ℕ}
    → at + (length word + (length text + length last)) ≤ length run
    → Appended word at run p one
    → Appended text p one q two
    → Appended last q two r three
    → Stands (word ++ (text ++ last)) at run r three
three_stand at word text last run {p} {q} {r} {one} {two} room first second third =
    let both = two_stand at word text run (omega arith) first second in
    let fits : at + length (word ++ text) ≤ length run = rw length-append (omega arith) in
    let long : length two ≡ length run = rw both.1 (placed_length at (word ++ text) run fits) in
    let past : q ≡ at + (length word + length text) = both.0 ∙ rw length-append in
    let done = stands last q two (omega arith) third in
    rw append_assoc at (laid_two at (word ++ text) last run fits both.0 both.1 done.0 done.1)
