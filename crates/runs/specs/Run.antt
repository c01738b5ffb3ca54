-- A lent run: "A refused write leaves every element. A write fills its own elements from the given start in the middle of the lent run,
-- and touches no other."
-- Assumes nothing.
use Rattle.refusals.specs.declared.types.Refusal.TheVariants.{NoRoom}
use Rattle.refusals.specs.declared.types.Refusal.{Refusal}
use Rattle.std.specs.Prelude.{ℕ, ◌+◌, Bool, true, false, ◌&&◌, List, [], ◌∷◌, ◌++◌, ltb, eqb, length, take, drop, Err, Ok, Result}
use Rattle.refusals.specs.declared.types.Refusal.{Refusal}
use Rattle.refusals.specs.Answer.{Cause, ◌when◌, answer}

-- a word in the middle of a run
unfoldable pub placed : ℕ → List ℕ → List ℕ → List ℕ
placed start word run = take start run ++ (word ++ drop (start + length word) run)

-- "fewer than 80, 90 or 23 elements from the start given, or start past the end", in a run of so many elements
abbrev pub lacks_room : ℕ → ℕ → ℕ → Bool
lacks_room size start elements = ltb elements (start + size)

-- the refusal of what needs nothing but room for so many
abbrev pub room_refusals : ℕ → ℕ → List ℕ → List Cause
room_refusals size start run = (NoRoom when lacks_room size start (length run)) ∷ []

-- what a write answers: the first of its refusals that applies, or that it is done
abbrev pub written_by : List Cause → Result Unit Refusal
written_by refusals = answer Err refusals (Ok tt)

-- and the run as the write leaves it: as it was where one of the refusals applies, and else with the word from the start on
abbrev pub run_after : List Cause → ℕ → List ℕ → List ℕ → List ℕ
run_after refusals start word run = answer (λ (_ : Refusal). run) refusals (placed start word run)

-- the two runs have the same elements
unfoldable pub same : List ℕ → List ℕ → Bool
same [] [] = true
same [] (y ∷ ys) = false
same (x ∷ xs) [] = false
same (x ∷ xs) (y ∷ ys) = eqb x y && same xs ys
