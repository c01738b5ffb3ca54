-- Demand 3: "Take a reader in any state that feeding can bring a fresh one to. From there feed it, unchanged and end to end, code words that
-- demand 2 accepts in the reader's mode, their addresses in any order. Each word is reported, as itself, at its 80th bit. After the fifth bit of the
-- first word the reader makes no report and no complaint anywhere else. Earlier leftovers may still complete a false word in those first five bits,
-- and not later." A3, of readers that hear both ways: "forward or backward words, all one way, are each reported at their last bit, and false reports are
-- shut out only after the last bit of the first whole word. A fed run that turns in the middle is covered again from the first whole word after the turn."
-- Assumes nothing.
use Rattle.polarity.specs.Word.{reading}
use Rattle.std.specs.Prelude.{ℕ, ◌≤◌, ◌≡◌, false, List, [], ◌∷◌, ◌++◌, length, drop, replicate, Ok}
use Rattle.record.specs.declared.types.Record.{Record}
use Rattle.modes.specs.Modes.{unknown}
use Rattle.polarity.specs.declared.types.Found.{Found}
use Rattle.ltc.specs.Calls.{read_of}
use Rattle.register.specs.declared.types.Reader.{Reader}
use Rattle.register.specs.declared.types.Ways.{Ways}
use Rattle.register.specs.declared.types.Ways.TheVariants.{ForwardOnly, Both}
use Rattle.hearing.specs.declared.types.Way.{Way}
use Rattle.hearing.specs.declared.types.Way.TheVariants.{Forward, Backward}
use Rattle.hearing.specs.Looks.{running}
use Rattle.hearing.specs.declared.types.Heard.{Heard}
use Rattle.hearing.specs.declared.types.Heard.TheVariants.{Nothing, Accepted}
use Rattle.following.specs.Reach.{fed, answers, Reached}
use Rattle.following.specs.Cuts.{Cut, in_blocks, AllOpen}

-- a code word that is accepted in a mode, the record that it is read as, and what is found in it; "Demand 3 then speaks of all words accepted by the new rule"
pub record CodeWord (mode : ℕ) : Type 0 where
  pub bits : List ℕ
  pub says : Record
  pub found : Found
  pub accepted : read_of mode bits ≡ Ok (reading says found)

module _ {mode : ℕ} (way : Way) where
  -- "feed it, unchanged and end to end, code words", "all one way"
  unfoldable pub end_to_end : List (CodeWord mode) → List ℕ
  end_to_end [] = []
  end_to_end (word ∷ words) = running way word.bits ++ end_to_end words

  -- "Each word is reported, as itself, at its 80th bit", with "no report and no complaint anywhere else"
  unfoldable pub each_as_itself : List (CodeWord mode) → List Heard
  each_as_itself [] = []
  each_as_itself (word ∷ words) =
      (replicate 79 Nothing ++ (Accepted (record { «record» = word.says; found = word.found; way = way }) ∷ [])) ++ each_as_itself words

-- what is asked of a player, who answers once for each bit that a reader is fed, where the reader hears in these ways and the words run this way:
-- nothing but the reports, after so many bits
abbrev pub FollowsAfter : ℕ → Ways → Way → (Reader → List ℕ → List Heard) → Type 0
FollowsAfter bits ways way player =
    (reader : Reader) → Reached reader → unknown reader.mode ≡ false → reader.ways ≡ ways → (words : List (CodeWord reader.mode))
    → drop bits (player reader (end_to_end way words)) ≡ drop bits (each_as_itself way words)

-- and of blocks cut anywhere, going on after each stop: with as many blocks as bits, each of which may take one, the run comes to its end, with the answers
-- of single steps and so each word as itself, and the reader is the one that single steps leave
abbrev pub FollowsInBlocksAfter : ℕ → Ways → Way → Type 0
FollowsInBlocksAfter bits ways way =
    (reader : Reader) → Reached reader → unknown reader.mode ≡ false → reader.ways ≡ ways → (words : List (CodeWord reader.mode)) (cuts : List Cut)
    → AllOpen cuts → length (end_to_end way words) ≤ length cuts
    → ((in_blocks reader cuts (end_to_end way words)).left ≡ [])
    × ((in_blocks reader cuts (end_to_end way words)).heard ≡ answers reader (end_to_end way words))
    × (drop bits (in_blocks reader cuts (end_to_end way words)).heard ≡ drop bits (each_as_itself way words))
    × ((in_blocks reader cuts (end_to_end way words)).reader ≡ fed reader (end_to_end way words))

-- "After the fifth bit of the first word"
abbrev pub settled : ℕ
settled = 5

-- demand 3, of readers that hear forward only
abbrev pub Follows : (Reader → List ℕ → List Heard) → Type 0
Follows = FollowsAfter settled ForwardOnly Forward

-- "false reports are shut out only after the last bit of the first whole word": at that bit comes the word's own report, so 79 answers are left open
abbrev pub before_its_last : ℕ
before_its_last = 79

-- demand 3 as A3 changes it, of readers that hear both ways
abbrev pub FollowsBothWays : (Reader → List ℕ → List Heard) → Type 0
FollowsBothWays player = (way : Way) → FollowsAfter before_its_last Both way player

-- the readers, the words that they follow, and the bits of the first word after which they make no report and no complaint but for the words' own. Demand
-- 3 has the first row; the others are sharper than A3 asks
pub data Settles : Ways → Way → ℕ → Type 0 where
  forward_only : Settles ForwardOnly Forward settled
  both_forward : Settles Both Forward 69
  both_backward : Settles Both Backward 5
