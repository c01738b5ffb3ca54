-- "Feeding a run of 0s and 1s in blocks cut anywhere, going on after each stop".
-- Assumes nothing.
use Rattle.std.specs.Prelude.{ℕ, ◌-◌, ◌<◌, cond, List, [], ◌∷◌, ◌++◌, take, drop, replicate}
use Rattle.register.specs.declared.types.Reader.{Reader}
use Rattle.hearing.specs.declared.types.Heard.{Heard}
use Rattle.hearing.specs.declared.types.Heard.TheVariants.{Nothing}
use Rattle.reader.specs.declared.types.Blocked.{Blocked}
use Rattle.reader.specs.Blocks.{is_answer, blocked_of}

-- what a block of a run of 0s and 1s says of the bits that it took, one by one: nothing, but for an answer at the last
abbrev pub said : Blocked → List Heard
said block = cond (is_answer block.heard) (replicate (block.taken - 1) Nothing ++ (block.heard ∷ [])) (replicate block.taken Nothing)

-- one block: the limit that it is given, and how many of the elements that are left it is lent
pub record Cut : Type 0 where
  pub limit : ℕ
  pub lent : ℕ

-- what was answered, one answer for each bit that was taken (of a run of 0s and 1s); the reader after it; and what is left of the run
pub record Played : Type 0 where
  pub heard : List Heard
  pub reader : Reader
  pub left : List ℕ

-- the block that a cut makes of a run
abbrev pub cut_block : Reader → Cut → List ℕ → Blocked
cut_block reader cut run = blocked_of reader cut.limit (take cut.lent run)

-- each block goes on where the last one stopped
unfoldable pub in_blocks : Reader → List Cut → List ℕ → Played
in_blocks reader [] run = record { heard = []; reader = reader; left = run }
in_blocks reader (cut ∷ cuts) run =
    let block = cut_block reader cut run in
    let rest = in_blocks block.reader cuts (drop block.taken run) in
    record { heard = said block ++ rest.heard; reader = rest.reader; left = rest.left }

-- blocks that can take a bit: each has a limit, and is lent an element
abbrev pub AllOpen : List Cut → Type 0
AllOpen [] = Unit {0}
AllOpen (cut ∷ cuts) = (0 < cut.limit) × (0 < cut.lent) × AllOpen cuts
