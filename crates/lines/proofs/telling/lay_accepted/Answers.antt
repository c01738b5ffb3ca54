-- `lines::telling::lay_accepted` meets its contract: the address and the groups, one after the other.
-- Assumes nothing.
use borrow.Author.Rules.{rules}
use Prim.Native.Nat.{ℕ, ◌+◌, ◌≤◌}
use mathlib.Core.Path.{◌≡◌}
use mathlib.Core.List.{List, [], ◌∷◌, ◌++◌}
use lib.ListN.{length}
use Rattle.record.specs.declared.types.Record.{Record}
use Rattle.text.specs.Ascii.{space, line_feed}
use Rattle.text.proofs.Appends.{Appended, Stands, two_stand}
use Rattle.figures.specs.Figures.{address_text, groups_text}
use Rattle.lines.specs.Lines.{accepted_text}
use Rattle.lines.proofs.telling.lay_accepted.Goals as goal

accepted :
    (r : Record) (text : List ℕ) (at : ℕ) {address groups mid out : List ℕ} {p q : ℕ}
    → at + (length address + length groups) ≤ length text
    → address ≡ space ∷ address_text r
    → groups ≡ (space ∷ groups_text r.groups) ++ (line_feed ∷ [])
    → Appended address at text p mid
    → Appended groups p mid q out
    → Stands (accepted_text r) at text q out
unfolding accepted_text
accepted r text at {address} {groups} fits first second mid out =
    rw (first, second) at (two_stand at address groups text fits mid out)

pub returns : goal.returns
returns c = accepted _ _ _ (search rules) c.address_text.ensures c.groups_text.ensures c.append-middle.ensures c.append.ensures
