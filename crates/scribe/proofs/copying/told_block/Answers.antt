-- `scribe::copying::told_block` meets its contract: the block's answer, told with the bits so far, stands after the gathered lines.
-- Assumes nothing.
use Rattle.std.proofs.Common.{◌≡◌, ℕ, ◌+◌, ◌%◌, ◌^◌, List, length, take, refl, ap, ◌∙◌, ap₂, arith}
use Rattle.runs.specs.Run.{placed}
use Rattle.runs.proofs.Parts.{read_back}
use Rattle.register.specs.declared.types.Reader.{Reader}
use Rattle.reader.specs.declared.types.Blocked.{Blocked}
use Rattle.text.specs.Gathered.{place_after, out_after}
use Rattle.text.proofs.Laid.{told_within, prefix_length}
use Rattle.text.proofs.Appends.{Appended}
use Rattle.lines.specs.Lines.{line_of}
use Rattle.scribe.specs.Blocks.{block_of, bits_after, line_of_block, block_told}
use Rattle.scribe.proofs.copying.told_block.Goals as goal

module _
    (reader : Reader) (bits : ℕ) (run out : List ℕ) (at : ℕ) (blank : List ℕ) {block : Blocked} {so_far size next : ℕ} {text after : List ℕ}
    (took : block ≡ block_of reader run) (counted : so_far ≡ (bits + block.taken) % 2 ^ 64)
    (sized : size ≡ length (line_of so_far block.heard)) (made : text ≡ placed 0 (line_of so_far block.heard) blank)
    (appended : Appended (take size text) at out next after) where
  bits_are : so_far ≡ bits_after reader bits run
  bits_are = counted ∙ ap (λ (b : Blocked). (bits + b.taken) % 2 ^ 64) took

  line_is : take size text ≡ line_of_block reader bits run
  line_is =
      rw (sized, made) (read_back 0 (line_of so_far block.heard) blank (omega arith)) ∙ ap₂ line_of bits_are (ap (λ (b : Blocked). b.heard) took)

  told :
      ((record { reader = block.reader; bits = so_far; taken = block.taken; at = next }) ≡ block_told reader bits run out at)
      × (after ≡ out_after (line_of_block reader bits run) at out)
  unfolding block_told
  told =
      let place : next ≡ place_after (line_of_block reader bits run) at out = appended.0 ∙ ap (λ (t : List ℕ). place_after t at out) line_is in (
        λ i. record { reader = (took i).reader; bits = bits_are i; taken = (took i).taken; at = place i },
        appended.1 ∙ ap (λ (t : List ℕ). out_after t at out) line_is,
      )

pub slice_bounds-text-end : goal.slice_bounds-text-end
slice_bounds-text-end c = told_within _ _ c.line-length.ensures.0 c.line-length.ensures.1

pub slice_bounds-append-end : goal.slice_bounds-append-end
slice_bounds-append-end c = prefix_length _ _ (told_within _ _ c.line-length.ensures.0 c.line-length.ensures.1)

pub returns : goal.returns
returns c =
    let line = c.line-length.ensures in
    told _ _ _ _ _ _
    c.block-block.ensures refl line.0 line.1 c.append-next.ensures
