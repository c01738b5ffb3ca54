-- `host::reading::shx_block` meets its contract: with ways that are none 2, 13 or 3, and the reader as it was; else the reader answers.
-- Assumes nothing.
use Prim.Native.Nat.{ℕ}
use mathlib.Core.Path.{◌≡◌, refl, ap, ◌∙◌}
use mathlib.Core.Bool.{Bool, true, false}
use mathlib.Core.List.{List, []}
use Rattle.refusals.specs.Table.{number}
use Rattle.refusals.specs.declared.types.Refusal.{Refusal}
use Rattle.register.specs.declared.types.Reader.{Reader}
use Rattle.hearing.specs.declared.types.Heard.TheVariants.{Refused as Unheard}
use Rattle.reader.specs.declared.types.Blocked.{Blocked}
use Rattle.reader.specs.Steps.{reader_refusals}
use Rattle.reader.specs.Blocks.{stopped, going, blocked_of}
use Rattle.plain.specs.declared.types.PlainReader.{PlainReader}
use Rattle.plain.specs.declared.types.PlainHeard.{PlainHeard}
use Rattle.plain.specs.declared.types.BlockAnswer.{BlockAnswer}
use Rattle.plain.specs.Given.{reader_given, no_ways}
use Rattle.plain.specs.Answers.{block_with, block_answer, heard_with, no_record}
use Rattle.host.specs.Unnamed.{after_reader}
use Rattle.host.specs.Reading.{block_for}
use Rattle.host.proofs.Fed.{turned_away, answered}
use Rattle.host.proofs.reading.shx_block.Goals as goal

module _ (r : PlainReader) (limit : ℕ) (run : List ℕ) (none : Bool) (tested : none ≡ no_ways r.ways) where
  turned :
      none ≡ true → (given : Reader) (k : Refusal) (code : ℕ) (heard : PlainHeard) → given ≡ reader_given r → k ≡ after_reader given → code ≡ number k
      → heard ≡ heard_with code 0 0 no_record
      → block_with heard r 0 ≡ block_for r limit run
  unfolding block_for
  turned e given k code heard from is by told =
      turned_away block_answer (λ heard reader. block_with heard reader 0) (λ reader n. stopped (Unheard n) reader 0) r (λ n. refl) none tested e given k heard (block_answer (blocked_of (reader_given r) limit run)) from is (told ∙ rw by)

  fed :
      none ≡ false → (given : Reader) (s : Blocked) (a : BlockAnswer) → given ≡ reader_given r → s ≡ blocked_of given limit run → a ≡ block_answer s → a ≡ block_for r limit run
  unfolding block_for blocked_of
  fed e given s a from is told =
      let same : s ≡ blocked_of (reader_given r) limit run = is ∙ rw from in
      answered block_answer (λ heard reader. block_with heard reader 0) (λ reader n. stopped (Unheard n) reader 0) r (λ n. refl) none tested e [] (reader_refusals (reader_given r)) refl (going (reader_given r) limit run) a (told ∙ ap block_answer same)

pub returns-then-is_no_ways : goal.returns-then-is_no_ways
returns-then-is_no_ways c = search turned

pub returns : goal.returns
returns c = search fed
