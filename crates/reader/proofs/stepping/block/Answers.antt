-- `reader::stepping::block` meets its contract: the mode and the state are looked at once, and then the bits are fed.
-- Assumes nothing.
use mathlib.Core.Path.{◌≡◌, ◌∙◌}
use mathlib.Core.List.{List}
use Prim.Native.Nat.{ℕ}
use Rattle.std.specs.Prelude.{Result, Ok, Err}
use Rattle.refusals.specs.declared.types.Refusal.{Refusal}
use Rattle.refusals.specs.Answer.{verdict_of}
use Rattle.refusals.proofs.Verdicts.{refused_by, passed_by}
use Rattle.register.specs.declared.types.Reader.{Reader}
use Rattle.hearing.specs.declared.types.Heard.TheVariants.{Refused}
use Rattle.reader.specs.declared.types.Blocked.{Blocked}
use Rattle.reader.specs.Steps.{reader_refusals}
use Rattle.reader.specs.Blocks.{stopped, going, blocked_of}
use Rattle.reader.proofs.Judged.{passing}
use Rattle.reader.proofs.stepping.block.Goals as goal

module _
    (reader : Reader) (limit : ℕ) (run : List ℕ) (found : Result Unit Refusal) (judged : found ≡ verdict_of (reader_refusals reader)) where
  refused : (n : Refusal) → found ≡ Err n → stopped (Refused n) reader 0 ≡ blocked_of reader limit run
  unfolding blocked_of
  refused n e = refused_by (λ n. stopped (Refused n) reader 0) (going reader limit run) (reader_refusals reader) found judged n e

  fed : found ≡ Ok tt → (b : Blocked) → b ≡ going reader limit run → b ≡ blocked_of reader limit run
  unfolding blocked_of
  fed sound b e = e ∙ passed_by (λ n. stopped (Refused n) reader 0) (going reader limit run) (reader_refusals reader) found judged sound

pub returns-in-Err : goal.returns-in-Err
returns-in-Err c = search refused

pub feed-requires : goal.feed-requires
feed-requires c = let p = passing _ _ c.judge.ensures c.in_default.is in (p.known, p.passes)

pub returns : goal.returns
returns c = search fed
