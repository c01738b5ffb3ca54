-- A piece is told, and the scribe goes on from there.
-- Assumes nothing.
use Prim.Native.Nat.{ℕ, ◌*◌, ◌≤◌, ◌<◌}
use mathlib.Core.Path.{◌≡◌, sym, ap, subst, ◌∙◌}
use mathlib.Core.List.{List}
use native.Mathlib.Omega.{arith}
use lib.ListN.{length, take}
use Rattle.refusals.specs.declared.types.Refusal.{Refusal}
use Rattle.std.specs.Prelude.{IsOk, Err, Ok, Result}
use Rattle.runs.specs.Run.{placed}
use Rattle.text.proofs.Laid.{told_within, prefix_length}
use Rattle.scribe.specs.declared.types.Scribe.{Scribe}
use Rattle.scribe.specs.declared.types.Telling.{Telling}
use Rattle.scribe.specs.Told.{text_of, telling_of, ToldOf, Brought, piece}
use Rattle.scribe.proofs.Pieces.{brought_sound, fewer_left, told_so}
use Rattle.readout.specs.Piece.{PieceTold}

module _
    (before : Scribe) (brought : Brought before) (characters out : List ℕ) {told : Result Telling Refusal} {left out_left : List ℕ}
    (tells : ToldOf before characters out told left out_left) (room : 64 * length characters ≤ length out) where
  so : (told ≡ Ok (telling_of before characters)) × (out_left ≡ placed 0 (text_of before characters) out)
  so = told_so before characters out (brought_sound brought) room tells

  pub lines_told : (telling : Telling) → told ≡ Ok telling → PieceTold before out telling out_left
  lines_told telling e =
      let same : Ok telling ≡ Ok (telling_of before characters) = sym e ∙ so.0 in
      record { characters = characters; told = cc; stands = so.1 }

  pub never_refused : IsOk told
  never_refused = rw so.0 search

module _ (before : Scribe) {telling : Telling} (out : List ℕ) {out_left : List ℕ} (p : PieceTold before out telling out_left) where
  pub goes_on : Brought before → Brought telling.scribe
  unfolding telling_of
  goes_on brought = subst (λ (t : Telling). Brought t.scribe) (sym p.told) (piece p.characters brought)

  pub grows_less : 0 < before.left → telling.scribe.left < before.left
  unfolding telling_of
  grows_less some = rw p.told (fewer_left before p.characters some)

  pub within : telling.length ≤ length out_left
  unfolding telling_of
  within = told_within (text_of before p.characters) out (ap (λ (t : Telling). t.length) p.told) p.stands

  pub sized : telling.length ≡ length (take telling.length out_left)
  sized = prefix_length telling.length out_left within
