-- What each test of a turn of a block leads to: the turn goes on with a sound reader, or the block stops with what was heard.
-- Assumes nothing.
use mathlib.Core.Path.{◌≡◌, refl, sym, ◌∙◌}
use mathlib.Core.Bool.{Bool, true, false}
use mathlib.Core.List.{List}
use Prim.Native.Nat.{ℕ, ◌+◌, ◌^◌, ◌≤◌, ◌<◌, min}
use native.Mathlib.Omega.{arith}
use lib.ListN.{length, get_or, take, length-take}
use lib.Seq.{get_or-take}
use Rattle.modes.specs.Modes.{unknown}
use Rattle.register.specs.declared.types.Reader.{Reader}
use Rattle.register.specs.Held.{held_bits, push, reader_with, unreached}
use Rattle.hearing.specs.declared.types.Heard.{Heard}
use Rattle.hearing.specs.declared.types.Heard.TheVariants.{Nothing}
use Rattle.hearing.specs.Window.{heard_in}
use Rattle.hearing.specs.Looks.{synced}
use Rattle.hearing.proofs.Synced.{unsynced_hears_nothing}
use Rattle.reader.specs.Blocks.{is_answer, stopped, going}
use Rattle.reader.specs.Feeding.{Feeding}
use Rattle.reader.proofs.Turns.{feeding_begins, stops_after, feeding_goes_on}

module _ (limit : ℕ) (run : List ℕ) (first : Reader) (end : ℕ) where
  pub begins :
      first.info < 2 ^ 64 → first.sync < 2 ^ 16 → unknown first.mode ≡ false → unreached first ≡ false → end ≡ min limit (length run)
      → Feeding limit run first end first 0
  begins low high known passes = feeding_begins limit run first end record { passing = record { known = known; passes = passes }; low = low; high = high }

  module _ (reader : Reader) (taken : ℕ) (f : Feeding limit run first end reader taken) where
    pub reached : taken < length (take end run) → taken < end
    reached more = omega (arith, length-take end run, more)

    pub shown : taken < end → get_or (take end run) taken 0 ≡ get_or run taken 0
    shown more = get_or-take end run taken 0 more

    pub none_left : length (take end run) ≤ taken → end ≤ taken
    none_left all = omega (arith, length-take end run, all, f.ends)

    pub sound : unreached reader ≡ false
    sound = f.sound.passing.passes

    -- the bit was taken, and the sync word stands nowhere
    pub unsynced :
        taken < end → get_or run taken 0 ≤ 1 → (next : Reader) → next ≡ reader_with reader.mode reader.ways (push (held_bits reader) (get_or run taken 0))
        → next.info < 2 ^ 64 → next.sync < 2 ^ 16 → (seen : Bool) → seen ≡ synced next → seen ≡ false → Feeding limit run first end next (taken + 1)
    unsynced more small next pushes low high seen tested none =
        feeding_goes_on limit run first end reader taken f more small next pushes Nothing (sym (unsynced_hears_nothing next (sym tested ∙ none))) low high refl

    -- the bit was taken, and what is heard was looked at
    module _
        (more : taken < end) (small : get_or run taken 0 ≤ 1) (next : Reader)
        (pushes : next ≡ reader_with reader.mode reader.ways (push (held_bits reader) (get_or run taken 0))) (heard : Heard)
        (told : heard ≡ heard_in next.mode next.ways (held_bits next)) (loud : Bool) (tested : loud ≡ is_answer heard) where
      pub answered : loud ≡ true → stopped heard next (taken + 1) ≡ going first limit run
      answered e = stops_after limit run first end reader taken f more small next pushes heard told (sym tested ∙ e)

      pub unanswered : next.info < 2 ^ 64 → next.sync < 2 ^ 16 → loud ≡ false → Feeding limit run first end next (taken + 1)
      unanswered low high nothing = feeding_goes_on limit run first end reader taken f more small next pushes heard told low high (sym tested ∙ nothing)
