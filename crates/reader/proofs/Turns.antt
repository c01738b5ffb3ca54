-- A block begins, goes on and ends.
-- Assumes nothing.
use Prim.Native.Nat.{ℕ, suc, ◌+◌, ◌-◌, ◌^◌, ◌<◌, ◌≤◌, min}
use mathlib.Core.Path.{◌≡◌, refl, sym, ap, ◌∙◌}
use mathlib.Core.Bool.{Bool, true, false}
use mathlib.Core.List.{List, [], ◌∷◌}
use native.Mathlib.Nat.{zero-add, add-zero, sub-zero}
use native.Mathlib.Numerals.{add-one}
use native.Mathlib.Omega.{arith}
use lib.Dec.{ltb, eqb}
use lib.ListN.{length, get_or, drop, drop_of_length-le}
use lib.Seq.{drop-cons}
use borrow.Author.Tests.{lt-ltb, le-ltb, ltb-true, ltb-false, ne_eqb}
use Rattle.refusals.specs.declared.types.Refusal.TheVariants.{ElementTooHigh}
use Rattle.register.specs.declared.types.Reader.{Reader}
use Rattle.hearing.specs.declared.types.Heard.{Heard}
use Rattle.hearing.specs.declared.types.Heard.TheVariants.{Nothing, Refused}
use Rattle.register.specs.Held.{held_bits, push, reader_with}
use Rattle.hearing.specs.Window.{heard_in}
use Rattle.reader.specs.Steps.{stepped_of}
use Rattle.reader.specs.Blocks.{is_answer, stopped, one_more, going}
use Rattle.reader.specs.Feeding.{more_before, Sound, Feeding}
use Rattle.reader.proofs.Taken.{next_passes, same_mode, step_taken}

at_limit : (reader : Reader) (run : List ℕ) → going reader 0 run ≡ stopped Nothing reader 0
unfolding going
at_limit reader [] = refl
at_limit reader (element ∷ elements) = refl

-- one turn, from a reader whose mode and state are sound, before the limit
module _ (reader : Reader) (s : Sound reader) (limit : ℕ) (some : eqb limit 0 ≡ false) (element : ℕ) (elements : List ℕ) where
  high_stops : 1 < element → going reader limit (element ∷ elements) ≡ stopped (Refused ElementTooHigh) reader 0
  unfolding going stepped_of
  high_stops high = rw (some, s.passing.known, s.passing.passes, lt-ltb 1 element high)

  module _
      (small : element ≤ 1) (next : Reader) (pushes : next ≡ reader_with reader.mode reader.ways (push (held_bits reader) element))
      (heard : Heard) (told : heard ≡ heard_in next.mode next.ways (held_bits next)) where
    stepped : stepped_of reader element ≡ record { heard = heard; reader = next }
    stepped = sym (step_taken reader element s.low s.high s.passing.passes small s.passing.known next pushes heard told)

    answer_stops : is_answer heard ≡ true → going reader limit (element ∷ elements) ≡ stopped heard next 1
    unfolding going
    answer_stops some_answer = rw (some, le-ltb 1 element small, stepped, some_answer)

    goes_on : is_answer heard ≡ false → going reader limit (element ∷ elements) ≡ one_more (going next (limit - 1) elements)
    unfolding going
    goes_on nothing = rw (some, le-ltb 1 element small, stepped, nothing)

module _ (limit : ℕ) (run : List ℕ) (first : Reader) (end : ℕ) where
  pub feeding_begins : Sound first → end ≡ min limit (length run) → Feeding limit run first end first 0
  feeding_begins s e =
      let block = going first limit run in
      record {
        within = omega arith;
        ends = e;
        sound = s;
        so_far = rw (sub-zero limit) (λ i. stopped block.heard block.reader (sym (zero-add block.taken) i));
      }

  module _ (reader : Reader) (taken : ℕ) (f : Feeding limit run first end reader taken) where
    -- at the end of the run or of the limit
    pub feeding_ends : end ≤ taken → stopped Nothing reader taken ≡ going first limit run
    unfolding going
    feeding_ends h = sym (f.so_far ∙ ap (more_before taken) (go (ltb limit (length run)) refl) ∙ ap (stopped Nothing reader) (add-zero taken))
      where
        go : (t : Bool) → ltb limit (length run) ≡ t → going reader (limit - taken) (drop taken run) ≡ stopped Nothing reader 0
        go true t =
            let short = ltb-true limit (length run) t in
            let none : limit - taken ≡ 0 = omega (arith, f.ends) in
            rw none (at_limit reader (drop taken run))
        go false t =
            let long = ltb-false limit (length run) t in
            let all : length run ≤ taken = omega (arith, f.ends) in
            rw (drop_of_length-le run all)

    module _ (more : taken < end) where
      here : drop taken run ≡ get_or run taken 0 ∷ drop (suc taken) run
      here = drop-cons run taken 0 (omega (arith, f.ends))

      left : eqb (limit - taken) 0 ≡ false
      left = ne_eqb (limit - taken) 0 (omega (arith, f.ends))

      -- before an element that is no bit
      pub stops_before : 1 < get_or run taken 0 → stopped (Refused ElementTooHigh) reader taken ≡ going first limit run
      stops_before high =
          let one = high_stops reader f.sound (limit - taken) left (get_or run taken 0) (drop (suc taken) run) high in
          sym (f.so_far ∙ ap (more_before taken) (rw here one) ∙ ap (stopped (Refused ElementTooHigh) reader) (add-zero taken))

      module _
          (small : get_or run taken 0 ≤ 1) (next : Reader) (pushes : next ≡ reader_with reader.mode reader.ways (push (held_bits reader) (get_or run taken 0)))
          (heard : Heard) (told : heard ≡ heard_in next.mode next.ways (held_bits next)) where
        -- after an answer
        pub stops_after : is_answer heard ≡ true → stopped heard next (taken + 1) ≡ going first limit run
        stops_after some =
            let one = answer_stops reader f.sound (limit - taken) left (get_or run taken 0) (drop (suc taken) run) small next pushes heard told some in
            sym (f.so_far ∙ ap (more_before taken) (rw here one))

        -- one bit taken, and on
        pub feeding_goes_on : next.info < 2 ^ 64 → next.sync < 2 ^ 16 → is_answer heard ≡ false → Feeding limit run first end next (taken + 1)
        feeding_goes_on low high nothing =
            let one = goes_on reader f.sound (limit - taken) left (get_or run taken 0) (drop (suc taken) run) small next pushes heard told nothing in
            let rest = going next (limit - taken - 1) (drop (suc taken) run) in
            let counted : taken + (rest.taken + 1) ≡ taken + 1 + rest.taken = omega arith in
            let fewer : limit - taken - 1 ≡ limit - (taken + 1) = omega arith in
            let s = f.sound in
            record {
              within = omega (arith, f.within);
              ends = f.ends;
              sound =
                  record {
                    passing =
                        record {
                          known = rw (same_mode reader (get_or run taken 0) s.low s.high s.passing.passes small s.passing.known next pushes) s.passing.known;
                          passes = next_passes reader (get_or run taken 0) s.low s.high s.passing.passes small s.passing.known next pushes;
                        };
                    low = low;
                    high = high;
                  };
              so_far =
                  f.so_far ∙ ap (more_before taken) (rw here one)
                  ∙ ap (stopped rest.heard rest.reader) counted
                  ∙ rw (fewer, add-one taken);
            }
