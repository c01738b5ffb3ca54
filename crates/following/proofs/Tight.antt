-- The numbers of bits after which nothing false is heard are tight: leftovers that the first word's bits can complete, and a report that no word on the
-- track made.
-- Assumes nothing.
use Prim.Native.Nat.{ℕ, ◌+◌, ◌-◌, ◌^◌, ◌<◌, ◌≤◌}
use mathlib.Core.Path.{◌≡◌, refl, sym, ap, ◌∙◌}
use mathlib.Core.Bool.{true≢false}
use mathlib.Core.List.{List, [], ◌∷◌, reverse}
use native.Mathlib.Omega.{arith}
use lib.ListN.{get_or, take, drop, replicate}
use lib.Seq.{get_or-drop}
use Rattle.bits.specs.Bits.{value, to_bits, some_above, how_many}
use Rattle.runs.specs.Run.{same}
use Rattle.rates.specs.declared.types.Flag.TheVariants.{No}
use Rattle.record.specs.declared.types.Record.{Record}
use Rattle.record.specs.Record.{record_of, marked}
use Rattle.modes.specs.Modes.{unknown, rate_at}
use Rattle.modes.specs.Calls.{record_in}
use Rattle.polarity.specs.declared.types.Found.TheVariants.{Corrected}
use Rattle.polarity.specs.Word.{sync_word, word_with, odd_zeros}
use Rattle.ltc.specs.Calls.{read_of}
use Rattle.register.specs.declared.types.Ways.{Ways}
use Rattle.register.specs.declared.types.Ways.TheVariants.{ForwardOnly, Both}
use Rattle.hearing.specs.declared.types.Way.{Way}
use Rattle.hearing.specs.declared.types.Way.TheVariants.{Forward, Backward}
use Rattle.hearing.specs.declared.types.Report.{Report}
use Rattle.hearing.specs.declared.types.Heard.{Heard}
use Rattle.hearing.specs.declared.types.Heard.TheVariants.{Nothing, Accepted}
use Rattle.register.specs.Held.{fresh_of, reader_with, unreached}
use Rattle.hearing.specs.Window.{reporting, forward_in, backward_in, heard_in}
use Rattle.reader.specs.Steps.{stepped_of}
use Rattle.reader.specs.Blocks.{is_answer}
use Rattle.following.specs.Reach.{fed, answers}
use Rattle.following.specs.Following.{CodeWord, end_to_end, each_as_itself, FollowsAfter, Settles}
use Rattle.following.specs.Following.Settles.{forward_only, both_forward, both_backward}
use Rattle.following.proofs.Turns.{covered_again}

-- 00:00:00:00 at 30 frames, groups and flags 0: the polarity bit is set
unfoldable pub midnight : CodeWord 2
unfolding read_of record_of odd_zeros how_many to_bits value some_above same sync_word unknown rate_at
midnight = record { bits = word_with (2 ^ 27); says = marked No (record_in 2 (2 ^ 27)); found = Corrected; accepted = refl }

-- 00:00:00:07 and group 1 set to 1: it begins with 1, 1, 1, 0, 1, as the sync word ends
unfoldable pub seven : CodeWord 2
unfolding read_of record_of odd_zeros how_many to_bits value some_above same sync_word unknown rate_at
seven = record { bits = word_with (2 ^ 27 + 2 ^ 4 + 7); says = marked No (record_in 2 (2 ^ 27 + 2 ^ 4 + 7)); found = Corrected; accepted = refl }

-- 00:00:00:07 and group 8 set to 1: it begins with 1, 1, 1, 0, 0, as the sync word turned round ends
unfoldable seven_last : CodeWord 2
unfolding read_of record_of odd_zeros how_many to_bits value some_above same sync_word unknown rate_at
seven_last = record { bits = word_with (2 ^ 60 + 2 ^ 27 + 7); says = marked No (record_in 2 (2 ^ 60 + 2 ^ 27 + 7)); found = Corrected; accepted = refl }

-- 00:20:00:17
unfoldable seventeen : Record
seventeen = marked No (record_in 2 (2 ^ 41 + 2 ^ 8 + 7))

pub same_later : (bits place : ℕ) (xs ys : List Heard) → bits ≤ place → drop bits xs ≡ drop bits ys → get_or xs place Nothing ≡ get_or ys place Nothing
same_later bits place xs ys low same =
    let on : bits + (place - bits) ≡ place = omega arith in
    rw on at
    (sym (get_or-drop bits xs (place - bits) Nothing)
    ∙ ap (λ (l : List Heard). get_or l (place - bits) Nothing) same
    ∙ get_or-drop bits ys (place - bits) Nothing)

-- after leftovers, a report inside a word: so at no fewer bits could the demand be met
module _
    (ways : Ways) (way : Way) (leftovers : List ℕ) (word : CodeWord 2) (place : ℕ) (report : Report)
    (comes : get_or (answers (fed (fresh_of 2 ways) leftovers) (end_to_end way (word ∷ []))) place Nothing ≡ Accepted report)
    (inside : get_or (each_as_itself way (word ∷ [])) place Nothing ≡ Nothing) where
  tight_here : (bits : ℕ) → bits ≤ place → FollowsAfter bits ways way answers → ⊥
  unfolding fed unknown
  tight_here bits few follow =
      let asked = covered_again bits ways way follow (fresh_of 2 ways) record { elements = []; brought = refl } refl refl leftovers (word ∷ []) in
      true≢false
      (ap is_answer
      (sym comes
      ∙ same_later bits place (answers (fed (fresh_of 2 ways) leftovers) (end_to_end way (word ∷ []))) (each_as_itself way (word ∷ [])) few asked
      ∙ inside))

-- where a track breaks off five bits before the end of a word, the next word's first five can complete it
forward_only_early : (bits : ℕ) → bits ≤ 4 → FollowsAfter bits ForwardOnly Forward answers → ⊥
unfolding fed answers end_to_end each_as_itself stepped_of heard_in forward_in backward_in reader_with unreached to_bits value how_many sync_word seven midnight read_of record_of odd_zeros some_above same unknown rate_at
forward_only_early = tight_here ForwardOnly Forward (take 75 midnight.bits) seven 4 (reporting midnight.says midnight.found Forward) refl refl

-- after 1, 0 and nine ones, the first 69 bits of a word complete what reads backwards as a word: 00:00:00:07 is taken for 00:20:00:17
both_forward_early : (bits : ℕ) → bits ≤ 68 → FollowsAfter bits Both Forward answers → ⊥
unfolding fed answers end_to_end each_as_itself stepped_of heard_in forward_in backward_in reader_with unreached to_bits value how_many sync_word seven_last seventeen read_of record_of odd_zeros some_above same unknown rate_at
both_forward_early = tight_here Both Forward (1 ∷ 0 ∷ replicate 9 1) seven_last 68 (reporting seventeen Corrected Backward) refl refl

-- and where a track that runs backward breaks off five bits before the end of a word, the first five of the next
both_backward_early : (bits : ℕ) → bits ≤ 4 → FollowsAfter bits Both Backward answers → ⊥
unfolding fed answers end_to_end each_as_itself stepped_of heard_in forward_in backward_in reader_with unreached to_bits value how_many sync_word seven midnight read_of record_of odd_zeros some_above same unknown rate_at
both_backward_early = tight_here Both Backward (take 75 (reverse seven.bits)) midnight 4 (reporting seven.says seven.found Backward) refl refl

-- each of them is tight
pub tight : {ways : Ways} {way : Way} {from : ℕ} → Settles ways way from → (bits : ℕ) → bits < from → FollowsAfter bits ways way answers → ⊥
tight forward_only bits few = forward_only_early bits (omega arith)
tight both_forward bits few = both_forward_early bits (omega arith)
tight both_backward bits few = both_backward_early bits (omega arith)
