-- Demand 3 leaves a player no choice once the reader has settled, and one that changes what is reported of any accepted word does not meet it.
-- Assumes nothing.
use Prim.Native.Nat.{ℕ, zero, suc, ◌≤◌}
use mathlib.Core.Path.{◌≡◌, refl, sym, ap, ◌∙◌}
use mathlib.Core.Bool.{false}
use mathlib.Core.List.{List, [], ◌∷◌, map}
use native.Mathlib.Omega.{arith}
use lib.ListN.{drop}
use Rattle.bits.specs.Bits.{value, to_bits, some_above, how_many}
use Rattle.runs.specs.Run.{same}
use Rattle.rates.specs.declared.types.Flag.TheVariants.{No}
use Rattle.record.specs.declared.types.Record.{Record}
use Rattle.record.specs.Record.{record_of, marked}
use Rattle.modes.specs.Modes.{unknown, rate_at}
use Rattle.modes.specs.Calls.{record_in}
use Rattle.polarity.specs.declared.types.Found.{Found}
use Rattle.polarity.specs.declared.types.Found.TheVariants.{Corrected, Uncorrected}
use Rattle.polarity.specs.Word.{sync_word, word_with, odd_zeros}
use Rattle.ltc.specs.Calls.{read_of}
use Rattle.register.specs.declared.types.Reader.{Reader}
use Rattle.register.specs.declared.types.Ways.{Ways}
use Rattle.register.specs.declared.types.Ways.TheVariants.{Both}
use Rattle.hearing.specs.declared.types.Way.{Way}
use Rattle.hearing.specs.declared.types.Way.TheVariants.{Forward, Backward}
use Rattle.hearing.specs.declared.types.Report.{Report}
use Rattle.hearing.specs.declared.types.Heard.{Heard}
use Rattle.hearing.specs.declared.types.Heard.TheVariants.{Nothing, Accepted, Refused}
use Rattle.register.specs.Held.{fresh_of}
use Rattle.hearing.specs.Window.{reporting}
use Rattle.following.specs.Reach.{fed, answers, Reached}
use Rattle.following.specs.Following.{CodeWord, end_to_end, each_as_itself, FollowsAfter, before_its_last}
use Rattle.following.proofs.Demand3.{demand_3_both_ways}
use Rattle.following.proofs.Tight.{same_later, midnight, seven}

-- a player who hears as the reader does and passes on something else
abbrev pub relaying : (Heard → Heard) → Reader → List ℕ → List Heard
relaying lie reader bits = map lie (answers reader bits)

-- the same for each report, whatever the word
abbrev pub always : Heard → Heard → Heard
always other Nothing = Nothing
always other (Accepted report) = other
always other (Refused n) = Refused n

drop_map : {A B : Type 0} (f : A → B) (n : ℕ) (xs : List A) → drop n (map f xs) ≡ map f (drop n xs)
drop_map f zero xs = refl
drop_map f (suc n) [] = refl
drop_map f (suc n) (x ∷ xs) = drop_map f n xs

fresh_reached : (mode : ℕ) (ways : Ways) → Reached (fresh_of mode ways)
unfolding fed
fresh_reached mode ways = record { elements = []; brought = refl }

-- readers that hear so, words that run so, and the bits after which the reader follows
module _ (bits : ℕ) (ways : Ways) (way : Way) (truth : FollowsAfter bits ways way answers) where
  -- whoever follows says after these bits what the reader says
  pub no_choice :
      (player : Reader → List ℕ → List Heard) → FollowsAfter bits ways way player → (reader : Reader) → Reached reader → unknown reader.mode ≡ false
      → reader.ways ≡ ways → (words : List (CodeWord reader.mode))
      → drop bits (player reader (end_to_end way words)) ≡ drop bits (answers reader (end_to_end way words))
  no_choice player follow reader reached known hears words = follow reader reached known hears words ∙ sym (truth reader reached known hears words)

  -- a player who changes what the reader says follows only where each accepted word's report is passed on as it is
  pub honest :
      bits ≤ 79 → (lie : Heard → Heard) → FollowsAfter bits ways way (relaying lie) → (mode : ℕ) → unknown mode ≡ false → (word : CodeWord mode)
      → lie (Accepted (reporting word.says word.found way)) ≡ Accepted (reporting word.says word.found way)
  unfolding each_as_itself
  honest early lie follow mode known word =
      let reader = fresh_of mode ways in
      let said = answers reader (end_to_end way (word ∷ [])) in
      let each = each_as_itself way (word ∷ []) in
      let asked = follow reader (fresh_reached mode ways) known refl (word ∷ []) in
      let told = truth reader (fresh_reached mode ways) known refl (word ∷ []) in
      same_later bits 79 (map lie each) each early
      (drop_map lie bits each ∙ ap (map lie) (sym told) ∙ sym (drop_map lie bits said) ∙ asked)

frame_in : Heard → ℕ
frame_in Nothing = 0
frame_in (Accepted report) = report.«record».address.frames.0
frame_in (Refused n) = 0

-- something else for each uncorrected word
abbrev pub uncorrected_as : (Record → Heard) → Heard → Heard
uncorrected_as other Nothing = Nothing
uncorrected_as other (Accepted report) = by_found report.found
  where
    by_found : Found → Heard
    by_found Corrected = Accepted report
    by_found Uncorrected = other report.«record»
uncorrected_as other (Refused n) = Refused n

-- 00:00:00:00 at 30 frames, groups and flags 0, the polarity bit left 0
unfoldable unset : CodeWord 2
unfolding read_of record_of odd_zeros how_many to_bits value some_above same sync_word unknown rate_at
unset = record { bits = word_with 0; says = marked No (record_in 2 0); found = Uncorrected; accepted = refl }

module _ (bits : ℕ) (ways : Ways) (way : Way) (truth : FollowsAfter bits ways way answers) (early : bits ≤ 79) where
  -- with nothing for each report, a number, or one fixed record: one that never reports, that refuses each word, that reports one fixed address
  pub no_impostor : (other : Heard) → FollowsAfter bits ways way (relaying (always other)) → ⊥
  unfolding frame_in midnight seven record_of unknown
  no_impostor other follow =
      let one = honest bits ways way truth early (always other) follow 2 refl midnight in
      let another = honest bits ways way truth early (always other) follow 2 refl seven in
      let same : ◌≡◌ {A = ℕ} 0 7 = ap frame_in (sym one ∙ another) in
      omega arith

  -- with nothing for each uncorrected word, with 5, or with its record as a corrected word's: whatever is not its report
  pub no_impostor_of_uncorrected :
      (other : Record → Heard) → ((r : Record) → other r ≡ Accepted (reporting r Uncorrected way) → ⊥)
      → FollowsAfter bits ways way (relaying (uncorrected_as other)) → ⊥
  unfolding unset unknown
  no_impostor_of_uncorrected other unlike follow =
      unlike unset.says (honest bits ways way truth early (uncorrected_as other) follow 2 refl unset)

-- something else for each word that runs backward
abbrev pub backward_as : (Report → Heard) → Heard → Heard
backward_as other Nothing = Nothing
backward_as other (Accepted report) = by_way report.way
  where
    by_way : Way → Heard
    by_way Forward = Accepted report
    by_way Backward = other report
backward_as other (Refused n) = Refused n

-- with each as forward, with another record, with nothing for those that are found uncorrected: whatever is not the report of even one such word
pub no_impostor_of_backward :
    (other : Report → Heard) (mode : ℕ) → unknown mode ≡ false → (word : CodeWord mode)
    → (other (reporting word.says word.found Backward) ≡ Accepted (reporting word.says word.found Backward) → ⊥)
    → FollowsAfter before_its_last Both Backward (relaying (backward_as other)) → ⊥
no_impostor_of_backward other mode known word unlike follow =
    unlike (honest before_its_last Both Backward (demand_3_both_ways Backward) (omega arith) (backward_as other) follow mode known word)
