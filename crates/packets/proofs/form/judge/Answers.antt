-- `packets::form::judge` meets its contract: the tests that led to each `return` are the rows of the list up to the one that applies.
-- Assumes nothing.
use Rattle.refusals.proofs.Results.{passed_on}
use Rattle.modes.proofs.InMode.{counted_told, counted_refused}
use Rattle.packets.proofs.FormTests.{wrong_size, no_mode, high_word, no_header, wrong_word_lem, wrong_sum, low_bits, all_sound}
use Rattle.packets.proofs.form.judge.Goals as goal

pub returns-then-words-ne23 : goal.returns-then-words-ne23
returns-then-words-ne23 c = search wrong_size

pub returns-in_err-counting_of : goal.returns-in_err-counting_of
returns-in_err-counting_of c = passed_on c.from_residual.ensures.1 (search (no_mode, counted_refused _ _ c.counting_of.ensures _ c.in_err-counting_of.was))

pub returns-then-has_high_word : goal.returns-then-has_high_word
returns-then-has_high_word c = search (high_word, counted_told _ _ c.counting_of.ensures _ c.in_ok-counting_of.was)

pub returns-then-not-is_headed : goal.returns-then-not-is_headed
returns-then-not-is_headed c = search (no_header, counted_told _ _ c.counting_of.ensures _ c.in_ok-counting_of.was)

pub returns-then-has_wrong_word : goal.returns-then-has_wrong_word
returns-then-has_wrong_word c = search (wrong_word_lem, counted_told _ _ c.counting_of.ensures _ c.in_ok-counting_of.was)

pub returns-then-words-checksum : goal.returns-then-words-checksum
returns-then-words-checksum c = search (wrong_sum, counted_told _ _ c.counting_of.ensures _ c.in_ok-counting_of.was)

pub returns-then-has_low_bits : goal.returns-then-has_low_bits
returns-then-has_low_bits c = search (low_bits, counted_told _ _ c.counting_of.ensures _ c.in_ok-counting_of.was)

pub returns : goal.returns
returns c = search (all_sound, counted_told _ _ c.counting_of.ensures _ c.in_ok-counting_of.was)
