-- What is reached, and 13:
-- Passing   a reader whose mode and state are sound stays so
-- Reached   the check passes exactly for the states that feeding a fresh reader reaches
-- Thirteen  a step and a block answer 13 exactly for the states that no feeding reaches
pub mod Passing
pub mod Reached
pub mod Thirteen
-- Blocks:
-- Cut       a block is its single steps
-- OneBlock  a block, and what is left of the run
-- CutAnywhere a run in blocks, going on after each stop, is its single steps
-- StepsCounted a block's count is of the steps in which a bit is taken
pub mod Cut
pub mod OneBlock
pub mod CutAnywhere
pub mod StepsCounted
-- Demand 3:
-- Digits    the digits of an accepted address are too small for their top two bits to be both set
-- Apart     places of an accepted word at which it has not both this bit and the next set
-- CodeWords what acceptance says of a code word
-- Turned    lists turned round, and one that lies over another so many places on
-- Window    the last 80 of all the bits so far, and how a word that runs on in them lies over them
-- Gaps      the sync word's twelve ones, wherever else they lay over an accepted word, would cover a gap of it
-- Synced    where the sync word stands in a window that lies over an accepted word; a window is not both forward and backward
-- Quiet     nothing is heard inside a word or between two
-- Whole     a code word held whole is heard as itself, the way it runs
-- Heeded    a word fed after any past: nothing until its 80th bit, and then its own report
-- Demand3   each word is reported, as itself, at its 80th bit
-- Turns     a run that turns, inside a word or anywhere
-- Tight     after fewer bits the demand could not be met
-- Impostors one that never reports, refuses each word, reports one fixed address, gives something else for uncorrected or backward words fails it
pub mod Digits
pub mod Apart
pub mod CodeWords
pub mod Turned
pub mod Window
pub mod Gaps
pub mod Synced
pub mod Quiet
pub mod Whole
pub mod Heeded
pub mod Demand3
pub mod Turns
pub mod Tight
pub mod Impostors
