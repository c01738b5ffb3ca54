-- Answered  what a list of refusals answers: what is accepted where none applies, and only there
pub mod Answered
-- Same      two refusals are the same where their numbers are
pub mod Same
-- ByNumber  a fact about a clear list is found by its number
pub mod ByNumber
-- First     of a list that follows an order, the first number of the order that applies is given
pub mod First
-- Results   what a list comes to, where a call accepts or refuses
pub mod Results
-- Verdicts  a call that takes its refusal from a verdict answers as its own list says
pub mod Verdicts
-- Printed   the numbers as they are printed, in the order of the table
pub mod Printed
