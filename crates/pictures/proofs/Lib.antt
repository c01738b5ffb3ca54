-- Sizes      how large the numbers of pictures get, and what a clear list says of an address and a place
pub mod Sizes
-- Two        two pictures are clear of refusals together exactly where each is
pub mod Two
-- Divided    the picture of a number is the address of the quotient, at the place that is the remainder
pub mod Divided
-- Shown      n pictures after midnight show the address that the clock shows, and a place; numbers and pictures match one to one
pub mod Shown
-- Answers    the same, said of what the calls answer
pub mod Answers
-- Seconds    the number of a picture within its second, said of what the call answers
pub mod Seconds
-- Moves      the distance and the sum, said of what the calls answer
pub mod Moves
-- Alone      with one picture to an address, a picture is an address
pub mod Alone
-- Rows       the lists of refusals follow the table's order
pub mod Rows
