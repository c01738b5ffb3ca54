-- Lists     an element for each number below a count, and a test of each
-- Stride    every eighth element: the ones of a remainder by 8
-- Pass      all eight counts in one pass, eight places at a time
-- Shape     how long the parts of a line are, and that they are bits
-- Turns     the loops begin, go on and end
pub mod Lists
pub mod Stride
pub mod Pass
pub mod Shape
pub mod Turns
-- Pairs     the pairs of the groups of ten that were yielded
pub mod Pairs
-- Gathers   a run of bits gathered from the last one on
pub mod Gathers
-- Unstopped a pass that goes on whatever it finds
pub mod Unstopped
-- Folds     what a fold over elements tells
pub mod Folds
-- ThreeParts the parts of a line, lent one after the other, come back as the line
-- FormTests what each test of the form of a line leads to
pub mod ThreeParts
pub mod FormTests
