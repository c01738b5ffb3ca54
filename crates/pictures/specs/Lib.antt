-- Pictures   a picture, its place, its number of the day in closed form, and its number within its second
-- Steps      the clock stepped picture by picture
-- Calls      what each call answers, refusals in the table's order
pub mod Pictures
pub mod Steps
pub mod Calls
