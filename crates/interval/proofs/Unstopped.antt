-- A pass that goes on whatever it finds tells what one that stops there would.
-- Assumes nothing.
use mathlib.Core.Path.{◌≡◌, refl, sym}
use mathlib.Core.Bool.{Bool, true, false, ◌||◌, true≢false, false≢true}

-- something was found, or else there holds what holds at each turn of a pass that stops
pub record Unstopped (told whole : Bool) (Turn : Type 0) : Type 0 where
  pub found : told ≡ true → whole ≡ true
  pub none : told ≡ false → Turn

module _ (whole : Bool) {Turn : Type 0} where
  pub pass_begins : Turn → Unstopped false whole Turn
  pass_begins turn = record { found = λ e. absurd (false≢true e); none = λ e. turn }

  pub pass_turns : {Next : Type 0} (told here : Bool) → Unstopped told whole Turn → (here ≡ true → whole ≡ true) → (here ≡ false → Turn → Next)
      → Unstopped (told || here) whole Next
  pass_turns true here u wrong turned = record { found = u.found; none = λ e. absurd (true≢false e) }
  pass_turns false here u wrong turned = record { found = wrong; none = λ e. turned e (u.none refl) }

  pub pass_ends : (told : Bool) → Unstopped told whole Turn → (Turn → whole ≡ false) → told ≡ whole
  pass_ends true u sound = sym (u.found refl)
  pass_ends false u sound = sym (sound (u.none refl))
