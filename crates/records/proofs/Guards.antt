-- A test that stands before another: what the code answers where the first fails, and where it passes.
use mathlib.Core.Path.{◌≡◌, ◌∙◌, refl, sym, ap}
use mathlib.Core.Bool.{Bool, true, false, not, ◌&&◌, true≢false}
use borrow.Author.Tests.{not-true, not-false}

pub guard_no : (a b r : Bool) → r ≡ a → not r ≡ true → false ≡ (a && b)
guard_no a b r e h = sym (ap (λ (x : Bool). x && b) (sym e ∙ not-true r h))

pub guard_go : (a b r x : Bool) → r ≡ a → not r ≡ false → x ≡ b → x ≡ (a && b)
guard_go a b r x e h p = p ∙ sym (ap (λ (y : Bool). y && b) (sym e ∙ not-false r h))

pub guard_holds : (a r : Bool) → r ≡ a → not r ≡ false → a ≡ true
guard_holds a r e h = sym e ∙ not-false r h

pub guard_fails : (a r : Bool) → r ≡ a → not r ≡ true → a ≡ false
guard_fails a r e h = sym e ∙ not-true r h

pub left_true : (a b : Bool) → (a && b) ≡ true → a ≡ true
left_true true b h = refl
left_true false b h = absurd (true≢false (sym h))

pub right_true : (a b : Bool) → (a && b) ≡ true → b ≡ true
right_true true b h = h
right_true false b h = absurd (true≢false (sym h))

pub and_stops : (a b : Bool) → a ≡ false → a ≡ (a && b)
and_stops a b h = h ∙ sym (ap (λ (x : Bool). x && b) h)

pub and_goes : (a b : Bool) {x : Bool} → a ≡ true → x ≡ b → x ≡ (a && b)
and_goes a b h p = p ∙ sym (ap (λ (y : Bool). y && b) h)
