-- Tables that hold what build makes are tables that fill_segments takes.
use mathlib.Core.Path.{◌≡◌, ◌∙◌, sym, ap, subst}
use mathlib.Core.List.{List, [], ◌∷◌, map}
use Prim.Native.Nat.{ℕ, ◌<◌, ◌≤◌}
use native.Mathlib.Omega.{arith}
use native.Mathlib.Nat.{zero-add}
use lib.ListN.{length, get_or}
use Rattle.image.specs.Kind.{concat}
use Rattle.image.specs.View.{collect}
use Rattle.image.proofs.Viewing.{length-collect, get_or-collect}
use Rattle.analyzer.specs.Build.{Touch, Segment, Disconnect, Network}
use Rattle.analyzer.specs.Seeds.{TouchAt, touch_at, flat_touches}
use Rattle.analyzer.specs.Sizes.{Sizes}
use Rattle.analyzer.proofs.Each.{Each, each_at, each_from, each_both}
use Rattle.building.specs.declared.built.Built.{Built}
use Rattle.building.specs.Fill.{Within, Fillable}
use Rattle.building.specs.Tables.{touch_row, disconnect_row, Seeded}

-- the variables of touches are those of their segments
flat-each : (P : ℕ → Type 0) (ss : List Segment) → Each (λ s. P s.var) ss → Each (λ m. P m.var) (flat_touches ss)
unfolding concat
flat-each P [] h = tt
flat-each P (s ∷ ss) h = each_both (λ m. P m.var) (map (touch_at s.var) s.touches) (flat_touches ss) (own s.touches) (flat-each P ss h.1)
  where
    own : (ts : List Touch) → Each (λ m. P m.var) (map (touch_at s.var) ts)
    own [] = tt
    own (t ∷ ts) = (h.0, own ts)

-- what holds of each of a list holds of the rows that make it
by_row : {A : Type 0} (P : A → Type 0) (row : ℕ → A) (n : ℕ) (l : List A) → collect row 0 n ≡ l → Each P l → (k : ℕ) → k < n → P (row k)
by_row P row n l e h k b =
    subst P (ap (λ xs. get_or xs k (row 0)) (sym e) ∙ get_or-collect row (row 0) 0 n k b ∙ ap row (zero-add k))
    (each_at P l k (row 0) h (omega (arith, b, length-collect row 0 n, ap length e)))

module _ {n : Network} {b : List ℕ} {t d : List (List ℕ)} {z : Built} (seeded : Seeded n b t d z) (sizes : Sizes n) (stages : ℕ) where
  pub fillable : ((k : ℕ) (x : Disconnect) → k < length n.disconnects → (get_or n.disconnects k x).stage < stages)
      → z.touches ≤ length t → z.disconnects ≤ length d → Fillable stages z t d
  fillable staged ht hd =
      record {
        touches = ht;
        disconnects = hd;
        touched = by_row (λ (m : TouchAt). m.var < z.vars) (touch_row t) z.touches _ seeded.touches vars;
        cut = by_row (Within stages z.vars) (disconnect_row d) z.disconnects _ seeded.disconnects ends;
      }
    where
      below : {x : ℕ} → x < n.vars → x < z.vars
      below h = omega (arith, h, seeded.vars)

      vars : Each (λ m. m.var < z.vars) (flat_touches n.segments)
      vars =
          flat-each (λ x. x < z.vars) n.segments
          (each_from (λ s. s.var < z.vars) n.segments (record { var = 0; touches = [] }) (λ k h. below (sizes.segments k _ h)))

      ends : Each (Within stages z.vars) n.disconnects
      ends =
          each_from (Within stages z.vars) n.disconnects (record { stage = 0; connected = 0; disconnected = 0 })
          (λ k h. record {
            stage = staged k _ h;
            connected = below (sizes.connected k _ h);
            disconnected = below (sizes.disconnected k _ h);
          })
