-- Every index of a network names a variable of it, whatever build adds.
use mathlib.Core.Path.{◌≡◌}
use mathlib.Core.List.{List, [], ◌∷◌}
use Prim.Native.Nat.{ℕ, ◌+◌, ◌*◌, ◌<◌}
use native.Mathlib.Omega.{arith}
use lib.ListN.{length, length-append}
use Rattle.solve.specs.Least.{Inside}
use Rattle.analyzer.specs.Build.{Touch, Segment, Disconnect, Network, new_var, new_relation, new_segment, new_disconnect}
use Rattle.analyzer.proofs.Each.{Each, each_append, each_weaken}

-- the variables of so many interfaces are there, and every index is in range
pub record Sound (interfaces : ℕ) (n : Network) : Type 0 where
  pub room : 2 * interfaces < n.vars
  pub relations : Each (Inside n.vars) n.relations
  pub segments : Each (λ s. s.var < n.vars) n.segments
  pub disconnects : Each (λ d. (d.connected < n.vars) × (d.disconnected < n.vars)) n.disconnects

module _ {i : ℕ} (n : Network) (s : Sound i n) where
  pub var_sound : Sound i (new_var n)
  var_sound =
      record {
        room = omega (arith, s.room);
        relations =
            each_weaken (Inside n.vars) (Inside (n.vars + 1))
            (λ r h. record { a = omega (arith, h.a); b = omega (arith, h.b); c = omega (arith, h.c); out = omega (arith, h.out) })
            n.relations
            s.relations;
        segments =
            each_weaken (λ (x : Segment). x.var < n.vars) (λ (x : Segment). x.var < n.vars + 1) (λ x h. omega (arith, h)) n.segments
            s.segments;
        disconnects =
            each_weaken (λ (d : Disconnect). (d.connected < n.vars) × (d.disconnected < n.vars))
            (λ (d : Disconnect). (d.connected < n.vars + 1) × (d.disconnected < n.vars + 1))
            (λ d h. (omega (arith, h.0), omega (arith, h.1)))
            n.disconnects
            s.disconnects;
      }

  pub relation_sound : (a b c o : ℕ) → a < n.vars → b < n.vars → c < n.vars → o < n.vars → Sound i (new_relation a b c o n)
  relation_sound a b c o p q r t =
      record {
        room = s.room;
        relations =
            each_append (Inside n.vars) n.relations (record { a = a; b = b; c = c; out = o }) s.relations
            (record { a = p; b = q; c = r; out = t });
        segments = s.segments;
        disconnects = s.disconnects;
      }

  pub segment_sound : (var : ℕ) (touches : List Touch) → var < n.vars → Sound i (new_segment var touches n)
  segment_sound var touches h =
      record {
        room = s.room;
        relations = s.relations;
        segments = each_append (λ (x : Segment). x.var < n.vars) n.segments (record { var = var; touches = touches }) s.segments h;
        disconnects = s.disconnects;
      }

  pub disconnect_sound : (stage connected disconnected : ℕ) → connected < n.vars → disconnected < n.vars
      → Sound i (new_disconnect stage connected disconnected n)
  disconnect_sound stage connected disconnected h k =
      record {
        room = s.room;
        relations = s.relations;
        segments = s.segments;
        disconnects =
            each_append (λ (d : Disconnect). (d.connected < n.vars) × (d.disconnected < n.vars)) n.disconnects
            (record { stage = stage; connected = connected; disconnected = disconnected })
            s.disconnects
            (h, k);
      }

pub relations_more : (a b c o : ℕ) (n : Network) → length (new_relation a b c o n).relations ≡ length n.relations + 1
relations_more a b c o n = length-append n.relations (record { a = a; b = b; c = c; out = o } ∷ [])
