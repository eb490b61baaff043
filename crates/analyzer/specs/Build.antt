-- analyzer.rs: `build`, the variables and relations of a flat image, in the Rust's order.
use Rattle.std.specs.Prelude.{Bool, true, false, not, ◌||◌, List, [], ◌∷◌, ◌++◌, map, ℕ, suc, ◌+◌, ◌-◌, ◌*◌, eqb, length, get_or}
use Rattle.effect.specs.declared.Effect.{Effect}
use Rattle.effect.specs.declared.Effect.TheVariants.{ReadBarrierWrite}
use Rattle.vir.specs.declared.interface.InterfaceKind.{InterfaceKind}
use Rattle.vir.specs.declared.interface.InterfaceKind.TheVariants.{Unconditional, Branch, Match, Closure, Inspect}
use Rattle.vir.specs.Flags.{inv, fork}
use Rattle.vir.specs.Invocation.{invocation_effect}
use Rattle.vir.specs.Step.{Invoked, invoke_of}
use Rattle.image.specs.LayerRules.{transfer_to}
use Rattle.image.specs.Loops.{each, up_to, down_from}
use Rattle.image.specs.Vir.{Action, Interface, Local, Stage, Vir}
use Rattle.solve.specs.declared.Relation.{Relation}

-- what one step does to one local
pub record Touch : Type 0 where
  pub local : ℕ
  pub effect : Effect

-- the Rust's `(EffectVar, IntMap<Local, Effect>)`: the map's effect on a local is the join of its touches, `touched` of Fill
pub record Segment : Type 0 where
  pub var : ℕ
  pub touches : List Touch

-- `(StageId, EffectVar, EffectVar)`
pub record Disconnect : Type 0 where
  pub stage : ℕ
  pub connected : ℕ
  pub disconnected : ℕ

-- what build adds to: how many variables there are, and the relations, segments and disconnects in their order
pub record Network : Type 0 where
  pub vars : ℕ
  pub relations : List Relation
  pub segments : List Segment
  pub disconnects : List Disconnect

-- `EffectVar::PASS`
abbrev pub PASS : ℕ
PASS = 0

-- `get_transfer`: interior and exterior. The Rust numbers an interface's two when it is first asked for them, interior before exterior:
-- interface 0 in `analyze`, and every other at the head of `build`, in number order
abbrev pub get_transfer : ℕ → ℕ × ℕ
get_transfer i = (1 + 2 * i, 2 + 2 * i)

-- `new_var`: the variable is the number of those before it. (`vars` changes)
abbrev pub new_var : Network → Network
new_var n = record { vars = n.vars + 1; relations = n.relations; segments = n.segments; disconnects = n.disconnects }

-- (`relations` changes)
abbrev pub new_relation : ℕ → ℕ → ℕ → ℕ → Network → Network
new_relation a b c o n = record {
  vars = n.vars;
  relations = n.relations ++ (record { a = a; b = b; c = c; out = o } ∷ []);
  segments = n.segments;
  disconnects = n.disconnects;
}

-- (`segments` changes)
abbrev pub new_segment : ℕ → List Touch → Network → Network
new_segment var touches n = record {
  vars = n.vars;
  relations = n.relations;
  segments = n.segments ++ (record { var = var; touches = touches } ∷ []);
  disconnects = n.disconnects;
}

-- (`disconnects` changes)
abbrev pub new_disconnect : ℕ → ℕ → ℕ → Network → Network
new_disconnect stage connected disconnected n = record {
  vars = n.vars;
  relations = n.relations;
  segments = n.segments;
  disconnects = n.disconnects ++ (record { stage = stage; connected = connected; disconnected = disconnected } ∷ []);
}

abbrev pub is_inspect : InterfaceKind → Bool
is_inspect Unconditional = false
is_inspect Branch = false
is_inspect Match = false
is_inspect Closure = false
is_inspect Inspect = true

-- `strict_non_fork`: whether any Inspect interface exists, reached or not
unfoldable pub strict_non_fork : List Interface → Bool
strict_non_fork [] = false
strict_non_fork (i ∷ is) = is_inspect i.kind || strict_non_fork is

-- the head of `build`: an Inspect's segment is at its interior, and reads and writes each local that it lists
unfoldable pub inspects : ℕ → List Interface → Network → Network
inspects i [] n = n
inspects i (x ∷ xs) n =
    inspects (suc i) xs
    (elim (is_inspect x.kind) [
      | true ↦ new_segment (get_transfer i).0 (map (λ l. record { local = l; effect = ReadBarrierWrite }) x.list) n
      | false ↦ n
    ])

-- PASS, every interface's two variables, and the root segment at the exterior of interface 0
abbrev pub begun : Vir → Network
begun v =
    inspects 0 v.interfaces
    (new_segment (get_transfer 0).1 []
    (record { vars = 1 + 2 * length v.interfaces; relations = []; segments = []; disconnects = [] }))

-- while a stage is built: the network, its segments' variables, its transfers' ends, and the current segment
pub record Building : Type 0 where
  pub network : Network
  pub segments : List ℕ
  pub transfers : List (ℕ × ℕ)
  pub current : List Touch

abbrev pub local_of : Vir → ℕ → Local
local_of v l = get_or v.locals l (record { span = 0; ty = 0; flags = 0 })

-- `if stage.declarations.is_empty() .. else ..`
abbrev pub entered : ℕ → Stage → List ℕ → Network → Building
entered t stage [] n =
    record {
      network = n;
      segments = [];
      transfers = ((get_transfer stage.interface).1, (get_transfer stage.interface).0) ∷ [];
      current = [];
    }
entered t stage (l ∷ ls) n =
    let incoming = get_transfer stage.interface in
    let connected = n.vars in
    let disconnected = n.vars + 1 in
    let inner = n.vars + 2 in
    let inner' = n.vars + 3 in
    record {
      network =
          new_disconnect t connected disconnected
          (new_relation disconnected PASS PASS incoming.0
          (new_relation disconnected PASS PASS inner
          (new_relation inner' connected PASS incoming.0
          (new_relation incoming.1 connected PASS inner (new_var (new_var (new_var (new_var n))))))));
      segments = [];
      transfers = (inner, inner') ∷ [];
      current = [];
    }

-- `if !current_segment.is_empty() .. else ..`: the current segment gets a variable, or PASS if it touches nothing
abbrev pub closed : List Touch → Building → Building
closed [] b = record { network = b.network; segments = b.segments ++ (PASS ∷ []); transfers = b.transfers; current = [] }
closed (t ∷ ts) b =
    record {
      network = new_segment b.network.vars (t ∷ ts) (new_var b.network);
      segments = b.segments ++ (b.network.vars ∷ []);
      transfers = b.transfers;
      current = [];
    }

-- `transfers.push(self.get_transfer(transfer.interface))`. (`transfers` changes)
abbrev pub transferred : ℕ → Building → Building
transferred i b =
    record {
      network = b.network;
      segments = b.segments;
      transfers = b.transfers ++ (get_transfer i ∷ []);
      current = b.current;
    }

-- `invocation.effect(local.inv, local.fork.is_some() || !strict_non_fork)`
abbrev pub touch_of : Vir → Invoked → Touch
touch_of v i =
    let flags = (local_of v i.local).flags in
    record { local = i.local; effect = invocation_effect i.invocation (inv flags) (fork flags || not (strict_non_fork v.interfaces)) }

-- (`current` changes)
abbrev pub touching : Touch → Building → Building
touching t b = record { network = b.network; segments = b.segments; transfers = b.transfers; current = b.current ++ (t ∷ []) }

-- the body of `for step in &stage.steps`: an Invoke adds to the current segment, a Transfer ends it
abbrev pub stepped : Vir → Action → Building → Building
stepped v a b =
    each (λ i b. transferred i (closed b.current b)) (transfer_to a.step)
    (each (λ i b. touching (touch_of v i) b) (invoke_of a.step) b)

-- a chain of joins along a stage, forwards or backwards: the network, the last variable, and all of them in the order in which they are made
pub record Chain : Type 0 where
  pub network : Network
  pub var : ℕ
  pub made : List ℕ

-- `let var = self.new_var(); self.new_relation(a, b, c, var)`
abbrev pub linked : (ℕ → ℕ) → (ℕ → ℕ) → (ℕ → ℕ) → Chain → Chain
linked a b c ch =
    let var = ch.network.vars in
    record {
      network = new_relation (a ch.var) (b ch.var) (c ch.var) var (new_var ch.network);
      var = var;
      made = ch.made ++ (var ∷ []);
    }

module _ (segments : List ℕ) (transfers : List (ℕ × ℕ)) where
  abbrev ends_at : ℕ → ℕ × ℕ
  ends_at i = get_or transfers i (PASS, PASS)

  -- `self.new_relation(forward, transfers[i].0, segments[i], var)`
  abbrev pub forward : ℕ → Chain → Chain
  forward i = linked (λ forward. forward) (λ forward. (ends_at i).0) (λ forward. get_or segments i PASS)

  -- `self.new_relation(segments[i], transfers[i + 1].0, backward, var)`
  abbrev pub backward : ℕ → Chain → Chain
  backward i = linked (λ backward. get_or segments i PASS) (λ backward. (ends_at (i + 1)).0) (λ backward. backward)

  -- `self.new_relation(backward, EffectVar::PASS, forward, transfer.1)`, with backwards read from its end
  abbrev pub crossed : List ℕ → List ℕ → ℕ → Network → Network
  crossed forwards backwards i =
      new_relation (get_or backwards (length backwards - 1 - i) PASS) PASS (get_or forwards i PASS) (ends_at i).1

  -- the three loops behind the steps; n is segments.len()
  abbrev pub wired : ℕ → Network → Network
  wired n network =
      let forwards = up_to (n - 1) forward (record { network = network; var = PASS; made = PASS ∷ [] }) in
      let last = get_or segments (n - 1) PASS in
      let backwards = down_from (n - 1) backward (record { network = forwards.network; var = last; made = last ∷ [] }) in
      up_to n (crossed forwards.made backwards.made) backwards.network

-- a stage that is reached
unfoldable pub build_stage : Vir → ℕ → Stage → Network → Network
build_stage v t stage n =
    let walked = each (stepped v) stage.steps (entered t stage stage.declarations n) in
    let done = closed walked.current walked in
    wired done.segments done.transfers (length done.segments) done.network

-- `for stage in self.stages.values()`: those whose interface is come to
unfoldable pub build_from : Vir → List ℕ → ℕ → List Stage → Network → Network
build_from v incoming t [] n = n
build_from v incoming t (stage ∷ stages) n =
    build_from v incoming (suc t) stages
    (elim (eqb (get_or incoming stage.interface 0) 0) [ true ↦ n | false ↦ build_stage v t stage n ])

unfoldable pub build : Vir → List ℕ → Network
build v incoming = build_from v incoming 0 v.stages (begun v)
