-- A type's own fact has one proof at most.
use Rattle.std.specs.Prelude.{◌≡◌, List, ℕ}
use mathlib.Core.Path.{ap}
use Rattle.std.specs.Coded.{le_prop}
use Rattle.std.proofs.Props.{props}
use Rattle.records.specs.declared.layout.Counts.{Counts}
use Rattle.records.specs.Layout.{Sized}

nat_prop : {m n : ℕ} → IsProp (m ≡ n)
nat_prop {m} {n} = Prim.hlevel props

pub Sized-prop : (s : List ℕ) (c : Counts) → IsProp (Sized s c)
Sized-prop s c x y i = record {
  long = nat_prop x.long y.long i;
  layers = le_prop x.layers y.layers i;
  interfaces = le_prop x.interfaces y.interfaces i;
  stages = le_prop x.stages y.stages i;
  locals = le_prop x.locals y.locals i;
  types = le_prop x.types y.types i;
  steps = le_prop x.steps y.steps i;
  ports = le_prop x.ports y.ports i;
  refs = le_prop x.refs y.refs i;
}

pub Counts-prop : (c d : Counts) → IsProp (c ≡ d)
Counts-prop c d p q i j = record {
  layers = nat_prop (ap (λ (x : Counts). x.layers) p) (ap (λ (x : Counts). x.layers) q) i j;
  interfaces = nat_prop (ap (λ (x : Counts). x.interfaces) p) (ap (λ (x : Counts). x.interfaces) q) i j;
  stages = nat_prop (ap (λ (x : Counts). x.stages) p) (ap (λ (x : Counts). x.stages) q) i j;
  locals = nat_prop (ap (λ (x : Counts). x.locals) p) (ap (λ (x : Counts). x.locals) q) i j;
  types = nat_prop (ap (λ (x : Counts). x.types) p) (ap (λ (x : Counts). x.types) q) i j;
  steps = nat_prop (ap (λ (x : Counts). x.steps) p) (ap (λ (x : Counts). x.steps) q) i j;
  ports = nat_prop (ap (λ (x : Counts). x.ports) p) (ap (λ (x : Counts). x.ports) q) i j;
  refs = nat_prop (ap (λ (x : Counts). x.refs) p) (ap (λ (x : Counts). x.refs) q) i j;
}
