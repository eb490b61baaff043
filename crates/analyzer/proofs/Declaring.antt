-- In the network that build makes, each disconnect names a stage that there is.
use mathlib.Core.Path.{sym, subst}
use mathlib.Core.List.{List}
use Prim.Native.Nat.{ℕ, ◌<◌}
use native.Mathlib.Omega.{arith}
use lib.ListN.{length, get_or}
use Rattle.image.specs.Vir.{Vir}
use Rattle.analyzer.specs.Build.{Disconnect, Network, build}
use Rattle.analyzer.proofs.Each.{Each, each_append, each_at}
use Rattle.analyzer.proofs.Inspected.{inspects_are}
use Rattle.analyzer.proofs.Kept.{Kept, build_keeps}

abbrev Staged : ℕ → Network → Type 0
Staged m n = Each (λ (d : Disconnect). d.stage < m) n.disconnects

staged_kept : (m : ℕ) → Kept m (Staged m)
staged_kept m =
    record {
      var = λ n h. h;
      relation = λ a b c o n h. h;
      segment = λ ts n h. h;
      disconnect = λ t k n h. each_append (λ (d : Disconnect). d.stage < m) n.disconnects _ h k;
    }

pub build_staged : (v : Vir) (incoming : List ℕ) (k : ℕ) (d : Disconnect) → k < length (build v incoming).disconnects
    → (get_or (build v incoming).disconnects k d).stage < length v.stages
build_staged v incoming k d =
    each_at (λ (d : Disconnect). d.stage < length v.stages) (build v incoming).disconnects k d
    (build_keeps (Staged (length v.stages)) (staged_kept (length v.stages)) v incoming (omega arith)
    (subst (Staged (length v.stages)) (sym (inspects_are 0 v.interfaces _)) tt))
