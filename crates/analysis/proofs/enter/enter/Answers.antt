use mathlib.Core.Path.{◌≡◌}
use Prim.Native.Nat.{◌+◌, ◌-◌}
use native.Mathlib.Omega.{arith}
use lib.ListN.{length, take, drop, length-take}
use Rattle.solve.proofs.Reading.{entered_in, entered_more}
use Rattle.solve.proofs.Rows.{relations_taken}
use Rattle.analysis.proofs.enter.enter.Goals as goal

pub dependents-requires-clause-all_inside : goal.dependents-requires-clause-all_inside
dependents-requires-clause-all_inside c =
    let many : length (take (c.args.z.vars + 1) c.args.starts.now) - 1 ≡ c.args.z.vars =
    omega (arith, length-take (c.args.z.vars + 1) c.args.starts.now, c.requires.relations_in_bounds) in
    rw many (rw (relations_taken c.args.relations.now c.args.z.relations c.requires.relations_in_bounds.0) at c.requires.all_inside)

pub returns : goal.returns
returns c =
    let m = c.args.z.vars + 1 in
    let many : length (take m c.args.starts.now) - 1 ≡ c.args.z.vars = omega (arith, length-take m c.args.starts.now, c.requires.relations_in_bounds) in
    rw (relations_taken c.args.relations.now c.args.z.relations c.requires.relations_in_bounds.0)
    (rw many at (entered_more (drop m c.args.starts.now) (entered_in c.args.z.relations c.args.relations.now c.dependents.ensures)))
