use Rattle.wires.proofs.Crossing.{Crossing}
use Rattle.wires.proofs.set_wires.Given as goal

abbrev pub invariant-loop-i : goal.invariant-loop-i
invariant-loop-i l =
    Crossing l.interfaces l.incoming l.inv l.fork l.effects l.initial.wires l.wires l.infinite_loop l.i
