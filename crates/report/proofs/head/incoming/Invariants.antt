use lib.ListN.{take}
use Rattle.image.specs.Encode.{u32_bytes}
use Rattle.image.specs.Kind.{concat}
use Rattle.report.specs.Writing.{Laid}
use Rattle.report.proofs.head.incoming.Given as goal

abbrev pub invariant-loop-i : goal.invariant-loop-i
invariant-loop-i l = Laid l.at (concat u32_bytes (take l.i l.counts)) l.initial.out l.out
