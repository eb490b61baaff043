-- The memory that a worklist holds, over several steps.
use mathlib.Core.Path.{◌∙◌, refl}
use Rattle.solve.specs.declared.worklist.Worklist.{Worklist}
use Rattle.solve.specs.Tables.{SameMemory}

pub same_memory : (w : Worklist) → SameMemory w w
same_memory w = record { same_reference = refl; sized = refl; room = refl }

pub memory_on : {w w' w'' : Worklist} → SameMemory w w' → SameMemory w' w'' → SameMemory w w''
memory_on m p = record { same_reference = p.same_reference ∙ m.same_reference; sized = p.sized ∙ m.sized; room = p.room ∙ m.room }
