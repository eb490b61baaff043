-- The records that list stages, interfaces and layers: what each lists, and where a stage has the number of the one that is to list it.
use Rattle.std.specs.Prelude.{Bool, cond, List, ℕ, eqb, Option, Some, None}
use Rattle.records.specs.declared.layout.Section.{Section}
use Rattle.records.specs.declared.layout.Section.TheVariants.{Layers, Interfaces}
use Rattle.records.specs.declared.record.InterfaceRecord.{InterfaceRecord}
use Rattle.records.specs.declared.record.Run.{Run}
use Rattle.records.specs.Records.{layer_at, interface_at}
use Rattle.image.specs.declared.tally.Owner.{Owner}
use Rattle.image.specs.declared.tally.Owner.TheVariants.{Interface as OwnInterface, Layer as OwnLayer}
use Rattle.image.specs.Kind.{concat, stages_of, listed_by_own}
use Rattle.image.specs.LayerRules.{listed_by_own_layer}
use Rattle.image.specs.Vir.{Stage, Vir, layer_of, interface_of}

pub data Lister : Type 0 where
  ByInterface : Lister
  ByLayer : Lister

abbrev pub section_of : Lister → Section
section_of ByInterface = Interfaces
section_of ByLayer = Layers

-- the record of a number, as an owner
abbrev pub owner_of : Lister → ℕ → Owner
owner_of ByInterface i = OwnInterface (record { 0 = i })
owner_of ByLayer l = OwnLayer (record { 0 = l })

-- the refs of stages, in a record; an Inspect has none
abbrev pub stages_listed : InterfaceRecord → Option Run
stages_listed i = cond (eqb i.kind 4) None (Some i.list)

abbrev pub list_at : Lister → List ℕ → ℕ → Option Run
list_at ByInterface s p = stages_listed (interface_at s p)
list_at ByLayer s p = Some (layer_at s p).stages

-- the stages of one record, and of all
abbrev pub listed_by : Lister → Vir → ℕ → List ℕ
listed_by ByInterface v i = stages_of (interface_of v i)
listed_by ByLayer v l = (layer_of v l).stages

abbrev pub all_listed : Lister → Vir → List ℕ
all_listed ByInterface v = concat stages_of v.interfaces
all_listed ByLayer v = concat (λ l. l.stages) v.layers

-- the number in a stage, and whether each that is listed has it
abbrev pub number_in : Lister → Stage → ℕ
number_in ByInterface t = t.interface
number_in ByLayer t = t.layer

abbrev pub all_own : Lister → Vir → Bool
all_own ByInterface v = listed_by_own v
all_own ByLayer v = listed_by_own_layer v
