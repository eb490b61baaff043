-- An accepted image's facts have one proof at most.
use Rattle.std.specs.Prelude.{List, ℕ}
use Rattle.std.specs.Coded.{le_prop}
use Rattle.records.specs.declared.layout.Counts.{Counts}
use Rattle.records.specs.declared.record.LayerRecord.{LayerRecord}
use Rattle.records.specs.declared.record.InterfaceRecord.{InterfaceRecord}
use Rattle.records.specs.declared.record.StageRecord.{StageRecord}
use Rattle.records.specs.declared.record.LocalRecord.{LocalRecord}
use Rattle.records.specs.declared.record.TypeRecord.{TypeRecord}
use Rattle.records.specs.declared.record.StepRecord.{StepRecord}
use Rattle.records.specs.declared.record.PortRecord.{PortRecord}
use Rattle.records.specs.Props.{Sized-prop}
use Rattle.image.specs.Accepted.{NamedOrNone, LayerFacts, InterfaceFacts, StageFacts, LocalFacts, TypeFacts, StepFacts, PortFacts, Accepted}

NamedOrNone-prop : {i n : ℕ} → IsProp (NamedOrNone i n)
NamedOrNone-prop x y i h = le_prop (x h) (y h) i

TypeFacts-prop : {t : TypeRecord} → IsProp (TypeFacts t)
TypeFacts-prop x y i = record { upright = le_prop x.upright y.upright i; inverted = le_prop x.inverted y.inverted i }

module _ {s : List ℕ} {c : Counts} where
  LayerFacts-prop : {l : LayerRecord} → IsProp (LayerFacts s c l)
  LayerFacts-prop x y i = record {
    parent = NamedOrNone-prop x.parent y.parent i;
    fits = le_prop x.fits y.fits i;
    named = λ k h. le_prop (x.named k h) (y.named k h) i;
  }

  InterfaceFacts-prop : {f : InterfaceRecord} → IsProp (InterfaceFacts s c f)
  InterfaceFacts-prop x y i = record {
    kind = le_prop x.kind y.kind i;
    fits = le_prop x.fits y.fits i;
    stages = λ o k h. NamedOrNone-prop (x.stages o k h) (y.stages o k h) i;
    locals = λ e k h. le_prop (x.locals e k h) (y.locals e k h) i;
  }

  StageFacts-prop : {t : StageRecord} → IsProp (StageFacts s c t)
  StageFacts-prop x y i = record {
    interface = le_prop x.interface y.interface i;
    layer = NamedOrNone-prop x.layer y.layer i;
    header = le_prop x.header y.header i;
    declarations_fit = le_prop x.declarations_fit y.declarations_fit i;
    declared = λ k h. le_prop (x.declared k h) (y.declared k h) i;
    steps_fit = le_prop x.steps_fit y.steps_fit i;
    ports_fit = le_prop x.ports_fit y.ports_fit i;
    transfer = NamedOrNone-prop x.transfer y.transfer i;
    payload = le_prop x.payload y.payload i;
  }

module _ {c : Counts} where
  LocalFacts-prop : {l : LocalRecord} → IsProp (LocalFacts c l)
  LocalFacts-prop x y i = record { type = le_prop x.type y.type i; flags = le_prop x.flags y.flags i }

  StepFacts-prop : {t : StepRecord} → IsProp (StepFacts c t)
  StepFacts-prop x y i = record {
    tag = le_prop x.tag y.tag i;
    local = λ h. le_prop (x.local h) (y.local h) i;
    interface = λ h. le_prop (x.interface h) (y.interface h) i;
    layer = λ h. le_prop (x.layer h) (y.layer h) i;
    onward = λ h. NamedOrNone-prop (x.onward h) (y.onward h) i;
    ports_fit = le_prop x.ports_fit y.ports_fit i;
  }

  PortFacts-prop : {p : PortRecord} → IsProp (PortFacts c p)
  PortFacts-prop x y i = record { type = le_prop x.type y.type i; kind = le_prop x.kind y.kind i }

pub Accepted-prop : (s : List ℕ) (c : Counts) → IsProp (Accepted s c)
Accepted-prop s c x y i = record {
  sized = Sized-prop s c x.sized y.sized i;
  layers = λ k h. LayerFacts-prop (x.layers k h) (y.layers k h) i;
  interfaces = λ k h. InterfaceFacts-prop (x.interfaces k h) (y.interfaces k h) i;
  stages = λ k h. StageFacts-prop (x.stages k h) (y.stages k h) i;
  locals = λ k h. LocalFacts-prop (x.locals k h) (y.locals k h) i;
  types = λ k h. TypeFacts-prop (x.types k h) (y.types k h) i;
  steps = λ k h. StepFacts-prop (x.steps k h) (y.steps k h) i;
  ports = λ k h. PortFacts-prop (x.ports k h) (y.ports k h) i;
}
