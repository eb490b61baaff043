-- What holds of the normalizer's state all along: every record fits the counts c of the result, and a new stage has its own interface.
use mathlib.Core.Path.{◌≡◌, ◌∙◌, refl, sym, ap, subst}
use mathlib.Core.Bool.{Bool, true, not, ◌&&◌, ◌||◌, and-true}
use mathlib.Core.List.{List, [], ◌∷◌, ◌++◌, append_assoc}
use Prim.Native.Nat.{ℕ, ◌+◌, ◌≤◌, ◌<◌}
use native.Mathlib.Omega.{arith}
use lib.Dec.{eqb, ltb, leb}
use lib.ListN.{length, get_or, length-append, length-set}
use Rattle.vir.specs.declared.interface.InterfaceKind.TheVariants.{Unconditional}
use Rattle.vir.specs.Arity.{allows}
use Rattle.vir.specs.Header.{header_ports}
use Rattle.vir.specs.Ids.{none}
use Rattle.records.specs.declared.layout.Counts.{Counts}
use Rattle.rules.specs.Faults.{or_none}
use Rattle.image.specs.Encode.{counts_of_vir}
use Rattle.image.specs.Kind.{all}
use Rattle.image.specs.Vir.{Action, Interface, Local, Stage, Vir, stage_of}
use Rattle.image.proofs.Lists.{Lists, lists_move, lists_one, lists_length, ◌then◌}
use Rattle.wellformed.specs.WellFormed.{u16_fits, u32_fits, stage_fits, local_fits, port_fits}
use Rattle.normalizer.specs.Normalize.{Normalizer, put_stage, set_final, final_of, push_step, push_steps, declare, push_piece, push_local}
use Rattle.normalizer.proofs.Fitting.{named}
use Rattle.normalizer.proofs.Members.{all_append, all_one, all_join, each_keeps, Holds, holds_push, set_holds, get_or_push}
use Rattle.normalizer.proofs.Whole.{whole, Larger}

-- the interface of a new stage
abbrev pub single : ℕ → Interface
single t = record { layer = none; kind = Unconditional; key = 0; list = t ∷ [] }

-- the source's interfaces, then one for each new stage
pub record Shape (v : Vir) (n : Normalizer) : Type 0 where
  pub new : List Interface
  pub interfaces : n.interfaces ≡ v.interfaces ++ new
  pub single : Lists single (length v.stages) (length n.stages) new

-- i is the interface that stage t has in its own field: the source's, or a new one, counted as the new stages are
pub record Home (v : Vir) (t i : ℕ) : Type 0 where
  pub own : t < length v.stages → i ≡ (stage_of v t).interface
  pub new : length v.stages ≤ t → i + length v.stages ≡ length v.interfaces + t

-- what may be put as stage t
pub record Good (v : Vir) (c : Counts) (t : ℕ) (s : Stage) : Type 0 where
  pub fits : stage_fits c s ≡ true
  pub ports : all (port_fits c) s.ports ≡ true
  pub steps : all (whole c) s.steps ≡ true
  pub transfer : s.transfer ≡ none
  pub payload : s.payload ≡ []
  pub home : Home v t s.interface

-- what holds of the state
pub record Facts (v : Vir) (c : Counts) (n : Normalizer) : Type 0 where
  pub shape : Shape v n
  pub longer : length v.locals ≤ length n.locals
  pub locals : all (local_fits c) n.locals ≡ true
  pub stages : (t : ℕ) → Holds (Good v c t) (get_or n.stages t [])
  pub finals : (l : ℕ) → or_none c.interfaces (final_of l n) ≡ true

-- interfaces and locals are as many as in the result, or fewer
abbrev pub Bounded : Counts → Normalizer → Type 0
Bounded c n = (length n.interfaces ≤ c.interfaces) × (length n.locals ≤ c.locals)

module _ {v : Vir} {n : Normalizer} (s : Shape v n) where
  -- as many interfaces are new as stages
  pub as_many : length n.interfaces + length v.stages ≡ length v.interfaces + length n.stages
  as_many = omega (arith, ap length s.interfaces, length-append v.interfaces s.new, lists_length s.single)

  interfaces_grow : length v.interfaces ≤ length n.interfaces
  interfaces_grow = omega (arith, ap length s.interfaces, length-append v.interfaces s.new)

  pub stages_grow : length v.stages ≤ length n.stages
  stages_grow = omega (arith, lists_length s.single)

module _ {v : Vir} {c : Counts} {n : Normalizer} (f : Facts v c n) where
  pub larger : length v.types ≤ c.types → Bounded c n → Larger (counts_of_vir v) c
  larger types b =
      record {
        types = types;
        interfaces = omega (arith, b.0, interfaces_grow f.shape);
        locals = omega (arith, b.1, f.longer);
      }

  pub facts_put : (t : ℕ) (s : Stage) → Good v c t s → Facts v c (put_stage t s n)
  facts_put t s g =
      record {
        shape =
            record {
              new = f.shape.new;
              interfaces = f.shape.interfaces;
              single = lists_move refl (sym (length-set n.stages t (get_or n.stages t [] ++ (s ∷ [])))) f.shape.single;
            };
        longer = f.longer;
        locals = f.locals;
        stages =
            set_holds (λ t ss. Holds (Good v c t) ss) [] n.stages t (get_or n.stages t [] ++ (s ∷ [])) f.stages
            (holds_push (Good v c t) (get_or n.stages t []) s (f.stages t) g);
        finals = f.finals;
      }

  pub facts_final : (l i : ℕ) → ltb i c.interfaces ≡ true → Facts v c (set_final l i n)
  facts_final l i h =
      record {
        shape = record { new = f.shape.new; interfaces = f.shape.interfaces; single = f.shape.single };
        longer = f.longer;
        locals = f.locals;
        stages = f.stages;
        finals = set_holds (λ l i. or_none c.interfaces i ≡ true) none n.final_transfers l i f.finals (named c.interfaces i h);
      }

  pub facts_piece : Facts v c (push_piece n)
  facts_piece =
      let one : List Interface = single (length n.stages) ∷ [] in
      record {
        shape =
            record {
              new = f.shape.new ++ one;
              interfaces = ap (λ (l : List Interface). l ++ one) f.shape.interfaces ∙ append_assoc v.interfaces f.shape.new one;
              single = f.shape.single then lists_one refl (length-append n.stages ([] ∷ []));
            };
        longer = f.longer;
        locals = f.locals;
        stages = λ t. subst (Holds (Good v c t)) (sym (get_or_push [] n.stages t)) (f.stages t);
        finals = f.finals;
      }

  pub facts-local : (l : Local) → local_fits c l ≡ true → Facts v c (push_local l n)
  facts-local l h =
      record {
        shape = record { new = f.shape.new; interfaces = f.shape.interfaces; single = f.shape.single };
        longer = omega (arith, f.longer, length-append n.locals (l ∷ []));
        locals = all_join (local_fits c) n.locals (l ∷ []) f.locals (all_one (local_fits c) l h);
        stages = f.stages;
        finals = f.finals;
      }

-- a stage's test, by what it says of the declarations
abbrev declaring : Counts → Stage → Bool → Bool
declaring c s b =
    u32_fits s.span
    && ltb s.interface c.interfaces
    && or_none c.layers s.layer
    && allows (header_ports s.header) (length s.ports)
    && u32_fits s.key
    && b
    && u16_fits s.wires
    && or_none c.interfaces s.transfer
    && leb (length s.payload) 1
    && (eqb (length s.payload) 0 || not (eqb s.transfer none))

module _ {v : Vir} {c : Counts} {t : ℕ} where
  pub good_push : (a : Action) (s : Stage) → whole c a ≡ true → Good v c t s → Good v c t (push_step a s)
  good_push a s h g =
      record {
        fits = g.fits;
        ports = g.ports;
        steps = all_join (whole c) s.steps (a ∷ []) g.steps (all_one (whole c) a h);
        transfer = g.transfer;
        payload = g.payload;
        home = g.home;
      }

  pub good_pushes : (as' : List Action) (s : Stage) → all (whole c) as' ≡ true → Good v c t s → Good v c t (push_steps as' s)
  good_pushes as' s h g = each_keeps (Good v c t) (whole c) push_step good_push as' h s g

  pub good_declare : (l : ℕ) (s : Stage) → ltb l c.locals ≡ true → Good v c t s → Good v c t (declare l s)
  good_declare l s h g =
      let more : all below (s.declarations ++ (l ∷ [])) ≡ all below s.declarations =
      all_append below s.declarations (l ∷ [])
      ∙ ap (λ (b : Bool). all below s.declarations && b) (all_one below l h)
      ∙ and-true (all below s.declarations) in
      record {
        fits = ap (declaring c s) more ∙ g.fits;
        ports = g.ports;
        steps = g.steps;
        transfer = g.transfer;
        payload = g.payload;
        home = g.home;
      }
    where
      below : ℕ → Bool
      below x = ltb x c.locals
