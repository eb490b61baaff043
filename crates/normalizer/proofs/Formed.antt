-- What normalising gives is well formed.
use mathlib.Core.Path.{◌≡◌, ◌∙◌, refl, sym, ap, subst}
use mathlib.Core.Bool.{Bool, true}
use mathlib.Core.List.{[], ◌++◌, map, append-nil}
use Prim.Native.Nat.{ℕ, zero, suc, ◌+◌, ◌<◌}
use native.Mathlib.Omega.{arith}
use lib.Dec.{eqb, ltb}
use lib.ListN.{length, get_or, replicate, length-replicate, length-map, get_or-map}
use borrow.Author.Tests.{eqb-true, lt-ltb}
use Rattle.vir.specs.Ids.{none}
use Rattle.records.specs.declared.layout.Counts.{Counts}
use Rattle.rules.specs.Faults.{or_none}
use Rattle.records.specs.Layout.{within}
use Rattle.records.proofs.Guards.{left_true, right_true}
use Rattle.image.specs.Encode.{all_actions, all_ports, stage_ports, counts_of_vir}
use Rattle.image.specs.Kind.{all, concat}
use Rattle.image.specs.View.{collect}
use Rattle.image.specs.Vir.{Stage, Vir}
use Rattle.image.proofs.Lists.{lists_none}
use Rattle.wellformed.specs.WellFormed.{WellFormed, layer_fits, interface_fits, stage_fits, action_fits, port_fits}
use Rattle.normalizer.specs.Layered.{Layered}
use Rattle.normalizer.specs.Once.{SetOnce}
use Rattle.normalizer.specs.Normalize.{begun, normalizer_of, unwrap, normalize}
use Rattle.normalizer.proofs.Fitting.{interface_fits_on}
use Rattle.normalizer.proofs.FactsKept.{roots_keep}
use Rattle.normalizer.proofs.Members.{both_true, all_none, all_one, all_join, all-at, all_from, all_imp, all-concat, Holds, holds_first}
use Rattle.normalizer.proofs.Sound.{single, Good, Facts, stages_grow}
use Rattle.normalizer.proofs.Whole.{whole}

get_or_replicated : {A : Type 0} (n t : ℕ) (d : A) → get_or (replicate n d) t d ≡ d
get_or_replicated zero t d = refl
get_or_replicated (suc n) zero d = refl
get_or_replicated (suc n) (suc t) d = get_or_replicated n t d

all-collect : {A : Type 0} (f : A → Bool) (h : ℕ → A) (a n : ℕ) → ((k : ℕ) → k < a + n → f (h k) ≡ true) → all f (collect h a n) ≡ true
unfolding all collect
all-collect f h a zero p = refl
all-collect f h a (suc n) p = both_true (p a (omega arith)) (all-collect f h (suc a) n (λ k l. p k (omega (arith, l))))

pub stages-length : (v : Vir) → length (normalize v).stages ≡ length (normalizer_of v).stages
unfolding normalize
stages-length v = length-map (normalizer_of v).stages unwrap

module _ (v : Vir) (y : Layered v) where
  abbrev c : Counts
  c = counts_of_vir (normalize v)

  facts-begun : Facts v c (begun v)
  unfolding normalize
  facts-begun =
      record {
        shape =
            record {
              new = [];
              interfaces = sym (append-nil v.interfaces);
              single = lists_none (sym (length-replicate (length v.stages) []));
            };
        longer = omega arith;
        locals = y.formed.locals;
        stages = λ t. subst (Holds (Good v c t)) (sym (get_or_replicated (length v.stages) t [])) tt;
        finals = λ l. ap (or_none c.interfaces) (get_or_replicated (length v.layers) l none);
      }

  pub facts : Facts v c (normalizer_of v)
  unfolding normalize normalizer_of
  facts = (roots_keep v y c (omega arith) 0 v.layers (begun v) (λ b. facts-begun) (omega arith, omega arith)).1

  module _ (once : SetOnce v) where
    pub good_at : (t : ℕ) → t < length (normalizer_of v).stages → Good v c t (unwrap (get_or (normalizer_of v).stages t []))
    good_at t h =
        let one = eqb-true (length (get_or (normalizer_of v).stages t [])) 1 (all-at (λ ts. eqb (length ts) 1) [] (normalizer_of v).stages once t h) in
        holds_first (Good v c t) _ (get_or (normalizer_of v).stages t []) (omega (arith, one)) (facts.stages t)

    all-stages : (f : Stage → Bool) → ((t : ℕ) (s : Stage) → Good v c t s → f s ≡ true) → all f (normalize v).stages ≡ true
    unfolding normalize
    all-stages f p =
        all_from f (unwrap []) (map unwrap (normalizer_of v).stages)
        (λ t h. ap f (get_or-map unwrap (normalizer_of v).stages t []) ∙ p t _ (good_at t (omega (arith, h, stages-length v))))

    all-interfaces : all (interface_fits c) (normalize v).interfaces ≡ true
    unfolding normalize
    all-interfaces =
        ap (all (interface_fits c)) facts.shape.interfaces
        ∙ all_join (interface_fits c) v.interfaces facts.shape.new
        (all_imp (interface_fits (counts_of_vir v)) (interface_fits c)
        (interface_fits_on (counts_of_vir v) c facts.longer (omega (arith, stages_grow facts.shape, stages-length v)))
        v.interfaces y.formed.interfaces)
        (ap (all (interface_fits c)) facts.shape.single.same
        ∙ all-collect (interface_fits c) single (length v.stages) facts.shape.single.count
        (λ k l.
        all_one (λ t. ltb t c.stages) k
        (lt-ltb k c.stages (omega (arith, l, facts.shape.single.ends, stages-length v)))))

    steps_whole : all (whole c) (all_actions (normalize v)) ≡ true
    steps_whole = all-concat (whole c) (λ t. t.steps) (normalize v).stages ∙ all-stages (λ t. all (whole c) t.steps) (λ t s g. g.steps)

    all-ports : all (port_fits c) (all_ports (normalize v)) ≡ true
    all-ports =
        all_join (port_fits c) (stage_ports (normalize v)) (concat (λ a. a.ports) (all_actions (normalize v)))
        (all-concat (port_fits c) (λ t. t.ports ++ t.payload) (normalize v).stages
        ∙ all-stages (λ t. all (port_fits c) (t.ports ++ t.payload))
        (λ t s g. all_join (port_fits c) s.ports s.payload g.ports (ap (all (port_fits c)) g.payload ∙ all_none (port_fits c))))
        (all-concat (port_fits c) (λ a. a.ports) (all_actions (normalize v))
        ∙ all_imp (whole c) (λ a. all (port_fits c) a.ports) (λ a h. right_true (action_fits c a) (all (port_fits c) a.ports) h)
        (all_actions (normalize v)) steps_whole)

    pub normal_formed : within c ≡ true → WellFormed (normalize v)
    unfolding normalize
    normal_formed counted =
        record {
          counted = counted;
          layers = all_none (layer_fits c);
          interfaces = all-interfaces;
          stages = all-stages (stage_fits c) (λ t s g. g.fits);
          locals = facts.locals;
          types = y.formed.types;
          actions =
              all_imp (whole c) (action_fits c) (λ a h. left_true (action_fits c a) (all (port_fits c) a.ports) h) (all_actions (normalize v)) steps_whole;
          ports = all-ports;
        }
