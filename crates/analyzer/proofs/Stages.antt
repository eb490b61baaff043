-- What build adds for one stage: at most 5 variables and 5 relations, and 3 of each for a Transfer.
use mathlib.Core.Path.{◌≡◌, ◌∙◌, refl, ap, subst}
use mathlib.Core.List.{List, [], ◌∷◌}
use Prim.Native.Nat.{ℕ, zero, suc, ◌+◌, ◌-◌, ◌*◌, ◌<◌, ◌≤◌}
use native.Mathlib.Numerals.{add-one}
use native.Mathlib.Omega.{arith}
use lib.ListN.{length, get_or, length-append}
use Rattle.vir.specs.declared.step.Step.{Step}
use Rattle.vir.specs.declared.step.Step.TheVariants.{Invoke, Transfer, Diverge, Link, Call, Const, Composite, Rewrap, Enum, Union, Ref, List as Listing, String, InlineIvy, BoolNot, BoolAnd}
use Rattle.vir.specs.Step.{Invoked, invoke_of}
use Rattle.image.specs.Kind.{concat}
use Rattle.image.specs.LayerRules.{transfer_to}
use Rattle.image.specs.Loops.{each, up_to, down_from}
use Rattle.image.specs.Vir.{Action, Stage, Vir}
use Rattle.analyzer.specs.Build.{Touch, Network, Building, Chain, PASS, new_var, new_relation, entered, closed, transferred, touching, touch_of, stepped, linked, forward, backward, crossed, wired, build_stage}
use Rattle.analyzer.specs.Sweep.{transfers_of}
use Rattle.analyzer.proofs.Each.{Each, each_append, each_weaken, each-get_or, each_left, each_right}
use Rattle.analyzer.proofs.Networks.{Sound, var_sound, relation_sound, segment_sound, disconnect_sound, relations_more}

-- both of two ends are below n
abbrev pub Both : ℕ → ℕ × ℕ → Type 0
Both n p = (p.0 < n) × (p.1 < n)

-- k segments and m transfers into a stage that was begun on n₀
pub record Within (i : ℕ) (n₀ : Network) (b : Building) (k m : ℕ) : Type 0 where
  pub sound : Sound i b.network
  pub segments : Each (λ x. x < b.network.vars) b.segments
  pub transfers : Each (Both b.network.vars) b.transfers
  pub segmented : length b.segments ≡ k
  pub transferring : length b.transfers ≡ m
  pub vars : b.network.vars ≤ n₀.vars + 4 + k
  pub relations : length b.network.relations ≤ length n₀.relations + 4

module _ {i : ℕ} {n : Network} where
  entered-within : (t : ℕ) (stage : Stage) (ls : List ℕ) → stage.interface < i → Sound i n → Within i n (entered t stage ls n) 0 1
  entered-within t stage [] h s =
      record {
        sound = s;
        segments = tt;
        transfers = ((omega (arith, s.room), omega (arith, s.room)), tt);
        segmented = refl;
        transferring = refl;
        vars = omega arith;
        relations = omega arith;
      }
  entered-within t stage (l ∷ ls) h s =
      record {
        sound =
            disconnect_sound n₈
            (relation_sound n₇ (relation_sound n₆ (relation_sound n₅ (relation_sound n₄ four _ _ _ _ (omega (arith, s.room)) (omega arith) (omega arith) (omega arith)) _ _ _ _ (omega arith) (omega arith) (omega arith) (omega (arith, s.room))) _ _ _ _ (omega arith) (omega arith) (omega arith) (omega arith)) _ _ _ _ (omega arith) (omega arith) (omega arith) (omega (arith, s.room)))
            _
            _
            _
            (omega arith)
            (omega arith);
        segments = tt;
        transfers = ((omega arith, omega arith), tt);
        segmented = refl;
        transferring = refl;
        vars = omega arith;
        relations =
            omega (
              arith,
              relations_more (n.vars + 1) PASS PASS (1 + 2 * stage.interface) n₇,
              relations_more (n.vars + 1) PASS PASS (n.vars + 2) n₆,
              relations_more (n.vars + 3) n.vars PASS (1 + 2 * stage.interface) n₅,
              relations_more (2 + 2 * stage.interface) n.vars PASS (n.vars + 2) n₄,
            );
      }
    where
      n₄ : Network
      n₄ = new_var (new_var (new_var (new_var n)))

      four : Sound i n₄
      four = var_sound (new_var (new_var (new_var n))) (var_sound (new_var (new_var n)) (var_sound (new_var n) (var_sound n s)))

      n₅ : Network
      n₅ = new_relation (2 + 2 * stage.interface) n.vars PASS (n.vars + 2) n₄

      n₆ : Network
      n₆ = new_relation (n.vars + 3) n.vars PASS (1 + 2 * stage.interface) n₅

      n₇ : Network
      n₇ = new_relation (n.vars + 1) PASS PASS (n.vars + 2) n₆

      n₈ : Network
      n₈ = new_relation (n.vars + 1) PASS PASS (1 + 2 * stage.interface) n₇

module _ {i : ℕ} {n : Network} where
  -- the current segment ends
  closed-within : (ts : List Touch) (b : Building) {k m : ℕ} → Within i n b k m → Within i n (closed ts b) (k + 1) m
  closed-within [] b w =
      record {
        sound = w.sound;
        segments = each_append (λ x. x < b.network.vars) b.segments PASS w.segments (omega (arith, w.sound.room));
        transfers = w.transfers;
        segmented = length-append b.segments (PASS ∷ []) ∙ ap (λ k. k + 1) w.segmented;
        transferring = w.transferring;
        vars = omega (arith, w.vars);
        relations = w.relations;
      }
  closed-within (t ∷ ts) b w =
      record {
        sound = segment_sound (new_var b.network) (var_sound b.network w.sound) b.network.vars (t ∷ ts) (omega arith);
        segments =
            each_append (λ x. x < b.network.vars + 1) b.segments b.network.vars
            (each_weaken (λ x. x < b.network.vars) (λ x. x < b.network.vars + 1) (λ x h. omega (arith, h)) b.segments w.segments)
            (omega arith);
        transfers =
            each_weaken (Both b.network.vars) (Both (b.network.vars + 1)) (λ p h. (omega (arith, h.0), omega (arith, h.1))) b.transfers
            w.transfers;
        segmented = length-append b.segments (b.network.vars ∷ []) ∙ ap (λ k. k + 1) w.segmented;
        transferring = w.transferring;
        vars = omega (arith, w.vars);
        relations = w.relations;
      }

  transferred-within : (x : ℕ) (b : Building) {k m : ℕ} → x < i → Within i n b k m → Within i n (transferred x b) k (m + 1)
  transferred-within x b h w =
      record {
        sound = w.sound;
        segments = w.segments;
        transfers =
            each_append (Both b.network.vars) b.transfers (1 + 2 * x, 2 + 2 * x) w.transfers
            (omega (arith, h, w.sound.room), omega (arith, h, w.sound.room));
        segmented = w.segmented;
        transferring = length-append b.transfers ((1 + 2 * x, 2 + 2 * x) ∷ []) ∙ ap (λ k. k + 1) w.transferring;
        vars = w.vars;
        relations = w.relations;
      }

  touching-within : (t : Touch) (b : Building) {k m : ℕ} → Within i n b k m → Within i n (touching t b) k m
  touching-within t b w =
      record {
        sound = w.sound;
        segments = w.segments;
        transfers = w.transfers;
        segmented = w.segmented;
        transferring = w.transferring;
        vars = w.vars;
        relations = w.relations;
      }

  touched-within : (v : Vir) (is : List Invoked) (b : Building) {k m : ℕ} → Within i n b k m
      → Within i n (each (λ i b. touching (touch_of v i) b) is b) k m
  unfolding each
  touched-within v [] b w = w
  touched-within v (x ∷ xs) b w = touched-within v xs (touching (touch_of v x) b) (touching-within (touch_of v x) b w)

  moved : {b : Building} {k k' m m' : ℕ} → k ≡ k' → m ≡ m' → Within i n b k m → Within i n b k' m'
  moved p q w =
      record {
        sound = w.sound;
        segments = w.segments;
        transfers = w.transfers;
        segmented = w.segmented ∙ p;
        transferring = w.transferring ∙ q;
        vars = omega (arith, w.vars, p);
        relations = w.relations;
      }

  ended-within : (xs : List ℕ) (b : Building) {k m : ℕ} → Each (λ x. x < i) xs → Within i n b k m
      → Within i n (each (λ i b. transferred i (closed b.current b)) xs b) (k + length xs) (m + length xs)
  unfolding each
  ended-within [] b h w = moved (omega arith) (omega arith) w
  ended-within (x ∷ xs) b h w =
      moved (omega arith) (omega arith)
      (ended-within xs (transferred x (closed b.current b)) h.1
      (transferred-within x (closed b.current b) h.0 (closed-within b.current b w)))

-- ---- the steps

-- a step has at most one Transfer
transfer_one : (a : Action) → length (transfer_to a.step) ≤ 1
transfer_one a = one a.step
  where
    one : (s : Step) → length (transfer_to s) ≤ 1
    one (Invoke span l i) = omega arith
    one (Transfer i) = omega arith
    one (Diverge l o) = omega arith
    one (Link k) = omega arith
    one (Call k) = omega arith
    one (Const k) = omega arith
    one (Composite k) = omega arith
    one (Rewrap k) = omega arith
    one (Enum k) = omega arith
    one (Union k) = omega arith
    one (Ref k) = omega arith
    one (Listing k) = omega arith
    one (String k) = omega arith
    one (InlineIvy k) = omega arith
    one (BoolNot k) = omega arith
    one (BoolAnd k) = omega arith

-- the interfaces that a list of steps names
abbrev pub named_by : List Action → List ℕ
named_by as' = concat (λ a. transfer_to a.step) as'

pub named-few : (as' : List Action) → length (named_by as') ≤ length as'
unfolding concat
named-few [] = omega arith
named-few (a ∷ as') =
    omega (arith, length-append (transfer_to a.step) (named_by as'), transfer_one a, named-few as')

module _ {i : ℕ} {n : Network} (v : Vir) where
  steps-within : (as' : List Action) (b : Building) {k m : ℕ} → Each (λ x. x < i) (named_by as') → Within i n b k m
      → Within i n (each (stepped v) as' b) (k + length (named_by as')) (m + length (named_by as'))
  unfolding each concat
  steps-within [] b h w = moved (omega arith) (omega arith) w
  steps-within (a ∷ as') b {k} {m} h w =
      moved
      (omega (arith, length-append (transfer_to a.step) (named_by as')))
      (omega (arith, length-append (transfer_to a.step) (named_by as')))
      (steps-within as' (stepped v a b) (each_right (λ x. x < i) (transfer_to a.step) (named_by as') h)
      (ended-within (transfer_to a.step) _ (each_left (λ x. x < i) (transfer_to a.step) (named_by as') h)
      (touched-within v (invoke_of a.step) b w)))

-- ---- the chains behind the steps

-- a chain of j variables on n₁
record Linked (i : ℕ) (n₁ : Network) (c : Chain) (j : ℕ) : Type 0 where
  pub sound : Sound i c.network
  pub last : c.var < c.network.vars
  pub made : Each (λ x. x < c.network.vars) c.made
  pub vars : c.network.vars ≡ n₁.vars + j
  pub relations : length c.network.relations ≡ length n₁.relations + j

-- a chain on n₁ grows by a variable and a relation
linked_on : (i : ℕ) (n₁ : Network) (a b d : ℕ → ℕ) (c : Chain) (j : ℕ) → Linked i n₁ c j
    → a c.var < c.network.vars → b c.var < c.network.vars → d c.var < c.network.vars
    → Linked i n₁ (linked a b d c) (j + 1)
linked_on i n₁ a b d c j l p q r =
    record {
      sound =
          relation_sound (new_var c.network) (var_sound c.network l.sound) (a c.var) (b c.var) (d c.var) c.network.vars
          (omega (arith, p))
          (omega (arith, q))
          (omega (arith, r))
          (omega arith);
      last = omega arith;
      made =
          each_append (λ x. x < c.network.vars + 1) c.made c.network.vars
          (each_weaken (λ x. x < c.network.vars) (λ x. x < c.network.vars + 1) (λ x h. omega (arith, h)) c.made l.made)
          (omega arith);
      vars = omega (arith, l.vars);
      relations = relations_more (a c.var) (b c.var) (d c.var) c.network.vars (new_var c.network) ∙ omega (arith, l.relations);
    }

module _ (i : ℕ) (n₁ : Network) (segments : List ℕ) (transfers : List (ℕ × ℕ)) (some : 0 < n₁.vars)
    (s : Each (λ x. x < n₁.vars) segments) (t : Each (Both n₁.vars) transfers) where
  segment_in : (k : ℕ) → get_or segments k PASS < n₁.vars
  segment_in k = each-get_or (λ x. x < n₁.vars) segments k PASS s some

  ends_in : (k : ℕ) → Both n₁.vars (get_or transfers k (PASS, PASS))
  ends_in k = each-get_or (Both n₁.vars) transfers k (PASS, PASS) t (some, some)

  forwards_on : (n₂ : Network) (k : ℕ) (c : Chain) → n₁.vars ≤ n₂.vars → Linked i n₂ c 0
      → Linked i n₂ (up_to k (forward segments transfers) c) k
  unfolding up_to
  forwards_on n₂ zero c h l = l
  forwards_on n₂ (suc k) c h l =
      let l' : Linked i n₂ (up_to k (forward segments transfers) c) k = forwards_on n₂ k c h l in
      subst (Linked i n₂ (forward segments transfers k (up_to k (forward segments transfers) c))) (add-one k)
      (linked_on i n₂ (λ forward. forward) (λ forward. (get_or transfers k (PASS, PASS)).0) (λ forward. get_or segments k PASS)
      (up_to k (forward segments transfers) c)
      k
      l'
      l'.last
      (omega (arith, (ends_in k).0, l'.vars))
      (omega (arith, segment_in k, l'.vars)))

  backwards_on : (n₂ : Network) (k j : ℕ) (c : Chain) → n₁.vars ≤ n₂.vars → Linked i n₂ c j
      → Linked i n₂ (down_from k (backward segments transfers) c) (j + k)
  unfolding down_from
  backwards_on n₂ zero j c h l = subst (Linked i n₂ c) (omega arith) l
  backwards_on n₂ (suc k) j c h l =
      subst (Linked i n₂ (down_from k (backward segments transfers) (backward segments transfers k c))) (omega arith)
      (backwards_on n₂ k (j + 1) (backward segments transfers k c) h
      (linked_on i n₂ (λ backward. get_or segments k PASS) (λ backward. (get_or transfers (k + 1) (PASS, PASS)).0) (λ backward. backward) c j l
      (omega (arith, segment_in k, l.vars))
      (omega (arith, (ends_in (k + 1)).0, l.vars))
      l.last))

  -- the relations that cross the two chains
  crossed-on : (n₂ : Network) (fs bs : List ℕ) (k : ℕ) → n₁.vars ≤ n₂.vars → Sound i n₂
      → Each (λ x. x < n₂.vars) fs → Each (λ x. x < n₂.vars) bs
      → Sound i (up_to k (crossed segments transfers fs bs) n₂)
      × ((up_to k (crossed segments transfers fs bs) n₂).vars ≡ n₂.vars)
      × (length (up_to k (crossed segments transfers fs bs) n₂).relations ≡ length n₂.relations + k)
  unfolding up_to
  crossed-on n₂ fs bs zero h l f b = (l, refl, omega arith)
  crossed-on n₂ fs bs (suc k) h l f b =
      let n₃ : Network = up_to k (crossed segments transfers fs bs) n₂ in
      let r : Sound i n₃ × (n₃.vars ≡ n₂.vars) × (length n₃.relations ≡ length n₂.relations + k) = crossed-on n₂ fs bs k h l f b in
      let back : get_or bs (length bs - 1 - k) PASS < n₂.vars = each-get_or (λ x. x < n₂.vars) bs (length bs - 1 - k) PASS b (omega (arith, h, some)) in
      let fore : get_or fs k PASS < n₂.vars = each-get_or (λ x. x < n₂.vars) fs k PASS f (omega (arith, h, some)) in (
        relation_sound n₃ r.0 (get_or bs (length bs - 1 - k) PASS) PASS (get_or fs k PASS) (get_or transfers k (PASS, PASS)).1
            (omega (arith, back, r.1))
            (omega (arith, some, h, r.1))
            (omega (arith, fore, r.1))
            (omega (arith, (ends_in k).1, h, r.1)),
        r.1,
        relations_more (get_or bs (length bs - 1 - k) PASS) PASS (get_or fs k PASS) (get_or transfers k (PASS, PASS)).1 n₃ ∙ omega (arith, r.2),
      )

  -- the three loops: n - 1 variables forwards, n - 1 backwards, and n relations more than those
  wired-on : (n : ℕ) → Sound i n₁
      → Sound i (wired segments transfers n n₁)
      × ((wired segments transfers n n₁).vars ≡ n₁.vars + 2 * (n - 1))
      × (length (wired segments transfers n n₁).relations ≡ length n₁.relations + (2 * (n - 1) + n))
  wired-on n l =
      let fs : Chain = up_to (n - 1) (forward segments transfers) (record { network = n₁; var = PASS; made = PASS ∷ [] }) in
      let f : Linked i n₁ fs (n - 1) =
      forwards_on n₁ (n - 1) (record { network = n₁; var = PASS; made = PASS ∷ [] }) (omega arith)
      (record { sound = l; last = some; made = (some, tt); vars = omega arith; relations = omega arith })
      in
      let last : ℕ = get_or segments (n - 1) PASS in
      let last-in : last < fs.network.vars = omega (arith, segment_in (n - 1), f.vars) in
      let bs : Chain = down_from (n - 1) (backward segments transfers) (record { network = fs.network; var = last; made = last ∷ [] }) in
      let b : Linked i fs.network bs (0 + (n - 1)) =
      backwards_on fs.network (n - 1) 0 (record { network = fs.network; var = last; made = last ∷ [] }) (omega (arith, f.vars))
      (record { sound = f.sound; last = last-in; made = (last-in, tt); vars = omega arith; relations = omega arith })
      in
      let r : Sound i (up_to n (crossed segments transfers fs.made bs.made) bs.network)
      × ((up_to n (crossed segments transfers fs.made bs.made) bs.network).vars ≡ bs.network.vars)
      × (length (up_to n (crossed segments transfers fs.made bs.made) bs.network).relations ≡ length bs.network.relations + n) =
      crossed-on bs.network fs.made bs.made n (omega (arith, f.vars, b.vars)) b.sound
      (each_weaken (λ x. x < fs.network.vars) (λ x. x < bs.network.vars) (λ x h. omega (arith, h, b.vars)) fs.made f.made)
      b.made
      in
      (r.0, r.1 ∙ omega (arith, f.vars, b.vars), r.2 ∙ omega (arith, f.relations, b.relations))

-- a stage: its index stays in range, and it adds at most 5, and 3 for each Transfer
pub record Added (i : ℕ) (n n' : Network) (more : ℕ) : Type 0 where
  pub sound : Sound i n'
  pub vars : n'.vars ≤ n.vars + more
  pub relations : length n'.relations ≤ length n.relations + more

pub stage_added : {i : ℕ} (n : Network) (v : Vir) (t : ℕ) (stage : Stage) → stage.interface < i → Each (λ x. x < i) (transfers_of stage)
    → Sound i n → Added i n (build_stage v t stage n) (5 + 3 * length (transfers_of stage))
unfolding build_stage
stage_added {i} n v t stage h k s =
    let walked : Building = each (stepped v) stage.steps (entered t stage stage.declarations n) in
    let w : Within i n walked (0 + length (transfers_of stage)) (1 + length (transfers_of stage)) =
    steps-within v stage.steps (entered t stage stage.declarations n) k (entered-within t stage stage.declarations h s)
    in
    let done : Building = closed walked.current walked in
    let d : Within i n done (0 + length (transfers_of stage) + 1) (1 + length (transfers_of stage)) = closed-within walked.current walked w in
    let c : ℕ = length done.segments in
    let r : Sound i (wired done.segments done.transfers c done.network)
    × ((wired done.segments done.transfers c done.network).vars ≡ done.network.vars + 2 * (c - 1))
    × (length (wired done.segments done.transfers c done.network).relations ≡ length done.network.relations + (2 * (c - 1) + c)) =
    wired-on i done.network done.segments done.transfers (omega (arith, d.sound.room)) d.segments d.transfers c d.sound
    in
    record {
      sound = r.0;
      vars = omega (arith, r.1, d.vars, d.segmented);
      relations = omega (arith, r.2, d.relations, d.segmented);
    }
