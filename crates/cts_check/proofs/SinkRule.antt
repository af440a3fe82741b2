-- The rule on sinks: what the marks tell of the leaves that were passed.
use Rattle.std.proofs.Common.{◌≡◌, ℕ, zero, suc, ◌+◌, ◌<◌, ◌≤◌, ◌==◌, Bool, true, false, inl, inr, ◌⊎◌, List, [], ◌∷◌, ◌++◌, map, length, take, get_or, slice_get, replicate, append-nil, Option, Some, None, MatchOption, option_map, IsTrue, refl, sym, ap, ap₂, subst, ◌∙◌, arith}
use Rattle.std.specs.Prelude.{◌||◌}
use Rattle.std.specs.List.{All, Contains, list_any, slice_set, cons_option}
use Rattle.std.proofs.lemmas.Bool.Decides.{nat_tests}
use Rattle.std.proofs.lemmas.List.{length-map, get_or-map, take_more, take_all}
use Rattle.std.proofs.lemmas.Bool.{cases_lt}
use Rattle.std.proofs.lemmas.List.Elements.{filter_map-append, All-cons, All-nil, All-head, All-tail}
use Rattle.std.proofs.lemmas.Option.{slice_get_within, get_or_from_slice_get, slice_get-get_or, slice_get-map, slice_get_past}
use Rattle.cts_units.specs.declared.params.Sink.{Sink}
use Rattle.cts_units.specs.Ids.{HasDistinctIds}
use Rattle.cts_tree.specs.declared.nodes.NodeKind.TheVariants.{Leaf, Pair}
use Rattle.cts_tree.specs.declared.nodes.TreeNode.{TreeNode}
use Rattle.cts_tree.specs.Nodes.{leaf_id}
use Rattle.cts_elmore.specs.Sound.{IsSinkAt, leaf_ids}
use Rattle.cts_check.specs.Told.{place_of_id}
use Rattle.cts_check.specs.Marks.{NamesById, StandsAt, marks_of}
use Rattle.cts_instance.specs.declared.parts.Parts.{Parts}
use Rattle.cts_check.specs.Rules.{IsNewSink, MeetsSink, MeetsSinks, HasEachSink}
use Rattle.cts_check.proofs.Ids.{place_found, place_found_of}

-- whether an id is among others
pub is_among : (ids : List ℕ) (id : ℕ) → Contains ids id → list_any (λ x. x == id) ids ≡ true
is_among ids id (k, within, at) = by ids k within at
  where
    or_true : (b : Bool) → (b || true) ≡ true
    or_true true = refl
    or_true false = refl

    by : (xs : List ℕ) (k : ℕ) → k < length xs → get_or xs k id ≡ id → list_any (λ x. x == id) xs ≡ true
    by [] k h e = absurd (omega (arith, h))
    by (x ∷ xs) zero h e =
        let same : (x == id) ≡ true = grind (arith, nat_tests, e) in ap (λ b. b || list_any (λ y. y == id) xs) same
    by (x ∷ xs) (suc k) h e = ap (λ b. (x == id) || b) (by xs k (omega (arith, h)) e) ∙ or_true (x == id)

pub among_is : (ids : List ℕ) (id : ℕ) → list_any (λ x. x == id) ids ≡ true → Contains ids id
among_is [] id e = absurd cc
among_is (x ∷ xs) id e = by (x == id) refl e (λ h. among_is xs id h)
  where
    later : Contains xs id → Contains (x ∷ xs) id
    later (k, within, at) = (suc k, omega (arith, within), at)

    by : (b : Bool) → (x == id) ≡ b → (b || list_any (λ y. y == id) xs) ≡ true
        → (list_any (λ y. y == id) xs ≡ true → Contains xs id) → Contains (x ∷ xs) id
    by true same h more = (0, omega arith, grind (arith, nat_tests, same))
    by false same h more = later (more h)

any_push : (ids : List ℕ) (id x : ℕ) → list_any (λ y. y == x) (ids ++ id ∷ []) ≡ (list_any (λ y. y == x) ids || (id == x))
any_push [] id x = or_false (id == x)
  where
    or_false : (b : Bool) → (b || false) ≡ b
    or_false true = refl
    or_false false = refl
any_push (y ∷ ids) id x = ap (λ b. (y == x) || b) (any_push ids id x) ∙ regroup (y == x) (list_any (λ z. z == x) ids) (id == x)
  where
    regroup : (a b c : Bool) → (a || (b || c)) ≡ ((a || b) || c)
    regroup true b c = refl
    regroup false b c = refl

-- the ids after one more node
pub ids_after_pair : (before : List TreeNode) (node : TreeNode) → leaf_id node.kind ≡ None
    → leaf_ids (before ++ node ∷ []) ≡ leaf_ids before
ids_after_pair before node e =
    filter_map-append (λ (n : TreeNode). leaf_id n.kind) before (node ∷ [])
    ∙ ap (λ o. leaf_ids before ++ cons_option o []) e ∙ append-nil (leaf_ids before)

pub ids_after_leaf : (before : List TreeNode) (node : TreeNode) (id : ℕ) → leaf_id node.kind ≡ Some id
    → leaf_ids (before ++ node ∷ []) ≡ leaf_ids before ++ id ∷ []
ids_after_leaf before node id e =
    filter_map-append (λ (n : TreeNode). leaf_id n.kind) before (node ∷ [])
    ∙ ap (λ o. leaf_ids before ++ cons_option o []) e

-- writing one value of those that a function gives
module _ {A B : Type 0} (f g : A → B) (v : B) where
  record IsWritten (xs : List A) (s k : ℕ) (d : A) : Type 0 where
    here : k ≡ s → g (get_or xs k d) ≡ v
    there : (k ≡ s → ⊥) → g (get_or xs k d) ≡ f (get_or xs k d)

  same_map : (xs : List A) → ((k : ℕ) (d : A) → k < length xs → g (get_or xs k d) ≡ f (get_or xs k d)) → map f xs ≡ map g xs
  same_map [] h = refl
  same_map (x ∷ xs) h =
      ap₂ (λ y ys. y ∷ ys) (sym (h 0 x (omega arith))) (same_map xs (λ k d less. h (suc k) d (omega (arith, less))))

  set_map : (xs : List A) (s : ℕ) → s < length xs → ((k : ℕ) (d : A) → k < length xs → IsWritten xs s k d)
      → slice_set (map f xs) s v ≡ map g xs
  set_map [] s within h = absurd (omega (arith, within))
  set_map (x ∷ xs) zero within h =
      ap₂ (λ y ys. y ∷ ys) (sym ((h 0 x (omega arith)).here refl))
      (same_map xs (λ k d less. (h (suc k) d (omega (arith, less))).there (λ e. absurd (omega (arith, e)))))
  set_map (x ∷ xs) (suc s) within h =
      ap₂ (λ y ys. y ∷ ys) (sym ((h 0 x (omega arith)).there (λ e. absurd (omega (arith, e)))))
      (set_map xs s (omega (arith, within))
      (λ k d less. let w = h (suc k) d (omega (arith, less)) in record {
        here = λ e. w.here (ap suc e);
        there = λ n. w.there (λ e. n (omega (arith, e)));
      }))

-- the marks after a leaf
set_marked : (sinks : List Sink) (s : ℕ) (named : Sink) → slice_get sinks s ≡ Some named → HasDistinctIds (λ (q : Sink). q.id) sinks
    → (ids : List ℕ) (id : ℕ) → named.id ≡ id
    → slice_set (map (λ (q : Sink). list_any (λ x. x == q.id) ids) sinks) s true
    ≡ map (λ (q : Sink). list_any (λ x. x == q.id) (ids ++ id ∷ [])) sinks
set_marked sinks s named found distinct ids id same =
    let within : s < length sinks = slice_get_within sinks s named found in
    set_map (λ (q : Sink). list_any (λ x. x == q.id) ids) (λ (q : Sink). list_any (λ x. x == q.id) (ids ++ id ∷ [])) true sinks s within
    (λ k d less. record {
      here = λ e.
          let at : (get_or sinks k d).id ≡ id =
          ap (λ j. (get_or sinks j d).id) e ∙ ap (λ (q : Sink). q.id) (get_or_from_slice_get sinks s named d found) ∙ same in
          any_push ids id (get_or sinks k d).id
          ∙ ap (λ b. list_any (λ x. x == (get_or sinks k d).id) ids || b) (is_same id (get_or sinks k d).id (sym at))
          ∙ or_true (list_any (λ x. x == (get_or sinks k d).id) ids);
      there = λ n.
          any_push ids id (get_or sinks k d).id
          ∙ ap (λ b. list_any (λ x. x == (get_or sinks k d).id) ids || b)
          (is_other id (get_or sinks k d).id (λ e. n (sym (place_found sinks distinct k (get_or sinks k d) (slice_get-get_or sinks k d less))
          ∙ ap (place_of_id sinks) (sym e ∙ sym same) ∙ place_found sinks distinct s named found)))
          ∙ or_false (list_any (λ x. x == (get_or sinks k d).id) ids);
    })
  where
    or_true : (b : Bool) → (b || true) ≡ true
    or_true true = refl
    or_true false = refl

    or_false : (b : Bool) → (b || false) ≡ b
    or_false true = refl
    or_false false = refl

    is_same : (a b : ℕ) → a ≡ b → (a == b) ≡ true
    is_same a b e = grind (arith, nat_tests, e)

    is_other : (a b : ℕ) → (a ≡ b → ⊥) → (a == b) ≡ false
    is_other a b n = by (a == b) refl
      where
        by : (c : Bool) → (a == b) ≡ c → c ≡ false
        by true e = absurd (n (grind (arith, nat_tests, e)))
        by false e = refl

module _ (sinks : List Sink) (before : List TreeNode) (node : TreeNode) where
  pub pair_met : (l r : ℕ) (buffer : Option ℕ) (marks : List Bool) → node.kind ≡ Pair l r buffer → marks ≡ marks_of sinks before
      → MeetsSink sinks before node × (marks ≡ marks_of sinks (before ++ node ∷ []))
  pair_met l r buffer marks is marked = (
    subst (λ o. MatchOption o (Unit {0}) (IsNewSink sinks before node)) (sym (ap leaf_id is)) tt,
    marked ∙ ap (λ ids. map (λ (sink : Sink). list_any (λ id. id == sink.id) ids) sinks) (sym (ids_after_pair before node (ap leaf_id is))),
  )

  module _ (id s : ℕ) (is : node.kind ≡ Leaf id s) (names : NamesById sinks node.kind) where
    place : s ≡ place_of_id sinks id
    place = subst (NamesById sinks) is names

    new_sink : MeetsSink sinks before node → IsNewSink sinks before node id
    new_sink = subst (λ o. MatchOption o (Unit {0}) (IsNewSink sinks before node)) (ap leaf_id is)

    module _ (distinct : HasDistinctIds (λ (q : Sink). q.id) sinks) where
      -- the sink at which the leaf has to stand
      its_sink : (h : IsSinkAt sinks node id) → slice_get sinks s ≡ Some h.sink
      its_sink h = ap (slice_get sinks) (place ∙ ap (place_of_id sinks) (sym h.id_is)) ∙ place_found_of sinks distinct h.sink h.among

      pub unknown_missed : slice_get sinks s ≡ None → ¬ MeetsSink sinks before node
      unknown_missed none met = let found = its_sink (new_sink met).sink_at in absurd cc

      pub elsewhere_missed : (named : Sink) → slice_get sinks s ≡ Some named → ¬ StandsAt named id node.place
          → ¬ MeetsSink sinks before node
      elsewhere_missed named found apart met =
          let h : IsSinkAt sinks node id = (new_sink met).sink_at in
          let same : h.sink ≡ named = some_same (sym (its_sink h) ∙ found) in
          apart (subst (λ q. StandsAt q id node.place) same (record { id_is = h.id_is; place_is = h.place }))
        where
          some_same : {x y : Sink} → Some x ≡ Some y → x ≡ y
          some_same e = cc

      mark_of : (named : Sink) → slice_get sinks s ≡ Some named → named.id ≡ id → (marks : List Bool) → marks ≡ marks_of sinks before
          → slice_get marks s ≡ Some (list_any (λ x. x == id) (leaf_ids before))
      mark_of named found same marks marked =
          ap (λ ms. slice_get ms s) marked ∙ slice_get-map (λ (sink : Sink). list_any (λ x. x == sink.id) (leaf_ids before)) sinks s
          ∙ ap (option_map (λ (sink : Sink). list_any (λ x. x == sink.id) (leaf_ids before))) found
          ∙ ap (λ x. Some (list_any (λ y. y == x) (leaf_ids before))) same

      pub again_missed : (named : Sink) → slice_get sinks s ≡ Some named → StandsAt named id node.place → (marks : List Bool)
          → marks ≡ marks_of sinks before → slice_get marks s ≡ Some true → ¬ MeetsSink sinks before node
      again_missed named found stands marks marked old met =
          let among : list_any (λ x. x == id) (leaf_ids before) ≡ true =
          some_same (sym (mark_of named found stands.id_is marks marked) ∙ old) in
          (new_sink met).new (among_is (leaf_ids before) id among)
        where
          some_same : {x y : Bool} → Some x ≡ Some y → x ≡ y
          some_same e = cc

      pub leaf_met : (named : Sink) → slice_get sinks s ≡ Some named → StandsAt named id node.place → (marks : List Bool)
          → marks ≡ marks_of sinks before → slice_get marks s ≡ Some false
          → MeetsSink sinks before node × (slice_set marks s true ≡ marks_of sinks (before ++ node ∷ []))
      leaf_met named found stands marks marked old =
          let fresh : list_any (λ x. x == id) (leaf_ids before) ≡ false =
          some_same (sym (mark_of named found stands.id_is marks marked) ∙ old) in
          let within : s < length sinks = slice_get_within sinks s named found in
          let new : IsNewSink sinks before node id = record {
            sink_at = record {
              sink = named;
              among = (s, within, get_or_from_slice_get sinks s named named found);
              id_is = stands.id_is;
              place = stands.place_is;
            };
            new = λ among. not_both (sym fresh ∙ is_among (leaf_ids before) id among);
          } in (
            subst (λ o. MatchOption o (Unit {0}) (IsNewSink sinks before node)) (sym (ap leaf_id is)) new,
            ap (λ ms. slice_set ms s true) marked
                ∙ set_marked sinks s named found distinct (leaf_ids before) id stands.id_is
                ∙ ap (λ ids. map (λ (sink : Sink). list_any (λ x. x == sink.id) ids) sinks) (sym (ids_after_leaf before node id (ap leaf_id is))),
          )
        where
          some_same : {x y : Bool} → Some x ≡ Some y → x ≡ y
          some_same e = cc

          not_both : false ≡ true → ⊥
          not_both e = absurd cc

-- the marks before the first node
pub marks_at_start : (sinks : List Sink) (marks : List Bool) → marks ≡ replicate (length sinks) false → marks ≡ marks_of sinks []
marks_at_start sinks marks is = is ∙ none sinks
  where
    none : (qs : List Sink) → replicate (length qs) false ≡ map (λ (q : Sink). false) qs
    none [] = refl
    none (q ∷ qs) = ap (λ bs. false ∷ bs) (none qs)

-- the rule at the number of a node, and past the last node
module _ (i : Parts) (nodes : List TreeNode) where
  pub rule_at : (k : ℕ) (d : TreeNode) → k < length nodes
      → MeetsSinks i nodes k ≡ MeetsSink i.sinks (take k nodes) (get_or nodes k d)
  rule_at k d within =
      ap (λ o. MatchOption o (HasEachSink i nodes) (MeetsSink i.sinks (take k nodes))) (slice_get-get_or nodes k d within)

  pub rule_past : (k : ℕ) → length nodes ≤ k → MeetsSinks i nodes k ≡ HasEachSink i nodes
  rule_past k past =
      ap (λ o. MatchOption o (HasEachSink i nodes) (MeetsSink i.sinks (take k nodes))) (slice_get_past nodes k past)

  pub all_marked : (marks : List Bool) → marks ≡ marks_of i.sinks nodes → All IsTrue marks → HasEachSink i nodes
  all_marked marks is all k d within =
      let marked : get_or marks k true ≡ list_any (λ id. id == (get_or i.sinks k d).id) (leaf_ids nodes) =
      ap (λ ms. get_or ms k true) is ∙ get_or-map (λ (q : Sink). list_any (λ id. id == q.id) (leaf_ids nodes)) i.sinks k d true within in
      among_is (leaf_ids nodes) (get_or i.sinks k d).id
      (sym marked ∙ true_is (get_or marks k true) (all k true (omega (arith, ap length is, length-map i.sinks (λ (q : Sink). list_any (λ id. id == q.id) (leaf_ids nodes)), within))))
    where
      true_is : (b : Bool) → IsTrue b → b ≡ true
      true_is true h = refl
      true_is false h = cc

  pub not_all_marked : (marks : List Bool) → marks ≡ marks_of i.sinks nodes → ¬ All IsTrue marks → ¬ HasEachSink i nodes
  not_all_marked marks is some each =
      some (subst (All IsTrue) (sym is) (each_marked i.sinks each))
    where
      is_true : (b : Bool) → b ≡ true → IsTrue b
      is_true b e = subst IsTrue (sym e) refl

      each_marked : (qs : List Sink) → All (λ (q : Sink). Contains (leaf_ids nodes) q.id) qs
          → All IsTrue (map (λ (q : Sink). list_any (λ id. id == q.id) (leaf_ids nodes)) qs)
      each_marked [] h = All-nil IsTrue
      each_marked (q ∷ qs) h =
          All-cons IsTrue (list_any (λ id. id == q.id) (leaf_ids nodes)) (map (λ (r : Sink). list_any (λ id. id == r.id) (leaf_ids nodes)) qs)
          (is_true _ (is_among (leaf_ids nodes) q.id (All-head (λ (r : Sink). Contains (leaf_ids nodes) r.id) q qs h)))
          (each_marked qs (All-tail (λ (r : Sink). Contains (leaf_ids nodes) r.id) q qs h))

-- one node more
module _ (i : Parts) (nodes : List TreeNode) (k : ℕ) (node : TreeNode) (within : k < length nodes) (node_is : node ≡ get_or nodes k node) where
  pub next_front : take k nodes ++ node ∷ [] ≡ take (k + 1) nodes
  next_front = ap (λ n. take k nodes ++ n ∷ []) node_is ∙ sym (take_more nodes k node within)

  pub broken_at : ¬ MeetsSink i.sinks (take k nodes) node → ¬ MeetsSinks i nodes k
  broken_at missed met =
      missed (subst (MeetsSink i.sinks (take k nodes)) (sym node_is) (subst (λ T. T) (rule_at i nodes k node within) met))

  pub met_next : MeetsSink i.sinks (take k nodes) node → ((j : ℕ) → j < k → MeetsSinks i nodes j)
      → (j : ℕ) → j < k + 1 → MeetsSinks i nodes j
  met_next met before j less = by (cases_lt j k)
    where
      here : MeetsSinks i nodes k
      here = subst (λ T. T) (sym (rule_at i nodes k node within)) (subst (MeetsSink i.sinks (take k nodes)) node_is met)

      by : (j < k) ⊎ (k ≤ j) → MeetsSinks i nodes j
      by (inl h) = before j h
      by (inr h) = let same : k ≡ j = omega (arith, h, less) in subst (MeetsSinks i nodes) same here

-- past the last node
module _ (i : Parts) (nodes : List TreeNode) (k : ℕ) (past : length nodes ≤ k)
    (before : (j : ℕ) → j < k → MeetsSinks i nodes j) where
  pub met_everywhere : HasEachSink i nodes → (j : ℕ) → MeetsSinks i nodes j
  met_everywhere each j = by (cases_lt j (length nodes))
    where
      by : (j < length nodes) ⊎ (length nodes ≤ j) → MeetsSinks i nodes j
      by (inl h) = before j (omega (arith, h, past))
      by (inr h) = subst (λ T. T) (sym (rule_past i nodes j h)) each

  pub broken_past : ¬ HasEachSink i nodes → ¬ MeetsSinks i nodes (length nodes)
  broken_past none met = none (subst (λ T. T) (rule_past i nodes (length nodes) (omega arith)) met)

-- the marks of all nodes
pub marks_at_end : (sinks : List Sink) (nodes : List TreeNode) (k : ℕ) (marks : List Bool) → length nodes ≤ k
    → marks ≡ marks_of sinks (take k nodes) → marks ≡ marks_of sinks nodes
marks_at_end sinks nodes k marks past is = is ∙ ap (marks_of sinks) (take_all k nodes past)
