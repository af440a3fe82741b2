-- Each sink is reached once exactly where the rule on sinks holds at every number.
use Rattle.std.proofs.Common.{◌≡◌, ℕ, zero, suc, ◌+◌, ◌<◌, ◌≤◌, ◌==◌, Bool, true, false, cond, inl, inr, ◌⊎◌, List, [], ◌∷◌, ◌++◌, length, take, drop, get_or, Option, Some, None, MatchOption, refl, sym, ap, subst, ◌∙◌, arith}
use Rattle.std.specs.Prelude.{pos, count_by}
use Rattle.std.specs.List.{Contains, cons_option}
use Rattle.std.proofs.Math.Seq.{split_at}
use Rattle.std.proofs.lemmas.Bool.{cases_lt}
use Rattle.std.proofs.lemmas.Bool.Decides.{nat_tests}
use Rattle.std.proofs.lemmas.List.{take_more, take_all}
use Rattle.std.proofs.lemmas.List.Elements.{filter_map-append}
use Rattle.std.proofs.lemmas.List.Sums.{sum_by-cons, sum_by-append}
use Rattle.cts_units.specs.declared.params.Sink.{Sink}
use Rattle.cts_tree.specs.declared.nodes.NodeKind.TheVariants.{Leaf}
use Rattle.cts_tree.specs.declared.nodes.TreeNode.{TreeNode}
use Rattle.cts_tree.specs.Nodes.{leaf_id}
use Rattle.cts_instance.specs.declared.parts.Parts.{Parts}
use Rattle.cts_elmore.specs.Sound.{IsSinkAt, leaf_ids, ReachesEachSinkOnce}
use Rattle.cts_check.specs.Rules.{IsNewSink, MeetsSink, MeetsSinks, HasEachSink}
use Rattle.cts_check.proofs.SinkRule.{ids_after_pair, ids_after_leaf, rule_at, rule_past}

abbrev one_if : Bool → ℕ
one_if b = cond b 1 0

-- how often an id stands among others
abbrev times : List ℕ → ℕ → ℕ
times ids id = count_by (λ x. x == id) ids

times-cons : (x : ℕ) (ids : List ℕ) (id : ℕ) → times (x ∷ ids) id ≡ one_if (x == id) + times ids id
times-cons x ids id = sum_by-cons (λ y. cond (y == id) 1 0) x ids

times-append : (xs ys : List ℕ) (id : ℕ) → times (xs ++ ys) id ≡ times xs id + times ys id
times-append xs ys id = sum_by-append (λ y. cond (y == id) 1 0) xs ys

is_once : (x id : ℕ) → x ≡ id → one_if (x == id) ≡ 1
is_once x id e = ap one_if (same x id e)
  where
    same : (a b : ℕ) → a ≡ b → (a == b) ≡ true
    same a b h = grind (arith, nat_tests, h)

some_times : (ids : List ℕ) (id k : ℕ) → k < length ids → get_or ids k id ≡ id → 1 ≤ times ids id
some_times [] id k within at = absurd (omega (arith, within))
some_times (x ∷ ids) id zero within at = omega (arith, times-cons x ids id, is_once x id at)
some_times (x ∷ ids) id (suc k) within at = omega (arith, times-cons x ids id, some_times ids id k (omega (arith, within)) at)

found_times : (ids : List ℕ) (id : ℕ) → 1 ≤ times ids id → Contains ids id
found_times [] id h = absurd (omega (arith, h))
found_times (x ∷ ids) id h = by (x == id) refl (λ more. found_times ids id more)
  where
    later : Contains ids id → Contains (x ∷ ids) id
    later (k, within, at) = (suc k, omega (arith, within), at)

    by : (b : Bool) → (x == id) ≡ b → (1 ≤ times ids id → Contains ids id) → Contains (x ∷ ids) id
    by true e more = (0, omega arith, grind (arith, nat_tests, e))
    by false e more = later (more (omega (arith, times-cons x ids id, ap one_if e, h)))

no_times : (ids : List ℕ) (id : ℕ) → ¬ Contains ids id → times ids id ≡ 0
no_times ids id none = by (cases_lt (times ids id) 1)
  where
    by : (times ids id < 1) ⊎ (1 ≤ times ids id) → times ids id ≡ 0
    by (inl h) = omega (arith, h)
    by (inr h) = absurd (none (found_times ids id h))

module _ (i : Parts) (nodes : List TreeNode) where
  -- a leaf of this id at a number splits the ids
  ids_split : (k : ℕ) (d : TreeNode) (id : ℕ) → k < length nodes → leaf_id (get_or nodes k d).kind ≡ Some id
      → leaf_ids nodes ≡ leaf_ids (take k nodes) ++ id ∷ leaf_ids (drop (suc k) nodes)
  ids_split k d id within is =
      ap leaf_ids (split_at nodes k d within)
      ∙ filter_map-append (λ (n : TreeNode). leaf_id n.kind) (take k nodes) (get_or nodes k d ∷ drop (suc k) nodes)
      ∙ ap (λ o. leaf_ids (take k nodes) ++ cons_option o (leaf_ids (drop (suc k) nodes))) is

  module _ (reached : ReachesEachSinkOnce i.sinks nodes) where
    at_leaf : (k : ℕ) (d : TreeNode) → k < length nodes → (o : Option ℕ) → leaf_id (get_or nodes k d).kind ≡ o
        → MatchOption o (Unit {0}) (IsSinkAt i.sinks (get_or nodes k d)) → MatchOption o (Unit {0}) (IsNewSink i.sinks (take k nodes) (get_or nodes k d))
    at_leaf k d within None is stands = tt
    at_leaf k d within (Some id) is stands = record {
      sink_at = stands;
      new = λ before.
          let once : times (leaf_ids nodes) stands.sink.id ≡ 1 =
          subst (λ (s : Sink). times (leaf_ids nodes) s.id ≡ 1) (stands.among.2) (reached.once (stands.among.0) stands.sink (stands.among.1)) in
          let of_id : times (leaf_ids nodes) id ≡ 1 = ap (times (leaf_ids nodes)) (sym stands.id_is) ∙ once in
          omega (
            arith,
            of_id,
            ap (λ ids. times ids id) (ids_split k d id within is),
            times-append (leaf_ids (take k nodes)) (id ∷ leaf_ids (drop (suc k) nodes)) id,
            times-cons id (leaf_ids (drop (suc k) nodes)) id,
            is_once id id refl,
            some_times (leaf_ids (take k nodes)) id (before.0) (before.1) (before.2),
          );
    }

    pub reached_meets : (k : ℕ) → MeetsSinks i nodes k
    reached_meets k = by (cases_lt k (length nodes))
      where
        d : TreeNode
        d = record { kind = Leaf 0 0; place = record { u = pos 0; v = pos 0 }; wire = 0; route = record { corners = []; length = 0 } }

        by : (k < length nodes) ⊎ (length nodes ≤ k) → MeetsSinks i nodes k
        by (inl h) =
            subst (λ T. T) (sym (rule_at i nodes k d h)) (at_leaf k d h (leaf_id (get_or nodes k d).kind) refl (reached.leaves k d h))
        by (inr h) =
            subst (λ T. T) (sym (rule_past i nodes k h))
            (λ q s within. found_times (leaf_ids nodes) (get_or i.sinks q s).id (omega (arith, reached.once q s within)))

  module _ (meets : (k : ℕ) → MeetsSinks i nodes k) where
    at_node : (k : ℕ) (d : TreeNode) → k < length nodes → MeetsSink i.sinks (take k nodes) (get_or nodes k d)
    at_node k d within = subst (λ T. T) (rule_at i nodes k d within) (meets k)

    stands : (node : TreeNode) (before : List TreeNode) (o : Option ℕ) → MatchOption o (Unit {0}) (IsNewSink i.sinks before node)
        → MatchOption o (Unit {0}) (IsSinkAt i.sinks node)
    stands node before None h = tt
    stands node before (Some id) h = h.sink_at

    -- no id stands twice among the first leaves
    at_most_once : (id k : ℕ) → k ≤ length nodes → times (leaf_ids (take k nodes)) id ≤ 1
    at_most_once id zero h = omega arith
    at_most_once id (suc k) h = by_kind (leaf_id n.kind) refl (at_node k d within) (at_most_once id k (omega (arith, h)))
      where
        d : TreeNode
        d = record { kind = Leaf 0 0; place = record { u = pos 0; v = pos 0 }; wire = 0; route = record { corners = []; length = 0 } }

        within : k < length nodes
        within = omega (arith, h)

        n : TreeNode
        n = get_or nodes k d

        front : take (suc k) nodes ≡ take k nodes ++ n ∷ []
        front =
            let next : suc k ≡ k + 1 = omega arith in ap (λ j. take j nodes) next ∙ take_more nodes k d within

        by_kind : (o : Option ℕ) → leaf_id n.kind ≡ o → MeetsSink i.sinks (take k nodes) n → times (leaf_ids (take k nodes)) id ≤ 1
            → times (leaf_ids (take (suc k) nodes)) id ≤ 1
        by_kind None is met so_far =
            subst (λ ids. times ids id ≤ 1) (sym (ap leaf_ids front ∙ ids_after_pair (take k nodes) n is)) so_far
        by_kind (Some x) is met so_far =
            let more : times (leaf_ids (take (suc k) nodes)) id ≡ times (leaf_ids (take k nodes)) id + (one_if (x == id) + times [] id) =
            ap (λ ids. times ids id) (ap leaf_ids front ∙ ids_after_leaf (take k nodes) n x is)
            ∙ times-append (leaf_ids (take k nodes)) (x ∷ []) id ∙ ap (λ c. times (leaf_ids (take k nodes)) id + c) (times-cons x [] id) in
            by_same (x == id) refl more
          where
            by_same : (b : Bool) → (x == id) ≡ b
                → times (leaf_ids (take (suc k) nodes)) id ≡ times (leaf_ids (take k nodes)) id + (one_if (x == id) + times [] id)
                → times (leaf_ids (take (suc k) nodes)) id ≤ 1
            by_same true e more =
                let new : IsNewSink i.sinks (take k nodes) n x = subst (λ o. MatchOption o (Unit {0}) (IsNewSink i.sinks (take k nodes) n)) is met in
                let same : x ≡ id = grind (arith, nat_tests, e) in
                omega (arith, more, ap one_if e, no_times (leaf_ids (take k nodes)) id (subst (λ y. ¬ Contains (leaf_ids (take k nodes)) y) same new.new))
            by_same false e more = omega (arith, more, ap one_if e, so_far)

    pub meets_reached : ReachesEachSinkOnce i.sinks nodes
    meets_reached = record {
      leaves = λ k d within. stands (get_or nodes k d) (take k nodes) (leaf_id (get_or nodes k d).kind) (at_node k d within);
      once = λ q s within.
          let each : HasEachSink i nodes = subst (λ T. T) (rule_past i nodes (length nodes) (omega arith)) (meets (length nodes)) in
          let found : Contains (leaf_ids nodes) (get_or i.sinks q s).id = each q s within in
          omega (
            arith,
            some_times (leaf_ids nodes) (get_or i.sinks q s).id (found.0) (found.1) (found.2),
            at_most_once (get_or i.sinks q s).id (length nodes) (omega arith),
            ap (λ ns. times (leaf_ids ns) (get_or i.sinks q s).id) (take_all (length nodes) nodes (omega arith)),
          );
    }
