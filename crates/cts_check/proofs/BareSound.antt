-- A sound tree is sound without the lengths of its routes.
use Rattle.std.proofs.Common.{◌≡◌, ℕ, ◌+◌, ◌*◌, ◌≤◌, ◌<◌, ◌==◌, inl, inr, List, [], ◌∷◌, map, length, slice_get, Option, Some, None, MatchOption, refl, sym, ap, ap₂, subst, ◌∙◌}
use Rattle.std.specs.Prelude.{◌-◌, count_by}
use Rattle.std.specs.List.{All, cons_option}
use Rattle.std.proofs.lemmas.Option.{slice_get_within, get_or_from_slice_get}
use Rattle.std.proofs.lemmas.List.Elements.{All-map, All-weaker}
use Rattle.cts_geom.specs.declared.points.Half.{Half}
use Rattle.cts_geom.specs.Points.{point_of}
use Rattle.cts_units.specs.declared.params.Sink.{Sink}
use Rattle.cts_units.specs.Limits.{max_length, max_load, max_delay}
use Rattle.cts_postorder.specs.BinaryTree.{BinaryTree, tip, fork, label}
use Rattle.cts_postorder.specs.PostOrder.{IsPostOrder, trees_of, root_of}
use Rattle.cts_postorder.specs.Occurrence.{Occurrence, occurrences_of}
use Rattle.cts_tree.specs.declared.nodes.TreeNode.{TreeNode}
use Rattle.cts_tree.specs.Nodes.{tree_children, leaf_id}
use Rattle.cts_tree.specs.Path.{points_along, path_length}
use Rattle.cts_instance.specs.declared.parts.Parts.{Parts}
use Rattle.cts_elmore.specs.Limits.{IsLong, IsPairOver, IsRootOver, IsOver, IsWithinLimits, long_left, long_right, great_load, great_delay, long_root, great_source_load, great_leaf_delay}
use Rattle.cts_elmore.specs.Sound.{IsSinkAt, leaf_ids, ReachesEachSinkOnce, IsLegalRoute, upper_end, HasLegalWire, HasOpenBuffer, IsSound}
use Rattle.cts_check.proofs.Bare.{bare, bare_tree, bare_occurrence, label-bare, upper_end-bare, load_below-bare, greatest-bare, source_load-bare, source_delay-bare, wire_delay-bare}
use Rattle.cts_check.proofs.BareTrees.{BareWhole, bare_whole}

pub ids-bare : (nodes : List TreeNode) → leaf_ids (map bare nodes) ≡ leaf_ids nodes
ids-bare [] = refl
ids-bare (n ∷ nodes) = ap (cons_option (leaf_id n.kind)) (ids-bare nodes)

reached-bare : (sinks : List Sink) (nodes : List TreeNode) → ReachesEachSinkOnce sinks nodes → ReachesEachSinkOnce sinks (map bare nodes)
reached-bare sinks nodes h = record {
  leaves = All-map (λ n. MatchOption (leaf_id n.kind) (Unit {0}) (IsSinkAt sinks n)) bare nodes
      (All-weaker (λ n. MatchOption (leaf_id n.kind) (Unit {0}) (IsSinkAt sinks n))
      (λ n. MatchOption (leaf_id n.kind) (Unit {0}) (IsSinkAt sinks (bare n))) (λ n stands. turned n (leaf_id n.kind) stands) nodes h.leaves);
  once = subst (λ ids. All (λ (s : Sink). count_by (λ id. id == s.id) ids ≡ 1) sinks) (sym (ids-bare nodes)) h.once;
}
  where
    turned : (n : TreeNode) (o : Option ℕ) → MatchOption o (Unit {0}) (IsSinkAt sinks n) → MatchOption o (Unit {0}) (IsSinkAt sinks (bare n))
    turned n None stands = tt
    turned n (Some id) stands = record { sink = stands.sink; among = stands.among; id_is = stands.id_is; place = stands.place }

module _ (i : Parts) where
  -- a route and a wire, told by the upper end and the node
  abbrev IsLegalAt : Half → TreeNode → Type 0
  IsLegalAt from n =
      IsLegalRoute i.blocks i.die from (point_of n.place) n.route
      × (path_length (points_along from n.route.corners (point_of n.place)) ≤ 2 * n.wire)

  wire-bare : (o : Occurrence TreeNode) → HasLegalWire i o → HasLegalWire i (bare_occurrence o)
  wire-bare o h =
      let same : IsLegalAt (upper_end i o.above) (bare (label o.here)) = (h.route, h.no_shorter) in
      let moved : IsLegalAt (upper_end i (map bare_tree o.above)) (label (bare_tree o.here)) =
      subst (λ n. IsLegalAt (upper_end i (map bare_tree o.above)) n) (sym (label-bare o.here))
      (subst (λ from. IsLegalAt from (bare (label o.here))) (sym (upper_end-bare i o.above)) same) in
      record { route = moved.0; no_shorter = moved.1 }

  long_from_bare : (t : BinaryTree TreeNode) → IsLong (bare_tree t) → IsLong t
  long_from_bare t h = subst (λ (n : TreeNode). max_length < n.wire) (label-bare t) h

  pair_from_bare : (t : BinaryTree TreeNode) → IsPairOver i (bare_tree t) → IsPairOver i t
  unfolding bare_tree
  pair_from_bare (tip n) h = h
  pair_from_bare (fork l r n) (long_left h) = long_left (long_from_bare l h)
  pair_from_bare (fork l r n) (long_right h) = long_right (long_from_bare r h)
  pair_from_bare (fork l r n) (great_load h) = great_load (subst (λ x. max_load < x) (load_below-bare i (fork l r n)) h)
  pair_from_bare (fork l r n) (great_delay h) = great_delay (subst (λ x. max_delay < x) (greatest-bare i (fork l r n)) h)

  root_from_bare : (t : BinaryTree TreeNode) → IsRootOver i (bare_tree t) → IsRootOver i t
  root_from_bare t (long_root h) = long_root (long_from_bare t h)
  root_from_bare t (great_source_load h) = great_source_load (subst (λ x. max_load < x) (source_load-bare i t) h)
  root_from_bare t (great_leaf_delay h) =
      great_leaf_delay (subst (λ x. max_delay < x)
      (ap₂ (λ x y. x + y) (ap₂ (λ x y. x + y) (source_delay-bare i t) (wire_delay-bare i t)) (greatest-bare i t)) h)

  module _ (nodes : List TreeNode) (w : BareWhole nodes) (within : IsWithinLimits i nodes) where
    root_within : ¬ IsRootOver i w.tree
    unfolding root_of
    root_within over =
        let last : slice_get (trees_of tree_children nodes) (length nodes - 1) ≡ Some w.tree = w.root_is in
        within (length nodes - 1) w.tree (slice_get_within (trees_of tree_children nodes) (length nodes - 1) w.tree last)
        (subst (IsOver i nodes) (sym (get_or_from_slice_get (trees_of tree_children nodes) (length nodes - 1) w.tree w.tree last))
        (inr (w.root_is, over)))

    not_over : (t : BinaryTree TreeNode) → ¬ IsOver i nodes t → ¬ IsOver i (map bare nodes) (bare_tree t)
    not_over t fine (inl h) = fine (inl (pair_from_bare t h))
    not_over t fine (inr (root, h)) =
        let same : bare_tree t ≡ bare_tree w.tree = some_same (sym root ∙ w.bare_root) in
        root_within (root_from_bare w.tree (subst (IsRootOver i) same h))
      where
        some_same : {A : Type 0} {x y : A} → Some x ≡ Some y → x ≡ y
        some_same e = cc

    within-bare : IsWithinLimits i (map bare nodes)
    within-bare =
        subst (All (λ t. ¬ IsOver i (map bare nodes) t)) (sym w.bare_trees)
        (All-map (λ t. ¬ IsOver i (map bare nodes) t) bare_tree (trees_of tree_children nodes)
        (All-weaker (λ t. ¬ IsOver i nodes t) (λ t. ¬ IsOver i (map bare nodes) (bare_tree t)) not_over (trees_of tree_children nodes) within))

  pub sound-bare : (nodes : List TreeNode) → IsPostOrder (map tree_children nodes) → IsSound i nodes → IsSound i (map bare nodes)
  sound-bare nodes ok h =
      let w : BareWhole nodes = bare_whole nodes ok in
      record {
        sinks = reached-bare i.sinks nodes h.sinks;
        wires = subst (All (HasLegalWire i)) (sym w.bare_occurrences)
            (All-map (HasLegalWire i) bare_occurrence (occurrences_of tree_children nodes)
            (All-weaker (HasLegalWire i) (λ o. HasLegalWire i (bare_occurrence o)) wire-bare (occurrences_of tree_children nodes) h.wires));
        buffers = All-map (HasOpenBuffer i.blocks) bare nodes h.buffers;
        within = within-bare nodes w h.within;
      }
