-- What a told tree gives to the rules, and what they give back.
use Rattle.std.proofs.Common.{◌≡◌, ℕ, ◌<◌, ◌≤◌, List, [], ◌∷◌, map, length, slice_get, Option, Some, None, MatchOption, refl, ap, subst, ◌∙◌, arith}
use Rattle.std.specs.List.{All}
use Rattle.std.proofs.lemmas.Int.{ints}
use Rattle.std.proofs.lemmas.List.{length-map, length-take-le, get_or-take}
use Rattle.std.proofs.lemmas.List.Elements.{All-cons, All-nil, All-head, All-tail}
use Rattle.std.proofs.lemmas.Option.{slice_get_within, get_or_from_slice_get}
use Rattle.cts_units.specs.declared.params.Sink.{Sink}
use Rattle.cts_postorder.specs.PostOrder.{trees_of}
use Rattle.cts_tree.specs.declared.nodes.TreeNode.{TreeNode}
use Rattle.cts_tree.specs.Nodes.{tree_children}
use Rattle.cts_instance.specs.declared.parts.Parts.{Parts}
use Rattle.cts_elmore.specs.Limits.{IsOver, IsFirstOver}
use Rattle.cts_report.specs.Printed.{PrintedPoint, PrintedKind, sink_leaf, pair_node, PrintedNode}
use Rattle.cts_report_reader.specs.declared.form.Form.{Form}
use Rattle.cts_report_reader.specs.declared.node.ReportNode.{ReportNode}
use Rattle.cts_report_reader.specs.Bounds.{IsPrintedPoint, IsPrintedNode}
use Rattle.cts_report_reader.specs.Nodes.{IsSeenNode, seen_node, seen_nodes}
use Rattle.cts_report_reader.specs.Seen.{IsSeen}
use Rattle.cts_check.specs.Claims.{IsTellable}
use Rattle.cts_check.specs.Marks.{NamesById}
use Rattle.cts_check.specs.Ranges.{IsInRange}
use Rattle.cts_check.specs.Rules.{IsFirstFailing, MeetsLimit}
use Rattle.cts_check.specs.Told.{told_point, told_kind, told_node, told_nodes}
use Rattle.cts_check.proofs.BareTrees.{all_before_map}
use Rattle.cts_check.proofs.Meeting.{if_there}

-- the tree is told of what was read, under other names
pub told_is : (tree : List TreeNode) (nodes before : List ReportNode) (listed sinks : List Sink) → tree ≡ told_nodes listed (seen_nodes nodes)
    → nodes ≡ before → listed ≡ sinks → tree ≡ told_nodes sinks (seen_nodes before)
told_is tree nodes before listed sinks is nodes_are sinks_are =
    is ∙ ap (λ ns. told_nodes listed (seen_nodes ns)) nodes_are ∙ ap (λ qs. told_nodes qs (seen_nodes before)) sinks_are

pub told_few : (sinks : List Sink) (nodes : List PrintedNode) → length nodes ≤ 131071 → length (told_nodes sinks nodes) ≤ 131071
told_few sinks nodes few = omega (arith, length-map nodes (told_node sinks), few)

pub tellable : (form : Form) (nodes : List ReportNode) → All (IsPrintedNode form) (seen_nodes nodes) → All IsSeenNode nodes
    → All IsTellable nodes
tellable form nodes printed seen k d within = record {
  seen = seen k d within;
  place = (all_before_map (IsPrintedNode form) seen_node nodes printed k d within).place;
}

module _ (sinks : List Sink) where
  named : (kind : PrintedKind) → NamesById sinks (told_kind sinks kind)
  named (sink_leaf id) = refl
  named (pair_node left right buffer residue) = tt

  pub told_names : (ps : List PrintedNode) → All (λ (n : TreeNode). NamesById sinks n.kind) (told_nodes sinks ps)
  told_names [] = All-nil (λ (n : TreeNode). NamesById sinks n.kind)
  told_names (p ∷ ps) =
      All-cons (λ (n : TreeNode). NamesById sinks n.kind) (told_node sinks p) (told_nodes sinks ps) (named p.kind) (told_names ps)

  corners_seen : (ps : List PrintedPoint) → All IsPrintedPoint ps → All IsSeen (map told_point ps)
  corners_seen [] h = All-nil IsSeen
  corners_seen (p ∷ ps) h =
      let at : IsPrintedPoint p = All-head IsPrintedPoint p ps h in
      All-cons IsSeen (told_point p) (map told_point ps) (record {
        x = (grind (arith, ints), grind (arith, ints, at.x.inside));
        y = (grind (arith, ints), grind (arith, ints, at.y.inside));
      }) (corners_seen ps (All-tail IsPrintedPoint p ps h))

  module _ (form : Form) where
    in_range : (p : PrintedNode) → IsPrintedNode form p → IsInRange (told_node sinks p)
    in_range p h = record {
      place = record {
        x = (grind (arith, ints), grind (arith, ints, h.place.point.x.inside));
        y = (grind (arith, ints, h.place.even), grind (arith, ints, h.place.even, h.place.point.y.inside));
      };
      corners = corners_seen p.corners h.corners;
      few = omega (arith, length-map p.corners told_point, h.few);
      wire = omega (arith, h.wire);
    }

    pub told_in_range : (ps : List PrintedNode) → All (IsPrintedNode form) ps → All IsInRange (told_nodes sinks ps)
    told_in_range [] h = All-nil IsInRange
    told_in_range (p ∷ ps) h =
        All-cons IsInRange (told_node sinks p) (told_nodes sinks ps) (in_range p (All-head (IsPrintedNode form) p ps h))
        (told_in_range ps (All-tail (IsPrintedNode form) p ps h))

-- the node that is over the limits is the first at which their rule is broken
pub over_first : (i : Parts) (nodes : List TreeNode) (o : Option ℕ) → IsFirstOver i nodes o → IsFirstFailing (MeetsLimit i nodes) o
over_first i nodes None within = if_there (λ t. ¬ IsOver i nodes t) (trees_of tree_children nodes) within
over_first i nodes (Some k) least = (
  λ met. subst (λ o. MatchOption o (Unit {0}) (λ t. ¬ IsOver i nodes t)) least.found met least.fails,
  λ j less. before j less (slice_get (trees_of tree_children nodes) j) refl,
)
  where
    before : (j : ℕ) → j < k → (o : Option _) → slice_get (trees_of tree_children nodes) j ≡ o → MatchOption o (Unit {0}) (λ t. ¬ IsOver i nodes t)
    before j less None e = tt
    before j less (Some t) e =
        let inside : k < length (trees_of tree_children nodes) = slice_get_within (trees_of tree_children nodes) k least.tree least.found in
        subst (λ u. ¬ IsOver i nodes u)
        (get_or-take k (trees_of tree_children nodes) j t less ∙ get_or_from_slice_get (trees_of tree_children nodes) j t t e)
        (least.none_before j t (omega (arith, less, inside, length-take-le k (trees_of tree_children nodes) (omega (arith, inside)))))
