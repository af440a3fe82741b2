-- The tree that a report tells, and the report of that tree.
use Rattle.std.proofs.Common.{◌≡◌, ℕ, ◌+◌, ◌*◌, ◌/◌, ℤ, List, [], ◌∷◌, map, length, slice_get, Option, Some, None, refl, sym, ap, ap₂, ◌∙◌, arith}
use Rattle.std.specs.Prelude.{pos, ◌≤ℤ◌, ◌+ℤ◌, ◌-ℤ◌, unsigned_abs, IsSomeAnd}
use Rattle.std.specs.List.{All}
use Rattle.std.proofs.lemmas.List.Elements.{All-head, All-tail}
use Rattle.std.proofs.lemmas.Int.{ints}
use Rattle.cts_geom.specs.declared.points.Half.{Half}
use Rattle.cts_geom.specs.declared.points.Spot.{Spot}
use Rattle.cts_geom.specs.Points.{point_of}
use Rattle.cts_units.specs.declared.params.Sink.{Sink}
use Rattle.cts_units.specs.Ids.{HasDistinctIds}
use Rattle.cts_tree.specs.declared.nodes.NodeKind.{NodeKind}
use Rattle.cts_tree.specs.declared.nodes.NodeKind.TheVariants.{Leaf, Pair}
use Rattle.cts_tree.specs.declared.nodes.TreeNode.{TreeNode}
use Rattle.cts_tree.specs.Nodes.{tree_children, children_of}
use Rattle.cts_instance.specs.declared.version.Version.{Version}
use Rattle.cts_elmore.specs.declared.figures.NodeFigure.{NodeFigure}
use Rattle.cts_elmore.specs.Fits.{NamesSink}
use Rattle.cts_report.specs.Printed.{PrintedKind, sink_leaf, pair_node, PrintedNode}
use Rattle.cts_report.specs.Report.{IsOnSheet, IsPrintableNode, printed_point, printed_kind, printed_node, printed_nodes}
use Rattle.cts_report_reader.specs.Bounds.{children_of_kind, printed_children}
use Rattle.cts_check.specs.Told.{told_point, told_place, told_kind, told_node, told_nodes, place_of_id}
use Rattle.cts_check.proofs.Ids.{place_found}
use Rattle.cts_check.proofs.ToldNodes.{half_same}
use Rattle.cts_check.proofs.Bare.{bare}

spot_same : (p q : Spot) → p.u ≡ q.u → p.v ≡ q.v → p ≡ q
spot_same p q u v =
    ap (λ (x : ℤ). let h : Spot = record { u = x; v = p.v } in h) u
    ∙ ap (λ (x : ℤ). let h : Spot = record { u = q.u; v = x } in h) v

-- the place that is told is the one that is printed
module _ (p : Spot) (x : pos 0 ≤ℤ (p.u +ℤ p.v)) (y : pos 0 ≤ℤ (p.u -ℤ p.v)) where
  u_again : pos ((5 * unsigned_abs (p.u +ℤ p.v) / 5 + 5 * unsigned_abs (p.u -ℤ p.v) / 5) / 2) ≡ p.u
  u_again = grind (arith, ints, x, y)

  pub place_again : told_place (printed_point (point_of p)) ≡ p
  place_again = spot_same (told_place (printed_point (point_of p))) p u_again (grind (arith, ints, x, u_again))

point_again : (p : Half) → IsOnSheet p → told_point (printed_point p) ≡ p
point_again p h = half_same (told_point (printed_point p)) p (again p.x h.x) (again p.y h.y)
  where
    again : (z : ℤ) → pos 0 ≤ℤ z → pos (5 * unsigned_abs z / 5) ≡ z
    again z low = grind (arith, ints, low)

corners_again : (ps : List Half) → All IsOnSheet ps → map told_point (map printed_point ps) ≡ ps
corners_again [] h = refl
corners_again (p ∷ ps) h =
    ap₂ (λ q qs. q ∷ qs) (point_again p (All-head IsOnSheet p ps h)) (corners_again ps (All-tail IsOnSheet p ps h))

module _ (sinks : List Sink) (distinct : HasDistinctIds (λ (s : Sink). s.id) sinks) where
  kind_again : (kind : NodeKind) (residue : ℕ) → NamesSink sinks kind → told_kind sinks (printed_kind kind residue) ≡ kind
  kind_again (Leaf id s) residue names = by (slice_get sinks s) refl names
    where
      by : (o : Option Sink) → slice_get sinks s ≡ o → IsSomeAnd o (λ (named : Sink). named.id ≡ id) → Leaf id (place_of_id sinks id) ≡ Leaf id s
      by None found named = absurd named
      by (Some sink) found named = ap (λ k. Leaf id k) (ap (place_of_id sinks) (sym named) ∙ place_found sinks distinct s sink found)
  kind_again (Pair left right buffer) residue names = refl

  node_again : (version : Version) (node : TreeNode) (figure : NodeFigure) → NamesSink sinks node.kind → IsPrintableNode node
      → told_node sinks (printed_node version node figure) ≡ bare node
  node_again version node figure names h =
      let made : NodeKind → Spot → List Half → TreeNode =
      λ k p cs. record { kind = k; place = p; wire = node.wire; route = record { corners = cs; length = 0 } } in
      ap (λ k. made k (told_place (printed_point (point_of node.place))) (map told_point (map printed_point node.route.corners)))
      (kind_again node.kind figure.residue names)
      ∙ ap (λ p. made node.kind p (map told_point (map printed_point node.route.corners))) (place_again node.place h.place.x h.place.y)
      ∙ ap (λ cs. made node.kind node.place cs) (corners_again node.route.corners h.corners)

  -- the tree that is told by the report of a tree is that tree
  pub told_again : (version : Version) (nodes : List TreeNode) (figures : List NodeFigure) → length figures ≡ length nodes
      → All (λ (n : TreeNode). NamesSink sinks n.kind) nodes → All IsPrintableNode nodes
      → told_nodes sinks (printed_nodes version nodes figures) ≡ map bare nodes
  unfolding printed_nodes
  told_again version [] figures long names h = refl
  told_again version (n ∷ nodes) [] long names h = absurd (omega (arith, long))
  told_again version (n ∷ nodes) (f ∷ figures) long names h =
      ap₂ (λ m ms. m ∷ ms) (node_again version n f (All-head (λ (m : TreeNode). NamesSink sinks m.kind) n nodes names) (All-head IsPrintableNode n nodes h))
      (told_again version nodes figures (omega (arith, long)) (All-tail (λ (m : TreeNode). NamesSink sinks m.kind) n nodes names)
      (All-tail IsPrintableNode n nodes h))

-- what is printed does not show the lengths of routes
pub printed-bare : (version : Version) (nodes : List TreeNode) (figures : List NodeFigure)
    → printed_nodes version (map bare nodes) figures ≡ printed_nodes version nodes figures
unfolding printed_nodes
printed-bare version [] figures = refl
printed-bare version (n ∷ nodes) [] = refl
printed-bare version (n ∷ nodes) (f ∷ figures) = ap (λ ps. printed_node version n f ∷ ps) (printed-bare version nodes figures)

pub length-printed : (version : Version) (nodes : List TreeNode) (figures : List NodeFigure) → length figures ≡ length nodes
    → length (printed_nodes version nodes figures) ≡ length nodes
unfolding printed_nodes
length-printed version [] figures long = refl
length-printed version (n ∷ nodes) [] long = absurd (omega (arith, long))
length-printed version (n ∷ nodes) (f ∷ figures) long = omega (arith, length-printed version nodes figures (omega (arith, long)))

-- the children that are told are those that are printed
pub told_children : (sinks : List Sink) (printed : List PrintedNode)
    → map tree_children (told_nodes sinks printed) ≡ map printed_children printed
told_children sinks [] = refl
told_children sinks (p ∷ printed) = ap₂ (λ c cs. c ∷ cs) (of_kind p.kind) (told_children sinks printed)
  where
    of_kind : (kind : PrintedKind) → children_of (told_kind sinks kind) ≡ children_of_kind kind
    of_kind (sink_leaf id) = refl
    of_kind (pair_node left right buffer residue) = refl
