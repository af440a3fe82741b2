-- A shape has one placed tree, and no node that is cut where it has one.
use Rattle.std.proofs.Common.{◌≡◌, ℕ, List, [], ◌∷◌, slice_get, Option, Some, None, sym, ap, subst, ◌∙◌}
use Rattle.std.specs.List.{All, AllZip}
use Rattle.std.specs.Option.{is_some, MatchOption}
use Rattle.std.proofs.lemmas.List.Elements.{All-cons, All-nil}
use Rattle.cts_geom.specs.declared.points.Spot.{Spot}
use Rattle.cts_geom.specs.Points.{point_of, spot_at}
use Rattle.cts_geom.proofs.RegionLemmas.{nearest_one}
use Rattle.cts_units.specs.declared.params.Sink.{Sink}
use Rattle.cts_postorder.specs.BinaryTree.{BinaryTree, label}
use Rattle.cts_postorder.specs.Occurrence.{Occurrence, occurrences_of}
use Rattle.cts_postorder.proofs.Zips.{all_zip-one}
use Rattle.cts_postorder.proofs.Failures.{none_greatest, greatest_failure_unique}
use Rattle.cts_tree.specs.declared.nodes.NodeKind.{NodeKind}
use Rattle.cts_tree.specs.declared.nodes.TreeNode.{TreeNode}
use Rattle.cts_tree.specs.declared.route.Route.{Route}
use Rattle.cts_route.specs.Routes.{IsRoute, IsCut}
use Rattle.cts_route.proofs.Unique.{route_one, route_not_cut}
use Rattle.cts_instance.specs.declared.parts.Parts.{Parts}
use Rattle.cts_topo.specs.declared.shape.ShapeNode.{ShapeNode}
use Rattle.cts_topo.specs.declared.shape.ShapeNode.TheVariants.{Leaf, Pair}
use Rattle.cts_topo.specs.Shape.{children}
use Rattle.cts_merge.specs.declared.side.Finished.{Finished}
use Rattle.cts_up.proofs.Unique.{finished_one}
use Rattle.cts_block.specs.NearestFree.{IsNearestFree}
use Rattle.cts_embed.specs.Places.{IsNodePlace, IsPairPlace, IsPlaceBelow, IsRouteStart, kind_of}
use Rattle.cts_embed.specs.PlacedTree.{IsPlacedNode, IsPlacedFrom, IsCutNode}
use Rattle.cts_embed.specs.Laws.{PlacedTreeIsOne, PlacedIsNotCut, GreatestCutIsOne}
use Rattle.cts_embed.proofs.FreePlaces.{nearest_free_one}

leaf_one : (sink : Option Sink) (p q : Spot) → MatchOption sink ⊥ (λ s. p ≡ spot_at s.x s.y)
    → MatchOption sink ⊥ (λ s. q ≡ spot_at s.x s.y) → p ≡ q
leaf_one None p q hp hq = absurd hp
leaf_one (Some s) p q hp hq = hp ∙ sym hq

pair_one : (parts : Parts) (f : Finished) (from p q : Spot) → IsPairPlace parts f from p → IsPairPlace parts f from q → p ≡ q
pair_one parts f from p q hp hq =
    let first : hp.first ≡ hq.first =
    (nearest_one f.side.region from hp.first).0 hp.nearest ∙ sym ((nearest_one f.side.region from hq.first).0 hq.nearest) in
    nearest_free_one parts.blocks parts.die (is_some f.buffer) hq.first p q
    (subst (λ at. IsNearestFree parts.blocks parts.die (is_some f.buffer) at p) first hp.moved) hq.moved

node_place_one : (parts : Parts) (n : ShapeNode) (f : Finished) (from p q : Spot) → IsNodePlace parts n f from p
    → IsNodePlace parts n f from q → p ≡ q
unfolding IsNodePlace
node_place_one parts (Leaf s) f from p q hp hq = leaf_one (slice_get parts.sinks s) p q hp hq
node_place_one parts (Pair l r) f from p q hp hq = pair_one parts f from p q hp hq

-- a place by a plan and a start under other names
moved : (parts : Parts) (n : ShapeNode) (f g : Finished) (from start p : Spot) → f ≡ g → from ≡ start → IsNodePlace parts n f from p
    → IsNodePlace parts n g start p
moved parts n f g from start p same same_start is =
    subst (λ (x : Finished). IsNodePlace parts n x start p) same (subst (λ (x : Spot). IsNodePlace parts n f x p) same_start is)

below_one : (parts : Parts) (from start : Spot) (t : BinaryTree ShapeNode) (p q : Spot) → from ≡ start → IsPlaceBelow parts from t p
    → IsPlaceBelow parts start t q → p ≡ q
below_one parts from start t p q same hp hq =
    let node : hp.node ≡ hq.node = finished_one parts.params parts.sinks t hp.node hq.node hp.finished hq.finished in
    node_place_one parts (label t) hq.node start p q (moved parts (label t) hp.node hq.node from start p node same hp.is_place) hq.is_place

pub start_one : (parts : Parts) (up : List (BinaryTree ShapeNode)) (p q : Spot) → IsRouteStart parts up p → IsRouteStart parts up q → p ≡ q
unfolding IsRouteStart
start_one parts [] p q hp hq = hp ∙ sym hq
start_one parts (pair ∷ up) p q hp hq =
    below_one parts hp.0 hq.0 pair p q (start_one parts up hp.0 hq.0 hp.1 hq.1) hp.2 hq.2

placed_node_same : (p q : TreeNode) → p.kind ≡ q.kind → p.place ≡ q.place → p.wire ≡ q.wire → p.route ≡ q.route → p ≡ q
placed_node_same p q kind place wire route =
    let with_kind : NodeKind → TreeNode = λ x. record p { kind = x } in
    let with_place : Spot → TreeNode = λ x. record p { kind = q.kind; place = x } in
    let with_wire : ℕ → TreeNode = λ x. record { kind = q.kind; place = q.place; wire = x; route = p.route } in
    let with_route : Route → TreeNode = λ x. record q { route = x } in
    ap with_kind kind ∙ ap with_place place ∙ ap with_wire wire ∙ ap with_route route

-- nodes that are placed from one start
placed_from_one : (parts : Parts) (n : ShapeNode) (f g : Finished) (from start : Spot) (p q : TreeNode) → f ≡ g → from ≡ start
    → IsPlacedFrom parts n f from p → IsPlacedFrom parts n g start q → p ≡ q
placed_from_one parts n f g from start p q same same_start hp hq =
    let kinds : Some p.kind ≡ Some q.kind =
    sym hp.kind ∙ ap (λ (x : Finished). kind_of parts.sinks n x.buffer) same ∙ hq.kind in
    let place : p.place ≡ q.place =
    node_place_one parts n g start p.place q.place (moved parts n f g from start p.place same same_start hp.place) hq.place in
    let route : IsRoute parts.blocks parts.die (point_of start) (point_of q.place) p.route =
    subst (λ (x : Spot). IsRoute parts.blocks parts.die (point_of x) (point_of q.place) p.route) same_start
    (subst (λ (x : Spot). IsRoute parts.blocks parts.die (point_of from) (point_of x) p.route) place hp.route) in
    placed_node_same p q (let named = kinds in cc) place (hp.wire ∙ sym hq.wire)
    (route_one parts.blocks parts.die (point_of start) (point_of q.place) p.route q.route route hq.route)

placed_node_one : (parts : Parts) (o : Occurrence ShapeNode) (p q : TreeNode) → IsPlacedNode parts o p → IsPlacedNode parts o q → p ≡ q
placed_node_one parts o p q hp hq =
    placed_from_one parts (label o.here) hp.finished hq.finished hp.from hq.from p q
    (finished_one parts.params parts.sinks o.here hp.finished hq.finished hp.made hq.made)
    (start_one parts o.above hp.from hq.from hp.start hq.start) hp.placed hq.placed

node_not_cut : (parts : Parts) (o : Occurrence ShapeNode) (p : TreeNode) → IsPlacedNode parts o p → ¬ IsCutNode parts o
node_not_cut parts o p hp cut =
    let same : cut.finished ≡ hp.finished = finished_one parts.params parts.sinks o.here cut.finished hp.finished cut.made hp.made in
    let start : cut.from ≡ hp.from = start_one parts o.above cut.from hp.from cut.start hp.start in
    let place : cut.cut.place ≡ p.place =
    node_place_one parts (label o.here) hp.finished hp.from cut.cut.place p.place
    (moved parts (label o.here) cut.finished hp.finished cut.from hp.from cut.cut.place same start cut.cut.is_place) hp.placed.place in
    let is_cut : IsCut parts.blocks parts.die (point_of hp.from) (point_of p.place) =
    subst (λ (x : Spot). IsCut parts.blocks parts.die (point_of x) (point_of p.place)) start
    (subst (λ (x : Spot). IsCut parts.blocks parts.die (point_of cut.from) (point_of x)) place cut.cut.cut) in
    route_not_cut parts.blocks parts.die (point_of hp.from) (point_of p.place) p.route hp.placed.route is_cut

pub placed_tree_one : PlacedTreeIsOne
placed_tree_one parts shape placed other p q =
    all_zip-one (IsPlacedNode parts) (λ o m n. placed_node_one parts o m n) (occurrences_of children shape) placed other p q

pub none_cut : (parts : Parts) (os : List (Occurrence ShapeNode)) (placed : List TreeNode) → AllZip (IsPlacedNode parts) os placed
    → All (λ o. ¬ IsCutNode parts o) os
none_cut parts [] placed all = All-nil _
none_cut parts (o ∷ os) [] all = absurd all
none_cut parts (o ∷ os) (p ∷ placed) all =
    All-cons (λ x. ¬ IsCutNode parts x) o os (node_not_cut parts o p (all.0)) (none_cut parts os placed (all.1))

pub placed_not_cut : PlacedIsNotCut
placed_not_cut parts shape placed k p cut =
    none_greatest children shape (IsCutNode parts) k (none_cut parts (occurrences_of children shape) placed p) cut

pub greatest_cut_one : GreatestCutIsOne
greatest_cut_one parts shape j k p q = greatest_failure_unique children shape (IsCutNode parts) j k p q
