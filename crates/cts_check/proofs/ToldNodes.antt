-- The told tree, node by node: what a report prints is what the types of the code hold.
use Rattle.std.proofs.Common.{◌≡◌, ℕ, ◌+◌, ◌*◌, ◌/◌, ◌<◌, ℤ, List, [], ◌∷◌, ◌++◌, map, take, set, get_or, length, refl, sym, ap, ap₂, ◌∙◌, arith}
use Rattle.std.proofs.Math.Seq.{map-set_same}
use Rattle.std.proofs.lemmas.List.{map-append, take_more}
use Rattle.std.specs.Prelude.{pos, ◌≤ℤ◌, unsigned_abs}
use Rattle.std.specs.List.{All}
use Rattle.std.proofs.lemmas.List.Elements.{All-head, All-tail}
use Rattle.std.proofs.lemmas.Int.{ints}
use Rattle.cts_geom.specs.declared.points.Half.{Half}
use Rattle.cts_geom.specs.declared.points.Spot.{Spot}
use Rattle.cts_units.specs.declared.params.Sink.{Sink}
use Rattle.cts_tree.specs.declared.nodes.NodeKind.{NodeKind}
use Rattle.cts_tree.specs.declared.nodes.TreeNode.{TreeNode}
use Rattle.cts_report_reader.specs.declared.node.ReportNode.{ReportNode}
use Rattle.cts_report_reader.specs.Nodes.{seen_kind, seen_node}
use Rattle.cts_report_reader.specs.Seen.{IsSeen, seen_point}
use Rattle.cts_check.specs.Claims.{claim_seen, claims_seen}
use Rattle.cts_check.specs.Told.{told_point, told_place, told_kind, told_node}

pub half_same : (p q : Half) → p.x ≡ q.x → p.y ≡ q.y → p ≡ q
half_same p q x y =
    ap (λ (v : ℤ). let h : Half = record { x = v; y = p.y } in h) x
    ∙ ap (λ (v : ℤ). let h : Half = record { x = q.x; y = v } in h) y

-- a coordinate is told back
coordinate_again : (x : ℤ) → pos 0 ≤ℤ x → pos (5 * unsigned_abs x / 5) ≡ x
coordinate_again x h = grind (arith, ints, h)

pub point_again : (p : Half) → IsSeen p → told_point (seen_point p) ≡ p
point_again p seen =
    half_same (told_point (seen_point p)) p (coordinate_again p.x (seen.x.0)) (coordinate_again p.y (seen.y.0))

pub corners_again : (ps : List Half) → All IsSeen ps → map told_point (map seen_point ps) ≡ ps
corners_again [] seen = refl
corners_again (p ∷ ps) seen =
    ap₂ (λ q qs. q ∷ qs) (point_again p (All-head IsSeen p ps seen)) (corners_again ps (All-tail IsSeen p ps seen))

-- a node of these parts is the one that is told
pub node_again : (sinks : List Sink) (node : ReportNode) (kind : NodeKind) (place : Spot) (wire : ℕ) → All IsSeen node.corners
    → kind ≡ told_kind sinks (seen_kind node.kind) → place ≡ told_place (seen_point node.place) → wire ≡ node.wire
    → ◌≡◌ {A = TreeNode} (record { kind = kind; place = place; wire = wire; route = record { corners = node.corners; length = 0 } })
    (told_node sinks (seen_node node))
node_again sinks node kind place wire seen kind_is place_is wire_is =
    let made : NodeKind → Spot → ℕ → List Half → TreeNode =
    λ k p w cs. record { kind = k; place = p; wire = w; route = record { corners = cs; length = 0 } } in
    ap (λ k. made k place wire node.corners) kind_is
    ∙ ap (λ p. made (told_kind sinks (seen_kind node.kind)) p wire node.corners) place_is
    ∙ ap (λ w. made (told_kind sinks (seen_kind node.kind)) (told_place (seen_point node.place)) w node.corners) wire_is
    ∙ ap (λ cs. made (told_kind sinks (seen_kind node.kind)) (told_place (seen_point node.place)) node.wire cs)
    (sym (corners_again node.corners seen))

-- the same of one that took over the corners
pub node_told : (sinks : List Sink) (node : ReportNode) (kind : NodeKind) (place : Spot) (wire : ℕ) (corners : List Half) → All IsSeen node.corners
    → kind ≡ told_kind sinks (seen_kind node.kind) → place ≡ told_place (seen_point node.place) → wire ≡ node.wire → corners ≡ node.corners
    → ◌≡◌ {A = TreeNode} (record { kind = kind; place = place; wire = wire; route = record { corners = corners; length = 0 } })
    (told_node sinks (seen_node node))
node_told sinks node kind place wire corners seen kind_is place_is wire_is corners_are =
    ap (λ (cs : List Half). let n : TreeNode = record { kind = kind; place = place; wire = wire; route = record { corners = cs; length = 0 } } in n) corners_are
    ∙ node_again sinks node kind place wire seen kind_is place_is wire_is

-- a node that was told keeps the figures of all
pub claims_kept : (now nodes : List ReportNode) (i : ℕ) (after d : ReportNode) → claim_seen after ≡ claim_seen (get_or now i d)
    → claims_seen now ≡ claims_seen nodes → claims_seen (set now i after) ≡ claims_seen nodes
claims_kept now nodes i after d same before = map-set_same claim_seen now i after d same ∙ before

-- one node more is told
pub told_more : (sinks : List Sink) (nodes : List ReportNode) (i : ℕ) (d : ReportNode) (told : TreeNode) → i < length nodes
    → told ≡ told_node sinks (seen_node (get_or nodes i d))
    → map (λ node. told_node sinks (seen_node node)) (take i nodes) ++ told ∷ [] ≡ map (λ node. told_node sinks (seen_node node)) (take (i + 1) nodes)
told_more sinks nodes i d told within is =
    let tell : ReportNode → TreeNode = λ node. told_node sinks (seen_node node) in
    ap (λ t. map tell (take i nodes) ++ t ∷ []) is ∙ sym (map-append tell (take i nodes) (get_or nodes i d ∷ []))
    ∙ sym (ap (map tell) (take_more nodes i d within))
