-- Placed nodes that get the lengths of their wires, and are as they were otherwise.
use Rattle.std.proofs.Common.{◌≡◌, ℕ, ◌<◌, List, map, set, length, get_or, refl, sym, ap, ◌∙◌, arith}
use Rattle.std.proofs.lemmas.List.{get_or-map, length-map, map-set}
use Rattle.std.proofs.Math.Seq.{map-set_same}
use Rattle.cts_tree.specs.declared.nodes.NodeKind.{NodeKind}
use Rattle.cts_tree.specs.declared.nodes.TreeNode.{TreeNode}
use Rattle.cts_tree.specs.declared.route.Route.{Route}
use Rattle.cts_geom.specs.declared.points.Spot.{Spot}

-- a node with a wire of this length
abbrev pub with_wire : TreeNode → ℕ → TreeNode
with_wire node len = record node { wire = len }

abbrev pub without_wire : TreeNode → TreeNode
without_wire node = with_wire node 0

-- two nodes that are the same but for their wires
pub same_but_wire : (p q : TreeNode) → p.kind ≡ q.kind → p.place ≡ q.place → p.route ≡ q.route
    → without_wire p ≡ without_wire q
same_but_wire p q kind place route =
    let with_kind : NodeKind → TreeNode = λ x. record { kind = x; place = p.place; wire = 0; route = p.route } in
    let with_place : Spot → TreeNode = λ x. record { kind = q.kind; place = x; wire = 0; route = p.route } in
    let with_route : Route → TreeNode = λ x. record { kind = q.kind; place = q.place; wire = 0; route = x } in
    ap with_kind kind ∙ ap with_place place ∙ ap with_route route

-- the lengths of the wires of the nodes
abbrev pub wires_of : List TreeNode → List ℕ
wires_of nodes = map (λ (node : TreeNode). node.wire) nodes

-- the nodes are the placed ones, but for the lengths of their wires
abbrev pub AreSameButWires : List TreeNode → List TreeNode → Type 0
AreSameButWires placed nodes = map without_wire nodes ≡ map without_wire placed

-- a wire that is set
pub wires_of-set : (nodes : List TreeNode) (k : ℕ) (node : TreeNode) (len : ℕ)
    → wires_of (set nodes k (with_wire node len)) ≡ set (wires_of nodes) k len
wires_of-set nodes k node len = map-set (λ (n : TreeNode). n.wire) nodes k (with_wire node len)

module _ (placed nodes : List TreeNode) (same : AreSameButWires placed nodes) where
  pub same_set : (k : ℕ) (d : TreeNode) (len : ℕ) → AreSameButWires placed (set nodes k (with_wire (get_or nodes k d) len))
  same_set k d len = map-set_same without_wire nodes k (with_wire (get_or nodes k d) len) d refl ∙ same

  pub same_long : length nodes ≡ length placed
  same_long = sym (length-map nodes without_wire) ∙ ap length same ∙ length-map placed without_wire

  module _ (k : ℕ) (d : TreeNode) (h : k < length placed) where
    same_node : without_wire (get_or nodes k d) ≡ without_wire (get_or placed k d)
    same_node =
        let within : k < length nodes = omega (arith, same_long) in
        sym (get_or-map without_wire nodes k d d within) ∙ ap (λ ns. get_or ns k d) same
        ∙ get_or-map without_wire placed k d d h

    pub same_kind : (get_or nodes k d).kind ≡ (get_or placed k d).kind
    same_kind = ap (λ (n : TreeNode). n.kind) same_node

    pub kind_read : (kind : NodeKind) → (get_or nodes k d).kind ≡ kind → (get_or placed k d).kind ≡ kind
    kind_read kind is = sym same_kind ∙ is

    pub same_route : (get_or nodes k d).route.length ≡ (get_or placed k d).route.length
    same_route = ap (λ (n : TreeNode). n.route.length) same_node
