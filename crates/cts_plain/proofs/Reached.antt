-- In the tree of a shape each sink is reached once and at its place, and its nodes name what the instance has.
use Rattle.std.proofs.Common.{◌≡◌, ℕ, ◌≤◌, ◌==◌, inl, inr, List, [], ◌∷◌, map, length, get_or, slice_get, filter_map, count_by, Option, Some, None, MatchOption, refl, sym, ap, subst, ◌∙◌, arith}
use Rattle.std.specs.List.{AllZip, cons_option}
use Rattle.std.specs.Option.{option_map}
use Rattle.cts_geom.specs.Points.{spot_at}
use Rattle.cts_geom.specs.declared.points.Spot.{Spot}
use Rattle.cts_units.specs.declared.params.Sink.{Sink}
use Rattle.cts_units.specs.declared.params.Params.{Params}
use Rattle.cts_postorder.specs.BinaryTree.{BinaryTree, tip, fork, label}
use Rattle.cts_postorder.specs.PostOrder.{IsPostOrder}
use Rattle.cts_postorder.specs.Occurrence.{Occurrence, occurrences_of}
use Rattle.cts_postorder.proofs.Zips.{all_zip-map_left, all_zip-weaker, all_zip-all}
use Rattle.cts_postorder.proofs.Alike.{map-node-occurrences_of, all_zip-then}
use Rattle.cts_tree.specs.declared.nodes.TreeNode.{TreeNode}
use Rattle.cts_tree.specs.Nodes.{tree_children, leaf_id}
use Rattle.cts_instance.specs.declared.parts.Parts.{Parts}
use Rattle.cts_instance.specs.Validity.{IsValid}
use Rattle.cts_topo.specs.declared.shape.ShapeNode.{ShapeNode}
use Rattle.cts_topo.specs.declared.shape.ShapeNode.TheVariants.{Leaf, Pair}
use Rattle.cts_topo.specs.Shape.{children, leaf_sink, leaf_sinks, IsShapeOver}
use Rattle.cts_merge.specs.declared.side.Finished.{Finished}
use Rattle.cts_embed.specs.Places.{IsNodePlace}
use Rattle.cts_embed.specs.PlacedTree.{IsPlacedNode, IsPlacedTree}
use Rattle.cts_embed.specs.declared.node.NodeBalance.{NodeBalance}
use Rattle.cts_embed.specs.Balance.{IsBalance}
use Rattle.cts_embed.specs.BalancedTree.{IsBalancedNode, IsBalancedTree, IsWireLength}
use Rattle.cts_elmore.specs.Sound.{IsSinkAt, ReachesEachSinkOnce, leaf_ids}
use Rattle.cts_plain.proofs.SinksOnce.{stands_by, id_by, ids_once}

-- what a placed node keeps in the balance
pub record Keeps (m : TreeNode) (n : TreeNode) : Type 0 where
  pub kind : n.kind ≡ m.kind
  pub place : n.place ≡ m.place
  pub route : n.route ≡ m.route
  pub no_shorter : m.route.length ≤ n.wire

-- a wire is as long as its route at least
long_enough : (params : Params) (sinks : List Sink) (l r : BinaryTree TreeNode) (n : TreeNode) (p : NodeBalance)
    → IsBalance params sinks (fork l r n) p
    → ((label l).route.length ≤ p.left_wire) × ((label r).route.length ≤ p.right_wire)
unfolding IsBalance
long_enough params sinks l r n p h =
    elim h.4.wires.admissible [
      | inl first ↦ (omega (arith, first.0), omega (arith, first.1))
      | inr second ↦ (omega (arith, second.1), omega (arith, second.0))
    ]

wire_covers : (i : Parts) (up : List (BinaryTree TreeNode)) (t : BinaryTree TreeNode) (len : ℕ) → IsWireLength i up t len
    → (label t).route.length ≤ len
unfolding IsWireLength
wire_covers i [] t len is = omega (arith, is)
wire_covers i (tip n ∷ up) t len is = absurd is
wire_covers i (fork l r n ∷ up) t len is =
    let both = long_enough i.params i.sinks l r n is.0 is.1 in
    elim is.2 [
      | inl left ↦ omega (arith, both.0, left.1, ap (λ (x : BinaryTree TreeNode). (label x).route.length) left.0)
      | inr right ↦ omega (arith, both.1, right.1, ap (λ (x : BinaryTree TreeNode). (label x).route.length) right.0)
    ]

module _ (i : Parts) where
  -- a node of the tree, and the place of the shape that it was made of
  abbrev pub IsMadeOf : Occurrence ShapeNode → TreeNode → Type 0
  IsMadeOf o n = (m : TreeNode) × IsPlacedNode i o m × Keeps m n

  pub kept : (placed : List TreeNode) → IsPostOrder (map tree_children placed) → (tree : List TreeNode)
      → IsBalancedTree i placed tree → AllZip Keeps placed tree
  kept placed ok tree balanced =
      subst (λ ms. AllZip Keeps ms tree) (map-node-occurrences_of tree_children placed ok)
      (all_zip-map_left Keeps (λ (o : Occurrence TreeNode). label o.here) (occurrences_of tree_children placed) tree
      (all_zip-weaker (IsBalancedNode i) (λ o n. Keeps (label o.here) n) (λ o n is. record {
        kind = is.kind;
        place = is.place;
        route = is.route;
        no_shorter = wire_covers i o.above o.here n.wire is.wire;
      })
      (occurrences_of tree_children placed) tree balanced.nodes))

  leaf_place : (n : ShapeNode) (finished : Finished) (from place : Spot) → IsNodePlace i n finished from place
      → (s : ℕ) (sink : Sink) → n ≡ Leaf s → slice_get i.sinks s ≡ Some sink → place ≡ spot_at sink.x sink.y
  unfolding IsNodePlace
  leaf_place (Leaf t) finished from place is s sink named found =
      let same : t ≡ s = cc in
      let at : slice_get i.sinks t ≡ Some sink = ap (slice_get i.sinks) same ∙ found in
      subst (λ (o : Option Sink). MatchOption o ⊥ (λ (q : Sink). place ≡ spot_at q.x q.y)) at is
  leaf_place (Pair left right) finished from place is s sink named found = absurd cc

  -- each node of the tree by itself
  stands : (o : Occurrence ShapeNode) (n : TreeNode) → IsMadeOf o n
      → MatchOption (leaf_id n.kind) (Unit {0}) (IsSinkAt i.sinks n)
  stands o n (m, is, keeps) =
      stands_by i.sinks (label o.here) is.finished.buffer n (is.placed.kind ∙ ap Some (sym keeps.kind))
      (λ s sink named found. keeps.place ∙ leaf_place (label o.here) is.finished is.from m.place is.placed.place s sink named found)

  -- one more leaf, or none
  ids_more : (d : Sink) (named id : Option ℕ) (ids places : List ℕ) → id ≡ option_map (λ s. (get_or i.sinks s d).id) named
      → ids ≡ map (λ s. (get_or i.sinks s d).id) places
      → cons_option id ids ≡ map (λ s. (get_or i.sinks s d).id) (cons_option named places)
  ids_more d None id ids places is rest = ap (λ (v : Option ℕ). cons_option v ids) is ∙ rest
  ids_more d (Some s) id ids places is rest =
      ap (λ (v : Option ℕ). cons_option v ids) is ∙ ap (λ l. (get_or i.sinks s d).id ∷ l) rest

  -- the ids of the leaves
  ids_are : (d : Sink) (os : List (Occurrence ShapeNode)) (tree : List TreeNode) → AllZip IsMadeOf os tree
      → leaf_ids tree ≡ map (λ s. (get_or i.sinks s d).id) (filter_map (λ (o : Occurrence ShapeNode). leaf_sink (label o.here)) os)
  ids_are d [] [] all = refl
  ids_are d [] (n ∷ tree) all = absurd all
  ids_are d (o ∷ os) [] all = absurd all
  ids_are d (o ∷ os) (n ∷ tree) ((m, is, keeps), rest) =
      ids_more d (leaf_sink (label o.here)) (leaf_id n.kind) (leaf_ids tree)
      (filter_map (λ (q : Occurrence ShapeNode). leaf_sink (label q.here)) os)
      (id_by i.sinks (label o.here) is.finished.buffer n.kind d (is.placed.kind ∙ ap Some (sym keeps.kind)))
      (ids_are d os tree rest)

  filter_map-map : {A B : Type 0} (f : A → B) (g : B → Option ℕ) (xs : List A)
      → filter_map (λ x. g (f x)) xs ≡ filter_map g (map f xs)
  filter_map-map f g [] = refl
  filter_map-map f g (x ∷ xs) = ap (cons_option (g (f x))) (filter_map-map f g xs)

  module _ (valid : IsValid i) (shape : List ShapeNode) (over : IsShapeOver (length i.sinks) shape)
      (placed : List TreeNode) (ok : IsPostOrder (map tree_children placed)) (all : IsPlacedTree i shape placed)
      (tree : List TreeNode) (balanced : IsBalancedTree i placed tree) where
    pub made : AllZip IsMadeOf (occurrences_of children shape) tree
    made =
        all_zip-then (IsPlacedNode i) Keeps (occurrences_of children shape) placed tree all (kept placed ok tree balanced)

    leaves_are : filter_map (λ (o : Occurrence ShapeNode). leaf_sink (label o.here)) (occurrences_of children shape) ≡ leaf_sinks shape
    leaves_are =
        filter_map-map (λ (o : Occurrence ShapeNode). label o.here) leaf_sink (occurrences_of children shape)
        ∙ ap (filter_map leaf_sink) (map-node-occurrences_of children shape over.post_order)

    pub reaches : ReachesEachSinkOnce i.sinks tree
    reaches = record {
      leaves = all_zip-all IsMadeOf (λ n. MatchOption (leaf_id n.kind) (Unit {0}) (IsSinkAt i.sinks n)) stands
          (occurrences_of children shape) tree made;
      once = λ k d h.
          ap (count_by (λ id. id == (get_or i.sinks k d).id))
          (ids_are d (occurrences_of children shape) tree made
          ∙ ap (map (λ s. (get_or i.sinks s d).id)) leaves_are)
          ∙ ids_once i.sinks valid.ids (leaf_sinks shape) over.within over.once d k h;
    }
