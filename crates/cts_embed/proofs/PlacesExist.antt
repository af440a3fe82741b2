-- Every shape with a plan has a placed tree or a node that is cut.
use Rattle.std.proofs.Common.{◌≡◌, ℕ, ◌+◌, ◌-◌, ◌⊎◌, inl, inr, pos, List, [], ◌∷◌, ◌++◌, length, get_or, Some, refl, sym, ap, subst}
use Rattle.std.specs.List.{All, AllZip}
use Rattle.std.specs.Option.{is_some, option_map, MatchOption}
use Rattle.std.proofs.lemmas.Option.{slice_get_within, get_or_from_slice_get}
use Rattle.cts_geom.specs.declared.points.Spot.{Spot}
use Rattle.cts_geom.specs.Points.{spot_at}
use Rattle.cts_geom.specs.Regions.{nearest_of}
use Rattle.cts_geom.proofs.RegionLemmas.{nearest_one}
use Rattle.cts_block.specs.NearestFree.{LiesIn}
use Rattle.cts_block.proofs.LawLemmas.{some_nearest_free}
use Rattle.cts_postorder.specs.BinaryTree.{BinaryTree, tip, fork, label, size, IsNumbered}
use Rattle.cts_postorder.specs.Occurrence.{Occurrence, occurrence, occurrences}
use Rattle.cts_postorder.specs.PostOrder.{trees_of, root_of}
use Rattle.cts_postorder.proofs.Lists.{Whole, whole_of}
use Rattle.cts_postorder.proofs.Zips.{all_zip-append, all_zip-at}
use Rattle.cts_tree.specs.declared.nodes.NodeKind.{NodeKind}
use Rattle.cts_tree.specs.declared.nodes.NodeKind.TheVariants as kinds
use Rattle.cts_tree.specs.declared.nodes.TreeNode.{TreeNode}
use Rattle.cts_route.proofs.Exists.{route_or_cut}
use Rattle.cts_instance.specs.declared.parts.Parts.{Parts}
use Rattle.cts_instance.specs.Validity.{IsBlock, IsValid}
use Rattle.cts_topo.specs.declared.shape.ShapeNode.{ShapeNode}
use Rattle.cts_topo.specs.declared.shape.ShapeNode.TheVariants.{Leaf, Pair}
use Rattle.cts_topo.specs.Shape.{children}
use Rattle.cts_merge.specs.declared.side.Finished.{Finished}
use Rattle.cts_merge.proofs.Exists.{sink_leaf}
use Rattle.cts_up.specs.Plan.{IsFinished, IsPlan}
use Rattle.cts_up.proofs.Leaves.{LeafOf, leaf_of}
use Rattle.cts_embed.specs.Places.{IsNodePlace, IsPairPlace, IsRouteStart, kind_of, source_of}
use Rattle.cts_embed.specs.PlacedTree.{IsCutFrom, IsCutNode, IsPlacedFrom, IsPlacedNode}
use Rattle.cts_embed.specs.Laws.{PlansArePlacedOrCut}
use Rattle.cts_embed.proofs.OnePlace.{none_cut}
use Rattle.cts_embed.proofs.Splits.{HasLast, last_stays, last_earlier, last_at_end, greatest_of_last}

module _ (parts : Parts) (valid : IsValid parts) where
  -- ---- one node
  blocks_in_die : All (LiesIn parts.die) parts.blocks
  blocks_in_die = λ k d h.
      let b : IsBlock parts.die (get_or parts.blocks k d) = valid.blocks k d h in
      record { from = b.from; to = b.to }

  pair_place : (f : Finished) (from : Spot) → (place : Spot) × IsPairPlace parts f from place
  pair_place f from =
      let first : Spot = nearest_of f.side.region from in
      let moved = some_nearest_free parts.blocks parts.die (is_some f.buffer) first valid.die.x_order valid.die.y_order blocks_in_die in
      (moved.0, record { first = first; nearest = (nearest_one f.side.region from first).1 refl; moved = moved.1 })

  -- what a node is and where it stands
  record CanStand (n : ShapeNode) (f : Finished) (from : Spot) : Type 0 where
    kind : NodeKind
    is_kind : kind_of parts.sinks n f.buffer ≡ Some kind
    place : Spot
    is_place : IsNodePlace parts n f from place

  leaf_stands : (n : ShapeNode) (f : Finished) (from : Spot) → LeafOf parts.sinks n f → CanStand n f from
  unfolding kind_of IsNodePlace
  leaf_stands (Leaf s) f from leaf = record {
    kind = kinds.Leaf leaf.sink.id s;
    is_kind = ap (option_map (λ x. kinds.Leaf x.id s)) leaf.named;
    place = spot_at leaf.sink.x leaf.sink.y;
    is_place = subst (λ o. MatchOption o ⊥ (λ x. spot_at leaf.sink.x leaf.sink.y ≡ spot_at x.x x.y)) (sym leaf.named) refl;
  }
  leaf_stands (Pair l r) f from leaf = let named = leaf.named in absurd (cc)

  pair_stands : (n : ShapeNode) (p : ℕ × ℕ) → children n ≡ Some p → (f : Finished) (from : Spot) → CanStand n f from
  unfolding kind_of IsNodePlace
  pair_stands (Leaf s) p kids f from = absurd (cc)
  pair_stands (Pair l r) p kids f from =
      let at : (place : Spot) × IsPairPlace parts f from place = pair_place f from in
      record { kind = kinds.Pair l r f.buffer; is_kind = refl; place = at.0; is_place = at.1 }

  stands : (offset : ℕ) (t : BinaryTree ShapeNode) → IsNumbered children offset t → (f : Finished) → IsFinished parts.params parts.sinks t f
      → (from : Spot) → CanStand (label t) f from
  unfolding IsFinished IsNumbered label
  stands offset (tip n) numbered f made from = leaf_stands n f from (leaf_of parts.sinks n f made)
  stands offset (fork l r n) numbered f made from = pair_stands n _ numbered.2 f from

  placed_or_cut : (n : ShapeNode) (f : Finished) (from : Spot) → CanStand n f from
      → ((node : TreeNode) × IsPlacedFrom parts n f from node) ⊎ IsCutFrom parts n f from
  placed_or_cut n f from at =
      elim (route_or_cut parts.blocks parts.die from at.place) [
        | inl route ↦
            inl (
              record { kind = at.kind; place = at.place; wire = 0; route = route.0 },
              record { kind = at.is_kind; place = at.is_place; wire = refl; route = route.1 },
            )
        | inr cut ↦ inr (record { place = at.place; is_place = at.is_place; cut = cut })
      ]

  -- ---- all nodes, downward
  abbrev Cut : Occurrence ShapeNode → Type 0
  Cut o = IsCutNode parts o

  Places : List (Occurrence ShapeNode) → Type 0
  Places os = (placed : List TreeNode) × AllZip (IsPlacedNode parts) os placed

  one_placed : (o : Occurrence ShapeNode) (node : TreeNode) → IsPlacedNode parts o node → AllZip (IsPlacedNode parts) (o ∷ []) (node ∷ [])
  one_placed o node is = (is, tt)

  one_not_cut : (o : Occurrence ShapeNode) (node : TreeNode) → IsPlacedNode parts o node → All (λ x. ¬ Cut x) (o ∷ [])
  one_not_cut o node is = none_cut parts (o ∷ []) (node ∷ []) (is, tt)

  all_placed : (ls rs : List (Occurrence ShapeNode)) (o : Occurrence ShapeNode) (node : TreeNode) → Places ls → Places rs
      → IsPlacedNode parts o node → Places (ls ++ rs ++ o ∷ [])
  unfolding Places
  all_placed ls rs o node left right here = (
    left.0 ++ right.0 ++ node ∷ [],
    all_zip-append (IsPlacedNode parts) (ls ++ rs) (o ∷ []) (left.0 ++ right.0) (node ∷ [])
        (all_zip-append (IsPlacedNode parts) ls rs left.0 right.0 left.1 right.1) (one_placed o node here),
  )

  last_in_right : (ls rs : List (Occurrence ShapeNode)) (o : Occurrence ShapeNode) (node : TreeNode) → HasLast Cut rs
      → IsPlacedNode parts o node → HasLast Cut (ls ++ rs ++ o ∷ [])
  last_in_right ls rs o node cut here = last_earlier Cut (ls ++ rs) (o ∷ []) (last_stays Cut ls rs cut) (one_not_cut o node here)

  last_in_left : (ls rs : List (Occurrence ShapeNode)) (o : Occurrence ShapeNode) (node : TreeNode) → HasLast Cut ls → Places rs
      → IsPlacedNode parts o node → HasLast Cut (ls ++ rs ++ o ∷ [])
  unfolding Places
  last_in_left ls rs o node cut right here =
      last_earlier Cut (ls ++ rs) (o ∷ []) (last_earlier Cut ls rs cut (none_cut parts rs right.0 right.1)) (one_not_cut o node here)

  abbrev PlacedOrCut : List (BinaryTree ShapeNode) → BinaryTree ShapeNode → Type 0
  PlacedOrCut up t = Places (occurrences up t) ⊎ HasLast Cut (occurrences up t)

  places_or_cut : (up : List (BinaryTree ShapeNode)) (offset : ℕ) (t : BinaryTree ShapeNode) → IsNumbered children offset t
      → (from : Spot) → IsRouteStart parts up from → (f : Finished) → IsFinished parts.params parts.sinks t f → PlacedOrCut up t
  unfolding IsFinished IsNumbered IsRouteStart Places label occurrences
  places_or_cut up offset (tip n) numbered from start f made =
      let o : Occurrence ShapeNode = occurrence up (tip n) in
      elim (placed_or_cut n f from (stands offset (tip n) numbered f made from)) [
        | inl node ↦ inl (node.0 ∷ [], one_placed o node.0 (record { from = from; start = start; finished = f; made = made; placed = node.1 }))
        | inr cut ↦ inr (last_at_end Cut [] o (record { from = from; start = start; finished = f; made = made; cut = cut }))
      ]
  places_or_cut up offset (fork l r n) numbered from start f made =
      let t : BinaryTree ShapeNode = fork l r n in
      let o : Occurrence ShapeNode = occurrence up t in
      let ls : List (Occurrence ShapeNode) = occurrences (t ∷ up) l in
      let rs : List (Occurrence ShapeNode) = occurrences (t ∷ up) r in
      elim (placed_or_cut n f from (stands offset t numbered f made from)) [
        | inr cut ↦ inr (last_at_end Cut (ls ++ rs) o (record { from = from; start = start; finished = f; made = made; cut = cut }))
        | inl node ↦
            let here : IsPlacedNode parts o node.0 =
            record { from = from; start = start; finished = f; made = made; placed = node.1 } in
            let below : IsRouteStart parts (t ∷ up) node.0.place =
            (from, start, record { node = f; finished = made; is_place = node.1.place }) in
            elim (places_or_cut (t ∷ up) (offset + size l) r numbered.1 node.0.place below made.1 made.3) [
              | inr cut ↦ inr (last_in_right ls rs o node.0 cut here)
              | inl right ↦ elim (places_or_cut (t ∷ up) offset l numbered.0 node.0.place below made.0 made.2) [
                | inr cut ↦ inr (last_in_left ls rs o node.0 cut right here)
                | inl left ↦ inl (all_placed ls rs o node.0 left right here)
              ]
            ]
      ]

-- what the root is made of, by the plan
root_finished : (parts : Parts) (shape : List ShapeNode) (plan : List Finished) (t : BinaryTree ShapeNode) → IsPlan parts.params parts.sinks shape plan
    → root_of children shape ≡ Some t → (d : Finished) → IsFinished parts.params parts.sinks t (get_or plan (length shape - 1) d)
unfolding root_of
root_finished parts shape plan t is root d =
    let trees : List (BinaryTree ShapeNode) = trees_of children shape in
    let last : ℕ = length shape - 1 in
    subst (λ u. IsFinished parts.params parts.sinks u (get_or plan last d)) (get_or_from_slice_get trees last t t root)
    (all_zip-at (IsFinished parts.params parts.sinks) trees plan last t d is (slice_get_within trees last t root))

-- a value past the end of a plan
no_node : Finished
no_node = sink_leaf (record { id = 0; x = pos 0; y = pos 0; cap = 0; offset = 0 })

pub plan_placed_or_cut : PlansArePlacedOrCut
unfolding IsRouteStart Places
plan_placed_or_cut parts shape plan valid ok is =
    let w : Whole children shape = whole_of children shape ok in
    let made = root_finished parts shape plan w.tree is w.root_is no_node in
    elim (places_or_cut parts valid [] 0 w.tree w.numbered (source_of parts) refl (get_or plan (length shape - 1) no_node) made) [
      | inl places ↦ inl (places.0, subst (λ os. AllZip (IsPlacedNode parts) os places.0) (sym w.occurrences_are) places.1)
      | inr cut ↦ inr (greatest_of_last children shape (IsCutNode parts) (subst (HasLast (IsCutNode parts)) (sym w.occurrences_are) cut))
    ]
