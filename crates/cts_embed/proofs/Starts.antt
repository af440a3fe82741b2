-- Where routes start, handed down from each pair to its two parts, and the nodes that are placed from there.
use Rattle.std.proofs.Common.{◌≡◌, ℕ, ℤ, ◌+◌, ◌-◌, ◌<◌, ◌≤◌, List, [], ◌∷◌, ◌++◌, append_assoc, map, drop, length, get_or, slice_get, Option, Some, None, refl, sym, ap, subst, ◌∙◌, arith}
use Rattle.std.specs.List.{AllZip}
use Rattle.std.specs.Option.{MatchOption}
use Rattle.std.proofs.lemmas.Int.{ints}
use Rattle.std.proofs.lemmas.List.{drop_more, drop_all}
use Rattle.std.proofs.lemmas.Option.{get_or_from_slice_get, slice_get_within}
use Rattle.cts_geom.specs.declared.points.Spot.{Spot}
use Rattle.cts_geom.specs.Points.{IsSpotInRange, point_of, spot_at}
use Rattle.cts_block.specs.FreePoints.{IsHalfInDie}
use Rattle.cts_units.specs.declared.params.Sink.{Sink}
use Rattle.cts_postorder.specs.BinaryTree.{BinaryTree, tip, fork, label}
use Rattle.cts_postorder.specs.PostOrder.{IsPostOrder, trees_of}
use Rattle.cts_postorder.specs.Occurrence.{Occurrence, occurrence, occurrences, occurrences_of}
use Rattle.cts_postorder.proofs.Growth.{length-trees_of, label-tree}
use Rattle.cts_postorder.proofs.Sizes.{root_number-next}
use Rattle.cts_postorder.proofs.Places.{get_or-occurrences-root}
use Rattle.cts_postorder.proofs.Zips.{all_zip-at}
use Rattle.cts_postorder.proofs.Lists.{IsPair, is_pair, Whole, whole_of, length-occurrences_of, trees_of-here}
use Rattle.cts_postorder.proofs.Handed.{AreHanded, handed_at_start, some_handed, handed_here, handed_at_leaf, handed_at_pair}
use Rattle.cts_instance.specs.declared.parts.Parts.{Parts}
use Rattle.cts_block.specs.Places.{IsInDie}
use Rattle.cts_instance.specs.Validity.{IsValid, IsSink}
use Rattle.cts_topo.specs.declared.shape.ShapeNode.{ShapeNode}
use Rattle.cts_topo.specs.declared.shape.ShapeNode.TheVariants.{Leaf, Pair}
use Rattle.cts_topo.specs.Shape.{children}
use Rattle.cts_merge.specs.declared.side.Finished.{Finished}
use Rattle.cts_up.specs.Plan.{IsFinished, IsPlan}
use Rattle.cts_tree.specs.declared.nodes.TreeNode.{TreeNode}
use Rattle.cts_embed.specs.Places.{IsNodePlace, IsPlaceBelow, IsRouteStart, source_of}
use Rattle.cts_embed.specs.PlacedTree.{IsCutFrom, IsCutNode, IsPlacedFrom, IsPlacedNode}
use Rattle.cts_elmore.proofs.InDie.{in_die_in_range}
use Rattle.cts_embed.proofs.FreePlaces.{nearest_in_die}

-- a point of whole nm in the die
spot_in_die : (parts : Parts) (x y : ℤ) → IsInDie parts.die x y → IsHalfInDie parts.die (point_of (spot_at x y))
spot_in_die parts x y is = record {
  x = record { at_least = omega (arith, ints, is.west); at_most = omega (arith, ints, is.east) };
  y = record { at_least = omega (arith, ints, is.south); at_most = omega (arith, ints, is.north) };
}

-- every place lies in the die
pub place_in_die : (parts : Parts) (n : ShapeNode) (f : Finished) (from place : Spot) → IsValid parts → IsNodePlace parts n f from place
    → IsHalfInDie parts.die (point_of place)
unfolding IsNodePlace
place_in_die parts (Leaf s) f from place ok is = by_sink (slice_get parts.sinks s) refl is
  where
    by_sink : (o : Option Sink) → slice_get parts.sinks s ≡ o → MatchOption o ⊥ (λ x. place ≡ spot_at x.x x.y)
        → IsHalfInDie parts.die (point_of place)
    by_sink None e is = absurd is
    by_sink (Some sink) e is =
        let s_ok : IsSink parts.version parts.die sink =
        subst (IsSink parts.version parts.die) (get_or_from_slice_get parts.sinks s sink sink e)
        (ok.sinks s sink (slice_get_within parts.sinks s sink e)) in
        subst (λ q. IsHalfInDie parts.die (point_of q)) (sym is) (spot_in_die parts sink.x sink.y s_ok.in_die)
place_in_die parts (Pair l r) f from place ok is = nearest_in_die parts.blocks parts.die _ is.first place is.moved

pub start_in_die : (parts : Parts) (up : List (BinaryTree ShapeNode)) (from : Spot) → IsValid parts → IsRouteStart parts up from
    → IsHalfInDie parts.die (point_of from)
unfolding IsRouteStart
start_in_die parts [] from ok is =
    subst (λ q. IsHalfInDie parts.die (point_of q)) (sym is) (spot_in_die parts parts.source_x parts.source_y ok.source)
start_in_die parts (pair ∷ up) from ok is =
    place_in_die parts (label pair) is.2.node is.0 from ok is.2.is_place

pub placed_in_die : (parts : Parts) (n : ShapeNode) (f : Finished) (from : Spot) (node : TreeNode) → IsValid parts
    → IsPlacedFrom parts n f from node → IsHalfInDie parts.die (point_of node.place)
placed_in_die parts n f from node ok is = place_in_die parts n f from node.place ok is.place

-- where the route to the node of a number starts
abbrev pub IsStartAt : Parts → List ShapeNode → ℕ → Spot → Type 0
IsStartAt parts nodes number from =
    (o : Occurrence ShapeNode) → IsRouteStart parts (get_or (occurrences_of children nodes) number o).above from

-- in a pass that has come down to a number, the starts of the nodes before it whose pair is placed
abbrev pub AreStarts : Parts → List ShapeNode → ℕ → List Spot → Type 0
AreStarts parts nodes = AreHanded children nodes (IsStartAt parts nodes)

module _ (parts : Parts) (nodes : List ShapeNode) (ok : IsPostOrder (map children nodes)) where
  -- before the first step the root's start is the source
  pub starts_begin : (starts : List Spot) (source : Spot) → source ≡ source_of parts → starts ≡ source ∷ []
      → AreStarts parts nodes (length nodes) starts
  unfolding IsRouteStart
  starts_begin starts source source_is are =
      subst (AreStarts parts nodes (length nodes)) (sym are)
      (handed_at_start children nodes ok (IsStartAt parts nodes) (label w.tree) source
      (λ o. subst (λ (q : Occurrence ShapeNode). IsRouteStart parts q.above source) (sym (at_last o)) source_is))
    where
      w : Whole children nodes
      w = whole_of children nodes ok

      at_last : (o : Occurrence ShapeNode) → get_or (occurrences_of children nodes) (length nodes - 1) o ≡ occurrence [] w.tree
      at_last o =
          ap (λ os. get_or os (length nodes - 1) o) w.occurrences_are
          ∙ ap (λ k. get_or (occurrences [] w.tree) k o) (omega (arith, root_number-next 0 w.tree, w.size_is))
          ∙ get_or-occurrences-root [] w.tree o

  label_here : (k : ℕ) (o : Occurrence ShapeNode) (e : ShapeNode) → k < length nodes
      → label (get_or (occurrences_of children nodes) k o).here ≡ get_or nodes k e
  label_here k o e h =
      ap label (sym (trees_of-here children nodes ok k (tip e) o h))
      ∙ label-tree children nodes k (tip e) e h

  -- by the number that a loop counts down from
  module _ (number : ℕ) (some : 0 < number) (within : number ≤ length nodes) (starts : List Spot)
      (handed : AreStarts parts nodes number starts) where
    inside : number - 1 < length nodes
    inside = omega arith

    next : number - 1 + 1 ≡ number
    next = omega arith

    handed_next : AreStarts parts nodes (number - 1 + 1) starts
    handed_next = subst (λ n. AreStarts parts nodes n starts) (sym next) handed

    -- there is a start for this node
    pub some_start : 0 < length starts
    some_start =
        some_handed children nodes ok (IsStartAt parts nodes) (number - 1) (Leaf 0) inside starts handed_next

    module _ (rest : List Spot) (from : Spot) (starts_are : starts ≡ rest ++ from ∷ []) where
      start_here : IsStartAt parts nodes (number - 1) from
      start_here =
          handed_here children nodes ok (IsStartAt parts nodes) (number - 1) (Leaf 0) inside starts handed_next rest from starts_are

      pub from_in_range : IsValid parts → IsSpotInRange from
      from_in_range valid =
          in_die_in_range parts.die from valid.die
          (start_in_die parts (get_or (occurrences_of children nodes) (number - 1) none).above from valid (start_here none))
        where
          none : Occurrence ShapeNode
          none = record { above = []; here = tip (Leaf 0) }

      -- a leaf leaves the others
      pub starts_at_leaf : (e : ShapeNode) (s : ℕ) → get_or nodes (number - 1) e ≡ Leaf s → AreStarts parts nodes (number - 1) rest
      starts_at_leaf e s here =
          handed_at_leaf children nodes ok (IsStartAt parts nodes) (number - 1) e inside starts handed_next rest from starts_are
          (ap children here)

      -- the node that is placed from there, by what is finished of it
      module _ (plan : List Finished) (all : IsPlan parts.params parts.sinks nodes plan) (e : ShapeNode) (f : Finished)
          (f_is : f ≡ get_or plan (number - 1) f) where
        made_here : (o : Occurrence ShapeNode)
            → IsFinished parts.params parts.sinks (get_or (occurrences_of children nodes) (number - 1) o).here f
        made_here o =
            subst (λ t. IsFinished parts.params parts.sinks t f) (trees_of-here children nodes ok (number - 1) o.here o inside)
            (subst (IsFinished parts.params parts.sinks (get_or (trees_of children nodes) (number - 1) o.here)) (sym f_is)
            (all_zip-at (IsFinished parts.params parts.sinks) (trees_of children nodes) plan (number - 1) o.here f all
            (omega (arith, inside, length-trees_of children nodes))))

        pub cut_here : (o : Occurrence ShapeNode) → IsCutFrom parts (get_or nodes (number - 1) e) f from
            → IsCutNode parts (get_or (occurrences_of children nodes) (number - 1) o)
        cut_here o cut = record {
          from = from;
          start = start_here o;
          finished = f;
          made = made_here o;
          cut = subst (λ n. IsCutFrom parts n f from) (sym (label_here (number - 1) o e inside)) cut;
        }

        module _ (node : TreeNode) (here : IsPlacedFrom parts (get_or nodes (number - 1) e) f from node) where
          placed_here : (o : Occurrence ShapeNode) → IsPlacedNode parts (get_or (occurrences_of children nodes) (number - 1) o) node
          placed_here o = record {
            from = from;
            start = start_here o;
            finished = f;
            made = made_here o;
            placed = subst (λ n. IsPlacedFrom parts n f from node) (sym (label_here (number - 1) o e inside)) here;
          }

          pub placed_more : (placed : List TreeNode) → AllZip (IsPlacedNode parts) (drop number (occurrences_of children nodes)) placed
              → AllZip (IsPlacedNode parts) (drop (number - 1) (occurrences_of children nodes)) (node ∷ placed)
          placed_more placed before =
              let os : List (Occurrence ShapeNode) = occurrences_of children nodes in
              let none : Occurrence ShapeNode = record { above = []; here = tip e } in
              let front : drop (number - 1) os ≡ get_or os (number - 1) none ∷ drop number os =
              drop_more os (number - 1) none (omega (arith, inside, length-occurrences_of children nodes ok))
              ∙ ap (λ n. get_or os (number - 1) none ∷ drop n os) next in
              subst (λ xs. AllZip (IsPlacedNode parts) xs (node ∷ placed)) (sym front) (placed_here none, before)

          -- both parts of a pair start at its place
          pub starts_at_pair : (l r : ℕ) → get_or nodes (number - 1) e ≡ Pair l r → (one two : List Spot)
              → one ≡ rest ++ node.place ∷ [] → two ≡ one ++ node.place ∷ [] → AreStarts parts nodes (number - 1) two
          unfolding IsRouteStart label
          starts_at_pair l r is one two one_is two_is =
              let n : ShapeNode = get_or nodes (number - 1) e in
              let named : children n ≡ Some (l, r) = ap children is in
              let pair : IsPair children nodes (number - 1) (l, r) n = is_pair children nodes ok (number - 1) e (l, r) inside named in
              let none : Occurrence ShapeNode = record { above = []; here = tip e } in
              let own : get_or (occurrences_of children nodes) (number - 1) none ≡ occurrence pair.above (fork pair.left pair.right n) = pair.own none in
              let start : IsRouteStart parts pair.above from =
              subst (λ (o : Occurrence ShapeNode). IsRouteStart parts o.above from) {y = occurrence pair.above (fork pair.left pair.right n)} own (start_here none) in
              let made : IsFinished parts.params parts.sinks (fork pair.left pair.right n) f =
              subst (λ (o : Occurrence ShapeNode). IsFinished parts.params parts.sinks o.here f) {y = occurrence pair.above (fork pair.left pair.right n)} own (made_here none) in
              let below : IsPlaceBelow parts from (fork pair.left pair.right n) node.place =
              record { node = f; finished = made; is_place = here.place } in
              let to_part : (t : BinaryTree ShapeNode) (o q : Occurrence ShapeNode) → q ≡ occurrence (fork pair.left pair.right n ∷ pair.above) t
              → IsRouteStart parts q.above node.place =
              λ t o q q_is. subst (λ (o : Occurrence ShapeNode). IsRouteStart parts o.above node.place)
              {x = occurrence (fork pair.left pair.right n ∷ pair.above) t} (sym q_is) (from, start, below) in
              let both : two ≡ rest ++ node.place ∷ node.place ∷ [] =
              two_is ∙ ap (λ xs. xs ++ node.place ∷ []) one_is ∙ append_assoc rest (node.place ∷ []) (node.place ∷ []) in
              subst (AreStarts parts nodes (number - 1)) (sym both)
              (handed_at_pair children nodes ok (IsStartAt parts nodes) (number - 1) e inside starts handed_next rest from starts_are
              (l, r) named node.place node.place
              (λ o. to_part pair.left o (get_or (occurrences_of children nodes) l o) (pair.at_left o))
              (λ o. to_part pair.right o (get_or (occurrences_of children nodes) r o) (pair.at_right o)))

-- at the end all nodes are placed
pub all_placed : (parts : Parts) (nodes : List ShapeNode) (placed : List TreeNode) (number : ℕ) → number ≡ 0
    → AllZip (IsPlacedNode parts) (drop number (occurrences_of children nodes)) placed
    → AllZip (IsPlacedNode parts) (occurrences_of children nodes) placed
all_placed parts nodes placed number none all =
    subst (λ n. AllZip (IsPlacedNode parts) (drop n (occurrences_of children nodes)) placed) none all

-- at the start none is
pub none_placed : (parts : Parts) (nodes : List ShapeNode) → IsPostOrder (map children nodes) → (placed : List TreeNode) → placed ≡ []
    → AllZip (IsPlacedNode parts) (drop (length nodes) (occurrences_of children nodes)) placed
none_placed parts nodes ok placed empty =
    subst (AllZip (IsPlacedNode parts) (drop (length nodes) (occurrences_of children nodes))) (sym empty)
    (subst (λ os. AllZip (IsPlacedNode parts) os [])
    (sym (drop_all (length nodes) (occurrences_of children nodes) (omega (arith, length-occurrences_of children nodes ok)))) tt)
