-- A sound tree of a valid instance stands in the die: routes lie there, and each begins where the one above it ends.
use Rattle.std.proofs.Common.{inl, inr, List, [], ◌∷◌, ◌++◌, ℤ, sym, subst, arith}
use Rattle.std.specs.List.{All}
use Rattle.std.proofs.lemmas.List.Elements.{All-append, All-cons, All-head, All-nil, All-weaker}
use Rattle.std.proofs.lemmas.Int.{ints, by_lt_z}
use Rattle.cts_list.proofs.AllOf.{all_front, all_back}
use Rattle.cts_geom.specs.declared.bounds.Die.{Die}
use Rattle.cts_geom.specs.declared.points.Half.{Half}
use Rattle.cts_geom.specs.declared.points.Spot.{Spot}
use Rattle.cts_geom.specs.Points.{IsSpotInRange, point_of}
use Rattle.cts_block.specs.FreePoints.{IsHalfInDie, IsFreeForWire}
use Rattle.cts_postorder.specs.BinaryTree.{BinaryTree, tip, fork, label, labels}
use Rattle.cts_postorder.specs.Occurrence.{Occurrence, occurrence, occurrences}
use Rattle.cts_postorder.proofs.Lists.{Whole, whole_of}
use Rattle.cts_tree.specs.declared.nodes.TreeNode.{TreeNode}
use Rattle.cts_tree.specs.Nodes.{tree_children}
use Rattle.cts_tree.specs.Path.{AllAlong, IsWithin}
use Rattle.cts_instance.specs.declared.parts.Parts.{Parts}
use Rattle.cts_instance.specs.Validity.{IsDie}
use Rattle.cts_instance.proofs.PlaceLemmas.{has_free_places}
use Rattle.cts_elmore.specs.Laws.{SoundTreesStandInDie}
use Rattle.cts_elmore.specs.Sound.{HasLegalWire, IsLegalRoute, StandsInDie, upper_end}

-- the ends of a segment are on it
at_end : (a b : ℤ) → IsWithin a b b
at_end a b = by_lt_z b a (λ less. inr (omega (arith, ints, less), omega (arith, ints, less)))
    (λ not_less. inl (omega (arith, ints, not_less), omega (arith, ints, not_less)))

-- what holds along a way holds at its points after the first
pub along_points : (P : Half → Type 0) (start : Half) (points : List Half) → AllAlong P (start ∷ points) → All P points
unfolding AllAlong
along_points P start [] along = All-nil P
along_points P start (q ∷ points) along =
    All-cons P q points (along.0 q (record { x = at_end start.x q.x; y = at_end start.y q.y })) (along_points P q points (along.1))

-- a place in the die of an instance has coordinates that can be reckoned with
pub in_die_in_range : (die : Die) (p : Spot) → IsDie die → IsHalfInDie die (point_of p) → IsSpotInRange p
in_die_in_range die p ok is = record {
  u = record {
    low = omega (arith, ints, ok.x_low, ok.y_low, is.x.at_least, is.y.at_least);
    high = omega (arith, ints, ok.x_high, ok.y_high, is.x.at_most, is.y.at_most);
  };
  v = record {
    low = omega (arith, ints, ok.x_low, ok.y_high, is.x.at_least, is.y.at_most);
    high = omega (arith, ints, ok.x_high, ok.y_low, is.x.at_most, is.y.at_least);
  };
}

module _ (i : Parts) where
  -- a legal route from a point in the die
  module _ (node : TreeNode) (from : Half) (start : IsHalfInDie i.die from)
      (route : IsLegalRoute i.blocks i.die from (point_of node.place) node.route) where
    ends_in_die : StandsInDie i.die node
    ends_in_die =
        elim route [
          | inl stays ↦ record {
            place = subst (IsHalfInDie i.die) (stays.0) start;
            corners = subst (All (IsHalfInDie i.die)) (sym (stays.1)) (All-nil (IsHalfInDie i.die));
          }
          | inr way ↦
              let corners : List Half = node.route.corners in
              let to : Half = point_of node.place in
              let points : All (IsHalfInDie i.die) (corners ++ to ∷ []) =
              All-weaker (IsFreeForWire i.blocks i.die) (IsHalfInDie i.die) (λ p free. free.in_die) (corners ++ to ∷ [])
              (along_points (IsFreeForWire i.blocks i.die) from (corners ++ to ∷ []) (way.1)) in
              record {
                place = All-head (IsHalfInDie i.die) to [] (all_back (IsHalfInDie i.die) corners (to ∷ []) points);
                corners = all_front (IsHalfInDie i.die) corners (to ∷ []) points;
              }
        ]

  -- the nodes of a subtree, where the wire above it begins in the die
  below_in_die : (up : List (BinaryTree TreeNode)) (t : BinaryTree TreeNode) → All (HasLegalWire i) (occurrences up t)
      → IsHalfInDie i.die (upper_end i up) → All (StandsInDie i.die) (labels t)
  unfolding occurrences labels label
  below_in_die up (tip n) wires start =
      All-cons (StandsInDie i.die) n []
      (ends_in_die n (upper_end i up) start (All-head (HasLegalWire i) (occurrence up (tip n)) [] wires).route)
      (All-nil (StandsInDie i.die))
  below_in_die up (fork l r n) wires start =
      let top : BinaryTree TreeNode = fork l r n in
      let lefts : List (Occurrence TreeNode) = occurrences (top ∷ up) l in
      let rights : List (Occurrence TreeNode) = occurrences (top ∷ up) r in
      let parts : All (HasLegalWire i) (lefts ++ rights) =
      all_front (HasLegalWire i) (lefts ++ rights) (occurrence up top ∷ []) wires in
      let own : HasLegalWire i (occurrence up top) =
      All-head (HasLegalWire i) (occurrence up top) [] (all_back (HasLegalWire i) (lefts ++ rights) (occurrence up top ∷ []) wires) in
      let here : StandsInDie i.die n = ends_in_die n (upper_end i up) start own.route in
      All-append (StandsInDie i.die) (labels l ++ labels r) (n ∷ [])
      (All-append (StandsInDie i.die) (labels l) (labels r)
      (below_in_die (top ∷ up) l (all_front (HasLegalWire i) lefts rights parts) here.place)
      (below_in_die (top ∷ up) r (all_back (HasLegalWire i) lefts rights parts) here.place))
      (All-cons (StandsInDie i.die) n [] here (All-nil (StandsInDie i.die)))

pub sound_in_die : SoundTreesStandInDie
sound_in_die i nodes valid ok sound =
    let w : Whole tree_children nodes = whole_of tree_children nodes ok in
    subst (All (StandsInDie i.die)) w.labels_are
    (below_in_die i [] w.tree (subst (All (HasLegalWire i)) w.occurrences_are sound.wires) (has_free_places i valid).source.in_die)
