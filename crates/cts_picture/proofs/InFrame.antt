-- Wires lead to nodes, and lie inside the frame.
use Rattle.std.proofs.Common.{◌≡◌, ℕ, ℤ, ◌-◌, ◌<◌, ◌≤◌, List, [], ◌∷◌, ◌++◌, length, get_or, slice_get, ◌⊎◌, inl, inr, Some, None, All, sym, subst, arith}
use Rattle.std.specs.List.{flat_map}
use Rattle.std.specs.Option.{option_map_or}
use Rattle.std.proofs.lemmas.Int.{ints}
use Rattle.std.proofs.lemmas.List.Elements.{All-append, All-cons, All-nil, All-head, All-tail}
use Rattle.std.proofs.lemmas.Option.{get_or_from_slice_get, slice_get_cases, slice_get_within}
use Rattle.cts_instance.specs.declared.parts.Parts.{Parts}
use Rattle.cts_block.specs.Places.{IsInDie}
use Rattle.cts_instance.specs.Validity.{IsValid}
use Rattle.cts_report.specs.Printed.{PrintedPoint, PrintedKind, sink_leaf, pair_node, PrintedNode}
use Rattle.cts_picture.specs.declared.frame.Frame.{Frame}
use Rattle.cts_picture.specs.Dots.{drawn_point}
use Rattle.cts_picture.specs.Laws.{InstancesLieInFrame, IsInFrame, IsOnDie, LiesOnDie, WiresLeadToNodes, WiresLieInFrame}
use Rattle.cts_picture.specs.Picture.{frame_for, source_point}
use Rattle.cts_picture.specs.Wires.{DrawnWire, wire_points, wire_to, wires_below, wires_from, wires_of}

abbrev wire_of : ℕ → PrintedPoint → PrintedNode → DrawnWire
wire_of number upper node = record { number = number; upper = upper; node = node }

All-flat_map : {A B : Type 0} (P : B → Type 0) (Q : A → Type 0) (f : A → List B) → ((x : A) → Q x → All P (f x)) → (xs : List A)
    → All Q xs → All P (flat_map f xs)
All-flat_map P Q f each [] h = All-nil P
All-flat_map P Q f each (x ∷ xs) h =
    All-append P (f x) (flat_map f xs) (each x (All-head Q x xs h)) (All-flat_map P Q f each xs (All-tail Q x xs h))

-- A property of all wires from points of a kind to nodes of a kind
module _ (P : DrawnWire → Type 0) (From : PrintedPoint → Type 0) (all : List PrintedNode)
    (each : (number : ℕ) (upper : PrintedPoint) (node : PrintedNode) → From upper → slice_get all number ≡ Some node
    → P (wire_of number upper node)) where
  all-to : (upper : PrintedPoint) (k : ℕ) → From upper → All P (wire_to all upper k)
  all-to upper k from = by (slice_get_cases all k).1
    where
      by : ((node : PrintedNode) × (k < length all) × (slice_get all k ≡ Some node) × (get_or all k node ≡ node))
          ⊎ ((length all ≤ k) × (slice_get all k ≡ None))
          → All P (wire_to all upper k)
      by (inl found) =
          subst (λ o. All P (option_map_or (λ (node : PrintedNode). wire_of k upper node ∷ []) o [])) (sym found.2)
          (All-cons P (wire_of k upper found.0) [] (each k upper found.0 from found.2) (All-nil P))
      by (inr past) =
          subst (λ o. All P (option_map_or (λ (node : PrintedNode). wire_of k upper node ∷ []) o [])) (sym past.1) (All-nil P)

  all-from : (place : PrintedPoint) (kind : PrintedKind) → From place → All P (wires_from all place kind)
  all-from place (sink_leaf id) from = All-nil P
  all-from place (pair_node left right buffer residue) from =
      All-append P (wire_to all place left) (wire_to all place right) (all-to place left from) (all-to place right from)

  all-wires : (source : PrintedPoint) → From source → All (λ (node : PrintedNode). From node.place) all → All P (wires_of source all)
  unfolding wires_of
  all-wires source from places =
      All-append P (wire_to all source (length all - 1)) (flat_map (wires_below all) all) (all-to source (length all - 1) from)
      (All-flat_map P (λ (node : PrintedNode). From node.place) (wires_below all)
      (λ node place. all-from node.place node.kind place) all places)

pub wires_lead_to_nodes : WiresLeadToNodes
wires_lead_to_nodes source nodes =
    all-wires (λ (wire : DrawnWire). slice_get nodes wire.number ≡ Some wire.node) (λ p. Unit {0}) nodes
    (λ number upper node from found. found) source tt (λ k d h. tt)

-- a point of the die is drawn inside the frame
in_frame : (frame : Frame) (p : PrintedPoint) → IsOnDie frame p → IsInFrame frame p
in_frame frame p on = record {
  left = omega (arith, on.west);
  right = omega (arith, on.west, on.east);
  top = omega (arith, on.north);
  bottom = omega (arith, on.south, on.north);
}

-- a place in the die of a valid instance is one
place_on_die : (parts : Parts) → IsValid parts → (x y : ℤ) → IsInDie parts.die x y → IsOnDie (frame_for parts) (drawn_point x y)
place_on_die parts valid x y on = record {
  west = grind (arith, ints, on.west, valid.die.x_low);
  east = grind (arith, ints, on.east, on.west, valid.die.x_low);
  south = grind (arith, ints, on.south, valid.die.y_low);
  north = grind (arith, ints, on.north, on.south, valid.die.y_low);
}

-- and so is the source
source_on_die : (parts : Parts) → IsValid parts → IsOnDie (frame_for parts) (source_point parts)
source_on_die parts valid = place_on_die parts valid parts.source_x parts.source_y valid.source

pub instances_lie_in_frame : InstancesLieInFrame
instances_lie_in_frame parts valid = record {
  sinks = λ k d h. in_frame (frame_for parts) _ (place_on_die parts valid _ _ (valid.sinks k d h).in_die);
  blocks = λ k d h.
      let block = valid.blocks k d h in
      record {
        from = in_frame (frame_for parts) _ (place_on_die parts valid _ _ block.from);
        to = in_frame (frame_for parts) _ (place_on_die parts valid _ _ block.to);
      };
  source = in_frame (frame_for parts) (source_point parts) (source_on_die parts valid);
}

pub wires_lie_in_frame : WiresLieInFrame
wires_lie_in_frame parts nodes valid lies =
    all-wires (λ (wire : DrawnWire). All (IsInFrame frame) (wire_points wire)) (IsOnDie frame) nodes each (source_point parts)
    (source_on_die parts valid) (λ k d h. (lies k d h).place)
  where
    frame : Frame
    frame = frame_for parts

    drawn_all : (ps : List PrintedPoint) → All (IsOnDie frame) ps → All (IsInFrame frame) ps
    drawn_all ps on = λ k d h. in_frame frame _ (on k d h)

    each : (number : ℕ) (upper : PrintedPoint) (node : PrintedNode) → IsOnDie frame upper → slice_get nodes number ≡ Some node
        → All (IsInFrame frame) (wire_points (wire_of number upper node))
    each number upper node on found =
        let at : LiesOnDie frame node =
        subst (LiesOnDie frame) (get_or_from_slice_get nodes number node node found)
        (lies number node (slice_get_within nodes number node found)) in
        drawn_all (upper ∷ (node.corners ++ node.place ∷ []))
        (All-cons (IsOnDie frame) upper (node.corners ++ node.place ∷ []) on
        (All-append (IsOnDie frame) node.corners (node.place ∷ []) at.corners
        (All-cons (IsOnDie frame) node.place [] at.place (All-nil (IsOnDie frame)))))
