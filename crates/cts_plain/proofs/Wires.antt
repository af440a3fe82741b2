-- The wires of the tree of a shape run along legal routes, and buffers stand in no block.
use Rattle.std.proofs.Common.{◌≡◌, ℕ, ℤ, List, [], ◌∷◌, ◌++◌, map, length, get_or, Option, Some, None, MatchOption, refl, sym, ap, subst, ◌∙◌, arith}
use Rattle.std.specs.List.{All, AllZip}
use Rattle.std.specs.Option.{is_some}
use Rattle.std.proofs.lemmas.List.Elements.{All-append, All-cons, All-nil}
use Rattle.std.proofs.lemmas.Int.{ints}
use Rattle.cts_geom.specs.declared.points.Spot.{Spot}
use Rattle.cts_geom.specs.declared.points.Half.{Half}
use Rattle.cts_geom.specs.Points.{point_of}
use Rattle.cts_block.specs.declared.blocks.Block.{Block}
use Rattle.cts_block.specs.FreePoints.{IsOpenToBuffers}
use Rattle.cts_block.specs.NearestFree.{IsFree}
use Rattle.cts_postorder.specs.BinaryTree.{BinaryTree, tip, fork, label}
use Rattle.cts_postorder.specs.Occurrence.{Occurrence, occurrence, occurrences, occurrences_of}
use Rattle.cts_postorder.specs.PostOrder.{IsPostOrder}
use Rattle.cts_postorder.proofs.Zips.{all_zip-all}
use Rattle.cts_postorder.proofs.Lists.{Whole, whole_of}
use Rattle.cts_postorder.proofs.Alike.{IsAlike, AlikeLists, alike_lists}
use Rattle.cts_tree.specs.declared.nodes.NodeKind.{NodeKind}
use Rattle.cts_tree.specs.declared.nodes.TreeNode.{TreeNode}
use Rattle.cts_tree.specs.declared.route.Route.{Route}
use Rattle.cts_tree.specs.Nodes.{tree_children, children_of, buffer_of}
use Rattle.cts_instance.specs.declared.parts.Parts.{Parts}
use Rattle.cts_instance.specs.Validity.{IsBlock, IsValid}
use Rattle.cts_topo.specs.declared.shape.ShapeNode.{ShapeNode}
use Rattle.cts_topo.specs.declared.shape.ShapeNode.TheVariants.{Leaf, Pair}
use Rattle.cts_topo.specs.Shape.{children, IsShapeOver}
use Rattle.cts_merge.specs.declared.side.Finished.{Finished}
use Rattle.cts_embed.specs.Places.{IsNodePlace, IsPlaceBelow, IsRouteStart, kind_of, source_of}
use Rattle.cts_embed.proofs.FreePlaces.{pair_places_free}
use Rattle.cts_embed.proofs.NodeKinds.{leaf_kind, pair_kind, same_kids}
use Rattle.cts_embed.proofs.OnePlace.{start_one}
use Rattle.cts_embed.proofs.Starts.{place_in_die, start_in_die}
use Rattle.cts_elmore.specs.Sound.{HasLegalWire, HasOpenBuffer, upper_end}
use Rattle.cts_route.specs.Laws.{HasCornersIn, IsLegalWay}
use Rattle.cts_route.proofs.Legal.{routes_legal}
use Rattle.cts_plain.proofs.Reached.{IsMadeOf}

module _ (i : Parts) where
  -- a buffer's place is open to buffers
  free_for : (buffer : Option ℕ) (place : Spot) → IsFree i.blocks i.die (is_some buffer) place
      → MatchOption buffer (Unit {0}) (λ _. All (IsOpenToBuffers (point_of place)) i.blocks)
  free_for None place free = tt
  free_for (Some index) place free = free.clear

  open_by : (n : ShapeNode) (f : Finished) (from place : Spot) (k : NodeKind) → kind_of i.sinks n f.buffer ≡ Some k
      → IsNodePlace i n f from place
      → MatchOption (buffer_of k) (Unit {0}) (λ _. All (IsOpenToBuffers (point_of place)) i.blocks)
  unfolding IsNodePlace
  open_by (Leaf s) f from place k is place_is =
      subst (λ j. MatchOption (buffer_of j) (Unit {0}) (λ _. All (IsOpenToBuffers (point_of place)) i.blocks))
      (sym (leaf_kind i.sinks s f.buffer k is).is) tt
  open_by (Pair l r) f from place k is place_is =
      subst (λ j. MatchOption (buffer_of j) (Unit {0}) (λ _. All (IsOpenToBuffers (point_of place)) i.blocks))
      (sym (pair_kind i.sinks l r f.buffer k is)) (free_for f.buffer place (pair_places_free i f from place place_is))

  open_buffer : (o : Occurrence ShapeNode) (n : TreeNode) → IsMadeOf i o n → HasOpenBuffer i.blocks n
  open_buffer o n (m, is, keeps) =
      subst (λ place. MatchOption (buffer_of n.kind) (Unit {0}) (λ _. All (IsOpenToBuffers (point_of place)) i.blocks))
      (sym keeps.place)
      (open_by (label o.here) is.finished is.from m.place n.kind (is.placed.kind ∙ ap Some (sym keeps.kind)) is.placed.place)

  module _ (valid : IsValid i) where
    corners_in : (block : Block) → IsBlock i.die block → HasCornersIn i.die block
    corners_in block is = record {
      x1_low = is.from.west;
      x1_high = is.from.east;
      x2_low = is.to.west;
      x2_high = is.to.east;
      y1_low = is.from.south;
      y1_high = is.from.north;
      y2_low = is.to.south;
      y2_high = is.to.north;
    }

    half_same : (p q : Half) → p.x ≡ q.x → p.y ≡ q.y → p ≡ q
    half_same p q x y =
        ap (λ (v : ℤ). let h : Half = record { x = v; y = p.y } in h) x
        ∙ ap (λ (v : ℤ). let h : Half = record { x = q.x; y = v } in h) y

    -- one wire, that starts where the route of its node does
    one_wire : (o : Occurrence ShapeNode) (n : TreeNode) (from : Spot) → IsMadeOf i o n → IsRouteStart i o.above from
        → (above : List (BinaryTree TreeNode)) (here : BinaryTree TreeNode) → n ≡ label here → point_of from ≡ upper_end i above
        → HasLegalWire i (occurrence above here)
    one_wire o n from (m, is, keeps) start above here node end_ =
        let same : is.from ≡ from = start_one i o.above is.from from is.start start in
        let way : IsLegalWay i.blocks i.die (point_of is.from) (point_of m.place) m.route =
        routes_legal i.blocks i.die (point_of is.from) (point_of m.place) m.route valid.die.x_order valid.die.y_order
        (λ k d h. corners_in (get_or i.blocks k d) (valid.blocks k d h)) (start_in_die i o.above is.from valid is.start)
        (place_in_die i (label o.here) is.finished is.from m.place valid is.placed.place) is.placed.route in
        let start_is : point_of is.from ≡ upper_end i above = ap point_of same ∙ end_ in
        let place_is : m.place ≡ (label here).place = sym keeps.place ∙ ap (λ (x : TreeNode). x.place) node in
        let route_is : m.route ≡ (label here).route = sym keeps.route ∙ ap (λ (x : TreeNode). x.route) node in
        let wire_is : n.wire ≡ (label here).wire = ap (λ (x : TreeNode). x.wire) node in
        let moved : IsLegalWay i.blocks i.die (upper_end i above) (point_of (label here).place) (label here).route =
        subst (λ (h : Half). IsLegalWay i.blocks i.die h (point_of (label here).place) (label here).route) start_is
        (subst (λ (p : Spot). IsLegalWay i.blocks i.die (point_of is.from) (point_of p) (label here).route) place_is
        (subst (λ (r : Route). IsLegalWay i.blocks i.die (point_of is.from) (point_of m.place) r) route_is way)) in
        record {
          route = moved.legal;
          no_shorter = omega (arith, moved.long, keeps.no_shorter, wire_is, ap (λ (r : Route). r.length) route_is);
        }

    -- all wires of a tree, from where the route to its root starts
    all_wires : (up : List (BinaryTree ShapeNode)) (s : BinaryTree ShapeNode) (above : List (BinaryTree TreeNode)) (t : BinaryTree TreeNode)
        → IsAlike (IsMadeOf i) up s t → (from : Spot) → IsRouteStart i up from → point_of from ≡ upper_end i above
        → All (HasLegalWire i) (occurrences above t)
    unfolding IsAlike occurrences IsRouteStart label
    all_wires up (tip n) above (tip m) a from start end_ =
        All-cons (HasLegalWire i) (occurrence above (tip m)) []
        (one_wire (occurrence up (tip n)) m from a start above (tip m) refl end_) (All-nil (HasLegalWire i))
    all_wires up (tip n) above (fork l' r' m) a from start end_ = absurd a
    all_wires up (fork l r n) above (tip m) a from start end_ = absurd a
    all_wires up (fork l r n) above (fork l' r' m) a from start end_ =
        let made_ : IsMadeOf i (occurrence up (fork l r n)) m = a.2 in
        let p : Spot = made_.0.place in
        let same : made_.1.from ≡ from = start_one i up made_.1.from from made_.1.start start in
        let below : IsPlaceBelow i from (fork l r n) p = record {
          node = made_.1.finished;
          finished = made_.1.made;
          is_place = subst (λ (x : Spot). IsNodePlace i (label (fork l r n)) made_.1.finished x p) same made_.1.placed.place;
        } in
        let next : point_of p ≡ upper_end i (fork l' r' m ∷ above) = ap point_of (sym made_.2.place) in
        All-append (HasLegalWire i) (occurrences (fork l' r' m ∷ above) l' ++ occurrences (fork l' r' m ∷ above) r')
        (occurrence above (fork l' r' m) ∷ [])
        (All-append (HasLegalWire i) (occurrences (fork l' r' m ∷ above) l') (occurrences (fork l' r' m ∷ above) r')
        (all_wires (fork l r n ∷ up) l (fork l' r' m ∷ above) l' (a.0) p (from, start, below) next)
        (all_wires (fork l r n ∷ up) r (fork l' r' m ∷ above) r' (a.1) p (from, start, below) next))
        (All-cons (HasLegalWire i) (occurrence above (fork l' r' m)) []
        (one_wire (occurrence up (fork l r n)) m from made_ start above (fork l' r' m) refl end_) (All-nil (HasLegalWire i)))

    source_end : point_of (source_of i) ≡ upper_end i []
    source_end = half_same (point_of (source_of i)) (upper_end i []) (omega (arith, ints)) (omega (arith, ints))

    module _ (shape : List ShapeNode) (over : IsShapeOver (length i.sinks) shape) (tree : List TreeNode)
        (post : IsPostOrder (map tree_children tree)) (all : AllZip (IsMadeOf i) (occurrences_of children shape) tree) where
      same_children : (o : Occurrence ShapeNode) (n : TreeNode) → IsMadeOf i o n → tree_children n ≡ children (label o.here)
      same_children o n (m, is, keeps) =
          ap children_of keeps.kind ∙ same_kids i.sinks (label o.here) is.finished.buffer m.kind is.placed.kind

      pub wires_are_legal : All (HasLegalWire i) (occurrences_of tree_children tree)
      unfolding IsRouteStart
      wires_are_legal =
          let l : AlikeLists (IsMadeOf i) children tree_children same_children shape tree =
          alike_lists (IsMadeOf i) children tree_children same_children shape over.post_order tree all in
          let w : Whole tree_children tree = whole_of tree_children tree post in
          let names : Some w.tree ≡ Some l.second = sym w.root_is ∙ l.second_is in
          let same : w.tree ≡ l.second = cc in
          subst (All (HasLegalWire i)) (sym (w.occurrences_are ∙ ap (occurrences []) same))
          (all_wires [] l.first [] l.second l.alike (source_of i) refl source_end)

      pub buffers_are_open : All (HasOpenBuffer i.blocks) tree
      buffers_are_open = all_zip-all (IsMadeOf i) (HasOpenBuffer i.blocks) open_buffer (occurrences_of children shape) tree all
