-- What a node is and where it stands, under the names that the code gives to sinks.
use Rattle.std.proofs.Common.{◌≡◌, ◌↔◌, ℕ, ℤ, ◌<◌, Bool, List, length, get_or, slice_get, Option, None, Some, refl, sym, ap, subst, ◌∙◌, arith}
use Rattle.std.specs.Option.{MatchOption, option_map}
use Rattle.std.proofs.lemmas.Int.{ints}
use Rattle.cts_geom.specs.declared.regions.Region.{Region}
use Rattle.cts_geom.specs.Coordinate.{IsCoordinate}
use Rattle.cts_geom.specs.Regions.{ContainsSpot, IsRegionInRange}
use Rattle.cts_geom.specs.declared.points.Spot.{Spot}
use Rattle.cts_geom.specs.Points.{IsSpotInRange, spot_at}
use Rattle.cts_block.specs.FreeMap.{Floorplan}
use Rattle.cts_block.specs.NearestFree.{IsNearestFree}
use Rattle.cts_units.specs.declared.params.Params.{Params}
use Rattle.cts_units.specs.declared.params.Sink.{Sink}
use Rattle.cts_instance.specs.declared.parts.Parts.{Parts}
use Rattle.cts_instance.specs.Validity.{IsDie, IsSink, IsValid}
use Rattle.cts_topo.specs.declared.shape.ShapeNode.{ShapeNode}
use Rattle.cts_topo.specs.declared.shape.ShapeNode.TheVariants.{Leaf, Pair}
use Rattle.cts_postorder.specs.BinaryTree.{BinaryTree, tip}
use Rattle.cts_postorder.specs.PostOrder.{trees_of}
use Rattle.cts_postorder.proofs.Growth.{length-trees_of}
use Rattle.cts_postorder.proofs.Upward.{leaf_here}
use Rattle.cts_postorder.proofs.Zips.{all_zip-at}
use Rattle.cts_topo.specs.Shape.{children}
use Rattle.cts_up.specs.Sinks.{AreSinksInRange}
use Rattle.cts_up.specs.Plan.{IsFinished, IsPlan}
use Rattle.cts_up.proofs.Sides.{sides_merge}
use Rattle.cts_merge.specs.declared.side.Finished.{Finished}
use Rattle.cts_merge.specs.Merge.{IsLeaf}
use Rattle.cts_tree.specs.declared.nodes.NodeKind.TheVariants as kinds
use Rattle.cts_embed.specs.Leaves.{IsIdOf, IsLeafOf}
use Rattle.cts_embed.specs.Places.{IsNodePlace, IsPairPlace, kind_of}
use Rattle.cts_embed.specs.Prepared.{IsFreeMapOf}
use Rattle.cts_elmore.proofs.InDie.{in_die_in_range}
use Rattle.cts_embed.proofs.FreePlaces.{nearest_in_die}

-- a free point that a map finds
pub free_in_range : (parts : Parts) (free : Floorplan) → IsFreeMapOf parts free → (buffered : Bool) (at place : Spot)
    → IsNearestFree free.blocks free.die buffered at place → IsSpotInRange place
free_in_range parts free map buffered at place is =
    in_die_in_range free.die place (subst IsDie (sym map.die) map.valid.die) (nearest_in_die free.blocks free.die buffered at place is)

-- a leaf, by the id of the sink that it names
pub leaf_kind_is : (sinks : List Sink) (s id : ℕ) (n : ShapeNode) → n ≡ Leaf s → (buffer : Option ℕ) → IsIdOf sinks n id
    → kind_of sinks n buffer ≡ Some (kinds.Leaf id s)
unfolding kind_of IsIdOf
leaf_kind_is sinks s id n is buffer named =
    ap (λ m. kind_of sinks m buffer) is ∙ by_sink (slice_get sinks s) (subst (λ m. IsIdOf sinks m id) is named)
  where
    by_sink : (o : Option Sink) → MatchOption o ⊥ (λ x. x.id ≡ id)
        → option_map (λ (x : Sink). kinds.Leaf x.id s) o ≡ Some (kinds.Leaf id s)
    by_sink None named = absurd named
    by_sink (Some x) named = ap (λ i. Some (kinds.Leaf i s)) named

-- the first corner of a region with only one spot is that spot
pub corner_is : (region : Region) (spot : Spot) → ((p : Spot) → ContainsSpot region p ↔ (p ≡ spot)) → (u v : ℤ)
    → u ≡ region.u1 → v ≡ region.v1 → record { u = u; v = v } ≡ spot
corner_is region spot only u v u_is v_is =
    (only (record { u = u; v = v })).0
    (record {
      u_low = omega (arith, ints, u_is);
      u_high = omega (arith, ints, u_is, region.u_ordered);
      v_low = omega (arith, ints, v_is);
      v_high = omega (arith, ints, v_is, region.v_ordered);
    })

pub corner_in_range : (region : Region) → IsRegionInRange region → (u v : ℤ) → u ≡ region.u1 → v ≡ region.v1
    → IsSpotInRange (record { u = u; v = v })
corner_in_range region ok u v u_is v_is =
    record { u = subst IsCoordinate (sym u_is) ok.u1; v = subst IsCoordinate (sym v_is) ok.v1 }

-- a leaf's place is that of the sink that it is made of
pub leaf_place_is : (parts : Parts) (s : ℕ) (n : ShapeNode) → n ≡ Leaf s → (f : Finished) (from place : Spot)
    → IsLeafOf parts.sinks n f → ((sink : Sink) → IsLeaf sink f → place ≡ spot_at sink.x sink.y) → IsNodePlace parts n f from place
unfolding IsNodePlace IsLeafOf
leaf_place_is parts s n is f from place leaf at =
    subst (λ m. IsNodePlace parts m f from place) (sym is)
    (by_sink (slice_get parts.sinks s) (subst (λ m. IsLeafOf parts.sinks m f) is leaf))
  where
    by_sink : (o : Option Sink) → MatchOption o ⊥ (λ sink. IsLeaf sink f) → MatchOption o ⊥ (λ sink. place ≡ spot_at sink.x sink.y)
    by_sink None made = absurd made
    by_sink (Some sink) made = at sink made

-- a pair
pub pair_kind_is : (sinks : List Sink) (l r : ℕ) (n : ShapeNode) (buffer : Option ℕ) → n ≡ Pair l r
    → kind_of sinks n buffer ≡ Some (kinds.Pair l r buffer)
unfolding kind_of
pair_kind_is sinks l r n buffer is = ap (λ m. kind_of sinks m buffer) is

pub pair_place_is : (parts : Parts) (l r : ℕ) (n : ShapeNode) (f : Finished) (from place : Spot) → n ≡ Pair l r
    → IsPairPlace parts f from place → IsNodePlace parts n f from place
unfolding IsNodePlace
pair_place_is parts l r n f from place is pair = subst (λ m. IsNodePlace parts m f from place) (sym is) pair

pub sinks_in_range : (parts : Parts) → IsValid parts → AreSinksInRange parts.sinks
sinks_in_range parts ok = record {
  few = ok.sink_count;
  each = λ k d h.
      let s : IsSink parts.version parts.die _ = ok.sinks k d h in
      record {
        placed = record {
          x_low = omega (arith, ints, ok.die.x_low, s.in_die.west);
          x_high = omega (arith, ints, ok.die.x_high, s.in_die.east);
          y_low = omega (arith, ints, ok.die.y_low, s.in_die.south);
          y_high = omega (arith, ints, ok.die.y_high, s.in_die.north);
        };
        cap = s.cap;
        offset = s.offset;
      };
}

-- the regions of a plan
pub region_at : (parts : Parts) (nodes : List ShapeNode) (plan : List Finished) → IsValid parts
    → IsPlan parts.params parts.sinks nodes plan → (k : ℕ) (f d : Finished) → k < length nodes → f ≡ get_or plan k d
    → IsRegionInRange f.side.region
region_at parts nodes plan ok all k f d h read =
    let t : BinaryTree ShapeNode = get_or (trees_of children nodes) k (tip (Leaf 0)) in
    let made : IsFinished parts.params parts.sinks t (get_or plan k d) =
    all_zip-at (IsFinished parts.params parts.sinks) (trees_of children nodes) plan k (tip (Leaf 0)) d all
    (omega (arith, length-trees_of children nodes)) in
    (sides_merge parts.params parts.sinks t f (subst (IsFinished parts.params parts.sinks t) (sym read) made) ok.params (sinks_in_range parts ok)).region

-- the leaves of a plan
pub leaf_at : (params : Params) (sinks : List Sink) (nodes : List ShapeNode) (plan : List Finished) → IsPlan params sinks nodes plan
    → (k : ℕ) (f d : Finished) (e : ShapeNode) → k < length nodes → f ≡ get_or plan k d → IsLeafOf sinks (get_or nodes k e) f
unfolding IsLeafOf IsFinished
leaf_at params sinks nodes plan all k f d e h read = by_node (get_or nodes k e) refl
  where
    t : BinaryTree ShapeNode
    t = get_or (trees_of children nodes) k (tip (Leaf 0))

    made : IsFinished params sinks t f
    made =
        subst (IsFinished params sinks t) (sym read)
        (all_zip-at (IsFinished params sinks) (trees_of children nodes) plan k (tip (Leaf 0)) d all
        (omega (arith, length-trees_of children nodes)))

    at_leaf : (s : ℕ) → get_or nodes k e ≡ Leaf s → IsFinished params sinks (tip (Leaf s)) f
    at_leaf s here =
        subst (λ u. IsFinished params sinks u f)
        (leaf_here children (IsFinished params sinks) nodes k e (tip (Leaf 0)) h (ap children here) ∙ ap tip here) made

    by_node : (n : ShapeNode) → get_or nodes k e ≡ n → IsLeafOf sinks n f
    by_node (Leaf s) here = at_leaf s here
    by_node (Pair l r) here = tt
