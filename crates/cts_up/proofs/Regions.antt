-- Where the regions of finished trees lie.
use Rattle.std.proofs.Common.{ℤ, pos, ◌*ℤ◌, List, ap, inl, subst, sym, ◌∙◌, arith}
use Rattle.std.specs.List.{All}
use Rattle.std.proofs.lemmas.Int.{ints}
use Rattle.cts_geom.specs.declared.points.Spot.{Spot}
use Rattle.cts_geom.specs.declared.regions.Region.{Region}
use Rattle.cts_geom.specs.Points.{point_of, spot_at}
use Rattle.cts_geom.specs.RegionLaws.{IsBoxed, IsInBox, IsSegment}
use Rattle.cts_geom.proofs.RegionLemmas.{low_corner-inside, high_corner-inside}
use Rattle.cts_units.specs.declared.params.Sink.{Sink}
use Rattle.cts_postorder.specs.BinaryTree.{tip, fork}
use Rattle.cts_merge.specs.declared.side.Finished.{Finished}
use Rattle.cts_merge.specs.Merge.{IsLeaf}
use Rattle.cts_merge.proofs.Tight.{merging_segment, merging_in_box}
use Rattle.cts_up.specs.Sinks.{IsSinkInRange, AreSinksInRange, IsOnDie}
use Rattle.cts_up.specs.Plan.{IsFinished}
use Rattle.cts_up.specs.Laws.{RegionsAreSegments, RegionsLieInBox, RegionsLieInDie, RegionsAreSmall}
use Rattle.cts_up.proofs.Leaves.{LeafOf, leaf_of, sink_has}

leaf_segment : (sink : Sink) (f : Finished) → IsLeaf sink f → IsSegment f.side.region
leaf_segment sink f is =
    let low = (is.region _).0 (low_corner-inside f.side.region) in
    let high = (is.region _).0 (high_corner-inside f.side.region) in
    inl (ap (λ (p : Spot). p.u) low ∙ sym (ap (λ (p : Spot). p.u) high))

pub regions_segment : RegionsAreSegments
unfolding IsFinished
regions_segment params sinks (tip n) f p =
    let leaf : LeafOf sinks n f = leaf_of sinks n f p in leaf_segment leaf.sink f leaf.leaf
regions_segment params sinks (fork l r n) f p =
    merging_segment params p.0.side p.1.side f p.4 (regions_segment params sinks l p.0 p.2) (regions_segment params sinks r p.1 p.3)

-- the place of a sink lies in the box, in half nm
abbrev IsSinkInBox : ℤ → ℤ → ℤ → ℤ → Sink → Type 0
IsSinkInBox x1 x2 y1 y2 sink = IsInBox x1 x2 y1 y2 (point_of (spot_at sink.x sink.y))

leaf_in_box : (sink : Sink) (f : Finished) (x1 x2 y1 y2 : ℤ) → IsLeaf sink f → IsSinkInBox x1 x2 y1 y2 sink
    → IsBoxed x1 x2 y1 y2 f.side.region
leaf_in_box sink f x1 x2 y1 y2 is inside p h =
    subst (λ (q : Spot). IsInBox x1 x2 y1 y2 (point_of q)) (sym ((is.region p).0 h)) inside

pub regions_in_box : RegionsLieInBox
unfolding IsFinished
regions_in_box params sinks (tip n) f p x1 x2 y1 y2 all =
    let leaf : LeafOf sinks n f = leaf_of sinks n f p in
    leaf_in_box leaf.sink f x1 x2 y1 y2 leaf.leaf (sink_has (IsSinkInBox x1 x2 y1 y2) sinks n leaf.sink all leaf.named)
regions_in_box params sinks (fork l r n) f p x1 x2 y1 y2 all =
    merging_in_box params p.0.side p.1.side f p.4 x1 x2 y1 y2
    (regions_in_box params sinks l p.0 p.2 x1 x2 y1 y2 all) (regions_in_box params sinks r p.1 p.3 x1 x2 y1 y2 all)

pub regions_in_die : RegionsLieInDie
regions_in_die params sinks t f p die all =
    let west : ℤ = pos 2 *ℤ die.x1 in
    let east : ℤ = pos 2 *ℤ die.x2 in
    let south : ℤ = pos 2 *ℤ die.y1 in
    let north : ℤ = pos 2 *ℤ die.y2 in
    regions_in_box params sinks t f p west east south north (λ k d h.
    let s : IsOnDie die _ = all k d h in
    record {
      left = omega (arith, ints, s.west);
      right = omega (arith, ints, s.east);
      bottom = omega (arith, ints, s.south);
      top = omega (arith, ints, s.north);
    })

-- the greatest coordinate of a chip, in half nm
abbrev far : ℤ
far = pos 200000000

on_chip : (sinks : List Sink) → AreSinksInRange sinks → All (IsSinkInBox (pos 0) far (pos 0) far) sinks
on_chip sinks are = λ k d h.
    let s : IsSinkInRange _ = are.each k d h in
    record {
      left = omega (arith, ints, s.placed.x_low);
      right = omega (arith, ints, s.placed.x_high);
      bottom = omega (arith, ints, s.placed.y_low);
      top = omega (arith, ints, s.placed.y_high);
    }

pub regions_small : RegionsAreSmall
regions_small params sinks t f p are =
    let r : Region = f.side.region in
    let box : IsBoxed (pos 0) far (pos 0) far r = regions_in_box params sinks t f p (pos 0) far (pos 0) far (on_chip sinks are) in
    let low : IsInBox (pos 0) far (pos 0) far _ = box _ (low_corner-inside r) in
    let high : IsInBox (pos 0) far (pos 0) far _ = box _ (high_corner-inside r) in
    record {
      u1 = record { low = omega (arith, ints, low.left, low.bottom); high = omega (arith, ints, low.right, low.top) };
      u2 = record { low = omega (arith, ints, high.left, high.bottom); high = omega (arith, ints, high.right, high.top) };
      v1 = record { low = omega (arith, ints, low.left, low.top); high = omega (arith, ints, low.right, low.bottom) };
      v2 = record { low = omega (arith, ints, high.left, high.top); high = omega (arith, ints, high.right, high.bottom) };
    }
