-- Sides of finished trees are within the limits of a merge.
use Rattle.std.proofs.Common.{◌≡◌, ℕ, ◌≤◌, List, Option, Some, None, slice_get, refl, sym, subst, arith}
use Rattle.std.specs.Option.{option_map_or}
use Rattle.std.proofs.lemmas.Int.{ints}
use Rattle.std.proofs.lemmas.Option.{slice_get_within, get_or_from_slice_get}
use Rattle.cts_geom.specs.declared.regions.Region.{Region}
use Rattle.cts_geom.specs.Regions.{IsRegionInRange}
use Rattle.cts_units.specs.declared.params.Buffer.{Buffer}
use Rattle.cts_units.specs.declared.params.Sink.{Sink}
use Rattle.cts_units.specs.declared.params.Params.{Params}
use Rattle.cts_units.specs.Choice.{seen_load_of}
use Rattle.cts_units.specs.Limits.{IsBuffer, IsParams, max_load}
use Rattle.cts_postorder.specs.BinaryTree.{BinaryTree, tip, fork}
use Rattle.cts_topo.specs.declared.shape.ShapeNode.{ShapeNode}
use Rattle.cts_merge.specs.declared.side.Side.{Side}
use Rattle.cts_merge.specs.declared.side.Finished.{Finished}
use Rattle.cts_merge.specs.Side.{IsSideInRange}
use Rattle.cts_merge.specs.Merge.{IsMerged, pair_load_of}
use Rattle.cts_up.specs.Sinks.{IsSinkInRange, AreSinksInRange}
use Rattle.cts_up.specs.Plan.{IsFinished}
use Rattle.cts_up.specs.Laws.{HasSmallEnds, SidesCanBeMerged}
use Rattle.cts_up.proofs.Leaves.{LeafOf, leaf_of, sink_has}
use Rattle.cts_up.proofs.Regions.{regions_small}

-- the load that is seen of a node is within the limit where its own is
pub seen_within : (params : Params) (buffer : Option ℕ) (load : ℕ) → IsParams params → load ≤ max_load
    → seen_load_of params.library buffer load ≤ max_load
seen_within params None load ok h = h
seen_within params (Some index) load ok h = by_buffer (slice_get params.library index) refl
  where
    by_buffer : (o : Option Buffer) → slice_get params.library index ≡ o
        → option_map_or (λ (b : Buffer). b.cin) o load ≤ max_load
    by_buffer None e = h
    by_buffer (Some b) e =
        let is : IsBuffer b =
        subst IsBuffer (get_or_from_slice_get params.library index b b e)
        (ok.buffers index b (slice_get_within params.library index b e)) in
        omega (arith, is.cin)

pair_in_range : (params : Params) (a b : Side) (f : Finished) → IsParams params → IsMerged params a b f → IsSideInRange f.side
pair_in_range params a b f ok is =
    let seen : seen_load_of params.library f.buffer (pair_load_of params.wire a b f.ea f.eb) ≤ max_load =
    seen_within params f.buffer (pair_load_of params.wire a b f.ea f.eb) ok is.load_within in
    record { greatest = is.greatest_within; load = subst (λ x. x ≤ max_load) (sym is.load) seen }

sides_in_range : (params : Params) (sinks : List Sink) (t : BinaryTree ShapeNode) (f : Finished) → IsFinished params sinks t f
    → IsParams params → AreSinksInRange sinks → IsSideInRange f.side
unfolding IsFinished
sides_in_range params sinks (tip n) f p ok are =
    let leaf : LeafOf sinks n f = leaf_of sinks n f p in
    let s : IsSinkInRange leaf.sink = sink_has IsSinkInRange sinks n leaf.sink are.each leaf.named in
    record {
      greatest = omega (arith, leaf.leaf.greatest, s.offset);
      load = omega (arith, leaf.leaf.load, s.cap);
    }
sides_in_range params sinks (fork l r n) f p ok are = pair_in_range params p.0.side p.1.side f ok p.4

region_in_range : (r : Region) → HasSmallEnds r → IsRegionInRange r
region_in_range r small = record {
  u1 = record { low = omega (arith, ints, small.u1.low); high = omega (arith, ints, small.u1.high) };
  u2 = record { low = omega (arith, ints, small.u2.low); high = omega (arith, ints, small.u2.high) };
  v1 = record { low = omega (arith, ints, small.v1.low); high = omega (arith, ints, small.v1.high) };
  v2 = record { low = omega (arith, ints, small.v2.low); high = omega (arith, ints, small.v2.high) };
}

pub sides_merge : SidesCanBeMerged
sides_merge params sinks t f p ok are =
    record {
      numbers = sides_in_range params sinks t f p ok are;
      region = region_in_range f.side.region (regions_small params sinks t f p are);
    }
