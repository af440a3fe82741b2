-- Every sink has a leaf, and any two sides have a pair or are beyond.
use Rattle.std.proofs.Common.{◌≡◌, ℕ, ◌+◌, ◌*◌, ◌≤◌, ◌⊎◌, inl, inr, Option, None, refl, ap, arith}
use Rattle.std.proofs.lemmas.Bool.{cases_lt}
use Rattle.std.proofs.lemmas.Int.{ints}
use Rattle.cts_geom.specs.declared.points.Spot.{Spot}
use Rattle.cts_geom.specs.declared.regions.Region.{Region}
use Rattle.cts_geom.specs.Points.{spot_at}
use Rattle.cts_geom.specs.Regions.{ContainsSpot, IsMeet, gap_of}
use Rattle.cts_geom.proofs.PointLemmas.{spot_same}
use Rattle.cts_units.specs.declared.params.Sink.{Sink}
use Rattle.cts_units.specs.declared.params.Params.{Params}
use Rattle.cts_units.specs.Choice.{IsBufferChoice, added_delay_of, seen_load_of}
use Rattle.cts_units.proofs.Choices.{choice_exists}
use Rattle.cts_units.specs.Limits.{max_length, max_load, max_delay}
use Rattle.cts_merge.specs.declared.side.Side.{Side}
use Rattle.cts_merge.specs.declared.side.Finished.{Finished}
use Rattle.cts_merge.specs.LeastPair.{HasLeastPair, Spans}
use Rattle.cts_merge.specs.Side.{delay_through}
use Rattle.cts_merge.specs.Merge.{IsLeaf, IsMergePair, IsMerged, IsBeyond, pair_load_of, pair_delay_of}
use Rattle.cts_merge.specs.Laws.{LeafExists, SidesMergeOrAreBeyond}
use Rattle.cts_merge.proofs.Merges.{merge_pair_exists}
use Rattle.cts_merge.proofs.Regions.{Box, box_of}

-- the region of one spot
abbrev pub spot_region : Spot → Region
spot_region at = record {
  u1 = at.u;
  u2 = at.u;
  v1 = at.v;
  v2 = at.v;
  u_ordered = omega (arith, ints);
  v_ordered = omega (arith, ints);
}

only_spot : (at p : Spot) → ContainsSpot (spot_region at) p → p ≡ at
only_spot at p inside =
    spot_same p at (omega (arith, ints, inside.u_low, inside.u_high)) (omega (arith, ints, inside.v_low, inside.v_high))

own_spot : (at p : Spot) → p ≡ at → ContainsSpot (spot_region at) p
own_spot at p is =
    let u : p.u ≡ at.u = ap (λ (q : Spot). q.u) is in
    let v : p.v ≡ at.v = ap (λ (q : Spot). q.v) is in
    record {
      u_low = omega (arith, ints, u);
      u_high = omega (arith, ints, u);
      v_low = omega (arith, ints, v);
      v_high = omega (arith, ints, v);
    }

-- the leaf of a sink
abbrev pub sink_leaf : Sink → Finished
sink_leaf sink = record {
  side = record { greatest = 2 * sink.offset; load = sink.cap; region = spot_region (spot_at sink.x sink.y) };
  ea = 0;
  eb = 0;
  buffer = None;
}

pub sink_leaf_is : (sink : Sink) → IsLeaf sink (sink_leaf sink)
sink_leaf_is sink = record {
  greatest = refl;
  load = refl;
  region = λ p. (only_spot (spot_at sink.x sink.y) p, own_spot (spot_at sink.x sink.y) p);
  ea = refl;
  eb = refl;
  buffer = refl;
}

pub leaf_there : LeafExists
leaf_there sink = (sink_leaf sink, sink_leaf_is sink)

-- the pair of two sides by their least pair of lengths, within the limits on these and on the load
module _ (params : Params) (a b : Side) (ea eb : ℕ) (least : IsMergePair params.wire a b ea eb)
    (ea_within : ea ≤ max_length) (eb_within : eb ≤ max_length) (load_within : pair_load_of params.wire a b ea eb ≤ max_load) where
  pair_or_slow : (choice : Option ℕ) → IsBufferChoice params (pair_load_of params.wire a b ea eb) choice
      → (region : Region) → IsMeet a.region ea b.region eb region
      → ((pair : Finished) × IsMerged params a b pair) ⊎ IsBeyond params a b
  pair_or_slow choice chosen region meet =
      let load : ℕ = pair_load_of params.wire a b ea eb in
      let greatest : ℕ = pair_delay_of params.wire a b ea eb + added_delay_of params.library choice load in
      elim (cases_lt max_delay greatest) [
        | inl over ↦
            inr (record {
              ea = ea;
              eb = eb;
              least = least;
              over = inr (inr (inr (record { buffer = choice; choice = chosen; over = over })));
            })
        | inr within ↦
            inl (
              record {
                side = record { greatest = greatest; load = seen_load_of params.library choice load; region = region };
                ea = ea;
                eb = eb;
                buffer = choice;
              },
              record {
                least = least;
                region = meet;
                buffer = chosen;
                load = refl;
                greatest = refl;
                ea_within = ea_within;
                eb_within = eb_within;
                load_within = load_within;
                greatest_within = omega arith;
              },
            )
      ]

pub merged_or_beyond : SidesMergeOrAreBeyond
merged_or_beyond params a b ok =
    let pair : HasLeastPair (delay_through params.wire a) (delay_through params.wire b) (Spans (gap_of a.region b.region)) =
    merge_pair_exists params.wire a b (gap_of a.region b.region) ok in
    let load : ℕ = pair_load_of params.wire a b pair.ea pair.eb in
    let choice = choice_exists params load in
    let box : Box a.region pair.ea b.region pair.eb =
    box_of a.region pair.ea b.region pair.eb (omega (arith, pair.least.admissible)) in
    elim (cases_lt max_length pair.ea) [
      | inl long ↦ inr (record { ea = pair.ea; eb = pair.eb; least = pair.least; over = inl long })
      | inr ea_within ↦ elim (cases_lt max_length pair.eb) [
        | inl long ↦ inr (record { ea = pair.ea; eb = pair.eb; least = pair.least; over = inr (inl long) })
        | inr eb_within ↦ elim (cases_lt max_load load) [
          | inl heavy ↦ inr (record { ea = pair.ea; eb = pair.eb; least = pair.least; over = inr (inr (inl heavy)) })
          | inr load_within ↦
              pair_or_slow params a b pair.ea pair.eb pair.least (omega arith) (omega arith) (omega arith)
              (choice.0) (choice.1) box.region box.meet
        ]
      ]
    ]
