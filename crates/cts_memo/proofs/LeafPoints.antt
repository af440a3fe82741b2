-- The point of a leaf's region, and the key of the leaf.
use Rattle.std.proofs.Common.{◌≡◌, ℕ, ℤ, ◌+ℤ◌, ◌-ℤ◌, ap, refl, arith}
use Rattle.std.proofs.lemmas.Int.{ints}
use Rattle.cts_geom.specs.declared.points.Spot.{Spot}
use Rattle.cts_geom.specs.Points.{spot_at}
use Rattle.cts_units.specs.declared.params.Sink.{Sink}
use Rattle.cts_merge.specs.declared.side.Finished.{Finished}
use Rattle.cts_merge.specs.Merge.{IsLeaf}
use Rattle.cts_memo.specs.declared.key.Key.TheVariants.{Leaf}
use Rattle.cts_memo.specs.Keys.{leaf_key}

module _ (sink : Sink) (f : Finished) (leaf : IsLeaf sink f) where
  -- the least corner of the region is in it, so it is the point of the sink
  corner : record { u = f.side.region.u1; v = f.side.region.v1 } ≡ spot_at sink.x sink.y
  corner =
      let inside = (leaf.region (spot_at sink.x sink.y)).1 refl in
      (leaf.region (record { u = f.side.region.u1; v = f.side.region.v1 })).0 (record {
        u_low = omega (arith, ints);
        u_high = omega (arith, ints, inside.u_low, inside.u_high);
        v_low = omega (arith, ints);
        v_high = omega (arith, ints, inside.v_low, inside.v_high);
      })

  pub leaf_u : f.side.region.u1 ≡ sink.x +ℤ sink.y
  leaf_u = ap (λ (p : Spot). p.u) corner

  pub leaf_v : f.side.region.v1 ≡ sink.x -ℤ sink.y
  leaf_v = ap (λ (p : Spot). p.v) corner

-- a leaf's key is that of a sink with its numbers
pub key_of_numbers : (sink : Sink) (x y : ℤ) (cap offset : ℕ) → x ≡ sink.x → y ≡ sink.y → cap ≡ sink.cap → offset ≡ sink.offset
    → Leaf x y cap offset ≡ leaf_key sink
key_of_numbers sink x y cap offset at_x at_y same_cap same_offset = λ i. Leaf (at_x i) (at_y i) (same_cap i) (same_offset i)
