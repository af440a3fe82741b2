-- Spots whose points are seen.
use Rattle.std.proofs.Common.{arith}
use Rattle.std.proofs.lemmas.Int.{ints}
use Rattle.cts_geom.specs.declared.points.Spot.{Spot}
use Rattle.cts_geom.specs.Points.{IsSpotInRange, point_of}
use Rattle.cts_report_reader.specs.Seen.{IsSeen}

pub spot_in_range : (p : Spot) → IsSeen (point_of p) → IsSpotInRange p
spot_in_range p seen = record {
  u = record {
    low = omega (arith, ints, seen.x.0, seen.x.1, seen.y.0, seen.y.1);
    high = omega (arith, ints, seen.x.0, seen.x.1, seen.y.0, seen.y.1);
  };
  v = record {
    low = omega (arith, ints, seen.x.0, seen.x.1, seen.y.0, seen.y.1);
    high = omega (arith, ints, seen.x.0, seen.x.1, seen.y.0, seen.y.1);
  };
}
