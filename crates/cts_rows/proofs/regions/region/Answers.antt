use Rattle.std.proofs.Common.{arith}
use Rattle.std.proofs.lemmas.Int.{ints}
use Rattle.cts_rows.proofs.regions.region.Goals as goal

pub returns : goal.returns
returns c = record {
  u1 = record { low = omega (arith, ints); high = omega (arith, ints) };
  u2 = record { low = omega (arith, ints); high = omega (arith, ints) };
  v1 = record { low = omega (arith, ints); high = omega (arith, ints) };
  v2 = record { low = omega (arith, ints); high = omega (arith, ints) };
}
