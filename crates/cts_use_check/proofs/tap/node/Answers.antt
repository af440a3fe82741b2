use Rattle.std.proofs.Common.{arith}
use Rattle.std.proofs.lemmas.Int.{ints}
use Rattle.cts_use_check.proofs.tap.node.Goals as goal

pub returns-clause-printable : goal.returns-clause-printable
returns-clause-printable c = record {
  in_range = record {
    u = record { low = omega (arith, ints); high = omega (arith, ints) };
    v = record { low = omega (arith, ints); high = omega (arith, ints) };
  };
  place = record { x = omega (arith, ints); y = omega (arith, ints) };
  corners = c.requires;
}
