use Rattle.std.proofs.Common.{ℕ, ◌*◌, ◌^◌, ◌≤◌, refl, arith}
use Rattle.std.proofs.Math.Nat.{mul-le-mul}
use Rattle.cts_elmore.proofs.subtree.through_wire.Goals as goal

-- what the wire adds to a load
product : (unit length : ℕ) → unit ≤ 10 ^ 6 → length ≤ 2 ^ 31 → unit * length ≤ 10 ^ 6 * 2 ^ 31
product unit length low short = mul-le-mul low short

pub returns-then-length-gt-MAX_LENGTH-clause-branch : goal.returns-then-length-gt-MAX_LENGTH-clause-branch
returns-then-length-gt-MAX_LENGTH-clause-branch c = omega arith

pub wire_delay-delay-requires-clause-length : goal.wire_delay-delay-requires-clause-length
wire_delay-delay-requires-clause-length c = omega arith

pub wire_delay-delay-requires-clause-load : goal.wire_delay-delay-requires-clause-load
wire_delay-delay-requires-clause-load c = c.requires.part.seen

pub overflow_mul-result : goal.overflow_mul-result
overflow_mul-result c = omega (arith, product c.args.wire.c c.args.length c.requires.wire.c_high (omega arith))

pub overflow_add-result : goal.overflow_add-result
overflow_add-result c = omega (arith, product c.args.wire.c c.args.length c.requires.wire.c_high (omega arith))

pub overflow_add-result-2 : goal.overflow_add-result-2
overflow_add-result-2 c = omega arith

pub overflow_add-result-3 : goal.overflow_add-result-3
overflow_add-result-3 c = omega arith

pub overflow_add-result-4 : goal.overflow_add-result-4
overflow_add-result-4 c = omega arith

pub overflow_add-result-5 : goal.overflow_add-result-5
overflow_add-result-5 c = omega arith

pub overflow_add-result-6 : goal.overflow_add-result-6
overflow_add-result-6 c = omega arith

pub returns-clause-branch : goal.returns-clause-branch
returns-clause-branch c = record {
  load = refl;
  wires = refl;
  greatest = cc;
  least = cc;
  delay_greatest = cc;
  delay_least = cc;
  bound = refl;
}

pub returns-clause-in_range : goal.returns-clause-in_range
returns-clause-in_range c = record {
  load = omega (arith, product c.args.wire.c c.args.length c.requires.wire.c_high (omega arith));
  wires = omega arith;
  greatest = omega arith;
  least = omega arith;
  delay_greatest = omega arith;
  delay_least = omega arith;
  bound = omega arith;
}

pub returns-clause-within : goal.returns-clause-within
returns-clause-within c = omega arith
