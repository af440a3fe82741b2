use Rattle.std.proofs.Common.{arith}
use Rattle.cts_embed.proofs.upward.pair_balance.Goals as goal

pub returns-clause-pair : goal.returns-clause-pair
returns-clause-pair c = record {
  wires = c.in_ok-left_wire.ensures.wires;
  load = c.buffered-added.ensures.seen;
  greatest = cc;
  least = cc;
  total = cc;
  left_within = c.in_ok-left_wire.ensures.left_within;
  right_within = c.in_ok-left_wire.ensures.right_within;
  load_within = omega arith;
  greatest_within = omega arith;
}
