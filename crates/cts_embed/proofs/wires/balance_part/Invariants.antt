use Rattle.std.proofs.Common.{◌≡◌, drop}
use Rattle.std.specs.Slice.Iter.{iter_rest}
use Rattle.cts_elmore.specs.Loads.{leaf_pins}
use Rattle.cts_embed.proofs.Ascent.{IsAscent}
use Rattle.cts_embed.proofs.wires.balance_part.Given as goal

abbrev pub invariant-loop-number : goal.invariant-loop-number
invariant-loop-number l = record {
  ascent : IsAscent l.instance l.fn.first l.fn.nodes l.number l.waiting.items l.nodes;
  left : iter_rest l.leaves ≡ leaf_pins l.instance (drop l.number l.fn.nodes);
}
