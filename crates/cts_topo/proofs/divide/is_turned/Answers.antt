-- Either of the two lists is the one along x.
use Rattle.std.proofs.Common.{sym, ap, ◌∙◌, arith}
use Rattle.cts_topo.specs.Topology.{turned}
use Rattle.cts_topo.proofs.Shuffles.{turned_round, length-Shuffled}
use Rattle.cts_topo.proofs.Extents.{is_wide-Shuffled}
use Rattle.cts_topo.proofs.divide.is_turned.Goals as goal

pub is_wide-requires-else-wide-clause-some : goal.is_wide-requires-else-wide-clause-some
is_wide-requires-else-wide-clause-some c = omega (arith, length-Shuffled c.requires.same, c.requires.some)

pub is_wide-requires-else-wide-clause-same : goal.is_wide-requires-else-wide-clause-same
is_wide-requires-else-wide-clause-same c = turned_round c.requires.same

pub returns-else-wide : goal.returns-else-wide
returns-else-wide c =
    c.is_wide-else-wide.ensures ∙ sym (is_wide-Shuffled c.requires.same) ∙ ap (λ w. turned w c.args.along.now) (sym c.if-wide.false)
