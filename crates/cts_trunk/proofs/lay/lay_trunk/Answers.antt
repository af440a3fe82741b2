use Rattle.std.proofs.Common.{sym, subst}
use Rattle.cts_trunk.specs.Known.{IsRootKnown}
use Rattle.cts_trunk.proofs.Laying.{root_known}
use Rattle.cts_trunk.proofs.lay.lay_trunk.Goals as goal

pub lay_on-requires-clause-known : goal.lay_on-requires-clause-known
lay_on-requires-clause-known c =
    let i = c.args.instance.now in
    subst (λ nodes. IsRootKnown i nodes c.args.figures.now) (sym c.nodes.ensures.nodes)
    (root_known i c.args.tree.now c.nodes.ensures.post_order c.requires.sound c.args.figures.now c.requires.figures c.requires.fits
    c.requires.taut)
