use Rattle.cts_elmore.proofs.Join.{joined}
use Rattle.cts_elmore.proofs.Rising.{subtree_in_range}
use Rattle.cts_elmore.proofs.subtree.join_parts.Goals as goal

pub returns : goal.returns
returns c =
    joined c.args.instance.now c.args.buffer c.args.left c.args.right c.args.a.now c.args.b.now c.params-params.result.now c.params-params.ensures.part
    c.in_ok-a.a c.in_ok-b.b c.in_ok-a.ensures.branch c.in_ok-b.ensures.branch c.in_ok-a.ensures.within c.in_ok-b.ensures.within
    c.pair.result c.pair.ensures

pub through_wire-requires-clause-part : goal.through_wire-requires-clause-part
through_wire-requires-clause-part c =
    subtree_in_range c.args.instance.now c.params-params.ensures.valid c.requires.a.tree c.args.a.now c.requires.a.few c.requires.a.is

pub through_wire-requires-2-clause-part : goal.through_wire-requires-2-clause-part
through_wire-requires-2-clause-part c =
    subtree_in_range c.args.instance.now c.params-params.ensures.valid c.requires.b.tree c.args.b.now c.requires.b.few c.requires.b.is
