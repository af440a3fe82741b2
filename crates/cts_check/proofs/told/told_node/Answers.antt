use Rattle.cts_check.proofs.ToldNodes.{node_told}
use Rattle.cts_check.proofs.told.told_node.Goals as goal

pub returns-clause-told : goal.returns-clause-told
returns-clause-told c = λ sinks keys. node_told sinks c.args.node.now c.told_kind.result c.place_at.result c.from.result c.replace.result
    c.requires.node.seen.corners (c.told_kind.ensures sinks keys) c.place_at.ensures c.from.ensures c.replace.ensures.value
