use Rattle.cts_tree_workers.proofs.Gathering.{driven}
use Rattle.cts_tree_workers.proofs.gather.drive_within.Goals as goal

pub unreachable-requires : goal.unreachable-requires
unreachable-requires c = driven c.args.instance.now c.args.nodes.now c.requires.post_order c.requires.within c.in-None.ensures
