use Rattle.std.proofs.Common.{reverse, ap, ◌∙◌}
use Rattle.cts_report_reader.proofs.StackLists.{leaf_after}
use Rattle.cts_report_reader.proofs.node.push_leaf.Goals as goal

pub returns : goal.returns
returns c = ap reverse c.in_ok-push.ensures.items ∙ leaf_after c.args.stack.now.items c.args.number
