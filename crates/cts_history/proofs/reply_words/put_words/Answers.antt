use Rattle.std.proofs.Common.{subst}
use Rattle.cts_io.proofs.Chains.{◌▸◌}
use Rattle.cts_history.specs.History.{IsPrintableReply}
use Rattle.cts_history.proofs.reply_words.put_words.Goals as goal

pub put_tree-requires : goal.put_tree-requires
put_tree-requires g c = subst IsPrintableReply c.in-Drew.is c.requires

pub returns-in-Edited : goal.returns-in-Edited
returns-in-Edited g c = rw c.in-Edited.is (c.put_count.ensures ▸ c.put_changed.ensures)

pub returns-in-Drew : goal.returns-in-Drew
returns-in-Drew g c = rw c.in-Drew.is (c.put_count-in-Drew.ensures ▸ c.put_tree.ensures)

pub returns-in-NoTree : goal.returns-in-NoTree
returns-in-NoTree g c = rw c.in-NoTree.is (c.put_count-in-NoTree.ensures ▸ c.put_no_tree.ensures)
