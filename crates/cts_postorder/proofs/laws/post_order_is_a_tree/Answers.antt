use Rattle.cts_postorder.proofs.Statements.{post_order_is_a_tree_lem}
use Rattle.cts_postorder.proofs.laws.post_order_is_a_tree.Goals as goal

pub returns : goal.returns
returns g c = post_order_is_a_tree_lem _
