use Rattle.cts_io.proofs.Chains.{◌▸◌, written}
use Rattle.cts_top.specs.Text.{no_tree_text}
use Rattle.cts_top.proofs.answer.write_no_tree.Goals as goal

pub returns : goal.returns
unfolding no_tree_text
returns g c =
    written c.new-out.ensures (c.put.ensures ▸ c.put-2.ensures ▸ c.put_numbered.ensures ▸ c.put-3.ensures) c.finish.ensures
