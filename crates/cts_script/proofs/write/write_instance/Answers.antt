use Rattle.std.proofs.Common.{codes, subst}
use Rattle.std.specs.List.{concat}
use Rattle.cts_io.specs.Text.{Puts}
use Rattle.cts_io.proofs.Chains.{◌▸◌, written}
use Rattle.cts_script.specs.Text.{instance_lines, line_of, list_lines, sink_line}
use Rattle.cts_script.proofs.Lists.{text_by_lists}
use Rattle.cts_script.proofs.write.write_instance.Goals as goal

pub returns : goal.returns
unfolding instance_lines line_of
returns g c =
    let sinks =
    subst (λ version. Puts g.K.ByteSink (c.put_buffers.new.sink, c.put_buffers.new.out) (c.put_sinks.new.sink, c.put_sinks.new.out)
    (concat (list_lines (codes "sinks") (sink_line version) c.sinks.result.now))) c.version.ensures.part c.put_sinks.ensures in
    let text = c.put_head.ensures ▸ c.put_buffers.ensures ▸ sinks ▸ c.put_blocks.ensures ▸ c.put.ensures in
    rw (text_by_lists c.args.instance.now)
    (written c.new-out.ensures (simp (c.items.ensures, c.params.ensures.part, c.sinks.ensures.part, c.blocks-2.ensures.part) at text) c.finish.ensures)
