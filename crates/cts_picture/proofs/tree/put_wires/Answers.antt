use Rattle.std.proofs.Common.{◌-◌, ◌∙◌, map, sym, ap, subst}
use Rattle.std.proofs.lemmas.List.{length-map}
use Rattle.cts_io.specs.Text.{Puts}
use Rattle.cts_io.proofs.Chains.{◌▸◌}
use Rattle.cts_report_reader.specs.Nodes.{seen_node}
use Rattle.cts_picture.specs.Dots.{seen_dot}
use Rattle.cts_picture.proofs.Printing.{wires_in_print}
use Rattle.cts_picture.proofs.tree.put_wires.Goals as goal

pub returns : goal.returns
returns g c =
    subst
    (λ text. Puts g.K.ByteSink (c.args.sink.now, c.args.out.now) (c.put_wires_below.new.sink, c.put_wires_below.new.out) text)
    (wires_in_print c.args.scale.now (seen_dot c.args.source) (map seen_node c.args.nodes.now) c.saturating_sub-root.result
    (c.saturating_sub-root.ensures ∙ ap (λ n. n - 1) (sym (length-map c.args.nodes.now seen_node))))
    (c.put_wire_to.ensures ▸ c.put_wires_below.ensures)
