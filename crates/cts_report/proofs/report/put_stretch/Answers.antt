use Rattle.std.proofs.Common.{take_all, take, sym, ap, subst, ◌∙◌, ◌+◌, ◌++◌, arith, get_or}
use Rattle.std.specs.List.{concat}
use Rattle.cts_io.specs.Text.{Puts}
use Rattle.cts_io.proofs.Chains.{◌▸◌, puts_nothing}
use Rattle.cts_elmore.specs.declared.figures.NodeFigure.{NodeFigure}
use Rattle.cts_report.specs.Lines.{node_lines, node_line}
use Rattle.cts_report.specs.Report.{printed_nodes, printed_node}
use Rattle.cts_report.proofs.Numbered.{length-printed_nodes, lines_before_more}
use Rattle.cts_report.proofs.report.put_stretch.Goals as goal

-- what a list of figures gives past its end
abbrev no_figure : NodeFigure
no_figure = record { below = 0; offset = 0; residue = 0; delay = 0; stage = 0 }

pub loop-at-init : goal.loop-at-init
unfolding node_lines
loop-at-init g c = puts_nothing _ _

pub loop-at-preserved : goal.loop-at-preserved
loop-at-preserved g c =
    subst (λ text. Puts g.K.ByteSink (c.args.sink.now, c.args.out.now) (c.put_node.new.sink, c.put_node.new.out) text)
    (ap (λ node. concat (node_lines c.args.first (take c.loop-at.at (printed_nodes c.args.version c.args.nodes.now c.args.figures.now)))
    ++ node_line (c.args.first + c.loop-at.at) (printed_node c.args.version node (get_or c.args.figures.now c.loop-at.at no_figure)))
    c.index-nodes-at.is
    ∙ sym (lines_before_more c.args.version c.args.first c.args.nodes.now c.args.figures.now c.loop-at.at c.index-nodes-at.result no_figure
    c.requires.long c.loop-at-test.true))
    (c.loop-at.invariant ▸ c.put_node.ensures)

pub returns : goal.returns
returns g c =
    rw (sym (take_all c.loop-at.at (printed_nodes c.args.version c.args.nodes.now c.args.figures.now)
    (omega (arith, length-printed_nodes c.args.version c.args.nodes.now c.args.figures.now c.requires.long, c.loop-at-test.false))))
    c.loop-at.invariant
