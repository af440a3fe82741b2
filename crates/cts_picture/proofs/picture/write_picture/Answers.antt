use Rattle.std.proofs.Common.{◌≡◌, ◌∙◌, length, map, All, sym, ap, ap₂, subst}
use Rattle.cts_io.specs.Text.{Writes}
use Rattle.cts_io.proofs.Chains.{◌▸◌, written}
use Rattle.cts_units.specs.declared.params.Sink.{Sink}
use Rattle.cts_report_reader.specs.Nodes.{seen_node}
use Rattle.cts_report_reader.specs.Totals.{seen_totals}
use Rattle.cts_picture.specs.Dots.{seen_dot}
use Rattle.cts_picture.specs.Drawable.{IsPlace}
use Rattle.cts_picture.specs.Frame.{frame_of, height_on_page}
use Rattle.cts_picture.specs.Picture.{frame_for}
use Rattle.cts_picture.specs.Wires.{scale_of}
use Rattle.cts_picture.proofs.Whole.{sinks_in_place, whole_picture}
use Rattle.cts_picture.proofs.picture.write_picture.Goals as goal

pub put_marks-requires-clause-sinks : goal.put_marks-requires-clause-sinks
put_marks-requires-clause-sinks g c =
    subst (λ sinks. All (λ (pin : Sink). IsPlace pin.x pin.y) sinks) (sym c.sinks-sinks.ensures.part)
    (sinks_in_place c.args.instance.now c.sinks-sinks.ensures.valid)

pub returns : goal.returns
returns g c =
    let framed : c.frame_of-frame.result ≡ frame_for c.args.instance.now =
    c.frame_of-frame.ensures.same
    ∙ ap₂ (λ die sinks. frame_of die (length sinks)) c.die.ensures.part c.sinks-sinks.ensures.part in
    let scaled : c.scale_of-scale.result ≡ scale_of (map seen_node c.args.report.now.nodes.items) (seen_totals c.args.report.now.totals) =
    c.scale_of-scale.ensures.same
    ∙ ap (λ nodes. scale_of (map seen_node nodes) (seen_totals c.args.report.now.totals)) c.as_slice-nodes.ensures.value in
    subst
    (λ text. Writes g.K.ByteSink.held g.K.ByteSink.faults c.args.sink.now c.finish.new.sink text c.finish.result)
    (whole_picture c.args.instance.now c.args.report.now c.frame_of-frame.result c.blocks-2.result.now c.scale_of-scale.result
    (seen_dot c.source_of-source.result) c.as_slice-nodes.result.now c.sinks-sinks.result.now c.height_on_page.result
    framed c.blocks-2.ensures.part scaled c.source_of-source.ensures.seen
    c.as_slice-nodes.ensures.value c.sinks-sinks.ensures.part
    (c.height_on_page.ensures.same ∙ ap height_on_page framed))
    (written c.new-out.ensures
    (c.put_sheet.ensures ▸ c.put_wires.ensures ▸ c.put_marks.ensures ▸ c.put_legend.ensures)
    c.finish.ensures)
