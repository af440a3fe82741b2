use Rattle.std.proofs.Common.{map, ap, ◌∙◌}
use Rattle.cts_io.proofs.Chains.{◌▸◌}
use Rattle.cts_report_reader.specs.Nodes.{seen_node}
use Rattle.cts_picture.specs.Legend.{buffer_count, greatest_slew, legend_text}
use Rattle.cts_picture.proofs.legend.put_legend.Goals as goal

pub returns : goal.returns
unfolding legend_text
returns g c =
    let counted = c.buffer_count.ensures ∙ ap (λ nodes. buffer_count (map seen_node nodes)) c.as_slice-nodes.ensures.value in
    let slowest = c.greatest_slew.ensures.same ∙ ap (λ nodes. greatest_slew (map seen_node nodes)) c.as_slice-nodes.ensures.value in
    c.put_bar_words.ensures ▸ (rw counted at c.put_counts.ensures) ▸ c.put_delays.ensures
    ▸ (rw slowest at c.put_limits.ensures) ▸ c.put_skew.ensures ▸ c.put_arrivals.ensures ▸ c.put_classes.ensures
