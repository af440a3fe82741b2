use Rattle.cts_io.proofs.Chains.{◌▸◌}
use Rattle.cts_picture.specs.Legend.{counts_words}
use Rattle.cts_picture.proofs.legend.put_counts.Goals as goal

pub returns : goal.returns
unfolding counts_words
returns g c =
    c.put_total.ensures ▸ c.put_whole.ensures ▸ c.put_whole-2.ensures ▸ c.put.ensures
