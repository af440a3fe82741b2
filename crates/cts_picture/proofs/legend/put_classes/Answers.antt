use Rattle.cts_io.proofs.Chains.{◌▸◌}
use Rattle.cts_picture.specs.Legend.{classes_words}
use Rattle.cts_picture.proofs.legend.put_classes.Goals as goal

pub returns : goal.returns
unfolding classes_words
returns g c =
    c.put_time.ensures ▸ c.put.ensures ▸ c.put-2.ensures
