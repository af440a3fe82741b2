use Rattle.cts_io.proofs.Chains.{◌▸◌}
use Rattle.cts_picture.specs.Legend.{skew_words}
use Rattle.cts_picture.proofs.legend.put_skew.Goals as goal

pub returns : goal.returns
unfolding skew_words
returns g c =
    c.put_time.ensures ▸ c.put_time-2.ensures ▸ c.put.ensures
