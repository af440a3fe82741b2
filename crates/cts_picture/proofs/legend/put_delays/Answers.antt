use Rattle.cts_io.proofs.Chains.{◌▸◌}
use Rattle.cts_picture.specs.Legend.{delays_words}
use Rattle.cts_picture.proofs.legend.put_delays.Goals as goal

pub returns : goal.returns
unfolding delays_words
returns g c =
    c.put_time.ensures ▸ c.put_time-2.ensures ▸ c.put.ensures
