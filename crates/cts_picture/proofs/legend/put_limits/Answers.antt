use Rattle.cts_io.proofs.Chains.{◌▸◌}
use Rattle.cts_picture.specs.Legend.{limits_words}
use Rattle.cts_picture.proofs.legend.put_limits.Goals as goal

pub returns : goal.returns
unfolding limits_words
returns g c =
    c.put_time.ensures ▸ c.put_met.ensures ▸ c.put_met-2.ensures
