use Rattle.cts_io.proofs.Chains.{◌▸◌}
use Rattle.cts_picture.specs.Legend.{bar_words}
use Rattle.cts_picture.proofs.legend.put_bar_words.Goals as goal

pub returns : goal.returns
unfolding bar_words
returns g c =
    c.put_whole.ensures ▸ c.put_coordinate.ensures ▸ c.put.ensures
