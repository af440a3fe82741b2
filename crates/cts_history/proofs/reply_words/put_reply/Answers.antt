use Rattle.cts_io.proofs.Chains.{◌▸◌}
use Rattle.cts_script.specs.Text.{line_of}
use Rattle.cts_history.specs.History.{reply_line}
use Rattle.cts_history.proofs.reply_words.put_reply.Goals as goal

pub returns : goal.returns
unfolding reply_line line_of
returns g c = c.put.ensures ▸ c.put_words.ensures ▸ c.put-2.ensures
