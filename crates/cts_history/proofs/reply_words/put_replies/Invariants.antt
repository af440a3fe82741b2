use Rattle.std.proofs.Common.{take}
use Rattle.std.specs.List.{flat_map}
use Rattle.cts_io.specs.Text.{Puts}
use Rattle.cts_history.specs.History.{reply_line}
use Rattle.cts_history.proofs.reply_words.put_replies.Given as goal

abbrev pub invariant-loop-reply : goal.invariant-loop-reply
invariant-loop-reply g l =
    Puts g.K.ByteSink (l.fn.sink, l.fn.out) (l.sink, l.out)
    (flat_map reply_line (take l.reply-index l.replies))
