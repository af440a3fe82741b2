use Rattle.std.proofs.Common.{sym, take_all, arith}
use Rattle.cts_io.specs.Text.{Puts}
use Rattle.cts_io.proofs.Chains.{◌▸◌, puts_nothing}
use Rattle.cts_history.proofs.Pieces.{texts_step}
use Rattle.cts_undo.specs.ReplayText.{replay_line}
use Rattle.cts_undo.proofs.write.put_lines.Goals as goal

pub loop-reply-init : goal.loop-reply-init
loop-reply-init g c = puts_nothing _ _

pub bounds-replies-reply-index : goal.bounds-replies-reply-index
bounds-replies-reply-index g c = omega arith

pub loop-reply-smaller : goal.loop-reply-smaller
loop-reply-smaller g c = omega arith

pub put_replay_reply-requires : goal.put_replay_reply-requires
put_replay_reply-requires g c = c.requires c.loop-reply.reply-index _ c.loop-reply-test.true

pub loop-reply-preserved : goal.loop-reply-preserved
loop-reply-preserved g c =
    texts_step (λ text. Puts g.K.ByteSink (c.args.sink.now, c.args.out.now) (c.put_replay_reply.new.sink, c.put_replay_reply.new.out) text)
    replay_line c.args.replies.now c.loop-reply.reply-index _ c.loop-reply-test.true (c.loop-reply.invariant ▸ c.put_replay_reply.ensures)

pub returns : goal.returns
returns g c =
    rw (sym (take_all c.loop-reply.reply-index c.args.replies.now (omega (arith, c.loop-reply-test.false)))) c.loop-reply.invariant
