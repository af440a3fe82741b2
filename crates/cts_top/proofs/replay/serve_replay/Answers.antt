use Rattle.std.proofs.Common.{subst}
use Rattle.cts_top.specs.Replay.{TellsReplay}
use Rattle.cts_top.specs.Written.{Answers}
use Rattle.cts_top.proofs.Serving.{serves_replay}
use Rattle.cts_top.proofs.replay.serve_replay.Goals as goal

pub returns-clause-serves : goal.returns-clause-serves
returns-clause-serves g c =
    serves_replay _ _ c.answer_replay.result c.in_ok-instance.instance c.in_ok-instance.asked.items c.in_ok-instance.ensures.end
    c.in_ok-instance.ensures.spells c.in_ok-instance.ensures.counted
    (subst (λ asked. Answers (TellsReplay c.in_ok-instance.instance asked) g.K.ByteSink.held g.K.ByteSink.faults c.args.sink.now c.answer_replay.new.sink c.answer_replay.result)
    c.deref.ensures.value c.answer_replay.ensures)
