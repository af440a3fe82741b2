use Rattle.std.proofs.Common.{sym, ap, ◌∙◌}
use Rattle.cts_undo.specs.Replay.{State, opening}
use Rattle.cts_undo.proofs.Going.{steps_base}
use Rattle.cts_top.proofs.replay.play.Goals as goal

pub version_after-requires : goal.version_after-requires
version_after-requires c =
    sym (ap (λ (s : State). s.base) c.in_ok-replayed.ensures.state ∙ steps_base (opening c.args.instance.now) c.args.asked.now)
