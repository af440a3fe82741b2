use Rattle.std.proofs.Common.{sym, ◌∙◌}
use Rattle.cts_script.proofs.Limits.{room_left}
use Rattle.cts_script.proofs.replay.moving_of.Goals as goal

pub returns-clause-room : goal.returns-clause-room
returns-clause-room c = room_left _ _ _ _ _ (sym c.limited.ensures.read ∙ c.in_ok-limited.was)
