use Rattle.std.proofs.Common.{rules}
use Rattle.cts_turn.proofs.Keeps.{splits}
use Rattle.cts_turn.proofs.turn.Turn.split.Goals as goal

pub split_seat-other-requires : goal.split_seat-other-requires
split_seat-other-requires g c = (
  c.requires.own.own,
  search rules,
  splits g.O.Object.told g.O.Object.base _ _ _ c.requires.own.waits c.requires.own.in_turn,
)
