use Rattle.std.proofs.Common.{rules}
use Rattle.cts_turn.proofs.Keeps.{records}
use Rattle.cts_turn.proofs.turn.Turn.record.Goals as goal

pub swap-requires : goal.swap-requires
swap-requires g c = (
  c.requires.own,
  search rules,
  records g.O.Object.told g.O.Object.base _ _ _ _ _ g.J.Recorded.list c.requires.count c.requires.turn.0 c.requires.turn.1,
)
