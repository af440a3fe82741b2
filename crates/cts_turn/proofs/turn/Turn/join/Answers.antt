use Rattle.std.proofs.Common.{rules, arith}
use Rattle.cts_turn.proofs.Keeps.{joins, compares}
use Rattle.cts_turn.proofs.turn.Turn.join.Goals as goal

pub join_seat-requires : goal.join_seat-requires
join_seat-requires g c =
    let a = c.requires.own.0 in
    let b = c.requires.own.1 in (
      a.own,
      b.own,
      b.holds,
      search rules,
      joins g.O.Object.told g.O.Object.base _ _ _ _ _ a.waits a.in_turn (omega (arith, a.share, a.some)) b.waits b.in_turn,
    )

pub load-requires : goal.load-requires
load-requires g c = (
  search rules,
  search rules,
  compares g.O.Object.told g.O.Object.base _ _ _ _,
)
