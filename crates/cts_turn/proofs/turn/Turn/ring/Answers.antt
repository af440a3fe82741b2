use Rattle.std.proofs.Common.{◌+◌, ◌%◌, ◌^◌, arith}
use Rattle.cts_turn.proofs.Keeps.{rings}
use Rattle.cts_turn.proofs.turn.Turn.ring.Goals as goal

pub fetch_add-requires : goal.fetch_add-requires
fetch_add-requires g c = (
  c.requires.own,
  omega (arith, c.args.self.now.sized.0, c.bell_of-bell.ensures.bell.1),
  rings g.O.Object.told g.O.Object.base _ _ _ _ _ (λ n. (n + 1) % 2 ^ 64) c.bell_of-bell.ensures.bell.0,
)
