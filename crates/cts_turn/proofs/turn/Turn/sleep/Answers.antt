use Rattle.std.proofs.Common.{bit_or, arith}
use Rattle.cts_turn.proofs.Keeps.{rings}
use Rattle.cts_turn.proofs.turn.Turn.sleep.Goals as goal

pub fetch_or-odd-requires : goal.fetch_or-odd-requires
fetch_or-odd-requires g c = (
  c.requires.own,
  omega (arith, c.args.self.now.sized.0, c.bell_of-bell.ensures.bell.1),
  rings g.O.Object.told g.O.Object.base _ _ _ _ _ (λ n. bit_or n 1) c.bell_of-bell.ensures.bell.0,
)
