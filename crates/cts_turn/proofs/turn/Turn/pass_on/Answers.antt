use Rattle.std.proofs.Common.{◌+◌, ◌%◌, ◌^◌, ap, arith}
use Rattle.cts_turn.proofs.Keeps.{passes_on}
use Rattle.cts_turn.proofs.turn.Turn.pass_on.Goals as goal

pub store-requires : goal.store-requires
store-requires g c =
    let held = c.requires.holds in
    let turn = c.requires.turn in (
      c.requires.own,
      omega (arith, c.args.self.now.sized.0),
      passes_on g.O.Object.told g.O.Object.base _ _ _ _ _ held.0 c.args.self.now.sized.1 held.1 turn.0 turn.1 held.2 held.3
          (ap (λ n. (n + 1) % 2 ^ 64) turn.2),
    )
