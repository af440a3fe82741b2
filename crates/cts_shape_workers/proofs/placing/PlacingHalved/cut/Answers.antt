use Rattle.std.proofs.Common.{refl}
use Rattle.cts_shape_workers.proofs.Branches.{left_cut, right_cut, one_left}
use Rattle.cts_shape_workers.proofs.placing.PlacingHalved.cut.Goals as goal

pub returns-clause-front : goal.returns-clause-front
returns-clause-front c =
    left_cut c.args.self.now c.args.part.now c.in_ok-front.front c.in_ok-front.back c.in-Ok.node
    (c.in_ok-front.ensures c.in-Ok.node refl c.in-Ok.ensures.placed) c.args._room.now c.requires

pub returns-clause-back : goal.returns-clause-back
returns-clause-back c =
    right_cut c.args.self.now c.args.part.now c.in_ok-front.front c.in_ok-front.back c.in-Ok.node
    (c.in_ok-front.ensures c.in-Ok.node refl c.in-Ok.ensures.placed) c.args._room.now c.requires

pub returns-clause-cut : goal.returns-clause-cut
returns-clause-cut c = (
  c.in_ok-front.ensures c.in-Ok.node refl c.in-Ok.ensures.placed,
  one_left c.args.self.now c.args.part.now c.in_ok-front.front c.in_ok-front.back c.in-Ok.node
      (c.in_ok-front.ensures c.in-Ok.node refl c.in-Ok.ensures.placed) c.args._room.now c.requires,
)
