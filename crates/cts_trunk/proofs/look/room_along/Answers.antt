use Rattle.std.proofs.Common.{◌≡◌, ◌<ℤ◌, arith}
use Rattle.std.proofs.lemmas.Int.{ints}
use Rattle.cts_trunk.proofs.Ahead.{ahead_up, ahead_down, ahead_level}
use Rattle.cts_trunk.proofs.look.room_along.Goals as goal

pub returns-then-from-to-clause-inside : goal.returns-then-from-to-clause-inside
returns-then-from-to-clause-inside c = λ e d at_is short.
    let block = c.args.block.now in
    let rises : c.args.from.y <ℤ c.args.to.y = omega (arith, ints, c.if-from-to.true) in
    ahead_up block.y1 block.y2 c.args.from.y c.args.to.y c.args.at.y e d rises at_is
    c.requires.inside.y (omega (arith, ints, short))

pub returns-then-to-from-clause-inside : goal.returns-then-to-from-clause-inside
returns-then-to-from-clause-inside c = λ e d at_is short.
    let block = c.args.block.now in
    let falls : c.args.to.y <ℤ c.args.from.y = grind (arith, ints) in
    ahead_down block.y1 block.y2 c.args.from.y c.args.to.y c.args.at.y e d falls at_is
    c.requires.inside.y (omega (arith, ints, short))

pub returns-else-to-from-clause-inside : goal.returns-else-to-from-clause-inside
returns-else-to-from-clause-inside c = λ e d at_is short.
    let block = c.args.block.now in
    let level : c.args.from.y ≡ c.args.to.y = omega (arith, ints, c.if-from-to.false, c.if-to-from.false) in
    ahead_level block.y1 block.y2 c.args.from.y c.args.to.y c.args.at.y e d level at_is c.requires.inside.y
