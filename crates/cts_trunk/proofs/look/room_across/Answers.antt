use Rattle.std.proofs.Common.{◌≡◌, ◌<ℤ◌, arith}
use Rattle.std.proofs.lemmas.Int.{ints}
use Rattle.cts_trunk.proofs.Ahead.{ahead_up, ahead_down, ahead_level}
use Rattle.cts_trunk.proofs.look.room_across.Goals as goal

pub returns-then-from-to-clause-inside : goal.returns-then-from-to-clause-inside
returns-then-from-to-clause-inside c = λ e d at_is short.
    let block = c.args.block.now in
    let rises : c.args.from.x <ℤ c.args.to.x = omega (arith, ints, c.if-from-to.true) in
    ahead_up block.x1 block.x2 c.args.from.x c.args.to.x c.args.at.x e d rises at_is
    c.requires.inside.x (omega (arith, ints, short))

pub returns-then-to-from-clause-inside : goal.returns-then-to-from-clause-inside
returns-then-to-from-clause-inside c = λ e d at_is short.
    let block = c.args.block.now in
    let falls : c.args.to.x <ℤ c.args.from.x = grind (arith, ints) in
    ahead_down block.x1 block.x2 c.args.from.x c.args.to.x c.args.at.x e d falls at_is
    c.requires.inside.x (omega (arith, ints, short))

pub returns-else-to-from-clause-inside : goal.returns-else-to-from-clause-inside
returns-else-to-from-clause-inside c = λ e d at_is short.
    let block = c.args.block.now in
    let level : c.args.from.x ≡ c.args.to.x = omega (arith, ints, c.if-from-to.false, c.if-to-from.false) in
    ahead_level block.x1 block.x2 c.args.from.x c.args.to.x c.args.at.x e d level at_is c.requires.inside.x
