-- Both parts are placed, and the root; or a node of one of them is cut.
use Rattle.std.proofs.Common.{rules, ◌++◌, Err, subst}
use Rattle.cts_shape_workers.specs.Placing.{ArePlacedBy}
use Rattle.cts_shape_workers.proofs.Branches.{both_placed, left_ended, right_ended}
use Rattle.cts_shape_workers.proofs.placing.PlacingHalved.join.Goals as goal

pub returns-in_err-b : goal.returns-in_err-b
returns-in_err-b c fronts backs cut left right =
    let told : ArePlacedBy c.args.self.now c.args._part.now (c.args._front.now ++ c.args._back.now ++ c.args.own.now) (Err c.in_err-b.field-0.0) =
    right_ended c.args.self.now c.args._part.now c.args._first.now c.args._second.now c.args.node (cut.0) c.args._back.now
    c.in_err-b.field-0.0 (subst (ArePlacedBy c.args.self.now c.args._second.now c.args._back.now) c.in_err-b.was right)
    (c.args._front.now ++ c.args._back.now ++ c.args.own.now) in
    search rules

pub returns-in_err-a : goal.returns-in_err-a
returns-in_err-a c fronts backs cut left right =
    let told : ArePlacedBy c.args.self.now c.args._part.now (c.args._front.now ++ c.args._back.now ++ c.args.own.now) (Err c.in_err-a.field-0.0) =
    left_ended c.args.self.now c.args._part.now c.args._first.now c.args._second.now c.args.node (cut.0) c.in_ok-b.field-0 c.args._front.now
    c.args._back.now c.in_err-a.field-0.0 (subst (ArePlacedBy c.args.self.now c.args._first.now c.args._front.now) c.in_err-a.was left)
    (subst (ArePlacedBy c.args.self.now c.args._second.now c.args._back.now) c.in_ok-b.was right)
    (c.args._front.now ++ c.args._back.now ++ c.args.own.now) in
    search rules

pub returns : goal.returns
returns c fronts backs cut left right =
    both_placed c.args.self.now c.args._part.now c.args._first.now c.args._second.now c.args.node (cut.0) c.in_ok-a.field-0 c.in_ok-b.field-0 c.args._front.now
    c.args._back.now c.args.own.now (cut.1) (subst (ArePlacedBy c.args.self.now c.args._first.now c.args._front.now) c.in_ok-a.was left)
    (subst (ArePlacedBy c.args.self.now c.args._second.now c.args._back.now) c.in_ok-b.was right)
