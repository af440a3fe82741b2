use Rattle.std.proofs.Common.{rules, ◌++◌, Err, subst}
use Rattle.cts_tree_workers.specs.Balancing.{IsBalancedBy}
use Rattle.cts_tree_workers.proofs.Balancing.{ended_front, ended_back, named, number_fits, some_each, joined}
use Rattle.cts_tree_workers.proofs.balance.BalanceHalved.join.Goals as goal

pub returns-in_err-left : goal.returns-in_err-left
returns-in_err-left c fronts backs cut is_front is_back =
    let told : IsBalancedBy c.args.self.now c.args.part.now (fronts ++ backs ++ c.args._own.now)
    (c.args.front.now ++ c.args.back.now ++ c.args._own.now) (Err c.in_err-left.field-0.0) =
    ended_front c.args.self.now c.args.part.now c.args._first.now c.args._second.now fronts backs c.args._own.now c.args.buffer cut
    c.args.front.now c.args.back.now c.in_err-left.field-0.0
    (subst (IsBalancedBy c.args.self.now c.args._first.now fronts c.args.front.now) c.in_err-left.was is_front)
    (c.args.front.now ++ c.args.back.now ++ c.args._own.now) in
    search rules

pub returns-in_err-right : goal.returns-in_err-right
returns-in_err-right c fronts backs cut is_front is_back =
    let told : IsBalancedBy c.args.self.now c.args.part.now (fronts ++ backs ++ c.args._own.now)
    (c.args.front.now ++ c.args.back.now ++ c.args._own.now) (Err c.in_err-right.field-0.0) =
    ended_back c.args.self.now c.args.part.now c.args._first.now c.args._second.now fronts backs c.args._own.now c.args.buffer cut
    c.args.front.now c.args.back.now c.in_ok-left.left c.in_err-right.field-0.0
    (subst (IsBalancedBy c.args.self.now c.args._first.now fronts c.args.front.now) c.in_ok-left.was is_front)
    (subst (IsBalancedBy c.args.self.now c.args._second.now backs c.args.back.now) c.in_err-right.was is_back)
    (c.args.front.now ++ c.args.back.now ++ c.args._own.now) in
    search rules

pub overflow_cast-root : goal.overflow_cast-root
overflow_cast-root c =
    let long = number_fits c.args.self.now c.args.part.now c.args._first.now c.args._second.now c.requires.0 c.requires.1 c.args._own.now
    c.args.buffer c.requires.2 c.args.front.now c.args.back.now c.in_ok-left.left c.in_ok-right.right
    (subst (IsBalancedBy c.args.self.now c.args._first.now c.requires.0 c.args.front.now) c.in_ok-left.was c.requires.3)
    (subst (IsBalancedBy c.args.self.now c.args._second.now c.requires.1 c.args.back.now) c.in_ok-right.was c.requires.4) in
    search rules

pub balance_root-requires-clause-buffer : goal.balance_root-requires-clause-buffer
balance_root-requires-clause-buffer c =
    named c.args.self.now c.args.part.now c.args._first.now c.args._second.now c.requires.0 c.requires.1 c.args._own.now c.args.buffer
    c.requires.2 c.args.front.now c.args.back.now c.params.result.now c.params.ensures.part

pub balance_root-requires-clause-some : goal.balance_root-requires-clause-some
balance_root-requires-clause-some c =
    some_each c.args.self.now c.args.part.now c.args._first.now c.args._second.now c.requires.0 c.requires.1 c.args._own.now c.args.buffer
    c.requires.2 c.args.front.now c.args.back.now c.in_ok-left.left c.in_ok-right.right
    (subst (IsBalancedBy c.args.self.now c.args._first.now c.requires.0 c.args.front.now) c.in_ok-left.was c.requires.3)
    (subst (IsBalancedBy c.args.self.now c.args._second.now c.requires.1 c.args.back.now) c.in_ok-right.was c.requires.4)

pub returns : goal.returns
returns c fronts backs cut is_front is_back =
    joined c.args.self.now c.args.part.now c.args._first.now c.args._second.now fronts backs c.args._own.now c.args.buffer cut
    c.args.front.now c.args.back.now c.in_ok-left.left c.in_ok-right.right
    (subst (IsBalancedBy c.args.self.now c.args._first.now fronts c.args.front.now) c.in_ok-left.was is_front)
    (subst (IsBalancedBy c.args.self.now c.args._second.now backs c.args.back.now) c.in_ok-right.was is_back)
    c.params.result.now c.params.ensures.part c.params.ensures.valid c.balance_root.new.front c.balance_root.new.back
    c.balance_root.result c.balance_root.ensures.wired c.balance_root.ensures.over
