use Rattle.cts_script.proofs.PlainSteps.{add_before, remove_before, move_before, cap_before, tree_alone}
use Rattle.cts_script.proofs.plain.plain_kind.Goals as goal

pub returns-in-Some : goal.returns-in-Some
returns-in-Some c = add_before c.args.bytes.now c.in-Some.rest.now c.in-Some.ensures

pub returns-in-Some-after_remove : goal.returns-in-Some-after_remove
returns-in-Some-after_remove c = remove_before c.args.bytes.now c.in-Some-after_remove.rest.now c.in-Some-after_remove.ensures

pub returns-in-Some-after_move : goal.returns-in-Some-after_move
returns-in-Some-after_move c = move_before c.args.bytes.now c.in-Some-after_move.rest.now c.in-Some-after_move.ensures

pub returns-in-Some-after_cap : goal.returns-in-Some-after_cap
returns-in-Some-after_cap c = cap_before c.args.bytes.now c.in-Some-after_cap.rest.now c.in-Some-after_cap.ensures

pub returns-in_ok-rest : goal.returns-in_ok-rest
returns-in_ok-rest c = tree_alone c.args.bytes.now c.in_ok-rest.rest.now c.in_ok-rest.ensures.whole c.in_ok-rest.ensures.none
