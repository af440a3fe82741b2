use Rattle.std.proofs.Common.{◌-◌, length, get_or, sym, ◌∙◌}
use Rattle.std.proofs.lemmas.Bool.{ne_eqb}
use Rattle.cts_report_reader.proofs.StackLists.{pair_other}
use Rattle.cts_report_reader.proofs.node.takes_last.Goals as goal

pub returns-else-left-stack : goal.returns-else-left-stack
returns-else-left-stack c = λ todo.
    let stack = c.args.stack.now in
    let other = ne_eqb c.args.left (get_or stack (length stack - 2) 0) c.if-left-stack.false in
    other ∙ sym (pair_other stack c.args.left c.args.right todo c.if-count-lt2.false other)
