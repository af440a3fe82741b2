use Rattle.std.proofs.Common.{subst}
use Rattle.cts_up.specs.Ends.{Ends}
use Rattle.cts_up.specs.declared.end.UpEnd.TheVariants.{Beyond}
use Rattle.cts_top.specs.Synthesised.{medians}
use Rattle.cts_top.specs.Text.{told_by}
use Rattle.cts_top.proofs.Remembering.{memo_beyond}
use Rattle.cts_top.proofs.Synthesising.{plan_ends}
use Rattle.cts_top.proofs.by_workers.answer_unplanned.Goals as goal

pub returns-in-Beyond-clause-answers : goal.returns-in-Beyond-clause-answers
returns-in-Beyond-clause-answers g c =
    c.answer_no_tree-answer.ensures.answers medians (told_by c.args.telling)
    (plan_ends c.args.instance.now c.args.shape.now (Beyond c.in-Beyond.node) c.requires.definition
    (subst (Ends c.args.instance.now.params c.args.instance.now.sinks c.args.shape.now) c.in-Beyond.is c.requires.ends))

pub returns-in-Beyond-clause-memo : goal.returns-in-Beyond-clause-memo
returns-in-Beyond-clause-memo g c =
    memo_beyond c.args.instance.now c.instance_is_valid.ensures c.args.shape.now c.requires.definition c.in-Beyond.node
    (subst (Ends c.args.instance.now.params c.args.instance.now.sinks c.args.shape.now) c.in-Beyond.is c.requires.ends)
    c.args.table c.requires.base c.requires.sound
