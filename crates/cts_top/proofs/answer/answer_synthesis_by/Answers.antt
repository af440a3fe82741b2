use Rattle.cts_top.specs.Synthesised.{ComesOver, IsSynthesisedBy}
use Rattle.std.proofs.Common.{subst}
use Rattle.cts_top.specs.Text.{told_by}
use Rattle.cts_top.proofs.Synthesising.{tree_of}
use Rattle.cts_top.proofs.Writing.{answers_by}
use Rattle.cts_top.proofs.answer.answer_synthesis_by.Goals as goal

pub returns-in-Ok-clause-answers : goal.returns-in-Ok-clause-answers
returns-in-Ok-clause-answers g c = λ topology is.
    rw c.ended.ensures
    (answers_by _ _ _ _ _ _ _ c.write_tree_by-written.result
    (tree_of (ComesOver topology c.args.instance.now) (told_by c.args.telling) c.args.instance.now c.args.synthesis c.in-Ok.tree c.in-Ok.figures c.instance_is_valid.ensures c.in-Ok.is
    is)
    c.write_tree_by-written.ensures)

pub returns-in-Err-clause-answers : goal.returns-in-Err-clause-answers
returns-in-Err-clause-answers g c = λ topology is.
    c.answer_no_tree.ensures.answers topology (told_by c.args.telling)
    (subst (IsSynthesisedBy (ComesOver topology c.args.instance.now) c.args.instance.now) c.in-Err.is is).ends
