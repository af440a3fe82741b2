use Rattle.std.proofs.Common.{codes, refl, subst, arith}
use Rattle.cts_plain.specs.Ends.{EndsBy}
use Rattle.cts_top.specs.declared.stop.Answer.TheVariants as answer
use Rattle.cts_top.specs.Synthesised.{ComesOver}
use Rattle.cts_top.specs.Text.{TellsComing, no_tree_text}
use Rattle.cts_top.proofs.Remembering.{tells_ended}
use Rattle.cts_top.proofs.Told.{beyond_told, cut_told}
use Rattle.cts_top.proofs.Writing.{answers_by}
use Rattle.cts_top.proofs.answer.answer_no_tree.Goals as goal

pub returns-in-Beyond-clause-answers : goal.returns-in-Beyond-clause-answers
returns-in-Beyond-clause-answers g c = λ topology tell ends.
    rw c.ended.ensures
    (answers_by (TellsComing (ComesOver topology c.args.instance.now) tell c.args.instance.now) _ _ _ _ answer.NoTree (no_tree_text (codes "beyond") c.in-Beyond.node)
    c.write_no_tree.result
    (beyond_told (ComesOver topology c.args.instance.now) tell c.args.instance.now c.in-Beyond.node c.instance_is_valid.ensures
    (subst (EndsBy (ComesOver topology c.args.instance.now)) c.in-Beyond.is ends))
    c.write_no_tree.ensures)

pub returns-in-Cut-clause-answers : goal.returns-in-Cut-clause-answers
returns-in-Cut-clause-answers g c = λ topology tell ends.
    rw c.ended-in-Cut.ensures
    (answers_by (TellsComing (ComesOver topology c.args.instance.now) tell c.args.instance.now) _ _ _ _ answer.NoTree (no_tree_text (codes "cut") c.in-Cut.node)
    c.write_no_tree-in-Cut.result
    (cut_told (ComesOver topology c.args.instance.now) tell c.args.instance.now c.in-Cut.node c.instance_is_valid.ensures
    (subst (EndsBy (ComesOver topology c.args.instance.now)) c.in-Cut.is ends))
    c.write_no_tree-in-Cut.ensures)

pub returns-in-Beyond-clause-told : goal.returns-in-Beyond-clause-told
returns-in-Beyond-clause-told g c = rw (c.in-Beyond.is, c.ended.ensures) (tells_ended c.write_no_tree.result answer.NoTree tt)

pub returns-in-Cut-clause-told : goal.returns-in-Cut-clause-told
returns-in-Cut-clause-told g c = rw (c.in-Cut.is, c.ended-in-Cut.ensures) (tells_ended c.write_no_tree-in-Cut.result answer.NoTree tt)

pub returns-in-NoMemory-clause-answers : goal.returns-in-NoMemory-clause-answers
returns-in-NoMemory-clause-answers g c = λ topology tell ends.
    record { done = tt; in_part = λ e. cc; rose = λ e. cc; kept = λ n. (refl, refl); counted = omega arith }

pub returns-in-NoMemory-clause-told : goal.returns-in-NoMemory-clause-told
returns-in-NoMemory-clause-told g c = rw c.in-NoMemory.is (λ told. told)
