use Rattle.cts_top.specs.Synthesised.{medians}
use Rattle.cts_top.specs.Text.{told_by}
use Rattle.cts_top.proofs.Remembering.{kept_answered}
use Rattle.cts_top.proofs.by_workers.answer_planned.Goals as goal

pub answer_synthesis_by-answer-requires-clause-printable : goal.answer_synthesis_by-answer-requires-clause-printable
answer_synthesis_by-answer-requires-clause-printable g c = λ κs ls. c.finish_and_publish-synthesis.ensures.synthesised.printable

pub returns-in-Ok-clause-answers : goal.returns-in-Ok-clause-answers
returns-in-Ok-clause-answers g c = c.answer_synthesis_by-answer.ensures.answers medians c.finish_and_publish-synthesis.ensures.synthesised

pub returns-in-Ok-clause-kept : goal.returns-in-Ok-clause-kept
returns-in-Ok-clause-kept g c =
    kept_answered (told_by c.args.telling) c.args.planned.instance.now _ _ _ _ c.answer_synthesis_by-answer.result c.kept-memo.result
    (c.answer_synthesis_by-answer.ensures.answers medians c.finish_and_publish-synthesis.ensures.synthesised) c.kept-memo.ensures.kept
