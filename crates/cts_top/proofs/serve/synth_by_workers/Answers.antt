use Rattle.std.proofs.Common.{refl}
use Rattle.cts_instance.specs.declared.parts.Parts.{Parts}
use Rattle.cts_top.specs.declared.stop.Stop.TheVariants as stop
use Rattle.cts_top.specs.declared.words.Form.TheVariants.{Synth}
use Rattle.cts_top.specs.Log.{no_log}
use Rattle.cts_top.proofs.Remembering.{holds_synth}
use Rattle.cts_top.proofs.Serving.{answers_no_words, not_stopped, serves_synth, stops}
use Rattle.cts_top.proofs.serve.synth_by_workers.Goals as goal

pub returns-in-Ok-clause-serves : goal.returns-in-Ok-clause-serves
returns-in-Ok-clause-serves g c =
    serves_synth _ _ c.answer_by_workers.result.0 c.args.workers c.in-Ok.instance c.in-Ok.ensures.end
    c.in-Ok.ensures.spells c.in-Ok.ensures.counted c.answer_by_workers.ensures.answers

pub returns-in-Ok-clause-memo : goal.returns-in-Ok-clause-memo
returns-in-Ok-clause-memo g c =
    holds_synth c.args.workers _ c.in-Ok.instance c.answer_by_workers.result.1 c.in-Ok.ensures.spells c.answer_by_workers.ensures.memo

pub returns-in-Ok-clause-words : goal.returns-in-Ok-clause-words
returns-in-Ok-clause-words g c = answers_no_words c.answer_by_workers.result.0 c.answer_by_workers.ensures.answers

pub returns-in-Ok-clause-kept : goal.returns-in-Ok-clause-kept
returns-in-Ok-clause-kept g c = c.answer_by_workers.ensures.kept

pub returns-in-Err-clause-serves : goal.returns-in-Err-clause-serves
returns-in-Err-clause-serves g c =
    stops no_log (Synth c.args.workers) _ _ Parts c.in-Err.stop tt tt c.in-Err.ensures.explained (λ e. absurd (c.in-Err.ensures.many e)) c.in-Err.ensures.read_fault
    c.in-Err.ensures.write_fault c.in-Err.ensures.counted refl

pub returns-in-Err-clause-words : goal.returns-in-Err-clause-words
returns-in-Err-clause-words g c = not_stopped Parts c.in-Err.stop stop.Words c.in-Err.ensures.words

pub returns-in-Err-clause-memo : goal.returns-in-Err-clause-memo
returns-in-Err-clause-memo g c = tt
