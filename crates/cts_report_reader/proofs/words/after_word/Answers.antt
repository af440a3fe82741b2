use Rattle.cts_report_reader.specs.Words.{same}
use Rattle.cts_report_reader.proofs.Labels.{finds_none, finds_some, word_taken, word_refused}
use Rattle.cts_report_reader.proofs.words.after_word.Goals as goal

pub returns-in_err-rest : goal.returns-in_err-rest
returns-in_err-rest c =
    finds_none same c.from_residual.result _ c.from_residual.ensures (word_refused c.args.word.now c.args.bytes.now c.in_err-rest.ensures.cases)

pub returns : goal.returns
returns c =
    let e = c.in_ok-rest.ensures.cases in
    finds_some same tt c.in_ok-rest.rest _ _ (word_taken c.args.word.now c.args.bytes.now e.0) e.1
