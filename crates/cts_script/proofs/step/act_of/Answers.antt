use Rattle.std.proofs.Common.{sym, ap, ◌∙◌}
use Rattle.cts_read.specs.Lines.{words_of}
use Rattle.cts_script.specs.Steps.{act_of}
use Rattle.cts_script.proofs.step.act_of.Goals as goal

pub returns-in-Remove-clause-read : goal.returns-in-Remove-clause-read
unfolding act_of
returns-in-Remove-clause-read c =
    c.remove_of.ensures.read ∙ ap (λ kind. act_of kind (words_of c.args.words.now)) (sym c.in-Remove.is)

pub returns-in-Remove-clause-within : goal.returns-in-Remove-clause-within
returns-in-Remove-clause-within c = c.remove_of.ensures.within
