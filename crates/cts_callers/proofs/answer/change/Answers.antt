use Rattle.cts_callers.proofs.Turning.{next_change}
use Rattle.cts_callers.proofs.answer.change.Goals as goal

pub returns-in_default-clause-next : goal.returns-in_default-clause-next
returns-in_default-clause-next g c =
    next_change c.args.session.now c.edit.new.self c.edit.ensures.desk c.edit.ensures.caller c.args.line c.args.edit c.edit.ensures.goes_on
    c.edit.result c.in_default.not-NoMemory c.edit.ensures.edited c.edit.ensures.version c.edit.ensures.known

pub returns-in-NoMemory-clause-next : goal.returns-in-NoMemory-clause-next
returns-in-NoMemory-clause-next g c = tt
