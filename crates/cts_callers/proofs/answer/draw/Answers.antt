use Rattle.std.proofs.Common.{subst}
use Rattle.cts_session.specs.Desks.{base_of}
use Rattle.cts_session.specs.Draws.{EndsDraw}
use Rattle.cts_session.specs.Sessions.{edits_of}
use Rattle.cts_callers.proofs.Turning.{next_draw, next_no_tree}
use Rattle.cts_callers.proofs.answer.draw.Goals as goal

pub returns-in-Ok-clause-next : goal.returns-in-Ok-clause-next
returns-in-Ok-clause-next g c =
    next_draw c.args.session.now c.totals.new.self c.totals.ensures.desk c.totals.ensures.caller c.args.line c.totals.ensures.goes_on.edits
    (_, _, c.totals.ensures.known) c.in-Ok.field-0 c.in-Ok.ensures.summed

pub returns-in-Err-None-clause-next : goal.returns-in-Err-None-clause-next
returns-in-Err-None-clause-next g c =
    next_no_tree c.args.session.now c.totals.new.self c.totals.ensures.desk c.totals.ensures.caller c.args.line c.totals.ensures.goes_on.edits
    (_, _, c.totals.ensures.known) c.in-Err-None.version c.in-Err-None.why
    (subst (EndsDraw (base_of c.args.session.now.desk) (edits_of c.totals.new.self)) c.in-Err-None.field-0-is c.in-Err-None.ensures.ends)
