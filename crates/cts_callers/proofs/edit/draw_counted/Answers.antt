use Rattle.std.proofs.Common.{subst}
use Rattle.cts_session.specs.Desks.{base_of}
use Rattle.cts_session.specs.Draws.{EndsDraw}
use Rattle.cts_session.specs.Sessions.{edits_of}
use Rattle.cts_callers.proofs.Running.{last_drawn, last_none}
use Rattle.cts_callers.proofs.edit.draw_counted.Goals as goal

pub returns-in-Ok-clause-last : goal.returns-in-Ok-clause-last
returns-in-Ok-clause-last g c =
    last_drawn c.args.session.now c.tree.new.self c.tree.ensures.desk c.tree.ensures.caller c.tree.ensures.goes_on.edits
    (_, _, c.tree.ensures.known) c.in-Ok.field-0 c.in-Ok.ensures.drawn c.in-Ok.ensures.remembered

pub returns-in-Err-None-clause-last : goal.returns-in-Err-None-clause-last
returns-in-Err-None-clause-last g c =
    last_none c.args.session.now c.tree.new.self c.tree.ensures.desk c.tree.ensures.caller c.tree.ensures.goes_on.edits
    (_, _, c.tree.ensures.known) _ c.in-Err-None.why
    (subst (EndsDraw (base_of c.args.session.now.desk) (edits_of c.tree.new.self)) c.in-Err-None.field-0-is c.in-Err-None.ensures.ends)
