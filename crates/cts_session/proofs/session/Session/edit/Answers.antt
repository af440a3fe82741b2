use Rattle.std.proofs.Common.{subst}
use Rattle.cts_instance.specs.declared.parts.Parts.{Parts}
use Rattle.cts_turn.specs.Passes.{seen_by}
use Rattle.cts_design.specs.Passes.{IsEdited}
use Rattle.cts_session.specs.Desks.{base_of}
use Rattle.cts_session.specs.Sessions.{AtDesk, edits_of, entry_of}
use Rattle.cts_session.proofs.session.Session.edit.Goals as goal

pub returns-clause-edited : goal.returns-clause-edited
returns-clause-edited g c =
    let own = c.self.inside in
    let edited = subst (λ (i : Parts). IsEdited i (seen_by own.hands.design) (entry_of own.caller c.args.line c.args.edit) c.send_edit.result (seen_by c.send_edit.new.pass))
    own.desk.now.same_base c.send_edit.ensures.edited in
    subst (λ (s : AtDesk). IsEdited (base_of s.desk) (edits_of s) (entry_of s.caller c.args.line c.args.edit) c.send_edit.result (seen_by c.send_edit.new.pass))
    c.self.view_is edited
