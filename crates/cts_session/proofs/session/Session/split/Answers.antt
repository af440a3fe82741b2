use Rattle.std.proofs.Common.{ap, ◌∙◌}
use Rattle.cts_session.specs.Sessions.{AtDesk}
use Rattle.cts_session.proofs.session.Session.split.Goals as goal

pub returns-clause-callers : goal.returns-clause-callers
returns-clause-callers c =
    let caller = λ (s : AtDesk). s.caller in (
      ap caller c.of.ensures ∙ ap caller c.self.view_is,
      ap caller c.of-2.ensures,
    )
