use Rattle.std.proofs.Common.{◌∙◌, ap}
use Rattle.cts_edit.specs.Edits.{has_id}
use Rattle.cts_edit.proofs.Rosters.{has_by}
use Rattle.cts_edit.proofs.roster.Roster.has.Goals as goal

pub returns : goal.returns
returns c = c.contains_key.ensures ∙ has_by _ _ _ c.self.invariant c.args.id ∙ ap (has_id c.args.id) c.self.view_is
