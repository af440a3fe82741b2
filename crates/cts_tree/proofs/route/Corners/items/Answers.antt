use Rattle.std.proofs.Common.{Vec, Global, sym, ap, ◌∙◌}
use Rattle.cts_geom.specs.declared.points.Half.{Half}
use Rattle.cts_tree.specs.Corners.{corners_kept}
use Rattle.cts_tree.proofs.route.Corners.items.Goals as goal

pub returns-in-One : goal.returns-in-One
returns-in-One c = c.from_ref.ensures.value ∙ sym (ap corners_kept c.in-One.is) ∙ c.self.view_is

pub returns-in-Many : goal.returns-in-Many
returns-in-Many c = c.as_slice.ensures.value ∙ ap (λ (v : Vec Half Global). v.items) c.as_ref.ensures ∙ sym (ap corners_kept c.in-Many.is) ∙ c.self.view_is
