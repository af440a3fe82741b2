use Rattle.std.proofs.Common.{sym, arith, ◌∙◌}
use Rattle.std.proofs.Common.{pos}
use Rattle.cts_geom.specs.declared.points.Half.{Half}
use Rattle.cts_trunk.proofs.Cursors.{on_cursor}
use Rattle.cts_trunk.proofs.way.point_at.Goals as goal

pub step_to-requires-clause-distance : goal.step_to-requires-clause-distance
step_to-requires-clause-distance c = omega arith

pub returns : goal.returns
returns c =
    let e : Half = record { x = pos 0; y = pos 0 } in
    c.step_to.ensures
    ∙ sym (on_cursor c.args.points.now c.args.cursor.segment e c.requires.within c.args.cursor.begin c.requires.cursor
    c.args.distance c.requires.here (c.requires.before_end e e))
