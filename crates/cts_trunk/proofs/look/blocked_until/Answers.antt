use Rattle.std.proofs.Common.{◌≡◌, ◌+◌, ◌-◌, pos, sym, ap, subst, ◌∙◌, slice_index_or, arith}
use Rattle.cts_geom.specs.declared.points.Half.{Half}
use Rattle.cts_block.specs.FreePoints.{IsHalfInside}
use Rattle.cts_trunk.specs.Way.{step_to}
use Rattle.cts_trunk.proofs.Cursors.{on_cursor}
use Rattle.cts_trunk.proofs.look.blocked_until.Goals as goal

pub returns-clause-inside : goal.returns-clause-inside
returns-clause-inside c = λ d later short.
    let e : Half = record { x = pos 0; y = pos 0 } in
    let begin = c.args.cursor.begin in
    let on = on_cursor c.args.points.now c.args.cursor.segment e c.requires.within begin c.requires.cursor in
    let here = on c.args.distance c.requires.here (c.requires.before_end e e) in
    let there = on d (omega (arith, later, c.requires.here)) (omega (arith, short, later, c.min.ensures, c.segment_length.ensures.value)) in
    let sum : c.args.distance - begin + (d - c.args.distance) ≡ d - begin = omega (arith, later, c.requires.here) in
    let inside = c.room_in_block.ensures.inside (c.args.distance - begin) (d - c.args.distance) (c.requires.at ∙ here)
    (omega (arith, short, later, c.min.ensures)) in
    let from = slice_index_or c.args.points.now c.args.cursor.segment e in
    let to = slice_index_or c.args.points.now (c.args.cursor.segment + 1) e in
    subst (IsHalfInside c.args.block.now) (ap (step_to from to) sum ∙ sym there) inside
