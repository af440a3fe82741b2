use Rattle.std.proofs.Common.{◌/◌, ◌%◌, length, w64, FitsSigned, rules, arith}
use Rattle.std.proofs.lemmas.Int.{to_z-of_z}
use Rattle.cts_geom.proofs.PointLemmas.{half_same}
use Rattle.cts_route.specs.LineLists.{line_at}
use Rattle.cts_route.specs.Windows.{point_at}
use Rattle.cts_route.proofs.Cells.{column_inside, row_inside}
use Rattle.cts_route.proofs.window.point_at.Goals as goal

pub nonzero_div-result : goal.nonzero_div-result
nonzero_div-result c = let some = (column_inside c.args.cell (length c.args.xs.now) (length c.args.ys.now) c.requires).0 in omega (arith, some)

pub bounds-xs-cell : goal.bounds-xs-cell
bounds-xs-cell c = (column_inside c.args.cell (length c.args.xs.now) (length c.args.ys.now) c.requires).1

pub nonzero_rem-result : goal.nonzero_rem-result
nonzero_rem-result c = let some = (column_inside c.args.cell (length c.args.xs.now) (length c.args.ys.now) c.requires).0 in omega (arith, some)

pub bounds-ys-cell : goal.bounds-ys-cell
bounds-ys-cell c = row_inside c.args.cell (length c.args.xs.now) (length c.args.ys.now) c.requires

pub returns : goal.returns
unfolding point_at
returns c =
    let x : FitsSigned w64 (line_at c.args.xs.now (c.args.cell / length c.args.ys.now)) = search rules in
    let y : FitsSigned w64 (line_at c.args.ys.now (c.args.cell % length c.args.ys.now)) = search rules in
    half_same _ _ (to_z-of_z w64 _ x) (to_z-of_z w64 _ y)
