use Rattle.std.proofs.Common.{refl, sym, arith}
use Rattle.cts_geom.specs.Points.{point_of}
use Rattle.cts_route.specs.Windows.{Stands}
use Rattle.cts_route.proofs.Answered.{has_line, same_stands}
use Rattle.cts_route.proofs.GridLines.{first_between, second_between}
use Rattle.cts_route.proofs.grid.Grid.view.Goals as goal

pub cell_of-start-requires-clause-x : goal.cell_of-start-requires-clause-x
cell_of-start-requires-clause-x c =
    has_line c.in_ok-window.window.xs.items c.as_slice-xs.result.now (point_of c.args.from).x c.halves.result.x c.as_slice-xs.ensures.value c.halves.ensures.x
    (first_between (point_of c.args.from).x (point_of c.args.to).x c.args.frame.now.low.x c.args.frame.now.high.x c.args.self.now.xs.items c.in_ok-window.window.xs.items
    c.in_ok-window.ensures.xs c.requires.frame.from_in.west c.requires.frame.from_in.east)

pub cell_of-start-requires-clause-y : goal.cell_of-start-requires-clause-y
cell_of-start-requires-clause-y c =
    has_line c.in_ok-window.window.ys.items c.as_slice-ys.result.now (point_of c.args.from).y c.halves.result.y c.as_slice-ys.ensures.value c.halves.ensures.y
    (first_between (point_of c.args.from).y (point_of c.args.to).y c.args.frame.now.low.y c.args.frame.now.high.y c.args.self.now.ys.items c.in_ok-window.window.ys.items
    c.in_ok-window.ensures.ys c.requires.frame.from_in.south c.requires.frame.from_in.north)

pub cell_of-goal-requires-clause-x : goal.cell_of-goal-requires-clause-x
cell_of-goal-requires-clause-x c =
    has_line c.in_ok-window.window.xs.items c.as_slice-xs.result.now (point_of c.args.to).x c.halves-2.result.x c.as_slice-xs.ensures.value c.halves-2.ensures.x
    (second_between (point_of c.args.from).x (point_of c.args.to).x c.args.frame.now.low.x c.args.frame.now.high.x c.args.self.now.xs.items c.in_ok-window.window.xs.items
    c.in_ok-window.ensures.xs c.requires.frame.to_in.west c.requires.frame.to_in.east)

pub cell_of-goal-requires-clause-y : goal.cell_of-goal-requires-clause-y
cell_of-goal-requires-clause-y c =
    has_line c.in_ok-window.window.ys.items c.as_slice-ys.result.now (point_of c.args.to).y c.halves-2.result.y c.as_slice-ys.ensures.value c.halves-2.ensures.y
    (second_between (point_of c.args.from).y (point_of c.args.to).y c.args.frame.now.low.y c.args.frame.now.high.y c.args.self.now.ys.items c.in_ok-window.window.ys.items
    c.in_ok-window.ensures.ys c.requires.frame.to_in.south c.requires.frame.to_in.north)

pub returns : goal.returns
returns c =
    let xs = c.in_ok-window.window.xs.items in
    let ys = c.in_ok-window.window.ys.items in
    let at_start : Stands xs ys (point_of c.args.from) c.cell_of-start.result =
    same_stands xs ys c.as_slice-xs.result.now c.as_slice-ys.result.now (point_of c.args.from) c.halves.result c.cell_of-start.result c.cell_of-start.result c.cell_of-start.ensures
    c.as_slice-xs.ensures.value c.as_slice-ys.ensures.value c.halves.ensures.point refl in
    record {
      window_is = c.in_ok-window.ensures;
      searched = record {
        window = c.in_ok-window.ensures.is;
        valid = c.in_ok-table.ensures.labels;
        settled = c.in_ok-table.ensures.settled;
        start_inside = let a = at_start.inside in let b = c.in_ok-table.ensures.labels.size in let e = c.in_ok-window.ensures.is.cells in omega (arith, a, b, e);
      };
      at_start = at_start;
      at_goal = same_stands xs ys c.as_slice-xs.result.now c.as_slice-ys.result.now (point_of c.args.to) c.halves-2.result c.in_ok-table.table.goal c.cell_of-goal.result
          c.cell_of-goal.ensures c.as_slice-xs.ensures.value c.as_slice-ys.ensures.value c.halves-2.ensures.point (sym c.in_ok-table.ensures.goal);
    }
