use Rattle.cts_route.specs.Grids.{IsGridOf}
use Rattle.cts_route.proofs.GridLines.{grid_is, grid_prepared}
use Rattle.cts_route.proofs.grid.Grid.of.Goals as goal

pub returns : goal.returns
returns c =
    let prepared : IsGridOf c.args.blocks.now c.args.die.now _ =
    grid_prepared c.args.blocks.now c.args.die.now c.in_ok-walls_of.field-0 c.in_ok-fixed_xs.field-0 c.in_ok-fixed_ys.field-0
    c.in_ok-walls_of.ensures c.in_ok-fixed_xs.ensures c.in_ok-fixed_ys.ensures in
    record { grid = grid_is c.args.blocks.now c.args.die.now _ c.requires.blocks c.requires.die prepared; prepared = prepared }
