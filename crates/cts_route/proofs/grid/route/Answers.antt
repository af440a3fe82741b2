use Rattle.cts_route.proofs.grid.route.Goals as goal

pub returns-clause-cut_is_told : goal.returns-clause-cut_is_told
returns-clause-cut_is_told c = λ cut. c.route.ensures.cut_is_told c.args.blocks.now c.args.die.now c.in_ok-grid.ensures.prepared cut
