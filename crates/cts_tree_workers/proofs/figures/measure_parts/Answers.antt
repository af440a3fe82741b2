use Rattle.std.proofs.Common.{rules, ◌++◌, take, drop, length, refl}
use Rattle.cts_tree_workers.proofs.Downward.{written_back, descent_is}
use Rattle.cts_tree_workers.proofs.figures.measure_parts.Goals as goal

pub figures_from-requires-clause-descent : goal.figures_from-requires-clause-descent
figures_from-requires-clause-descent g c =
    descent_is c.args.instance.now c.args.parts.now.nodes.now _ c.in_ok-met.met c.in_ok-met.ensures _
    (written_back c.args.room.len
    (take c.args.room.len (c.gather_by.new.figures ++ drop (length c.gather_by.new.figures) c.args.room.items)) c.descend.new.figures
    (search rules) (search rules))
    refl refl
