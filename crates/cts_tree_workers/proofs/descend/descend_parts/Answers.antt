use Rattle.std.proofs.Common.{refl}
use Rattle.cts_tree_workers.proofs.Gathering.{front_fits, back_fits}
use Rattle.cts_tree_workers.proofs.Downward.{front_order, back_order, long_enough, front_known, back_known, front_above, back_above, parts_descend}
use Rattle.cts_tree_workers.proofs.descend.descend_parts.Goals as goal

pub split_at_mut-front_figures-requires : goal.split_at_mut-front_figures-requires
split_at_mut-front_figures-requires g c = long_enough c.args.instance.now c.requires.split.cut c.args.figures.now c.requires.known

pub descend_beside-requires-clause-front_order : goal.descend_beside-requires-clause-front_order
descend_beside-requires-clause-front_order g c = front_order c.args.instance.now c.requires.split.cut

pub descend_beside-requires-clause-front_fits : goal.descend_beside-requires-clause-front_fits
descend_beside-requires-clause-front_fits g c = front_fits c.args.instance.now c.requires.split.cut c.requires.fits

pub descend_beside-requires-clause-front_known : goal.descend_beside-requires-clause-front_known
descend_beside-requires-clause-front_known g c = front_known c.args.instance.now c.requires.split.cut c.split_at_mut-front_figures.result.0.now c.split_at_mut-front_figures.result.1.now c.args.figures.now c.split_at_mut-front_figures.ensures.value c.split_at_mut-front_figures.ensures.front_len c.requires.known

pub descend_beside-requires-clause-front_above : goal.descend_beside-requires-clause-front_above
descend_beside-requires-clause-front_above g c = front_above c.args.instance.now c.requires.split.cut c.args.above c.requires.above

pub descend_beside-requires-clause-back_order : goal.descend_beside-requires-clause-back_order
descend_beside-requires-clause-back_order g c = back_order c.args.instance.now c.requires.split.cut

pub descend_beside-requires-clause-back_fits : goal.descend_beside-requires-clause-back_fits
descend_beside-requires-clause-back_fits g c = back_fits c.args.instance.now c.requires.split.cut c.requires.fits

pub descend_beside-requires-clause-back_known : goal.descend_beside-requires-clause-back_known
descend_beside-requires-clause-back_known g c = back_known c.args.instance.now c.requires.split.cut c.split_at_mut-front_figures.result.0.now c.split_at_mut-front_figures.result.1.now c.args.figures.now c.split_at_mut-front_figures.ensures.value c.split_at_mut-front_figures.ensures.front_len c.requires.known

pub descend_beside-requires-clause-back_above : goal.descend_beside-requires-clause-back_above
descend_beside-requires-clause-back_above g c = back_above c.args.instance.now c.requires.split.cut c.args.above c.requires.above

pub returns : goal.returns
returns g c =
    parts_descend c.args.instance.now c.requires.split.cut c.args.above c.requires.above c.descend_beside.new.front_figures c.descend_beside.new.back_figures
    c.in_ok-left.left c.in_ok-left.right c.in_ok-left.ensures.front c.in_ok-left.ensures.back _ refl refl
