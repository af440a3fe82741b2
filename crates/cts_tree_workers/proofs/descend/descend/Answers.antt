use Rattle.std.proofs.Common.{refl, arith}
use Rattle.cts_postorder.proofs.Cut.{cut_long}
use Rattle.cts_tree_workers.proofs.Downward.{known_long, parts_known, root_known, whole_descends}
use Rattle.cts_tree_workers.proofs.descend.descend.Goals as goal

pub overflow_sub-parts : goal.overflow_sub-parts
overflow_sub-parts g c = omega (arith, cut_long c.requires.split.cut, known_long c.args.instance.now c.requires.split.cut c.args.figures.now c.requires.known)

pub split_at_mut-below-requires : goal.split_at_mut-below-requires
split_at_mut-below-requires g c = omega (arith, cut_long c.requires.split.cut, known_long c.args.instance.now c.requires.split.cut c.args.figures.now c.requires.known)

pub bounds-own-0 : goal.bounds-own-0
bounds-own-0 g c = omega (arith, c.split_at_mut-below.ensures.back_len, c.split_at_mut-below.ensures.front_len, cut_long c.requires.split.cut, known_long c.args.instance.now c.requires.split.cut c.args.figures.now c.requires.known)

pub bounds-own-0-2 : goal.bounds-own-0-2
bounds-own-0-2 g c = omega (arith, c.split_at_mut-below.ensures.back_len, c.split_at_mut-below.ensures.front_len, cut_long c.requires.split.cut, known_long c.args.instance.now c.requires.split.cut c.args.figures.now c.requires.known)

pub descend_root-top-requires-clause-known : goal.descend_root-top-requires-clause-known
descend_root-top-requires-clause-known g c = root_known c.args.instance.now c.requires.split.cut c.split_at_mut-below.result.0.now c.split_at_mut-below.result.1.now c.args.figures.now c.split_at_mut-below.ensures.value c.split_at_mut-below.ensures.front_len c.requires.known _ (omega (arith, c.split_at_mut-below.ensures.back_len, c.split_at_mut-below.ensures.front_len, cut_long c.requires.split.cut, known_long c.args.instance.now c.requires.split.cut c.args.figures.now c.requires.known))

pub descend_parts-requires-clause-known : goal.descend_parts-requires-clause-known
descend_parts-requires-clause-known g c = parts_known c.args.instance.now c.requires.split.cut c.split_at_mut-below.result.0.now c.split_at_mut-below.result.1.now c.args.figures.now c.split_at_mut-below.ensures.value c.split_at_mut-below.ensures.front_len c.requires.known

pub returns : goal.returns
returns g c =
    whole_descends c.args.instance.now c.requires.split.cut c.descend_root-top.result c.descend_root-top.ensures c.descend_parts.new.figures c.in_ok-below_met.below_met
    c.in_ok-below_met.ensures c.split_at_mut-below.result.1.now (omega (arith, c.split_at_mut-below.ensures.back_len, c.split_at_mut-below.ensures.front_len, cut_long c.requires.split.cut, known_long c.args.instance.now c.requires.split.cut c.args.figures.now c.requires.known)) _ refl refl
