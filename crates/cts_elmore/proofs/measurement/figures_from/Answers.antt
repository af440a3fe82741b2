use Rattle.std.proofs.Common.{length, ap, ◌∙◌, refl, arith}
use Rattle.cts_elmore.proofs.TreeFigures.{some_node, wires_small, greatest_small, least_small, delays_small, figures_are, figures_in_range, one_each}
use Rattle.cts_elmore.proofs.measurement.figures_from.Goals as goal

pub overflow_sub-result : goal.overflow_sub-result
overflow_sub-result c = omega (arith, some_node c.args.instance.now c.args.nodes.now c.requires.post_order)

pub bounds-nodes-nodes : goal.bounds-nodes-nodes
bounds-nodes-nodes c = omega (arith, some_node c.args.instance.now c.args.nodes.now c.requires.post_order)

pub overflow_add-result : goal.overflow_add-result
overflow_add-result c =
    omega (
      arith,
      wires_small c.args.instance.now c.args.nodes.now c.requires.post_order c.args.root.now c.requires.root c.args.drive c.requires.drive
          c.index-nodes-nodes.result c.requires.fits,
    )

pub overflow_add-result-2 : goal.overflow_add-result-2
overflow_add-result-2 c =
    omega (
      arith,
      greatest_small c.args.instance.now c.args.nodes.now c.requires.post_order c.args.root.now c.requires.root c.args.drive c.requires.drive
          c.index-nodes-nodes.result,
      (delays_small c.args.instance.now c.args.nodes.now c.requires.post_order c.args.root.now c.requires.root c.args.drive c.requires.drive
          c.index-nodes-nodes.result).1,
    )

pub overflow_add-result-3 : goal.overflow_add-result-3
overflow_add-result-3 c =
    omega (
      arith,
      greatest_small c.args.instance.now c.args.nodes.now c.requires.post_order c.args.root.now c.requires.root c.args.drive c.requires.drive
          c.index-nodes-nodes.result,
      (delays_small c.args.instance.now c.args.nodes.now c.requires.post_order c.args.root.now c.requires.root c.args.drive c.requires.drive
          c.index-nodes-nodes.result).0,
      (delays_small c.args.instance.now c.args.nodes.now c.requires.post_order c.args.root.now c.requires.root c.args.drive c.requires.drive
          c.index-nodes-nodes.result).1,
    )

pub overflow_add-result-4 : goal.overflow_add-result-4
overflow_add-result-4 c =
    omega (
      arith,
      greatest_small c.args.instance.now c.args.nodes.now c.requires.post_order c.args.root.now c.requires.root c.args.drive c.requires.drive
          c.index-nodes-nodes.result,
    )

pub overflow_add-result-5 : goal.overflow_add-result-5
overflow_add-result-5 c =
    omega (
      arith,
      greatest_small c.args.instance.now c.args.nodes.now c.requires.post_order c.args.root.now c.requires.root c.args.drive c.requires.drive
          c.index-nodes-nodes.result,
      least_small c.args.instance.now c.args.nodes.now c.requires.post_order c.args.root.now c.requires.root c.args.drive c.requires.drive
          c.index-nodes-nodes.result,
    )

pub overflow_sub-result-2 : goal.overflow_sub-result-2
overflow_sub-result-2 c =
    omega (
      arith,
      least_small c.args.instance.now c.args.nodes.now c.requires.post_order c.args.root.now c.requires.root c.args.drive c.requires.drive
          c.index-nodes-nodes.result,
      (delays_small c.args.instance.now c.args.nodes.now c.requires.post_order c.args.root.now c.requires.root c.args.drive c.requires.drive
          c.index-nodes-nodes.result).0,
    )

pub returns-clause-figures : goal.returns-clause-figures
returns-clause-figures c =
    figures_are c.args.instance.now c.args.nodes.now c.requires.post_order c.args.root.now c.requires.root c.args.drive c.requires.drive
    c.index-nodes-nodes.result c.args.nodes.now refl c.args.descent c.requires.descent c.of.result c.of.ensures

pub returns-clause-one_each : goal.returns-clause-one_each
returns-clause-one_each c =
    ap length c.of.ensures
    ∙ one_each c.args.instance.now c.args.nodes.now c.requires.post_order c.args.root.now c.requires.root c.args.drive c.requires.drive
    c.index-nodes-nodes.result c.args.descent c.requires.descent

pub returns-clause-in_range : goal.returns-clause-in_range
returns-clause-in_range c =
    figures_in_range c.args.instance.now c.args.nodes.now c.requires.post_order c.args.root.now c.requires.root c.args.drive c.requires.drive
    c.index-nodes-nodes.result c.requires.fits c.args.descent c.requires.descent c.of.result c.of.ensures

pub bounds-nodes-nodes-2 : goal.bounds-nodes-nodes-2
bounds-nodes-nodes-2 c = omega (arith, some_node c.args.instance.now c.args.nodes.now c.requires.post_order)
