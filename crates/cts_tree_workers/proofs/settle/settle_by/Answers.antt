use Rattle.std.proofs.Common.{◌∙◌}
use Rattle.cts_embed.proofs.PlacedFits.{placed_post_order}
use Rattle.cts_plain.specs.Synthesis.{IsTreeOf}
use Rattle.cts_plain.proofs.LeafPins.{leaf_pins_kept}
use Rattle.cts_plain.proofs.Sound.{trees_sound}
use Rattle.cts_tree_workers.proofs.settle.settle_by.Goals as goal

pub measure_in-requires-clause-pins : goal.measure_in-requires-clause-pins
measure_in-requires-clause-pins g c κs within =
    let shape = c.requires.of_shape.0 in
    let post_order = placed_post_order c.args.instance.now shape c.args.placed c.requires.of_shape.2.is_placed c.requires.of_shape.1.post_order in
    c.requires.pins ∙ leaf_pins_kept c.args.instance.now c.args.placed post_order c.in_ok-tree.tree c.in_ok-tree.ensures.tree

pub measure_in-requires-clause-fits : goal.measure_in-requires-clause-fits
measure_in-requires-clause-fits g c κs within =
    let shape = c.requires.of_shape.0 in
    let by = c.requires.of_shape.2 in
    let tree : IsTreeOf c.args.instance.now shape c.in_ok-tree.tree = record {
      plan = by.plan;
      is_plan = by.is_plan;
      placed = c.args.placed;
      is_placed = by.is_placed;
      is_balanced = c.in_ok-tree.ensures.tree;
    } in
    (trees_sound c.args.instance.now shape c.in_ok-tree.tree c.die-die.ensures.valid c.requires.of_shape.1 tree).2

pub measure_in-requires-clause-within : goal.measure_in-requires-clause-within
measure_in-requires-clause-within g c κs within =
    let shape = c.requires.of_shape.0 in
    let by = c.requires.of_shape.2 in
    let tree : IsTreeOf c.args.instance.now shape c.in_ok-tree.tree = record {
      plan = by.plan;
      is_plan = by.is_plan;
      placed = c.args.placed;
      is_placed = by.is_placed;
      is_balanced = c.in_ok-tree.ensures.tree;
    } in
    (trees_sound c.args.instance.now shape c.in_ok-tree.tree c.die-die.ensures.valid c.requires.of_shape.1 tree).0.within

pub returns-clause-sound : goal.returns-clause-sound
returns-clause-sound g c =
    let shape = c.requires.of_shape.0 in
    let by = c.requires.of_shape.2 in
    let tree : IsTreeOf c.args.instance.now shape c.in_ok-tree.tree = record {
      plan = by.plan;
      is_plan = by.is_plan;
      placed = c.args.placed;
      is_placed = by.is_placed;
      is_balanced = c.in_ok-tree.ensures.tree;
    } in
    (trees_sound c.args.instance.now shape c.in_ok-tree.tree c.die-die.ensures.valid c.requires.of_shape.1 tree).0

pub returns-clause-in_die : goal.returns-clause-in_die
returns-clause-in_die g c =
    let shape = c.requires.of_shape.0 in
    let by = c.requires.of_shape.2 in
    let tree : IsTreeOf c.args.instance.now shape c.in_ok-tree.tree = record {
      plan = by.plan;
      is_plan = by.is_plan;
      placed = c.args.placed;
      is_placed = by.is_placed;
      is_balanced = c.in_ok-tree.ensures.tree;
    } in
    (trees_sound c.args.instance.now shape c.in_ok-tree.tree c.die-die.ensures.valid c.requires.of_shape.1 tree).1
