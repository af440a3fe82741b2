-- A sound tree can be printed: it stands in the die, and its figures are in range.
use Rattle.std.proofs.Common.{◌≡◌, ◌≤◌, List, map, length, Result, Ok, Err, IfOk, arith}
use Rattle.std.specs.List.{All}
use Rattle.std.proofs.lemmas.Int.{ints}
use Rattle.std.proofs.lemmas.List.Elements.{All-weaker}
use Rattle.cts_geom.specs.declared.bounds.Die.{Die}
use Rattle.cts_geom.specs.declared.points.Half.{Half}
use Rattle.cts_geom.specs.Points.{point_of}
use Rattle.cts_block.specs.FreePoints.{IsHalfInDie}
use Rattle.cts_postorder.specs.PostOrder.{IsPostOrder}
use Rattle.cts_tree.specs.declared.nodes.TreeNode.{TreeNode}
use Rattle.cts_tree.specs.Nodes.{tree_children}
use Rattle.cts_instance.specs.declared.parts.Parts.{Parts}
use Rattle.cts_instance.specs.Validity.{IsDie, IsValid}
use Rattle.cts_elmore.specs.declared.figures.Figures.{Figures}
use Rattle.cts_elmore.specs.declared.figures.NodeFigure.{NodeFigure}
use Rattle.cts_elmore.specs.Figures.{AreFiguresInRange, IsFigureInRange}
use Rattle.cts_elmore.specs.Measurement.{HasFigures}
use Rattle.cts_elmore.specs.Sound.{IsSound, StandsInDie}
use Rattle.cts_elmore.proofs.InDie.{in_die_in_range, sound_in_die}
use Rattle.cts_elmore.proofs.InRange.{figures_in_range}
use Rattle.cts_elmore.proofs.SinkCount.{one_leaf_a_sink}
use Rattle.cts_report.specs.Laws.{FiguresInRangeArePrintable, SoundTreesArePrintable}
use Rattle.cts_report.specs.Report.{IsOnSheet, IsPrintable, IsPrintableFigure, IsPrintableNode}

on_sheet : (die : Die) → IsDie die → (p : Half) → IsHalfInDie die p → IsOnSheet p
on_sheet die ok p in_die = record {
  x = omega (arith, ints, ok.x_low, in_die.x.at_least);
  y = omega (arith, ints, ok.y_low, in_die.y.at_least);
}

-- a node that stands in the die
printable_node : (die : Die) → IsDie die → (node : TreeNode) → StandsInDie die node → IsPrintableNode node
printable_node die ok node stands = record {
  in_range = in_die_in_range die node.place ok stands.place;
  place = on_sheet die ok (point_of node.place) stands.place;
  corners = All-weaker (IsHalfInDie die) IsOnSheet (on_sheet die ok) node.route.corners stands.corners;
}

printable_figure : (figure : NodeFigure) → IsFigureInRange figure → IsPrintableFigure figure
printable_figure figure range = record {
  residue = omega (arith, range.residue_within);
  delay = omega (arith, range.delay_within);
  arrival = omega (arith, range.arrival_within);
  stage = omega (arith, range.stage_within);
}

pub printable : FiguresInRangeArePrintable
printable tree figures nodes long range = record {
  long = long;
  each_node = nodes;
  each_figure = All-weaker IsFigureInRange IsPrintableFigure printable_figure figures.nodes range.each_in_range;
  totals = record {
    greatest = omega (arith, range.greatest_within);
    least = omega (arith, range.least_within);
    skew = omega (arith, range.skew_within);
    bound = omega (arith, range.bound_within);
  };
  arrivals = record {
    greatest = omega (arith, range.arrival_greatest_within);
    least = omega (arith, range.arrival_least_within);
  };
}

-- the same in the die, for the answer of a call
printable_in_die : (die : Die) → IsDie die → (tree : List TreeNode) → All (StandsInDie die) tree → All IsPrintableNode tree
printable_in_die die ok tree stands = All-weaker (StandsInDie die) IsPrintableNode (printable_node die ok) tree stands

pub printable_made : {E : Type 0} (die : Die) → IsDie die → (result : Result (List TreeNode × Figures) E)
    → IfOk result (λ r. length r.1.nodes ≡ length r.0) → IfOk result (λ r. AreFiguresInRange r.1)
    → IfOk result (λ r. All (StandsInDie die) r.0) → IfOk result (λ r. IsPrintable r.0 r.1)
printable_made die ok (Ok r) long range stands = printable r.0 r.1 (printable_in_die die ok r.0 stands) long range
printable_made die ok (Err end) long range stands = tt

pub sound_nodes_printable : (i : Parts) (tree : List TreeNode) → IsValid i → IsPostOrder (map tree_children tree) → IsSound i tree
    → All IsPrintableNode tree
sound_nodes_printable i tree valid ok sound = printable_in_die i.die valid.die tree (sound_in_die i tree valid ok sound)

pub sound_printable : SoundTreesArePrintable
sound_printable i tree figures valid ok sound are =
    let few : length tree ≤ 131071 = omega (arith, one_leaf_a_sink i tree valid ok sound, valid.sink_count) in
    let has : HasFigures i tree figures = figures_in_range i tree figures ok few sound.within are in
    printable tree figures (sound_nodes_printable i tree valid ok sound) has.one_each has.in_range
