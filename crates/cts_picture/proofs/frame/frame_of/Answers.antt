use Rattle.std.proofs.Common.{arith, div-le_self}
use Rattle.std.proofs.lemmas.Int.{ints}
use Rattle.cts_picture.proofs.frame.frame_of.Goals as goal

pub returns-clause-frame : goal.returns-clause-frame
returns-clause-frame c = record {
  x_order = omega (arith, ints, c.drawn-x1.ensures.number, c.drawn-x2.ensures.number, c.requires.x_order);
  x_high = c.drawn-x2.ensures.bound;
  y_order = omega (arith, ints, c.drawn-y1.ensures.number, c.drawn-y2.ensures.number, c.requires.y_order);
  y_high = c.drawn-y2.ensures.bound;
  line_low = omega arith;
  line_high = omega (arith, c.max-side.ensures, c.drawn-x2.ensures.bound, c.drawn-y2.ensures.bound);
  stroke_high = omega (arith, div-le_self c.max-side.result c.wires_across.result, c.max-side.ensures, c.drawn-x2.ensures.bound, c.drawn-y2.ensures.bound);
  bar_high = c.bar_of.ensures.high;
}
