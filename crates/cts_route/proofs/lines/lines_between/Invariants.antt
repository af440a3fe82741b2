use Rattle.std.proofs.Common.{◌∷◌, take}
use Rattle.cts_route.specs.LineLists.{AreLinesBetween}
use Rattle.cts_route.proofs.lines.lines_between.Given as goal

abbrev pub invariant-loop-line : goal.invariant-loop-line
invariant-loop-line l = AreLinesBetween (l.fn.ends.0 ∷ l.fn.ends.1 ∷ take l.line-index l.fixed) l.span.0 l.span.1 l.lines.items
