use Rattle.std.proofs.Common.{◌+◌, w64, FitsSigned, inl, inr, rules}
use Rattle.std.proofs.lemmas.Int.{to_z-of_z}
use Rattle.cts_route.specs.LineLists.{line_at}
use Rattle.cts_route.proofs.window.span_of.Goals as goal

pub returns-then-column-xs : goal.returns-then-column-xs
returns-then-column-xs c =
    let low : FitsSigned w64 (line_at c.args.xs.now c.args.column) = search rules in
    let high : FitsSigned w64 (line_at c.args.xs.now (c.args.column + 1)) = search rules in
    record { from = to_z-of_z w64 _ low; to = inl (c.if-column-xs.true, to_z-of_z w64 _ high) }

pub returns-else-column-xs : goal.returns-else-column-xs
returns-else-column-xs c =
    let low : FitsSigned w64 (line_at c.args.xs.now c.args.column) = search rules in
    record { from = to_z-of_z w64 _ low; to = inr (c.if-column-xs.false, to_z-of_z w64 _ low) }
