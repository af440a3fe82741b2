use Rattle.std.proofs.Common.{◌⊎◌, inl, inr, ◌≤ℤ◌, ◌<ℤ◌, w64, FitsSigned, refl, rules}
use Rattle.std.proofs.lemmas.Int.{to_z-of_z}
use Rattle.std.proofs.lemmas.Result.{on_ok_weaker}
use Rattle.cts_route.proofs.Insertions.{less_told, not_less_told}
use Rattle.cts_route.proofs.FixedLines.{one_more_between, one_past}
use Rattle.cts_route.proofs.lines.insert_between.Goals as goal
use Rattle.cts_route.proofs.lines.insert_between.Goals.{then-line-span-via-then-line-span, then-line-span-via-else-line-span+then-span-line}

pub insert_line-requires : goal.insert_line-requires
insert_line-requires c = c.requires

pub returns-then-line-span : goal.returns-then-line-span
returns-then-line-span c =
    let line : FitsSigned w64 c.args.line = c.ranges.line in
    let low : FitsSigned w64 c.args.span.0 = search rules in
    let high : FitsSigned w64 c.args.span.1 = search rules in
    let past : (c.args.line <ℤ c.args.span.0) ⊎ (c.args.span.1 <ℤ c.args.line) = elim c.then-line-span.branch [
      | then-line-span-via-then-line-span w ↦ inl (less_told c.args.line c.args.span.0 line low w.if-line-span.true)
      | then-line-span-via-else-line-span+then-span-line w ↦ inr (less_told c.args.span.1 c.args.line high line w.if-span-line.true)
    ] in
    λ wanted are. one_past wanted c.args.span.0 c.args.span.1 c.args.lines.now.items c.args.lines.now.items c.args.line are refl past

pub returns : goal.returns
returns c =
    let line : FitsSigned w64 c.args.line = c.ranges.line in
    let low : FitsSigned w64 c.args.span.0 = search rules in
    let high : FitsSigned w64 c.args.span.1 = search rules in
    let above : c.args.span.0 ≤ℤ c.args.line = not_less_told c.args.line c.args.span.0 line low c.if-line-span.false in
    let below : c.args.line ≤ℤ c.args.span.1 = not_less_told c.args.span.1 c.args.line high line c.if-span-line.false in
    λ wanted are. on_ok_weaker c.insert_line.result
    (λ inserted. one_more_between wanted c.args.span.0 c.args.span.1 c.args.lines.now.items c.insert_line.new.lines.items c.args.line _ are inserted
    (to_z-of_z w64 c.args.line line) above below)
    c.insert_line.ensures
