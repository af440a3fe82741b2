use Rattle.std.proofs.Common.{◌≢◌, w64, FitsSigned, to_z, of_z, sym, ap, ◌∙◌, below_more, rules, arith}
use Rattle.std.proofs.lemmas.Int.{to_z-of_z}
use Rattle.cts_route.specs.LineLists.{line_at}
use Rattle.cts_route.proofs.Insertions.{number_of}
use Rattle.cts_route.proofs.grid.number_of.Goals as goal

pub returns-then-other-line : goal.returns-then-other-line
returns-then-other-line c =
    let line : FitsSigned w64 c.args.line = c.ranges.line in
    let at : FitsSigned w64 (line_at c.args.lines.now c.loop-number.number) = search rules in
    record {
      inside = c.loop-number-test.true;
      at = sym (to_z-of_z w64 _ at) ∙ ap (to_z w64) c.if-other-line.true ∙ to_z-of_z w64 _ line;
    }

pub loop-number-preserved : goal.loop-number-preserved
loop-number-preserved c =
    let line : FitsSigned w64 c.args.line = c.ranges.line in
    below_more (λ k. line_at c.args.lines.now k ≢ to_z w64 (of_z w64 c.args.line)) c.loop-number.number c.loop-number.invariant
    (λ e. c.if-other-line.false (ap (of_z w64) (e ∙ to_z-of_z w64 _ line)))

pub returns : goal.returns
returns c =
    let line : FitsSigned w64 c.args.line = c.ranges.line in
    let known = number_of c.args.lines.now c.args.line c.requires in
    absurd (c.loop-number.invariant known.0 (let inside = known.1.0 in omega (arith, inside)) (known.1.1 ∙ sym (to_z-of_z w64 _ line)))
