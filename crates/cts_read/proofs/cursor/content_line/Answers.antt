use Rattle.std.proofs.Common.{◌≡◌, [], sym, ap, ◌∙◌, refl}
use Rattle.cts_io.specs.Lines.{lines_of}
use Rattle.cts_read.specs.Grammar.{Left, line_at}
use Rattle.cts_read.proofs.Contents.{left_skip, left_next, left_none, missing_none}
use Rattle.cts_read.proofs.cursor.content_line.Goals as goal

pub returns-then-not-is_skipped-clause-next : goal.returns-then-not-is_skipped-clause-next
returns-then-not-is_skipped-clause-next c =
    rw (← c.in-Some.ensures.after)
    (ap line_at (sym c.loop-number.invariant.left)
    ∙ left_next c.loop-number.lines c.next.new.self c.in-Some.line.now c.in-Some.ensures.first
    (c.in-Some.ensures.after ∙ c.in-Some.ensures.number) (sym c.is_skipped.ensures ∙ c.if-not-is_skipped.true))

pub returns-then-not-is_skipped-clause-text : goal.returns-then-not-is_skipped-clause-text
returns-then-not-is_skipped-clause-text c = c.in-Some.ensures.text ∙ c.loop-number.invariant.text

pub loop-number-preserved : goal.loop-number-preserved
loop-number-preserved c = record {
  left = left_skip c.loop-number.lines c.next.new.self c.in-Some.line.now c.in-Some.ensures.first
      (c.in-Some.ensures.after ∙ c.in-Some.ensures.number) (sym c.is_skipped.ensures ∙ c.if-not-is_skipped.false)
      ∙ c.loop-number.invariant.left;
  text = c.in-Some.ensures.text ∙ c.loop-number.invariant.text;
}

pub returns-clause-text : goal.returns-clause-text
returns-clause-text c = c.in_default.ensures.text ∙ c.loop-number.invariant.text

pub returns-clause-next : goal.returns-clause-next
returns-clause-next c =
    let none : lines_of c.loop-number.lines.rest ≡ [] = c.in_default.ensures.none.0 refl in
    ap (λ (left : Left). left.lines) (sym c.loop-number.invariant.left) ∙ left_none c.loop-number.lines none

pub returns-clause-end : goal.returns-clause-end
returns-clause-end c =
    let none : lines_of c.loop-number.lines.rest ≡ [] = c.in_default.ensures.none.0 refl in
    rw c.in_default.ensures.kept
    (ap (λ (left : Left). left.missing) (sym c.loop-number.invariant.left) ∙ missing_none c.loop-number.lines none)
