use Rattle.std.proofs.Common.{◌≡◌, [], sym, ap, ◌∙◌, refl}
use Rattle.cts_io.specs.Lines.{LinesLeft, lines_of}
use Rattle.cts_read.specs.Grammar.{Left, line_at}
use Rattle.cts_read.specs.Place.{Place}
use Rattle.cts_read.proofs.Contents.{left_skip, left_next, left_none, missing_none}
use Rattle.cts_read.proofs.left.content_line.Goals as goal

-- lines that are left as a place in a text of their own
abbrev place_in : LinesLeft → Place
place_in lines = record { text = lines.rest; rest = lines.rest; line = lines.line }

pub returns-then-not-is_skipped-clause-next : goal.returns-then-not-is_skipped-clause-next
returns-then-not-is_skipped-clause-next c =
    rw (← c.in-Some.ensures.after)
    (ap line_at (sym c.loop-number.invariant)
    ∙ left_next (place_in c.loop-number.lines) (place_in c.next.new.self) c.in-Some.line.now c.in-Some.ensures.first
    (c.in-Some.ensures.after ∙ c.in-Some.ensures.number) (sym c.is_skipped.ensures ∙ c.if-not-is_skipped.true))

pub loop-number-preserved : goal.loop-number-preserved
loop-number-preserved c =
    left_skip (place_in c.loop-number.lines) (place_in c.next.new.self) c.in-Some.line.now c.in-Some.ensures.first
    (c.in-Some.ensures.after ∙ c.in-Some.ensures.number) (sym c.is_skipped.ensures ∙ c.if-not-is_skipped.false)
    ∙ c.loop-number.invariant

pub returns-clause-next : goal.returns-clause-next
returns-clause-next c =
    let none : lines_of c.loop-number.lines.rest ≡ [] = c.in_default.ensures.none.0 refl in
    ap (λ (left : Left). left.lines) (sym c.loop-number.invariant) ∙ left_none (place_in c.loop-number.lines) none

pub returns-clause-end : goal.returns-clause-end
returns-clause-end c =
    let none : lines_of c.loop-number.lines.rest ≡ [] = c.in_default.ensures.none.0 refl in
    rw c.in_default.ensures.kept
    (ap (λ (left : Left). left.missing) (sym c.loop-number.invariant) ∙ missing_none (place_in c.loop-number.lines) none)
