use Rattle.std.proofs.Common.{true, false, sym, ◌∙◌}
use Rattle.cts_read.specs.Grammar.{left_in}
use Rattle.cts_read.proofs.Contents.{rest_none, rest_refused}
use Rattle.cts_read.proofs.left.none_left.Goals as goal

pub returns-in_default : goal.returns-in_default
returns-in_default c = rest_none (left_in c.args.lines.now) (c.in_default.ensures.next)

pub returns-then-is_printable : goal.returns-then-is_printable
returns-then-is_printable c =
    rest_refused (left_in c.args.lines.now) _ _ true c.in-Some.ensures.next (sym c.is_printable.ensures ∙ c.if-is_printable.true)

pub returns-else-is_printable : goal.returns-else-is_printable
returns-else-is_printable c =
    rest_refused (left_in c.args.lines.now) _ _ false c.in-Some.ensures.next (sym c.is_printable.ensures ∙ c.if-is_printable.false)
