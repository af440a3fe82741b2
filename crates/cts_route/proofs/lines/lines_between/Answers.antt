use Rattle.std.proofs.Common.{[], ◌∷◌, take, arith}
use Rattle.std.proofs.lemmas.Int.{ints}
use Rattle.cts_route.proofs.FixedLines.{none_between, one_more_between, next_between, all_between}
use Rattle.cts_route.proofs.lines.lines_between.Goals as goal

pub insert_between-requires : goal.insert_between-requires
insert_between-requires c = c.loop-line.invariant.ascending

pub loop-line-init : goal.loop-line-init
loop-line-init c =
    one_more_between (c.args.ends.0 ∷ []) c.args.span.0 c.args.span.1 c.insert_line.new.lines.items c.insert_line-2.new.lines.items c.args.ends.1 _
    (one_more_between [] c.args.span.0 c.args.span.1 c.in_ok-lines.lines.items c.insert_line.new.lines.items c.args.ends.0 _
    (none_between c.args.span.0 c.args.span.1 c.in_ok-lines.lines.items c.in_ok-lines.ensures.items)
    c.in_ok-insert_line.ensures (omega (arith, ints)) c.requires.first.0 c.requires.first.1)
    c.in_ok-insert_line-2.ensures (omega (arith, ints)) c.requires.second.0 c.requires.second.1

pub loop-line-preserved : goal.loop-line-preserved
loop-line-preserved c =
    next_between c.args.ends.0 c.args.ends.1 c.args.fixed.now c.loop-line.line-index _ c.args.span.0 c.args.span.1
    c.insert_between.new.lines.items c.loop-line-test.true (omega (arith, ints))
    (c.in_ok-insert_between.ensures (c.args.ends.0 ∷ c.args.ends.1 ∷ take c.loop-line.line-index c.args.fixed.now) c.loop-line.invariant)

pub returns : goal.returns
returns c =
    all_between c.args.ends.0 c.args.ends.1 c.args.fixed.now c.loop-line.line-index c.args.span.0 c.args.span.1 c.loop-line.lines.items
    c.loop-line-test.false c.loop-line.invariant
