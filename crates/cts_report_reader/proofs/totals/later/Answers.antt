use Rattle.std.proofs.Common.{◌+◌, Ok, subst, arith}
use Rattle.cts_report_reader.specs.Seen.{FindsLine}
use Rattle.cts_report_reader.specs.Totals.{seen_arrivals, seen_closing, seen_later}
use Rattle.cts_report_reader.specs.Whole.{closing_at}
use Rattle.cts_report_reader.specs.Words.{same}
use Rattle.cts_report_reader.proofs.TotalReads.{found_is, nothing_is, line_is, line_missed, line_there, later_no_least, later_there}
use Rattle.cts_report_reader.proofs.totals.later.Goals as goal

pub figure-requires : goal.figure-requires
figure-requires c = omega arith

pub overflow_add-result : goal.overflow_add-result
overflow_add-result c = omega arith

pub returns-in_default : goal.returns-in_default
returns-in_default c =
    line_missed seen_later (c.args.at + 1) (c.args.at + 1) _ (later_no_least c.args.version c.args.at c.args.bytes.now (nothing_is same _ c.in_default.ensures)) (omega arith)

pub overflow_add-at : goal.overflow_add-at
overflow_add-at c = omega arith

pub read_arrivals-requires : goal.read_arrivals-requires
read_arrivals-requires c = omega arith

pub overflow_add-at-2 : goal.overflow_add-at-2
overflow_add-at-2 c = omega arith

pub overflow_add-at-3 : goal.overflow_add-at-3
overflow_add-at-3 c = omega arith

pub read_closing-requires : goal.read_closing-requires
read_closing-requires c = omega arith

pub returns : goal.returns
returns c =
    let closing = subst (λ n. FindsLine seen_closing (Ok (c.in_ok-closing.closing, c.in_ok-closing.rest)) (closing_at (c.args.at + 1 + n) c.in_ok-arrivals.rest.now))
    c.arrival_count.ensures.same c.in_ok-closing.ensures in
    line_there seen_later _ c.in_ok-closing.rest _
    (later_there c.args.version c.args.at c.args.bytes.now c.in-Some.least c.in-Some.rest.now (found_is same c.in-Some.least c.in-Some.rest _ c.in-Some.ensures)
    (seen_arrivals c.in_ok-arrivals.arrivals) c.in_ok-arrivals.rest.now (line_is seen_arrivals c.in_ok-arrivals.arrivals c.in_ok-arrivals.rest _ c.in_ok-arrivals.ensures)
    (seen_closing c.in_ok-closing.closing) c.in_ok-closing.rest.now (line_is seen_closing c.in_ok-closing.closing c.in_ok-closing.rest _ closing))
