use Rattle.std.proofs.Common.{◌+◌, Ok, Err, arith}
use Rattle.cts_report_reader.specs.Totals.{seen_totals}
use Rattle.cts_report_reader.specs.Words.{same}
use Rattle.cts_report_reader.proofs.TotalReads.{found_is, nothing_is, line_missed, totals_no_load, totals_no_wire, totals_no_greatest, totals_found}
use Rattle.cts_report_reader.proofs.totals.totals.Goals as goal

pub returns-in-Ok : goal.returns-in-Ok
returns-in-Ok c =
    totals_found c.args.version c.args.at c.args.bytes.now c.in-Some.source_load c.in-Some-figure.wire_total c.in-Some-figure-2.greatest c.in-Some.rest c.in-Some-figure.rest c.in-Some-figure-2.rest
    (Ok (c.in-Ok.later, c.in-Ok.rest)) c.in-Some.ensures c.in-Some-figure.ensures c.in-Some-figure-2.ensures c.in-Ok.ensures

pub returns-in-Err : goal.returns-in-Err
returns-in-Err c =
    totals_found c.args.version c.args.at c.args.bytes.now c.in-Some.source_load c.in-Some-figure.wire_total c.in-Some-figure-2.greatest c.in-Some.rest c.in-Some-figure.rest c.in-Some-figure-2.rest
    (Err c.in-Err.line) c.in-Some.ensures c.in-Some-figure.ensures c.in-Some-figure-2.ensures c.in-Err.ensures

pub figure-requires : goal.figure-requires
figure-requires c = omega arith

pub figure-requires-2 : goal.figure-requires-2
figure-requires-2 c = omega arith

pub figure-requires-3 : goal.figure-requires-3
figure-requires-3 c = omega arith

pub overflow_add-result : goal.overflow_add-result
overflow_add-result c = omega arith

pub overflow_add-result-in_default-figure : goal.overflow_add-result-in_default-figure
overflow_add-result-in_default-figure c = omega arith

pub overflow_add-result-in_default-figure-2 : goal.overflow_add-result-in_default-figure-2
overflow_add-result-in_default-figure-2 c = omega arith

pub overflow_add-at : goal.overflow_add-at
overflow_add-at c = omega arith

pub later-requires : goal.later-requires
later-requires c = omega arith

pub returns-in_default : goal.returns-in_default
returns-in_default c =
    line_missed seen_totals (c.args.at + 1) (c.args.at + 1) _
    (totals_no_load c.args.version c.args.at c.args.bytes.now (nothing_is same _ c.in_default.ensures)) (omega arith)

pub returns-in_default-figure : goal.returns-in_default-figure
returns-in_default-figure c =
    line_missed seen_totals (c.args.at + 2) (c.args.at + 1 + 1) _
    (totals_no_wire c.args.version c.args.at c.args.bytes.now c.in-Some.source_load c.in-Some.rest.now (found_is same c.in-Some.source_load c.in-Some.rest _ c.in-Some.ensures) (nothing_is same _ c.in_default-figure.ensures)) (omega arith)

pub returns-in_default-figure-2 : goal.returns-in_default-figure-2
returns-in_default-figure-2 c =
    line_missed seen_totals (c.args.at + 3) (c.args.at + 2 + 1) _
    (totals_no_greatest c.args.version c.args.at c.args.bytes.now c.in-Some.source_load c.in-Some-figure.wire_total c.in-Some.rest.now c.in-Some-figure.rest.now (found_is same c.in-Some.source_load c.in-Some.rest _ c.in-Some.ensures)
    (found_is same c.in-Some-figure.wire_total c.in-Some-figure.rest _ c.in-Some-figure.ensures) (nothing_is same _ c.in_default-figure-2.ensures)) (omega arith)
