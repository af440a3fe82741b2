use Rattle.std.proofs.Common.{◌≡◌, ◌+◌, ◌-◌, List, Err, Vec, Global, sym, ap, ◌∙◌, arith}
use Rattle.cts_edit.specs.declared.edit.Entry.{Entry}
use Rattle.cts_report_reader.specs.Seen.{fronted_lines}
use Rattle.cts_report_reader.specs.Words.{same}
use Rattle.cts_report_reader.proofs.NodeLoops.{found_lines, missed_line}
use Rattle.cts_report_reader.proofs.PairReads.{err_finds_lines}
use Rattle.cts_report_reader.proofs.TotalReads.{found_is, nothing_is}
use Rattle.cts_history.specs.Entries.{entry_at, entries_at}
use Rattle.cts_history.proofs.EntryLoops.{entries_begin, entries_step, entries_none, entries_done}
use Rattle.cts_history.proofs.read.entries.Goals as goal

pub loop-number-init : goal.loop-number-init
loop-number-init c =
    ap (λ (es : List Entry). fronted_lines es (entries_at (c.args.count - 0) 0 c.args.bytes.now)) c.in_ok-items.ensures.items
    ∙ entries_begin c.args.count c.args.bytes.now

pub loop-number-preserved : goal.loop-number-preserved
loop-number-preserved c =
    let l = c.loop-number in
    ap (λ es. fronted_lines es (entries_at (c.args.count - (l.number + 1)) (l.number + 1) c.in-Some.after.now)) c.in_ok-push.ensures.items
    ∙ entries_step c.args.count l.number l.items.items _ l.rest.now c.in-Some.next c.in-Some.after.now c.loop-number-test.true l.invariant
    (ap (λ n. entry_at (n + 1) l.rest.now) (sym c.from.ensures) ∙ found_is same c.in-Some.next c.in-Some.after _ c.in-Some.ensures)

pub returns-in_default : goal.returns-in_default
returns-in_default c =
    let l = c.loop-number in
    missed_line (λ (es : Vec Entry Global). es.items) (c.from-in_default.result + 3) _
    (entries_none c.args.count l.number l.items.items _ l.rest.now c.loop-number-test.true l.invariant
    (ap (λ n. entry_at (n + 1) l.rest.now) (sym c.from.ensures) ∙ nothing_is same _ c.in_default.ensures)
    ∙ ap (λ n. Err (n + 3)) (sym c.from-in_default.ensures))

pub returns : goal.returns
returns c =
    let l = c.loop-number in
    let e : l.number ≡ c.args.count = omega arith in
    found_lines (λ (es : Vec Entry Global). es.items) l.items l.rest _ (entries_done c.args.count l.number l.items.items _ l.rest.now e l.invariant)

pub returns-in_err-items : goal.returns-in_err-items
returns-in_err-items c = err_finds_lines (λ (es : Vec Entry Global). es.items) c.from_residual.result _ c.from_residual.ensures.0
