use Rattle.std.proofs.Common.{ℕ, List, Result, Ok, Vec, Global, Bor, subst}
use Rattle.cts_num.specs.declared.error.NoMemory.{NoMemory}
use Rattle.cts_edit.specs.declared.edit.Entry.{Entry}
use Rattle.cts_report_reader.specs.Seen.{FindsLines}
use Rattle.cts_history.specs.Entries.{history_at}
use Rattle.cts_history.proofs.Openings.{lines_read, lines_missed}
use Rattle.cts_history.proofs.read.read_history.Goals as goal

pub returns-in-Ok : goal.returns-in-Ok
returns-in-Ok c =
    let found = subst (λ (o : Result (Vec Entry Global × Bor (List ℕ)) ℕ). FindsLines {E = NoMemory} (λ (es : Vec Entry Global). es.items) (Ok o) (history_at c.args.bytes.now)) c.in-Ok.is c.in_ok-entries.ensures in
    lines_read c.args.bytes.now c.in-Ok.entries c.in-Ok._rest found

pub returns-in-Err : goal.returns-in-Err
returns-in-Err c =
    let missed = subst (λ (o : Result (Vec Entry Global × Bor (List ℕ)) ℕ). FindsLines {E = NoMemory} (λ (es : Vec Entry Global). es.items) (Ok o) (history_at c.args.bytes.now)) c.in-Err.is c.in_ok-entries.ensures in
    lines_missed c.args.bytes.now c.in-Err.line missed
