use Rattle.std.proofs.Common.{◌<◌, length, inl, sym, ap, ◌∙◌, subst, arith}
use Rattle.cts_memo.specs.Keys.{entries_of}
use Rattle.cts_memo.specs.Sound.{max_entries}
use Rattle.cts_memo.specs.declared.entry.PutEnd.TheVariants.{At}
use Rattle.cts_memo.specs.Replies.{IsPut, after_put}
use Rattle.cts_memo.proofs.Maps.{looked_none}
use Rattle.cts_memo.proofs.Publications.{length-entries, insert_keeps, insert_end, insert_told, found_told}
use Rattle.cts_memo.proofs.table.Table.publish.Goals as goal

pub invariant_of-self : goal.invariant_of-self
invariant_of-self c =
    let table = c.args.self.now in
    let room : length (entries_of table.map.entries) < max_entries =
    omega (arith, table.short, length-entries table.map.entries) in
    let keeps =
    insert_keeps table.params.value table.map.entries c.args.key c.args.finished table.within table.sound c.requires
    c.insert_full.result c.insert_full.new.self.entries c.insert_full.ensures.entries c.insert_full.ensures.err room in
    record { within = table.within; sound = keeps.0; short = keeps.1 }

pub returns-in-Have-clause-end : goal.returns-in-Have-clause-end
returns-in-Have-clause-end c = inl (c.in-Have.finished, c.in-Have.ensures)

pub returns-in-Have-clause-told : goal.returns-in-Have-clause-told
returns-in-Have-clause-told c = found_told _ c.args.key c.args.finished c.in-Have.number _ c.in-Have.ensures

pub returns-in-Ok-clause-end : goal.returns-in-Ok-clause-end
returns-in-Ok-clause-end c =
    let table = c.args.self.now in
    let room : length (entries_of table.map.entries) < max_entries = omega (arith, table.short, length-entries table.map.entries) in
    let end =
    insert_end table.params.value table.map.entries c.args.key c.args.finished table.within table.sound c.requires room in
    subst (λ n. IsPut (entries_of table.map.entries) c.args.key (At n)) (sym c.in-Ok.ensures.index) end

pub returns-in-Ok-clause-told : goal.returns-in-Ok-clause-told
returns-in-Ok-clause-told c =
    let table = c.args.self.now in
    let after =
    insert_told table.params.value table.map.entries c.args.key c.args.finished table.within table.sound c.requires
    c.insert_full.new.self.entries c.in-Ok.ensures.entries in
    after ∙ ap (λ n. after_put (entries_of table.map.entries) c.args.key c.args.finished (At n)) (sym c.in-Ok.ensures.index)

pub returns-in-Err-clause-end : goal.returns-in-Err-clause-end
returns-in-Err-clause-end c =
    let table = c.args.self.now in (
      looked_none c.args.key table.map.entries c.in-Err.ensures.absent,
      omega (arith, table.short, length-entries table.map.entries),
    )
