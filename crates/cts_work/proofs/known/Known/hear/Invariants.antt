use Rattle.std.proofs.Common.{◌≡◌, ◌+◌, List}
use Rattle.cts_memo.specs.declared.entry.MemoEntry.{MemoEntry}
use mathlib.Core.List.{IsPrefix}
use Rattle.cts_work.specs.Known.{IsKnown, StandFrom}
use Rattle.cts_work.proofs.known.Known.hear.Given as goal

abbrev pub invariant-loop-entry : goal.invariant-loop-entry
invariant-loop-entry l =
    record {
      next : l.self.next ≡ l.fn.self.next + l.entry-index;
      more : IsPrefix l.fn.self.nodes.items l.self.nodes.items;
      known : (seen : List MemoEntry) → StandFrom seen l.fn.self.next l.entries → IsKnown seen l.fn.self → IsKnown seen l.self;
    }
