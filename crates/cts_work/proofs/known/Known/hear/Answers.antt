use Rattle.std.proofs.Common.{arith}
use Rattle.cts_list.proofs.Prefixes.{prefix_self, prefix_trans}
use Rattle.cts_work.proofs.Noted.{entry_stands}
use Rattle.cts_work.proofs.known.Known.hear.Goals as goal

pub loop-entry-init : goal.loop-entry-init
loop-entry-init c =
    record {
      next = omega arith;
      more = prefix_self c.args.self.now.nodes.items;
      known = λ seen stand known. known;
    }

pub returns-then-is_err-clause-known : goal.returns-then-is_err-clause-known
returns-then-is_err-clause-known c seen stand known =
    c.hear_one.ensures.known seen
    (entry_stands seen c.args.entries.now c.args.self.now.next c.loop-entry.self.next c.loop-entry.entry-index c.entry-item.result
    c.loop-entry.invariant.next c.loop-entry-test.true c.entry-item.is stand)
    (c.loop-entry.invariant.known seen stand known)

pub returns-then-is_err-clause-more : goal.returns-then-is_err-clause-more
returns-then-is_err-clause-more c =
    prefix_trans c.args.self.now.nodes.items c.loop-entry.self.nodes.items c.hear_one.new.self.nodes.items c.loop-entry.invariant.more c.hear_one.ensures.more

pub loop-entry-preserved : goal.loop-entry-preserved
loop-entry-preserved c =
    record {
      next = omega (arith, c.in-Some.ensures, c.loop-entry.invariant.next);
      more = prefix_trans c.args.self.now.nodes.items c.loop-entry.self.nodes.items c.hear_one.new.self.nodes.items c.loop-entry.invariant.more
          c.hear_one.ensures.more;
      known = λ seen stand known.
          c.hear_one.ensures.known seen
          (entry_stands seen c.args.entries.now c.args.self.now.next c.loop-entry.self.next c.loop-entry.entry-index c.entry-item.result
          c.loop-entry.invariant.next c.loop-entry-test.true c.entry-item.is stand)
          (c.loop-entry.invariant.known seen stand known);
    }
