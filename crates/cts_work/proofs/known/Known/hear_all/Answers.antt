use Rattle.cts_list.proofs.Prefixes.{prefix_self, prefix_trans}
use Rattle.cts_work.proofs.Nodes.{stands_still, goes_further}
use Rattle.cts_work.proofs.known.Known.hear_all.Goals as goal

pub loop-init : goal.loop-init
loop-init g c =
    record {
      pass = stands_still c.args.memo.now c.args.pass.now c.requires.own;
      known = c.requires.known;
      more = prefix_self c.args.self.now.nodes.items;
    }

pub hear_next-requires-clause-own : goal.hear_next-requires-clause-own
hear_next-requires-clause-own g c = c.loop.invariant.pass.own

pub hear_next-requires-clause-known : goal.hear_next-requires-clause-known
hear_next-requires-clause-known g c = c.loop.invariant.known

pub returns-then-not-hear_next-clause-pass : goal.returns-then-not-hear_next-clause-pass
returns-then-not-hear_next-clause-pass g c =
    goes_further c.args.memo.now c.args.pass.now c.loop.pass c.hear_next.new.pass c.loop.invariant.pass c.hear_next.ensures.pass

pub loop-preserved : goal.loop-preserved
loop-preserved g c =
    record {
      pass = goes_further c.args.memo.now c.args.pass.now c.loop.pass c.hear_next.new.pass c.loop.invariant.pass c.hear_next.ensures.pass;
      known = c.hear_next.ensures.known;
      more = prefix_trans c.args.self.now.nodes.items c.loop.self.nodes.items c.hear_next.new.self.nodes.items c.loop.invariant.more
          c.hear_next.ensures.more;
    }

pub returns-clause-pass : goal.returns-clause-pass
returns-clause-pass g c = c.loop.invariant.pass

pub returns-clause-known : goal.returns-clause-known
returns-clause-known g c = c.loop.invariant.known

pub returns-clause-more : goal.returns-clause-more
returns-clause-more g c = c.loop.invariant.more

pub returns-then-not-hear_next-clause-more : goal.returns-then-not-hear_next-clause-more
returns-then-not-hear_next-clause-more g c =
    prefix_trans c.args.self.now.nodes.items c.loop.self.nodes.items c.hear_next.new.self.nodes.items c.loop.invariant.more c.hear_next.ensures.more
