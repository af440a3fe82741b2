use Rattle.std.proofs.Common.{◌≡◌, ◌+◌, ◌≤◌, All, length, true}
use Rattle.cts_turn.specs.Passes.{seen_by}
use Rattle.cts_work.specs.Built.{GoesOn, IsNoted}
use Rattle.cts_work.specs.Known.{StandAt, picked, sites_of}
use Rattle.cts_work.specs.Last.{AreFound, AreKeyed, MayStandIn}
use Rattle.cts_work.specs.Work.{AreBuilt, missing_from}
use Rattle.cts_work.proofs.part.build_part.Given as goal

abbrev pub invariant-loop-node : goal.invariant-loop-node
invariant-loop-node g l =
    record {
      upto : l.node ≤ l.root + 1;
      pass : GoesOn l.work.memo.now l.fn.pass l.pass;
      noted : All (IsNoted (seen_by l.pass)) l.known.nodes.items;
      last : MayStandIn l.known.nodes.items l.worker.last.now;
      long : length l.places.items ≡ l.node;
      found : AreFound l.worker.last.now.places.items l.places.items l.found.items;
      built : StandAt l.known.nodes.items l.places.items (AreBuilt l.work (seen_by l.pass) 0);
      keyed : l.numbered ≡ true → AreKeyed l.work.sinks.now l.work.nodes.now (picked l.known.nodes.items l.places.items);
      sites : l.sites.items ≡ sites_of (picked l.known.nodes.items l.places.items);
      merges : l.steps ≤ l.fn.steps + missing_from l.work (seen_by l.fn.pass) 0 l.node;
    }
