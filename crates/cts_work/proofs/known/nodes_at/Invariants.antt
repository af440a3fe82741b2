use Rattle.std.proofs.Common.{◌≡◌, take}
use Rattle.cts_work.specs.Known.{picked}
use Rattle.cts_work.proofs.known.nodes_at.Given as goal

abbrev pub invariant-loop-place : goal.invariant-loop-place
invariant-loop-place l =
    record {
      own : l.own.items ≡ picked l.nodes (take l.place-index l.places);
    }
