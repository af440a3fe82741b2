use Rattle.std.proofs.Common.{◌≡◌, take, length}
use Rattle.std.specs.List.{AllZip}
use Rattle.cts_postorder.specs.PostOrder.{trees_of}
use Rattle.cts_topo.specs.Shape.{children_from}
use Rattle.cts_up.specs.Ascending.{IsAscent}
use Rattle.cts_up.specs.Stretches.{IsSiteOf}
use Rattle.cts_up.proofs.site.sites_part.Given as goal

abbrev pub invariant-loop-place : goal.invariant-loop-place
invariant-loop-place g l =
    record {
      ascent : IsAscent l.params l.sinks l.first l.nodes l.place l.ascent.named.items l.ascent.leaves l.ascent.waiting.items;
      sites : AllZip (IsSiteOf l.params l.sinks) (take l.place (trees_of (children_from l.first) l.nodes)) (take l.place l.out);
      room : length l.out ≡ length l.nodes;
    }
