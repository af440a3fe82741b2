use Rattle.std.proofs.Common.{refl, sym, subst}
use Rattle.cts_postorder.specs.Waiting.{AreWaiting}
use Rattle.cts_postorder.proofs.Waiting.{waiting_at_start}
use Rattle.cts_topo.specs.Shape.{children_from}
use Rattle.cts_up.specs.Ascending.{IsSide}
use Rattle.cts_up.proofs.ascent.Ascent.begin.Goals as goal

pub returns : goal.returns
returns c = λ params first stretch. record {
  stretch = stretch;
  each_named = c.in_ok-sinks_of_leaves.ensures;
  counted = refl;
  each_waits = subst (AreWaiting (children_from first) c.args.nodes.now (IsSide params c.args.sinks.now) 0) (sym c.new.ensures.items)
      (waiting_at_start (children_from first) c.args.nodes.now (IsSide params c.args.sinks.now) stretch.post_order);
}
