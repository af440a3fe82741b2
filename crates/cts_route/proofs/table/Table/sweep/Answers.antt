use Rattle.std.proofs.Common.{arith}
use Rattle.cts_route.proofs.Sweeps.{on_false, on_true, from_false, from_true, not_swept, swept_shorter, swept_kept}
use Rattle.cts_route.proofs.table.Table.sweep.Goals as goal
use Rattle.cts_route.proofs.table.Table.sweep.Goals.{then-relax_below, else-relax_below}

pub loop-from-init : goal.loop-from-init
loop-from-init c = not_swept c.args.graph.now c.args.start c.args.self.now.goal c.args.self.now.labels.items c.requires.labels

pub loop-from-preserved : goal.loop-from-preserved
loop-from-preserved c =
    elim c.if-relax_below.branch [
      | then-relax_below w ↦
          swept_shorter c.args.graph.now c.args.start c.loop-from.self.goal c.relax_below.new.self.goal c.args.self.now.goal c.loop-from.from
          c.args.self.now.labels.items c.loop-from.self.labels.items c.relax_below.new.self.labels.items c.loop-from.changed c.if-relax_below.changed
          c.loop-from.invariant c.relax_below.ensures.labels c.relax_below.ensures.goal
          (from_true c.relax_below.result _ w.if-relax_below.true c.relax_below.ensures.shorter) w.changed-is
      | else-relax_below w ↦
          swept_kept c.args.graph.now c.args.start c.loop-from.self.goal c.relax_below.new.self.goal c.args.self.now.goal c.loop-from.from
          c.args.self.now.labels.items c.loop-from.self.labels.items c.relax_below.new.self.labels.items c.loop-from.changed c.if-relax_below.changed
          c.loop-from.invariant c.relax_below.ensures.labels c.relax_below.ensures.goal
          (from_false c.relax_below.result _ w.if-relax_below.false c.relax_below.ensures.kept)
          (from_false c.relax_below.result _ w.if-relax_below.false c.relax_below.ensures.settled) w.changed-is
    ]

pub returns : goal.returns
returns c =
    record {
      labels = c.loop-from.invariant.valid;
      goal = c.loop-from.invariant.same_goal;
      shorter = on_true c.loop-from.changed _ c.loop-from.invariant.shorter;
      settled = on_false c.loop-from.changed _ (λ e. record {
        from = λ k lt.
            c.loop-from.invariant.settled e k (let now = c.loop-from.invariant.valid.size in let was = c.requires.labels.size in omega (arith, now, was));
      });
    }
