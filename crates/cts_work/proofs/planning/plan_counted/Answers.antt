use Rattle.std.proofs.Common.{◌-◌, length, refl, subst, arith}
use Rattle.std.proofs.lemmas.Result.{IfErr-weaker}
use Rattle.cts_postorder.proofs.Lists.{length_pos}
use Rattle.cts_topo.specs.Shape.{children}
use Rattle.cts_work.specs.Done.{IsDone}
use Rattle.cts_work.proofs.Made.{planned}
use Rattle.cts_work.proofs.Parts.{ends_in_all}
use Rattle.cts_work.proofs.planning.plan_counted.Goals as goal

pub complete-requires-clause-slots : goal.complete-requires-clause-slots
complete-requires-clause-slots g c = record {
  long = c.in_ok-slots.ensures.long;
  each = λ n h.
      let slot = c.in_ok-slots.ensures.slots n h in (
        slot.0,
        slot.1,
        subst (IsDone c.args.work.now c.args.pieces.now) (slot.2.2) (c.requires.done (slot.2.0) (slot.0) (slot.2.1)),
        slot.3,
      );
}

pub returns-clause-plan : goal.returns-clause-plan
returns-clause-plan g c = planned c.args.work.now c.complete.result c.complete.ensures.long c.complete.ensures.made

pub returns-clause-ends : goal.returns-clause-ends
returns-clause-ends g c =
    IfErr-weaker c.complete.result _ _
    (λ end ends.
    ends_in_all c.args.work.now c.args.work.now.nodes.now refl (length c.args.work.now.nodes.now - 1)
    (omega (arith, length_pos children c.args.work.now.nodes.now c.requires.ready.shape.post_order)) end ends)
    c.complete.ensures.ends
