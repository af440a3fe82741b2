use Rattle.std.proofs.Common.{◌≡◌, ℕ, ◌+◌, ◌-◌, ◌≤◌, List, length, refl, sym, ap, subst, arith}
use Rattle.cts_topo.specs.Shape.{IsShapeOver, children}
use Rattle.cts_topo.proofs.Counts.{length-shape}
use Rattle.cts_postorder.proofs.Lists.{length_pos}
use Rattle.cts_turn.specs.Passes.{seen_by}
use Rattle.cts_work.specs.declared.work.Work.{Work}
use Rattle.cts_work.specs.Work.{IsReady, missing_from}
use Rattle.cts_memo.specs.declared.entry.MemoEntry.{MemoEntry}
use Rattle.cts_work.specs.Last.{AreKeyed, AreSameLeaves}
use Rattle.cts_work.specs.Known.{picked}
use Rattle.cts_work.proofs.Picked.{length-picked}
use Rattle.cts_work.proofs.Parts.{whole_part, ends_in_all, merges_in_all, plan_made, all_known}
use Rattle.cts_work.proofs.upward.build_over.Goals as goal

pub overflow_cast-root : goal.overflow_cast-root
overflow_cast-root g c =
    omega (
      arith,
      length-shape (length c.args.sinks.now) c.args.shape.now c.requires.shape,
      c.requires.sinks.few,
      ap length c.nodes-nodes.ensures.nodes,
    )

pub overflow_sub-root : goal.overflow_sub-root
overflow_sub-root g c =
    omega (arith, length_pos children c.args.shape.now c.requires.shape.post_order, ap length c.nodes-nodes.ensures.nodes)

pub build_part-requires-clause-part : goal.build_part-requires-clause-part
build_part-requires-clause-part g c κs within =
    let work : Work = record { memo = c.args.memo; sinks = c.args.sinks; nodes = c.nodes-nodes.result } in
    let over = subst (IsShapeOver (length c.args.sinks.now)) (sym c.nodes-nodes.ensures.nodes) c.requires.shape in
    let ready : IsReady work = record { sinks = c.requires.sinks; shape = over } in
    whole_part work c.args.shape.now c.nodes-nodes.ensures.nodes (length c.nodes-nodes.result.now - 1)
    (omega (arith, length_pos children c.nodes-nodes.result.now over.post_order)) ready

pub returns-in-Ok-clause-plan : goal.returns-in-Ok-clause-plan
returns-in-Ok-clause-plan g c =
    let work : Work = record { memo = c.args.memo; sinks = c.args.sinks; nodes = c.nodes-nodes.result } in
    let over = subst (IsShapeOver (length c.args.sinks.now)) (sym c.nodes-nodes.ensures.nodes) c.requires.shape in
    plan_made work c.args.shape.now c.nodes-nodes.ensures.nodes (length c.nodes-nodes.result.now - 1)
    (omega (arith, length_pos children c.nodes-nodes.result.now over.post_order)) (seen_by c.build_part.new.pass) (picked c.build_part.new.known.nodes.items c.in-Ok.tree.places.items)
    (omega (arith, c.in-Ok.ensures.long, length-picked c.build_part.new.known.nodes.items c.in-Ok.tree.places.items (c.in-Ok.ensures.built.0)))
    (c.in-Ok.ensures.built.1) _ refl

pub returns-in-Ok-clause-known : goal.returns-in-Ok-clause-known
returns-in-Ok-clause-known g c =
    let work : Work = record { memo = c.args.memo; sinks = c.args.sinks; nodes = c.nodes-nodes.result } in
    let over = subst (IsShapeOver (length c.args.sinks.now)) (sym c.nodes-nodes.ensures.nodes) c.requires.shape in
    all_known work c.args.shape.now c.nodes-nodes.ensures.nodes (length c.nodes-nodes.result.now - 1)
    (omega (arith, length_pos children c.nodes-nodes.result.now over.post_order)) (seen_by c.build_part.new.pass) (picked c.build_part.new.known.nodes.items c.in-Ok.tree.places.items)
    (omega (arith, c.in-Ok.ensures.long, length-picked c.build_part.new.known.nodes.items c.in-Ok.tree.places.items (c.in-Ok.ensures.built.0)))
    (c.in-Ok.ensures.built.1)

pub returns-in-Ok-clause-within : goal.returns-in-Ok-clause-within
returns-in-Ok-clause-within g c = c.in-Ok.ensures.built.0

pub returns-in-Ok-clause-long : goal.returns-in-Ok-clause-long
returns-in-Ok-clause-long g c =
    let over = subst (IsShapeOver (length c.args.sinks.now)) (sym c.nodes-nodes.ensures.nodes) c.requires.shape in
    omega (arith, c.in-Ok.ensures.long, length_pos children c.nodes-nodes.result.now over.post_order, ap length c.nodes-nodes.ensures.nodes)

pub returns-in-Ok-clause-keyed : goal.returns-in-Ok-clause-keyed
returns-in-Ok-clause-keyed g c whole =
    subst (λ ns. AreKeyed c.args.sinks.now ns (picked c.build_part.new.known.nodes.items c.in-Ok.tree.places.items)) c.nodes-nodes.ensures.nodes
    (c.in-Ok.ensures.keyed whole)

pub returns-in-Ok-clause-sites : goal.returns-in-Ok-clause-sites
returns-in-Ok-clause-sites g c = c.in-Ok.ensures.sites

pub build_part-requires-clause-leaves : goal.build_part-requires-clause-leaves
build_part-requires-clause-leaves g c κs within =
    subst (AreSameLeaves c.args.last.now c.args.sinks.now) (sym c.as_slice-same.ensures.value) c.in_ok-leaves.ensures

pub build_part-requires-clause-last : goal.build_part-requires-clause-last
build_part-requires-clause-last g c κs within = c.requires.last

merges_to : (work : Work) (seen : List MemoEntry) (root start after : ℕ) → after ≤ start + missing_from work seen 0 (root + 1)
    → after ≤ start + missing_from work seen 0 (root + 1 - 0)
merges_to work seen root start after made =
    subst (λ n. after ≤ start + missing_from work seen 0 n) (let same : root + 1 ≡ root + 1 - 0 = omega arith in same) made

pub returns-in-Ok-clause-merges : goal.returns-in-Ok-clause-merges
returns-in-Ok-clause-merges g c =
    let work : Work = record { memo = c.args.memo; sinks = c.args.sinks; nodes = c.nodes-nodes.result } in
    let over = subst (IsShapeOver (length c.args.sinks.now)) (sym c.nodes-nodes.ensures.nodes) c.requires.shape in
    merges_in_all work c.args.shape.now c.nodes-nodes.ensures.nodes (length c.nodes-nodes.result.now - 1)
    (omega (arith, length_pos children c.nodes-nodes.result.now over.post_order)) (seen_by c.args.pass.now) c.args.steps.now c.build_part.new.steps
    (merges_to work (seen_by c.args.pass.now) (length c.nodes-nodes.result.now - 1) c.args.steps.now c.build_part.new.steps c.build_part.ensures.merges)

pub returns-clause-ends : goal.returns-clause-ends
returns-clause-ends g c =
    let work : Work = record { memo = c.args.memo; sinks = c.args.sinks; nodes = c.nodes-nodes.result } in
    let over = subst (IsShapeOver (length c.args.sinks.now)) (sym c.nodes-nodes.ensures.nodes) c.requires.shape in
    ends_in_all work c.args.shape.now c.nodes-nodes.ensures.nodes (length c.nodes-nodes.result.now - 1)
    (omega (arith, length_pos children c.nodes-nodes.result.now over.post_order)) c.in-Err.end c.in-Err.ensures.ends
