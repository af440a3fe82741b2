use Rattle.std.proofs.Common.{Some, length, sym, ap, subst, ◌∙◌, arith}
use Rattle.std.proofs.lemmas.List.{get_or_default}
use Rattle.std.proofs.lemmas.Option.{slice_get-get_or}
use Rattle.cts_turn.specs.Passes.{seen_by}
use Rattle.cts_memo.specs.Passes.{params_of}
use Rattle.cts_topo.proofs.Counts.{leaf_within}
use Rattle.cts_work.specs.Built.{IsBuilt}
use Rattle.cts_work.proofs.Nodes.{tip_at, pair_at_number, child_within, leaf_built}
use Rattle.cts_work.specs.Known.{IsAtPlace, picked}
use Rattle.cts_work.proofs.Builts.{sound_for}
use Rattle.cts_work.proofs.Misses.{missing_earlier}
use Rattle.cts_work.proofs.Picked.{places_stay}
use Rattle.cts_work.proofs.Parts.{starts_first}
use Rattle.cts_work.proofs.Taken.{again_built, again_keyed, again_taken, leaf_key_at, pair_key_at, place_at, stand_stays}
use Rattle.cts_work.proofs.part.place_node.Goals as goal

pub bounds-work-sink : goal.bounds-work-sink
bounds-work-sink g c =
    leaf_within (length c.args.work.now.sinks.now) c.args.work.now.nodes.now c.requires.ready.shape c.args.node _ _ c.requires.node (c.in-Leaf.is)

pub bounds-tree-left : goal.bounds-tree-left
bounds-tree-left g c =
    omega (
      arith,
      c.requires.long,
      (child_within c.args.work.now.sinks.now c.args.work.now.nodes.now c.requires.ready.shape c.args.node c.requires.node _ 0
          c.in-Pair.left c.in-Pair.right c.in-Pair.is
          (starts_first c.args.work.now.nodes.now _ c.requires.ready.shape c.args.node c.requires.node)),
    )

pub bounds-tree-right : goal.bounds-tree-right
bounds-tree-right g c =
    omega (
      arith,
      c.requires.long,
      (child_within c.args.work.now.sinks.now c.args.work.now.nodes.now c.requires.ready.shape c.args.node c.requires.node _ 0
          c.in-Pair.left c.in-Pair.right c.in-Pair.is
          (starts_first c.args.work.now.nodes.now _ c.requires.ready.shape c.args.node c.requires.node)),
    )

pub place_pair-requires-clause-here : goal.place_pair-requires-clause-here
place_pair-requires-clause-here g c = λ κs within.
    pair_at_number c.args.work.now.sinks.now c.args.work.now.nodes.now c.requires.ready.shape c.args.node c.requires.node _
    c.in-Pair.left c.in-Pair.right c.in-Pair.is

pub place_pair-requires-clause-left : goal.place_pair-requires-clause-left
place_pair-requires-clause-left g c = λ κs within.
    let w = child_within c.args.work.now.sinks.now c.args.work.now.nodes.now c.requires.ready.shape c.args.node c.requires.node _ 0
    c.in-Pair.left c.in-Pair.right c.in-Pair.is
    (starts_first c.args.work.now.nodes.now _ c.requires.ready.shape c.args.node c.requires.node) in
    place_at c.args.work.now (seen_by c.catch_up.new.pass) c.args.node c.catch_up.new.self.nodes.items c.args.tree.now c.in-Pair.left _
    (stand_stays c.args.work.now (seen_by c.args.pass.now) (seen_by c.catch_up.new.pass) c.args.known.now.nodes.items c.catch_up.new.self.nodes.items
    c.args.tree.now c.catch_up.ensures.pass.goes_on c.catch_up.ensures.pass.own.short c.catch_up.ensures.more c.requires.before) c.requires.long (w.1)
    (get_or_default c.args.tree.now c.in-Pair.left 0 _ (omega (arith, c.requires.long, w.1)))

pub place_pair-requires-clause-right : goal.place_pair-requires-clause-right
place_pair-requires-clause-right g c = λ κs within.
    let w = child_within c.args.work.now.sinks.now c.args.work.now.nodes.now c.requires.ready.shape c.args.node c.requires.node _ 0
    c.in-Pair.left c.in-Pair.right c.in-Pair.is
    (starts_first c.args.work.now.nodes.now _ c.requires.ready.shape c.args.node c.requires.node) in
    place_at c.args.work.now (seen_by c.catch_up.new.pass) c.args.node c.catch_up.new.self.nodes.items c.args.tree.now c.in-Pair.right _
    (stand_stays c.args.work.now (seen_by c.args.pass.now) (seen_by c.catch_up.new.pass) c.args.known.now.nodes.items c.catch_up.new.self.nodes.items
    c.args.tree.now c.catch_up.ensures.pass.goes_on c.catch_up.ensures.pass.own.short c.catch_up.ensures.more c.requires.before) c.requires.long (w.3)
    (get_or_default c.args.tree.now c.in-Pair.right 0 _ (omega (arith, c.requires.long, w.3)))

pub returns-in-Some-clause-built : goal.returns-in-Some-clause-built
returns-in-Some-clause-built g c =
    again_built c.args.work.now (seen_by c.args.pass.now) c.args.worker.now.last.now c.args.worker.now.leaves.now c.args.found.now
    c.args.known.now.nodes.items c.args.tree.now c.args.node (sound_for c.args.work.now.memo.now c.args.pass.now c.requires.own) c.requires.ready
    c.requires.node c.requires.long c.requires.before c.requires.last c.requires.leaves c.requires.found c.requires.noted c.in-Some.placed _
    (slice_get-get_or c.args.work.now.nodes.now c.args.node _ c.requires.node) c.in-Some.ensures

pub returns-in-Some-clause-keyed : goal.returns-in-Some-clause-keyed
returns-in-Some-clause-keyed g c =
    again_keyed c.args.work.now (seen_by c.args.pass.now) c.args.worker.now.last.now c.args.worker.now.leaves.now c.args.found.now
    c.args.known.now.nodes.items c.args.tree.now c.args.node (sound_for c.args.work.now.memo.now c.args.pass.now c.requires.own) c.requires.ready
    c.requires.node c.requires.long c.requires.before c.requires.last c.requires.leaves c.requires.found c.requires.noted c.in-Some.placed _
    (slice_get-get_or c.args.work.now.nodes.now c.args.node _ c.requires.node) c.in-Some.ensures

pub returns-in-Some-clause-again : goal.returns-in-Some-clause-again
returns-in-Some-clause-again g c =
    again_taken c.args.work.now (seen_by c.args.pass.now) c.args.worker.now.last.now c.args.worker.now.leaves.now c.args.found.now
    c.args.known.now.nodes.items c.args.tree.now c.args.node (sound_for c.args.work.now.memo.now c.args.pass.now c.requires.own) c.requires.ready
    c.requires.node c.requires.long c.requires.before c.requires.last c.requires.leaves c.requires.found c.requires.noted c.in-Some.placed _
    (slice_get-get_or c.args.work.now.nodes.now c.args.node _ c.requires.node) c.in-Some.ensures

pub returns-in-Ok-clause-built : goal.returns-in-Ok-clause-built
returns-in-Ok-clause-built g c =
    let params = params_of c.args.work.now.memo.now in
    let sinks = c.args.work.now.sinks.now in
    let seen = seen_by c.place_leaf.new.pass in
    let within = leaf_within (length sinks) c.args.work.now.nodes.now c.requires.ready.shape c.args.node _ c.in-Leaf.sink c.requires.node (c.in-Leaf.is) in
    let here = c.in-Ok.ensures.built in
    subst (λ t. IsAtPlace c.place_leaf.new.nodes.items (IsBuilt params sinks seen t) c.in-Ok.place)
    (sym (tip_at c.args.work.now.nodes.now c.args.node c.requires.node _ c.in-Leaf.sink c.in-Leaf.is))
    (here.0, here.1, leaf_built params sinks seen c.in-Leaf.sink _ here.0 within (here.2))

pub returns-in-Ok-clause-keyed : goal.returns-in-Ok-clause-keyed
returns-in-Ok-clause-keyed g c =
    let work = c.args.work.now in
    leaf_key_at work c.place_leaf.new.nodes.items (picked c.place_leaf.new.nodes.items c.args.tree.now) c.args.node c.in-Leaf.sink _ c.in-Ok.place
    (slice_get-get_or work.nodes.now c.args.node _ c.requires.node ∙ ap Some c.in-Leaf.is)
    (leaf_within (length work.sinks.now) work.nodes.now c.requires.ready.shape c.args.node _ c.in-Leaf.sink c.requires.node (c.in-Leaf.is))
    c.in-Ok.ensures.keyed

pub returns-in-Ok-place_pair-clause-keyed : goal.returns-in-Ok-place_pair-clause-keyed
returns-in-Ok-place_pair-clause-keyed g c =
    let work = c.args.work.now in
    let w = child_within work.sinks.now work.nodes.now c.requires.ready.shape c.args.node c.requires.node _ 0 c.in-Pair.left c.in-Pair.right c.in-Pair.is
    (starts_first work.nodes.now _ c.requires.ready.shape c.args.node c.requires.node) in
    pair_key_at work c.place_pair.new.nodes.items c.args.tree.now c.args.node c.in-Pair.left c.in-Pair.right _ _ c.in-Ok-place_pair.place
    (places_stay c.catch_up.new.self.nodes.items c.place_pair.new.nodes.items c.place_pair.ensures.more c.args.tree.now
    (places_stay c.args.known.now.nodes.items c.catch_up.new.self.nodes.items c.catch_up.ensures.more c.args.tree.now (c.requires.before.0)))
    (slice_get-get_or work.nodes.now c.args.node _ c.requires.node ∙ ap Some c.in-Pair.is)
    (slice_get-get_or c.args.tree.now c.in-Pair.left _ (omega (arith, c.requires.long, w.1)))
    (slice_get-get_or c.args.tree.now c.in-Pair.right _ (omega (arith, c.requires.long, w.3)))
    c.in-Ok-place_pair.ensures.keyed

pub returns-in-Ok-place_pair-clause-merges : goal.returns-in-Ok-place_pair-clause-merges
returns-in-Ok-place_pair-clause-merges g c =
    missing_earlier (seen_by c.args.pass.now) (seen_by c.catch_up.new.pass) c.args.work.now.sinks.now _ c.args.steps.now c.place_pair.new.steps
    c.catch_up.ensures.pass.goes_on c.place_pair.ensures.merges

pub returns-in-Err-place_pair-clause-merges : goal.returns-in-Err-place_pair-clause-merges
returns-in-Err-place_pair-clause-merges g c =
    missing_earlier (seen_by c.args.pass.now) (seen_by c.catch_up.new.pass) c.args.work.now.sinks.now _ c.args.steps.now c.place_pair.new.steps
    c.catch_up.ensures.pass.goes_on c.place_pair.ensures.merges
