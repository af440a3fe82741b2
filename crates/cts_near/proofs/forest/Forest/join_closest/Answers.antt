use Rattle.std.proofs.Common.{◌≡◌, refl, subst}
use Rattle.std.specs.List.{All}
use Rattle.cts_merge.specs.Side.{IsMergeable}
use Rattle.cts_near.specs.declared.subtree.Subtree.{Subtree}
use Rattle.cts_near.specs.Search.{AreClosestPlaces}
use Rattle.cts_near.proofs.Steps.{all_mergeable, a_mergeable, b_mergeable, is_stuck, pair_mergeable, left_forest, left_step, left_fewer}
use Rattle.cts_near.proofs.forest.Forest.join_closest.Goals as goal

pub closest-first-requires-clause-in_range : goal.closest-first-requires-clause-in_range
closest-first-requires-clause-in_range g c =
    let same : c.args.self.now.subtrees.items ≡ c.as_slice.result.now = cc in
    subst (All (λ (s : Subtree). IsMergeable s.side)) same
    (all_mergeable c.args.params.now c.args.sinks.now c.requires.params c.requires.sinks c.args.self.now.joins.items
    c.args.self.now.subtrees.items c.args.self.now.bounds.items c.requires.forest)

pub merge-requires-clause-a : goal.merge-requires-clause-a
merge-requires-clause-a g c =
    let same : c.as_slice.result.now ≡ c.args.self.now.subtrees.items = cc in
    let places : AreClosestPlaces c.args.self.now.subtrees.items (c.closest-first.result.0) (c.closest-first.result.1) =
    subst (λ ss. AreClosestPlaces ss (c.closest-first.result.0) (c.closest-first.result.1)) same c.closest-first.ensures.closest in
    a_mergeable c.args.params.now c.args.sinks.now c.requires.params c.requires.sinks c.args.self.now.joins.items
    c.args.self.now.subtrees.items c.args.self.now.bounds.items c.requires.forest (c.closest-first.result.0) (c.closest-first.result.1)
    c.index.result.now c.index-2.result.now places c.index.ensures c.index-2.ensures

pub merge-requires-clause-b : goal.merge-requires-clause-b
merge-requires-clause-b g c =
    let same : c.as_slice.result.now ≡ c.args.self.now.subtrees.items = cc in
    let places : AreClosestPlaces c.args.self.now.subtrees.items (c.closest-first.result.0) (c.closest-first.result.1) =
    subst (λ ss. AreClosestPlaces ss (c.closest-first.result.0) (c.closest-first.result.1)) same c.closest-first.ensures.closest in
    b_mergeable c.args.params.now c.args.sinks.now c.requires.params c.requires.sinks c.args.self.now.joins.items
    c.args.self.now.subtrees.items c.args.self.now.bounds.items c.requires.forest (c.closest-first.result.0) (c.closest-first.result.1)
    c.index.result.now c.index-2.result.now places c.index.ensures c.index-2.ensures

pub returns-in_default-clause-ends : goal.returns-in_default-clause-ends
returns-in_default-clause-ends g c =
    let same : c.as_slice.result.now ≡ c.args.self.now.subtrees.items = cc in
    let places : AreClosestPlaces c.args.self.now.subtrees.items (c.closest-first.result.0) (c.closest-first.result.1) =
    subst (λ ss. AreClosestPlaces ss (c.closest-first.result.0) (c.closest-first.result.1)) same c.closest-first.ensures.closest in (
      refl,
      is_stuck c.args.params.now c.args.sinks.now c.requires.params c.requires.sinks c.args.self.now.joins.items
          c.args.self.now.subtrees.items c.args.self.now.bounds.items c.requires.forest (c.closest-first.result.0) (c.closest-first.result.1)
          c.index.result.now c.index-2.result.now places c.index.ensures c.index-2.ensures
          c.in_default.ensures.merges.beyond,
    )

pub replace-requires-clause-in_range : goal.replace-requires-clause-in_range
replace-requires-clause-in_range g c =
    all_mergeable c.args.params.now c.args.sinks.now c.requires.params c.requires.sinks c.args.self.now.joins.items
    c.args.self.now.subtrees.items c.args.self.now.bounds.items c.requires.forest

pub replace-requires-clause-joined : goal.replace-requires-clause-joined
replace-requires-clause-joined g c =
    let same : c.as_slice.result.now ≡ c.args.self.now.subtrees.items = cc in
    let places : AreClosestPlaces c.args.self.now.subtrees.items (c.closest-first.result.0) (c.closest-first.result.1) =
    subst (λ ss. AreClosestPlaces ss (c.closest-first.result.0) (c.closest-first.result.1)) same c.closest-first.ensures.closest in
    pair_mergeable c.args.params.now c.args.sinks.now c.requires.params c.requires.sinks c.args.self.now.joins.items
    c.args.self.now.subtrees.items c.args.self.now.bounds.items c.requires.forest (c.closest-first.result.0) (c.closest-first.result.1)
    c.index.result.now c.index-2.result.now places c.index.ensures c.index-2.ensures
    c.in-Ok.pair c.in-Ok.ensures.merges.merged

pub returns-clause-forest : goal.returns-clause-forest
returns-clause-forest g c =
    let same : c.as_slice.result.now ≡ c.args.self.now.subtrees.items = cc in
    let places : AreClosestPlaces c.args.self.now.subtrees.items (c.closest-first.result.0) (c.closest-first.result.1) =
    subst (λ ss. AreClosestPlaces ss (c.closest-first.result.0) (c.closest-first.result.1)) same c.closest-first.ensures.closest in
    left_forest c.args.params.now c.args.sinks.now c.requires.params c.requires.sinks c.args.self.now.joins.items
    c.args.self.now.subtrees.items c.args.self.now.bounds.items c.requires.forest (c.closest-first.result.0) (c.closest-first.result.1)
    c.index.result.now c.index-2.result.now places c.index.ensures c.index-2.ensures
    c.in-Ok.pair c.in-Ok.ensures.merges.merged c.push.new.self.items c.replace.new.self.joins.items _ c.len.result
    c.replace.new.self.subtrees.items c.in_ok-push.ensures.items c.replace.ensures.joins c.args.self.now.joins.ok.0 c.len.ensures
    c.replace.ensures.subtrees c.replace.new.self.bounds.items c.replace.ensures.bounded

pub returns-clause-joins : goal.returns-clause-joins
returns-clause-joins g c =
    let same : c.as_slice.result.now ≡ c.args.self.now.subtrees.items = cc in
    let places : AreClosestPlaces c.args.self.now.subtrees.items (c.closest-first.result.0) (c.closest-first.result.1) =
    subst (λ ss. AreClosestPlaces ss (c.closest-first.result.0) (c.closest-first.result.1)) same c.closest-first.ensures.closest in
    left_step c.args.params.now c.args.sinks.now c.requires.params c.requires.sinks c.args.self.now.joins.items
    c.args.self.now.subtrees.items c.args.self.now.bounds.items c.requires.forest (c.closest-first.result.0) (c.closest-first.result.1)
    c.index.result.now c.index-2.result.now places c.index.ensures c.index-2.ensures
    c.in-Ok.pair c.in-Ok.ensures.merges.merged c.push.new.self.items c.replace.new.self.joins.items _ c.len.result
    c.replace.new.self.subtrees.items c.in_ok-push.ensures.items c.replace.ensures.joins c.args.self.now.joins.ok.0 c.len.ensures
    c.replace.ensures.subtrees

pub returns-clause-count : goal.returns-clause-count
returns-clause-count g c =
    let same : c.as_slice.result.now ≡ c.args.self.now.subtrees.items = cc in
    let places : AreClosestPlaces c.args.self.now.subtrees.items (c.closest-first.result.0) (c.closest-first.result.1) =
    subst (λ ss. AreClosestPlaces ss (c.closest-first.result.0) (c.closest-first.result.1)) same c.closest-first.ensures.closest in
    left_fewer c.args.params.now c.args.sinks.now c.requires.params c.requires.sinks c.args.self.now.joins.items
    c.args.self.now.subtrees.items c.args.self.now.bounds.items c.requires.forest (c.closest-first.result.0) (c.closest-first.result.1)
    c.index.result.now c.index-2.result.now places c.index.ensures c.index-2.ensures
    c.in-Ok.pair c.in-Ok.ensures.merges.merged c.push.new.self.items c.replace.new.self.joins.items _ c.len.result
    c.replace.new.self.subtrees.items c.in_ok-push.ensures.items c.replace.ensures.joins c.args.self.now.joins.ok.0 c.len.ensures
    c.replace.ensures.subtrees
