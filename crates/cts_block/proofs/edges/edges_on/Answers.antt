use Rattle.std.proofs.Common.{rules, arith}
use Rattle.std.proofs.lemmas.List.Elements.{All-push, Contains-get_or, Contains-append_left}
use Rattle.std.proofs.lemmas.List.Sorted.{All-permutation, Contains-permutation, IsNonDecreasingBy-from_sort_by_key}
use Rattle.cts_block.specs.declared.edge.Edge.{Edge}
use Rattle.cts_block.specs.Index.{IsEdge, IsExposedIn}
use Rattle.cts_block.proofs.EdgeLemmas.{side_more, side_all, grown_edge, last_edge}
use Rattle.cts_block.proofs.edges.edges_on.Goals as goal
use Rattle.cts_block.proofs.edges.edges_on.Goals.{in-Some+in_ok-push-in-Some, in-None}

pub loop-block-preserved : goal.loop-block-preserved
loop-block-preserved g c =
    let Counts = g.O.Obstacles.counts c.args.obstacles.now in
    let die = c.args.die.now in
    let side = c.args.side in
    let blocks = c.args.blocks.now in
    let old = c.loop-block.edges.items in
    let before = c.loop-block.invariant in
    elim c.match-exposed_edge.branch [
      | in-Some+in_ok-push-in-Some w ↦
          let edge = w.in-Some.edge in
          rw (w.edges-is, w.in_ok-push-in-Some.ensures.items) (record {
            edges_are = All-push (IsEdge side die) old edge before.edges_are w.in-Some.ensures.edge;
            exposed = All-push (IsExposedIn Counts side die blocks) old edge before.exposed
                (record { block = _; listed = Contains-get_or blocks c.loop-block.block-index _ c.loop-block-test.true; exposed = w.in-Some.ensures.exposed });
            complete = side_more Counts die side blocks c.loop-block.block-index c.loop-block-test.true _ old _ (Contains-append_left old _)
                (λ q free column low high. record { edge = edge; listed = last_edge old edge; on = w.in-Some.ensures.whole q free column low high }) before.complete;
          })
      | in-None w ↦ rw w.edges-is (record {
        edges_are = before.edges_are;
        exposed = before.exposed;
        complete = side_more Counts die side blocks c.loop-block.block-index c.loop-block-test.true _ old old (λ edge listed. listed)
            (λ q free column low high. absurd (w.in-None.ensures.whole q free column low high)) before.complete;
      })
    ]

pub returns-clause-ordered : goal.returns-clause-ordered
returns-clause-ordered g c =
    IsNonDecreasingBy-from_sort_by_key (λ (edge : Edge). edge.offset) _ c.in_ok-sort_by_key.ensures.sorted (λ a r q k. search rules)

pub returns-clause-edges : goal.returns-clause-edges
returns-clause-edges g c =
    All-permutation (IsEdge c.args.side c.args.die.now) c.loop-block.edges.items _ c.sort_by_key.ensures.permutation c.loop-block.invariant.edges_are

pub returns-clause-exposed : goal.returns-clause-exposed
returns-clause-exposed g c =
    All-permutation (IsExposedIn (g.O.Obstacles.counts c.args.obstacles.now) c.args.side c.args.die.now c.args.blocks.now) c.loop-block.edges.items _ c.sort_by_key.ensures.permutation c.loop-block.invariant.exposed

pub returns-clause-complete : goal.returns-clause-complete
returns-clause-complete g c = λ q free on.
    let old = c.loop-block.edges.items in
    let has = side_all (g.O.Obstacles.counts c.args.obstacles.now) c.args.die.now c.args.side c.args.blocks.now old
    (λ k d below. c.loop-block.invariant.complete k d (omega (arith, below, c.loop-block-test.false))) q free on in
    grown_edge old _ (λ edge listed. Contains-permutation old _ edge c.sort_by_key.ensures.permutation listed) q has
