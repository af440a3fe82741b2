use Rattle.std.proofs.lemmas.List.Elements.{All-contains}
use Rattle.cts_block.specs.declared.edge.Edge.{Edge}
use Rattle.cts_block.specs.declared.whole.Whole.{Whole}
use Rattle.cts_block.specs.Search.{IsFreeAmong, IsAhead, IsOn}
use Rattle.std.specs.Prelude.{Contains}
use Rattle.cts_block.specs.Index.{IsEdge, edges_of}
use Rattle.cts_block.proofs.IndexLemmas.{all_of_part, side_of_index, edge_is_far, edge_is_beyond}
use Rattle.cts_block.specs.NearestFree.{LiesIn}
use Rattle.std.proofs.Common.{arith}
use Rattle.cts_block.proofs.indexing.improve_on.Goals as goal

pub improve_along-requires-clause-in_die : goal.improve_along-requires-clause-in_die
improve_along-requires-clause-in_die c =
    let holds = side_of_index c.args.die.now c.args.index.now c.args.side c.requires.index in
    let sound = rw c.edges_of.ensures at c.edges_beyond-edges.ensures.sound in
    let each = all_of_part (IsEdge c.args.side c.args.die.now) c.edges_beyond-edges.result.now _ sound holds.edges_are in
    λ k d below. (each k d below).in_die

pub improve_along-requires-clause-within : goal.improve_along-requires-clause-within
improve_along-requires-clause-within c =
    let holds = side_of_index c.args.die.now c.args.index.now c.args.side c.requires.index in
    let sound = rw c.edges_of.ensures at c.edges_beyond-edges.ensures.sound in
    let each = all_of_part (IsEdge c.args.side c.args.die.now) c.edges_beyond-edges.result.now _ sound holds.edges_are in
    λ k d below. (each k d below).bound

pub improve_along-requires-clause-far : goal.improve_along-requires-clause-far
improve_along-requires-clause-far c =
    let holds = side_of_index c.args.die.now c.args.index.now c.args.side c.requires.index in
    let sound = rw c.edges_of.ensures at c.edges_beyond-edges.ensures.sound in
    let each = all_of_part (IsEdge c.args.side c.args.die.now) c.edges_beyond-edges.result.now _ sound holds.edges_are in
    λ k d below q on. edge_is_far c.args.side c.args.die.now c.args.from c.args.columns c.requires.columns c.last_column.result.x c.last_column.ensures.column
    c.offset_of-start.result c.offset_of-start.ensures.value _ (each k d below) (c.edges_beyond-edges.ensures.beyond k d below) q on

pub returns-clause-first : goal.returns-clause-first
returns-clause-first c = λ q free beyond on.
    let die = c.args.die.now in
    let index = c.args.index.now in
    let side = c.args.side in
    let holds = side_of_index die index side c.requires.index in
    let has = holds.complete q free on in
    let is = All-contains (IsEdge side die) (edges_of index side) has.edge holds.edges_are has.listed in
    let further = edge_is_beyond side die c.args.columns c.last_column.result.x c.last_column.ensures.column
    c.offset_of-start.result c.offset_of-start.ensures.value has.edge is q has.on beyond in
    let complete = rw c.edges_of.ensures at c.edges_beyond-edges.ensures.complete in
    let listed = complete has.edge has.listed further in
    let P : Edge → Type 0 = λ edge. (p : Whole) → IsFreeAmong (Contains index.raster) die p → IsOn edge.segment p → IsAhead c.args.from c.improve_along.result p in
    All-contains P c.edges_beyond-edges.result.now has.edge c.improve_along.ensures.first listed q free has.on

pub last_column-requires-clause-ordered : goal.last_column-requires-clause-ordered
last_column-requires-clause-ordered c = c.requires.die.y_ordered

pub last_column-requires-clause-low : goal.last_column-requires-clause-low
last_column-requires-clause-low c = c.requires.columns.low_least

pub last_column-requires-clause-columns : goal.last_column-requires-clause-columns
last_column-requires-clause-columns c = c.requires.columns.ordered

pub last_column-requires-clause-high : goal.last_column-requires-clause-high
last_column-requires-clause-high c = c.requires.columns.high_most

pub offset_of-start-requires-clause-die : goal.offset_of-start-requires-clause-die
offset_of-start-requires-clause-die c = c.requires.die

pub offset_of-start-requires-clause-p : goal.offset_of-start-requires-clause-p
offset_of-start-requires-clause-p c = c.last_column.ensures.in_die

pub edges_beyond-edges-requires : goal.edges_beyond-edges-requires
edges_beyond-edges-requires c = rw c.edges_of.ensures (side_of_index c.args.die.now c.args.index.now c.args.side c.requires.index).ordered

pub improve_along-requires-clause-die : goal.improve_along-requires-clause-die
improve_along-requires-clause-die c = c.requires.die

pub improve_along-requires-clause-lie : goal.improve_along-requires-clause-lie
improve_along-requires-clause-lie c = λ block listed. All-contains (LiesIn c.args.die.now) c.args.index.now.raster block c.requires.lie listed

pub improve_along-requires-clause-from : goal.improve_along-requires-clause-from
improve_along-requires-clause-from c = c.requires.from

pub improve_along-requires-clause-near : goal.improve_along-requires-clause-near
improve_along-requires-clause-near c = c.requires.near

pub improve_along-requires-clause-ordered : goal.improve_along-requires-clause-ordered
improve_along-requires-clause-ordered c = c.edges_beyond-edges.ensures.ordered

pub improve_along-requires-clause-beyond : goal.improve_along-requires-clause-beyond
improve_along-requires-clause-beyond c = λ k d below. let further = c.edges_beyond-edges.ensures.beyond k d below in omega (arith, further)

pub returns-clause-free : goal.returns-clause-free
returns-clause-free c = c.improve_along.ensures.free

pub returns-clause-ahead : goal.returns-clause-ahead
returns-clause-ahead c = c.improve_along.ensures.ahead
