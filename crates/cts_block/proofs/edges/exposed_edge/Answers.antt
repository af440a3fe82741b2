use Rattle.cts_block.proofs.EdgeLemmas.{side_edge_in_die}
use Rattle.cts_block.proofs.SearchLemmas.{on_edge}
use Rattle.cts_block.proofs.edges.exposed_edge.Goals as goal

pub exposed-requires-clause-segment : goal.exposed-requires-clause-segment
exposed-requires-clause-segment g c =
    side_edge_in_die _ c.args.side c.args.block.now c.edge_of.result c.requires.block c.edge_of.ensures.bottom c.edge_of.ensures.top

pub returns-clause-whole : goal.returns-clause-whole
returns-clause-whole g c = λ q free column low high.
    c.in_ok-segment.ensures.whole q free (on_edge c.edge_of.result _ _ _ q c.edge_of.ensures.bottom c.edge_of.ensures.top column low high)
