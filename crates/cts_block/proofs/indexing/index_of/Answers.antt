use Rattle.cts_block.proofs.indexing.index_of.Goals as goal

pub returns-clause-index : goal.returns-clause-index
returns-clause-index c = record {
  lefts = rw c.of-2.ensures (record { ordered = c.in_ok-lefts.ensures.ordered; edges_are = c.in_ok-lefts.ensures.edges; complete = rw c.blocks-2.ensures at c.in_ok-lefts.ensures.complete });
  rights = rw c.of-3.ensures (record { ordered = c.in_ok-rights.ensures.ordered; edges_are = c.in_ok-rights.ensures.edges; complete = rw c.blocks-3.ensures at c.in_ok-rights.ensures.complete });
}
