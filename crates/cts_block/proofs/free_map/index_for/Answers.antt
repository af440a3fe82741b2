use Rattle.cts_block.proofs.free_map.index_for.Goals as goal

pub returns-then-buffered : goal.returns-then-buffered
returns-then-buffered c = rw c.if-buffered.true

pub returns-else-buffered : goal.returns-else-buffered
returns-else-buffered c = rw c.if-buffered.false
