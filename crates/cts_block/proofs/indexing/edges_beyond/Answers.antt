use Rattle.std.proofs.Common.{rules}
use Rattle.std.proofs.Math.Dec.{leb}
use Rattle.std.proofs.lemmas.List.Sorted.{IsPartitionPoint-from_clause, IsPartitionedBy-leb}
use Rattle.cts_block.specs.declared.edge.Edge.{Edge}
use Rattle.cts_block.proofs.IndexLemmas.{beyond_point, kept_beyond}
use Rattle.cts_block.proofs.indexing.edges_beyond.Goals as goal

pub returns-clause-beyond : goal.returns-clause-beyond
returns-clause-beyond c =
    let parted = IsPartitionedBy-leb (λ (edge : Edge). edge.offset) c.args.edges.now c.args.start c.requires in
    let point = IsPartitionPoint-from_clause (λ (edge : Edge). leb edge.offset c.args.start) c.args.edges.now _ c.partition_point-skipped.ensures.partitioned parted (λ a r q k. search rules) in
    rw c.split_at.ensures.back (beyond_point c.args.edges.now c.args.start c.partition_point-skipped.result point)

pub returns-clause-complete : goal.returns-clause-complete
returns-clause-complete c =
    let parted = IsPartitionedBy-leb (λ (edge : Edge). edge.offset) c.args.edges.now c.args.start c.requires in
    let point = IsPartitionPoint-from_clause (λ (edge : Edge). leb edge.offset c.args.start) c.args.edges.now _ c.partition_point-skipped.ensures.partitioned parted (λ a r q k. search rules) in
    rw c.split_at.ensures.back (kept_beyond c.args.edges.now c.args.start c.partition_point-skipped.result point)
