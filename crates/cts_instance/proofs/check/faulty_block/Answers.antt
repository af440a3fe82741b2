use Rattle.std.proofs.Common.{w64, rules, ◌∙◌, arith}
use Rattle.std.proofs.lemmas.Int.{to_z-of_z}
use Rattle.cts_instance.proofs.FirstFaultLemmas.{found, passed, ended}
use Rattle.cts_instance.proofs.LineLemmas.{block_line-at, first_of-at}
use Rattle.cts_instance.proofs.CountLemmas.{counts_of-more, counts_with-total}
use Rattle.cts_instance.specs.FirstFault.{block_line, counts_of}
use Rattle.cts_instance.proofs.check.faulty_block.Goals as goal

pub loop-block-init : goal.loop-block-init
unfolding counts_of
loop-block-init c = search rules

pub returns-in-Some : goal.returns-in-Some
returns-in-Some c =
    found (λ b l. block_line _ _ _ _ b l) _ _ c.loop-block.block-index _ _ c.loop-block.invariant.lines_left (omega arith)
    (c.in-Some.ensures ∙ block_line-at _ _ _ _ _ _ _ c.loop-block.invariant.counted)
    ∙ first_of-at _ _ _ _ _ _ _ (to_z-of_z w64 c.args.x c.ranges.x) (to_z-of_z w64 c.args.y c.ranges.y)

pub loop-block-preserved : goal.loop-block-preserved
loop-block-preserved c = record {
  lines_left = passed (λ b l. block_line _ _ _ _ b l) _ _ c.loop-block.block-index _ c.loop-block.invariant.lines_left (omega arith)
      (c.in_default.ensures ∙ block_line-at _ _ _ _ _ _ _ c.loop-block.invariant.counted);
  counted = counts_of-more _ _ _ _ _ c.with-counts.ensures c.loop-block.invariant.counted (omega arith);
  counts_add_up = rw c.with-counts.ensures (rw counts_with-total (omega arith));
}

pub returns : goal.returns
returns c =
    ended (λ b l. block_line _ _ _ _ b l) _ c.args.blocks.now c.loop-block.block-index c.loop-block.invariant.lines_left (omega arith)
    ∙ first_of-at _ _ _ _ _ _ _ (to_z-of_z w64 c.args.x c.ranges.x) (to_z-of_z w64 c.args.y c.ranges.y)
