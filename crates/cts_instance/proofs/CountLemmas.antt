-- The counts of blocks, one block more at a time.
use Rattle.std.proofs.Common.{◌≡◌, ℕ, ◌+◌, cond, List, [], ◌∷◌, ◌++◌, length, count_by, get_or, take, ◌<◌, add-zero, sym, ap, ◌∙◌, arith}
use Rattle.std.proofs.lemmas.List.{take_more}
use Rattle.std.proofs.lemmas.List.Sums.{sum_by_push}
use Rattle.cts_block.specs.declared.blocks.Block.{Block}
use Rattle.cts_block.specs.declared.blocks.Kind.{Kind}
use Rattle.cts_block.specs.declared.blocks.Kind.TheVariants.{Buffer as of_buffers, All as of_all}
use Rattle.cts_block.specs.FreePoints.{stops_wires}
use Rattle.cts_instance.specs.declared.counts.BlockCounts.{BlockCounts}
use Rattle.cts_instance.specs.Tests.{is_kind_buffer}
use Rattle.cts_instance.specs.FirstFault.{counts_of, counts_with}

pub counts_of-push : (blocks : List Block) (block : Block) → counts_of (blocks ++ block ∷ []) ≡ counts_with (counts_of blocks) block.kind
unfolding counts_of counts_with
counts_of-push blocks block =
    ap (λ n. record { buffer = n; all = count_by (λ b. stops_wires b.kind) (blocks ++ block ∷ []) })
    (sum_by_push (λ b. cond (is_kind_buffer b.kind) 1 0) blocks block)
    ∙ ap (λ n. record { buffer = count_by (λ b. is_kind_buffer b.kind) blocks + cond (is_kind_buffer block.kind) 1 0; all = n })
    (sum_by_push (λ b. cond (stops_wires b.kind) 1 0) blocks block)
    ∙ by block.kind
  where
    by : (kind : Kind) → record {
      buffer = count_by (λ b. is_kind_buffer b.kind) blocks + cond (is_kind_buffer kind) 1 0;
      all = count_by (λ b. stops_wires b.kind) blocks + cond (stops_wires kind) 1 0;
    } ≡ counts_with (counts_of blocks) kind
    by of_buffers = ap (λ n. record { buffer = count_by (λ b. is_kind_buffer b.kind) blocks + 1; all = n }) (add-zero _)
    by of_all = ap (λ n. record { buffer = n; all = count_by (λ b. stops_wires b.kind) blocks + 1 }) (add-zero _)

-- the step of a loop that counts the blocks
pub counts_of-more : (blocks : List Block) (place : ℕ) (d : Block) (old new : BlockCounts)
    → new ≡ counts_with old (get_or blocks place d).kind → old ≡ counts_of (take place blocks) → place < length blocks
    → new ≡ counts_of (take (place + 1) blocks)
counts_of-more blocks place d old new step counted inside =
    step ∙ ap (λ counts. counts_with counts (get_or blocks place d).kind) counted
    ∙ sym (counts_of-push (take place blocks) (get_or blocks place d))
    ∙ ap counts_of (sym (take_more blocks place d inside))

pub counts_with-total : (counts : BlockCounts) (kind : Kind)
    → (counts_with counts kind).buffer + (counts_with counts kind).all ≡ counts.buffer + counts.all + 1
unfolding counts_with
counts_with-total counts of_buffers = omega arith
counts_with-total counts of_all = omega arith
