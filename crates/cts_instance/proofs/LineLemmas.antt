-- The lines of a list, each with what the lines before it say of it.
use Rattle.std.proofs.Common.{◌≡◌, ℕ, ◌+◌, ◌≤◌, ◌<◌, ℤ, List, [], ◌∷◌, ◌++◌, length, get_or, map, take, refl, ap, ◌∙◌}
use Rattle.std.proofs.lemmas.List.{length-take-le, take_more, map-append}
use Rattle.cts_geom.specs.declared.bounds.Die.{Die}
use Rattle.cts_units.specs.declared.params.Buffer.{Buffer}
use Rattle.cts_units.specs.declared.params.Sink.{Sink}
use Rattle.cts_block.specs.declared.blocks.Block.{Block}
use Rattle.cts_instance.specs.declared.counts.BlockCounts.{BlockCounts}
use Rattle.cts_instance.specs.declared.version.Version.{Version}
use Rattle.cts_instance.specs.FirstFault.{buffer_line, buffer_fault, sink_line, sink_fault, block_line, block_fault, first_of, counts_of}

pub buffer_line-at : (buffers : List Buffer) (number : ℕ) (buffer : Buffer) → number ≤ length buffers
    → buffer_fault number buffer ≡ buffer_line (take number buffers) buffer
unfolding buffer_line
buffer_line-at buffers number buffer inside = rw (length-take-le number buffers inside) refl

pub sink_line-at : (version : Version) (die : Die) (before : List Sink) (ids : List ℕ) (sink : Sink) → ids ≡ map (λ s. s.id) before
    → sink_fault version die ids sink ≡ sink_line version die before sink
unfolding sink_line
sink_line-at version die before ids sink same = ap (λ seen. sink_fault version die seen sink) same

pub block_line-at : (die : Die) (x y : ℤ) (sinks : List Sink) (before : List Block) (counts : BlockCounts) (block : Block)
    → counts ≡ counts_of before → block_fault die x y sinks counts block ≡ block_line die x y sinks before block
unfolding block_line
block_line-at die x y sinks before counts block same = ap (λ seen. block_fault die x y sinks seen block) same

pub first_of-at : (die : Die) (x y u v : ℤ) (sinks : List Sink) (blocks : List Block)
    → x ≡ u → y ≡ v → first_of (block_line die x y sinks) [] blocks ≡ first_of (block_line die u v sinks) [] blocks
first_of-at die x y u v sinks blocks same_x same_y = rw (same_x, same_y) refl

-- the step of a loop that collects the ids of the sinks
pub ids-more : (sinks : List Sink) (place : ℕ) (d : Sink) (old new : List ℕ)
    → new ≡ old ++ (get_or sinks place d).id ∷ [] → old ≡ map (λ s. s.id) (take place sinks) → place < length sinks
    → new ≡ map (λ s. s.id) (take (place + 1) sinks)
ids-more sinks place d old new step seen inside =
    step ∙ rw (seen, take_more sinks place d inside, map-append) refl
