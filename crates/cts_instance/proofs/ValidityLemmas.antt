-- The parts have no fault exactly where they are valid, line by line.
use Rattle.std.proofs.Common.{◌≡◌, ◌≢◌, ℕ, ◌^◌, ◌<◌, ◌≤◌, true, ℤ, ◌≤ℤ◌, List, [], length, get_or, take, map, None, Decides, All, AllPairs, count_by, refl, ◌∙◌}
use Rattle.std.proofs.lemmas.Bool.Decides.{Decides-ltb}
use Rattle.std.proofs.lemmas.Bool.{false≢true, ltb-true, lt-ltb}
use Rattle.std.proofs.lemmas.List.{length-map, get_or-map}
use Rattle.std.proofs.lemmas.List.Elements.{All-map}
use Rattle.cts_geom.specs.declared.bounds.Die.{Die}
use Rattle.cts_units.specs.declared.params.Sink.{Sink}
use Rattle.cts_units.specs.declared.params.Wire.{Wire}
use Rattle.cts_units.specs.declared.params.Buffer.{Buffer}
use Rattle.cts_units.specs.Limits.{IsWire, IsBuffer}
use Rattle.cts_block.specs.declared.blocks.Block.{Block}
use Rattle.cts_block.specs.declared.blocks.Kind.{Kind}
use Rattle.cts_block.specs.declared.blocks.Kind.TheVariants.{Buffer as of_buffers, All as of_all}
use Rattle.cts_instance.specs.declared.counts.BlockCounts.{BlockCounts}
use Rattle.cts_instance.specs.declared.parts.Parts.{Parts}
use Rattle.cts_instance.specs.declared.version.Version.{Version}
use Rattle.cts_block.specs.Places.{IsInDie}
use Rattle.cts_block.specs.FreePoints.{stops_wires}
use Rattle.cts_instance.specs.Validity.{IsDie, IsBounded, IsSink, IsBlock, IsClear, IsValid}
use Rattle.cts_instance.specs.Tests.{has_room, is_kind_buffer}
use Rattle.cts_instance.specs.FirstFault.{die_fault, source_fault, wire_fault, limits_fault, buffer_count_fault, buffer_fault, buffer_line, buffers_fault, sink_count_fault, sink_fault, sink_line, sinks_fault, block_count_fault, block_fault, block_line, blocks_fault, counts_of, first_of, first_fault}
use Rattle.cts_instance.proofs.TestLemmas.{IsOffset, Decides-nat_le, Decides-absent, Decides-is_bounded, Decides-is_die, Decides-is_in_die, Decides-is_wire, Decides-is_limits, Decides-is_buffer, Decides-is_sink, Decides-is_upright, Decides-is_block_in_die, Decides-is_clear}
use Rattle.cts_instance.proofs.AllowLemmas.{Allows, Allows-like, Allows-unless, Allows-last, Allows-or, Allows-first_of, pairs_from_lines, lines_from_pairs, count_from_lines, lines_from_count}

pub Allows-die_fault : (die : Die) → Allows (die_fault die) (IsDie die)
unfolding die_fault
Allows-die_fault die = Allows-last _ _ (Decides-is_die die)

pub Allows-source_fault : (die : Die) (x y : ℤ) (r : ℕ) → Allows (source_fault die x y r) (IsBounded r × IsInDie die x y)
unfolding source_fault
Allows-source_fault die x y r = Allows-unless _ _ _ (Decides-is_bounded r) (Allows-last _ _ (Decides-is_in_die die x y))

pub Allows-wire_fault : (wire : Wire) → Allows (wire_fault wire) (IsWire wire)
unfolding wire_fault
Allows-wire_fault wire = Allows-last _ _ (Decides-is_wire wire)

pub Allows-limits_fault : (insert_at load slew : ℕ)
    → Allows (limits_fault insert_at load slew) ((IsBounded insert_at × IsBounded load) × IsBounded slew)
unfolding limits_fault
Allows-limits_fault insert_at load slew = Allows-last _ _ (Decides-is_limits insert_at load slew)

pub Allows-buffer_count_fault : (count : ℕ) → Allows (buffer_count_fault count) (count ≤ 16)
unfolding buffer_count_fault
Allows-buffer_count_fault count = Allows-last _ _ (Decides-nat_le count 16)

pub Allows-buffer_fault : (number : ℕ) (buffer : Buffer) → Allows (buffer_fault number buffer) (IsBuffer buffer)
unfolding buffer_fault
Allows-buffer_fault number buffer = Allows-last _ _ (Decides-is_buffer buffer)

pub Allows-buffers_fault : (buffers : List Buffer)
    → Allows (buffers_fault buffers) ((length buffers ≤ 16) × All IsBuffer buffers)
unfolding buffers_fault buffer_line
Allows-buffers_fault buffers =
    Allows-or _ _ (Allows-buffer_count_fault (length buffers))
    (Allows-first_of buffer_line (λ before buffer. IsBuffer buffer) (λ before buffer. Allows-buffer_fault (length before) buffer) [] buffers)

pub Allows-sink_count_fault : (count : ℕ) → Allows (sink_count_fault count) ((1 ≤ count) × (count ≤ 65536))
unfolding sink_count_fault
Allows-sink_count_fault count = Allows-unless _ _ _ (Decides-ltb 0 count) (Allows-last _ _ (Decides-nat_le count 65536))

-- a sink line given the ids before it
abbrev pub SinkRules : Version → Die → List ℕ → Sink → Type 0
SinkRules version die ids sink =
    (((sink.id ≤ 999999999) × (sink.cap ≤ 10 ^ 12)) × IsOffset version sink.offset)
    × (All (λ id. id ≢ sink.id) ids × IsInDie die sink.x sink.y)

pub Allows-sink_fault : (version : Version) (die : Die) (ids : List ℕ) (sink : Sink)
    → Allows (sink_fault version die ids sink) (SinkRules version die ids sink)
unfolding sink_fault
Allows-sink_fault version die ids sink =
    Allows-unless _ _ _ (Decides-is_sink version sink)
    (Allows-unless _ _ _ (Decides-absent sink.id ids) (Allows-last _ _ (Decides-is_in_die die sink.x sink.y)))

-- the ids of sinks, and the sinks
ids_apart : (sink : Sink) (before : List Sink) → All (λ id. id ≢ sink.id) (map (λ s. s.id) before) → All (λ s. s.id ≢ sink.id) before
ids_apart sink before h k d inside same =
    h k d.id (rw length-map inside) (get_or-map (λ s. s.id) before k d d.id inside ∙ same)

sinks_apart : (sink : Sink) (before : List Sink) → All (λ s. s.id ≢ sink.id) before → All (λ id. id ≢ sink.id) (map (λ s. s.id) before)
sinks_apart sink before h = All-map (λ id. id ≢ sink.id) (λ s. s.id) before h

pub Allows-sinks_fault : (version : Version) (die : Die) (sinks : List Sink)
    → Allows (sinks_fault version die sinks)
    (((1 ≤ length sinks) × (length sinks ≤ 65536)) × (All (IsSink version die) sinks × AllPairs (λ a b. a.id ≢ b.id) sinks))
unfolding sinks_fault sink_line
Allows-sinks_fault version die sinks =
    Allows-or _ _ (Allows-sink_count_fault (length sinks))
    (Allows-like (first_of (sink_line version die) [] sinks)
    (λ h. (
      λ k d inside. let r = h k d inside in record { id = r.0.0.0; cap = r.0.0.1; offset = r.0.1.0; no_offset = r.0.1.1; in_die = r.1.1 },
      pairs_from_lines (λ a b. a.id ≢ b.id) sinks (λ k d inside. ids_apart (get_or sinks k d) (take k sinks) (h k d inside).1.0),
    ))
    (λ p k d inside. let s = p.0 k d inside in
    (((s.id, s.cap), (s.offset, s.no_offset)), (sinks_apart (get_or sinks k d) (take k sinks) (lines_from_pairs (λ a b. a.id ≢ b.id) sinks p.1 k d inside), s.in_die)))
    (Allows-first_of (sink_line version die) (λ before sink. SinkRules version die (map (λ s. s.id) before) sink)
    (λ before sink. Allows-sink_fault version die (map (λ s. s.id) before) sink) [] sinks))

pub Allows-block_count_fault : (count : ℕ) → Allows (block_count_fault count) (count ≤ 4160)
unfolding block_count_fault
Allows-block_count_fault count = Allows-last _ _ (Decides-nat_le count 4160)

-- there is room for another block of the kind
abbrev HasRoom : BlockCounts → Kind → Type 0
HasRoom counts kind = (is_kind_buffer kind ≡ true → counts.buffer < 4096) × (stops_wires kind ≡ true → counts.all < 64)

Decides-has_room : (counts : BlockCounts) (kind : Kind) → Decides (has_room counts kind) (HasRoom counts kind)
unfolding has_room
Decides-has_room counts of_buffers =
    (λ e. (λ _. ltb-true counts.buffer 4096 e, λ f. absurd (false≢true f)), λ h. lt-ltb counts.buffer 4096 (h.0 refl))
Decides-has_room counts of_all =
    (λ e. (λ f. absurd (false≢true f), λ _. ltb-true counts.all 64 e), λ h. lt-ltb counts.all 64 (h.1 refl))

-- a block line given the counts before it
abbrev BlockRules : Die → ℤ → ℤ → List Sink → BlockCounts → Block → Type 0
BlockRules die x y sinks counts block =
    ((block.x1 ≤ℤ block.x2) × (block.y1 ≤ℤ block.y2))
    × ((IsInDie die block.x1 block.y1 × IsInDie die block.x2 block.y2)
    × (HasRoom counts block.kind × IsClear x y sinks block))

Allows-block_fault : (die : Die) (x y : ℤ) (sinks : List Sink) (counts : BlockCounts) (block : Block)
    → Allows (block_fault die x y sinks counts block) (BlockRules die x y sinks counts block)
unfolding block_fault
Allows-block_fault die x y sinks counts block =
    Allows-unless _ _ _ (Decides-is_upright block)
    (Allows-unless _ _ _ (Decides-is_block_in_die die block)
    (Allows-unless _ _ _ (Decides-has_room counts block.kind) (Allows-last _ _ (Decides-is_clear x y sinks block))))

pub Allows-blocks_fault : (die : Die) (x y : ℤ) (sinks : List Sink) (blocks : List Block)
    → Allows (blocks_fault die x y sinks blocks)
    ((length blocks ≤ 4160)
    × (All (IsBlock die) blocks
    × ((count_by (λ block. is_kind_buffer block.kind) blocks ≤ 4096)
    × ((count_by (λ block. stops_wires block.kind) blocks ≤ 64)
    × All (IsClear x y sinks) blocks))))
unfolding blocks_fault block_line counts_of
Allows-blocks_fault die x y sinks blocks =
    Allows-or _ _ (Allows-block_count_fault (length blocks))
    (Allows-like (first_of (block_line die x y sinks) [] blocks)
    (λ h. (
      λ k d inside. let r = h k d inside in record { x_order = r.0.0; y_order = r.0.1; from = r.1.0.0; to = r.1.0.1 },
      (
        count_from_lines (λ block. is_kind_buffer block.kind) 4096 blocks (λ k d inside. (h k d inside).1.1.0.0),
        (
          count_from_lines (λ block. stops_wires block.kind) 64 blocks (λ k d inside. (h k d inside).1.1.0.1),
          λ k d inside. (h k d inside).1.1.1,
        ),
      ),
    ))
    (λ p k d inside. let b = p.0 k d inside in (
      (b.x_order, b.y_order),
      (
        (b.from, b.to),
        (
          (
            lines_from_count (λ block. is_kind_buffer block.kind) 4096 blocks p.1.0 k d inside,
            lines_from_count (λ block. stops_wires block.kind) 64 blocks p.1.1.0 k d inside,
          ),
          p.1.1.1 k d inside,
        ),
      ),
    ))
    (Allows-first_of (block_line die x y sinks) (λ before block. BlockRules die x y sinks (counts_of before) block)
    (λ before block. Allows-block_fault die x y sinks (counts_of before) block) [] blocks))

pub Allows-first_fault : (parts : Parts) → Allows (first_fault parts) (IsValid parts)
unfolding first_fault
Allows-first_fault parts =
    Allows-like (first_fault parts)
    (λ h. record {
      die = h.0.0.0.0.0.0;
      source_r = h.0.0.0.0.0.1.0;
      source = h.0.0.0.0.0.1.1;
      params = record {
        wire = h.0.0.0.0.1;
        count = h.0.0.1.0;
        buffers = h.0.0.1.1;
        insert_at = h.0.0.0.1.0.0;
      };
      load_limit = h.0.0.0.1.0.1;
      slew_limit = h.0.0.0.1.1;
      some_sink = h.0.1.0.0;
      sink_count = h.0.1.0.1;
      sinks = h.0.1.1.0;
      ids = h.0.1.1.1;
      block_count = h.1.0;
      blocks = h.1.1.0;
      buffer_blocks = h.1.1.1.0;
      all_blocks = h.1.1.1.1.0;
      clear = h.1.1.1.1.1;
    })
    (λ v. (
      (
        (
          (((v.die, (v.source_r, v.source)), v.params.wire), ((v.params.insert_at, v.load_limit), v.slew_limit)),
          (v.params.count, v.params.buffers),
        ),
        ((v.some_sink, v.sink_count), (v.sinks, v.ids)),
      ),
      (v.block_count, (v.blocks, (v.buffer_blocks, (v.all_blocks, v.clear)))),
    ))
    (Allows-or _ _ (Allows-or _ _ (Allows-or _ _ (Allows-or _ _ (Allows-or _ _ (Allows-or _ _
    (Allows-die_fault parts.die)
    (Allows-source_fault parts.die parts.source_x parts.source_y parts.source_r))
    (Allows-wire_fault parts.params.wire))
    (Allows-limits_fault parts.params.insert_at parts.load_limit parts.slew_limit))
    (Allows-buffers_fault parts.params.library))
    (Allows-sinks_fault parts.version parts.die parts.sinks))
    (Allows-blocks_fault parts.die parts.source_x parts.source_y parts.sinks parts.blocks))

-- what a loop over a list asks of its length
pub buffer_count : (count : ℕ) → buffer_count_fault count ≡ None → count ≤ 16
buffer_count count = (Allows-buffer_count_fault count).0

pub sink_count : (count : ℕ) → sink_count_fault count ≡ None → count ≤ 65536
sink_count count none = ((Allows-sink_count_fault count).0 none).1

pub block_count : (count : ℕ) → block_count_fault count ≡ None → count ≤ 4160
block_count count = (Allows-block_count_fault count).0

pub valid_from_no_fault : (parts : Parts) → first_fault parts ≡ None → IsValid parts
valid_from_no_fault parts = (Allows-first_fault parts).0

pub no_fault_from_valid : (parts : Parts) → IsValid parts → first_fault parts ≡ None
no_fault_from_valid parts = (Allows-first_fault parts).1
