-- A valid instance is read back from its text.
use Rattle.std.proofs.Common.{◌≡◌, ℕ, ◌+◌, ◌^◌, ◌<◌, false, ℤ, List, [], ◌∷◌, ◌++◌, length, map, Ok, None, refl, sym, ap, ◌∙◌, arith, append_assoc, append-nil, codes}
use Rattle.std.specs.List.{concat}
use Rattle.std.proofs.lemmas.Int.{ints}
use Rattle.std.proofs.lemmas.List.{length-append, length-map}
use Rattle.cts_num.specs.Decimal.{decimal_text}
use Rattle.cts_geom.specs.declared.bounds.Die.{Die}
use Rattle.cts_units.specs.declared.params.Sink.{Sink}
use Rattle.cts_units.specs.declared.params.Buffer.{Buffer}
use Rattle.cts_units.specs.Limits.{IsBuffer}
use Rattle.cts_block.specs.declared.blocks.Block.{Block}
use Rattle.cts_instance.specs.declared.parts.Parts.{Parts}
use Rattle.cts_instance.specs.FirstFault as faults
use Rattle.cts_instance.specs.declared.version.Version.{Version}
use Rattle.cts_instance.specs.FirstFault.{block_count_fault, blocks_fault, buffer_count_fault, buffers_fault, die_fault, first_fault, first_of, limits_fault, sink_count_fault, sinks_fault, source_fault, wire_fault}
use Rattle.cts_block.specs.Places.{IsInDie}
use Rattle.cts_instance.specs.Validity.{IsBlock, IsDie, IsSink, IsValid}
use Rattle.cts_instance.proofs.ValidityLemmas.{no_fault_from_valid}
use Rattle.cts_read.specs.Grammar.{at_line, content, left_of, refuse}
use Rattle.cts_read.specs.Lines.{is_skipped}
use Rattle.cts_read.specs.Header.{die_of, limits_of, source_of, version_of, wire_of}
use Rattle.cts_read.specs.Items.{block_count_of, block_of, buffer_count_of, buffer_of, sink_count_of, sink_of}
use Rattle.cts_read.specs.Whole.{end_at, head_at, instance_at, instance_of, lists_at}
use Rattle.cts_script.specs.Text.{block_line, buffer_line, count_line, die_line, end_line, head_lines, instance_lines, instance_text, limits_line, sink_line, sink_words, source_line, version_line, version_word, wire_line}
use Rattle.cts_script.specs.Laws.{InstancesComeBack, NothingIsLeft}
use Rattle.cts_script.proofs.Lists.{text_by_lists}
use Rattle.cts_script.proofs.WrittenWords.{IsWord, body_of, decimal_word, literal}
use Rattle.cts_script.proofs.WrittenLines.{IsWritten, block_are_words, block_back, block_words, buffer_are_words, buffer_back, buffer_words, count_back, die_are_words, die_back, die_words, end_back, found, is_written, limits_are_words, limits_back, limits_words, sink_are_words, sink_back, source_are_words, source_back, source_words, version_back, version_is_word, wire_are_words, wire_back, wire_words}
use Rattle.cts_script.proofs.WrittenText.{IsBody, at, is_body, item_line, line-then, line_back, list_back, or_none}

-- a point of a valid die can be written
record IsWrittenPoint (px py : ℤ) : Type 0 where
  x : IsWritten px
  y : IsWritten py

written_point : (die : Die) (x y : ℤ) → IsDie die → IsInDie die x y → IsWrittenPoint x y
written_point die x y d p = record {
  x = is_written x (omega (arith, ints, d.x_low, p.west)) (omega (arith, ints, d.x_high, p.east));
  y = is_written y (omega (arith, ints, d.y_low, p.south)) (omega (arith, ints, d.y_high, p.north));
}

-- what none of the lines says
record HasNoFault (parts : Parts) : Type 0 where
  die : die_fault parts.die ≡ None
  source : source_fault parts.die parts.source_x parts.source_y parts.source_r ≡ None
  wire : wire_fault parts.params.wire ≡ None
  limits : limits_fault parts.params.insert_at parts.load_limit parts.slew_limit ≡ None
  buffer_count : buffer_count_fault (length parts.params.library) ≡ None
  buffers : first_of faults.buffer_line [] parts.params.library ≡ None
  sink_count : sink_count_fault (length parts.sinks) ≡ None
  sinks : first_of (faults.sink_line parts.version parts.die) [] parts.sinks ≡ None
  block_count : block_count_fault (length parts.blocks) ≡ None
  blocks : first_of (faults.block_line parts.die parts.source_x parts.source_y parts.sinks) [] parts.blocks ≡ None

no_fault : (parts : Parts) → IsValid parts → HasNoFault parts
unfolding first_fault buffers_fault sinks_fault blocks_fault
no_fault parts v =
    let all = or_none _ _ (no_fault_from_valid parts v) in
    let to_sinks = or_none _ _ all.0 in
    let to_buffers = or_none _ _ to_sinks.0 in
    let to_limits = or_none _ _ to_buffers.0 in
    let to_wire = or_none _ _ to_limits.0 in
    let to_source = or_none _ _ to_wire.0 in
    let buffers = or_none _ _ to_buffers.1 in
    let sinks = or_none _ _ to_sinks.1 in
    let blocks = or_none _ _ all.1 in
    record {
      die = to_source.0;
      source = to_source.1;
      wire = to_wire.1;
      limits = to_limits.1;
      buffer_count = buffers.0;
      buffers = buffers.1;
      sink_count = sinks.0;
      sinks = sinks.1;
      block_count = blocks.0;
      blocks = blocks.1;
    }

-- what comes after each line of the head, up to the lists
abbrev after_head : Parts → List ℕ → List ℕ
after_head parts rest =
    version_line parts.version ++ (die_line parts.die ++ (source_line parts.source_x parts.source_y parts.source_r
    ++ (wire_line parts.params.wire ++ (limits_line parts.params.insert_at parts.load_limit parts.slew_limit ++ rest))))

head_back : (parts : Parts) (text rest : List ℕ) → IsValid parts
    → head_at (left_of (at text (after_head parts rest) 0)) ≡ Ok (
      record {
        version = parts.version;
        die = parts.die;
        source = record { x = parts.source_x; y = parts.source_y; r = parts.source_r };
        wire = parts.params.wire;
        limits = record { insert_at = parts.params.insert_at; load = parts.load_limit; slew = parts.slew_limit };
      },
      left_of (at text rest 5),
    )
unfolding is_skipped head_at die_line source_line wire_line limits_line
head_back parts text rest v =
    let sound = no_fault parts v in
    let d = parts.die in
    let p = written_point d parts.source_x parts.source_y v.die v.source in
    let x1 = is_written d.x1 v.die.x_low (omega (arith, ints, v.die.x_order, v.die.x_high)) in
    let y1 = is_written d.y1 v.die.y_low (omega (arith, ints, v.die.y_order, v.die.y_high)) in
    let x2 = is_written d.x2 (omega (arith, ints, v.die.x_low, v.die.x_order)) v.die.x_high in
    let y2 = is_written d.y2 (omega (arith, ints, v.die.y_low, v.die.y_order)) v.die.y_high in
    found _ _ _ _ (item_line version_of parts.version text (codes "cts") (version_word parts.version ∷ []) _ 0
    (is_body (codes "cts") (version_word parts.version ∷ []) (literal (codes "cts") (omega arith) refl) (version_is_word parts.version, tt) refl) (version_back parts.version))
    (found _ _ _ _ (item_line die_of parts.die text (codes "die") (die_words parts.die) _ 1
    (is_body (codes "die") (die_words parts.die) (literal (codes "die") (omega arith) refl) (die_are_words parts.die) refl) (die_back parts.die x1 y1 x2 y2 sound.die))
    (found _ _ _ _ (item_line (source_of parts.die) _ text (codes "source") (source_words parts.source_x parts.source_y parts.source_r) _ 2
    (is_body (codes "source") (source_words parts.source_x parts.source_y parts.source_r) (literal (codes "source") (omega arith) refl) (source_are_words parts.source_x parts.source_y parts.source_r) refl)
    (source_back parts.die parts.source_x parts.source_y parts.source_r p.x p.y v.source_r sound.source))
    (found _ _ _ _ (item_line wire_of parts.params.wire text (codes "wire") (wire_words parts.params.wire) _ 3
    (is_body (codes "wire") (wire_words parts.params.wire) (literal (codes "wire") (omega arith) refl) (wire_are_words parts.params.wire) refl)
    (wire_back parts.params.wire (omega (arith, v.params.wire.r_high)) (omega (arith, v.params.wire.c_high)) sound.wire))
    (found _ _ _ _ (item_line limits_of _ text (codes "limits") (limits_words parts.params.insert_at parts.load_limit parts.slew_limit) rest 4
    (is_body (codes "limits") (limits_words parts.params.insert_at parts.load_limit parts.slew_limit) (literal (codes "limits") (omega arith) refl) (limits_are_words parts.params.insert_at parts.load_limit parts.slew_limit) refl)
    (limits_back parts.params.insert_at parts.load_limit parts.slew_limit v.params.insert_at v.load_limit v.slew_limit sound.limits))
    refl))))

buffer_is_body : (buffer : Buffer) → IsBody (body_of (codes "buffer") (buffer_words buffer))
unfolding is_skipped
buffer_is_body buffer = is_body (codes "buffer") (buffer_words buffer) (literal (codes "buffer") (omega arith) refl) (buffer_are_words buffer) refl

sink_is_body : (version : Version) (sink : Sink) → IsBody (body_of (codes "sink") (sink_words version sink))
unfolding is_skipped
sink_is_body version sink =
    is_body (codes "sink") (sink_words version sink) (literal (codes "sink") (omega arith) refl) (sink_are_words version sink) refl

block_is_body : (block : Block) → IsBody (body_of (codes "block") (block_words block))
unfolding is_skipped
block_is_body block = is_body (codes "block") (block_words block) (literal (codes "block") (omega arith) refl) (block_are_words block) refl

buffer_of_back : (before : List Buffer) (buffer : Buffer) → IsBuffer buffer → faults.buffer_line before buffer ≡ None
    → buffer_of before (body_of (codes "buffer") (buffer_words buffer)) ≡ Ok buffer
unfolding buffer_of
buffer_of_back before buffer b sound =
    found _ _ _ _ (buffer_back buffer (omega (arith, b.cin)) b.rout b.intrinsic) (found _ _ tt _ (ap refuse sound) refl)

sink_of_back : (version : Version) (die : Die) → IsDie die → (before : List Sink) (sink : Sink) → IsSink version die sink
    → faults.sink_line version die before sink ≡ None
    → sink_of version die before (body_of (codes "sink") (sink_words version sink)) ≡ Ok sink
unfolding sink_of
sink_of_back version die d before sink s sound =
    let p = written_point die sink.x sink.y d s.in_die in
    found _ _ _ _ (sink_back sink s.id p.x p.y (omega (arith, s.cap)) version s.offset s.no_offset) (found _ _ tt _ (ap refuse sound) refl)

block_of_back : (die : Die) → IsDie die → (x y : ℤ) (sinks : List Sink) (before : List Block) (block : Block) → IsBlock die block
    → faults.block_line die x y sinks before block ≡ None
    → block_of die x y sinks before (body_of (codes "block") (block_words block)) ≡ Ok block
unfolding block_of
block_of_back die d x y sinks before block b sound =
    let from = written_point die block.x1 block.y1 d b.from in
    let to = written_point die block.x2 block.y2 d b.to in
    found _ _ _ _ (block_back block from.x from.y to.x to.y) (found _ _ tt _ (ap refuse sound) refl)

count_is_body : (key : List ℕ) (count : ℕ) → IsWord key → is_skipped (body_of key (decimal_text 0 count ∷ [])) ≡ false
    → IsBody (body_of key (decimal_text 0 count ∷ []))
count_is_body key count k shown = is_body key (decimal_text 0 count ∷ []) k (decimal_word 0 count, tt) shown

buffer_count_back : (count : ℕ) → buffer_count_fault count ≡ None → count < 10 ^ 18
    → buffer_count_of (body_of (codes "buffers") (decimal_text 0 count ∷ [])) ≡ Ok count
unfolding buffer_count_of
buffer_count_back count sound less =
    found _ _ _ _ (count_back (codes "buffers") count (literal (codes "buffers") (omega arith) refl) refl less) (found _ _ tt _ (ap refuse sound) refl)

sink_count_back : (count : ℕ) → sink_count_fault count ≡ None → count < 10 ^ 18
    → sink_count_of (body_of (codes "sinks") (decimal_text 0 count ∷ [])) ≡ Ok count
unfolding sink_count_of
sink_count_back count sound less =
    found _ _ _ _ (count_back (codes "sinks") count (literal (codes "sinks") (omega arith) refl) refl less) (found _ _ tt _ (ap refuse sound) refl)

block_count_back : (count : ℕ) → block_count_fault count ≡ None → count < 10 ^ 18
    → block_count_of (body_of (codes "blocks") (decimal_text 0 count ∷ [])) ≡ Ok count
unfolding block_count_of
block_count_back count sound less =
    found _ _ _ _ (count_back (codes "blocks") count (literal (codes "blocks") (omega arith) refl) refl less) (found _ _ tt _ (ap refuse sound) refl)

-- the lines of the lists, and what comes after them
abbrev lists_then : Parts → List ℕ → List ℕ
lists_then parts rest =
    count_line (codes "buffers") (length parts.params.library) ++ (concat (map buffer_line parts.params.library)
    ++ (count_line (codes "sinks") (length parts.sinks) ++ (concat (map (sink_line parts.version) parts.sinks)
    ++ (count_line (codes "blocks") (length parts.blocks) ++ (concat (map block_line parts.blocks) ++ rest)))))

-- the number of the last line of the lists
abbrev lists_end : Parts → ℕ
lists_end parts = 5 + 1 + length parts.params.library + 1 + length parts.sinks + 1 + length parts.blocks

lists_back : (parts : Parts) (text rest : List ℕ) → IsValid parts
    → lists_at (record {
      version = parts.version;
      die = parts.die;
      source = record { x = parts.source_x; y = parts.source_y; r = parts.source_r };
      wire = parts.params.wire;
      limits = record { insert_at = parts.params.insert_at; load = parts.load_limit; slew = parts.slew_limit };
    }) (left_of (at text (lists_then parts rest) 5))
    ≡ Ok (record { buffers = parts.params.library; sinks = parts.sinks; blocks = parts.blocks }, left_of (at text rest (lists_end parts)))
unfolding is_skipped lists_at buffer_line sink_line block_line
lists_back parts text rest v =
    let sound = no_fault parts v in
    let b = length parts.params.library in
    let s = length parts.sinks in
    let k = length parts.blocks in
    found _ _ _ _ (item_line buffer_count_of b text (codes "buffers") (decimal_text 0 b ∷ []) _ 5
    (count_is_body (codes "buffers") b (literal (codes "buffers") (omega arith) refl) refl)
    (buffer_count_back b sound.buffer_count (omega (arith, v.params.count))))
    (found _ _ _ _ (list_back buffer_of faults.buffer_line buffer_line (λ buffer. body_of (codes "buffer") (buffer_words buffer)) IsBuffer
    (λ buffer. line-then (codes "buffer") (buffer_words buffer)) (λ buffer _. buffer_is_body buffer) buffer_of_back
    parts.params.library [] text _ 6 v.params.buffers sound.buffers)
    (found _ _ _ _ (item_line sink_count_of s text (codes "sinks") (decimal_text 0 s ∷ []) _ (6 + b)
    (count_is_body (codes "sinks") s (literal (codes "sinks") (omega arith) refl) refl)
    (sink_count_back s sound.sink_count (omega (arith, v.sink_count))))
    (found _ _ _ _ (list_back (sink_of parts.version parts.die) (faults.sink_line parts.version parts.die) (sink_line parts.version)
    (λ sink. body_of (codes "sink") (sink_words parts.version sink)) (IsSink parts.version parts.die)
    (λ sink. line-then (codes "sink") (sink_words parts.version sink)) (λ sink _. sink_is_body parts.version sink) (sink_of_back parts.version parts.die v.die)
    parts.sinks [] text _ (6 + b + 1) v.sinks sound.sinks)
    (found _ _ _ _ (item_line block_count_of k text (codes "blocks") (decimal_text 0 k ∷ []) _ (6 + b + 1 + s)
    (count_is_body (codes "blocks") k (literal (codes "blocks") (omega arith) refl) refl)
    (block_count_back k sound.block_count (omega (arith, v.block_count))))
    (found _ _ _ _ (list_back (block_of parts.die parts.source_x parts.source_y parts.sinks)
    (faults.block_line parts.die parts.source_x parts.source_y parts.sinks) block_line (λ block. body_of (codes "block") (block_words block)) (IsBlock parts.die)
    (λ block. line-then (codes "block") (block_words block)) (λ block _. block_is_body block)
    (block_of_back parts.die v.die parts.source_x parts.source_y parts.sinks)
    parts.blocks [] text rest (6 + b + 1 + s + 1) v.blocks sound.blocks)
    refl)))))

end_at_back : (text after : List ℕ) (n : ℕ) → end_at (left_of (at text (end_line ++ after) n)) ≡ Ok (n + 1, left_of (at text after (n + 1)))
unfolding end_at is_skipped
end_at_back text after n =
    ap (λ t. end_at (left_of (at text t n))) (line-then (codes "end") [] after)
    ∙ found _ _ _ _ (line_back text (body_of (codes "end") []) after n (is_body (codes "end") [] (literal (codes "end") (omega arith) refl) tt refl))
    (found _ _ tt _ (ap (at_line (n + 1)) end_back) refl)

regroup : (v d s w l b bs c cs k ks e rest : List ℕ)
    → ((v ++ (d ++ (s ++ (w ++ (l ++ [])))) ++ (b ++ bs) ++ (c ++ cs) ++ (k ++ ks)) ++ (e ++ [])) ++ rest
    ≡ v ++ (d ++ (s ++ (w ++ (l ++ (b ++ (bs ++ (c ++ (cs ++ (k ++ (ks ++ (e ++ rest)))))))))))
regroup v d s w l b bs c cs k ks e rest = simp (append_assoc, append-nil) refl

-- the text of an instance, line after line
text_then : (parts : Parts) (rest : List ℕ) → instance_text parts ++ rest ≡ after_head parts (lists_then parts (end_line ++ rest))
unfolding head_lines
text_then parts rest =
    ap (λ t. t ++ rest) (text_by_lists parts)
    ∙ regroup (version_line parts.version) (die_line parts.die) (source_line parts.source_x parts.source_y parts.source_r) (wire_line parts.params.wire)
    (limits_line parts.params.insert_at parts.load_limit parts.slew_limit)
    (count_line (codes "buffers") (length parts.params.library)) (concat (map buffer_line parts.params.library))
    (count_line (codes "sinks") (length parts.sinks)) (concat (map (sink_line parts.version) parts.sinks))
    (count_line (codes "blocks") (length parts.blocks)) (concat (map block_line parts.blocks)) end_line rest

count_lines : {A : Type 0} (head bs cs ks : List A) (b c k e : A)
    → length (head ++ b ∷ bs ++ c ∷ cs ++ k ∷ ks ++ e ∷ []) ≡ length head + 1 + length bs + 1 + length cs + 1 + length ks + 1
count_lines head bs cs ks b c k e =
    omega (
      arith,
      length-append (head ++ b ∷ bs ++ c ∷ cs ++ k ∷ ks) (e ∷ []),
      length-append (head ++ b ∷ bs ++ c ∷ cs) (k ∷ ks),
      length-append (head ++ b ∷ bs) (c ∷ cs),
      length-append head (b ∷ bs),
    )

map_length : {A : Type 0} (line : A → List ℕ) (items : List A) → length (map line items) ≡ length items
map_length line items = rw length-map refl

-- how many lines it has
lines_are : (parts : Parts) → lists_end parts + 1 ≡ length (instance_lines parts)
unfolding instance_lines head_lines
lines_are parts =
    omega (
      arith,
      count_lines (head_lines parts) (map buffer_line parts.params.library) (map (sink_line parts.version) parts.sinks) (map block_line parts.blocks)
          (count_line (codes "buffers") (length parts.params.library)) (count_line (codes "sinks") (length parts.sinks))
          (count_line (codes "blocks") (length parts.blocks)) end_line,
      map_length buffer_line parts.params.library,
      map_length (sink_line parts.version) parts.sinks,
      map_length block_line parts.blocks,
    )

pub instances_come_back : InstancesComeBack
unfolding instance_of instance_at
instances_come_back parts after v =
    let text : List ℕ = instance_text parts ++ after in
    ap (λ t. instance_at (left_of (at text t 0))) (text_then parts after)
    ∙ found _ _ _ _ (head_back parts text _ v)
    (found _ _ _ _ (lists_back parts text _ v)
    (found _ _ _ _ (end_at_back text after (lists_end parts))
    (ap (λ n. Ok ((parts, n), left_of (at text after n))) (lines_are parts))))

pub nothing_is_left : NothingIsLeft
unfolding left_of content
nothing_is_left parts v =
    ap instance_of (sym (append-nil (instance_text parts)))
    ∙ instances_come_back parts [] v
    ∙ ap (λ m. Ok ((parts, length (instance_lines parts)), record { lines = []; missing = m })) (omega arith)
