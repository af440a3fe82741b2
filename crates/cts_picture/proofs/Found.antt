-- Nodes that were looked up, and coordinates that were passed as numbers of 64 bits.
use Rattle.std.proofs.Common.{◌≡◌, ℕ, ℤ, ◌-◌, ◌<◌, ◌≤◌, List, [], ◌∷◌, length, map, get_or, slice_get, Some, None, sym, ap, subst, ◌∙◌, append-nil, arith, to_z, of_z, w64}
use Rattle.std.specs.Prelude.{◌*◌, ◌^◌, pos, ◌≤ℤ◌, unsigned_abs}
use Rattle.std.specs.List.{flat_map}
use Rattle.std.specs.Option.{option_map, option_map_or}
use Rattle.std.proofs.lemmas.Int.{ints, to_z-of_z}
use Rattle.std.proofs.lemmas.List.{length-map}
use Rattle.std.proofs.lemmas.Option.{slice_get-map, slice_get-get_or, slice_get_past}
use Rattle.cts_report.specs.Printed.{PrintedPoint, PrintedNode}
use Rattle.cts_report_reader.specs.declared.node.ReportNode.{ReportNode}
use Rattle.cts_report_reader.specs.Nodes.{seen_node}
use Rattle.cts_picture.specs.declared.wire.Scale.{Scale}
use Rattle.cts_picture.specs.Wires.{DrawnWire, root_delay, wire_text, wire_to}

-- a number that a die can have is read back
pub whole : (z : ℤ) (most : ℕ) → most ≤ 200000000 → pos 0 ≤ℤ z → z ≤ℤ pos most → to_z w64 (of_z w64 z) ≡ z
whole z most few low high = to_z-of_z w64 z (omega (arith, ints))

-- five times a coordinate in half nm lies where a die can lie
pub five_within : (n : ℕ) (z : ℤ) → n ≡ unsigned_abs z → pos 0 ≤ℤ z → z ≤ℤ pos 200000000 → 5 * n ≤ 10 ^ 9
five_within n z e low high = omega (arith, ints)

-- what is seen of a node that was found
pub node_found : (nodes : List ReportNode) (number : ℕ) (node : ReportNode) → number < length nodes → node ≡ get_or nodes number node
    → slice_get (map seen_node nodes) number ≡ Some (seen_node node)
node_found nodes number node w is =
    slice_get-map seen_node nodes number
    ∙ ap (option_map seen_node) (slice_get-get_or nodes number node w ∙ ap Some (sym is))

pub none_found : (nodes : List ReportNode) (number : ℕ) → length nodes ≤ number → slice_get (map seen_node nodes) number ≡ None
none_found nodes number past =
    slice_get-map seen_node nodes number ∙ ap (option_map seen_node) (slice_get_past nodes number past)

abbrev wires_at : PrintedPoint → ℕ → List DrawnWire → PrintedNode → List DrawnWire
wires_at upper number others node = record { number = number; upper = upper; node = node } ∷ others

-- the wire to a node that was found
pub wire_found : (P : List ℕ → Type 0) (scale : Scale) (nodes : List ReportNode) (upper : PrintedPoint) (number : ℕ) (node : ReportNode)
    → number < length nodes → node ≡ get_or nodes number node
    → P (wire_text scale record { number = number; upper = upper; node = seen_node node })
    → P (flat_map (wire_text scale) (wire_to (map seen_node nodes) upper number))
wire_found P scale nodes upper number node w is here =
    subst P
    (sym (
    ap (λ o. flat_map (wire_text scale) (option_map_or (wires_at upper number []) o [])) (node_found nodes number node w is)
    ∙ append-nil (wire_text scale record { number = number; upper = upper; node = seen_node node })
    ))
    here

-- no wire where no node was found
pub no_wire : (P : List ℕ → Type 0) (scale : Scale) (nodes : List ReportNode) (upper : PrintedPoint) (number : ℕ) → length nodes ≤ number
    → P [] → P (flat_map (wire_text scale) (wire_to (map seen_node nodes) upper number))
no_wire P scale nodes upper number past here =
    subst P
    (sym (ap (λ o. flat_map (wire_text scale) (option_map_or (wires_at upper number []) o [])) (none_found nodes number past)))
    here

abbrev delay_at : List ReportNode → ℕ → ℕ
delay_at nodes number = option_map_or (λ (node : PrintedNode). node.delay) (slice_get (map seen_node nodes) number) 0

last_number : (nodes : List ReportNode) (root : ℕ) → root ≡ length nodes - 1 → delay_at nodes root ≡ root_delay (map seen_node nodes)
last_number nodes root e = ap (delay_at nodes) (e ∙ ap (λ n. n - 1) (sym (length-map nodes seen_node)))

-- the delay of the root
pub root_found : (nodes : List ReportNode) (root : ℕ) (node : ReportNode) → root ≡ length nodes - 1 → root < length nodes
    → node ≡ get_or nodes root node → node.delay ≡ root_delay (map seen_node nodes)
root_found nodes root node e w is =
    sym (ap (λ o. option_map_or (λ (n : PrintedNode). n.delay) o 0) (node_found nodes root node w is)) ∙ last_number nodes root e

pub no_root : (nodes : List ReportNode) (root : ℕ) → root ≡ length nodes - 1 → length nodes ≤ root → 0 ≡ root_delay (map seen_node nodes)
no_root nodes root e past =
    sym (ap (λ o. option_map_or (λ (n : PrintedNode). n.delay) o 0) (none_found nodes root past)) ∙ last_number nodes root e
