-- The line of a node.
use Rattle.std.specs.Prelude.{ℕ, ◌-◌, ◌^◌, Bool, false, ◌&&◌, nat_le, nat_lt, List, [], ◌∷◌, length, codes, Option, Some, None, ◌==◌}
use Rattle.cts_report.specs.Printed.{PrintedPoint, PrintedKind, sink_leaf, pair_node, PrintedNode}
use Rattle.cts_report_reader.specs.declared.form.Form.{Form}
use Rattle.cts_report_reader.specs.Bounds.{printed_children}
use Rattle.cts_report_reader.specs.Forms.{tells_arrivals}
use Rattle.cts_report_reader.specs.Reader.{PartReader}
use Rattle.cts_report_reader.specs.Words.{word_at, kept_if, labelled_at, bounded_at, both_at, mapped_at, first_of, place_at, tail_at}

abbrev pub PlaceFound : Type 0
PlaceFound = Unit × PrintedPoint

abbrev pub TailFound : Type 0
TailFound = ℕ × (Option ℕ × (ℕ × (ℕ × (List PrintedPoint × Unit))))

abbrev pub LeafFound : Type 0
LeafFound = ℕ × (PlaceFound × (ℕ × TailFound))

abbrev pub PairFound : Type 0
PairFound = ℕ × (ℕ × (PlaceFound × (Option ℕ × (ℕ × (ℕ × TailFound)))))

abbrev pub node_of : PrintedKind → PlaceFound → ℕ → TailFound → PrintedNode
node_of kind place load tail = record {
  kind = kind;
  place = place.1;
  load = load;
  delay = tail.0;
  arrival = tail.1.0;
  slew = tail.1.1.0;
  wire = tail.1.1.1.0;
  corners = tail.1.1.1.1.0;
}

abbrev pub leaf_of : LeafFound → PrintedNode
leaf_of found = node_of (sink_leaf found.0) found.1.0 found.1.1.0 found.1.1.1

abbrev pub pair_of : PairFound → PrintedNode
pair_of found =
    node_of (pair_node found.0 found.1.0 found.1.1.1.0 found.1.1.1.1.1.0) found.1.1.0 found.1.1.1.1.0 found.1.1.1.1.1.1

-- a leaf, with its arrival where it is told
unfoldable pub leaf_at : Bool → PartReader PrintedNode
leaf_at told =
    mapped_at leaf_of
    (both_at (bounded_at (codes " leaf ") 0 999999999) (both_at place_at (both_at (labelled_at (codes " load ") 6) (tail_at told))))

-- an index below the size of the library, or none
unfoldable pub buffer_at : ℕ → PartReader (Option ℕ)
buffer_at buffers bytes =
    first_of (mapped_at (λ (_ : Unit). None) (word_at (codes " buffer none")) bytes)
    (mapped_at Some (λ rest. kept_if (λ index. nat_lt index buffers) (labelled_at (codes " buffer ") 0 rest)) bytes)

unfoldable pub pair_at : ℕ → PartReader PrintedNode
pair_at buffers =
    mapped_at pair_of
    (both_at (bounded_at (codes " pair ") 0 (2 ^ 32 - 1))
    (both_at (bounded_at (codes " ") 0 (2 ^ 32 - 1))
    (both_at place_at
    (both_at (buffer_at buffers)
    (both_at (labelled_at (codes " load ") 6) (both_at (labelled_at (codes " residue ") 16) (tail_at false)))))))

-- The next node joins the stack: a pair takes the two latest trees, and the nodes to come after it can leave one tree.
abbrev pub joins_stack : List ℕ → ℕ → Option (ℕ × ℕ) → Bool
joins_stack stack todo None = nat_le (length stack) todo
joins_stack [] todo (Some children) = false
joins_stack (b ∷ []) todo (Some children) = false
joins_stack (b ∷ a ∷ stack) todo (Some children) = children.0 == a && children.1 == b

unfoldable pub node_rest_at : Form → PartReader PrintedNode
node_rest_at form bytes = first_of (leaf_at (tells_arrivals form.version) bytes) (pair_at form.buffers bytes)

-- the line of the node of this number, where these trees stand on the stack and so many nodes are to come after it
unfoldable pub node_at : Form → ℕ → List ℕ → ℕ → PartReader PrintedNode
node_at form number stack todo =
    mapped_at (λ (found : ℕ × PrintedNode). found.1)
    (both_at (λ bytes. kept_if (λ found. found == number) (labelled_at (codes "node ") 0 bytes))
    (λ bytes. kept_if (λ node. joins_stack stack todo (printed_children node)) (node_rest_at form bytes)))
