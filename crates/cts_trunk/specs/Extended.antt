-- The tree with repeaters on its trunk. Each repeater is a node with one child, so the extended tree is a row of wires from
-- the source to the root, with a repeater between each two, and then the tree. Loads within the tree stay.
use Rattle.std.specs.Prelude.{ℕ, zero, suc, ◌+◌, ◌-◌, ◌*◌, ◌≤◌, ◌<◌, ◌||◌, List, [], ◌∷◌, map, take, drop, length, slice_index_or, sum_by, All, IsTrue, if◌then◌else◌}
use Rattle.std.specs.List.{list_any}
use Rattle.cts_units.specs.declared.params.Buffer.{Buffer}
use Rattle.cts_units.specs.Delay.{wire_delay_of, buffer_delay_of, slew_of}
use Rattle.cts_postorder.specs.BinaryTree.{BinaryTree, label, is_tip, subtrees}
use Rattle.cts_postorder.specs.Occurrence.{Occurrence, occurrences, tips}
use Rattle.cts_tree.specs.declared.nodes.TreeNode.{TreeNode}
use Rattle.cts_instance.specs.declared.parts.Parts.{Parts}
use Rattle.cts_elmore.specs.Loads.{is_buffered, load_below, load_seen, offset_at}
use Rattle.cts_elmore.specs.Delays.{wire_delay, stage_at}
use Rattle.cts_elmore.specs.Skew.{delay_down, greatest_of, least_of}

-- one wire of the trunk: its length in nm, and the load in zF that is seen at its lower end
pub record Span : Type 0 where
  pub length : ℕ
  pub seen : ℕ

abbrev pub span : ℕ → ℕ → Span
span len seen = record { length = len; seen = seen }

-- The wires from the length `from` on, down to the root at the length `end`, cut at the repeaters, which are seen as `input`.
unfoldable pub spans : ℕ → ℕ → ℕ → List ℕ → ℕ → List Span
spans input root from [] end = span (end - from) root ∷ []
spans input root from (at ∷ later) end = span (at - from) input ∷ spans input root at later end

module _ (i : Parts) where
  -- the load that is driven through a wire
  abbrev pub driven : Span → ℕ
  driven s = s.seen + i.params.wire.c * s.length

  -- the delay of a wire, and of a repeater that drives it
  abbrev pub span_delay : Span → ℕ
  span_delay s = wire_delay_of i.params.wire.r i.params.wire.c s.length s.seen

  abbrev pub repeater_delay : Buffer → Span → ℕ
  repeater_delay repeater s = buffer_delay_of repeater (driven s)

module _ (i : Parts) (repeater : Buffer) (trunk : List Span) where
  -- the wire of this number, from 0 on
  abbrev pub span_at : ℕ → Span
  span_at k = slice_index_or trunk k (span 0 0)

  -- the load that is driven through it
  abbrev pub load_on : ℕ → ℕ
  load_on k = driven i (span_at k)

  -- the delay of the source, into the first wire
  abbrev pub first_delay : ℕ
  first_delay = 2 * i.source_r * load_on 0

  -- The delay at the lower end of the wire of this number: of the source, of each wire down to there, and of each repeater
  -- above it.
  unfoldable pub delay_on : ℕ → ℕ
  delay_on k = first_delay + sum_by (span_delay i) (take (k + 1) trunk) + sum_by (repeater_delay i repeater) (take k (drop 1 trunk))

  -- the delay of the stage that ends there: of the output that drives the wire, and of the wire
  unfoldable pub stage_on : ℕ → ℕ
  stage_on zero = first_delay + span_delay i (span_at 0)
  stage_on (suc k) = 2 * repeater.rout * load_on (suc k) + span_delay i (span_at (suc k))

module _ (i : Parts) (root : BinaryTree TreeNode) (repeater : Buffer) (cuts : List ℕ) where
  -- the wires of the trunk, from the source to the root
  abbrev pub trunk_of : List Span
  trunk_of = spans repeater.cin (load_seen i root) 0 cuts (label root).wire

  -- the delay and the stage at the root
  abbrev pub root_delay : ℕ
  root_delay = delay_on i repeater trunk_of (length cuts)

  abbrev pub root_stage : ℕ
  root_stage = stage_on i repeater trunk_of (length cuts)

  -- the delay at a node of the tree: on the trunk, and from the root on
  abbrev pub delay_in : Occurrence TreeNode → ℕ
  delay_in o = root_delay + delay_down i o

  -- the stage that ends at a node: it begins on the trunk where no buffer is above the node in the tree
  unfoldable pub stage_in : Occurrence TreeNode → ℕ
  stage_in o =
      if list_any (is_buffered i) o.above then stage_at i root o
      else (root_stage + sum_by (wire_delay i) (take (length o.above) (o.here ∷ o.above)))

  -- the delays and the arrivals of the leaves
  abbrev pub delays_in : List ℕ
  delays_in = map delay_in (tips [] root)

  abbrev pub arrivals_in : List ℕ
  arrivals_in = map (λ o. delay_in o + 2 * offset_at i o.here) (tips [] root)

  -- the greatest arrival of a leaf less the least
  abbrev pub skew_in : ℕ
  skew_in = greatest_of arrivals_in - least_of arrivals_in

  -- neither the source, nor a repeater, nor a buffer of the tree drives more than the load limit
  pub record MeetsLoadLimit : Type 0 where
    pub on_trunk : All (λ s. driven i s ≤ i.load_limit) trunk_of
    pub in_tree : All (λ t. IsTrue (is_buffered i t) → load_below i t ≤ i.load_limit) (subtrees root)

  -- no slew is above the slew limit, which is not doubled, at a repeater, at a leaf or at a buffer of the tree
  pub record MeetsSlewLimit : Type 0 where
    pub on_trunk : (m : ℕ) → m < length cuts → slew_of (stage_on i repeater trunk_of m) ≤ 10 * i.slew_limit
    pub in_tree : All (λ o. IsTrue (is_tip o.here || is_buffered i o.here) → slew_of (stage_in o) ≤ 10 * i.slew_limit)
        (occurrences [] root)
