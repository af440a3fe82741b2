-- One step of the pass upward: the values of a leaf, and those of a pair from its two branches.
use Rattle.std.proofs.Common.{◌≡◌, ℕ, ◌+◌, ◌*◌, ◌^◌, ◌<◌, ◌≤◌, ◌⊎◌, inl, inr, min, max, [], ◌∷◌, ◌++◌, length, get_or, slice_get, Option, Some, None, refl, sym, ap, ap₂, subst, ◌∙◌, arith}
use Rattle.std.specs.Prelude.{sum_by}
use Rattle.std.specs.Option.{option_map_or, option_and_then}
use Rattle.std.specs.Int.{abs_diff}
use Rattle.std.proofs.lemmas.List.Sums.{sum_by-append, sum_by_push}
use Rattle.std.proofs.lemmas.Option.{slice_get_within, get_or_from_slice_get}
use Rattle.std.proofs.lemmas.Bool.{cases_lt}
use Rattle.cts_units.specs.declared.params.Sink.{Sink}
use Rattle.cts_units.specs.declared.params.Buffer.{Buffer}
use Rattle.cts_units.specs.Delay.{buffer_delay_of, wire_delay_of}
use Rattle.cts_units.specs.Choice.{added_delay_of, seen_load_of}
use Rattle.cts_units.specs.Limits.{IsBuffer, max_length, max_load, max_delay}
use Rattle.cts_postorder.specs.BinaryTree.{BinaryTree, tip, fork, label, labels, size}
use Rattle.cts_tree.specs.declared.nodes.NodeKind.{NodeKind}
use Rattle.cts_tree.specs.declared.nodes.NodeKind.TheVariants.{Leaf, Pair}
use Rattle.cts_tree.specs.declared.nodes.TreeNode.{TreeNode}
use Rattle.cts_tree.specs.Nodes.{leaf_sink, buffer_of}
use Rattle.cts_instance.specs.declared.parts.Parts.{Parts}
use Rattle.cts_instance.specs.Validity.{IsValid, IsSink}
use Rattle.cts_elmore.specs.declared.subtree.Subtree.{Subtree}
use Rattle.cts_elmore.specs.declared.subtree.Branch.{Branch}
use Rattle.cts_elmore.specs.declared.pin_list.Pin.{Pin}
use Rattle.cts_elmore.specs.Loads.{sink_load, sink_offset, offset_at, buffer_at, wire_load, load_below, load_seen}
use Rattle.cts_elmore.specs.Delays.{wire_delay, buffer_delay}
use Rattle.cts_elmore.specs.Skew.{greatest_below, least_below, greatest_delay_below, least_delay_below, residue, bound}
use Rattle.cts_elmore.specs.Limits.{IsOverAtPair, long_left, long_right, great_load, great_delay, IsPairOver}
use Rattle.cts_elmore.specs.Subtrees.{IsLeafOf, IsSubtree, IsSubtreeInRange, IsBranch, IsPair}
use Rattle.cts_elmore.proofs.Paths.{load_at_pair}
use Rattle.cts_elmore.proofs.Below.{greatest_at_tip, greatest_at_pair, least_at_tip, least_at_pair, greatest_delay_at_tip, greatest_delay_at_pair, least_delay_at_tip, least_delay_at_pair, bound_at_tip, bound_at_pair}

-- what is not above a limit is within it
pub not_above : (x limit : ℕ) → ¬ (limit < x) → x ≤ limit
not_above x limit none = elim (cases_lt limit x) [ inl above ↦ absurd (none above) | inr within ↦ within ]

-- a buffer of the library at a pair adds its delay, and stands for the load below it
module _ (i : Parts) (l r : BinaryTree TreeNode) (n : TreeNode) where
  pub seen_at_pair : (load : ℕ) → load ≡ load_below i (fork l r n)
      → seen_load_of i.params.library (buffer_of n.kind) load ≡ load_seen i (fork l r n)
  seen_at_pair load is = by_buffer (buffer_of n.kind)
    where
      by_buffer : (b : Option ℕ) → seen_load_of i.params.library b load
          ≡ option_map_or (λ (x : Buffer). x.cin) (option_and_then (slice_get i.params.library) b) (load_below i (fork l r n))
      by_buffer None = is
      by_buffer (Some index) = ap (λ d. option_map_or (λ (x : Buffer). x.cin) (slice_get i.params.library index) d) is

  pub added_at_pair : (load : ℕ) → load ≡ load_below i (fork l r n)
      → added_delay_of i.params.library (buffer_of n.kind) load ≡ buffer_delay i (fork l r n)
  added_at_pair load is = by_buffer (buffer_of n.kind)
    where
      by_buffer : (b : Option ℕ) → added_delay_of i.params.library b load
          ≡ option_map_or (λ (x : Buffer). buffer_delay_of x (load_below i (fork l r n))) (option_and_then (slice_get i.params.library) b) 0
      by_buffer None = refl
      by_buffer (Some index) = ap (λ d. option_map_or (λ (x : Buffer). buffer_delay_of x d) (slice_get i.params.library index) 0) is

-- the least arrival is at most the greatest, and so is the least delay, which is at most an arrival
pub least_le_greatest : (i : Parts) (t : BinaryTree TreeNode) → least_below i t ≤ greatest_below i t
least_le_greatest i (tip n) = omega (arith, least_at_tip i n, greatest_at_tip i n)
least_le_greatest i (fork l r n) =
    omega (arith, least_at_pair i l r n, greatest_at_pair i l r n, least_le_greatest i l, least_le_greatest i r)

pub least_delay_le_greatest : (i : Parts) (t : BinaryTree TreeNode) → least_delay_below i t ≤ greatest_delay_below i t
least_delay_le_greatest i (tip n) = omega (arith, least_delay_at_tip i n)
least_delay_le_greatest i (fork l r n) =
    omega (arith, least_delay_at_pair i l r n, greatest_delay_at_pair i l r n, least_delay_le_greatest i l, least_delay_le_greatest i r)

pub delay_le_arrival : (i : Parts) (t : BinaryTree TreeNode) → greatest_delay_below i t ≤ greatest_below i t
delay_le_arrival i (tip n) = omega (arith, greatest_delay_at_tip i n)
delay_le_arrival i (fork l r n) =
    omega (arith, greatest_delay_at_pair i l r n, greatest_at_pair i l r n, delay_le_arrival i l, delay_le_arrival i r)

-- twice the offset at a subtree's root is at most the greatest arrival
pub offset_le : (i : Parts) (t : BinaryTree TreeNode) → 2 * offset_at i t ≤ greatest_below i t
offset_le i (tip n) = omega (arith, greatest_at_tip i n)
offset_le i (fork l r n) = omega arith

-- pins of a valid instance are small
module _ (i : Parts) (valid : IsValid i) where
  sink_small : (sink : Option Sink) → ((s : Sink) → sink ≡ Some s → s.cap ≤ 10 ^ 12) → option_map_or (λ (s : Sink). s.cap) sink 0 ≤ 10 ^ 12
  sink_small None small = omega arith
  sink_small (Some s) small = small s refl

  pub sink_load_le : (n : TreeNode) → sink_load i n ≤ 10 ^ 12
  sink_load_le n = by_kind n.kind
    where
      by_kind : (k : NodeKind) → option_map_or (λ (s : Sink). s.cap) (option_and_then (slice_get i.sinks) (leaf_sink k)) 0 ≤ 10 ^ 12
      by_kind (Pair left right buffer) = omega arith
      by_kind (Leaf id sink) =
          sink_small (slice_get i.sinks sink) (λ s found.
          let ok : IsSink i.version i.die (get_or i.sinks sink s) = valid.sinks sink s (slice_get_within i.sinks sink s found) in
          subst (λ (x : Sink). x.cap ≤ 10 ^ 12) (get_or_from_slice_get i.sinks sink s s found) ok.cap)

  offset_small : (sink : Option Sink) → ((s : Sink) → sink ≡ Some s → s.offset < 10 ^ 18)
      → option_map_or (λ (s : Sink). s.offset) sink 0 < 10 ^ 18
  offset_small None small = omega arith
  offset_small (Some s) small = small s refl

  pub sink_offset_small : (n : TreeNode) → sink_offset i n < 10 ^ 18
  sink_offset_small n = by_kind n.kind
    where
      by_kind : (k : NodeKind) → option_map_or (λ (s : Sink). s.offset) (option_and_then (slice_get i.sinks) (leaf_sink k)) 0 < 10 ^ 18
      by_kind (Pair left right buffer) = omega arith
      by_kind (Leaf id sink) =
          offset_small (slice_get i.sinks sink) (λ s found.
          let ok : IsSink i.version i.die (get_or i.sinks sink s) = valid.sinks sink s (slice_get_within i.sinks sink s found) in
          subst (λ (x : Sink). x.offset < 10 ^ 18) (get_or_from_slice_get i.sinks sink s s found) ok.offset)

  cin_small : (b : Option Buffer) (rest limit : ℕ) → ((x : Buffer) → b ≡ Some x → x.cin ≤ limit) → rest ≤ limit
      → option_map_or (λ (x : Buffer). x.cin) b rest ≤ limit
  cin_small None rest limit small other = other
  cin_small (Some x) rest limit small other = small x refl

  pub load_seen_le : (t : BinaryTree TreeNode) → ¬ IsPairOver i t → load_seen i t ≤ max_load
  unfolding load_below
  load_seen_le (tip n) sound = omega (arith, sink_load_le n)
  load_seen_le (fork l r n) sound =
      cin_small (buffer_at i (fork l r n)) (load_below i (fork l r n)) max_load
      (by_kind (buffer_of n.kind)) (not_above _ max_load (λ above. sound (great_load above)))
    where
      by_kind : (o : Option ℕ) (x : Buffer) → option_and_then (slice_get i.params.library) o ≡ Some x → x.cin ≤ max_load
      by_kind None x found = cc
      by_kind (Some index) x found =
          let ok : IsBuffer (get_or i.params.library index x) =
          valid.params.buffers index x (slice_get_within i.params.library index x found) in
          let small : x.cin ≤ 10 ^ 12 =
          subst (λ (b : Buffer). b.cin ≤ 10 ^ 12) (get_or_from_slice_get i.params.library index x x found) ok.cin in
          omega (arith, small)

  greatest_le : (t : BinaryTree TreeNode) → ¬ IsPairOver i t → greatest_below i t ≤ max_delay
  greatest_le (tip n) sound = omega (arith, greatest_at_tip i n, sink_offset_small n)
  greatest_le (fork l r n) sound = not_above _ max_delay (λ above. sound (great_delay above))

  -- the values of a subtree of a tree with few nodes are in range
  pub subtree_in_range : (t : BinaryTree TreeNode) (s : Subtree) → size t ≤ 131071 → IsSubtree i t s → IsSubtreeInRange s
  subtree_in_range t s few is = record {
    seen = omega (arith, is.seen, load_seen_le t is.not_over);
    wires = omega (arith, is.few_wires);
    greatest = omega (arith, is.greatest, greatest_le t is.not_over);
    least = omega (arith, is.least, least_le_greatest i t, greatest_le t is.not_over);
    delay_greatest = omega (arith, is.delay_greatest, delay_le_arrival i t, greatest_le t is.not_over);
    delay_least = omega (arith, is.delay_least, least_delay_le_greatest i t, delay_le_arrival i t, greatest_le t is.not_over);
    bound = omega (arith, is.small_bound);
  }

module _ (i : Parts) where
  -- a leaf
  pub leaf_is : (n : TreeNode) (s : Subtree) (pin : Pin) → pin.cap ≡ sink_load i n → pin.offset ≡ sink_offset i n
      → buffer_of n.kind ≡ None → IsLeafOf pin s → IsSubtree i (tip n) s
  unfolding load_below residue labels label size
  leaf_is n s pin load_is offset_is unbuffered is = record {
    below = is.below ∙ load_is;
    seen = is.seen ∙ load_is;
    seen_by_kind = is.seen ∙ sym is.below ∙ ap (λ b. seen_load_of i.params.library b s.below) (sym unbuffered);
    wires = ap (λ x. x + n.wire) is.wires;
    offset = is.offset ∙ offset_is;
    greatest = is.greatest ∙ ap (λ x. 2 * x) offset_is ∙ sym (greatest_at_tip i n);
    least = is.least ∙ ap (λ x. 2 * x) offset_is ∙ sym (least_at_tip i n);
    delay_greatest = is.delay_greatest ∙ sym (greatest_delay_at_tip i n);
    delay_least = is.delay_least ∙ sym (least_delay_at_tip i n);
    residue_is = is.residue;
    bound_is = is.bound ∙ sym (bound_at_tip i n);
    not_over = λ never. never;
    few_wires = omega (arith, is.wires);
    small_bound = omega (arith, is.bound);
  }

-- the delay of a wire whose length and load are told
pub through_is : (i : Parts) (t : BinaryTree TreeNode) (length seen : ℕ) → (label t).wire ≡ length → seen ≡ load_seen i t
    → wire_delay_of i.params.wire.r i.params.wire.c length seen ≡ wire_delay i t
through_is i t length seen length_is seen_is =
    ap₂ (λ x y. wire_delay_of i.params.wire.r i.params.wire.c x y) (sym length_is) seen_is

-- what the two branches of a pair are, and what follows
module _ (i : Parts) (l r : BinaryTree TreeNode) (n : TreeNode) (a b : Subtree) (a_is : IsSubtree i l a) (b_is : IsSubtree i r b)
    (left right : ℕ) (left_is : (label l).wire ≡ left) (right_is : (label r).wire ≡ right) (p q : Branch)
    (p_is : IsBranch i.params.wire left a p) (q_is : IsBranch i.params.wire right b q) where
  branch_load : p.load + q.load ≡ load_below i (fork l r n)
  branch_load =
      let first : load_seen i l + wire_load i l ≡ p.load =
      ap₂ (λ x y. x + i.params.wire.c * y) (sym a_is.seen) left_is ∙ sym p_is.load in
      let second : load_seen i r + wire_load i r ≡ q.load =
      ap₂ (λ x y. x + i.params.wire.c * y) (sym b_is.seen) right_is ∙ sym q_is.load in
      omega (arith, load_at_pair i l r n, first, second)

  branch_greatest : (p.greatest ≡ greatest_below i l + wire_delay i l) × (q.greatest ≡ greatest_below i r + wire_delay i r)
  branch_greatest = (
    p_is.greatest ∙ ap₂ (λ g w. g + w) a_is.greatest (through_is i l left a.seen left_is a_is.seen),
    q_is.greatest ∙ ap₂ (λ g w. g + w) b_is.greatest (through_is i r right b.seen right_is b_is.seen),
  )

  branch_least : (p.least ≡ least_below i l + wire_delay i l) × (q.least ≡ least_below i r + wire_delay i r)
  branch_least = (
    p_is.least ∙ ap₂ (λ g w. g + w) a_is.least (through_is i l left a.seen left_is a_is.seen),
    q_is.least ∙ ap₂ (λ g w. g + w) b_is.least (through_is i r right b.seen right_is b_is.seen),
  )

  branch_delay_greatest : (p.delay_greatest ≡ greatest_delay_below i l + wire_delay i l)
      × (q.delay_greatest ≡ greatest_delay_below i r + wire_delay i r)
  branch_delay_greatest = (
    p_is.delay_greatest ∙ ap₂ (λ g w. g + w) a_is.delay_greatest (through_is i l left a.seen left_is a_is.seen),
    q_is.delay_greatest ∙ ap₂ (λ g w. g + w) b_is.delay_greatest (through_is i r right b.seen right_is b_is.seen),
  )

  branch_delay_least : (p.delay_least ≡ least_delay_below i l + wire_delay i l)
      × (q.delay_least ≡ least_delay_below i r + wire_delay i r)
  branch_delay_least = (
    p_is.delay_least ∙ ap₂ (λ g w. g + w) a_is.delay_least (through_is i l left a.seen left_is a_is.seen),
    q_is.delay_least ∙ ap₂ (λ g w. g + w) b_is.delay_least (through_is i r right b.seen right_is b_is.seen),
  )

  branch_residue : abs_diff p.greatest q.greatest ≡ residue i (fork l r n)
  unfolding residue
  branch_residue = ap₂ abs_diff (branch_greatest.0) (branch_greatest.1)

  pub pair_is : (s : Subtree) → IsPair i.params.library (buffer_of n.kind) p q s → left ≤ max_length → right ≤ max_length
      → IsSubtree i (fork l r n) s
  unfolding labels label size
  pair_is s s_is left_short right_short =
      let wires : sum_by (λ (node : TreeNode). node.wire) (labels l ++ labels r ++ n ∷ [])
      ≡ sum_by (λ (node : TreeNode). node.wire) (labels l) + sum_by (λ (node : TreeNode). node.wire) (labels r) + n.wire =
      sum_by_push (λ (node : TreeNode). node.wire) (labels l ++ labels r) n
      ∙ ap (λ x. x + n.wire) (sum_by-append (λ (node : TreeNode). node.wire) (labels l) (labels r)) in
      let added : added_delay_of i.params.library (buffer_of n.kind) (p.load + q.load) ≡ buffer_delay i (fork l r n) =
      added_at_pair i l r n (p.load + q.load) branch_load in
      let greatest : s.greatest ≡ max p.greatest q.greatest + buffer_delay i (fork l r n) =
      s_is.greatest ∙ ap (λ d. max p.greatest q.greatest + d) added in
      let least : s.least ≡ min p.least q.least + buffer_delay i (fork l r n) = s_is.least ∙ ap (λ d. min p.least q.least + d) added in
      let delay_greatest : s.delay_greatest ≡ max p.delay_greatest q.delay_greatest + buffer_delay i (fork l r n) =
      s_is.delay_greatest ∙ ap (λ d. max p.delay_greatest q.delay_greatest + d) added in
      let delay_least : s.delay_least ≡ min p.delay_least q.delay_least + buffer_delay i (fork l r n) =
      s_is.delay_least ∙ ap (λ d. min p.delay_least q.delay_least + d) added in
      let greatest_is : s.greatest ≡ greatest_below i (fork l r n) =
      greatest ∙ ap₂ (λ x y. max x y + buffer_delay i (fork l r n)) (branch_greatest.0) (branch_greatest.1)
      ∙ sym (greatest_at_pair i l r n) in
      let below : s.below ≡ load_below i (fork l r n) = s_is.below ∙ branch_load in
      record {
        below = below;
        seen = s_is.seen ∙ seen_at_pair i l r n (p.load + q.load) branch_load;
        seen_by_kind = s_is.seen ∙ ap (seen_load_of i.params.library (buffer_of n.kind)) (sym s_is.below);
        wires = omega (arith, wires, s_is.wires, p_is.wires, q_is.wires, a_is.wires, b_is.wires, left_is, right_is);
        offset = s_is.offset;
        greatest = greatest_is;
        least = least ∙ ap₂ (λ x y. min x y + buffer_delay i (fork l r n)) (branch_least.0) (branch_least.1)
            ∙ sym (least_at_pair i l r n);
        delay_greatest = delay_greatest
            ∙ ap₂ (λ x y. max x y + buffer_delay i (fork l r n)) (branch_delay_greatest.0) (branch_delay_greatest.1)
            ∙ sym (greatest_delay_at_pair i l r n);
        delay_least = delay_least ∙ ap₂ (λ x y. min x y + buffer_delay i (fork l r n)) (branch_delay_least.0) (branch_delay_least.1)
            ∙ sym (least_delay_at_pair i l r n);
        residue_is = s_is.residue ∙ branch_residue;
        bound_is = s_is.bound ∙ ap₂ (λ x y. max x y + abs_diff p.greatest q.greatest) (p_is.bound ∙ a_is.bound_is) (q_is.bound ∙ b_is.bound_is)
            ∙ ap (λ x. max (bound i l) (bound i r) + x) branch_residue ∙ sym (bound_at_pair i l r n);
        not_over = within below greatest_is s_is.load_within s_is.delay_within;
        few_wires = omega (arith, s_is.wires, p_is.wires, q_is.wires, a_is.few_wires, b_is.few_wires);
        small_bound = omega (arith, s_is.bound, p_is.bound, q_is.bound, a_is.small_bound, b_is.small_bound, greatest, s_is.delay_within);
      }
    where
      within : s.below ≡ load_below i (fork l r n) → s.greatest ≡ greatest_below i (fork l r n) → s.below ≤ max_load
          → s.greatest ≤ max_delay → ¬ IsOverAtPair i l r n
      within below greatest load_small delay_small (long_left h) = absurd (omega (arith, h, left_is))
      within below greatest load_small delay_small (long_right h) = absurd (omega (arith, h, right_is))
      within below greatest load_small delay_small (great_load h) = absurd (omega (arith, h, below))
      within below greatest load_small delay_small (great_delay h) = absurd (omega (arith, h, greatest))

  -- or the pair is over the limits
  pub pair_over : (max_load < p.load + q.load)
      ⊎ (max_delay < max p.greatest q.greatest + added_delay_of i.params.library (buffer_of n.kind) (p.load + q.load))
      → IsOverAtPair i l r n
  pair_over (inl h) = great_load (omega (arith, h, branch_load))
  pair_over (inr h) =
      let greatest : max p.greatest q.greatest + added_delay_of i.params.library (buffer_of n.kind) (p.load + q.load)
      ≡ greatest_below i (fork l r n) =
      ap₂ (λ x y. max x y + added_delay_of i.params.library (buffer_of n.kind) (p.load + q.load)) (branch_greatest.0) (branch_greatest.1)
      ∙ ap (λ d. max (greatest_below i l + wire_delay i l) (greatest_below i r + wire_delay i r) + d)
      (added_at_pair i l r n (p.load + q.load) branch_load) ∙ sym (greatest_at_pair i l r n) in
      great_delay (omega (arith, h, greatest))
