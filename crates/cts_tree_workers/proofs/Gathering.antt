-- A part whose root is a pair is cut in its two halves, and what is known of these from below makes what is known of the whole.
use Rattle.std.proofs.Common.{set, ◌≡◌, ℕ, ◌+◌, ◌-◌, ◌/◌, ◌<◌, ◌≤◌, inl, Bor, List, [], ◌∷◌, ◌++◌, map, take, drop, length, get_or, slice_get, Option, Some, None, Ok, refl, sym, ap, subst, ◌∙◌, arith, length-append}
use Rattle.std.specs.Prelude.{IfSome, MatchOption, IsSomeAnd}
use Rattle.std.specs.List.{All, AllZip}
use Rattle.std.proofs.lemmas.List.{get_or-append_right, length-drop, length-take-le}
use Rattle.std.proofs.lemmas.List.Elements.{All-weaker}
use Rattle.std.proofs.lemmas.Option.{slice_get_within}
use Rattle.cts_list.proofs.AllOf.{all_front, all_back}
use Rattle.cts_units.specs.declared.params.Sink.{Sink}
use Rattle.cts_units.specs.Choice.{seen_load_of}
use Rattle.cts_postorder.specs.BinaryTree.{BinaryTree, tip, fork, label, labels, size, subtrees}
use Rattle.cts_postorder.specs.Cut.{IsCut}
use Rattle.cts_postorder.specs.PostOrder.{IsPostOrder, NamesFrom, root_of, trees_of}
use Rattle.cts_postorder.proofs.Cut.{whole, cut_given, cut_long, cut_within, some_front, some_back, front_spelled, back_spelled, trees_are, of_front, of_back, of_root, back_names, tell, zipped}
use Rattle.cts_postorder.proofs.Lists.{Whole, whole_of, length_pos}
use Rattle.cts_postorder.proofs.Places.{get_or-root}
use Rattle.cts_postorder.proofs.Sizes.{length-labels}
use Rattle.cts_tree.specs.declared.nodes.NodeKind.{NodeKind}
use Rattle.cts_tree.specs.declared.nodes.NodeKind.TheVariants.{Leaf, Pair}
use Rattle.cts_tree.specs.declared.nodes.TreeNode.{TreeNode}
use Rattle.cts_tree.specs.Nodes.{buffer_of, children_of, children_of_from, children_from, tree_children}
use Rattle.cts_tree.proofs.Stretches.{counts_from, counts_further, whole_from_start}
use Rattle.cts_instance.specs.declared.parts.Parts.{Parts}
use Rattle.cts_elmore.specs.declared.figures.NodeFigure.{NodeFigure}
use Rattle.cts_elmore.specs.declared.pin_list.Pin.{Pin}
use Rattle.cts_elmore.specs.declared.subtree.Subtree.{Subtree}
use Rattle.cts_elmore.specs.Fits.{FitsInstance, NamesBuffer, NamesSink}
use Rattle.cts_elmore.specs.Limits.{IsPairOver, IsOver, IsWithinLimits}
use Rattle.cts_elmore.specs.Subtrees.{DriveOrOver, IsJoinOf, IsKnownBelow, IsSubtree, IsSomeSubtree}
use Rattle.cts_elmore.proofs.Limited.{root_within}
use Rattle.cts_elmore.proofs.PinsOfParts.{HasSink, count_within, front_pins, back_pins}
use Rattle.cts_tree_workers.specs.declared.gather.Gather.{Gather}
use Rattle.cts_tree_workers.specs.declared.gather.TreePart.{TreePart}
use Rattle.cts_tree_workers.specs.Gathering.{AreCut, AreKnownFrom, ArePairsWithin, IsGathered, IsReady, IsSubtreeFrom}

-- A whole tree is a stretch from the number 0 on: none of its pairs is over the limits, where it is within them,
pub pairs_within : (i : Parts) (nodes : List TreeNode) → IsWithinLimits i nodes → ArePairsWithin i 0 nodes
pairs_within i nodes within =
    subst (λ (kids : TreeNode → Option (ℕ × ℕ)). All (λ t. ¬ IsPairOver i t) (trees_of kids nodes)) (sym whole_from_start)
    (All-weaker (λ t. ¬ IsOver i nodes t) (λ t. ¬ IsPairOver i t) (λ t none over. none (inl over)) _ within)

-- its nodes are in post-order,
pub order_from_start : (nodes : List TreeNode) → IsPostOrder (map tree_children nodes) → IsPostOrder (map (children_from 0) nodes)
order_from_start nodes ok =
    subst (λ (kids : TreeNode → Option (ℕ × ℕ)). IsPostOrder (map kids nodes)) (sym whole_from_start) ok

-- and what is told of the stretch is told of the tree.
pub root_from_start : (i : Parts) (nodes : List TreeNode) (s : Subtree) → IsSubtreeFrom i 0 nodes s
    → IfSome (root_of tree_children nodes) (λ t. IsSubtree i t s)
root_from_start i nodes s is =
    subst (λ (kids : TreeNode → Option (ℕ × ℕ)). IfSome (root_of kids nodes) (λ t. IsSubtree i t s)) whole_from_start is

pub known_from_start : (i : Parts) (nodes : List TreeNode) (figures : List NodeFigure) → AreKnownFrom i 0 nodes figures
    → AllZip (IsKnownBelow i) (trees_of tree_children nodes) figures
known_from_start i nodes figures known =
    subst (λ (kids : TreeNode → Option (ℕ × ℕ)). AllZip (IsKnownBelow i) (trees_of kids nodes) figures) whole_from_start known

-- the source drives no more than the limits of a tree that is within them
pub driven : (i : Parts) (nodes : List TreeNode) → IsPostOrder (map tree_children nodes) → IsWithinLimits i nodes
    → IfSome (root_of tree_children nodes) (λ t. DriveOrOver i t None) → ⊥
driven i nodes ok within over =
    let w : Whole tree_children nodes = whole_of tree_children nodes ok in
    root_within i nodes w.tree within w.root_is (subst (λ o. IfSome o (λ t. DriveOrOver i t None)) w.root_is over)

-- the last node of a tree is its root's
last_label : (t : BinaryTree TreeNode) (e : TreeNode) → get_or (labels t) (length (labels t) - 1) e ≡ label t
unfolding labels size label
last_label (tip n) e = refl
last_label (fork l r n) e =
    let last : length (labels l ++ labels r ++ n ∷ []) - 1 ≡ size l + size r =
    simp length-append (omega (arith, length-labels l, length-labels r)) in
    ap (λ k. get_or (labels l ++ labels r ++ n ∷ []) k e) last
    ∙ get_or-root (labels l) (labels r) n (size l) (size r) e (length-labels l) (length-labels r)

-- the only item of a list is written over
pub set_one : {X : Type 0} (xs : List X) (x : X) → length xs ≡ 1 → set xs 0 x ≡ x ∷ []
set_one [] x long = absurd (omega (arith, long))
set_one (y ∷ []) x long = refl
set_one (y ∷ z ∷ xs) x long = absurd (omega (arith, long))

-- the parts of what fits an instance fit it
module _ (i : Parts) {kids back_kids : TreeNode → Option (ℕ × ℕ)} {nodes front back : List TreeNode} {node : TreeNode}
    (c : IsCut kids back_kids nodes front back node) (fits : FitsInstance i nodes) where
  pub front_fits : FitsInstance i front
  front_fits = record {
    few = omega (arith, fits.few, cut_long c);
    sinks = of_front c (λ (n : TreeNode). NamesSink i.sinks n.kind) fits.sinks;
    buffers = of_front c (λ (n : TreeNode). NamesBuffer i.params.library n.kind) fits.buffers;
  }

  pub back_fits : FitsInstance i back
  back_fits = record {
    few = omega (arith, fits.few, cut_long c);
    sinks = of_back c (λ (n : TreeNode). NamesSink i.sinks n.kind) fits.sinks;
    buffers = of_back c (λ (n : TreeNode). NamesBuffer i.params.library n.kind) fits.buffers;
  }

-- a leaf names a sink of the instance
named_sink : (i : Parts) (kind : NodeKind) → NamesSink i.sinks kind → HasSink i kind
named_sink i (Leaf id sink) named = by_sink (slice_get i.sinks sink) refl named
  where
    by_sink : (o : Option Sink) → slice_get i.sinks sink ≡ o → IsSomeAnd o (λ (of : Sink). of.id ≡ id) → sink < length i.sinks
    by_sink None found h = absurd h
    by_sink (Some s) found h = slice_get_within i.sinks sink s found
named_sink i (Pair left right buffer) named = tt

module _ (work : Gather) (part : TreePart) (room : List NodeFigure) (ready : IsReady work part room) where
  abbrev last : ℕ
  last = length part.nodes.now - 1

  pub some : 1 ≤ length part.nodes.now
  some = omega (arith, length_pos (children_from part.first) part.nodes.now ready.post_order)

  module _ (left right : ℕ) (buffer : Option ℕ) (d : TreeNode)
      (is : (get_or part.nodes.now (length part.nodes.now - 1) d).kind ≡ Pair left right buffer) where
    abbrev middle : ℕ
    middle = left - part.first + 1

    abbrev n : TreeNode
    n = get_or part.nodes.now last d

    pair : children_from part.first n ≡ Some (left - part.first, right - part.first)
    pair = ap (children_of_from part.first) is

    pub first_below : part.first ≤ left
    first_below =
        let named : (part.first ≤ left) × (part.first ≤ right) =
        subst (λ (o : Option (ℕ × ℕ)). IfSome o (λ (c : ℕ × ℕ). (part.first ≤ c.0) × (part.first ≤ c.1))) (ap children_of is)
        (ready.numbered last d (omega (arith, some))) in
        named.0

    pub middle_within : middle ≤ last
    middle_within =
        cut_within (children_from part.first) part.nodes.now ready.post_order d (left - part.first, right - part.first) pair

    pub within : (middle ≤ last) × (last ≤ length room)
    within = (middle_within, omega (arith, ready.places))

    sinks_named : All (λ (node : TreeNode). HasSink work.instance.now node.kind) part.nodes.now
    sinks_named =
        All-weaker (λ (node : TreeNode). NamesSink work.instance.now.sinks node.kind)
        (λ (node : TreeNode). HasSink work.instance.now node.kind) (λ node. named_sink work.instance.now node.kind) part.nodes.now
        ready.fits.sinks

    module _ (below front back : List TreeNode) (below_is : below ≡ take last part.nodes.now) (front_is : front ≡ take middle below)
        (back_is : back ≡ drop middle below) where
      split_here : IsCut (children_from part.first) (children_from (part.first + middle)) part.nodes.now front back n
      split_here =
          cut_given (children_from part.first) part.nodes.now ready.post_order d (left - part.first, right - part.first) pair
          (children_from (part.first + middle)) (counts_further part.first middle) below front back below_is front_is back_is

      front_long : length front ≡ middle
      front_long =
          ap length front_is
          ∙ length-take-le middle below (omega (arith, ap length below_is, length-take-le last part.nodes.now (omega arith), middle_within))

      abbrev count : ℕ
      count = middle / 2 + 1

      count_is : count ≡ length front / 2 + 1
      count_is = ap (λ k. k / 2 + 1) (sym front_long)

      pub count_inside : count ≤ length part.pins.now
      count_inside = count_within work.instance.now part.first split_here sinks_named part.pins.now ready.pins_are count count_is

    module _ (front back : Bor (List TreeNode)) (below : List TreeNode) (below_is : below ≡ take last part.nodes.now)
        (front_is : front.now ≡ take (left - part.first + 1) below) (back_is : back.now ≡ drop (left - part.first + 1) below)
        (few more : Bor (List Pin)) (few_is : few.now ≡ take ((left - part.first + 1) / 2 + 1) part.pins.now)
        (more_is : more.now ≡ drop ((left - part.first + 1) / 2 + 1) part.pins.now) where
      is_split : IsCut (children_from part.first) (children_from (part.first + middle)) part.nodes.now front.now back.now n
      is_split = split_here below front.now back.now below_is front_is back_is

      as_long : length front.now ≡ middle
      as_long = front_long below front.now back.now below_is front_is back_is

      sound_parts : All (λ t. ¬ IsPairOver work.instance.now t) (subtrees is_split.left ++ subtrees is_split.right)
      sound_parts =
          all_front (λ t. ¬ IsPairOver work.instance.now t) (subtrees is_split.left ++ subtrees is_split.right) (whole is_split ∷ [])
          (subst (All (λ t. ¬ IsPairOver work.instance.now t)) (trees_are is_split) ready.within)

      room_long : length (take last room) ≡ last
      room_long = length-take-le last room (omega (arith, ready.places))

      pub front_ready : IsReady work (record { first = part.first; nodes = front; pins = few })
          (take (left - part.first + 1) (take (length part.nodes.now - 1) room))
      front_ready = record {
        post_order = (front_spelled is_split).post_order;
        numbered = of_front is_split (NamesFrom tree_children part.first) ready.numbered;
        few = omega (arith, ready.few, cut_long is_split);
        fits = front_fits work.instance.now is_split ready.fits;
        within = subst (All (λ t. ¬ IsPairOver work.instance.now t)) (sym (front_spelled is_split).trees_are)
            (all_front (λ t. ¬ IsPairOver work.instance.now t) (subtrees is_split.left) (subtrees is_split.right) sound_parts);
        pins_are = few_is ∙ front_pins work.instance.now part.first is_split sinks_named part.pins.now ready.pins_are (middle / 2 + 1)
            (ap (λ k. k / 2 + 1) (sym as_long));
        places = omega (arith, length-take-le middle (take last room) (omega (arith, room_long, middle_within)), as_long);
      }

      pub back_ready : IsReady work (record { first = part.first + (left - part.first + 1); nodes = back; pins = more })
          (drop (left - part.first + 1) (take (length part.nodes.now - 1) room))
      back_ready = record {
        post_order = (back_spelled is_split).post_order;
        numbered = subst (λ k. All (NamesFrom tree_children (part.first + k)) back.now) as_long
            (back_names is_split tree_children part.first (counts_from part.first));
        few = omega (arith, ready.few, cut_long is_split, as_long);
        fits = back_fits work.instance.now is_split ready.fits;
        within = subst (All (λ t. ¬ IsPairOver work.instance.now t)) (sym (back_spelled is_split).trees_are)
            (all_back (λ t. ¬ IsPairOver work.instance.now t) (subtrees is_split.left) (subtrees is_split.right) sound_parts);
        pins_are = more_is ∙ back_pins work.instance.now part.first is_split sinks_named part.pins.now ready.pins_are (middle / 2 + 1)
            (ap (λ k. k / 2 + 1) (sym as_long));
        places = omega (arith, length-drop middle (take last room), room_long, as_long, cut_long is_split);
      }

      pub is_cut : AreCut work part (drop (length part.nodes.now - 1) room) (record { first = part.first; nodes = front; pins = few })
          (record { first = part.first + (left - part.first + 1); nodes = back; pins = more })
      is_cut = record {
        node = n;
        cut = is_split;
        front_first = refl;
        one = omega (arith, length-drop last room, ready.places, some);
        fits = ready.fits;
        within = ready.within;
      }

module _ (work : Gather) (part first second : TreePart) (own : List NodeFigure) (cut : AreCut work part own first second) where
  abbrev i : Parts
  i = work.instance.now

  abbrev c : IsCut (children_from part.first) (children_from second.first) part.nodes.now first.nodes.now second.nodes.now cut.node
  c = cut.cut

  pub some_each : (1 ≤ length first.nodes.now) × (1 ≤ length second.nodes.now) × (1 ≤ length part.nodes.now)
  some_each = (some_front c, some_back c, omega (arith, cut_long c))

  left_label : (e : TreeNode) → get_or first.nodes.now (length first.nodes.now - 1) e ≡ label c.left
  left_label e = ap (λ ns. get_or ns (length ns - 1) e) c.front_is ∙ last_label c.left e

  right_label : (e : TreeNode) → get_or second.nodes.now (length second.nodes.now - 1) e ≡ label c.right
  right_label e = ap (λ ns. get_or ns (length ns - 1) e) c.back_is ∙ last_label c.right e

  root_node : (e : TreeNode) → get_or part.nodes.now (length part.nodes.now - 1) e ≡ cut.node
  root_node e =
      let below : List TreeNode = first.nodes.now ++ second.nodes.now in
      let last : length part.nodes.now - 1 ≡ length below =
      omega (arith, cut_long c, length-append first.nodes.now second.nodes.now) in
      let start : length below - length below ≡ 0 = omega arith in
      ap (λ k. get_or part.nodes.now k e) last ∙ ap (λ ns. get_or ns (length below) e) c.nodes_are
      ∙ get_or-append_right below (cut.node ∷ []) (length below) (length below) e refl (omega arith)
      ∙ ap (λ k. get_or (cut.node ∷ []) k e) start

  -- the buffer over the parts is one of the library
  pub buffer_within : (e : TreeNode) (buffer : Option ℕ) → buffer ≡ buffer_of (get_or part.nodes.now (length part.nodes.now - 1) e).kind
      → IfSome buffer (λ index. index < length i.params.library)
  buffer_within e buffer is =
      subst (λ (o : Option ℕ). IfSome o (λ index. index < length i.params.library)) (sym (is ∙ ap (λ (x : TreeNode). buffer_of x.kind) (root_node e)))
      (by_kind cut.node.kind (of_root c (λ (n : TreeNode). NamesBuffer i.params.library n.kind) cut.fits.buffers))
    where
      by_kind : (kind : NodeKind) → NamesBuffer i.params.library kind → IfSome (buffer_of kind) (λ index. index < length i.params.library)
      by_kind (Leaf id sink) named = tt
      by_kind (Pair left right None) named = tt
      by_kind (Pair left right (Some index)) named = named

  not_over : ¬ IsPairOver i (whole c)
  not_over =
      all_back (λ t. ¬ IsPairOver i t) (subtrees c.left ++ subtrees c.right) (whole c ∷ [])
      (subst (All (λ t. ¬ IsPairOver i t)) (trees_are c) cut.within) 0 (whole c) (omega arith)

  module _ (front back : List NodeFigure) (a b : Subtree) (ahead : IsGathered work first front (Ok a)) (behind : IsGathered work second back (Ok b)) where
    left_value : IsSubtree i c.left a
    left_value =
        subst (λ o. IfSome o (λ u. IsSubtree i u a)) (front_spelled c).root_is
        (subst (λ k. IsSubtreeFrom i k first.nodes.now a) cut.front_first ahead.root)

    right_value : IsSubtree i c.right b
    right_value = subst (λ o. IfSome o (λ u. IsSubtree i u b)) (back_spelled c).root_is behind.root

    pub left_is_some : IsSomeSubtree i a
    left_is_some = record { tree = c.left; few = omega (arith, (front_spelled c).long, cut_long c, cut.fits.few); is = left_value }

    pub right_is_some : IsSomeSubtree i b
    right_is_some = record { tree = c.right; few = omega (arith, (back_spelled c).long, cut_long c, cut.fits.few); is = right_value }

    module _ (e m n : TreeNode) (buffer : Option ℕ)
        (buffer_is : buffer ≡ buffer_of (get_or part.nodes.now (length part.nodes.now - 1) e).kind) (result : Option Subtree)
        (joined : IsJoinOf i buffer (get_or first.nodes.now (length first.nodes.now - 1) m).wire
        (get_or second.nodes.now (length second.nodes.now - 1) n).wire a b result) where
      root_joined : MatchOption result (IsPairOver i (whole c)) (IsSubtree i (whole c))
      root_joined =
          joined c.left c.right cut.node (ap (λ (x : TreeNode). buffer_of x.kind) (sym (root_node e)) ∙ sym buffer_is)
          (ap (λ (x : TreeNode). x.wire) (sym (left_label m))) (ap (λ (x : TreeNode). x.wire) (sym (right_label n))) left_value
          right_value

      pub root_not_over : result ≡ None → ⊥
      root_not_over is = not_over (subst (λ o. MatchOption o (IsPairOver i (whole c)) (IsSubtree i (whole c))) is root_joined)

      pub gathered : (s : Subtree) → result ≡ Some s → (f : NodeFigure) → f.below ≡ s.below → f.residue ≡ s.residue
          → f.offset ≡ s.offset → IsGathered work part (front ++ back ++ set own 0 f) (Ok s)
      unfolding label
      gathered s is f below residue_is offset_is =
          let value : IsSubtree i (whole c) s =
          subst (λ o. MatchOption o (IsPairOver i (whole c)) (IsSubtree i (whole c))) is root_joined in
          let here : IsKnownBelow i (whole c) f = record {
            below = below ∙ value.below;
            residue_is = residue_is ∙ value.residue_is;
            offset = offset_is ∙ value.offset;
            seen = ap (seen_load_of i.params.library (buffer_of cut.node.kind)) below ∙ sym value.seen_by_kind ∙ value.seen;
            not_over = value.not_over;
          } in
          record {
            root = tell c (λ t. IsSubtree i t s) value;
            known = subst (λ o. AreKnownFrom i part.first part.nodes.now (front ++ back ++ o)) (sym (set_one own f cut.one))
                (zipped c (IsKnownBelow i) front back f
                (subst (λ ts. AllZip (IsKnownBelow i) ts front) (front_spelled c).trees_are
                (subst (λ k. AreKnownFrom i k first.nodes.now front) cut.front_first ahead.known))
                (subst (λ ts. AllZip (IsKnownBelow i) ts back) (back_spelled c).trees_are behind.known) here);
          }
