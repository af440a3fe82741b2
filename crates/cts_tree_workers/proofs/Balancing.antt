-- A part whose root is a pair is cut in its two halves, and what is made of these makes what is asked of the whole.
use Rattle.std.proofs.Common.{◌≡◌, ℕ, ◌+◌, ◌-◌, ◌/◌, ◌<◌, ◌≤◌, inl, inr, Bor, List, [], ◌∷◌, ◌++◌, set, take, drop, length, get_or, Option, Some, MatchOption, Result, Ok, Err, IfOk, IfErr, refl, sym, ap, ap₂, subst, ◌∙◌, arith, length-append}
use Rattle.std.specs.Prelude.{IfSome}
use Rattle.std.specs.List.{All, AllZip}
use Rattle.std.specs.Option.{option_map_or}
use Rattle.std.proofs.Math.ListN.{take-append-drop}
use Rattle.std.proofs.lemmas.List.{drop_at, length-take-le}
use Rattle.std.proofs.lemmas.List.Elements.{All-weaker}
use Rattle.std.proofs.lemmas.Option.{slice_get-get_or}
use Rattle.std.proofs.lemmas.Result.{IfErr-weaker, IfOk-weaker}
use Rattle.std.proofs.lemmas.Slice.Zip.{AllZip-long}
use Rattle.cts_units.specs.declared.params.Params.{Params}
use Rattle.cts_postorder.specs.BinaryTree.{BinaryTree, label, size}
use Rattle.cts_postorder.specs.Cut.{IsCut}
use Rattle.cts_postorder.specs.Occurrence.{occurrence, occurrences}
use Rattle.cts_postorder.specs.PostOrder.{NamesFrom}
use Rattle.cts_postorder.proofs.Cut.{whole, cut_given, cut_long, cut_within, front_size, back_size, some_front, some_back, front_spelled, back_spelled, occurrences_are, of_front, of_back, of_root, back_names, tell, left_first, right_first, root_first}
use Rattle.cts_postorder.proofs.Lists.{length_pos}
use Rattle.cts_postorder.proofs.Sizes.{size_pos, length-occurrences}
use Rattle.cts_postorder.proofs.Zips.{all_zip-append}
use Rattle.cts_tree.specs.declared.nodes.NodeKind.{NodeKind}
use Rattle.cts_tree.specs.declared.nodes.NodeKind.TheVariants.{Leaf, Pair}
use Rattle.cts_tree.specs.declared.nodes.TreeNode.{TreeNode}
use Rattle.cts_tree.specs.declared.route.Route.{Route}
use Rattle.cts_tree.specs.Nodes.{buffer_of, children_of, children_of_from, children_from, tree_children}
use Rattle.cts_tree.proofs.Stretches.{counts_from, counts_further}
use Rattle.cts_instance.specs.declared.parts.Parts.{Parts}
use Rattle.cts_instance.specs.Validity.{IsValid}
use Rattle.cts_elmore.specs.declared.pin_list.Pin.{Pin}
use Rattle.cts_elmore.proofs.PinsOfParts.{HasSink, count_within, front_pins, back_pins}
use Rattle.cts_embed.specs.declared.node.NodeBalance.{NodeBalance}
use Rattle.cts_embed.specs.declared.end.BalanceEnd.{BalanceEnd}
use Rattle.cts_embed.specs.declared.end.BalanceEnd.TheVariants.{Beyond, NoMemory}
use Rattle.cts_embed.specs.Balance.{IsBalance, IsBeyondBalance, IsPairBalance, IsPairBeyond}
use Rattle.cts_embed.specs.BalancedTree.{IsWireLength, IsWireBelow, IsBalancedBelow, IsBalancedStretch, IsStretchBalance}
use Rattle.cts_embed.specs.Ends.{StretchEnds}
use Rattle.cts_embed.specs.Fitting.{NamesWithin}
use Rattle.cts_embed.proofs.Beyond.{none_beyond}
use Rattle.cts_embed.proofs.Root.{root_in_range}
use Rattle.cts_embed.proofs.Steps.{pair_names}
use Rattle.cts_embed.proofs.Wired.{with_wire}
use Rattle.cts_tree_workers.specs.declared.balance.Balance.{Balance}
use Rattle.cts_tree_workers.specs.declared.balance.PlacedPart.{PlacedPart}
use Rattle.cts_tree_workers.specs.Balancing.{AreCut, AreWired, IsBalancedBy, IsBalancedPart, IsReady, IsRootOver, last_route}
use Rattle.cts_tree_workers.proofs.Wires.{last_below, part_in_greater}

module _ (parts : Parts) where
  abbrev Names : TreeNode → Type 0
  Names node = NamesWithin (length parts.sinks) (length parts.params.library) node.kind

  -- a leaf names a sink of the instance
  named_sink : (kind : NodeKind) → NamesWithin (length parts.sinks) (length parts.params.library) kind → HasSink parts kind
  unfolding NamesWithin
  named_sink (Leaf id sink) names = names
  named_sink (Pair left right buffer) names = tt

  long_below : (t : BinaryTree TreeNode) (nodes : List TreeNode) → AllZip (IsBalancedBelow parts) (occurrences [] t) nodes
      → length nodes ≡ size t
  long_below t nodes all = AllZip-long (IsBalancedBelow parts) (occurrences [] t) nodes all ∙ length-occurrences [] t

  -- the route to the root of a part, read of its last node
  route_below : (t : BinaryTree TreeNode) (nodes : List TreeNode) → AllZip (IsBalancedBelow parts) (occurrences [] t) nodes
      → last_route nodes ≡ (label t).route.length
  route_below t nodes all =
      let d : TreeNode = label t in
      let within : length nodes - 1 < length nodes = omega (arith, long_below t nodes all, size_pos t) in
      let own : IsBalancedBelow parts _ (get_or nodes (length nodes - 1) d) = last_below parts t nodes d all in
      ap (λ o. option_map_or (λ (node : TreeNode). node.route.length) o 0) (slice_get-get_or nodes (length nodes - 1) d within)
      ∙ ap (λ (route : Route). route.length) own.route

module _ (work : Balance) (part : PlacedPart) (room : List TreeNode) (ready : IsReady work part room) where
  abbrev last : ℕ
  last = length room - 1

  pub some : 1 ≤ length room
  some = omega (arith, length_pos (children_from part.first) room ready.post_order)

  module _ (left right : ℕ) (buffer : Option ℕ) (d : TreeNode) (is : (get_or room (length room - 1) d).kind ≡ Pair left right buffer) where
    abbrev middle : ℕ
    middle = left - part.first + 1

    abbrev fronts : List TreeNode
    fronts = take middle (take last room)

    abbrev backs : List TreeNode
    backs = drop middle (take last room)

    abbrev n : TreeNode
    n = get_or room last d

    pair : children_from part.first n ≡ Some (left - part.first, right - part.first)
    pair = ap (children_of_from part.first) is

    pub first_below : part.first ≤ left
    first_below =
        let named : (part.first ≤ left) × (part.first ≤ right) =
        subst (λ (o : Option (ℕ × ℕ)). IfSome o (λ (c : ℕ × ℕ). (part.first ≤ c.0) × (part.first ≤ c.1))) (ap children_of is)
        (ready.numbered last d (omega (arith, some))) in
        named.0

    pub middle_within : middle ≤ last
    middle_within = cut_within (children_from part.first) room ready.post_order d (left - part.first, right - part.first) pair

    is_split : IsCut (children_from part.first) (children_from (part.first + middle)) room fronts backs n
    is_split =
        cut_given (children_from part.first) room ready.post_order d (left - part.first, right - part.first) pair
        (children_from (part.first + middle)) (counts_further part.first middle) (take last room) fronts backs refl refl refl

    below_long : length (take last room) ≡ last
    below_long = length-take-le last room (omega arith)

    front_long : length fronts ≡ middle
    front_long = length-take-le middle (take last room) (omega (arith, below_long, middle_within))

    sinks_named : All (λ (node : TreeNode). HasSink work.instance.now node.kind) room
    sinks_named =
        All-weaker (Names work.instance.now) (λ (node : TreeNode). HasSink work.instance.now node.kind)
        (λ node. named_sink work.instance.now node.kind) room ready.fits.names

    abbrev count : ℕ
    count = middle / 2 + 1

    count_is : count ≡ length fronts / 2 + 1
    count_is = ap (λ k. k / 2 + 1) (sym front_long)

    pub count_inside : count ≤ length part.pins.now
    count_inside =
        count_within work.instance.now part.first is_split sinks_named part.pins.now ready.pins_are count count_is

    module _ (front back : Bor (List Pin)) (front_is : front.now ≡ take ((left - part.first + 1) / 2 + 1) part.pins.now)
        (back_is : back.now ≡ drop ((left - part.first + 1) / 2 + 1) part.pins.now) where
      pub front_ready : IsReady work (record { first = part.first; pins = front }) fronts
      front_ready = record {
        few = omega (arith, ready.few, cut_long is_split);
        post_order = (front_spelled is_split).post_order;
        numbered = of_front is_split (NamesFrom tree_children part.first) ready.numbered;
        fits = record {
          few = omega (arith, ready.fits.few, cut_long is_split);
          names = of_front is_split (Names work.instance.now) ready.fits.names;
        };
        pins_are = front_is ∙ front_pins work.instance.now part.first is_split sinks_named part.pins.now ready.pins_are count count_is;
      }

      pub back_ready : IsReady work (record { first = part.first + (left - part.first + 1); pins = back }) backs
      back_ready = record {
        few = omega (arith, ready.few, cut_long is_split, front_long);
        post_order = (back_spelled is_split).post_order;
        numbered = subst (λ k. All (NamesFrom tree_children (part.first + k)) backs) front_long
            (back_names is_split tree_children part.first (counts_from part.first));
        fits = record {
          few = omega (arith, ready.fits.few, cut_long is_split);
          names = of_back is_split (Names work.instance.now) ready.fits.names;
        };
        pins_are = back_is ∙ back_pins work.instance.now part.first is_split sinks_named part.pins.now ready.pins_are count count_is;
      }

      grouped : fronts ++ backs ++ drop last room ≡ room
      grouped =
          ap (λ xs. xs ++ drop last room) (take-append-drop middle (take last room)) ∙ take-append-drop last room

      pub is_cut : AreCut work part fronts backs (drop last room) (record { first = part.first; pins = front })
          (record { first = part.first + (left - part.first + 1); pins = back }) buffer
      is_cut =
          let long : length (fronts ++ backs) ≡ last =
          omega (arith, length-append fronts backs, cut_long is_split) in
          record {
            node = n;
            left = left;
            right = right;
            cut = subst (λ ns. IsCut (children_from part.first) (children_from (part.first + middle)) ns fronts backs n) (sym grouped) is_split;
            own_is = ap (drop last) is_split.nodes_are ∙ drop_at (fronts ++ backs) (n ∷ []) last long;
            kind = is;
            whole = subst (IsReady work part) (sym grouped) ready;
            front_first = refl;
            back_first = ap (λ k. part.first + k) (sym front_long);
          }

module _ (work : Balance) (part first second : PlacedPart) (fronts backs own : List TreeNode) (buffer : Option ℕ)
    (cut : AreCut work part fronts backs own first second buffer) (front back : List TreeNode) where
  abbrev i : Parts
  i = work.instance.now

  abbrev all : List TreeNode
  all = fronts ++ backs ++ own

  abbrev c : IsCut (children_from part.first) (children_from second.first) all fronts backs cut.node
  c = cut.cut

  abbrev top : BinaryTree TreeNode
  top = whole c

  abbrev Fails : BinaryTree TreeNode → Type 0
  Fails = IsBeyondBalance i.params i.sinks

  buffer_is : buffer_of cut.node.kind ≡ buffer
  buffer_is = ap buffer_of cut.kind

  pub named : (params : Params) → params ≡ i.params → MatchOption buffer (Unit {0}) (λ index. index < length params.library)
  named params same =
      subst (λ (x : Params). MatchOption buffer (Unit {0}) (λ index. index < length x.library)) (sym same)
      (pair_names (length i.sinks) (length i.params.library) cut.left cut.right buffer cut.node.kind cut.kind
      (of_root c (Names i) cut.whole.fits.names))

  -- the balance of a part is that of its tree
  left_made : (a : NodeBalance) → IsBalancedBy work first fronts front (Ok a) → IsBalance i.params i.sinks c.left a
  left_made a is =
      subst (λ o. IfSome o (λ t. IsBalance i.params i.sinks t a)) (front_spelled c).root_is
      (subst (λ k. IsStretchBalance i k fronts a) cut.front_first is.balanced.balanced)

  right_made : (b : NodeBalance) → IsBalancedBy work second backs back (Ok b) → IsBalance i.params i.sinks c.right b
  right_made b is = subst (λ o. IfSome o (λ t. IsBalance i.params i.sinks t b)) (back_spelled c).root_is is.balanced.balanced

  pub ended_front : (end : BalanceEnd) → IsBalancedBy work first fronts front (Err end) → (nodes : List TreeNode)
      → IsBalancedBy work part all nodes (Err end)
  ended_front end is nodes = record {
    balanced = tt;
    ends = by_end end (subst (λ k. StretchEnds i k fronts end) cut.front_first is.ends);
  }
    where
      by_end : (end : BalanceEnd) → StretchEnds i part.first fronts end → StretchEnds i part.first all end
      by_end NoMemory ends = tt
      by_end (Beyond node) ends = (ends.0, left_first c Fails (node - part.first) (ends.1))

  pub ended_back : (a : NodeBalance) (end : BalanceEnd) → IsBalancedBy work first fronts front (Ok a)
      → IsBalancedBy work second backs back (Err end) → (nodes : List TreeNode) → IsBalancedBy work part all nodes (Err end)
  ended_back a end ahead is nodes = record { balanced = tt; ends = by_end end is.ends }
    where
      by_end : (end : BalanceEnd) → StretchEnds i second.first backs end → StretchEnds i part.first all end
      by_end NoMemory ends = tt
      by_end (Beyond node) ends = (
        omega (arith, ends.0, cut.back_first),
        right_first c Fails (none_beyond i.params i.sinks c.left a (left_made a ahead)) (node - second.first) (node - part.first)
            (omega (arith, ends.0, cut.back_first)) (ends.1),
      )

  module _ (a b : NodeBalance) (ahead : IsBalancedBy work first fronts front (Ok a)) (behind : IsBalancedBy work second backs back (Ok b)) where
    left_wired : IsBalancedStretch i part.first fronts front
    left_wired = subst (λ k. IsBalancedStretch i k fronts front) cut.front_first ahead.balanced.wired

    left_below : AllZip (IsBalancedBelow i) (occurrences [] c.left) front
    left_below = subst (λ os. AllZip (IsBalancedBelow i) os front) (front_spelled c).occurrences_are left_wired

    right_below : AllZip (IsBalancedBelow i) (occurrences [] c.right) back
    right_below = subst (λ os. AllZip (IsBalancedBelow i) os back) (back_spelled c).occurrences_are behind.balanced.wired

    -- the parts are as long as they were
    longs : (length front ≡ length fronts) × (length back ≡ length backs)
    longs = (
      omega (arith, long_below i c.left front left_below, front_size c),
      omega (arith, long_below i c.right back right_below, back_size c),
    )

    pub some_each : (1 ≤ length front) × (1 ≤ length back)
    some_each = (omega (arith, longs.0, some_front c), omega (arith, longs.1, some_back c))

    pub number_fits : part.first + length front + length back ≤ 131071
    number_fits = omega (arith, longs.0, longs.1, cut.whole.few, cut_long c)

    abbrev la : ℕ
    la = (label c.left).route.length

    abbrev lb : ℕ
    lb = (label c.right).route.length

    whole_balance : (root : NodeBalance) → IsPairBalance i.params buffer a la b lb root → IsBalance i.params i.sinks top root
    unfolding IsBalance
    whole_balance root pair =
        (a, b, left_made a ahead, right_made b behind, subst (λ o. IsPairBalance i.params o a la b lb root) (sym buffer_is) pair)

    whole_beyond : IsPairBeyond i.params buffer a la b lb → Fails top
    unfolding IsBeyondBalance
    whole_beyond over =
        (a, b, left_made a ahead, right_made b behind, subst (λ o. IsPairBeyond i.params o a la b lb) (sym buffer_is) over)

    -- the root is beyond
    root_told : (params : Params) → params ≡ i.params → (end : BalanceEnd)
        → IsRootOver params buffer front back a b (part.first + length front + length back) end → StretchEnds i part.first all end
    root_told params same end ends =
        let number : ℕ = part.first + length front + length back in
        let told : IsRootOver i.params buffer front back a b number end =
        subst (λ x. IsRootOver x buffer front back a b number end) same ends in
        let over : IsPairBeyond i.params buffer a la b lb =
        subst (λ x. IsPairBeyond i.params buffer a x b lb) (route_below i c.left front left_below)
        (subst (λ x. IsPairBeyond i.params buffer a (last_route front) b x) (route_below i c.right back right_below) (told.1)) in
        subst (StretchEnds i part.first all) (sym (told.0)) (
          omega arith,
          root_first c Fails (none_beyond i.params i.sinks c.left a (left_made a ahead))
              (none_beyond i.params i.sinks c.right b (right_made b behind)) (number - part.first)
              (omega (arith, longs.0, longs.1, cut_long c)) (whole_beyond over),
        )

    -- the whole is balanced
    module _ (root : NodeBalance) (pair : IsPairBalance i.params buffer a la b lb root) where
      left_wire : IsWireBelow i (top ∷ []) c.left root.left_wire
      unfolding IsWireBelow IsWireLength
      left_wire = (root, whole_balance root pair, inl (refl, refl))

      right_wire : IsWireBelow i (top ∷ []) c.right root.right_wire
      unfolding IsWireBelow IsWireLength
      right_wire = (root, whole_balance root pair, inr (refl, refl))

      own_node : IsBalancedBelow i (occurrence [] top) cut.node
      unfolding IsWireBelow label
      own_node = record { kind = refl; place = refl; route = refl; wire = tt }

      balanced_stretch : (d : TreeNode) → IsBalancedStretch i part.first all
          (set front (length front - 1) (with_wire (get_or front (length front - 1) d) root.left_wire)
          ++ set back (length back - 1) (with_wire (get_or back (length back - 1) d) root.right_wire)
          ++ cut.node ∷ [])
      balanced_stretch d =
          let now : List TreeNode =
          set front (length front - 1) (with_wire (get_or front (length front - 1) d) root.left_wire)
          ++ set back (length back - 1) (with_wire (get_or back (length back - 1) d) root.right_wire)
          ++ cut.node ∷ [] in
          subst (λ os. AllZip (IsBalancedBelow i) os now) (sym (occurrences_are c))
          (all_zip-append (IsBalancedBelow i) _ (occurrence [] top ∷ []) _ (cut.node ∷ [])
          (all_zip-append (IsBalancedBelow i) _ _ _ _
          (part_in_greater i c.left (top ∷ []) root.left_wire front d left_wire left_below)
          (part_in_greater i c.right (top ∷ []) root.right_wire back d right_wire right_below))
          (own_node, tt))

    part_told : (params : Params) → params ≡ i.params → IsValid i → (wired_front wired_back : List TreeNode) (root : NodeBalance)
        → AreWired params buffer front back a b wired_front wired_back root
        → IsBalancedPart i part.first all (wired_front ++ wired_back ++ own) root
    part_told params same valid wired_front wired_back root wired =
        let is : AreWired i.params buffer front back a b wired_front wired_back root =
        subst (λ x. AreWired x buffer front back a b wired_front wired_back root) same wired in
        let pair : IsPairBalance i.params buffer a la b lb root =
        subst (λ x. IsPairBalance i.params buffer a x b lb root) (route_below i c.left front left_below)
        (subst (λ x. IsPairBalance i.params buffer a (last_route front) b x root) (route_below i c.right back right_below) is.pair) in
        let now : wired_front ++ wired_back ++ own
        ≡ set front (length front - 1) (with_wire (get_or front (length front - 1) cut.node) root.left_wire)
        ++ set back (length back - 1) (with_wire (get_or back (length back - 1) cut.node) root.right_wire)
        ++ cut.node ∷ [] =
        ap₂ (λ f b. f ++ b) (ap₂ (λ f b. f ++ b) (is.front_wired cut.node) (is.back_wired cut.node)) cut.own_is in
        let balanced : IsStretchBalance i part.first all root =
        tell c (λ t. IsBalance i.params i.sinks t root) (whole_balance root pair) in
        record {
          balanced = balanced;
          in_range = root_in_range (children_from part.first) i all cut.whole.post_order root balanced valid cut.whole.fits;
          wired = subst (IsBalancedStretch i part.first all) (sym now) (balanced_stretch root pair cut.node);
        }

    pub joined : (params : Params) → params ≡ i.params → IsValid i → (wired_front wired_back : List TreeNode)
        → (end : Result NodeBalance BalanceEnd) → IfOk end (AreWired params buffer front back a b wired_front wired_back)
        → IfErr end (IsRootOver params buffer front back a b (part.first + length front + length back))
        → IsBalancedBy work part all (wired_front ++ wired_back ++ own) end
    joined params same valid wired_front wired_back end made over = record {
      balanced = IfOk-weaker end _ _ (part_told params same valid wired_front wired_back) made;
      ends = IfErr-weaker end _ _ (root_told params same) over;
    }
