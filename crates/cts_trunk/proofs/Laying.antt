-- The trunk that is put together is the one of the extended tree.
use Rattle.std.proofs.Common.{◌≡◌, ℕ, ◌+◌, ◌-◌, ◌*◌, ◌<◌, ◌≤◌, ◌↔◌, inr, List, [], map, take, length, get_or, Some, sym, ap, subst, ◌∙◌, arith}
use Rattle.std.specs.Prelude.{IfSome}
use Rattle.std.specs.List.{All, AllZip, range_with_len}
use Rattle.std.proofs.lemmas.List.{length-map, get_or-take, length-take-le, get_or_default}
use Rattle.std.proofs.lemmas.List.FromFn.{length-range_with_len, get_or-range_with_len}
use Rattle.std.proofs.lemmas.Option.{get_or_from_slice_get}
use Rattle.cts_units.specs.declared.params.Buffer.{Buffer}
use Rattle.cts_units.specs.Delay.{slew_of}
use Rattle.cts_units.specs.Limits.{max_delay, max_length, max_load}
use Rattle.cts_postorder.specs.BinaryTree.{BinaryTree, label, labels, root_number, IsNumbered}
use Rattle.cts_postorder.specs.PostOrder.{IsPostOrder, root_of, trees_of}
use Rattle.cts_postorder.specs.Occurrence.{Occurrence, occurrence, occurrences}
use Rattle.cts_postorder.proofs.Growth.{length-trees_of, label-tree}
use Rattle.cts_postorder.proofs.Lists.{Whole, whole_of, length_pos}
use Rattle.cts_postorder.proofs.Places.{get_or-occurrences-root}
use Rattle.cts_postorder.proofs.Sizes.{length-occurrences, root_number-next}
use Rattle.cts_postorder.proofs.Zips.{all_zip-at, all_zip-from}
use Rattle.cts_tree.specs.declared.nodes.TreeNode.{TreeNode}
use Rattle.cts_tree.specs.Nodes.{tree_children}
use Rattle.cts_instance.specs.declared.parts.Parts.{Parts}
use Rattle.cts_elmore.specs.declared.figures.NodeFigure.{NodeFigure}
use Rattle.cts_elmore.specs.declared.figures.Figures.{Figures}
use Rattle.cts_elmore.specs.Fits.{FitsInstance}
use Rattle.cts_elmore.specs.Loads.{load_seen, source_load}
use Rattle.cts_elmore.specs.Delays.{source_delay, wire_delay}
use Rattle.cts_elmore.specs.Figures.{IsNodeFigure, AreFiguresOf}
use Rattle.cts_elmore.specs.Limits.{IsRootOver, long_root, great_source_load}
use Rattle.cts_elmore.specs.Measurement.{HasFigures}
use Rattle.cts_elmore.specs.Sound.{IsSound, HasLegalWire}
use Rattle.cts_elmore.proofs.Below.{greatest_delay, least_delay, greatest_arrival}
use Rattle.cts_elmore.proofs.Paths.{delay_at_root}
use Rattle.cts_elmore.proofs.Rising.{not_above}
use Rattle.cts_trunk.specs.declared.places.Stand.{Stand}
use Rattle.cts_trunk.specs.declared.sums.Reach.{Reach}
use Rattle.cts_trunk.specs.declared.trunk.Repeater.{Repeater}
use Rattle.cts_trunk.specs.declared.trunk.Trunk.{Trunk}
use Rattle.cts_trunk.specs.Assembled.{AreRepeaters, IsTrunkWith, repeater_of, nowhere, unreached}
use Rattle.cts_trunk.specs.Extended.{Span, span, driven, trunk_of, delay_on, stage_on, root_delay, root_stage}
use Rattle.cts_trunk.specs.Known.{IsRootKnown}
use Rattle.cts_trunk.specs.Laid.{HasTautTrunk, IsRepeater, IsTrunkAt, IsBeyondLimit}
use Rattle.cts_trunk.specs.Places.{trunk_way}
use Rattle.cts_trunk.specs.Road.{StandsOn}
use Rattle.cts_trunk.specs.TrunkSums.{AreReaches, cuts_of}
use Rattle.cts_trunk.proofs.LimitsMet.{loads_told, slews_told}
use Rattle.cts_trunk.proofs.Reaches.{cut_at}
use Rattle.cts_trunk.proofs.Shifts.{greatest_in, least_in, skew_same}
use Rattle.cts_trunk.proofs.Spans.{length-spans}

module _ (i : Parts) (nodes : List TreeNode) (ok : IsPostOrder (map tree_children nodes)) (sound : IsSound i nodes) (figures : Figures)
    (has : HasFigures i nodes figures) (fits : FitsInstance i nodes) (taut : IfSome (root_of tree_children nodes) (λ t. HasTautTrunk i (label t))) where
  w : Whole tree_children nodes
  w = whole_of tree_children nodes ok

  same_root : has.are_figures.root ≡ w.tree
  same_root = let both : Some has.are_figures.root ≡ Some w.tree = sym has.are_figures.root_is ∙ w.root_is in cc

  figures_at_root : AreFiguresOf i w.tree figures
  figures_at_root = subst (λ t. AreFiguresOf i t figures) same_root has.are_figures.figures_of

  some_nodes : 0 < length nodes
  some_nodes = length_pos tree_children nodes ok

  last : (d : Occurrence TreeNode) → get_or (occurrences [] w.tree) (length nodes - 1) d ≡ occurrence [] w.tree
  last d =
      let number : length nodes - 1 ≡ root_number 0 w.tree = omega (arith, root_number-next 0 w.tree, w.size_is) in
      ap (λ k. get_or (occurrences [] w.tree) k d) number ∙ get_or-occurrences-root [] w.tree d

  last_inside : length nodes - 1 < length (occurrences [] w.tree)
  last_inside = omega (arith, some_nodes, length-occurrences [] w.tree, w.size_is)

  wires_legal : All (HasLegalWire i) (occurrences [] w.tree)
  wires_legal = subst (All (HasLegalWire i)) w.occurrences_are sound.wires

  root_legal : HasLegalWire i (occurrence [] w.tree)
  root_legal =
      subst (HasLegalWire i) (last (occurrence [] w.tree)) (wires_legal (length nodes - 1) (occurrence [] w.tree) last_inside)

  tree_last : get_or (trees_of tree_children nodes) (length nodes - 1) w.tree ≡ w.tree
  unfolding root_of
  tree_last = get_or_from_slice_get (trees_of tree_children nodes) (length nodes - 1) w.tree w.tree w.root_is

  not_over : ¬ IsRootOver i w.tree
  not_over over =
      let here : get_or (trees_of tree_children nodes) (length nodes - 1) w.tree ≡ w.tree = tree_last in
      let clear = sound.within (length nodes - 1) w.tree (omega (arith, some_nodes, length-trees_of tree_children nodes)) in
      clear (inr (w.root_is ∙ ap Some (sym here), subst (IsRootOver i) (sym here) over))

  root_old : (f : NodeFigure) → (get_or figures.nodes (length nodes - 1) f).delay ≡ source_delay i w.tree + wire_delay i w.tree
  root_old f =
      let here : IsNodeFigure i w.tree (get_or (occurrences [] w.tree) (length nodes - 1) (occurrence [] w.tree)) (get_or figures.nodes (length nodes - 1) f) =
      all_zip-at (IsNodeFigure i w.tree) (occurrences [] w.tree) figures.nodes (length nodes - 1) (occurrence [] w.tree) f
      figures_at_root.each_node last_inside in
      let there : IsNodeFigure i w.tree (occurrence [] w.tree) (get_or figures.nodes (length nodes - 1) f) =
      subst (λ o. IsNodeFigure i w.tree o (get_or figures.nodes (length nodes - 1) f)) (last (occurrence [] w.tree)) here in
      there.delay ∙ delay_at_root i w.tree

  pub root_known : IsRootKnown i nodes figures
  root_known = record {
    root = w.tree;
    root_is = w.root_is;
    numbered = w.numbered;
    labels_are = w.labels_are;
    fits = fits;
    figures_of = figures_at_root;
    one_each = has.one_each;
    taut = subst (λ o. IfSome o (λ t. HasTautTrunk i (label t))) w.root_is taut;
    node = λ e.
        ap label (sym tree_last) ∙ label-tree tree_children nodes (length nodes - 1) w.tree e (omega (arith, some_nodes));
    some = some_nodes;
    legal = root_legal.route;
    short = not_above (label w.tree).wire max_length (λ above. not_over (long_root above));
    light = omega (arith, figures_at_root.source_load_is, not_above (source_load i w.tree) max_load (λ above. not_over (great_source_load above)));
    old = root_old;
    before = record {
      greatest = omega (arith, figures_at_root.greatest, greatest_delay i w.tree);
      least = omega (arith, figures_at_root.least, least_delay i w.tree);
      arrival = omega (arith, figures_at_root.arrival_greatest, greatest_arrival i w.tree);
    };
  }

module _ (i : Parts) (root : BinaryTree TreeNode) (buffer : Buffer) (places : List Stand) (reaches : List Reach) where
  abbrev cuts : List ℕ
  cuts = cuts_of places

  abbrev wires : List Span
  wires = trunk_of i root buffer cuts

  count : length cuts ≡ length places
  count = length-map places (λ (s : Stand). s.length)

  module _ (are : AreReaches i buffer wires (length places + 1) reaches) where
    repeater_is : (on : All (StandsOn (trunk_way i (label root))) places) → (k : ℕ) → k < length places
        → IsRepeater i root buffer cuts k
        (repeater_of (get_or places k nowhere) (get_or reaches k unreached) (get_or reaches (k + 1) unreached))
    repeater_is on k h = record {
      length_is = sym (cut_at places k nowhere h);
      place = on k nowhere h;
      load = (are.each_wire (k + 1) unreached (omega (arith, h))).load;
      delay = (are.each_wire k unreached (omega (arith, h))).delay;
      stage = (are.each_wire k unreached (omega (arith, h))).stage;
    }

    repeaters_are : All (StandsOn (trunk_way i (label root))) places → (repeaters : List Repeater)
        → AreRepeaters places reaches repeaters
        → AllZip (IsRepeater i root buffer cuts) (range_with_len 0 (length cuts)) repeaters
    repeaters_are on repeaters of =
        all_zip-from (IsRepeater i root buffer cuts) (range_with_len 0 (length cuts)) repeaters
        (length-range_with_len 0 (length cuts) ∙ count ∙ sym of.long)
        (λ k d e h.
        let below : k < length cuts = omega (arith, h, length-range_with_len 0 (length cuts)) in
        let within : k < length places = omega (arith, below, count) in
        let number : get_or (range_with_len 0 (length cuts)) k d ≡ k = get_or-range_with_len 0 (length cuts) k d below ∙ omega arith in
        subst (λ m. IsRepeater i root buffer cuts m (get_or repeaters k e)) (sym number)
        (subst (IsRepeater i root buffer cuts k) (sym (of.each_stand k e within)) (repeater_is on k within)))

    long : length wires ≡ length places + 1
    long =
        length-spans buffer.cin (load_seen i root) 0 cuts (label root).wire ∙ ap (λ n. n + 1) count

    -- the loads on the trunk are those of its wires
    trunk_loads : (limit : ℕ) → All (λ (r : Reach). r.load ≤ limit) reaches ↔ All (λ (s : Span). driven i s ≤ limit) wires
    trunk_loads limit = (
      (λ all k d h.
          let within : k < length places + 1 = omega (arith, h, long) in
          let load : (get_or reaches k unreached).load ≡ driven i (get_or wires k (span 0 0)) = (are.each_wire k unreached within).load in
          let same : driven i (get_or wires k (span 0 0)) ≡ driven i (get_or wires k d) = ap (driven i) (get_or_default wires k (span 0 0) d h) in
          omega (arith, load, same, all k unreached (omega (arith, within, are.long)))),
      (λ all k d h.
          let within : k < length places + 1 = omega (arith, h, are.long) in
          omega (arith, (are.each_wire k d within).load, all k (span 0 0) (omega (arith, within, long)))),
    )

    -- and so are the slews at the repeaters
    trunk_slews : (limit : ℕ) → All (λ (r : Reach). slew_of r.stage ≤ 10 * limit) (take (length places) reaches)
        ↔ ((m : ℕ) → m < length cuts → slew_of (stage_on i buffer wires m) ≤ 10 * limit)
    trunk_slews limit = (
      (λ all m h.
          let within : m < length places = omega (arith, h, count) in
          let front : length (take (length places) reaches) ≡ length places = length-take-le (length places) reaches (omega (arith, are.long)) in
          let same : (get_or (take (length places) reaches) m unreached).stage ≡ (get_or reaches m unreached).stage =
          ap (λ (r : Reach). r.stage) (get_or-take (length places) reaches m unreached within) in
          omega (
            arith,
            all m unreached (omega (arith, within, front)),
            same,
            (are.each_wire m unreached (omega (arith, within))).stage,
          )),
      (λ all k d h.
          let front : length (take (length places) reaches) ≡ length places = length-take-le (length places) reaches (omega (arith, are.long)) in
          let within : k < length places = omega (arith, h, front) in
          let same : (get_or (take (length places) reaches) k d).stage ≡ (get_or reaches k d).stage =
          ap (λ (r : Reach). r.stage) (get_or-take (length places) reaches k d within) in
          omega (arith, all k (omega (arith, within, count)), same, (are.each_wire k d (omega (arith, within))).stage)),
    )

    root_delay_is : (get_or reaches (length places) unreached).delay ≡ root_delay i root buffer cuts
    root_delay_is =
        (are.each_wire (length places) unreached (omega arith)).delay ∙ ap (delay_on i buffer wires) (sym count)

    root_stage_is : (get_or reaches (length places) unreached).stage ≡ root_stage i root buffer cuts
    root_stage_is =
        (are.each_wire (length places) unreached (omega arith)).stage ∙ ap (stage_on i buffer wires) (sym count)

    module _ (nodes : List TreeNode) (figures : Figures) (fits : FitsInstance i nodes)
        (numbered : IsNumbered tree_children 0 root)
        (labels_are : labels root ≡ nodes) (of : AreFiguresOf i root figures) (old : ℕ)
        (old_is : old ≡ source_delay i root + wire_delay i root) where
      -- over the limit exactly where the extended tree is
      pub beyond_is : max_delay < (get_or reaches (length places) unreached).delay + (figures.arrival_greatest - old)
          → IsBeyondLimit i root buffer cuts
      beyond_is over = omega (arith, over, root_delay_is, of.arrival_greatest, greatest_arrival i root, old_is)

      pub within_is : (get_or reaches (length places) unreached).delay + (figures.arrival_greatest - old) ≤ max_delay
          → ¬ IsBeyondLimit i root buffer cuts
      within_is within over = omega (arith, over, within, root_delay_is, of.arrival_greatest, greatest_arrival i root, old_is)

      pub trunk_at : All (StandsOn (trunk_way i (label root))) places
          → (source_delay i root + wire_delay i root ≡ 0 → root_stage i root buffer cuts ≡ 0) → (trunk : Trunk)
          → IsTrunkWith i nodes figures places reaches old trunk → IsTrunkAt i root buffer cuts trunk
      trunk_at on none trunk is =
          let loads = trunk_loads i.load_limit in
          let slews = trunk_slews i.slew_limit in
          let in_tree = loads_told i root nodes figures.nodes numbered labels_are fits of.each_node i.load_limit in
          let slews_in_tree =
          slews_told i root nodes figures.nodes numbered labels_are fits of.each_node buffer cuts old
          (get_or reaches (length places) unreached).stage old_is root_stage_is none i.slew_limit in
          record {
            repeaters = repeaters_are on trunk.repeaters is.repeaters;
            source_load = is.values.source_load ∙ (are.each_wire 0 unreached (omega arith)).load;
            root_delay_is = is.values.root_delay ∙ root_delay_is;
            root_stage_is = is.values.root_stage ∙ root_stage_is;
            greatest = omega (arith, is.values.greatest, root_delay_is, of.greatest, greatest_delay i root, greatest_in i root buffer cuts, old_is);
            least = omega (arith, is.values.least, root_delay_is, of.least, least_delay i root, least_in i root buffer cuts, old_is);
            skew_is = is.values.skew_is ∙ of.skew_is ∙ sym (skew_same i root buffer cuts);
            load_met = (
              (λ yes. record { on_trunk = loads.0 ((is.load_met.0 yes).0); in_tree = in_tree.0 ((is.load_met.0 yes).1) }),
              (λ met. is.load_met.1 (loads.1 met.on_trunk, in_tree.1 met.in_tree)),
            );
            slew_met = (
              (λ yes. record { on_trunk = slews.0 ((is.slew_met.0 yes).0); in_tree = slews_in_tree.0 ((is.slew_met.0 yes).1) }),
              (λ met. is.slew_met.1 (slews.1 met.on_trunk, slews_in_tree.1 met.in_tree)),
            );
          }
