-- The report of a sound tree with few corners has the verdict Yes.
use Rattle.std.proofs.Common.{◌≡◌, ℕ, ◌+◌, ◌-◌, ◌*◌, ◌^◌, ◌≤◌, inl, inr, List, [], ◌∷◌, ◌++◌, map, length, slice_get, Option, Some, None, refl, sym, ap₂, subst, ◌∙◌, arith}
use Rattle.std.specs.Prelude.{ℤ, pos, ◌*ℤ◌, ◌≤ℤ◌, unsigned_abs, sum_by, IsSomeAnd}
use Rattle.std.specs.List.{All}
use Rattle.std.proofs.lemmas.Int.{ints}
use Rattle.std.proofs.lemmas.List.{length-map}
use Rattle.std.proofs.lemmas.List.Elements.{All-cons, All-nil, All-head, All-tail, All-append, All-weaker}
use Rattle.std.proofs.lemmas.List.Sums.{sum_by-cons}
use Rattle.std.proofs.lemmas.Option.{slice_get_within, get_or_from_slice_get}
use Rattle.cts_list.proofs.AllOf.{all_front, all_back}
use Rattle.cts_geom.specs.declared.points.Half.{Half}
use Rattle.cts_geom.specs.declared.points.Spot.{Spot}
use Rattle.cts_geom.specs.Points.{point_of}
use Rattle.cts_block.specs.FreePoints.{IsHalfInDie}
use Rattle.cts_units.specs.declared.params.Sink.{Sink}
use Rattle.cts_units.specs.Limits.{max_length, max_load, max_delay}
use Rattle.cts_postorder.specs.BinaryTree.{BinaryTree, tip, fork, label, labels, subtrees}
use Rattle.cts_postorder.specs.PostOrder.{IsPostOrder, trees_of, root_of}
use Rattle.cts_postorder.specs.Occurrence.{Occurrence, occurrences}
use Rattle.cts_postorder.proofs.Lists.{Whole, whole_of}
use Rattle.cts_postorder.proofs.Sizes.{map-here-occurrences}
use Rattle.cts_tree.specs.declared.nodes.NodeKind.{NodeKind}
use Rattle.cts_tree.specs.declared.nodes.NodeKind.TheVariants.{Leaf, Pair}
use Rattle.cts_tree.specs.declared.nodes.TreeNode.{TreeNode}
use Rattle.cts_tree.specs.Nodes.{tree_children, children_of}
use Rattle.cts_instance.specs.declared.parts.Parts.{Parts}
use Rattle.cts_instance.specs.declared.version.Version.{Version}
use Rattle.cts_instance.specs.declared.version.Version.TheVariants.{One, Two}
use Rattle.cts_instance.specs.Validity.{IsSink, IsValid}
use Rattle.cts_elmore.specs.declared.figures.NodeFigure.{NodeFigure}
use Rattle.cts_elmore.specs.declared.figures.Figures.{Figures}
use Rattle.cts_elmore.specs.Figures.{IsNodeFigure, AreFiguresOf, AreFigures, IsFigureInRange, AreFiguresInRange}
use Rattle.cts_elmore.specs.Fits.{FitsInstance, NamesSink, NamesBuffer}
use Rattle.cts_elmore.specs.Limits.{IsPairOver, IsRootOver, IsOver, long_left, long_right, great_load, long_root, great_source_load}
use Rattle.cts_elmore.specs.Loads.{load_below, source_load}
use Rattle.cts_elmore.specs.Measurement.{HasFigures}
use Rattle.cts_elmore.specs.Sound.{IsSound, StandsInDie}
use Rattle.cts_elmore.proofs.InDie.{sound_in_die}
use Rattle.cts_elmore.proofs.InRange.{all_partners, figures_in_range}
use Rattle.cts_elmore.proofs.Rising.{not_above, sink_load_le}
use Rattle.cts_report.specs.Report.{printed_point, printed_kind, printed_arrival, printed_arrivals, printed_node, printed_nodes, printed_report, report_text}
use Rattle.cts_report_reader.specs.Bounds.{IsPrintedCoordinate, IsPrintedPoint, IsPrintedPlace, IsPrintedKind, IsArrival, AreArrivals, IsPrintedNode, IsReport, children_of_kind, printed_children}
use Rattle.cts_report_reader.specs.Forms.{form_of, tells_arrival}
use Rattle.cts_check.specs.Laws.{SoundReportsAreAccepted}
use Rattle.cts_check.specs.Verdict.{IsRight}
use Rattle.cts_check.proofs.Retold.{length-printed}
use Rattle.cts_check.proofs.BareTrees.{all_before_map}

-- wires of a tree of which no pair is over the limits
short_wires : (i : Parts) (t : BinaryTree TreeNode) → All (λ u. ¬ IsPairOver i u) (subtrees t) → (label t).wire ≤ max_length
    → All (λ (n : TreeNode). n.wire ≤ max_length) (labels t)
unfolding subtrees labels label
short_wires i (tip n) h here = All-cons (λ (m : TreeNode). m.wire ≤ max_length) n [] here (All-nil (λ (m : TreeNode). m.wire ≤ max_length))
short_wires i (fork l r n) h here =
    let front : All (λ u. ¬ IsPairOver i u) (subtrees l ++ subtrees r) = all_front (λ u. ¬ IsPairOver i u) (subtrees l ++ subtrees r) (fork l r n ∷ []) h in
    let own : ¬ IsPairOver i (fork l r n) =
    All-head (λ u. ¬ IsPairOver i u) (fork l r n) [] (all_back (λ u. ¬ IsPairOver i u) (subtrees l ++ subtrees r) (fork l r n ∷ []) h) in
    All-append (λ (m : TreeNode). m.wire ≤ max_length) (labels l ++ labels r) (n ∷ [])
    (All-append (λ (m : TreeNode). m.wire ≤ max_length) (labels l) (labels r)
    (short_wires i l (all_front (λ u. ¬ IsPairOver i u) (subtrees l) (subtrees r) front) (not_above (label l).wire max_length (λ long. own (long_left long))))
    (short_wires i r (all_back (λ u. ¬ IsPairOver i u) (subtrees l) (subtrees r) front) (not_above (label r).wire max_length (λ long. own (long_right long)))))
    (All-cons (λ (m : TreeNode). m.wire ≤ max_length) n [] here (All-nil (λ (m : TreeNode). m.wire ≤ max_length)))

-- loads of such a tree
small_load : (i : Parts) → IsValid i → (t : BinaryTree TreeNode) → ¬ IsPairOver i t → load_below i t ≤ max_load
unfolding load_below
small_load i valid (tip n) fine = omega (arith, sink_load_le i valid n)
small_load i valid (fork l r n) fine = not_above (load_below i (fork l r n)) max_load (λ more. fine (great_load more))

sum_most : (ns : List TreeNode) → All (λ (n : TreeNode). n.wire ≤ max_length) ns
    → sum_by (λ (n : TreeNode). n.wire) ns ≤ length ns * 2 ^ 31
sum_most [] h = omega arith
sum_most (n ∷ ns) h =
    omega (
      arith,
      sum_by-cons (λ (m : TreeNode). m.wire) n ns,
      All-head (λ (m : TreeNode). m.wire ≤ max_length) n ns h,
      sum_most ns (All-tail (λ (m : TreeNode). m.wire ≤ max_length) n ns h),
    )

-- arrivals of such a tree, where a report of this version tells them
arrival_fits : (version : Version) (k : NodeKind) (residue arrival : ℕ) → arrival ≤ max_delay
    → IsArrival (tells_arrival version (printed_kind k residue)) (printed_arrival version k arrival)
arrival_fits One (Leaf id s) residue arrival within = tt
arrival_fits One (Pair left right buffer) residue arrival within = tt
arrival_fits Two (Leaf id s) residue arrival within = omega (arith, within)
arrival_fits Two (Pair left right buffer) residue arrival within = tt

arrivals_fit : (version : Version) (greatest least : ℕ) → greatest ≤ max_delay → least ≤ max_delay
    → AreArrivals version (printed_arrivals version greatest least)
arrivals_fit One greatest least greatest_within least_within = tt
arrivals_fit Two greatest least greatest_within least_within = (omega (arith, greatest_within), omega (arith, least_within))

module _ (i : Parts) (valid : IsValid i) where
  coordinate : (low high z : ℤ) → pos 0 ≤ℤ low → high ≤ℤ pos (10 ^ 8) → (pos 2 *ℤ low) ≤ℤ z → z ≤ℤ (pos 2 *ℤ high)
      → IsPrintedCoordinate (5 * unsigned_abs z)
  coordinate low high z zero_low high_most at_least at_most_z = record {
    inside = grind (arith, ints, zero_low, high_most, at_least, at_most_z);
    half = omega arith;
  }

  point : (p : Half) → IsHalfInDie i.die p → IsPrintedPoint (printed_point p)
  point p h = record {
    x = coordinate i.die.x1 i.die.x2 p.x valid.die.x_low valid.die.x_high h.x.at_least h.x.at_most;
    y = coordinate i.die.y1 i.die.y2 p.y valid.die.y_low valid.die.y_high h.y.at_least h.y.at_most;
  }

  place : (s : Spot) → IsHalfInDie i.die (point_of s) → IsPrintedPlace (printed_point (point_of s))
  place s h = record {
    point = point (point_of s) h;
    even = grind (arith, ints, valid.die.x_low, valid.die.y_low, h.x.at_least, h.y.at_least);
  }

  corners : (ps : List Half) → All (IsHalfInDie i.die) ps → All IsPrintedPoint (map printed_point ps)
  corners [] h = All-nil IsPrintedPoint
  corners (p ∷ ps) h =
      All-cons IsPrintedPoint (printed_point p) (map printed_point ps) (point p (All-head (IsHalfInDie i.die) p ps h))
      (corners ps (All-tail (IsHalfInDie i.die) p ps h))

  kind : (k : NodeKind) (residue : ℕ) → NamesSink i.sinks k → NamesBuffer i.params.library k → residue ≤ max_delay
      → IsPrintedKind (length i.params.library) (printed_kind k residue)
  kind (Leaf id s) residue names buffer small = by (slice_get i.sinks s) refl names
    where
      by : (o : Option Sink) → slice_get i.sinks s ≡ o → IsSomeAnd o (λ (named : Sink). named.id ≡ id) → id ≤ 999999999
      by None e named = absurd named
      by (Some q) e named =
          let at : IsSink i.version i.die q = subst (IsSink i.version i.die) (get_or_from_slice_get i.sinks s q q e) (valid.sinks s q (slice_get_within i.sinks s q e)) in
          omega (arith, at.id, named)
  kind (Pair left right None) residue names buffer small = (tt, omega (arith, small))
  kind (Pair left right (Some index)) residue names buffer small = (buffer, omega (arith, small))

  node : (n : TreeNode) (f : NodeFigure) → NamesSink i.sinks n.kind → NamesBuffer i.params.library n.kind → StandsInDie i.die n
      → length n.route.corners ≤ 65536 → n.wire ≤ max_length → f.below ≤ max_load → IsFigureInRange f
      → IsPrintedNode (form_of i) (printed_node i.version n f)
  node n f names buffer stands few wire below range = record {
    kind = kind n.kind f.residue names buffer range.residue_within;
    place = place n.place stands.place;
    load = omega (arith, below);
    delay = omega (arith, range.delay_within);
    arrival = arrival_fits i.version n.kind f.residue (f.delay + 2 * f.offset) range.arrival_within;
    slew = omega (arith, range.stage_within);
    wire = omega (arith, wire);
    few = omega (arith, length-map n.route.corners printed_point, few);
    corners = corners n.route.corners stands.corners;
  }

  nodes : (ns : List TreeNode) (fs : List NodeFigure) → All (λ (n : TreeNode). NamesSink i.sinks n.kind) ns
      → All (λ (n : TreeNode). NamesBuffer i.params.library n.kind) ns → All (StandsInDie i.die) ns
      → All (λ (n : TreeNode). length n.route.corners ≤ 65536) ns → All (λ (n : TreeNode). n.wire ≤ max_length) ns
      → All (λ (f : NodeFigure). f.below ≤ max_load) fs → All IsFigureInRange fs
      → All (IsPrintedNode (form_of i)) (printed_nodes i.version ns fs)
  unfolding printed_nodes
  nodes [] fs names buffers stands few wires below range = All-nil (IsPrintedNode (form_of i))
  nodes (n ∷ ns) [] names buffers stands few wires below range = All-nil (IsPrintedNode (form_of i))
  nodes (n ∷ ns) (f ∷ fs) names buffers stands few wires below range =
      All-cons (IsPrintedNode (form_of i)) (printed_node i.version n f) (printed_nodes i.version ns fs)
      (node n f (All-head (λ (m : TreeNode). NamesSink i.sinks m.kind) n ns names) (All-head (λ (m : TreeNode). NamesBuffer i.params.library m.kind) n ns buffers)
      (All-head (StandsInDie i.die) n ns stands) (All-head (λ (m : TreeNode). length m.route.corners ≤ 65536) n ns few)
      (All-head (λ (m : TreeNode). m.wire ≤ max_length) n ns wires) (All-head (λ (g : NodeFigure). g.below ≤ max_load) f fs below)
      (All-head IsFigureInRange f fs range))
      (nodes ns fs (All-tail (λ (m : TreeNode). NamesSink i.sinks m.kind) n ns names) (All-tail (λ (m : TreeNode). NamesBuffer i.params.library m.kind) n ns buffers)
      (All-tail (StandsInDie i.die) n ns stands) (All-tail (λ (m : TreeNode). length m.route.corners ≤ 65536) n ns few)
      (All-tail (λ (m : TreeNode). m.wire ≤ max_length) n ns wires) (All-tail (λ (g : NodeFigure). g.below ≤ max_load) f fs below)
      (All-tail IsFigureInRange f fs range))

  kids_printed : (ns : List TreeNode) (fs : List NodeFigure) → length fs ≡ length ns
      → map printed_children (printed_nodes i.version ns fs) ≡ map tree_children ns
  unfolding printed_nodes
  kids_printed [] fs long = refl
  kids_printed (n ∷ ns) [] long = absurd (omega (arith, long))
  kids_printed (n ∷ ns) (f ∷ fs) long = ap₂ (λ c cs. c ∷ cs) (of_kind n.kind f.residue) (kids_printed ns fs (omega (arith, long)))
    where
      of_kind : (k : NodeKind) (residue : ℕ) → children_of_kind (printed_kind k residue) ≡ children_of k
      of_kind (Leaf id s) residue = refl
      of_kind (Pair left right buffer) residue = refl

  here_loads : (os : List (Occurrence TreeNode)) → All (λ t. load_below i t ≤ max_load) (map (λ (o : Occurrence TreeNode). o.here) os)
      → All (λ (o : Occurrence TreeNode). load_below i o.here ≤ max_load) os
  here_loads os h = all_before_map (λ t. load_below i t ≤ max_load) (λ (o : Occurrence TreeNode). o.here) os h

  -- the report of a sound tree with few corners
  sound_accepted : (tree : List TreeNode) → IsPostOrder (map tree_children tree) → FitsInstance i tree → IsSound i tree
      → All (λ (n : TreeNode). length n.route.corners ≤ 65536) tree → (figures : Figures) → AreFigures i tree figures
      → IsRight i (report_text i.version tree figures)
  unfolding root_of
  sound_accepted tree ok fits sound few figures are =
      let has : HasFigures i tree figures = figures_in_range i tree figures ok fits.few sound.within are in
      let range : AreFiguresInRange figures = has.in_range in
      let stands : All (StandsInDie i.die) tree = sound_in_die i tree valid ok sound in
      let w : Whole tree_children tree = whole_of tree_children tree ok in
      let long : length figures.nodes ≡ length tree = has.one_each in
      let same : are.root ≡ w.tree = some_same (sym are.root_is ∙ w.root_is) in
      let of_tree : AreFiguresOf i w.tree figures = subst (λ t. AreFiguresOf i t figures) same are.figures_of in
      let pairs : All (λ t. ¬ IsPairOver i t) (subtrees w.tree) =
      subst (All (λ t. ¬ IsPairOver i t)) w.trees_are
      (All-weaker (λ t. ¬ IsOver i tree t) (λ t. ¬ IsPairOver i t) (λ t fine over. fine (inl over)) (trees_of tree_children tree) sound.within) in
      let root_fine : ¬ IsRootOver i w.tree = λ over.
      sound.within (length tree - 1) w.tree (slice_get_within (trees_of tree_children tree) (length tree - 1) w.tree w.root_is)
      (subst (IsOver i tree) (sym (get_or_from_slice_get (trees_of tree_children tree) (length tree - 1) w.tree w.tree w.root_is)) (inr (w.root_is, over))) in
      let wires : All (λ (n : TreeNode). n.wire ≤ max_length) tree =
      subst (All (λ (n : TreeNode). n.wire ≤ max_length)) w.labels_are
      (short_wires i w.tree pairs (not_above (label w.tree).wire max_length (λ more. root_fine (long_root more)))) in
      let loads : All (λ (f : NodeFigure). f.below ≤ max_load) figures.nodes =
      all_partners (λ (o : Occurrence TreeNode). load_below i o.here ≤ max_load) (IsNodeFigure i w.tree)
      (λ (f : NodeFigure). f.below ≤ max_load) (λ o f small is. omega (arith, is.below, small)) (occurrences [] w.tree) figures.nodes
      (here_loads (occurrences [] w.tree) (subst (All (λ t. load_below i t ≤ max_load)) (sym (map-here-occurrences [] w.tree))
      (All-weaker (λ t. ¬ IsPairOver i t) (λ t. load_below i t ≤ max_load) (λ t fine. small_load i valid t fine) (subtrees w.tree) pairs)))
      of_tree.each_node in
      let source : source_load i w.tree ≤ max_load = not_above (source_load i w.tree) max_load (λ more. root_fine (great_source_load more)) in
      let total : sum_by (λ (n : TreeNode). n.wire) (labels w.tree) ≤ length tree * 2 ^ 31 =
      subst (λ (ns : List TreeNode). sum_by (λ (n : TreeNode). n.wire) ns ≤ length tree * 2 ^ 31) (sym w.labels_are) (sum_most tree wires) in
      let report : IsReport (form_of i) (printed_report i.version tree figures) = record {
        post_order = subst IsPostOrder (sym (kids_printed tree figures.nodes long)) ok;
        few = omega (arith, length-printed i.version tree figures.nodes long, fits.few);
        each = nodes tree figures.nodes fits.sinks fits.buffers stands few wires loads range.each_in_range;
        totals = record {
          source_load = omega (arith, of_tree.source_load_is, source);
          wire_total = omega (arith, of_tree.wire_total, total, fits.few);
          greatest = omega (arith, range.greatest_within);
          least = omega (arith, range.least_within);
          arrivals = arrivals_fit i.version figures.arrival_greatest figures.arrival_least range.arrival_greatest_within range.arrival_least_within;
          skew = omega (arith, range.skew_within);
          bound = omega (arith, range.bound_within);
        };
      } in
      record {
        tree = tree;
        post_order = ok;
        fits = fits;
        sound = sound;
        figures = figures;
        are_figures = are;
        spells = record { fits = report; text = refl };
      }
    where
      some_same : {A : Type 0} {x y : A} → Some x ≡ Some y → x ≡ y
      some_same e = cc

pub accepted : SoundReportsAreAccepted
accepted i tree figures valid ok fits sound few are = sound_accepted i valid tree ok fits sound few figures are
