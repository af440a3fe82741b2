-- From what the rules say of a report to the verdict on its bytes, and why some bytes have one verdict.
use Rattle.std.proofs.Common.{◌≡◌, ℕ, suc, ◌^◌, ◌<◌, ◌≤◌, inl, inr, ◌⊎◌, List, [], ◌∷◌, map, length, take, get_or, slice_get, Option, Some, None, MatchOption, refl, sym, ap, ap₂, subst, ◌∙◌, arith}
use Rattle.std.specs.Prelude.{IfSome, IsSomeAnd}
use Rattle.std.proofs.lemmas.Bool.{cases_lt}
use Rattle.std.proofs.lemmas.List.{length-map, get_or-map}
use Rattle.std.specs.Option.{option_map_or}
use Rattle.std.proofs.lemmas.Option.{slice_get_past}
use Rattle.cts_units.specs.declared.params.Sink.{Sink}
use Rattle.cts_postorder.specs.PostOrder.{IsPostOrder}
use Rattle.cts_postorder.specs.Occurrence.{occurrences, occurrences_of}
use Rattle.cts_postorder.proofs.Lists.{length-occurrences_of}
use Rattle.cts_tree.specs.declared.nodes.NodeKind.TheVariants.{Pair}
use Rattle.cts_tree.specs.declared.nodes.TreeNode.{TreeNode}
use Rattle.cts_tree.specs.Nodes.{tree_children, leaf_id}
use Rattle.cts_instance.specs.declared.parts.Parts.{Parts}
use Rattle.cts_instance.specs.Validity.{IsValid}
use Rattle.cts_elmore.specs.declared.figures.Figures.{Figures}
use Rattle.cts_elmore.specs.Figures.{IsNodeFigure, AreFigures}
use Rattle.cts_elmore.specs.Fits.{FitsInstance, NamesSink, NamesBuffer}
use Rattle.cts_elmore.specs.Sound.{IsSinkAt}
use Rattle.cts_elmore.proofs.Unique.{figures_one}
use Rattle.cts_report.specs.Lines.{report_lines}
use Rattle.cts_report.specs.Printed.{PrintedKind, sink_leaf, pair_node, PrintedNode, Printed}
use Rattle.cts_report.specs.Report.{printed_nodes, printed_totals, printed_report}
use Rattle.cts_report.proofs.Printable.{sound_nodes_printable}
use Rattle.cts_report_reader.specs.Bounds.{IsPrintedKind, IsPrintedNode, IsReport}
use Rattle.cts_report_reader.specs.Forms.{form_of}
use Rattle.cts_report_reader.specs.Whole.{report_at}
use Rattle.cts_report_reader.proofs.ReportPieces.{report_piece}
use Rattle.cts_report_reader.proofs.Wholes.{pieces_are_unique, first_line_is_one}
use Rattle.cts_check.specs.declared.verdict.Rule.{Rule}
use Rattle.cts_check.specs.declared.verdict.Rule.TheVariants.{Sinks, Route, Short, BufferBlocked, Limit, Figure}
use Rattle.cts_check.specs.declared.verdict.Verdict.{Verdict}
use Rattle.cts_check.specs.declared.verdict.Verdict.TheVariants.{Yes, NotText, Wrong}
use Rattle.cts_check.specs.Told.{told_kind, told_node, told_nodes, place_of_id}
use Rattle.cts_check.specs.Rules.{rank, IsNewSink, MeetsSink, Meets, MeetsFigure, IsFirstBroken}
use Rattle.cts_check.specs.Judgement.{MeetsRules, Judges}
use Rattle.cts_check.specs.Verdict.{Spells, IsRight, IsWrong, IsVerdict}
use Rattle.cts_check.specs.Laws.{VerdictIsOne}
use Rattle.cts_check.proofs.Ids.{place_found_of}
use Rattle.cts_check.proofs.Bare.{bare}
use Rattle.cts_check.proofs.BareTrees.{figures_bare}
use Rattle.cts_check.proofs.BareSound.{sound-bare}
use Rattle.cts_check.proofs.Meeting.{MeetsAll, sound_meets, meets_sound}
use Rattle.cts_check.proofs.Retold.{told_again, printed-bare, length-printed, told_children}
use Rattle.cts_check.proofs.SinkRule.{rule_at}
use Rattle.cts_check.proofs.Ranks.{same_rank}
use Rattle.cts_check.proofs.EndLengths.{zip_length}

pub meets_all : (i : Parts) (printed : Printed) → ((rule : Rule) (k : ℕ) → Meets i printed rule k)
    → MeetsAll i (told_nodes i.sinks printed.nodes)
meets_all i printed meets = record {
  sinks = meets Sinks;
  route = meets Route;
  short = meets Short;
  buffer = meets BufferBlocked;
  limit = meets Limit;
}

-- lists with the same elements at each place
same_elements : {A : Type 0} (Q : Type 0) (xs ys : List A) → length ys ≡ length xs
    → ((k : ℕ) → MatchOption (slice_get xs k) Q (λ x. slice_get ys k ≡ Some x)) → ys ≡ xs
same_elements Q [] [] long each = refl
same_elements Q [] (y ∷ ys) long each = absurd (omega (arith, long))
same_elements Q (x ∷ xs) [] long each = absurd (omega (arith, long))
same_elements Q (x ∷ xs) (y ∷ ys) long each =
    let first : y ≡ x = some_same (each 0) in
    ap₂ (λ z zs. z ∷ zs) first (same_elements Q xs ys (omega (arith, long)) (λ k. each (suc k)))
  where
    some_same : {A : Type 0} {a b : A} → Some a ≡ Some b → a ≡ b
    some_same e = cc

module _ (i : Parts) (valid : IsValid i) where
  -- there is a figure for each node
  pub figure_each : (nodes : List TreeNode) → IsPostOrder (map tree_children nodes) → (figures : Figures) → AreFigures i nodes figures
      → length figures.nodes ≡ length nodes
  unfolding occurrences_of
  figure_each nodes ok figures h =
      zip_length (IsNodeFigure i h.root) (occurrences [] h.root) figures.nodes h.figures_of.each_node
      ∙ ap (λ o. length (option_map_or (occurrences []) o [])) (sym h.root_is) ∙ length-occurrences_of tree_children nodes ok

  module _ (printed : Printed) (report : IsReport (form_of i) printed) where
    abbrev tree : List TreeNode
    tree = told_nodes i.sinks printed.nodes

    pub post_order : IsPostOrder (map tree_children tree)
    post_order = subst IsPostOrder (sym (told_children i.sinks printed.nodes)) report.post_order

    names_sink : (p : PrintedNode) (before : List TreeNode) → MeetsSink i.sinks before (told_node i.sinks p)
        → NamesSink i.sinks (told_kind i.sinks p.kind)
    names_sink p before met = by p.kind (told_node i.sinks p) met
      where
        by : (kind : PrintedKind) (node : TreeNode) → MatchOption (leaf_id (told_kind i.sinks kind)) (Unit {0}) (IsNewSink i.sinks before node)
            → NamesSink i.sinks (told_kind i.sinks kind)
        by (sink_leaf id) node new =
            let at : IsSinkAt i.sinks node id = new.sink_at in
            let found : slice_get i.sinks (place_of_id i.sinks id) ≡ Some at.sink =
            ap (λ x. slice_get i.sinks (place_of_id i.sinks x)) (sym at.id_is) ∙ place_found_of i.sinks valid.ids at.sink at.among in
            subst (λ o. IsSomeAnd o (λ (named : Sink). named.id ≡ id)) (sym found) at.id_is
        by (pair_node left right buffer residue) node new = tt

    names_buffer : (p : PrintedNode) → IsPrintedNode (form_of i) p → NamesBuffer i.params.library (told_kind i.sinks p.kind)
    names_buffer p fine = by p.kind fine.kind
      where
        of_buffer : (left right : ℕ) (buffer : Option ℕ) → IfSome buffer (λ index. index < length i.params.library)
            → NamesBuffer i.params.library (Pair left right buffer)
        of_buffer left right None inside = tt
        of_buffer left right (Some index) inside = inside

        by : (kind : PrintedKind) → IsPrintedKind (length i.params.library) kind → NamesBuffer i.params.library (told_kind i.sinks kind)
        by (sink_leaf id) fits = tt
        by (pair_node left right buffer residue) fits = of_buffer left right buffer (fits.0)

    pub told_fits : ((k : ℕ) → Meets i printed Sinks k) → FitsInstance i tree
    told_fits met = record {
      few = omega (arith, length-map printed.nodes (told_node i.sinks), report.few);
      sinks = λ k d within.
          let e : PrintedNode = record { kind = sink_leaf 0; place = record { x = 0; y = 0 }; load = 0; delay = 0; arrival = None; slew = 0; wire = 0; corners = [] } in
          let inside : k < length printed.nodes = omega (arith, within, length-map printed.nodes (told_node i.sinks)) in
          let at : get_or tree k d ≡ told_node i.sinks (get_or printed.nodes k e) = get_or-map (told_node i.sinks) printed.nodes k e d inside in
          subst (λ (n : TreeNode). NamesSink i.sinks n.kind) (sym at)
          (names_sink (get_or printed.nodes k e) (take k tree)
          (subst (MeetsSink i.sinks (take k tree)) at (subst (λ T. T) (rule_at i tree k d within) (met k))));
      buffers = λ k d within.
          let e : PrintedNode = record { kind = sink_leaf 0; place = record { x = 0; y = 0 }; load = 0; delay = 0; arrival = None; slew = 0; wire = 0; corners = [] } in
          let inside : k < length printed.nodes = omega (arith, within, length-map printed.nodes (told_node i.sinks)) in
          let at : get_or tree k d ≡ told_node i.sinks (get_or printed.nodes k e) = get_or-map (told_node i.sinks) printed.nodes k e d inside in
          subst (λ (n : TreeNode). NamesBuffer i.params.library n.kind) (sym at)
          (names_buffer (get_or printed.nodes k e) (report.each k e inside));
    }

    -- what is printed is the report of the tree
    reported : (h : MeetsRules i printed) → printed_report i.version tree h.figures ≡ printed
    reported h =
        let long : length (printed_nodes i.version tree h.figures.nodes) ≡ length printed.nodes =
        length-printed i.version tree h.figures.nodes (figure_each tree post_order h.figures h.are_figures) ∙ length-map printed.nodes (told_node i.sinks) in
        let nodes : printed_nodes i.version tree h.figures.nodes ≡ printed.nodes =
        same_elements (printed.totals ≡ printed_totals i.version h.figures) printed.nodes (printed_nodes i.version tree h.figures.nodes) long
        (λ k. h.meets Figure k h.figures h.are_figures) in
        let totals : printed.totals ≡ printed_totals i.version h.figures =
        subst (λ o. MatchOption o (printed.totals ≡ printed_totals i.version h.figures) (λ node. slice_get (printed_nodes i.version tree h.figures.nodes) (length printed.nodes) ≡ Some node))
        (slice_get_past printed.nodes (length printed.nodes) (omega arith)) (h.meets Figure (length printed.nodes) h.figures h.are_figures) in
        ap₂ (λ ns ts. let p : Printed = record { nodes = ns; totals = ts } in p) nodes (sym totals)

    pub right : MeetsRules i printed → (bytes : List ℕ) → Spells i bytes printed → IsRight i bytes
    right h bytes spells = record {
      tree = tree;
      post_order = post_order;
      fits = told_fits (h.meets Sinks);
      sound = meets_sound i tree (meets_all i printed h.meets);
      figures = h.figures;
      are_figures = h.are_figures;
      spells = subst (Spells i bytes) (sym (reported h)) spells;
    }

  -- the verdict on the bytes
  pub judged : (bytes : List ℕ) (printed : Printed) → Spells i bytes printed → (verdict : Verdict) → Judges i printed verdict
      → IsVerdict i bytes verdict
  judged bytes printed spells Yes h = right printed spells.fits h bytes spells
  judged bytes printed spells (NotText line) h = absurd h
  judged bytes printed spells (Wrong rule node) h = record { printed = printed; spells = spells; first = h }

  few_buffers : length i.params.library ≤ 2 ^ 16
  few_buffers = omega (arith, valid.params.count)

  same_report : (bytes : List ℕ) (p q : Printed) → Spells i bytes p → Spells i bytes q → p ≡ q
  same_report bytes p q =
      pieces_are_unique (IsReport (form_of i)) (report_lines i.version) (report_at (form_of i)) (report_piece (form_of i) few_buffers) bytes p q

  -- the report of a sound tree breaks no rule
  pub right_meets : (bytes : List ℕ) (h : IsRight i bytes) (rule : Rule) (k : ℕ) → Meets i (printed_report i.version h.tree h.figures) rule k
  right_meets bytes h rule k = by rule
    where
      long : length h.figures.nodes ≡ length h.tree
      long = figure_each h.tree h.post_order h.figures h.are_figures

      again : told_nodes i.sinks (printed_nodes i.version h.tree h.figures.nodes) ≡ map bare h.tree
      again = told_again i.sinks valid.ids i.version h.tree h.figures.nodes long h.fits.sinks
          (sound_nodes_printable i h.tree valid h.post_order h.sound)

      all : MeetsAll i (told_nodes i.sinks (printed_nodes i.version h.tree h.figures.nodes))
      all = subst (MeetsAll i) (sym again) (sound_meets i (map bare h.tree) (sound-bare i h.tree h.post_order h.sound))

      there : (ps : List PrintedNode) (j : ℕ) → MatchOption (slice_get ps j) (printed_totals i.version h.figures ≡ printed_totals i.version h.figures) (λ node. slice_get ps j ≡ Some node)
      there ps j = by_node (slice_get ps j)
        where
          by_node : (o : Option PrintedNode) → MatchOption o (printed_totals i.version h.figures ≡ printed_totals i.version h.figures) (λ node. o ≡ Some node)
          by_node None = refl
          by_node (Some node) = refl

      figure : MeetsFigure i (told_nodes i.sinks (printed_nodes i.version h.tree h.figures.nodes)) (printed_report i.version h.tree h.figures) k
      figure = subst (λ nodes. MeetsFigure i nodes (printed_report i.version h.tree h.figures) k) (sym again)
          (λ figures are.
          let same : h.figures ≡ figures = figures_one i (map bare h.tree) h.figures figures (figures_bare i h.tree h.post_order h.figures h.are_figures) are in
          subst (λ (f : Figures). MatchOption (slice_get (printed_nodes i.version h.tree h.figures.nodes) k) (printed_totals i.version h.figures ≡ printed_totals i.version f)
          (λ node. slice_get (printed_nodes i.version (map bare h.tree) f.nodes) k ≡ Some node)) same
          (subst (λ ps. MatchOption (slice_get (printed_nodes i.version h.tree h.figures.nodes) k) (printed_totals i.version h.figures ≡ printed_totals i.version h.figures)
          (λ node. slice_get ps k ≡ Some node)) (sym (printed-bare i.version h.tree h.figures.nodes)) (there (printed_nodes i.version h.tree h.figures.nodes) k)))

      by : (r : Rule) → Meets i (printed_report i.version h.tree h.figures) r k
      by Sinks = all.sinks k
      by Route = all.route k
      by Short = all.short k
      by BufferBlocked = all.buffer k
      by Limit = all.limit k
      by Figure = figure

  right_not_wrong : (bytes : List ℕ) (rule : Rule) (node : ℕ) → IsRight i bytes → IsWrong i bytes rule node → ⊥
  right_not_wrong bytes rule node h w =
      w.first.broken
      (subst (λ p. Meets i p rule node) (same_report bytes (printed_report i.version h.tree h.figures) w.printed h.spells w.spells) (right_meets bytes h rule node))

  -- a report breaks one rule first, at one number
  first_broken_one : (printed : Printed) (r s : Rule) (j k : ℕ) → IsFirstBroken i printed r j → IsFirstBroken i printed s k
      → ◌≡◌ {A = Verdict} (Wrong r j) (Wrong s k)
  first_broken_one printed r s j k h g = by_rank (cases_lt (rank r) (rank s)) (cases_lt (rank s) (rank r))
    where
      by_node : r ≡ s → (j < k) ⊎ (k ≤ j) → (k < j) ⊎ (j ≤ k) → ◌≡◌ {A = Verdict} (Wrong r j) (Wrong s k)
      by_node same (inl less) more = absurd (h.broken (subst (λ x. Meets i printed x j) (sym same) (g.least j less)))
      by_node same (inr le) (inl less) = absurd (g.broken (subst (λ x. Meets i printed x k) same (h.least k less)))
      by_node same (inr le) (inr ge) = let equal : j ≡ k = omega (arith, le, ge) in ap₂ (λ x n. Wrong x n) same equal

      by_rank : (rank r < rank s) ⊎ (rank s ≤ rank r) → (rank s < rank r) ⊎ (rank r ≤ rank s) → ◌≡◌ {A = Verdict} (Wrong r j) (Wrong s k)
      by_rank (inl less) more = absurd (h.broken (g.earlier r less j))
      by_rank (inr le) (inl less) = absurd (g.broken (h.earlier s less k))
      by_rank (inr le) (inr ge) = by_node (same_rank r s (omega (arith, le, ge))) (cases_lt j k) (cases_lt k j)

  pub one_verdict : (bytes : List ℕ) (v w : Verdict) → IsVerdict i bytes v → IsVerdict i bytes w → v ≡ w
  one_verdict bytes Yes Yes h g = refl
  one_verdict bytes Yes (NotText line) h g = absurd (g.none (printed_report i.version h.tree h.figures) h.spells)
  one_verdict bytes Yes (Wrong rule node) h g = absurd (right_not_wrong bytes rule node h g)
  one_verdict bytes (NotText line) Yes h g = absurd (h.none (printed_report i.version g.tree g.figures) g.spells)
  one_verdict bytes (NotText line) (NotText other) h g =
      ap NotText (first_line_is_one (IsReport (form_of i)) (report_lines i.version) bytes line other h g)
  one_verdict bytes (NotText line) (Wrong rule node) h g = absurd (h.none g.printed g.spells)
  one_verdict bytes (Wrong rule node) Yes h g = absurd (right_not_wrong bytes rule node g h)
  one_verdict bytes (Wrong rule node) (NotText line) h g = absurd (g.none h.printed h.spells)
  one_verdict bytes (Wrong rule node) (Wrong other number) h g =
      first_broken_one h.printed rule other node number h.first
      (subst (λ p. IsFirstBroken i p other number) (same_report bytes g.printed h.printed g.spells h.spells) g.first)

pub verdict_is_one_lem : VerdictIsOne
verdict_is_one_lem i bytes v w valid h g = one_verdict i valid bytes v w h g
