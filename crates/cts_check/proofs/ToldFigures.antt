-- The rule on figures: what is printed of a node is what the told tree's figures print.
use Rattle.std.proofs.Common.{◌≡◌, ℕ, ◌+◌, ◌*◌, ◌<◌, zero, suc, List, [], ◌∷◌, map, length, get_or, slice_get, Option, Some, None, option_map, MatchOption, refl, sym, ap, ap₂, subst, ◌∙◌, arith}
use Rattle.std.specs.Prelude.{IfSome}
use Rattle.std.specs.List.{All}
use Rattle.std.proofs.lemmas.Int.{ints}
use Rattle.std.proofs.lemmas.List.Elements.{All-head, All-tail}
use Rattle.std.proofs.lemmas.Option.{slice_get-map, slice_get_within, slice_get-get_or, get_or_from_slice_get}
use Rattle.cts_geom.specs.Points.{point_of}
use Rattle.cts_units.specs.Delay.{slew_of}
use Rattle.cts_units.specs.declared.params.Sink.{Sink}
use Rattle.cts_tree.specs.declared.nodes.TreeNode.{TreeNode}
use Rattle.cts_instance.specs.declared.parts.Parts.{Parts}
use Rattle.cts_instance.specs.declared.version.Version.{Version}
use Rattle.cts_instance.specs.declared.version.Version.TheVariants.{One, Two}
use Rattle.cts_elmore.specs.declared.figures.NodeFigure.{NodeFigure}
use Rattle.cts_elmore.specs.declared.figures.Figures.{Figures}
use Rattle.cts_elmore.specs.Figures.{AreFigures}
use Rattle.cts_elmore.proofs.Unique.{figures_one}
use Rattle.cts_report.specs.Printed.{PrintedPoint, PrintedKind, sink_leaf, pair_node, PrintedNode, Printed}
use Rattle.cts_report.specs.Report.{printed_point, printed_time, printed_kind, printed_arrival, printed_node, printed_nodes, printed_totals}
use Rattle.cts_report_reader.specs.declared.form.Form.{Form}
use Rattle.cts_report_reader.specs.declared.totals.ReportTotals.{ReportTotals}
use Rattle.cts_report_reader.specs.Bounds.{IsPrintedPoint, IsArrival, IsPrintedNode}
use Rattle.cts_report_reader.specs.Forms.{form_of, tells_arrival}
use Rattle.cts_report_reader.specs.Totals.{seen_totals}
use Rattle.cts_check.specs.declared.told.Claim.{Claim}
use Rattle.cts_check.specs.Claims.{claimed_residue, claim_of, IsClaimOf, Agrees}
use Rattle.cts_check.specs.Rules.{IsFirstFailing, MeetsFigure}
use Rattle.cts_check.specs.Told.{told_point, told_place, told_kind, told_node, told_nodes}

point_same : (p q : PrintedPoint) → p.x ≡ q.x → p.y ≡ q.y → p ≡ q
point_same p q x y =
    ap (λ (v : ℕ). let h : PrintedPoint = record { x = v; y = p.y } in h) x
    ∙ ap (λ (v : ℕ). let h : PrintedPoint = record { x = q.x; y = v } in h) y

point_back : (p : PrintedPoint) → IsPrintedPoint p → printed_point (told_point p) ≡ p
point_back p h = point_same (printed_point (told_point p)) p (grind (arith, ints, h.x.half)) (grind (arith, ints, h.y.half))

corners_back : (ps : List PrintedPoint) → All IsPrintedPoint ps → map printed_point (map told_point ps) ≡ ps
corners_back [] h = refl
corners_back (p ∷ ps) h =
    ap₂ (λ q qs. q ∷ qs) (point_back p (All-head IsPrintedPoint p ps h)) (corners_back ps (All-tail IsPrintedPoint p ps h))

module _ (sinks : List Sink) (form : Form) (p : PrintedNode) (fits : IsPrintedNode form p) (figure : NodeFigure) where
  place_back : printed_point (point_of (told_place p.place)) ≡ p.place
  place_back =
      point_same (printed_point (point_of (told_place p.place))) p.place (grind (arith, ints, fits.place.point.x.half))
      (grind (arith, ints, fits.place.point.y.half, fits.place.even))

  kind_back : (kind : PrintedKind) → IfSome (claimed_residue kind) (λ residue. residue ≡ printed_time figure.residue)
      → printed_kind (told_kind sinks kind) figure.residue ≡ kind
  kind_back (sink_leaf id) h = refl
  kind_back (pair_node left right buffer residue) h = ap (λ r. pair_node left right buffer r) (sym h)

  abbrev arrival_of : ℕ
  arrival_of = figure.delay + 2 * figure.offset

  arrival_back : (version : Version) (kind : PrintedKind) (o : Option ℕ) → IsArrival (tells_arrival version kind) o
      → IfSome o (λ arrival. arrival ≡ printed_time arrival_of) → printed_arrival version (told_kind sinks kind) arrival_of ≡ o
  arrival_back One (sink_leaf id) None told h = refl
  arrival_back One (sink_leaf id) (Some arrival) told h = absurd told
  arrival_back One (pair_node left right buffer residue) None told h = refl
  arrival_back One (pair_node left right buffer residue) (Some arrival) told h = absurd told
  arrival_back Two (sink_leaf id) None told h = absurd told
  arrival_back Two (sink_leaf id) (Some arrival) told h = ap Some (sym h)
  arrival_back Two (pair_node left right buffer residue) None told h = refl
  arrival_back Two (pair_node left right buffer residue) (Some arrival) told h = absurd told

  -- figures that are claimed are printed
  pub printed_back : IsClaimOf (claim_of p) figure → printed_node form.version (told_node sinks p) figure ≡ p
  printed_back h =
      let made : PrintedKind → PrintedPoint → ℕ → ℕ → Option ℕ → ℕ → List PrintedPoint → PrintedNode =
      λ k at load delay arrival slew cs. record { kind = k; place = at; load = load; delay = delay; arrival = arrival; slew = slew; wire = p.wire; corners = cs } in
      let k = printed_kind (told_kind sinks p.kind) figure.residue in
      let at = printed_point (point_of (told_place p.place)) in
      let arrival = printed_arrival form.version (told_kind sinks p.kind) arrival_of in
      let cs = map printed_point (map told_point p.corners) in
      ap (λ x. made x at figure.below (printed_time figure.delay) arrival (slew_of figure.stage) cs) (kind_back p.kind h.residue)
      ∙ ap (λ x. made p.kind x figure.below (printed_time figure.delay) arrival (slew_of figure.stage) cs) place_back
      ∙ ap (λ x. made p.kind p.place x (printed_time figure.delay) arrival (slew_of figure.stage) cs) (sym h.load)
      ∙ ap (λ x. made p.kind p.place p.load x arrival (slew_of figure.stage) cs) (sym h.delay)
      ∙ ap (λ x. made p.kind p.place p.load p.delay x (slew_of figure.stage) cs) (arrival_back form.version p.kind p.arrival fits.arrival h.arrival)
      ∙ ap (λ x. made p.kind p.place p.load p.delay p.arrival x cs) (sym h.slew)
      ∙ ap (λ x. made p.kind p.place p.load p.delay p.arrival p.slew x) (corners_back p.corners fits.corners)

  abbrev residue_of : PrintedKind → ℕ
  residue_of (sink_leaf id) = 0
  residue_of (pair_node left right buffer residue) = residue

  residue_claimed : (kind : PrintedKind) → printed_kind (told_kind sinks kind) figure.residue ≡ kind
      → IfSome (claimed_residue kind) (λ residue. residue ≡ printed_time figure.residue)
  residue_claimed (sink_leaf id) e = tt
  residue_claimed (pair_node left right buffer residue) e = sym (ap residue_of e)

  -- what is printed of a leaf in version 2 is its arrival
  own_arrival : (version : Version) (kind : PrintedKind) → IfSome (printed_arrival version (told_kind sinks kind) arrival_of) (λ arrival. arrival ≡ printed_time arrival_of)
  own_arrival One kind = tt
  own_arrival Two (sink_leaf id) = refl
  own_arrival Two (pair_node left right buffer residue) = tt

  pub claimed_by : printed_node form.version (told_node sinks p) figure ≡ p → IsClaimOf (claim_of p) figure
  claimed_by e = record {
    load = sym (ap (λ (q : PrintedNode). q.load) e);
    delay = sym (ap (λ (q : PrintedNode). q.delay) e);
    slew = sym (ap (λ (q : PrintedNode). q.slew) e);
    residue = residue_claimed p.kind (ap (λ (q : PrintedNode). q.kind) e);
    arrival = subst (λ o. IfSome o (λ arrival. arrival ≡ printed_time arrival_of)) (ap (λ (q : PrintedNode). q.arrival) e) (own_arrival form.version p.kind);
  }

-- what is printed at a number
printed_at : (version : Version) (nodes : List TreeNode) (figures : List NodeFigure) (k : ℕ) (n : TreeNode) (f : NodeFigure) → slice_get nodes k ≡ Some n
    → slice_get figures k ≡ Some f → slice_get (printed_nodes version nodes figures) k ≡ Some (printed_node version n f)
unfolding printed_nodes
printed_at version [] figures k n f at of = absurd cc
printed_at version (m ∷ nodes) [] k n f at of = absurd cc
printed_at version (m ∷ nodes) (g ∷ figures) zero n f at of = ap₂ (λ x y. Some (printed_node version x y)) (some_same at) (some_same of)
  where
    some_same : {A : Type 0} {x y : A} → Some x ≡ Some y → x ≡ y
    some_same e = cc
printed_at version (m ∷ nodes) (g ∷ figures) (suc k) n f at of = printed_at version nodes figures k n f at of

module _ (i : Parts) (printed : Printed) (fits : All (IsPrintedNode (form_of i)) printed.nodes) (claims : List Claim)
    (claims_are : claims ≡ map claim_of printed.nodes) (totals : ReportTotals) (totals_are : seen_totals totals ≡ printed.totals)
    (figures : Figures) (are : AreFigures i (told_nodes i.sinks printed.nodes) figures) (one_each : length figures.nodes ≡ length printed.nodes) where
  abbrev nodes : List TreeNode
  nodes = told_nodes i.sinks printed.nodes

  claim_at : (k : ℕ) → slice_get claims k ≡ option_map claim_of (slice_get printed.nodes k)
  claim_at k = ap (λ cs. slice_get cs k) claims_are ∙ slice_get-map claim_of printed.nodes k

  record NodeAt (k : ℕ) (p : PrintedNode) : Type 0 where
    figure : NodeFigure
    figure_is : slice_get figures.nodes k ≡ Some figure
    printed_is : slice_get (printed_nodes i.version nodes figures.nodes) k ≡ Some (printed_node i.version (told_node i.sinks p) figure)
    fits_node : IsPrintedNode (form_of i) p

  node_at : (k : ℕ) (p : PrintedNode) → slice_get printed.nodes k ≡ Some p → NodeAt k p
  node_at k p found =
      let within : k < length printed.nodes = slice_get_within printed.nodes k p found in
      let d : NodeFigure = record { below = 0; residue = 0; delay = 0; stage = 0; offset = 0 } in
      let figure_is : slice_get figures.nodes k ≡ Some (get_or figures.nodes k d) = slice_get-get_or figures.nodes k d (omega (arith, within, one_each)) in
      record {
        figure = get_or figures.nodes k d;
        figure_is = figure_is;
        printed_is = printed_at i.version nodes figures.nodes k (told_node i.sinks p) (get_or figures.nodes k d)
            (slice_get-map (told_node i.sinks) printed.nodes k ∙ ap (option_map (told_node i.sinks)) found) figure_is;
        fits_node = subst (IsPrintedNode (form_of i)) (get_or_from_slice_get printed.nodes k p p found) (fits k p within);
      }

  abbrev MeetsBy : ℕ → Type 0
  MeetsBy k = MatchOption (slice_get printed.nodes k) (printed.totals ≡ printed_totals i.version figures) (λ node. slice_get (printed_nodes i.version nodes figures.nodes) k ≡ Some node)

  agrees_by : (k : ℕ) (o : Option PrintedNode) → slice_get printed.nodes k ≡ o
      → MatchOption (option_map claim_of o) (seen_totals totals ≡ printed_totals i.version figures) (λ claim. IfSome (slice_get figures.nodes k) (IsClaimOf claim))
      → MatchOption o (printed.totals ≡ printed_totals i.version figures) (λ node. slice_get (printed_nodes i.version nodes figures.nodes) k ≡ Some node)
  agrees_by k None found h = sym totals_are ∙ h
  agrees_by k (Some p) found h =
      let at : NodeAt k p = node_at k p found in
      at.printed_is ∙ ap Some (printed_back i.sinks (form_of i) p at.fits_node at.figure
      (subst (λ o. IfSome o (IsClaimOf (claim_of p))) at.figure_is h))

  by_agrees : (k : ℕ) (o : Option PrintedNode) → slice_get printed.nodes k ≡ o
      → MatchOption o (printed.totals ≡ printed_totals i.version figures) (λ node. slice_get (printed_nodes i.version nodes figures.nodes) k ≡ Some node)
      → MatchOption (option_map claim_of o) (seen_totals totals ≡ printed_totals i.version figures) (λ claim. IfSome (slice_get figures.nodes k) (IsClaimOf claim))
  by_agrees k None found h = totals_are ∙ h
  by_agrees k (Some p) found h =
      let at : NodeAt k p = node_at k p found in
      subst (λ o. IfSome o (IsClaimOf (claim_of p))) (sym at.figure_is)
      (claimed_by i.sinks (form_of i) p at.fits_node at.figure (some_same (sym at.printed_is ∙ h)))
    where
      some_same : {x y : PrintedNode} → Some x ≡ Some y → x ≡ y
      some_same e = cc

  meets_of : (k : ℕ) → Agrees i.version claims totals figures k → MeetsFigure i nodes printed k
  meets_of k h others they_are =
      subst (λ (f : Figures). MatchOption (slice_get printed.nodes k) (printed.totals ≡ printed_totals i.version f) (λ node. slice_get (printed_nodes i.version nodes f.nodes) k ≡ Some node))
      (figures_one i nodes figures others are they_are)
      (agrees_by k (slice_get printed.nodes k) refl
      (subst (λ o. MatchOption o (seen_totals totals ≡ printed_totals i.version figures) (λ claim. IfSome (slice_get figures.nodes k) (IsClaimOf claim))) (claim_at k) h))

  agrees_of : (k : ℕ) → MeetsFigure i nodes printed k → Agrees i.version claims totals figures k
  agrees_of k h =
      subst (λ o. MatchOption o (seen_totals totals ≡ printed_totals i.version figures) (λ claim. IfSome (slice_get figures.nodes k) (IsClaimOf claim))) (sym (claim_at k))
      (by_agrees k (slice_get printed.nodes k) refl (h figures are))

  -- the first number at which what is claimed is wrong is the first at which the rule is broken
  pub figures_first : (o : Option ℕ) → IsFirstFailing (Agrees i.version claims totals figures) o → IsFirstFailing (MeetsFigure i nodes printed) o
  figures_first None h = λ k. meets_of k (h k)
  figures_first (Some k) h = ((λ met. h.0 (agrees_of k met)), (λ j less. meets_of j (h.1 j less)))
