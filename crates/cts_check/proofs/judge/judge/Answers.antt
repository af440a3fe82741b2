use Rattle.std.proofs.Common.{◌≡◌, ◌≤◌, List, Some, None, map, length, refl, sym, ap, subst, ◌∙◌, take_at, arith}
use Rattle.std.specs.List.{All}
use Rattle.std.proofs.lemmas.List.{length-map}
use Rattle.std.proofs.lemmas.Simd.{map-map}
use Rattle.cts_postorder.specs.PostOrder.{IsPostOrder}
use Rattle.cts_tree.specs.declared.nodes.TreeNode.{TreeNode}
use Rattle.cts_units.specs.Ids.{HasDistinctIds}
use Rattle.cts_units.specs.declared.params.Sink.{Sink}
use Rattle.cts_tree.specs.Nodes.{tree_children}
use Rattle.cts_elmore.specs.Figures.{AreFigures}
use Rattle.cts_elmore.specs.Measurement.{IsMeasured}
use Rattle.cts_elmore.specs.Fits.{FitsInstance}
use Rattle.cts_report_reader.specs.Forms.{form_of}
use Rattle.cts_report_reader.specs.Nodes.{seen_node}
use Rattle.cts_report_reader.specs.Reports.{seen_report}
use Rattle.cts_check.specs.declared.verdict.Rule.TheVariants.{Sinks, Limit, Figure}
use Rattle.cts_check.specs.Claims.{Agrees, IsTellable, claim_of, claims_seen}
use Rattle.cts_check.specs.Judgement.{IsFirstOfFour, Judges}
use Rattle.cts_check.specs.Marks.{NamesById}
use Rattle.cts_check.specs.Ranges.{IsInRange}
use Rattle.cts_check.specs.Rules.{IsFirstFailing, MeetsLimit}
use Rattle.cts_check.specs.Told.{told_node, told_nodes}
use Rattle.cts_check.proofs.Judging.{told_is, tellable, told_few, told_names, told_in_range, over_first}
use Rattle.cts_check.proofs.ToldFigures.{figures_first}
use Rattle.cts_check.proofs.Order.{told_first, met_too, broken_first, all_met}
use Rattle.cts_check.proofs.Verdicts.{post_order, told_fits}
use Rattle.cts_check.proofs.judge.judge.Goals as goal

pub told_nodes_of-requires-clause-ids : goal.told_nodes_of-requires-clause-ids
told_nodes_of-requires-clause-ids g c = subst (HasDistinctIds (λ (s : Sink). s.id)) (sym c.sinks.ensures.part) c.sinks.ensures.valid.ids

pub told_nodes_of-requires-clause-few : goal.told_nodes_of-requires-clause-few
told_nodes_of-requires-clause-few g c = subst (λ (sinks : List Sink). length sinks ≤ 65536) (sym c.sinks.ensures.part) c.sinks.ensures.valid.sink_count

pub told_nodes_of-requires-clause-nodes : goal.told_nodes_of-requires-clause-nodes
told_nodes_of-requires-clause-nodes g c =
    subst (All IsTellable) (sym c.as_mut_slice.ensures.value)
    (tellable (form_of c.args.instance.now) c.args.report.nodes.items c.requires.report.each c.requires.seen)

pub first_broken-requires-clause-post_order : goal.first_broken-requires-clause-post_order
first_broken-requires-clause-post_order g c =
    subst (λ (ns : List TreeNode). IsPostOrder (map tree_children ns)) (sym (c.as_slice.ensures.value ∙ (told_is _ _ _ _ _ c.in_ok-told.ensures.tree c.as_mut_slice.ensures.value c.sinks.ensures.part)))
    (post_order c.args.instance.now c.sinks.ensures.valid (seen_report c.args.report) c.requires.report)

pub first_broken-requires-clause-few : goal.first_broken-requires-clause-few
first_broken-requires-clause-few g c =
    subst (λ (ns : List TreeNode). length ns ≤ 131071) (sym (c.as_slice.ensures.value ∙ (told_is _ _ _ _ _ c.in_ok-told.ensures.tree c.as_mut_slice.ensures.value c.sinks.ensures.part)))
    (told_few c.args.instance.now.sinks (seen_report c.args.report).nodes c.requires.report.few)

pub first_broken-requires-clause-names : goal.first_broken-requires-clause-names
first_broken-requires-clause-names g c =
    subst (All (λ (n : TreeNode). NamesById c.args.instance.now.sinks n.kind)) (sym (c.as_slice.ensures.value ∙ (told_is _ _ _ _ _ c.in_ok-told.ensures.tree c.as_mut_slice.ensures.value c.sinks.ensures.part)))
    (told_names c.args.instance.now.sinks (seen_report c.args.report).nodes)

pub first_broken-requires-clause-in_range : goal.first_broken-requires-clause-in_range
first_broken-requires-clause-in_range g c =
    subst (All IsInRange) (sym (c.as_slice.ensures.value ∙ (told_is _ _ _ _ _ c.in_ok-told.ensures.tree c.as_mut_slice.ensures.value c.sinks.ensures.part)))
    (told_in_range c.args.instance.now.sinks (form_of c.args.instance.now) (seen_report c.args.report).nodes c.requires.report.each)

pub of-tree-requires : goal.of-tree-requires
of-tree-requires g c =
    subst (λ (ns : List TreeNode). IsPostOrder (map tree_children ns)) (sym (told_is _ _ _ _ _ c.in_ok-told.ensures.tree c.as_mut_slice.ensures.value c.sinks.ensures.part))
    (post_order c.args.instance.now c.sinks.ensures.valid (seen_report c.args.report) c.requires.report)

pub returns-in-Some : goal.returns-in-Some
returns-in-Some g c =
    let first = c.in_ok-rule.ensures (seen_report c.args.report) (c.as_slice.ensures.value ∙ (told_is _ _ _ _ _ c.in_ok-told.ensures.tree c.as_mut_slice.ensures.value c.sinks.ensures.part)) in
    subst (Judges c.args.instance.now (seen_report c.args.report)) (sym c.broken.ensures)
    (subst (IsFirstOfFour c.args.instance.now (seen_report c.args.report)) c.in-Some.is first)

pub try_measure-requires : goal.try_measure-requires
try_measure-requires g c =
    let four = subst (IsFirstOfFour c.args.instance.now (seen_report c.args.report)) c.in_default.is (c.in_ok-rule.ensures (seen_report c.args.report) (c.as_slice.ensures.value ∙ (told_is _ _ _ _ _ c.in_ok-told.ensures.tree c.as_mut_slice.ensures.value c.sinks.ensures.part))) in
    subst (FitsInstance c.args.instance.now) (sym (c.of-tree.ensures ∙ (told_is _ _ _ _ _ c.in_ok-told.ensures.tree c.as_mut_slice.ensures.value c.sinks.ensures.part)))
    (told_fits c.args.instance.now c.sinks.ensures.valid (seen_report c.args.report) c.requires.report (four Sinks (omega arith)))

pub returns-in-Over : goal.returns-in-Over
returns-in-Over g c =
    let four = subst (IsFirstOfFour c.args.instance.now (seen_report c.args.report)) c.in_default.is (c.in_ok-rule.ensures (seen_report c.args.report) (c.as_slice.ensures.value ∙ (told_is _ _ _ _ _ c.in_ok-told.ensures.tree c.as_mut_slice.ensures.value c.sinks.ensures.part))) in
    let told : c.of-tree.result ≡ told_nodes c.args.instance.now.sinks (seen_report c.args.report).nodes = c.of-tree.ensures ∙ (told_is _ _ _ _ _ c.in_ok-told.ensures.tree c.as_mut_slice.ensures.value c.sinks.ensures.part) in
    let over = subst (IsMeasured c.args.instance.now c.of-tree.result) c.in-Over.is c.in_ok-figures.ensures in
    subst (Judges c.args.instance.now (seen_report c.args.report)) (sym c.broken-in-Over.ensures)
    (broken_first c.args.instance.now (seen_report c.args.report) Limit four c.in-Over.node
    (told_first (MeetsLimit c.args.instance.now) c.of-tree.result (told_nodes c.args.instance.now.sinks (seen_report c.args.report).nodes) told
    (Some c.in-Over.node) (Some c.in-Over.node) refl (over_first c.args.instance.now c.of-tree.result (Some c.in-Over.node) over)))

pub first_wrong_figure-requires-clause-in_range : goal.first_wrong_figure-requires-clause-in_range
first_wrong_figure-requires-clause-in_range g c κs within =
    let has = subst (IsMeasured c.args.instance.now c.of-tree.result) c.in-Within.is c.in_ok-figures.ensures in has.in_range

pub returns-in-Some-first_wrong_figure : goal.returns-in-Some-first_wrong_figure
returns-in-Some-first_wrong_figure g c =
    let four = subst (IsFirstOfFour c.args.instance.now (seen_report c.args.report)) c.in_default.is (c.in_ok-rule.ensures (seen_report c.args.report) (c.as_slice.ensures.value ∙ (told_is _ _ _ _ _ c.in_ok-told.ensures.tree c.as_mut_slice.ensures.value c.sinks.ensures.part))) in
    let told : c.of-tree.result ≡ told_nodes c.args.instance.now.sinks (seen_report c.args.report).nodes = c.of-tree.ensures ∙ (told_is _ _ _ _ _ c.in_ok-told.ensures.tree c.as_mut_slice.ensures.value c.sinks.ensures.part) in
    let has = subst (IsMeasured c.args.instance.now c.of-tree.result) c.in-Within.is c.in_ok-figures.ensures in
    let five = met_too c.args.instance.now (seen_report c.args.report) Limit four
    (told_first (MeetsLimit c.args.instance.now) c.of-tree.result (told_nodes c.args.instance.now.sinks (seen_report c.args.report).nodes) told
    None None refl (over_first c.args.instance.now c.of-tree.result None has.within)) in
    let are : AreFigures c.args.instance.now (told_nodes c.args.instance.now.sinks (seen_report c.args.report).nodes) c.in-Within.figures =
    subst (λ ns. AreFigures c.args.instance.now ns c.in-Within.figures) told has.are_figures in
    let agreed = subst (λ version. IsFirstFailing (Agrees version (claims_seen c.as_slice-2.result.now) c.args.report.totals c.in-Within.figures) c.first_wrong_figure.result)
    c.version.ensures.part c.first_wrong_figure.ensures in
    let back = take_at c.told_nodes_of.new.nodes _ c.args.report.nodes.len (omega (arith, c.told_nodes_of.auto.nodes, c.as_mut_slice.ensures.len, c.args.report.nodes.ok.0)) in
    let claims = ap claims_seen (c.as_slice-2.ensures.value ∙ back) ∙ c.told_nodes_of.ensures.claims ∙ ap claims_seen c.as_mut_slice.ensures.value
    ∙ sym (map-map claim_of seen_node c.args.report.nodes.items) in
    subst (Judges c.args.instance.now (seen_report c.args.report)) (sym c.broken-in-Some-first_wrong_figure.ensures)
    (broken_first c.args.instance.now (seen_report c.args.report) Figure five c.in-Some-first_wrong_figure.node
    (figures_first c.args.instance.now (seen_report c.args.report) c.requires.report.each (claims_seen c.as_slice-2.result.now) claims
    c.args.report.totals refl c.in-Within.figures are
    (has.one_each ∙ ap length told ∙ length-map (seen_report c.args.report).nodes (told_node c.args.instance.now.sinks))
    (Some c.in-Some-first_wrong_figure.node)
    (subst (IsFirstFailing (Agrees c.args.instance.now.version (claims_seen c.as_slice-2.result.now) c.args.report.totals c.in-Within.figures)) c.in-Some-first_wrong_figure.is agreed)))

pub returns : goal.returns
returns g c =
    let four = subst (IsFirstOfFour c.args.instance.now (seen_report c.args.report)) c.in_default.is (c.in_ok-rule.ensures (seen_report c.args.report) (c.as_slice.ensures.value ∙ (told_is _ _ _ _ _ c.in_ok-told.ensures.tree c.as_mut_slice.ensures.value c.sinks.ensures.part))) in
    let told : c.of-tree.result ≡ told_nodes c.args.instance.now.sinks (seen_report c.args.report).nodes = c.of-tree.ensures ∙ (told_is _ _ _ _ _ c.in_ok-told.ensures.tree c.as_mut_slice.ensures.value c.sinks.ensures.part) in
    let has = subst (IsMeasured c.args.instance.now c.of-tree.result) c.in-Within.is c.in_ok-figures.ensures in
    let five = met_too c.args.instance.now (seen_report c.args.report) Limit four
    (told_first (MeetsLimit c.args.instance.now) c.of-tree.result (told_nodes c.args.instance.now.sinks (seen_report c.args.report).nodes) told
    None None refl (over_first c.args.instance.now c.of-tree.result None has.within)) in
    let are : AreFigures c.args.instance.now (told_nodes c.args.instance.now.sinks (seen_report c.args.report).nodes) c.in-Within.figures =
    subst (λ ns. AreFigures c.args.instance.now ns c.in-Within.figures) told has.are_figures in
    let agreed = subst (λ version. IsFirstFailing (Agrees version (claims_seen c.as_slice-2.result.now) c.args.report.totals c.in-Within.figures) c.first_wrong_figure.result)
    c.version.ensures.part c.first_wrong_figure.ensures in
    let back = take_at c.told_nodes_of.new.nodes _ c.args.report.nodes.len (omega (arith, c.told_nodes_of.auto.nodes, c.as_mut_slice.ensures.len, c.args.report.nodes.ok.0)) in
    let claims = ap claims_seen (c.as_slice-2.ensures.value ∙ back) ∙ c.told_nodes_of.ensures.claims ∙ ap claims_seen c.as_mut_slice.ensures.value
    ∙ sym (map-map claim_of seen_node c.args.report.nodes.items) in
    record {
      meets = all_met c.args.instance.now (seen_report c.args.report) (met_too c.args.instance.now (seen_report c.args.report) Figure five
          (figures_first c.args.instance.now (seen_report c.args.report) c.requires.report.each (claims_seen c.as_slice-2.result.now) claims
          c.args.report.totals refl c.in-Within.figures are
          (has.one_each ∙ ap length told ∙ length-map (seen_report c.args.report).nodes (told_node c.args.instance.now.sinks))
          (None)
          (subst (IsFirstFailing (Agrees c.args.instance.now.version (claims_seen c.as_slice-2.result.now) c.args.report.totals c.in-Within.figures)) c.in-None.is agreed)));
      figures = c.in-Within.figures;
      are_figures = are;
    }
