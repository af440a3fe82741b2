use Rattle.std.proofs.Common.{rules, arith, ◌≡◌, ◌++◌, List, take, drop, length, append-nil, take_all, ap, ◌∙◌, leb}
use Rattle.std.specs.Prelude.{ℕ, ◌&&◌}
use Rattle.std.proofs.lemmas.List.{drop_all}
use Rattle.cts_elmore.specs.declared.figures.NodeFigure.{NodeFigure}
use Rattle.cts_elmore.proofs.HandedDown.{source_small, source_handed, whole_descent}
use Rattle.cts_elmore.proofs.descent.descend.Goals as goal

-- what stands in a list once a slice of all of it is given back
written_back : (len : ℕ) (old new : List NodeFigure) → len ≡ length old → length new ≡ length old
    → take len (new ++ drop (length new) old) ≡ new
written_back len old new long same =
    ap (λ rest. take len (new ++ rest)) (drop_all (length new) old (omega arith)) ∙ ap (take len) (append-nil new)
    ∙ take_all len new (omega arith)

pub source_output-output-requires-clause-load : goal.source_output-output-requires-clause-load
source_output-output-requires-clause-load c =
    source_small c.args.instance.now c.args.nodes.now c.requires.post_order c.args.drive c.requires.drive

pub descend_part-requires-clause-above : goal.descend_part-requires-clause-above
descend_part-requires-clause-above c =
    source_handed c.args.instance.now c.args.nodes.now c.requires.post_order c.args.drive c.requires.drive
    c.source_r.result c.source_r.ensures.part c.source_output-output.result c.source_output-output.ensures

pub returns : goal.returns
returns c =
    let load : (leb c.args.drive.load c.load_limit.result && c.in_ok-met.met.load_met)
    ≡ (leb c.args.drive.load c.args.instance.now.load_limit && c.in_ok-met.met.load_met) =
    ap (λ limit. leb c.args.drive.load limit && c.in_ok-met.met.load_met) c.load_limit.ensures.part in
    let written : take c.args.figures.len (c.descend_part.new.figures ++ drop (length c.descend_part.new.figures) c.args.figures.items)
    ≡ c.descend_part.new.figures =
    written_back c.args.figures.len c.args.figures.items c.descend_part.new.figures (search rules) (search rules) in
    whole_descent c.args.instance.now c.args.nodes.now c.requires.post_order c.args.drive c.requires.drive
    c.source_r.result c.source_r.ensures.part c.source_output-output.result c.source_output-output.ensures
    _ c.in_ok-met.met c.in_ok-met.ensures _ (search written) (search load) (search rules)
