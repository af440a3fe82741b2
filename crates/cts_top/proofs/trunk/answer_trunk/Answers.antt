use Rattle.cts_plain.specs.Synthesis.{made}
use Rattle.cts_report.specs.Report.{report_text}
use Rattle.cts_top.specs.Synthesised.{medians}
use Rattle.cts_top.specs.Trunk.{IsTrunkText, TellsTrunk}
use Rattle.cts_top.proofs.Trunks.{answers_as, no_tree_told, tree_trunk_told}
use Rattle.cts_top.proofs.trunk.answer_trunk.Goals as goal

pub returns-in-Ok : goal.returns-in-Ok
returns-in-Ok g c =
    let i = c.args.instance.now in
    answers_as (IsTrunkText i c.args.step c.args.buffer (made c.in-Ok.tree)) (TellsTrunk i c.args.step c.args.buffer)
    (tree_trunk_told i c.args.step c.args.buffer c.in-Ok.tree c.instance_is_valid.ensures c.in-Ok.ensures.synthesised.tree)
    c.answer_tree.result c.answer_tree.ensures

pub returns-in-Err : goal.returns-in-Err
returns-in-Err g c =
    no_tree_told c.args.instance.now c.args.step c.args.buffer c.in-Err.end c.instance_is_valid.ensures
    c.in-Err.ensures.synthesised.ends c.answer_no_tree.result c.answer_no_tree.ensures.told
    (c.answer_no_tree.ensures.answers medians report_text c.in-Err.ensures.synthesised.ends)
