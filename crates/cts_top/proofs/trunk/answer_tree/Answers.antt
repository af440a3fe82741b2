use Rattle.std.proofs.Common.{◌++◌}
use Rattle.cts_plain.specs.Synthesis.{made}
use Rattle.cts_report.specs.Report.{report_text}
use Rattle.cts_trunk.specs.Lines.{trunk_text}
use Rattle.cts_top.specs.declared.stop.Answer.TheVariants as answer
use Rattle.cts_top.specs.Trunk.{IsExactly, IsNoTrunkLine, IsTrunkText}
use Rattle.cts_top.proofs.TautTrunk.{taut_trunk}
use Rattle.cts_top.proofs.Trunks.{answers_as, laid_told, none_told, tree_fits}
use Rattle.cts_top.proofs.trunk.answer_tree.Goals as goal

pub lay_trunk-requires-clause-fits : goal.lay_trunk-requires-clause-fits
lay_trunk-requires-clause-fits g c =
    tree_fits c.args.instance.now c.args.tree.now c.instance_is_valid.ensures c.requires.synthesised.tree

pub lay_trunk-requires-clause-sound : goal.lay_trunk-requires-clause-sound
lay_trunk-requires-clause-sound g c = c.requires.synthesised.sound

pub lay_trunk-requires-clause-taut : goal.lay_trunk-requires-clause-taut
lay_trunk-requires-clause-taut g c =
    taut_trunk c.args.instance.now c.args.tree.now c.instance_is_valid.ensures c.requires.synthesised.tree

pub answer_laid-requires-clause-tree : goal.answer_laid-requires-clause-tree
answer_laid-requires-clause-tree g c = c.requires.synthesised.printable

pub returns-in-Ok : goal.returns-in-Ok
returns-in-Ok g c =
    let i = c.args.instance.now in
    let tree = c.args.tree.now in
    let figures = c.args.figures.now in
    answers_as (IsExactly answer.Text (trunk_text c.in-Ok.trunk ++ report_text i.version tree figures))
    (IsTrunkText i c.args.step c.args.buffer (made tree))
    (laid_told i c.args.step c.args.buffer tree figures c.requires.synthesised c.in-Ok.trunk c.in-Ok.ensures.laid)
    c.answer_laid.result c.answer_laid.ensures

pub returns-in-Err : goal.returns-in-Err
returns-in-Err g c =
    let i = c.args.instance.now in
    let tree = c.args.tree.now in
    answers_as (IsNoTrunkLine c.in-Err.end) (IsTrunkText i c.args.step c.args.buffer (made tree))
    (none_told i c.args.step c.args.buffer tree c.in-Err.end c.in-Err.ensures.end) c.answer_no_trunk.result c.answer_no_trunk.ensures
