use Rattle.cts_top.proofs.Synthesising.{measured, synthesised}
use Rattle.cts_top.proofs.answer.synthesise_counted.Goals as goal

pub returns-clause-synthesised : goal.returns-clause-synthesised
returns-clause-synthesised g c =
    synthesised c.args.instance.now c.instance_is_valid.ensures c.synthesise.result c.synthesise.ensures.tree c.synthesise.ensures.figures
    c.synthesise.ensures.sound c.synthesise.ensures.one_each c.synthesise.ensures.in_range c.synthesise.ensures.in_die
    c.synthesise.ensures.ends

pub returns-clause-measured : goal.returns-clause-measured
returns-clause-measured g c =
    measured c.args.instance.now c.synthesise.result c.synthesise.ensures.figures c.synthesise.ensures.sound c.synthesise.ensures.one_each
    c.synthesise.ensures.in_range
