use Rattle.cts_top.specs.Synthesised.{medians}
use Rattle.cts_top.proofs.answer.answer_instance.Goals as goal

pub answer_synthesis-requires : goal.answer_synthesis-requires
answer_synthesis-requires g c = c.synthesise_alone.ensures.synthesised.printable

pub returns : goal.returns
returns g c = c.answer_synthesis.ensures.answers medians c.synthesise_alone.ensures.synthesised
