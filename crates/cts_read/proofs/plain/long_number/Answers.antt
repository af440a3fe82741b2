use Rattle.std.proofs.Common.{sym, ◌∙◌, subst, take}
use Rattle.std.proofs.lemmas.List.{take_rest}
use Rattle.cts_read.specs.Plain.{IsPlainEnd}
use Rattle.cts_read.proofs.Plains.{number_below, number_is_plain}
use Rattle.cts_read.proofs.plain.long_number.Goals as goal

pub returns-clause-plain : goal.returns-clause-plain
returns-clause-plain c =
    let bytes = c.args.bytes.now in
    let size = c.read_long_front.result.1 in
    let rest = c.in_ok-rest.rest.now in
    number_is_plain bytes c.args.places size c.in-Ok-default.value rest c.read_long_front.ensures.within (sym c.read_long_front.ensures.reading ∙ c.in-Ok-default.is-0)
    (subst (λ left. IsPlainEnd left rest) (take_rest bytes size) c.in_ok-rest.ensures)

pub returns-clause-bound : goal.returns-clause-bound
returns-clause-bound c =
    let word = take c.read_long_front.result.1 c.args.bytes.now in
    number_below word c.args.places c.in-Ok-default.value (sym c.read_long_front.ensures.reading ∙ c.in-Ok-default.is-0)
