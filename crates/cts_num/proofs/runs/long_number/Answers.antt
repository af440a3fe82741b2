use Rattle.std.proofs.Common.{◌≡◌, ◌+◌, ◌-◌, ◌*◌, ◌^◌, ◌++◌, map, ap, ◌∙◌, arith}
use lib.Lanes.{chunk}
use Rattle.cts_num.specs.Runs.{coupled}
use Rattle.cts_num.proofs.RunNumbers.{IsRunNumber, ends_are, run_is, worth}
use Rattle.cts_num.proofs.runs.long_number.Goals as goal

-- both ends are eight digits, and the run is what they write together
whole : (c : goal.After-leading) → IsRunNumber c.args.text.now c.args.from c.args.to (c.leading.result * 10 ^ 8 + c.eights-first.result.1)
whole c =
    let text = c.args.text.now in
    let from = c.args.from in
    let to = c.args.to in
    let first = c.eights-first.result.0 in
    let last = c.eights-first.result.1 in
    let values = c.values-values.result in
    let is : values ≡ map worth (chunk from 8 text ++ chunk (to - 8) 8 text) = c.values-values.ensures ∙ ap (map worth) c.both_ends.ensures in
    let numbers = c.eights-first.ensures.numbers ∙ ap (coupled 10000) (c.fours.ensures.lanes ∙ ap (coupled 100) c.pairs.ensures.lanes) in
    let ends =
    ends_are text from (to - 8) first last values (λ k. (c.type_inv.text k).fits) (omega (arith, c.requires.from, c.requires.to))
    (omega (arith, c.requires.from, c.requires.to)) is (c.are_digits.ensures c.if-not-are_digits.false) numbers c.eights-first.ensures.first
    c.eights-first.ensures.last in
    rw c.leading.ensures (run_is 8 text from to first last c.requires.from c.requires.few c.requires.to ends.0 ends.1)

pub returns-clause-digits : goal.returns-clause-digits
returns-clause-digits c = (whole c).digits.each

pub returns-clause-number : goal.returns-clause-number
returns-clause-number c = (whole c).number_is

pub returns-clause-bound : goal.returns-clause-bound
returns-clause-bound c = (whole c).bound
