use Rattle.std.proofs.Common.{◌≡◌, ◌+◌, ◌-◌, ◌*◌, ◌^◌, ◌++◌, get_or, map, replicate, ap, ◌∙◌, arith}
use lib.Lanes.{chunk}
use Rattle.cts_num.specs.Runs.{coupled}
use Rattle.cts_num.proofs.RunNumbers.{IsRunNumber, run_is, short_ends_are, worth}
use Rattle.cts_num.proofs.runs.short_number.Goals as goal

-- both ends are four digits, and the run is what they write together
whole : (c : goal.After-from-2) → IsRunNumber c.args.text.now c.args.from c.args.to (c.leading.result * 10 ^ 4 + c.from-2.result)
whole c =
    let text = c.args.text.now in
    let from = c.args.from in
    let to = c.args.to in
    let values = c.values-values.result in
    let fours = c.fours.result in
    let is : values ≡ map worth (chunk from 4 text ++ chunk (to - 4) 4 text ++ replicate 8 48) = c.values-values.ensures ∙ ap (map worth) c.short_ends.ensures in
    let numbers = c.fours.ensures.lanes ∙ ap (coupled 100) c.pairs.ensures.lanes in
    let ends =
    short_ends_are text from (to - 4) values fours (λ k. (c.type_inv.text k).fits) (omega (arith, c.requires.from, c.requires.to))
    (omega (arith, c.requires.from, c.requires.to)) is (c.are_digits.ensures c.if-not-are_digits.false) numbers c.fours.ensures.bound in
    rw (c.leading.ensures, c.from.ensures, c.from-2.ensures)
    (run_is 4 text from to (get_or fours 0 0) (get_or fours 1 0) c.requires.from c.requires.few c.requires.to ends.0 ends.1)

pub returns-clause-digits : goal.returns-clause-digits
returns-clause-digits c = (whole c).digits.each

pub returns-clause-number : goal.returns-clause-number
returns-clause-number c = (whole c).number_is

pub returns-clause-bound : goal.returns-clause-bound
returns-clause-bound c = (whole c).bound
