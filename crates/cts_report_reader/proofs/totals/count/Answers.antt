use Rattle.std.proofs.Common.{◌≡◌, ◌<◌, ◌≤◌, ◌%◌, refl, arith}
use Rattle.cts_report_reader.specs.Words.{same}
use Rattle.cts_report_reader.proofs.Labels.{finds_none, finds_some}
use Rattle.cts_report_reader.proofs.PairReads.{count_unlabelled, count_too_high, count_is_even, count_goes_on, count_ends}
use Rattle.cts_report_reader.proofs.TotalReads.{found_is, nothing_is}
use Rattle.cts_report_reader.proofs.totals.count.Goals.{then-value-gt131071-via-then-value-gt131071, then-value-gt131071-via-else-value-gt131071+then-value-ne1}
use Rattle.cts_report_reader.proofs.totals.count.Goals as goal

pub labelled-requires : goal.labelled-requires
labelled-requires c = omega arith

pub returns-in_err-value-clause-found : goal.returns-in_err-value-clause-found
returns-in_err-value-clause-found c =
    finds_none same c.from_residual.result _ c.from_residual.ensures (count_unlabelled c.args.bytes.now (nothing_is same _ c.in_err-value.ensures.found))

pub returns-then-value-gt131071-clause-found : goal.returns-then-value-gt131071-clause-found
returns-then-value-gt131071-clause-found c =
    let is = found_is same c.in_ok-value.value c.in_ok-value.rest _ c.in_ok-value.ensures.found in
    elim c.then-value-gt131071.branch [
      | then-value-gt131071-via-then-value-gt131071 w ↦
          let high : 131071 < c.in_ok-value.value = omega arith in
          finds_none same _ _ refl (count_too_high c.args.bytes.now c.in_ok-value.value c.in_ok-value.rest.now is high)
      | then-value-gt131071-via-else-value-gt131071+then-value-ne1 w ↦
          let even : c.in_ok-value.value % 2 ≡ 0 = omega arith in
          finds_none same _ _ refl (count_is_even c.args.bytes.now c.in_ok-value.value c.in_ok-value.rest.now is even)
    ]

pub returns-in_err-rest-clause-found : goal.returns-in_err-rest-clause-found
returns-in_err-rest-clause-found c =
    let few : c.in_ok-value.value ≤ 131071 = omega arith in
    let odd : c.in_ok-value.value % 2 ≡ 1 = omega arith in
    finds_none same c.from_residual-in_err-rest.result _ c.from_residual-in_err-rest.ensures
    (count_goes_on c.args.bytes.now c.in_ok-value.value c.in_ok-value.rest.now (found_is same c.in_ok-value.value c.in_ok-value.rest _ c.in_ok-value.ensures.found)
    few odd (nothing_is same _ c.in_err-rest.ensures))

pub overflow_cast-result : goal.overflow_cast-result
overflow_cast-result c = omega arith

pub returns-clause-found : goal.returns-clause-found
returns-clause-found c =
    let few : c.in_ok-value.value ≤ 131071 = omega arith in
    let odd : c.in_ok-value.value % 2 ≡ 1 = omega arith in
    finds_some same c.in_ok-value.value c.in_ok-rest.rest _ c.in_ok-rest.rest.now
    (count_ends c.args.bytes.now c.in_ok-value.value c.in_ok-value.rest.now (found_is same c.in_ok-value.value c.in_ok-value.rest _ c.in_ok-value.ensures.found)
    c.in_ok-rest.rest.now few odd (found_is same tt c.in_ok-rest.rest _ c.in_ok-rest.ensures)) refl

pub returns-clause-few : goal.returns-clause-few
returns-clause-few c = omega arith
