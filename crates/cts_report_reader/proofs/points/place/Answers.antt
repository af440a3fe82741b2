use Rattle.std.proofs.Common.{◌≡◌, ◌+◌, ◌/◌, ◌%◌, None, refl, arith}
use Rattle.std.proofs.lemmas.Int.{ints}
use Rattle.cts_report_reader.specs.Seen.{seen_half, seen_point}
use Rattle.cts_report_reader.specs.Words.{same}
use Rattle.cts_report_reader.proofs.Labels.{finds_none, finds_some}
use Rattle.cts_report_reader.proofs.PlaceReads.{place_no_word, place_no_point, place_there, place_odd}
use Rattle.cts_report_reader.proofs.TotalReads.{found_is, nothing_is}
use Rattle.cts_report_reader.proofs.points.place.Goals as goal

pub returns-in_err-rest-clause-found : goal.returns-in_err-rest-clause-found
returns-in_err-rest-clause-found c =
    finds_none (λ p. (tt, seen_point p)) c.from_residual.result _ c.from_residual.ensures
    (place_no_word c.args.bytes.now (nothing_is same _ c.in_err-rest.ensures))

pub returns-in_err-at-clause-found : goal.returns-in_err-at-clause-found
returns-in_err-at-clause-found c =
    finds_none (λ p. (tt, seen_point p)) c.from_residual-in_err-at.result _ c.from_residual-in_err-at.ensures
    (place_no_point c.args.bytes.now c.in_ok-rest.rest.now (found_is same tt c.in_ok-rest.rest _ c.in_ok-rest.ensures) (nothing_is seen_point _ c.in_err-at.ensures.found))

pub returns-then-at-eq0-clause-found : goal.returns-then-at-eq0-clause-found
returns-then-at-eq0-clause-found c =
    let at = c.in_ok-at.at in
    let even : (seen_half at.x / 5 + seen_half at.y / 5) % 2 ≡ 0 = omega (arith, ints, c.if-at-eq0.true, c.in_ok-at.ensures.seen.x, c.in_ok-at.ensures.seen.y) in
    finds_some (λ p. (tt, seen_point p)) at c.in_ok-at.rest _ c.in_ok-at.rest.now
    (place_there c.args.bytes.now c.in_ok-rest.rest.now c.in_ok-at.rest.now (seen_point at) (found_is same tt c.in_ok-rest.rest _ c.in_ok-rest.ensures)
    (found_is seen_point at c.in_ok-at.rest _ c.in_ok-at.ensures.found) even) refl

pub returns-else-at-eq0-clause-found : goal.returns-else-at-eq0-clause-found
returns-else-at-eq0-clause-found c =
    let at = c.in_ok-at.at in
    let odd : (seen_half at.x / 5 + seen_half at.y / 5) % 2 ≡ 0 → ⊥ = λ e. c.if-at-eq0.false (omega (arith, ints, e, c.in_ok-at.ensures.seen.x, c.in_ok-at.ensures.seen.y)) in
    finds_none (λ p. (tt, seen_point p)) None _ refl
    (place_odd c.args.bytes.now c.in_ok-rest.rest.now c.in_ok-at.rest.now (seen_point at) (found_is same tt c.in_ok-rest.rest _ c.in_ok-rest.ensures)
    (found_is seen_point at c.in_ok-at.rest _ c.in_ok-at.ensures.found) odd)
