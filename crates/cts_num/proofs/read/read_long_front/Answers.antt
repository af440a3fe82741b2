use Rattle.std.proofs.Common.{◌≢◌, ◌^◌, min, get_or, sym, ap, ◌∙◌, arith}
use Rattle.cts_num.proofs.Fronts.{HasPoint, digit_number-none, digit_number_point}
use Rattle.cts_num.proofs.FrontNumbers.{digits_in_front, no_point_past, reads_none, reads_pointed, reads_whole, size_none, size_pointed, size_whole}
use Rattle.cts_num.proofs.read.read_long_front.Goals as goal
use Rattle.cts_num.proofs.read.read_long_front.Goals.{then-point-text-via-then-point-text, then-point-text-via-else-point-text+then-text-point-ne46}

pub read_digits-front-requires-clause-front : goal.read_digits-front-requires-clause-front
read_digits-front-requires-clause-front c = omega (arith, digit_number-none c.args.text.now)

pub returns-then-point-eq0-clause-size : goal.returns-then-point-eq0-clause-size
returns-then-point-eq0-clause-size c =
    let text = c.args.text.now in
    let r = c.read_digits-front in
    let front = digits_in_front text r.result.1 r.ensures.to (record { each = r.ensures.digits }) r.ensures.stop in
    size_none c.args.places text (front ∙ c.if-point-eq0.true)

pub returns-then-point-eq0-clause-reading : goal.returns-then-point-eq0-clause-reading
returns-then-point-eq0-clause-reading c = reads_none c.args.text.now c.args.places

pub returns-then-point-text-clause-size : goal.returns-then-point-text-clause-size
returns-then-point-text-clause-size c =
    let text = c.args.text.now in
    let r = c.read_digits-front in
    let front = digits_in_front text r.result.1 r.ensures.to (record { each = r.ensures.digits }) r.ensures.stop in
    let other : get_or text r.result.1 0 ≢ 46 =
    elim c.then-point-text.branch [
      | then-point-text-via-then-point-text w ↦ no_point_past text r.result.1 w.if-point-text.true
      | then-point-text-via-else-point-text+then-text-point-ne46 w ↦ w.if-text-point-ne46.true
    ] in
    size_whole c.args.places text r.result.1 front other

pub returns-then-point-text-clause-reading : goal.returns-then-point-text-clause-reading
returns-then-point-text-clause-reading c =
    let r = c.read_digits-front in
    reads_whole c.args.text.now c.args.places r.result.1 r.result.0 c.scaled.result (omega (arith, c.if-point-eq0.false)) r.ensures.to
    (record { each = r.ensures.digits }) r.ensures.number c.scaled.ensures

pub read_fraction-number-requires-clause-front : goal.read_fraction-number-requires-clause-front
read_fraction-number-requires-clause-front c =
    let text = c.args.text.now in
    let r = c.read_digits-front in
    let p : HasPoint text r.result.1 = record {
      inside = omega (arith, c.if-point-text.false, r.ensures.to);
      point = c.if-text-point-ne46.false;
      before = λ k lt. r.ensures.digits k (omega arith) lt;
    } in
    r.ensures.number ∙ ap (λ x. min x (10 ^ 18)) (sym (digit_number_point text r.result.1 p))

pub returns-clause-size : goal.returns-clause-size
returns-clause-size c =
    let text = c.args.text.now in
    let r = c.read_digits-front in
    let s = c.read_fraction-number in
    let front = digits_in_front text r.result.1 r.ensures.to (record { each = r.ensures.digits }) r.ensures.stop in
    size_pointed c.args.places text r.result.1 s.result.1 front (omega (arith, c.if-point-eq0.false)) (omega (arith, c.if-point-text.false, r.ensures.to))
    c.if-text-point-ne46.false s.ensures.from (omega (arith, s.ensures.to, c.min-end.ensures)) (record { each = s.ensures.digits })
    (λ less. s.ensures.stop (omega (arith, less, c.min-end.ensures)))

pub returns-clause-reading : goal.returns-clause-reading
returns-clause-reading c =
    let r = c.read_digits-front in
    let s = c.read_fraction-number in
    reads_pointed c.args.text.now c.args.places r.result.1 s.result.1 s.result.0 c.scaled-2.result (omega (arith, c.if-point-eq0.false)) s.ensures.from
    (omega (arith, s.ensures.to, c.min-end.ensures)) (omega (arith, s.ensures.to, c.min-end.ensures)) (record { each = r.ensures.digits })
    c.if-text-point-ne46.false (record { each = s.ensures.digits }) s.ensures.number c.scaled-2.ensures
