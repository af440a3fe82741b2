use Rattle.std.proofs.Common.{◌≡◌, ℕ, List, get_or, ◌+◌, ◌-◌, ◌^◌, ◌<◌, ◌≤◌, min, length, take, sym, ap, ◌∙◌, arith}
use Rattle.std.proofs.lemmas.Result.{err_from_is_err_and}
use Rattle.std.specs.Char.{IsAsciiDigit}
use Rattle.cts_num.specs.Number.{digit_number}
use Rattle.cts_num.proofs.Fronts.{AllDigitsIn, HasPoint, digit_number-none, digit_number-all, digit_number_point}
use Rattle.cts_num.proofs.Steps.{bad_before_point, bad_after_point, tail_fault, whole_value, point_value, scaled_reading}
use Rattle.cts_num.proofs.read.read_some.Goals as goal

pub read_digits-whole-requires-clause-front : goal.read_digits-whole-requires-clause-front
read_digits-whole-requires-clause-front c = omega (arith, digit_number-none c.args.text.now)

pub returns-then-point-text : goal.returns-then-point-text
returns-then-point-text c =
    let text = c.args.text.now in
    let r = c.read_digits-whole in
    let all : AllDigitsIn text 0 (length text) = record { each = λ k lo hi. r.ensures.digits k lo (omega (arith, c.if-point-text.true)) } in
    let n : digit_number (take r.result.1 text) ≡ digit_number text = digit_number-all text r.result.1 (omega (arith, c.if-point-text.true)) in
    scaled_reading text c.args.places (digit_number text) r.result.0 c.args.places _ (r.ensures.number ∙ ap (λ x. min x (10 ^ 18)) n) (whole_value text c.args.places c.requires.some all) c.scaled.ensures

pub returns-then-text-point-ne46 : goal.returns-then-text-point-ne46
returns-then-text-point-ne46 c =
    let text = c.args.text.now in
    let r = c.read_digits-whole in
    bad_before_point text r.result.1 (omega (arith, r.ensures.to, c.if-point-text.false)) (record { each = r.ensures.digits }) (r.ensures.stop (omega (arith, r.ensures.to, c.if-point-text.false))) c.if-text-point-ne46.true

-- the first point
abbrev point : (text : List ℕ) (q : ℕ) → q ≤ length text → (q ≡ length text → ⊥) → get_or text q 0 ≡ 46 → ((k : ℕ) → 0 ≤ k → k < q → IsAsciiDigit (get_or text k 0)) → HasPoint text q
point text q le ne e digits = record { inside = omega (arith, ne); point = e; before = λ k lt. digits k (omega arith) lt }

pub read_digits-number-requires-clause-front : goal.read_digits-number-requires-clause-front
read_digits-number-requires-clause-front c =
    let text = c.args.text.now in
    let r = c.read_digits-whole in
    let p = point text r.result.1 r.ensures.to c.if-point-text.false c.if-text-point-ne46.false r.ensures.digits in
    r.ensures.number ∙ ap (λ x. min x (10 ^ 18)) (sym (digit_number_point text r.result.1 p))

pub returns-then-kept-end : goal.returns-then-kept-end
returns-then-kept-end c =
    let text = c.args.text.now in
    let r = c.read_digits-whole in
    let s = c.read_digits-number in
    let p = point text r.result.1 r.ensures.to c.if-point-text.false c.if-text-point-ne46.false r.ensures.digits in
    bad_after_point text r.result.1 s.result.1 p (omega (arith, s.ensures.from)) (omega (arith, c.if-kept-end.true, c.min-end.ensures)) (record { each = s.ensures.digits }) (s.ensures.stop c.if-kept-end.true)

pub returns-in_err-check_tail : goal.returns-in_err-check_tail
returns-in_err-check_tail c =
    let text = c.args.text.now in
    let r = c.read_digits-whole in
    let s = c.read_digits-number in
    let p = point text r.result.1 r.ensures.to c.if-point-text.false c.if-text-point-ne46.false r.ensures.digits in
    let kept : s.result.1 ≡ min (length text) (r.result.1 + 1 + c.args.places) = omega (arith, s.ensures.to, c.if-kept-end.false, c.min-end.ensures) in
    let h = tail_fault text r.result.1 s.result.1 c.args.places _ p (omega (arith, s.ensures.from)) kept (record { each = s.ensures.digits }) c.in_err-check_tail.ensures.fault in
    let q = err_from_is_err_and c.from_residual.result c.from_residual.ensures.1 in
    rw (q.1, q.2) h

pub returns : goal.returns
returns c =
    let text = c.args.text.now in
    let r = c.read_digits-whole in
    let s = c.read_digits-number in
    let p = point text r.result.1 r.ensures.to c.if-point-text.false c.if-text-point-ne46.false r.ensures.digits in
    let kept : s.result.1 ≡ min (length text) (r.result.1 + 1 + c.args.places) = omega (arith, s.ensures.to, c.if-kept-end.false, c.min-end.ensures) in
    let value = point_value text r.result.1 s.result.1 c.args.places p (omega (arith, s.ensures.from)) kept c.requires.not_point (record { each = s.ensures.digits }) (record { each = c.in_ok-check_tail.ensures.zeros }) in
    scaled_reading text c.args.places (digit_number (take s.result.1 text)) s.result.0 (c.args.places - (s.result.1 - r.result.1 - 1)) _ s.ensures.number value c.scaled-2.ensures
