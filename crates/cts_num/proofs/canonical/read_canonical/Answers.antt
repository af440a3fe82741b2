use Rattle.std.proofs.Common.{◌≡◌, true, false, sym, ap, ◌∙◌}
use Rattle.std.specs.Str.{bytes_eq}
use Rattle.cts_num.specs.Decimal.{decimal_text}
use Rattle.cts_num.specs.Number.{digit_number}
use Rattle.cts_num.proofs.CanonicalTexts.{canonical-too_great, canonical-other, canonical-is, written_at}
use Rattle.cts_num.proofs.canonical.read_canonical.Goals as goal

pub returns-in_err-number-clause-same : goal.returns-in_err-number-clause-same
returns-in_err-number-clause-same c = c.from_residual.ensures ∙ sym (canonical-too_great c.args.places c.args.text.now c.in_err-number.ensures)

pub returns-in_err-number-clause-some : goal.returns-in_err-number-clause-some
returns-in_err-number-clause-some c = written_at c.args.places c.args.text.now _ (returns-in_err-number-clause-same c)

pub returns-then-eq-clause-same : goal.returns-then-eq-clause-same
returns-then-eq-clause-same c =
    let number = c.in_ok-number.number in
    let same : bytes_eq (decimal_text c.args.places number) c.args.text.now ≡ true =
    ap (λ t. bytes_eq t c.args.text.now) (sym (c.bytes.ensures ∙ c.decimal.ensures.text)) ∙ sym c.eq.ensures ∙ c.if-eq.true in
    sym (canonical-is c.args.places number c.args.text.now same c.in_ok-number.ensures.1)

pub returns-then-eq-clause-some : goal.returns-then-eq-clause-some
returns-then-eq-clause-some c = written_at c.args.places c.args.text.now _ (returns-then-eq-clause-same c)

pub returns-else-eq-clause-same : goal.returns-else-eq-clause-same
returns-else-eq-clause-same c =
    let number = c.in_ok-number.number in
    let other : bytes_eq (decimal_text c.args.places (digit_number c.args.text.now)) c.args.text.now ≡ false =
    ap (λ n. bytes_eq (decimal_text c.args.places n) c.args.text.now) (sym c.in_ok-number.ensures.0)
    ∙ ap (λ t. bytes_eq t c.args.text.now) (sym (c.bytes.ensures ∙ c.decimal.ensures.text)) ∙ sym c.eq.ensures ∙ c.if-eq.false in
    sym (canonical-other c.args.places c.args.text.now other)

pub returns-else-eq-clause-some : goal.returns-else-eq-clause-some
returns-else-eq-clause-some c = written_at c.args.places c.args.text.now _ (returns-else-eq-clause-same c)
