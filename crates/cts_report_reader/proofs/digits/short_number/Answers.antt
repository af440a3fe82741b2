use Rattle.std.proofs.Common.{◌≡◌, ◌/◌, ◌^◌, ◌++◌, sym, ap, ◌∙◌}
use Rattle.cts_num.specs.Decimal.{whole_text}
use Rattle.cts_report_reader.proofs.Numerals.{parts_are_number}
use Rattle.cts_report_reader.proofs.digits.short_number.Goals as goal

pub returns-then-is_ended-clause-found : goal.returns-then-is_ended-clause-found
returns-then-is_ended-clause-found c =
    let value = c.in_ok-value.value in
    let rest = c.in_ok-whole.rest.now in
    let whole : c.args.bytes.now ≡ whole_text (value / 10 ^ c.args.places) ++ rest =
    c.in_ok-whole.ensures.text ∙ ap (λ n. whole_text n ++ rest) (sym c.in_ok-value.ensures.whole) in
    parts_are_number c.args.places value c.args.bytes.now rest c.in_ok-value.rest.now whole c.in_ok-value.ensures.text c.in_ok-value.ensures.small
    c.if-is_ended.ensures
