use Rattle.std.proofs.Common.{◌≡◌, ◌*◌, ◌+◌, ◌/◌, ◌^◌, ◌<◌, ◌∷◌, ◌++◌, sym, ap, ap₂, ◌∙◌, arith}
use Rattle.std.proofs.lemmas.Nat.{div-mul-add}
use Rattle.cts_num.specs.Decimal.{fraction_text}
use Rattle.cts_num.proofs.Texts.{fraction_text-zero}
use Rattle.cts_num.proofs.Tables.{power_at}
use Rattle.cts_report_reader.proofs.Numerals.{point_and_digits}
use Rattle.cts_report_reader.proofs.digits.with_fraction.Goals as goal

pub returns-then-places-eq0-clause-text : goal.returns-then-places-eq0-clause-text
returns-then-places-eq0-clause-text c =
    sym (ap (λ t. t ++ c.args.bytes.now) (ap (λ p. fraction_text p c.from.result) c.if-places-eq0.true ∙ fraction_text-zero c.from.result))

pub returns-clause-whole : goal.returns-clause-whole
returns-clause-whole c =
    let found = c.in_ok-fraction.ensures in
    let unit : c.from-3.result ≡ 10 ^ c.args.places = c.from-3.ensures ∙ power_at c.args.places c.requires.places in
    let less : c.from-4.result < 10 ^ c.args.places = omega (arith, c.from-4.ensures, found.small, ap (λ n. 10 ^ n) c.split_at.ensures.front_len) in
    ap₂ (λ w u. (w * u + c.from-4.result) / 10 ^ c.args.places) c.from-2.ensures unit
    ∙ div-mul-add c.args.whole (10 ^ c.args.places) c.from-4.result less

pub returns-clause-text : goal.returns-clause-text
returns-clause-text c =
    let rest = c.in_ok-rest.rest.now in
    let found = c.in_ok-fraction.ensures in
    let unit : c.from-3.result ≡ 10 ^ c.args.places = c.from-3.ensures ∙ power_at c.args.places c.requires.places in
    point_and_digits c.args.places c.from-2.result c.from-4.result c.from-3.result c.args.bytes.now c.split_at.result.0.now c.split_at.result.1.now
    (omega arith) c.split_at.ensures.front_len found.digits unit (c.from-4.ensures ∙ found.number)
    (c.in_ok-rest.ensures ∙ ap (λ t. 46 ∷ t) c.split_at.ensures.by_index.0)

pub split_at-requires : goal.split_at-requires
split_at-requires c = omega arith

pub all_digits-requires : goal.all_digits-requires
all_digits-requires c = omega arith

pub offset_bounds-places : goal.offset_bounds-places
offset_bounds-places c = omega arith

pub bounds-places : goal.bounds-places
bounds-places c = omega arith

pub returns-then-places-eq0-clause-small : goal.returns-then-places-eq0-clause-small
returns-then-places-eq0-clause-small c = omega arith
