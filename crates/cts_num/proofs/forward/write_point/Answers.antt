use Rattle.std.proofs.Common.{◌≡◌, ◌+◌, ◌-◌, ◌%◌, ◌^◌, ◌<◌, ◌∙◌, [], ◌∷◌, take, refl, ap, length, arith, append-nil, append_assoc, mod-lt}
use Rattle.std.proofs.lemmas.List.{take_more_set}
use Rattle.cts_num.specs.Decimal.{fraction_text, padded_text}
use Rattle.cts_num.proofs.Pieces.{take_piece}
use Rattle.cts_num.proofs.Texts.{fraction_text-zero, fraction_text-some, length-fraction_text-some, length-padded_text, ten_pos}
use Rattle.cts_num.proofs.forward.write_point.Goals as goal

pub returns-then-places-eq0-clause-size : goal.returns-then-places-eq0-clause-size
returns-then-places-eq0-clause-size c =
    omega (arith, ap (λ p. length (fraction_text p c.args.number)) c.if-places-eq0.true, ap length (fraction_text-zero c.args.number))

pub returns-then-places-eq0-clause-written : goal.returns-then-places-eq0-clause-written
returns-then-places-eq0-clause-written c = rw (c.if-places-eq0.true, fraction_text-zero c.args.number, append-nil) refl

pub returns-clause-size : goal.returns-clause-size
returns-clause-size c = omega (arith, length-fraction_text-some c.args.places c.args.number (omega (arith, c.if-places-eq0.false)))

pub returns-clause-written : goal.returns-clause-written
returns-clause-written c =
    let at = c.args.at in
    let p = c.args.places in
    let n = c.args.number in
    let low = c.write_low.ensures in
    let some : 0 < p = omega (arith, c.if-places-eq0.false) in
    let e : at + 1 + p - p ≡ at + 1 = omega arith in
    let long = length-padded_text p (n % 10 ^ p) (mod-lt n (ten_pos p)) in
    take_piece (at + 1) p _ _ _ _ (rw e at low.before) (rw e at low.written) long
    ∙ rw (take_more_set c.args.text.now at 46 (omega (arith, c.requires.room)), fraction_text-some p n some) (append_assoc (take at c.args.text.now) (46 ∷ []) (padded_text p (n % 10 ^ p)))
