use Rattle.std.proofs.Common.{◌≡◌, length, inl, inr, sym, ◌∙◌, arith, true, eqb, w64}
use Rattle.std.proofs.lemmas.Bool.Decides.{eqb_tells}
use Rattle.std.proofs.lemmas.Int.{to_z_pos}
use Rattle.cts_read.proofs.Plains.{plain_line}
use Rattle.cts_read.proofs.plain.plain_sink.Goals as goal

pub overflow_cast-result-2 : goal.overflow_cast-result-2
overflow_cast-result-2 c = omega (arith, c.in_ok-x.ensures.bound)

pub overflow_cast-result-3 : goal.overflow_cast-result-3
overflow_cast-result-3 c = omega (arith, c.in_ok-y.ensures.bound)

pub returns : goal.returns
returns c =
    let id = c.in_ok-id in
    let x = c.in_ok-x in
    let y = c.in_ok-y in
    let cap = c.in_ok-cap in
    let offset = c.in_ok-offset in
    let ended : eqb (length offset.rest.now) 0 ≡ true = sym c.is_empty.ensures ∙ c.if-not-is_empty.false in
    let none : length offset.rest.now ≡ 0 = elim (eqb_tells (length offset.rest.now) 0) [ inl p ↦ p.1 | inr p ↦ cc ] in
    rw (c.min.ensures, c.from.ensures, to_z_pos w64 x.x (omega (arith, x.ensures.bound)), to_z_pos w64 y.y (omega (arith, y.ensures.bound)))
    (plain_line c.args.line.now c.in_ok-rest.rest.now id.rest.now x.rest.now y.rest.now cap.rest.now id.id x.x y.y cap.cap c.in_ok-rest.ensures
    id.ensures.plain x.ensures.plain y.ensures.plain cap.ensures.plain c.args.version offset.offset offset.rest.now offset.ensures none)
