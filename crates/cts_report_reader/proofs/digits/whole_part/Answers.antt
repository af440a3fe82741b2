use Rattle.std.proofs.Common.{◌≡◌, ◌≢◌, ℕ, ◌^◌, ◌≤◌, false, eqb, get_or, sym, ◌∙◌, inl, inr, arith}
use Rattle.std.proofs.lemmas.Bool.Decides.{eqb_tells}
use Rattle.std.proofs.Math.Nat.{pow-le-pow_right}
use Rattle.cts_report_reader.proofs.Numerals.{front_is_whole}
use Rattle.cts_report_reader.proofs.digits.whole_part.Goals as goal
use Rattle.cts_report_reader.proofs.digits.whole_part.Goals.{then-size-gt1, else-size-gt1}

other : (a b : ℕ) → eqb a b ≡ false → a ≢ b
other a b e = elim (eqb_tells a b) [ inl p ↦ cc | inr p ↦ p.1 ]

pub returns-clause-text : goal.returns-clause-text
returns-clause-text c =
    let found = c.digits-whole.ensures in
    front_is_whole c.args.bytes.now c.digits-whole.result.1 c.digits-whole.result.0 (omega arith) found.inside found.digits
    (λ more. elim c.if-size-gt1.branch [ then-size-gt1 w ↦ other (get_or c.args.bytes.now 0 0) 48 (sym w.value-is ∙ c.if-bytes-eq48.false) | else-size-gt1 w ↦ absurd (omega (arith, more)) ])
    found.number

pub returns-clause-few : goal.returns-clause-few
returns-clause-few c =
    let unit : 10 ^ c.digits-whole.result.1 ≤ 10 ^ 18 = pow-le-pow_right {n = 10} (omega arith) {i = c.digits-whole.result.1} {j = 18} c.digits-whole.ensures.few in
    omega (arith, c.digits-whole.ensures.small, unit)
