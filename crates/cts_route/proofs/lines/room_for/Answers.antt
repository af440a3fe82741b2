use Rattle.std.proofs.Common.{◌≡◌, ℕ, ◌+◌, ◌<◌, ◌-◌, ℤ, ◌≤ℤ◌, ◌<ℤ◌, w64, FitsSigned, to_z, of_z, length, rules, refl, sym, ap, ◌∙◌, subst, arith}
use Rattle.std.specs.List.{Contains}
use Rattle.std.proofs.lemmas.Int.{to_z-of_z}
use Rattle.cts_route.specs.LineLists.{line_at}
use Rattle.cts_route.proofs.Insertions.{less_told, not_less_told, strictly_below, contains_at, room_after}
use Rattle.cts_route.proofs.lines.room_for.Goals as goal

pub loop-after-init : goal.loop-after-init
loop-after-init c = λ lt. absurd (omega arith)

pub loop-after-preserved : goal.loop-after-preserved
loop-after-preserved c =
    let line : FitsSigned w64 c.args.line = c.ranges.line in
    let at : FitsSigned w64 (line_at c.args.lines.now (c.loop-after.after - 1)) = search rules in
    let le : c.args.line ≤ℤ line_at c.args.lines.now (c.loop-after.after - 1) = not_less_told _ _ at line c.if-lines-after-2.false in
    λ lt. subst (λ (z : ℤ). z <ℤ line_at c.args.lines.now (c.loop-after.after - 1)) (sym (to_z-of_z w64 _ line))
    (strictly_below _ _ (λ e. c.if-lines-after.false (ap (of_z w64) e)) le)

pub returns-then-lines-after-clause-there : goal.returns-then-lines-after-clause-there
returns-then-lines-after-clause-there c =
    let line : FitsSigned w64 c.args.line = c.ranges.line in
    let at : FitsSigned w64 (line_at c.args.lines.now (c.loop-after.after - 1)) = search rules in
    let same : line_at c.args.lines.now (c.loop-after.after - 1) ≡ c.args.line =
    sym (to_z-of_z w64 _ at) ∙ ap (to_z w64) c.if-lines-after.true ∙ to_z-of_z w64 _ line in
    subst (λ (z : ℤ). Contains c.args.lines.now z) same
    (contains_at c.args.lines.now (c.loop-after.after - 1) (let some = c.loop-after-test.true in let le = c.loop-after.auto.after in omega (arith, some, le)))

pub returns-then-lines-after-2-clause-room : goal.returns-then-lines-after-2-clause-room
returns-then-lines-after-2-clause-room c =
    let line : FitsSigned w64 c.args.line = c.ranges.line in
    let at : FitsSigned w64 (line_at c.args.lines.now (c.loop-after.after - 1)) = search rules in
    let less : line_at c.args.lines.now (c.loop-after.after - 1) <ℤ c.args.line = less_told _ _ at line c.if-lines-after-2.true in
    let before : ℕ = c.loop-after.after - 1 in
    let after : c.loop-after.after ≡ before + 1 = (let some = c.loop-after-test.true in omega (arith, some)) in
    let above : c.loop-after.after < length c.args.lines.now → c.args.line <ℤ line_at c.args.lines.now c.loop-after.after = simp to_z-of_z at c.loop-after.invariant in
    room_after c.args.lines.now c.args.line before (before + 1) c.requires refl (let le = c.loop-after.auto.after in omega (arith, le, after)) less
    (subst (λ (k : ℕ). k < length c.args.lines.now → c.args.line <ℤ line_at c.args.lines.now k) after above)

pub returns-clause-room : goal.returns-clause-room
returns-clause-room c =
    let line : FitsSigned w64 c.args.line = c.ranges.line in
    let first : c.loop-after.after ≡ 0 = omega arith in
    let above : c.loop-after.after < length c.args.lines.now → c.args.line <ℤ line_at c.args.lines.now c.loop-after.after = simp to_z-of_z at c.loop-after.invariant in
    record {
      bound = omega arith;
      below = λ k lt. absurd (omega arith);
      above = subst (λ (k : ℕ). k < length c.args.lines.now → c.args.line <ℤ line_at c.args.lines.now k) first above;
    }
