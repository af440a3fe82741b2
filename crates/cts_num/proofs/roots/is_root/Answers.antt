use Rattle.std.proofs.Common.{◌≡◌, ◌+◌, ◌*◌, ap, arith}
use Rattle.cts_num.proofs.Floors.{root_is}
use Rattle.cts_num.proofs.roots.is_root.Goals as goal

pub returns-then-n-square : goal.returns-then-n-square
returns-then-n-square c =
    let r = c.args.root in
    let e = c.from-root.ensures in
    let same : c.from-root.result * c.from-root.result ≡ r * r = ap (λ x. x * x) e in
    let next : (r + 1) * (r + 1) ≡ r * r + 2 * r + 1 = omega arith in
    root_is c.args.n r (omega (arith, c.if-square-n.true, same)) (omega (arith, next, c.if-square-n.true, c.if-n-square.true, same, e))
