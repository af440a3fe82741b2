use Rattle.std.proofs.Common.{◌≡◌, ℕ, ◌-◌, ◌/◌, ◌^◌, ◌≤◌, slice_index, ap, arith}
use Rattle.cts_route.proofs.Answered.{same_way, done_cut, done_route}
use Rattle.cts_route.proofs.Labels.{label_read}
use Rattle.cts_route.proofs.view.View.route.Goals as goal

no_label : (l m : ℕ) → l ≡ m → l ≡ 2 ^ 64 - 1 → 2 ^ 64 - 1 ≤ m
no_label l m e f = omega arith

pub returns-then-label-clause-cut : goal.returns-then-label-clause-cut
returns-then-label-clause-cut c = λ _ grid from to frame done.
    let at : c.index-label.result.now ≡ slice_index c.args.self.now.table.labels.items c.args.self.now.start =
    label_read c.args.self.now.table.labels.items c.args.self.now.start c.index-label.result.now c.requires.start_inside c.index-label.ensures in
    done_cut grid from to frame c.args.self.now done (no_label c.index-label.result.now _ at c.if-label.true)

pub returns-clause-route : goal.returns-clause-route
returns-clause-route c = λ grid from to frame done.
    let view = c.args.self.now in
    let at : c.index-label.result.now ≡ slice_index c.args.self.now.table.labels.items c.args.self.now.start =
    label_read c.args.self.now.table.labels.items c.args.self.now.start c.index-label.result.now c.requires.start_inside c.index-label.ensures in
    done_route grid from to frame view (record { corners = c.in_ok-of.field-0; length = c.index-label.result.now / 2 }) c.in_ok-corners.corners.items done
    (let apart = c.if-label.false in omega (arith, at, apart))
    (same_way view.window.xs.items view.window.ys.items c.as_slice-xs.result.now c.as_slice-ys.result.now view.window view.table view.start c.in_ok-corners.corners.items
    c.in_ok-corners.ensures c.as_slice-xs.ensures.value c.as_slice-ys.ensures.value)
    c.in_ok-of.ensures (ap (λ (l : ℕ). l / 2) at)
