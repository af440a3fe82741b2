use Rattle.std.proofs.Common.{◌≡◌, w64, FitsSigned, ap, ◌∙◌, rules, arith}
use Rattle.std.proofs.lemmas.Int.{to_z-of_z}
use Rattle.cts_geom.specs.declared.points.Half.{Half}
use Rattle.cts_geom.specs.Coordinate.{int_abs_diff}
use Rattle.cts_route.specs.Windows.{point_at}
use Rattle.cts_route.proofs.Edges.{start_apart, at_most_over, read_point}
use Rattle.cts_route.proofs.Labels.{label_read}
use Rattle.cts_route.proofs.Sweeps.{on_false}
use Rattle.cts_route.proofs.view.View.leads_out.Goals as goal

pub overflow_add-result : goal.overflow_add-result
overflow_add-result c =
    let view = c.args.self.now in
    let px : FitsSigned w64 c.point_at-p.result.x = search rules in
    let py : FitsSigned w64 c.point_at-p.result.y = search rules in
    let qx : FitsSigned w64 c.point_at-q.result.x = search rules in
    let qy : FitsSigned w64 c.point_at-q.result.y = search rules in
    let x : c.abs_diff.result ≡ int_abs_diff c.point_at-p.result.x c.point_at-q.result.x = simp to_z-of_z at c.abs_diff.ensures in
    let y : c.abs_diff-2.result ≡ int_abs_diff c.point_at-p.result.y c.point_at-q.result.y = simp to_z-of_z at c.abs_diff-2.ensures in
    let p : c.point_at-p.result ≡ point_at view.window.xs.items view.window.ys.items view.start =
    read_point view.start _ _ _ _ _ c.point_at-p.ensures c.as_slice-xs.ensures.value c.as_slice-ys.ensures.value in
    let q : c.point_at-q.result ≡ point_at view.window.xs.items view.window.ys.items c.args.cell =
    read_point c.args.cell _ _ _ _ _ c.point_at-q.ensures c.as_slice-xs.ensures.value c.as_slice-ys.ensures.value in
    let apart = start_apart view c.args.cell c.requires.view (omega arith) in
    let dx = x ∙ ap (λ (r : Half). int_abs_diff r.x c.point_at-q.result.x) p ∙ ap (λ (r : Half). int_abs_diff (point_at view.window.xs.items view.window.ys.items view.start).x r.x) q in
    let dy = y ∙ ap (λ (r : Half). int_abs_diff r.y c.point_at-q.result.y) p ∙ ap (λ (r : Half). int_abs_diff (point_at view.window.xs.items view.window.ys.items view.start).y r.y) q in
    let ax = apart.0 in
    let ay = apart.1 in
    omega (arith, dx, dy, ax, ay)

pub returns : goal.returns
returns c =
    let view = c.args.self.now in
    let px : FitsSigned w64 c.point_at-p.result.x = search rules in
    let py : FitsSigned w64 c.point_at-p.result.y = search rules in
    let qx : FitsSigned w64 c.point_at-q.result.x = search rules in
    let qy : FitsSigned w64 c.point_at-q.result.y = search rules in
    let x : c.abs_diff.result ≡ int_abs_diff c.point_at-p.result.x c.point_at-q.result.x = simp to_z-of_z at c.abs_diff.ensures in
    let y : c.abs_diff-2.result ≡ int_abs_diff c.point_at-p.result.y c.point_at-q.result.y = simp to_z-of_z at c.abs_diff-2.ensures in
    on_false _ _ (λ e. at_most_over view c.args.cell c.point_at-p.result c.point_at-q.result c.abs_diff.result c.abs_diff-2.result c.index-found.result.now c.index.result.now
    c.saturating_sub.result
    (read_point view.start _ _ _ _ _ c.point_at-p.ensures c.as_slice-xs.ensures.value c.as_slice-ys.ensures.value)
    (read_point c.args.cell _ _ _ _ _ c.point_at-q.ensures c.as_slice-xs.ensures.value c.as_slice-ys.ensures.value) x y
    (label_read view.table.labels.items view.start c.index-found.result.now c.requires.view.start_inside c.index-found.ensures)
    (label_read view.table.labels.items c.args.cell c.index.result.now (omega arith) c.index.ensures)
    c.saturating_sub.ensures e)
