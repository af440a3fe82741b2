use Rattle.std.proofs.Common.{◌≡◌, ◌<◌, ◌+◌, ◌-◌, map, All, Vec, Global, refl, sym, ap, ◌∙◌, subst, arith}
use Rattle.std.proofs.lemmas.List.Elements.{All-nil, All-push}
use Rattle.cts_geom.specs.declared.points.Half.{Half}
use Rattle.cts_report_reader.specs.Seen.{IsSeen, seen_point, fronted}
use Rattle.cts_report_reader.specs.Words.{point_at, points_at}
use Rattle.cts_report_reader.proofs.PointLoops.{points_begin, points_step, points_none, points_done, finds_in_none, finds_in_some}
use Rattle.cts_report_reader.proofs.points.points.Goals as goal

pub returns-in_default-clause-found : goal.returns-in_default-clause-found
returns-in_default-clause-found c =
    let l = c.loop-index in
    let lt : l._index < c.args.count = c.loop-index-test.true in
    finds_in_none (λ (ps : Vec Half Global). map seen_point ps.items) _
    (points_none c.args.count l._index (map seen_point l.items.items) _ l.rest.now (point_at l.rest.now) lt l.invariant.found refl c.in_default.ensures.found)

pub returns-clause-found : goal.returns-clause-found
returns-clause-found c =
    let l = c.loop-index in
    let e : l._index ≡ c.args.count = omega arith in
    finds_in_some (λ (ps : Vec Half Global). map seen_point ps.items) l.items l.rest _
    (points_done c.args.count l._index (map seen_point l.items.items) _ l.rest.now e l.invariant.found)

pub loop-index-init : goal.loop-index-init
loop-index-init c =
    let none = c.new-items.ensures.items in
    record {
      found = ap (λ ps. fronted (map seen_point ps) (points_at (c.args.count - 0) c.args.bytes.now)) none ∙ points_begin c.args.count c.args.bytes.now;
      seen = subst (All IsSeen) (sym none) (All-nil IsSeen);
    }

pub loop-index-preserved : goal.loop-index-preserved
loop-index-preserved c =
    let l = c.loop-index in
    let lt : l._index < c.args.count = c.loop-index-test.true in
    let pushed = c.in_ok-push.ensures.items in
    record {
      found = ap (λ ps. fronted (map seen_point ps) (points_at (c.args.count - (l._index + 1)) c.in-Some.after.now)) pushed
          ∙ points_step c.args.count l._index l.items.items _ l.rest.now c.in-Some.next (point_at l.rest.now) c.in-Some.after lt l.invariant.found refl c.in-Some.ensures.found;
      seen = subst (All IsSeen) (sym pushed) (All-push IsSeen l.items.items c.in-Some.next l.invariant.seen c.in-Some.ensures.seen);
    }
