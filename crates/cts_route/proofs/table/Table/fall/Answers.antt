use Rattle.std.proofs.Common.{◌≡◌, ◌<◌, length, slice_index, refl, sym, ◌∙◌, arith}
use Rattle.cts_route.proofs.Labels.{sum_short, label_read}
use Rattle.cts_route.proofs.Falls.{no_fall_no_step, no_fall_unreached, no_fall_less}
use Rattle.cts_route.proofs.table.Table.fall.Goals as goal

pub returns-in_err-step : goal.returns-in_err-step
returns-in_err-step c =
    record {
      some = rw c.from_residual.ensures tt;
      direction = rw c.from_residual.ensures tt;
      inside = rw c.from_residual.ensures tt;
      none = rw c.from_residual.ensures
          (no_fall_no_step c.args.graph.now c.args.self.now.labels.items c.args.direction c.args.from c.in_err-step.ensures.none);
    }

pub overflow_add-label : goal.overflow_add-label
overflow_add-label c =
    let to_in : c.in_ok-step.step.to < length c.args.self.now.labels.items = (let inside = c.in_ok-step.ensures.inside in omega (arith, inside)) in
    let at : c.index-label.result.now ≡ slice_index c.args.self.now.labels.items c.in_ok-step.step.to =
    label_read c.args.self.now.labels.items c.in_ok-step.step.to c.index-label.result.now to_in c.index-label.ensures in
    let bound = sum_short c.args.graph.now c.args.self.now.goal c.args.self.now.labels.items c.in_ok-step.step.to c.in_ok-step.step.len
    c.requires.graph c.requires.labels to_in (let apart = c.if-label.false in omega (arith, at, apart)) c.in_ok-step.ensures.short in
    omega (arith, at, bound)

pub returns-then-label : goal.returns-then-label
returns-then-label c =
    let to_in : c.in_ok-step.step.to < length c.args.self.now.labels.items = (let inside = c.in_ok-step.ensures.inside in omega (arith, inside)) in
    let at : c.index-label.result.now ≡ slice_index c.args.self.now.labels.items c.in_ok-step.step.to =
    label_read c.args.self.now.labels.items c.in_ok-step.step.to c.index-label.result.now to_in c.index-label.ensures in
    record {
      some = tt;
      direction = tt;
      inside = tt;
      none = no_fall_unreached c.args.graph.now c.args.self.now.labels.items c.args.direction c.args.from c.in_ok-step.step.to c.in_ok-step.step.len
          c.in_ok-step.ensures.some (sym at ∙ c.if-label.true);
    }

pub returns-then-label-step : goal.returns-then-label-step
returns-then-label-step c =
    let to_in : c.in_ok-step.step.to < length c.args.self.now.labels.items = (let inside = c.in_ok-step.ensures.inside in omega (arith, inside)) in
    let at : c.index-label.result.now ≡ slice_index c.args.self.now.labels.items c.in_ok-step.step.to =
    label_read c.args.self.now.labels.items c.in_ok-step.step.to c.index-label.result.now to_in c.index-label.ensures in
    let from_in : c.args.from < length c.args.self.now.labels.items = omega arith in
    let at_from : c.index.result.now ≡ slice_index c.args.self.now.labels.items c.args.from =
    label_read c.args.self.now.labels.items c.args.from c.index.result.now from_in c.index.ensures in
    record {
      some = tt;
      direction = tt;
      inside = tt;
      none = no_fall_less c.args.graph.now c.args.self.now.labels.items c.args.direction c.args.from c.in_ok-step.step.to c.in_ok-step.step.len
          c.requires.settled to_in c.in_ok-step.ensures.some (λ e. let apart = c.if-label-step.true in absurd (apart (omega (arith, e, at, at_from))));
    }

pub returns : goal.returns
returns c =
    let to_in : c.in_ok-step.step.to < length c.args.self.now.labels.items = (let inside = c.in_ok-step.ensures.inside in omega (arith, inside)) in
    let at : c.index-label.result.now ≡ slice_index c.args.self.now.labels.items c.in_ok-step.step.to =
    label_read c.args.self.now.labels.items c.in_ok-step.step.to c.index-label.result.now to_in c.index-label.ensures in
    let from_in : c.args.from < length c.args.self.now.labels.items = omega arith in
    let at_from : c.index.result.now ≡ slice_index c.args.self.now.labels.items c.args.from =
    label_read c.args.self.now.labels.items c.args.from c.index.result.now from_in c.index.ensures in
    record {
      some = record { step = c.in_ok-step.ensures.some; whole = let e = c.if-label-step.false in omega (arith, e, at, at_from) };
      direction = refl;
      inside = omega (arith, to_in);
      none = tt;
    }
