use Rattle.std.proofs.Common.{◌≡◌, ◌+◌, ◌<◌, length, slice_index, refl, arith}
use Rattle.cts_route.proofs.Labels.{relaxed_by, sum_short, label_read, settled_unreached, settled_no_step, settled_no_shorter, total_falls}
use Rattle.cts_route.proofs.table.Table.relax.Goals as goal

pub returns-then-label : goal.returns-then-label
returns-then-label c =
    let at : c.index-label.result.now ≡ slice_index c.args.self.now.labels.items c.args.from =
    label_read c.args.self.now.labels.items c.args.from c.index-label.result.now (omega arith) c.index-label.ensures in
    record {
      labels = c.requires.labels;
      goal = refl;
      len = refl;
      next = tt;
      shorter = tt;
      kept = refl;
      settled = settled_unreached c.args.graph.now c.args.self.now.labels.items c.args.direction c.args.from
          (let none = c.if-label.true in omega (arith, at, none));
    }

pub overflow_add-label : goal.overflow_add-label
overflow_add-label c =
    let at : c.index-label.result.now ≡ slice_index c.args.self.now.labels.items c.args.from =
    label_read c.args.self.now.labels.items c.args.from c.index-label.result.now (omega arith) c.index-label.ensures in
    let bound = sum_short c.args.graph.now c.args.self.now.goal c.args.self.now.labels.items c.args.from c.in_ok-step.step.len
    c.requires.graph c.requires.labels (omega arith) (omega (arith, at)) c.in_ok-step.ensures.short in
    omega (arith, at, bound)

pub overflow_add-label-2 : goal.overflow_add-label-2
overflow_add-label-2 c = omega arith

pub returns-in_err-step : goal.returns-in_err-step
returns-in_err-step c =
    record {
      labels = c.requires.labels;
      goal = refl;
      len = refl;
      next = rw c.from_residual.ensures tt;
      shorter = rw c.from_residual.ensures tt;
      kept = rw c.from_residual.ensures refl;
      settled = rw c.from_residual.ensures
          (settled_no_step c.args.graph.now c.args.self.now.labels.items c.args.direction c.args.from c.in_err-step.ensures.none);
    }

pub returns-then-index-label : goal.returns-then-index-label
returns-then-index-label c =
    let at : c.index-label.result.now ≡ slice_index c.args.self.now.labels.items c.args.from =
    label_read c.args.self.now.labels.items c.args.from c.index-label.result.now (omega arith) c.index-label.ensures in
    let to_in : c.in_ok-step.step.to < length c.args.self.now.labels.items = (let inside = c.in_ok-step.ensures.inside in omega (arith, inside)) in
    let at_to : c.index.result.now ≡ slice_index c.args.self.now.labels.items c.in_ok-step.step.to =
    label_read c.args.self.now.labels.items c.in_ok-step.step.to c.index.result.now to_in c.index.ensures in
    record {
      labels = c.requires.labels;
      goal = refl;
      len = refl;
      next = tt;
      shorter = tt;
      kept = refl;
      settled = settled_no_shorter c.args.graph.now c.args.self.now.labels.items c.args.direction c.args.from c.in_ok-step.step.to c.in_ok-step.step.len
          c.in_ok-step.ensures.some (let le = c.if-index-label.true in omega (arith, at, at_to, le));
    }

pub returns : goal.returns
returns c =
    let at : c.index-label.result.now ≡ slice_index c.args.self.now.labels.items c.args.from =
    label_read c.args.self.now.labels.items c.args.from c.index-label.result.now (omega arith) c.index-label.ensures in
    let to_in : c.in_ok-step.step.to < length c.args.self.now.labels.items = (let inside = c.in_ok-step.ensures.inside in omega (arith, inside)) in
    let at_to : c.index.result.now ≡ slice_index c.args.self.now.labels.items c.in_ok-step.step.to =
    label_read c.args.self.now.labels.items c.in_ok-step.step.to c.index.result.now to_in c.index.ensures in
    let less : c.index-label.result.now + c.in_ok-step.step.len < slice_index c.args.self.now.labels.items c.in_ok-step.step.to = omega (arith, at_to) in
    record {
      labels = relaxed_by c.args.graph.now c.args.self.now.goal c.args.self.now.labels.items c.args.direction c.args.from c.in_ok-step.step.to c.in_ok-step.step.len
          c.index-label.result.now c.requires.graph c.requires.labels (omega arith) at (λ e. absurd (omega arith)) (omega arith)
          c.in_ok-step.ensures.some c.in_ok-step.ensures.short to_in less;
      goal = refl;
      len = refl;
      next = omega (arith, to_in);
      shorter = total_falls c.args.self.now.labels.items c.in_ok-step.step.to (c.index-label.result.now + c.in_ok-step.step.len) to_in less;
      kept = tt;
      settled = tt;
    }
