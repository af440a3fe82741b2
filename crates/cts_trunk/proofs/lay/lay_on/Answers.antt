use Rattle.std.proofs.Common.{◌≡◌, ◌+◌, ◌-◌, ◌/◌, ◌≤◌, List, length, get_or, rules, sym, ap, subst, ◌∙◌, arith}
use Rattle.std.specs.Prelude.{IfOk, IfErr}
use Rattle.std.specs.List.{All}
use Rattle.cts_units.specs.declared.params.Buffer.{Buffer}
use Rattle.cts_units.specs.Limits.{max_delay}
use Rattle.cts_elmore.specs.declared.figures.NodeFigure.{NodeFigure}
use Rattle.cts_trunk.specs.declared.places.Stand.{Stand}
use Rattle.cts_trunk.specs.declared.sums.Reach.{Reach}
use Rattle.cts_trunk.specs.Assembled.{EndsWith, IsTrunkWith}
use Rattle.cts_trunk.specs.Laid.{Ends, IsLaid}
use Rattle.cts_trunk.specs.Lines.{IsPrintableTrunk}
use Rattle.cts_trunk.specs.Places.{trunk_way}
use Rattle.cts_trunk.specs.TrunkSums.{AreReaches, EndsSums, StandBefore, wires_of}
use Rattle.cts_trunk.proofs.Concluding.{walk_end, before_root, sums_end, with_end, laid_here, if_ok, if_err}
use Rattle.cts_trunk.proofs.Printable.{printable}
use Rattle.cts_trunk.proofs.lay.lay_on.Goals as goal

abbrev no_buffer : Buffer
no_buffer = record { cin = 0; rout = 0; intrinsic = 0 }

abbrev no_figure : NodeFigure
no_figure = record { below = 0; offset = 0; residue = 0; delay = 0; stage = 0 }

pub returns-in-Err-clause-end : goal.returns-in-Err-clause-end
returns-in-Err-clause-end c =
    walk_end c.args.instance.now c.args.nodes.now c.args.figures.now c.args.step c.args.buffer c.requires.known c.requires.buffer
    c.index-nodes-nodes.result c.index-nodes-nodes.is c.in-Err.end c.in-Err.ensures.end

pub reaches_along-requires-clause-stands : goal.reaches_along-requires-clause-stands
reaches_along-requires-clause-stands c =
    let i = c.args.instance.now in
    let drive = c.drive_of-drive.result in
    let repeater_is : drive.repeater ≡ get_or i.params.library c.args.buffer no_buffer = search rules in
    subst (StandBefore drive.root_at) (sym c.as_slice.ensures.value)
    (before_root i c.args.nodes.now c.args.figures.now c.args.step c.args.buffer c.requires.known c.requires.buffer
    c.index-nodes-nodes.result c.index-nodes-nodes.is c.in-Ok.stands.items c.in-Ok.ensures.stands drive repeater_is
    c.drive_of-drive.ensures.root_at c.drive_of-drive.ensures.root_seen)

pub returns-in-Err-reaches_along-clause-end : goal.returns-in-Err-reaches_along-clause-end
returns-in-Err-reaches_along-clause-end c =
    let i = c.args.instance.now in
    let drive = c.drive_of-drive.result in
    let repeater_is : drive.repeater ≡ get_or i.params.library c.args.buffer no_buffer = search rules in
    let told = c.in-Err-reaches_along.ensures.end i c.drive_of-drive.ensures.drive in
    sums_end i c.args.nodes.now c.args.figures.now c.args.step c.args.buffer c.requires.known c.requires.buffer
    c.index-nodes-nodes.result c.index-nodes-nodes.is c.in-Ok.stands.items c.in-Ok.ensures.stands drive repeater_is
    c.drive_of-drive.ensures.root_at c.drive_of-drive.ensures.root_seen c.in-Err-reaches_along.end
    (subst (λ (ps : List Stand). EndsSums i drive.repeater (wires_of drive ps) (length ps) c.in-Err-reaches_along.end) c.as_slice.ensures.value told)

pub trunk_with-requires-clause-reaches : goal.trunk_with-requires-clause-reaches
trunk_with-requires-clause-reaches c =
    let told = c.in-Ok-reaches_along.ensures.reaches c.args.instance.now c.drive_of-drive.ensures.drive in
    ap (λ (rs : List Reach). length rs) c.as_slice-3.ensures.value ∙ told.long
    ∙ ap (λ (ps : List Stand). length ps + 1) (c.as_slice.ensures.value ∙ sym c.as_slice-2.ensures.value)

pub trunk_with-requires-clause-delays : goal.trunk_with-requires-clause-delays
trunk_with-requires-clause-delays c =
    let told = c.in-Ok-reaches_along.ensures.reaches c.args.instance.now c.drive_of-drive.ensures.drive in
    subst (All (λ (r : Reach). r.delay ≤ max_delay)) (sym c.as_slice-3.ensures.value)
    (λ k d h. told.each_within k d (omega (arith, h, told.long)))

pub trunk_with-requires-clause-stages : goal.trunk_with-requires-clause-stages
trunk_with-requires-clause-stages c =
    let told = c.in-Ok-reaches_along.ensures.reaches c.args.instance.now c.drive_of-drive.ensures.drive in
    subst (All (λ (r : Reach). r.stage ≤ max_delay)) (sym c.as_slice-3.ensures.value)
    (λ k d h.
    omega (
      arith,
      told.each_within k d (omega (arith, h, told.long)),
      (told.each_wire k d (omega (arith, h, told.long))).stage_le,
    ))

pub returns-clause-laid : goal.returns-clause-laid
returns-clause-laid c =
    let i = c.args.instance.now in
    let drive = c.drive_of-drive.result in
    let repeater_is : drive.repeater ≡ get_or i.params.library c.args.buffer no_buffer = search rules in
    let told = c.in-Ok-reaches_along.ensures.reaches i c.drive_of-drive.ensures.drive in
    let reaches = c.in-Ok-reaches_along.reaches.items in
    let are = subst (λ (ps : List Stand). AreReaches i drive.repeater (wires_of drive ps) (length ps + 1) reaches) c.as_slice.ensures.value told in
    let old = (get_or c.items-2.result.now (length c.args.nodes.now - 1) no_figure).delay in
    let old_is = ap (λ (fs : List NodeFigure). (get_or fs (length c.args.nodes.now - 1) no_figure).delay) c.items-2.ensures ∙ c.requires.known.old no_figure in
    let here = laid_here i c.args.nodes.now c.args.figures.now c.args.step c.args.buffer c.requires.known c.requires.buffer
    c.index-nodes-nodes.result c.index-nodes-nodes.is c.in-Ok.stands.items c.in-Ok.ensures.stands drive repeater_is
    c.drive_of-drive.ensures.root_at c.drive_of-drive.ensures.root_seen reaches are old old_is c.params.ensures.valid.params.wire in
    let given = subst (λ (rs : List Reach). IfOk c.trunk_with.result (IsTrunkWith i c.args.nodes.now c.args.figures.now c.in-Ok.stands.items rs old)) c.as_slice-3.ensures.value
    (subst (λ (ps : List Stand). IfOk c.trunk_with.result (IsTrunkWith i c.args.nodes.now c.args.figures.now ps c.as_slice-3.result.now old)) c.as_slice-2.ensures.value
    c.trunk_with.ensures.trunk) in
    if_ok (IsTrunkWith i c.args.nodes.now c.args.figures.now c.in-Ok.stands.items reaches old)
    (IsLaid i c.args.nodes.now c.args.step c.args.buffer) here c.trunk_with.result given

pub returns-clause-end : goal.returns-clause-end
returns-clause-end c =
    let i = c.args.instance.now in
    let drive = c.drive_of-drive.result in
    let repeater_is : drive.repeater ≡ get_or i.params.library c.args.buffer no_buffer = search rules in
    let told = c.in-Ok-reaches_along.ensures.reaches i c.drive_of-drive.ensures.drive in
    let reaches = c.in-Ok-reaches_along.reaches.items in
    let are = subst (λ (ps : List Stand). AreReaches i drive.repeater (wires_of drive ps) (length ps + 1) reaches) c.as_slice.ensures.value told in
    let old = (get_or c.items-2.result.now (length c.args.nodes.now - 1) no_figure).delay in
    let old_is = ap (λ (fs : List NodeFigure). (get_or fs (length c.args.nodes.now - 1) no_figure).delay) c.items-2.ensures ∙ c.requires.known.old no_figure in
    let here = with_end i c.args.nodes.now c.args.figures.now c.args.step c.args.buffer c.requires.known c.requires.buffer
    c.index-nodes-nodes.result c.index-nodes-nodes.is c.in-Ok.stands.items c.in-Ok.ensures.stands drive repeater_is
    c.drive_of-drive.ensures.root_at c.drive_of-drive.ensures.root_seen reaches are old old_is in
    let given = subst (λ (rs : List Reach). IfErr c.trunk_with.result (EndsWith c.args.figures.now c.in-Ok.stands.items rs old)) c.as_slice-3.ensures.value
    (subst (λ (ps : List Stand). IfErr c.trunk_with.result (EndsWith c.args.figures.now ps c.as_slice-3.result.now old)) c.as_slice-2.ensures.value
    c.trunk_with.ensures.end) in
    if_err (EndsWith c.args.figures.now c.in-Ok.stands.items reaches old)
    (Ends i c.args.nodes.now c.args.step c.args.buffer) here c.trunk_with.result given

pub returns-clause-printable : goal.returns-clause-printable
returns-clause-printable c =
    let i = c.args.instance.now in
    let drive = c.drive_of-drive.result in
    let told = c.in-Ok-reaches_along.ensures.reaches i c.drive_of-drive.ensures.drive in
    let reaches = c.in-Ok-reaches_along.reaches.items in
    let are = subst (λ (ps : List Stand). AreReaches i drive.repeater (wires_of drive ps) (length ps + 1) reaches) c.as_slice.ensures.value told in
    let old = (get_or c.items-2.result.now (length c.args.nodes.now - 1) no_figure).delay in
    let given = subst (λ (rs : List Reach). IfOk c.trunk_with.result (IsTrunkWith i c.args.nodes.now c.args.figures.now c.in-Ok.stands.items rs old)) c.as_slice-3.ensures.value
    (subst (λ (ps : List Stand). IfOk c.trunk_with.result (IsTrunkWith i c.args.nodes.now c.args.figures.now ps c.as_slice-3.result.now old)) c.as_slice-2.ensures.value
    c.trunk_with.ensures.trunk) in
    if_ok (IsTrunkWith i c.args.nodes.now c.args.figures.now c.in-Ok.stands.items reaches old) IsPrintableTrunk
    (printable i c.params.ensures.valid (trunk_way i c.index-nodes-nodes.result) c.args.step ((c.index-nodes-nodes.result.wire - 1) / c.args.step)
    c.in-Ok.stands.items c.in-Ok.ensures.stands drive.repeater (wires_of drive c.in-Ok.stands.items) reaches are
    c.args.nodes.now c.args.figures.now old c.requires.range)
    c.trunk_with.result given
