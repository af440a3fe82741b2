use Rattle.std.proofs.Common.{◌≡◌, sym, subst, ◌∙◌, below_more, arith}
use Rattle.cts_elmore.specs.Sound.{HasOpenBuffer}
use Rattle.cts_check.specs.Rules.{MeetsBufferBlocked}
use Rattle.cts_check.proofs.FirstFailing.{holds_at, held_at, all_hold}
use Rattle.cts_check.proofs.buffers.first_blocked_buffer.Goals as goal

pub returns-then-not-has_open_buffer : goal.returns-then-not-has_open_buffer
returns-then-not-has_open_buffer c =
    let same : c.in_ok-map.map.blocks ≡ c.args.instance.now.blocks = c.in_ok-map.ensures.blocks ∙ c.blocks-2.ensures.part in (
      (λ meets.
          let held = held_at (HasOpenBuffer c.args.instance.now.blocks) c.args.nodes.now c.loop-number.number c.index-nodes-number.result
          c.loop-number-test.true meets in
          let open_there = subst (HasOpenBuffer c.args.instance.now.blocks) (sym c.index-nodes-number.is) held in
          let yes = c.has_open_buffer.ensures.1 (subst (λ blocks. HasOpenBuffer blocks c.index-nodes-number.result) (sym same) open_there) in
          let no = c.if-not-has_open_buffer.true in cc),
      c.loop-number.invariant,
    )

pub loop-number-preserved : goal.loop-number-preserved
loop-number-preserved c =
    let same : c.in_ok-map.map.blocks ≡ c.args.instance.now.blocks = c.in_ok-map.ensures.blocks ∙ c.blocks-2.ensures.part in
    let open_there = subst (λ blocks. HasOpenBuffer blocks c.index-nodes-number.result) same (c.has_open_buffer.ensures.0 c.if-not-has_open_buffer.false) in
    below_more (MeetsBufferBlocked c.args.instance.now c.args.nodes.now) c.loop-number.number c.loop-number.invariant
    (holds_at (HasOpenBuffer c.args.instance.now.blocks) c.args.nodes.now c.loop-number.number c.index-nodes-number.result
    c.loop-number-test.true (subst (HasOpenBuffer c.args.instance.now.blocks) c.index-nodes-number.is open_there))

pub returns : goal.returns
returns c =
    all_hold (HasOpenBuffer c.args.instance.now.blocks) c.args.nodes.now
    (λ k within. c.loop-number.invariant k (omega (arith, within, c.loop-number-test.false)))
