use Rattle.std.proofs.Common.{◌≡◌, ◌+◌, length, drop, get_or, sym, subst, arith, IfOk, IfErr, length-set, ◌∙◌}
use Rattle.cts_work.specs.declared.pieces.Piece.{Piece}
use Rattle.cts_work.specs.Pieces.{AreInOrder, begins_at}
use Rattle.cts_work.specs.Plans.{joined}
use Rattle.cts_work.specs.Work.{AreMade, EndsIn}
use Rattle.cts_work.proofs.Slots.{slot_kept, later}
use Rattle.cts_work.proofs.Completing.{begins_after, begins_order, begins_within, next_begins, next_piece, none_begins, slot_not_empty, taken_piece}
use Rattle.cts_work.proofs.planning.add_pieces.Goals as goal

pub unreachable-requires : goal.unreachable-requires
unreachable-requires g c =
    slot_not_empty c.args.work.now c.args.pieces.now c.args.slots.now.items c.loop-number.slots.items c.requires.slots
    c.loop-number.number c.loop-number-test.true (c.loop-number.invariant.slots c.loop-number.number (omega arith) c.loop-number-test.true)
    c.index_mut.result.now c.index_mut.ensures.value c.in_default.ensures.value

pub add_piece-requires-clause-part : goal.add_piece-requires-clause-part
add_piece-requires-clause-part g c =
    (next_piece c.args.work.now.nodes.now (length (joined c.loop-number.parts.items)) c.args.pieces.now c.loop-number.number _ (length c.args.work.now.nodes.now)
    c.loop-number-test.true c.loop-number.invariant.order).part

pub add_piece-requires-clause-from : goal.add_piece-requires-clause-from
add_piece-requires-clause-from g c =
    c.loop-number.invariant.begins
    ∙ next_begins c.args.pieces.now c.loop-number.number _ (length c.args.work.now.nodes.now) c.loop-number-test.true

pub add_piece-requires-clause-order : goal.add_piece-requires-clause-order
add_piece-requires-clause-order g c =
    let k = c.loop-number.number in
    let e : Piece = record { first = 0; root = 0 } in
    let next = next_piece c.args.work.now.nodes.now (length (joined c.loop-number.parts.items)) c.args.pieces.now k e
    (length c.args.work.now.nodes.now) c.loop-number-test.true c.loop-number.invariant.order in
    omega (
      arith,
      begins_after c.args.work.now.nodes.now ((get_or c.args.pieces.now k e).root + 1) (drop (k + 1) c.args.pieces.now)
          (length c.args.work.now.nodes.now) next.others,
      c.next_first-to.ensures,
    )

pub add_piece-requires-clause-to : goal.add_piece-requires-clause-to
add_piece-requires-clause-to g c =
    let k = c.loop-number.number in
    let e : Piece = record { first = 0; root = 0 } in
    let next = next_piece c.args.work.now.nodes.now (length (joined c.loop-number.parts.items)) c.args.pieces.now k e
    (length c.args.work.now.nodes.now) c.loop-number-test.true c.loop-number.invariant.order in
    omega (
      arith,
      begins_within c.args.work.now.nodes.now _ (drop (k + 1) c.args.pieces.now) next.others,
      c.next_first-to.ensures,
    )

pub add_piece-requires-clause-long : goal.add_piece-requires-clause-long
add_piece-requires-clause-long g c =
    let k = c.loop-number.number in
    let e : Piece = record { first = 0; root = 0 } in
    let t = taken_piece c.args.work.now c.args.pieces.now c.args.slots.now.items c.loop-number.slots.items c.requires.slots
    k c.loop-number-test.true (c.loop-number.invariant.slots k (omega arith) c.loop-number-test.true)
    c.index_mut.result.now c.index_mut.ensures.value c.in-Some.done e c.in-Some.ensures.value in
    subst (λ (p : Piece). IfOk c.in-Some.done.made (λ nodes. p.first + length nodes.items ≡ p.root + 1)) t.piece_is t.done.long

pub add_piece-requires-clause-made : goal.add_piece-requires-clause-made
add_piece-requires-clause-made g c =
    let k = c.loop-number.number in
    let e : Piece = record { first = 0; root = 0 } in
    let t = taken_piece c.args.work.now c.args.pieces.now c.args.slots.now.items c.loop-number.slots.items c.requires.slots
    k c.loop-number-test.true (c.loop-number.invariant.slots k (omega arith) c.loop-number-test.true)
    c.index_mut.result.now c.index_mut.ensures.value c.in-Some.done e c.in-Some.ensures.value in
    subst (λ (p : Piece). IfOk c.in-Some.done.made (λ nodes. AreMade c.args.work.now p.first nodes.items)) t.piece_is t.done.made

pub add_piece-requires-clause-ended : goal.add_piece-requires-clause-ended
add_piece-requires-clause-ended g c =
    let k = c.loop-number.number in
    let e : Piece = record { first = 0; root = 0 } in
    let t = taken_piece c.args.work.now c.args.pieces.now c.args.slots.now.items c.loop-number.slots.items c.requires.slots
    k c.loop-number-test.true (c.loop-number.invariant.slots k (omega arith) c.loop-number-test.true)
    c.index_mut.result.now c.index_mut.ensures.value c.in-Some.done e c.in-Some.ensures.value in
    subst (λ (p : Piece). IfErr c.in-Some.done.made (EndsIn c.args.work.now p.first p.root)) t.piece_is t.done.ends

pub loop-number-preserved : goal.loop-number-preserved
loop-number-preserved g c =
    let k = c.loop-number.number in
    let e : Piece = record { first = 0; root = 0 } in
    let nodes = c.args.work.now.nodes.now in
    let next = next_piece nodes (length (joined c.loop-number.parts.items)) c.args.pieces.now k e (length nodes)
    c.loop-number-test.true c.loop-number.invariant.order in
    let added = c.in_ok-add_piece.ensures in
    let begins : length (joined c.add_piece.new.parts.items) ≡ begins_at (drop (k + 1) c.args.pieces.now) (length nodes) =
    added.long ∙ c.next_first-to.ensures in
    record {
      upto = omega (arith, c.loop-number-test.true);
      order = subst (λ n. AreInOrder nodes n (drop (k + 1) c.args.pieces.now) (length nodes)) (sym begins)
          (begins_order nodes _ (drop (k + 1) c.args.pieces.now) (length nodes) next.others);
      begins = begins;
      made = added.made;
      long = omega (arith, length-set c.loop-number.slots.items k c.take.new.self, c.loop-number.invariant.long);
      slots = λ n from h.
          slot_kept c.loop-number.slots.items k n c.take.new.self (later k n from) (omega (arith, h, c.loop-number.invariant.long))
          ∙ c.loop-number.invariant.slots n (omega (arith, from)) h;
    }

pub returns-clause-long : goal.returns-clause-long
returns-clause-long g c =
    c.loop-number.invariant.begins
    ∙ none_begins c.args.pieces.now c.loop-number.number (length c.args.work.now.nodes.now) (omega (arith, c.loop-number-test.false))
