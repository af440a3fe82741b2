-- The root is placed, then the right part, and then the left one.
use Rattle.std.proofs.Common.{rules, ◌++◌, set, Err, refl, subst, arith}
use Rattle.cts_shape_workers.specs.Placing.{AreBranches, ArePlacedBy}
use Rattle.cts_shape_workers.proofs.Branches.{begins, left_room, right_room, right_ended, told_last, root_ended, leaf_placed}
use Rattle.cts_shape_workers.proofs.placing.+place_alone.Goals as goal

pub overflow_sub-part : goal.overflow_sub-part
overflow_sub-part t c = begins c.args.work.now c.args.part.now c.requires.placeable

pub bounds-own-0 : goal.bounds-own-0
bounds-own-0 t c =
    omega (
      arith,
      c.split_at_mut-below.ensures.back_len,
      c.requires.places,
      begins c.args.work.now c.args.part.now c.requires.placeable,
    )

pub returns-in_err-node : goal.returns-in_err-node
returns-in_err-node t c =
    let told : ArePlacedBy c.args.work.now c.args.part.now c.args.out.now (Err c.in_err-node.field-0.0) =
    root_ended c.args.work.now c.args.part.now c.requires.placeable c.in_err-node.field-0.0 c.in_err-node.ensures.ends c.args.out.now in
    search rules

pub returns-in_default : goal.returns-in_default
returns-in_default t c =
    leaf_placed c.args.work.now c.args.part.now c.in_ok-node.node
    (c.in_default.ensures c.in_ok-node.node refl c.in_ok-node.ensures.placed) c.split_at_mut-below.result.0.now
    c.split_at_mut-below.result.1.now c.split_at_mut-below.ensures.front_len
    (omega (
      arith,
      c.split_at_mut-below.ensures.back_len,
      c.requires.places,
      begins c.args.work.now c.args.part.now c.requires.placeable,
    ))
    c.in_ok-node.ensures.placed

pub split_at_mut-front-requires : goal.split_at_mut-front-requires
split_at_mut-front-requires t c =
    let are : AreBranches c.args.work.now c.args.part.now c.in_ok-node.node c.in-Some.left c.in-Some.right =
    c.in-Some.ensures c.in_ok-node.node refl c.in_ok-node.ensures.placed in
    omega (arith, c.split_at_mut-below.ensures.front_len, are.order.0, are.order.1, are.right_root)

pub place_alone-requires : goal.place_alone-requires
place_alone-requires t c =
    let are : AreBranches c.args.work.now c.args.part.now c.in_ok-node.node c.in-Some.left c.in-Some.right =
    c.in-Some.ensures c.in_ok-node.node refl c.in_ok-node.ensures.placed in (
      omega (
        arith,
        c.decreases,
        c.split_at_mut-front.ensures.back_len,
        c.split_at_mut-below.ensures.front_len,
        c.requires.places,
        are.order.0,
        are.order.1,
        are.right_root,
      ),
      right_room c.args.work.now c.args.part.now c.in-Some.left c.in-Some.right c.in_ok-node.node are c.requires.prepared
          c.split_at_mut-front.result.1.now (omega (arith, c.split_at_mut-front.ensures.back_len, c.split_at_mut-below.ensures.front_len)),
    )

pub returns-in_err-place_alone : goal.returns-in_err-place_alone
returns-in_err-place_alone t c =
    let told : ArePlacedBy c.args.work.now c.args.part.now
    (c.split_at_mut-front.result.0.now ++ c.place_alone.new.out ++ set c.split_at_mut-below.result.1.now 0 c.in_ok-node.node)
    (Err c.in_err-place_alone.field-0.0) =
    right_ended c.args.work.now c.args.part.now c.in-Some.left c.in-Some.right c.in_ok-node.node
    (c.in-Some.ensures c.in_ok-node.node refl c.in_ok-node.ensures.placed) c.place_alone.new.out c.in_err-place_alone.field-0.0
    (subst (ArePlacedBy c.args.work.now c.in-Some.right c.place_alone.new.out) c.in_err-place_alone.was c.place_alone.ensures)
    (c.split_at_mut-front.result.0.now ++ c.place_alone.new.out ++ set c.split_at_mut-below.result.1.now 0 c.in_ok-node.node) in
    search rules

pub place_alone-requires-2 : goal.place_alone-requires-2
place_alone-requires-2 t c =
    let are : AreBranches c.args.work.now c.args.part.now c.in_ok-node.node c.in-Some.left c.in-Some.right =
    c.in-Some.ensures c.in_ok-node.node refl c.in_ok-node.ensures.placed in (
      omega (
        arith,
        c.decreases,
        c.split_at_mut-front.ensures.front_len,
        c.requires.places,
        are.order.0,
        are.order.1,
        are.right_root,
      ),
      left_room c.args.work.now c.args.part.now c.in-Some.left c.in-Some.right c.in_ok-node.node are c.requires.prepared
          c.split_at_mut-front.result.0.now c.split_at_mut-front.ensures.front_len,
    )

pub returns : goal.returns
returns t c =
    told_last c.args.work.now c.args.part.now c.in-Some.left c.in-Some.right c.in_ok-node.node
    (c.in-Some.ensures c.in_ok-node.node refl c.in_ok-node.ensures.placed) c.place_alone-2.result c.in_ok-place_alone.field-0
    c.place_alone-2.new.out c.place_alone.new.out c.split_at_mut-below.result.1.now
    (omega (
      arith,
      c.split_at_mut-below.ensures.back_len,
      c.requires.places,
      begins c.args.work.now c.args.part.now c.requires.placeable,
    ))
    c.place_alone-2.ensures
    (subst (ArePlacedBy c.args.work.now c.in-Some.right c.place_alone.new.out) c.in_ok-place_alone.was c.place_alone.ensures)
