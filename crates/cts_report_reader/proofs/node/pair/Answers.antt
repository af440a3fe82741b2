use Rattle.std.proofs.Common.{ℕ, false, List, Ok, Option, IfSome, Bor, All, sym, subst, arith}
use Rattle.cts_num.specs.declared.error.NoMemory.{NoMemory}
use Rattle.cts_report_reader.specs.declared.node.Tail.{Tail}
use Rattle.cts_report_reader.specs.Nodes.{IsSeenNode, seen_buffer, seen_node, seen_tail}
use Rattle.cts_report_reader.specs.Seen.{FindsIn, IsSeen, seen_point}
use Rattle.cts_report_reader.specs.Words.{same, tail_at}
use Rattle.cts_report_reader.proofs.PairReads.{err_passes, err_finds, nothing_in, found_in, pair_no_left, pair_no_right, pair_no_place, pair_no_buffer, pair_no_load, pair_no_residue, pair_no_tail, pair_there}
use Rattle.cts_report_reader.proofs.PointLoops.{finds_in_none, finds_in_some}
use Rattle.cts_report_reader.proofs.TotalReads.{found_is, nothing_is}
use Rattle.cts_report_reader.proofs.node.pair.Goals as goal

pub bounded-requires : goal.bounded-requires
bounded-requires c = omega arith

pub returns-in_default-clause-found : goal.returns-in_default-clause-found
returns-in_default-clause-found c = finds_in_none seen_node _ (pair_no_left c.args.buffers c.args.bytes.now (nothing_is same _ c.in_default.ensures.found))

pub bounded-requires-2 : goal.bounded-requires-2
bounded-requires-2 c = omega arith

pub returns-in_default-bounded-clause-found : goal.returns-in_default-bounded-clause-found
returns-in_default-bounded-clause-found c =
    finds_in_none seen_node _
    (pair_no_right c.args.buffers c.args.bytes.now c.in-Some.left c.in-Some.rest.now (found_is same c.in-Some.left c.in-Some.rest _ c.in-Some.ensures.found)
    (nothing_is same _ c.in_default-bounded.ensures.found))

pub returns-in_default-place-clause-found : goal.returns-in_default-place-clause-found
returns-in_default-place-clause-found c =
    finds_in_none seen_node _
    (pair_no_place c.args.buffers c.args.bytes.now c.in-Some.left c.in-Some.rest.now (found_is same c.in-Some.left c.in-Some.rest _ c.in-Some.ensures.found)
    c.in-Some-bounded.right c.in-Some-bounded.rest.now (found_is same c.in-Some-bounded.right c.in-Some-bounded.rest _ c.in-Some-bounded.ensures.found)
    (nothing_is (λ p. (tt, seen_point p)) _ c.in_default-place.ensures.found))

pub buffer-requires : goal.buffer-requires
buffer-requires c = c.requires

pub returns-in_default-buffer-clause-found : goal.returns-in_default-buffer-clause-found
returns-in_default-buffer-clause-found c =
    finds_in_none seen_node _
    (pair_no_buffer c.args.buffers c.args.bytes.now c.in-Some.left c.in-Some.rest.now (found_is same c.in-Some.left c.in-Some.rest _ c.in-Some.ensures.found)
    c.in-Some-bounded.right c.in-Some-bounded.rest.now (found_is same c.in-Some-bounded.right c.in-Some-bounded.rest _ c.in-Some-bounded.ensures.found)
    c.in-Some-place.place c.in-Some-place.rest.now (found_is (λ p. (tt, seen_point p)) c.in-Some-place.place c.in-Some-place.rest _ c.in-Some-place.ensures.found)
    (nothing_is seen_buffer _ c.in_default-buffer.ensures.found))

pub labelled-requires : goal.labelled-requires
labelled-requires c = omega arith

pub returns-in_default-labelled-clause-found : goal.returns-in_default-labelled-clause-found
returns-in_default-labelled-clause-found c =
    finds_in_none seen_node _
    (pair_no_load c.args.buffers c.args.bytes.now c.in-Some.left c.in-Some.rest.now (found_is same c.in-Some.left c.in-Some.rest _ c.in-Some.ensures.found)
    c.in-Some-bounded.right c.in-Some-bounded.rest.now (found_is same c.in-Some-bounded.right c.in-Some-bounded.rest _ c.in-Some-bounded.ensures.found)
    c.in-Some-place.place c.in-Some-place.rest.now (found_is (λ p. (tt, seen_point p)) c.in-Some-place.place c.in-Some-place.rest _ c.in-Some-place.ensures.found)
    c.in-Some-buffer.buffer c.in-Some-buffer.rest.now (found_is seen_buffer c.in-Some-buffer.buffer c.in-Some-buffer.rest _ c.in-Some-buffer.ensures.found)
    (nothing_is same _ c.in_default-labelled.ensures.found))

pub labelled-requires-2 : goal.labelled-requires-2
labelled-requires-2 c = omega arith

pub returns-in_default-labelled-2-clause-found : goal.returns-in_default-labelled-2-clause-found
returns-in_default-labelled-2-clause-found c =
    finds_in_none seen_node _
    (pair_no_residue c.args.buffers c.args.bytes.now c.in-Some.left c.in-Some.rest.now (found_is same c.in-Some.left c.in-Some.rest _ c.in-Some.ensures.found)
    c.in-Some-bounded.right c.in-Some-bounded.rest.now (found_is same c.in-Some-bounded.right c.in-Some-bounded.rest _ c.in-Some-bounded.ensures.found)
    c.in-Some-place.place c.in-Some-place.rest.now (found_is (λ p. (tt, seen_point p)) c.in-Some-place.place c.in-Some-place.rest _ c.in-Some-place.ensures.found)
    c.in-Some-buffer.buffer c.in-Some-buffer.rest.now (found_is seen_buffer c.in-Some-buffer.buffer c.in-Some-buffer.rest _ c.in-Some-buffer.ensures.found)
    c.in-Some-labelled.load c.in-Some-labelled.rest.now (found_is same c.in-Some-labelled.load c.in-Some-labelled.rest _ c.in-Some-labelled.ensures.found)
    (nothing_is same _ c.in_default-labelled-2.ensures.found))

pub returns-in_default-2-clause-found : goal.returns-in_default-2-clause-found
returns-in_default-2-clause-found c =
    let found = subst (λ (o : Option (Tail × Bor (List ℕ))). FindsIn {E = NoMemory} seen_tail (Ok o) (tail_at false c.in-Some-labelled-2.rest.now)) c.in_default-2.is c.in_ok-tail.ensures.found in
    finds_in_none seen_node _
    (pair_no_tail c.args.buffers c.args.bytes.now c.in-Some.left c.in-Some.rest.now (found_is same c.in-Some.left c.in-Some.rest _ c.in-Some.ensures.found)
    c.in-Some-bounded.right c.in-Some-bounded.rest.now (found_is same c.in-Some-bounded.right c.in-Some-bounded.rest _ c.in-Some-bounded.ensures.found)
    c.in-Some-place.place c.in-Some-place.rest.now (found_is (λ p. (tt, seen_point p)) c.in-Some-place.place c.in-Some-place.rest _ c.in-Some-place.ensures.found)
    c.in-Some-buffer.buffer c.in-Some-buffer.rest.now (found_is seen_buffer c.in-Some-buffer.buffer c.in-Some-buffer.rest _ c.in-Some-buffer.ensures.found)
    c.in-Some-labelled.load c.in-Some-labelled.rest.now (found_is same c.in-Some-labelled.load c.in-Some-labelled.rest _ c.in-Some-labelled.ensures.found)
    c.in-Some-labelled-2.residue c.in-Some-labelled-2.rest.now (found_is same c.in-Some-labelled-2.residue c.in-Some-labelled-2.rest _ c.in-Some-labelled-2.ensures.found)
    (nothing_in seen_tail _ found))

pub overflow_cast-kind : goal.overflow_cast-kind
overflow_cast-kind c = omega (arith, c.in-Some.ensures.small)

pub overflow_cast-kind-2 : goal.overflow_cast-kind-2
overflow_cast-kind-2 c = omega (arith, c.in-Some-bounded.ensures.small)

pub returns-clause-found : goal.returns-clause-found
returns-clause-found c =
    let found = subst (λ (o : Option (Tail × Bor (List ℕ))). FindsIn {E = NoMemory} seen_tail (Ok o) (tail_at false c.in-Some-labelled-2.rest.now)) c.in-Some-2.is c.in_ok-tail.ensures.found in
    finds_in_some seen_node c.node_of.result c.in-Some-2.rest _
    (pair_there c.args.buffers c.args.bytes.now c.in-Some.left c.in-Some.rest.now (found_is same c.in-Some.left c.in-Some.rest _ c.in-Some.ensures.found)
    c.in-Some-bounded.right c.in-Some-bounded.rest.now (found_is same c.in-Some-bounded.right c.in-Some-bounded.rest _ c.in-Some-bounded.ensures.found)
    c.in-Some-place.place c.in-Some-place.rest.now (found_is (λ p. (tt, seen_point p)) c.in-Some-place.place c.in-Some-place.rest _ c.in-Some-place.ensures.found)
    c.in-Some-buffer.buffer c.in-Some-buffer.rest.now (found_is seen_buffer c.in-Some-buffer.buffer c.in-Some-buffer.rest _ c.in-Some-buffer.ensures.found)
    c.in-Some-labelled.load c.in-Some-labelled.rest.now (found_is same c.in-Some-labelled.load c.in-Some-labelled.rest _ c.in-Some-labelled.ensures.found)
    c.in-Some-labelled-2.residue c.in-Some-labelled-2.rest.now (found_is same c.in-Some-labelled-2.residue c.in-Some-labelled-2.rest _ c.in-Some-labelled-2.ensures.found)
    c.in-Some-2.tail c.in-Some-2.rest.now c.node_of.result
    (found_in seen_tail c.in-Some-2.tail c.in-Some-2.rest _ found) c.node_of.ensures)

pub returns-clause-seen : goal.returns-clause-seen
returns-clause-seen c =
    let corners = subst (λ (o : Option (Tail × Bor (List ℕ))). IfSome o (λ tail. All IsSeen tail.0.corners)) c.in-Some-2.is c.in_ok-tail.ensures.seen in
    subst IsSeenNode (sym c.node_of.ensures) (record { place = c.in-Some-place.ensures.seen; corners = corners })

pub returns-in_err-tail-clause-found : goal.returns-in_err-tail-clause-found
returns-in_err-tail-clause-found c = err_finds seen_node c.from_residual.result _ c.from_residual.ensures.0

pub returns-in_err-tail-clause-seen : goal.returns-in_err-tail-clause-seen
returns-in_err-tail-clause-seen c = err_passes _ c.from_residual.result c.from_residual.ensures.0
