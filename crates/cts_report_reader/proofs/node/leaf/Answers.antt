use Rattle.std.proofs.Common.{ℕ, List, Ok, Option, IfSome, Bor, All, sym, subst, arith}
use Rattle.cts_num.specs.declared.error.NoMemory.{NoMemory}
use Rattle.cts_report_reader.specs.declared.node.Tail.{Tail}
use Rattle.cts_report_reader.specs.Nodes.{IsSeenNode, seen_node, seen_tail}
use Rattle.cts_report_reader.specs.Seen.{FindsIn, IsSeen, seen_point}
use Rattle.cts_report_reader.specs.Words.{same, tail_at}
use Rattle.cts_report_reader.proofs.LeafReads.{leaf_no_id, leaf_no_place, leaf_no_load, leaf_no_tail, leaf_there}
use Rattle.cts_report_reader.proofs.PairReads.{err_passes, err_finds, nothing_in, found_in}
use Rattle.cts_report_reader.proofs.PointLoops.{finds_in_none, finds_in_some}
use Rattle.cts_report_reader.proofs.TotalReads.{found_is, nothing_is}
use Rattle.cts_report_reader.proofs.node.leaf.Goals as goal

pub bounded-requires : goal.bounded-requires
bounded-requires c = omega arith

pub returns-in_default-clause-found : goal.returns-in_default-clause-found
returns-in_default-clause-found c = finds_in_none seen_node _ (leaf_no_id c.args.told c.args.bytes.now (nothing_is same _ c.in_default.ensures.found))

pub returns-in_default-place-clause-found : goal.returns-in_default-place-clause-found
returns-in_default-place-clause-found c =
    finds_in_none seen_node _
    (leaf_no_place c.args.told c.args.bytes.now c.in-Some.id c.in-Some.rest.now (found_is same c.in-Some.id c.in-Some.rest _ c.in-Some.ensures.found)
    (nothing_is (λ p. (tt, seen_point p)) _ c.in_default-place.ensures.found))

pub labelled-requires : goal.labelled-requires
labelled-requires c = omega arith

pub returns-in_default-labelled-clause-found : goal.returns-in_default-labelled-clause-found
returns-in_default-labelled-clause-found c =
    finds_in_none seen_node _
    (leaf_no_load c.args.told c.args.bytes.now c.in-Some.id c.in-Some.rest.now (found_is same c.in-Some.id c.in-Some.rest _ c.in-Some.ensures.found)
    c.in-Some-place.place c.in-Some-place.rest.now (found_is (λ p. (tt, seen_point p)) c.in-Some-place.place c.in-Some-place.rest _ c.in-Some-place.ensures.found)
    (nothing_is same _ c.in_default-labelled.ensures.found))

pub returns-in_default-2-clause-found : goal.returns-in_default-2-clause-found
returns-in_default-2-clause-found c =
    let found = subst (λ (o : Option (Tail × Bor (List ℕ))). FindsIn {E = NoMemory} seen_tail (Ok o) (tail_at c.args.told c.in-Some-labelled.rest.now)) c.in_default-2.is c.in_ok-tail.ensures.found in
    finds_in_none seen_node _
    (leaf_no_tail c.args.told c.args.bytes.now c.in-Some.id c.in-Some.rest.now (found_is same c.in-Some.id c.in-Some.rest _ c.in-Some.ensures.found)
    c.in-Some-place.place c.in-Some-place.rest.now (found_is (λ p. (tt, seen_point p)) c.in-Some-place.place c.in-Some-place.rest _ c.in-Some-place.ensures.found)
    c.in-Some-labelled.load c.in-Some-labelled.rest.now (found_is same c.in-Some-labelled.load c.in-Some-labelled.rest _ c.in-Some-labelled.ensures.found)
    (nothing_in seen_tail _ found))

pub overflow_cast-id : goal.overflow_cast-id
overflow_cast-id c = omega (arith, c.in-Some.ensures.small)

pub returns-clause-found : goal.returns-clause-found
returns-clause-found c =
    let found = subst (λ (o : Option (Tail × Bor (List ℕ))). FindsIn {E = NoMemory} seen_tail (Ok o) (tail_at c.args.told c.in-Some-labelled.rest.now)) c.in-Some-2.is c.in_ok-tail.ensures.found in
    finds_in_some seen_node c.node_of.result c.in-Some-2.rest _
    (leaf_there c.args.told c.args.bytes.now c.in-Some.id c.in-Some.rest.now (found_is same c.in-Some.id c.in-Some.rest _ c.in-Some.ensures.found)
    c.in-Some-place.place c.in-Some-place.rest.now (found_is (λ p. (tt, seen_point p)) c.in-Some-place.place c.in-Some-place.rest _ c.in-Some-place.ensures.found)
    c.in-Some-labelled.load c.in-Some-labelled.rest.now (found_is same c.in-Some-labelled.load c.in-Some-labelled.rest _ c.in-Some-labelled.ensures.found)
    c.in-Some-2.tail c.in-Some-2.rest.now c.leaf_kind-kind.result c.node_of.result
    (found_in seen_tail c.in-Some-2.tail c.in-Some-2.rest _ found) c.leaf_kind-kind.ensures.leaf c.leaf_kind-kind.ensures.arrival c.node_of.ensures)

pub returns-clause-seen : goal.returns-clause-seen
returns-clause-seen c =
    let corners = subst (λ (o : Option (Tail × Bor (List ℕ))). IfSome o (λ tail. All IsSeen tail.0.corners)) c.in-Some-2.is c.in_ok-tail.ensures.seen in
    subst IsSeenNode (sym c.node_of.ensures) (record { place = c.in-Some-place.ensures.seen; corners = corners })

pub returns-in_err-tail-clause-found : goal.returns-in_err-tail-clause-found
returns-in_err-tail-clause-found c = err_finds seen_node c.from_residual.result _ c.from_residual.ensures.0

pub returns-in_err-tail-clause-seen : goal.returns-in_err-tail-clause-seen
returns-in_err-tail-clause-seen c = err_passes _ c.from_residual.result c.from_residual.ensures.0
