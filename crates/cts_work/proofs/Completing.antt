-- The pieces are put together from left to right, with the pairs above them.
use Rattle.std.proofs.Common.{◌≡◌, ℕ, ◌+◌, ◌<◌, ◌≤◌, List, [], ◌∷◌, drop, length, get_or, slice_get, Option, Some, None, sym, ap, ◌∙◌, subst, arith}
use Rattle.std.proofs.lemmas.List.{drop_more, drop_all}
use Rattle.std.proofs.lemmas.Option.{get_or_from_slice_get}
use Rattle.cts_topo.specs.declared.shape.ShapeNode.{ShapeNode}
use Rattle.cts_work.specs.declared.pieces.Piece.{Piece}
use Rattle.cts_work.specs.declared.work.Work.{Work}
use Rattle.cts_work.specs.declared.workers.Done.{Done}
use Rattle.cts_work.specs.Done.{HavePieces, IsDone}
use Rattle.cts_work.specs.Pieces.{AreInOrder, begins_at}
use Rattle.cts_work.specs.Work.{IsPart}
use Rattle.cts_work.proofs.Parts.{part_ordered}

module _ (nodes : List ShapeNode) where
  -- the next piece, and those after it
  pub record Next (from : ℕ) (pieces : List Piece) (k : ℕ) (d : Piece) (to : ℕ) : Type 0 where
    pub comes : from ≤ (get_or pieces k d).first
    pub part : IsPart nodes (get_or pieces k d).first (get_or pieces k d).root
    pub others : AreInOrder nodes ((get_or pieces k d).root + 1) (drop (k + 1) pieces) to

  pub next_piece : (from : ℕ) (pieces : List Piece) (k : ℕ) (d : Piece) (to : ℕ) → k < length pieces → AreInOrder nodes from (drop k pieces) to
      → Next from pieces k d to
  unfolding AreInOrder
  next_piece from pieces k d to h order =
      let here = subst (λ ps. AreInOrder nodes from ps to) (drop_more pieces k d h) order in
      record { comes = here.0; part = here.1; others = here.2 }

  -- pieces begin after those before them
  pub begins_after : (from : ℕ) (pieces : List Piece) (to : ℕ) → AreInOrder nodes from pieces to → from ≤ begins_at pieces to
  unfolding AreInOrder
  begins_after from [] to order = order
  begins_after from (p ∷ pieces) to order = order.0

  -- within the nodes
  pub begins_within : (from : ℕ) (pieces : List Piece) → AreInOrder nodes from pieces (length nodes) → begins_at pieces (length nodes) ≤ length nodes
  unfolding AreInOrder
  begins_within from [] order = omega arith
  begins_within from (p ∷ pieces) order = omega (arith, part_ordered nodes p.first p.root (order.1), order.1.within)

  -- and stand in their order from there on
  pub begins_order : (from : ℕ) (pieces : List Piece) (to : ℕ) → AreInOrder nodes from pieces to → AreInOrder nodes (begins_at pieces to) pieces to
  unfolding AreInOrder
  begins_order from [] to order = omega arith
  begins_order from (p ∷ pieces) to order = (omega arith, order.1, order.2)

-- the next piece begins where the rest of them does
pub next_begins : (pieces : List Piece) (k : ℕ) (d : Piece) (to : ℕ) → k < length pieces → begins_at (drop k pieces) to ≡ (get_or pieces k d).first
next_begins pieces k d to h = ap (λ ps. begins_at ps to) (drop_more pieces k d h)

-- and where there is none all nodes are there
pub none_begins : (pieces : List Piece) (k to : ℕ) → length pieces ≤ k → begins_at (drop k pieces) to ≡ to
none_begins pieces k to h = ap (λ ps. begins_at ps to) (drop_all k pieces h)

item_or : Option Done → Done → Done
item_or (Some d) e = d
item_or None e = e

module _ (work : Work) (pieces : List Piece) (before slots : List (Option Done)) (have : HavePieces work pieces before)
    (k : ℕ) (h : k < length pieces) (same : slice_get slots k ≡ slice_get before k) (v : Option Done) (is : v ≡ get_or slots k v) where
  -- the slot of a piece has it
  pub slot_full : v ≡ Some (have.each k h).0
  slot_full =
      is ∙ get_or_from_slice_get slots k (Some (have.each k h).0) v (same ∙ (have.each k h).1)

  pub slot_not_empty : None ≡ v → ⊥
  slot_not_empty none = absurd (let e : None ≡ Some (have.each k h).0 = none ∙ slot_full in cc)

  module _ (d : Done) (e : Piece) (taken : Some d ≡ v) where
    the_same : (have.each k h).0 ≡ d
    unfolding item_or
    the_same = ap (λ o. item_or o d) (sym (taken ∙ slot_full))

    pub record Taken : Type 0 where
      pub done : IsDone work pieces d
      pub piece_is : done.piece ≡ get_or pieces k e

    pub taken_piece : Taken
    taken_piece =
        let done : IsDone work pieces d = subst (IsDone work pieces) the_same (have.each k h).2 in
        let number : d.number ≡ k = subst (λ (x : Done). x.number ≡ k) the_same (have.each k h).3 in
        record {
          done = done;
          piece_is = sym (get_or_from_slice_get pieces k done.piece e (ap (slice_get pieces) (sym number) ∙ done.found));
        }
