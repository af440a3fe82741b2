-- The pieces of a shape.
use Rattle.std.specs.Prelude.{ℕ, ◌+◌, ◌-◌, ◌/◌, ◌≤◌, List, [], ◌∷◌, ◌++◌, cond, nat_lt}
use Rattle.cts_postorder.specs.BinaryTree.{BinaryTree, tip, fork, size, root_number}
use Rattle.cts_topo.specs.declared.shape.ShapeNode.{ShapeNode}
use Rattle.cts_work.specs.declared.pieces.Piece.{Piece}
use Rattle.cts_work.specs.Work.{IsPart}

abbrev pub piece : ℕ → ℕ → Piece
piece first root = record { first = first; root = root }

-- The pieces, from left to right, of a tree whose nodes are numbered from `first` on: a tree of one lot, or a tip, is a
-- piece. Of any other the left part gets half of the lots, rounded up, and the right part the rest.
unfoldable pub pieces_of : ℕ → ℕ → BinaryTree ShapeNode → List Piece
pieces_of first lots (tip n) = piece first first ∷ []
pieces_of first lots (fork l r n) =
    cond (nat_lt lots 2)
    (piece first (root_number first (fork l r n)) ∷ [])
    (pieces_of first (lots - lots / 2) l ++ pieces_of (first + size l) (lots / 2) r)

-- Some pieces stand in their order among the nodes, none of them before the number `from`, and none after `to`.
unfoldable pub AreInOrder : List ShapeNode → ℕ → List Piece → ℕ → Type 0
AreInOrder nodes from [] to = from ≤ to
AreInOrder nodes from (p ∷ pieces) to = (from ≤ p.first) × IsPart nodes p.first p.root × AreInOrder nodes (p.root + 1) pieces to

-- the number of the first node of the first piece, or `to` where there is none
abbrev pub begins_at : List Piece → ℕ → ℕ
begins_at [] to = to
begins_at (p ∷ pieces) to = p.first
