-- The parts after a pair took the place of the first of two, and the second was taken out.
use Rattle.std.proofs.Common.{◌≡◌, ◌≢◌, ℕ, zero, suc, ◌<◌, List, [], ◌∷◌, ◌++◌, map, take, drop, length, get_or, set, refl, sym, ap, subst, ◌∙◌, arith}
use Rattle.std.specs.List.{All, AllByRecursion, remove}
use Rattle.std.proofs.lemmas.List.{map-set, map-append, take-map, drop-map}
use Rattle.cts_topo.specs.declared.shape.ShapeNode.{ShapeNode}
use Rattle.cts_topo.proofs.Shuffles.{Shuffled, same, skip, turn, chain}
use Rattle.cts_near.specs.declared.subtree.Subtree.{Subtree}
use Rattle.cts_near.specs.Parts.{Part}
use Rattle.cts_near.specs.Near.{without}
use Rattle.cts_near.specs.Forest.{part_of, parts_of, tree_at}
use Rattle.cts_near.proofs.Members.{without_skips, without_drops, without_none}
use Rattle.cts_near.proofs.Names.{AreNamed}
use Rattle.cts_near.proofs.Trees.{tree_at-keeps}

pub all_at : {X : Type 0} (P : X → Type 0) (xs : List X) → AllByRecursion P xs → (k : ℕ) (d : X) → k < length xs → P (get_or xs k d)
all_at P [] all k d h = absurd (omega arith)
all_at P (x ∷ xs) all zero d h = all.0
all_at P (x ∷ xs) all (suc k) d h = all_at P xs (all.1) k d (omega arith)

-- the part of one name is taken out
without_at : (xs : List Part) (j : ℕ) (e : Part) → AreNamed xs → j < length xs → without (get_or xs j e).name xs ≡ remove xs j
without_at [] j e named h = absurd (omega arith)
without_at (y ∷ ys) zero e named h = without_drops y.name y ys refl ∙ without_none y.name ys (named.0)
without_at (y ∷ ys) (suc j) e named h =
    let other : y.name ≢ (get_or ys j e).name = all_at (λ (q : Part). y.name ≢ q.name) ys (named.0) j e (omega arith) in
    without_skips (get_or ys j e).name y ys other ∙ ap (λ zs. y ∷ zs) (without_at ys j e (named.1) (omega arith))

pub moved : (xs : List Part) (i j : ℕ) (d e x : Part) → AreNamed xs → i < j → j < length xs
    → Shuffled (x ∷ without (get_or xs j e).name (without (get_or xs i d).name xs)) (remove (set xs i x) j)
moved [] i j d e x named less h = absurd (omega arith)
moved (y ∷ ys) i zero d e x named less h = absurd (omega arith)
moved (y ∷ ys) zero (suc j) d e x named less h =
    let first : without y.name (y ∷ ys) ≡ ys = without_drops y.name y ys refl ∙ without_none y.name ys (named.0) in
    let both : without (get_or ys j e).name (without y.name (y ∷ ys)) ≡ remove ys j =
    ap (without (get_or ys j e).name) first ∙ without_at ys j e (named.1) (omega arith) in
    subst (λ zs. Shuffled (x ∷ zs) (x ∷ remove ys j)) (sym both) same
moved (y ∷ ys) (suc i) (suc j) d e x named less h =
    let a : Part = get_or ys i d in
    let b : Part = get_or ys j e in
    let not_first : y.name ≢ a.name = all_at (λ (q : Part). y.name ≢ q.name) ys (named.0) i d (omega arith) in
    let not_second : y.name ≢ b.name = all_at (λ (q : Part). y.name ≢ q.name) ys (named.0) j e (omega arith) in
    let both : without b.name (without a.name (y ∷ ys)) ≡ y ∷ without b.name (without a.name ys) =
    ap (without b.name) (without_skips a.name y ys not_first) ∙ without_skips b.name y (without a.name ys) not_second in
    subst (λ zs. Shuffled (x ∷ zs) (y ∷ remove (set ys i x) j)) (sym both)
    (chain turn (skip (moved ys i j d e x (named.1) (omega arith) (omega arith))))

map_remove : {X Y : Type 0} (f : X → Y) (xs : List X) (j : ℕ) → map f (remove xs j) ≡ remove (map f xs) j
map_remove f xs j =
    map-append f (take j xs) (drop (suc j) xs)
    ∙ ap (λ ys. ys ++ map f (drop (suc j) xs)) (sym (take-map f j xs))
    ∙ ap (λ ys. take j (map f xs) ++ ys) (sym (drop-map f (suc j) xs))

-- a further join leaves the parts as they are
parts_keep : (joins : List ShapeNode) (n : ShapeNode) (xs : List Subtree)
    → ((k : ℕ) (d : Subtree) → k < length xs → (get_or xs k d).node < length joins)
    → parts_of (joins ++ n ∷ []) xs ≡ parts_of joins xs
parts_keep joins n [] named = refl
parts_keep joins n (x ∷ xs) named =
    let tree : tree_at (joins ++ n ∷ []) x.node ≡ tree_at joins x.node = tree_at-keeps joins n x.node (named 0 x (omega arith)) in
    let here : part_of (joins ++ n ∷ []) x ≡ part_of joins x =
    ap (λ t. record { tree = t; name = x.name; side = x.side }) tree in
    ap (λ (p : Part). p ∷ parts_of (joins ++ n ∷ []) xs) here
    ∙ ap (λ ps. part_of joins x ∷ ps) (parts_keep joins n xs (λ k d h. named (suc k) d (omega arith)))

pub parts_replaced : (joins : List ShapeNode) (n : ShapeNode) (xs : List Subtree) (i j : ℕ) (x : Subtree)
    → All (λ (s : Subtree). s.node < length joins) xs
    → parts_of (joins ++ n ∷ []) (remove (set xs i x) j) ≡ remove (set (parts_of joins xs) i (part_of (joins ++ n ∷ []) x)) j
parts_replaced joins n xs i j x named =
    map_remove (part_of (joins ++ n ∷ [])) (set xs i x) j
    ∙ ap (λ ps. remove ps j) (map-set (part_of (joins ++ n ∷ [])) xs i x
    ∙ ap (λ ps. set ps i (part_of (joins ++ n ∷ []) x)) (parts_keep joins n xs named))
