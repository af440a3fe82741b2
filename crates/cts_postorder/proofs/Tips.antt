-- The tips of a tree: how they lie among its occurrences, below its pairs and below the pairs above it.
use Rattle.std.proofs.Common.{◌≡◌, ℕ, ◌+◌, ◌<◌, ◌≤◌, Bool, List, [], ◌∷◌, ◌++◌, map, length, refl, sym, ap₂, ◌∙◌, arith, length-append, append-nil}
use Rattle.std.specs.List.{All, filter}
use Rattle.std.proofs.lemmas.List.{map-append}
use Rattle.std.proofs.lemmas.List.Elements.{All-append, All-cons, All-nil, All-weaker, filter-append}
use Rattle.std.proofs.Math.Nat.{le-max_left, le-max_right}
use Rattle.cts_postorder.specs.BinaryTree.{BinaryTree, tip, fork, is_tip, size, depth}
use Rattle.cts_postorder.specs.Occurrence.{Occurrence, occurrence, occurrences, tips}

-- one more tip than there are pairs
pub length-tips : {N : Type 0} (up : List (BinaryTree N)) (t : BinaryTree N)
    → length (tips up t) + length (tips up t) ≡ size t + 1
unfolding tips size
length-tips up (tip n) = refl
length-tips up (fork l r n) =
    simp length-append (omega (arith, length-tips (fork l r n ∷ up) l, length-tips (fork l r n ∷ up) r))

pub some_tip : {N : Type 0} (up : List (BinaryTree N)) (t : BinaryTree N) → 0 < length (tips up t)
some_tip up t = omega (arith, length-tips up t)

-- the tips are the occurrences without parts
pub filter-occurrences : {N : Type 0} (up : List (BinaryTree N)) (t : BinaryTree N)
    → filter (λ (o : Occurrence N). is_tip o.here) (occurrences up t) ≡ tips up t
unfolding tips occurrences
filter-occurrences up (tip n) = refl
filter-occurrences {N} up (fork l r n) =
    let top : BinaryTree N = fork l r n in
    let p : Occurrence N → Bool = λ o. is_tip o.here in
    let ls : List (Occurrence N) = occurrences (top ∷ up) l in
    let rs : List (Occurrence N) = occurrences (top ∷ up) r in
    filter-append p (ls ++ rs) (occurrence up top ∷ []) ∙ append-nil (filter p (ls ++ rs)) ∙ filter-append p ls rs
    ∙ ap₂ (λ a b. a ++ b) (filter-occurrences (top ∷ up) l) (filter-occurrences (top ∷ up) r)

-- more pairs above a tree stand above its tips
pub tips_below : {N : Type 0} (above up : List (BinaryTree N)) (t : BinaryTree N)
    → tips (above ++ up) t ≡ map (λ (o : Occurrence N). occurrence (o.above ++ up) o.here) (tips above t)
unfolding tips
tips_below above up (tip n) = refl
tips_below {N} above up (fork l r n) =
    let top : BinaryTree N = fork l r n in
    ap₂ (λ a b. a ++ b) (tips_below (top ∷ above) up l) (tips_below (top ∷ above) up r)
    ∙ sym (map-append (λ (o : Occurrence N). occurrence (o.above ++ up) o.here) (tips (top ∷ above) l) (tips (top ∷ above) r))

-- the pairs above a tip are at most the depth, and those above the tree
pub tips_deep : {N : Type 0} (up : List (BinaryTree N)) (t : BinaryTree N)
    → All (λ (o : Occurrence N). length o.above ≤ length up + depth t) (tips up t)
unfolding tips depth
tips_deep {N} up (tip n) =
    All-cons (λ (o : Occurrence N). length o.above ≤ length up + depth (tip n)) (occurrence up (tip n)) [] (omega arith) (All-nil _)
tips_deep {N} up (fork l r n) =
    let top : BinaryTree N = fork l r n in
    let Near : ℕ → Occurrence N → Type 0 = λ d o. length o.above ≤ d in
    All-append (Near (length up + depth top)) (tips (top ∷ up) l) (tips (top ∷ up) r)
    (All-weaker (Near (length (top ∷ up) + depth l)) (Near (length up + depth top))
    (λ o h. omega (arith, h, le-max_left (depth l) (depth r))) (tips (top ∷ up) l) (tips_deep (top ∷ up) l))
    (All-weaker (Near (length (top ∷ up) + depth r)) (Near (length up + depth top))
    (λ o h. omega (arith, h, le-max_right (depth l) (depth r))) (tips (top ∷ up) r) (tips_deep (top ∷ up) r))
