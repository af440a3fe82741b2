-- Where a number of a tree stands: in the left part, in the right part, at the root, or past the end.
use Rattle.std.proofs.Common.{◌≡◌, ℕ, zero, suc, ◌+◌, ◌-◌, ◌<◌, inl, inr, List, [], ◌∷◌, ◌++◌, length, get_or, Option, Some, refl, sym, ap, subst, ◌∙◌, arith, length-append, append_assoc}
use Rattle.std.proofs.lemmas.List.{get_or_at, get_or_append_left, get_or-append-add}
use Rattle.std.proofs.lemmas.Bool.{cases_lt}
use Rattle.cts_postorder.specs.BinaryTree.{BinaryTree, tip, fork, size, labels, root_number, IsNumbered}
use Rattle.cts_postorder.specs.Occurrence.{Occurrence, occurrence, occurrences}
use Rattle.cts_postorder.proofs.Sizes.{length-labels, length-occurrences, root_number-next}

-- the four places of a number j in a tree whose parts have a and b nodes
pub data Place (a b j : ℕ) : Type 0 where
  in_left : j < a → Place a b j
  in_right : (i : ℕ) → j ≡ a + i → i < b → Place a b j
  at_root : j ≡ a + b → Place a b j
  past : a + b < j → Place a b j

pub place : (a b j : ℕ) → Place a b j
place a b j =
    elim (cases_lt j a) [
      | inl h ↦ in_left h
      | inr h ↦ elim (cases_lt (j - a) b) [
        | inl w ↦ in_right (j - a) (omega arith) w
        | inr w ↦ elim (cases_lt (a + b) j) [ inl u ↦ past u | inr u ↦ at_root (omega arith) ]
      ]
    ]

-- what a list of two parts and a last item has at each place
module _ {X : Type 0} (xs ys : List X) (z : X) where
  pub get_or-left : (j : ℕ) (d : X) → j < length xs → get_or (xs ++ ys ++ z ∷ []) j d ≡ get_or xs j d
  get_or-left j d h =
      ap (λ l. get_or l j d) (append_assoc xs ys (z ∷ [])) ∙ get_or_append_left xs (ys ++ z ∷ []) d j h

  pub get_or-right : (a i : ℕ) (d : X) → length xs ≡ a → i < length ys
      → get_or (xs ++ ys ++ z ∷ []) (a + i) d ≡ get_or ys i d
  get_or-right a i d e h =
      ap (λ k. get_or (xs ++ ys ++ z ∷ []) (k + i) d) (sym e)
      ∙ ap (λ l. get_or l (length xs + i) d) (append_assoc xs ys (z ∷ []))
      ∙ get_or-append-add xs (ys ++ z ∷ []) i d ∙ get_or_append_left ys (z ∷ []) d i h

  pub get_or-root : (a b : ℕ) (d : X) → length xs ≡ a → length ys ≡ b
      → get_or (xs ++ ys ++ z ∷ []) (a + b) d ≡ z
  get_or-root a b d e w =
      let long : length (xs ++ ys) ≡ a + b = simp length-append (omega arith) in get_or_at (xs ++ ys) z [] d (a + b) long

-- what is read in a part is read in the whole
module _ {X : Type 0} (xs ys : List X) (z : X) (d x : X) where
  get_or-in_left : (j : ℕ) → j < length xs → get_or xs j d ≡ x → get_or (xs ++ ys ++ z ∷ []) j d ≡ x
  get_or-in_left j h e = get_or-left xs ys z j d h ∙ e

  get_or-in_right : (a i j : ℕ) → length xs ≡ a → i < length ys → j ≡ a + i → get_or ys i d ≡ x
      → get_or (xs ++ ys ++ z ∷ []) j d ≡ x
  get_or-in_right a i j long h is e =
      ap (λ k. get_or (xs ++ ys ++ z ∷ []) k d) is ∙ get_or-right xs ys z a i d long h ∙ e

-- the root's number is the offset and its number from 0
pub root_number-offset : {N : Type 0} (offset : ℕ) (t : BinaryTree N) → root_number offset t ≡ offset + root_number 0 t
root_number-offset offset t = omega (arith, root_number-next offset t, root_number-next 0 t)

pub root_number_lt : {N : Type 0} (t : BinaryTree N) → root_number 0 t < size t
root_number_lt t = omega (arith, root_number-next 0 t)

-- the whole is the last of its occurrences
pub get_or-occurrences-root : {N : Type 0} (up : List (BinaryTree N)) (t : BinaryTree N) (d : Occurrence N)
    → get_or (occurrences up t) (root_number 0 t) d ≡ occurrence up t
unfolding occurrences root_number
get_or-occurrences-root up (tip n) d = refl
get_or-occurrences-root up (fork l r n) d =
    let top : BinaryTree _ = fork l r n in
    let count : 0 + size l + size r ≡ size l + size r = omega arith in
    ap (λ k. get_or (occurrences (top ∷ up) l ++ occurrences (top ∷ up) r ++ occurrence up top ∷ []) k d) count
    ∙ get_or-root (occurrences (top ∷ up) l) (occurrences (top ∷ up) r) (occurrence up top) (size l) (size r) d
    (length-occurrences (top ∷ up) l) (length-occurrences (top ∷ up) r)

-- A pair at the place j of a tree, whose node names the children p: the right child is the node before it, the left
-- child the node before all of the right part, and both have this pair as the nearest above them.
pub record PairAt {N : Type 0} (offset : ℕ) (up : List (BinaryTree N)) (t : BinaryTree N) (j : ℕ) (p : ℕ × ℕ) (n : N)
    : Type 0 where
  pub left : BinaryTree N
  pub right : BinaryTree N
  pub above : List (BinaryTree N)
  pub left_place : ℕ
  pub right_place : ℕ
  pub left_named : p.0 ≡ offset + left_place
  pub right_named : p.1 ≡ offset + right_place
  pub left_next : left_place + size right + 1 ≡ j
  pub right_next : right_place + 1 ≡ j
  pub own : (d : Occurrence N) → get_or (occurrences up t) j d ≡ occurrence above (fork left right n)
  pub at_left : (d : Occurrence N)
      → get_or (occurrences up t) left_place d ≡ occurrence (fork left right n ∷ above) left
  pub at_right : (d : Occurrence N)
      → get_or (occurrences up t) right_place d ≡ occurrence (fork left right n ∷ above) right

-- a pair of a part is a pair of the whole, at its place there
module _ {N : Type 0} (offset : ℕ) (up : List (BinaryTree N)) (l r : BinaryTree N) (n : N) (j : ℕ) (p : ℕ × ℕ) (m : N) where
  pair_in_left : j < size l → PairAt offset (fork l r n ∷ up) l j p m → PairAt offset up (fork l r n) j p m
  unfolding occurrences
  pair_in_left w v =
      let top : BinaryTree N = fork l r n in
      let ls : List (Occurrence N) = occurrences (top ∷ up) l in
      let rs : List (Occurrence N) = occurrences (top ∷ up) r in
      let ls_long : length ls ≡ size l = length-occurrences (top ∷ up) l in
      record {
        left = v.left;
        right = v.right;
        above = v.above;
        left_place = v.left_place;
        right_place = v.right_place;
        left_named = v.left_named;
        right_named = v.right_named;
        left_next = v.left_next;
        right_next = v.right_next;
        own = λ d. get_or-in_left ls rs (occurrence up top) d _ j (omega arith) (v.own d);
        at_left = λ d. get_or-in_left ls rs (occurrence up top) d _ v.left_place (omega (arith, v.left_next)) (v.at_left d);
        at_right = λ d. get_or-in_left ls rs (occurrence up top) d _ v.right_place (omega (arith, v.right_next)) (v.at_right d);
      }

  pair_in_right : (i : ℕ) → j ≡ size l + i → i < size r → PairAt (offset + size l) (fork l r n ∷ up) r i p m
      → PairAt offset up (fork l r n) j p m
  unfolding occurrences
  pair_in_right i is w v =
      let top : BinaryTree N = fork l r n in
      let ls : List (Occurrence N) = occurrences (top ∷ up) l in
      let rs : List (Occurrence N) = occurrences (top ∷ up) r in
      let ls_long : length ls ≡ size l = length-occurrences (top ∷ up) l in
      let rs_long : length rs ≡ size r = length-occurrences (top ∷ up) r in
      let own : Occurrence N = occurrence up top in
      record {
        left = v.left;
        right = v.right;
        above = v.above;
        left_place = size l + v.left_place;
        right_place = size l + v.right_place;
        left_named = omega (arith, v.left_named);
        right_named = omega (arith, v.right_named);
        left_next = omega (arith, v.left_next);
        right_next = omega (arith, v.right_next);
        own = λ d. get_or-in_right ls rs own d _ (size l) i j ls_long (omega arith) is (v.own d);
        at_left = λ d. get_or-in_right ls rs own d _ (size l) v.left_place _ ls_long (omega (arith, v.left_next)) refl (v.at_left d);
        at_right = λ d. get_or-in_right ls rs own d _ (size l) v.right_place _ ls_long (omega (arith, v.right_next)) refl (v.at_right d);
      }

module _ {N : Type 0} (kids : N → Option (ℕ × ℕ)) where
  pub pair_at : (t : BinaryTree N) (up : List (BinaryTree N)) (offset j : ℕ) (e : N) (p : ℕ × ℕ)
      → IsNumbered kids offset t → j < size t → kids (get_or (labels t) j e) ≡ Some p
      → PairAt offset up t j p (get_or (labels t) j e)
  unfolding labels size IsNumbered occurrences root_number
  pair_at (tip n) up offset zero e p numbered h pair =
      let none : kids n ≡ Some p = pair in cc
  pair_at (tip n) up offset (suc j) e p numbered h pair = absurd (omega arith)
  pair_at (fork l r n) up offset j e p numbered h pair =
      let top : BinaryTree N = fork l r n in
      let ls : List (Occurrence N) = occurrences (top ∷ up) l in
      let rs : List (Occurrence N) = occurrences (top ∷ up) r in
      let own : Occurrence N = occurrence up top in
      let ls_long : length ls ≡ size l = length-occurrences (top ∷ up) l in
      let rs_long : length rs ≡ size r = length-occurrences (top ∷ up) r in
      elim (place (size l) (size r) j) [
        | in_left w ↦
            let same : get_or (labels l ++ labels r ++ n ∷ []) j e ≡ get_or (labels l) j e =
            get_or-left (labels l) (labels r) n j e (omega (arith, length-labels l)) in
            let v : PairAt offset (top ∷ up) l j p (get_or (labels l) j e) =
            pair_at l (top ∷ up) offset j e p (numbered.0) w (ap kids (sym same) ∙ pair) in
            subst (PairAt offset up top j p) (sym same) (pair_in_left offset up l r n j p _ w v)
        | in_right i is w ↦
            let same : get_or (labels l ++ labels r ++ n ∷ []) j e ≡ get_or (labels r) i e =
            ap (λ k. get_or (labels l ++ labels r ++ n ∷ []) k e) is
            ∙ get_or-right (labels l) (labels r) n (size l) i e (length-labels l) (omega (arith, length-labels r)) in
            let v : PairAt (offset + size l) (top ∷ up) r i p (get_or (labels r) i e) =
            pair_at r (top ∷ up) (offset + size l) i e p (numbered.1) w (ap kids (sym same) ∙ pair) in
            subst (PairAt offset up top j p) (sym same) (pair_in_right offset up l r n j p _ i is w v)
        | at_root is ↦
            let same : get_or (labels l ++ labels r ++ n ∷ []) j e ≡ n =
            ap (λ k. get_or (labels l ++ labels r ++ n ∷ []) k e) is
            ∙ get_or-root (labels l) (labels r) n (size l) (size r) e (length-labels l) (length-labels r) in
            let names : Some p ≡ Some (root_number offset l, root_number (offset + size l) r) =
            sym pair ∙ ap kids same ∙ numbered.2 in
            let named : p ≡ (root_number offset l, root_number (offset + size l) r) = cc in
            let left_last : root_number 0 l + 1 ≡ size l = omega (arith, root_number-next 0 l) in
            let right_last : root_number 0 r + 1 ≡ size r = omega (arith, root_number-next 0 r) in
            subst (PairAt offset up top j p) (sym same) (record {
              left = l;
              right = r;
              above = up;
              left_place = root_number 0 l;
              right_place = size l + root_number 0 r;
              left_named = ap (λ (q : ℕ × ℕ). q.0) named ∙ root_number-offset offset l;
              right_named = ap (λ (q : ℕ × ℕ). q.1) named ∙ omega (arith, root_number-offset (offset + size l) r);
              left_next = omega arith;
              right_next = omega arith;
              own = λ d. ap (λ k. get_or (ls ++ rs ++ own ∷ []) k d) is
                  ∙ get_or-root ls rs own (size l) (size r) d ls_long rs_long;
              at_left = λ d. get_or-in_left ls rs own d _ (root_number 0 l) (omega arith) (get_or-occurrences-root (top ∷ up) l d);
              at_right = λ d. get_or-in_right ls rs own d _ (size l) (root_number 0 r) _ ls_long (omega arith) refl
                  (get_or-occurrences-root (top ∷ up) r d);
            })
        | past w ↦ absurd (omega arith)
      ]
