-- What holds of the nodes of a stretch that is cut at its root, by what holds of its two parts and its root.
use Rattle.std.proofs.Common.{◌≡◌, ℕ, ◌+◌, ◌-◌, ◌<◌, ◌≤◌, List, [], ◌∷◌, ◌++◌, map, take, drop, length, get_or, slice_get, Option, Some, None, refl, sym, ap, ap₂, subst, ◌∙◌, arith, length-append, append_assoc, take_at}
use Rattle.std.specs.Prelude.{IfSome}
use Rattle.std.specs.List.{All, AllZip}
use Rattle.std.proofs.Math.Seq.{take-append-add}
use Rattle.std.proofs.lemmas.List.{drop_at, take-append-le, get_or_append_left, get_or-append_right}
use Rattle.std.proofs.lemmas.List.Elements.{All-append, All-nil, All-weaker}
use Rattle.std.proofs.lemmas.Option.{slice_get-get_or, slice_get_within, get_or_from_slice_get}
use Rattle.cts_list.proofs.AllOf.{all_front, all_back}
use Rattle.cts_postorder.specs.BinaryTree.{BinaryTree, fork, size, labels, subtrees, IsNumbered}
use Rattle.cts_postorder.specs.Cut.{IsCut}
use Rattle.cts_postorder.specs.Occurrence.{occurrence, occurrences, occurrences_of}
use Rattle.cts_postorder.specs.Pass.{IsLeastFailure}
use Rattle.cts_postorder.specs.PostOrder.{IsPostOrder, NamesFrom, trees_of, root_of}
use Rattle.cts_postorder.proofs.Lists.{Whole, whole_of}
use Rattle.cts_postorder.proofs.Sizes.{size_pos, length-labels, length-subtrees}
use Rattle.cts_postorder.proofs.Stretches.{IsJoined, IsSpelled, counted_from, joined_at, names_from, spelled, rebased}
use Rattle.cts_postorder.proofs.Zips.{all_zip-append}

-- children counted from a number on, and then from a later one
pub counted_further : (first more : ℕ) (children : Option (ℕ × ℕ))
    → counted_from (first + more) children ≡ counted_from more (counted_from first children)
counted_further first more None = refl
counted_further first more (Some children) =
    let l : children.0 - (first + more) ≡ children.0 - first - more = omega arith in
    let r : children.1 - (first + more) ≡ children.1 - first - more = omega arith in
    ap₂ (λ (x y : ℕ). Some (x, y)) l r

-- the same of what names children
pub kids_further : {N : Type 0} (kids : N → Option (ℕ × ℕ)) (from : ℕ → N → Option (ℕ × ℕ))
    → ((first : ℕ) (n : N) → from first n ≡ counted_from first (kids n)) → (first more : ℕ) (n : N)
    → from (first + more) n ≡ counted_from more (from first n)
kids_further kids from counts first more n =
    counts (first + more) n ∙ counted_further first more (kids n) ∙ ap (counted_from more) (sym (counts first n))

-- a child whose number, counted from `first` on, is `more` or later has a number that is so much later
pub names_further : {N : Type 0} (kids from : N → Option (ℕ × ℕ)) (first more : ℕ) → 1 ≤ more
    → ((n : N) → from n ≡ counted_from first (kids n)) → (n : N) → NamesFrom from more n → NamesFrom kids (first + more) n
names_further kids from first more some counts n =
    by_children (kids n) (from n) (counts n)
  where
    by_children : (children counted : Option (ℕ × ℕ)) → counted ≡ counted_from first children
        → IfSome counted (λ (c : ℕ × ℕ). (more ≤ c.0) × (more ≤ c.1))
        → IfSome children (λ (c : ℕ × ℕ). (first + more ≤ c.0) × (first + more ≤ c.1))
    by_children None counted is names = tt
    by_children (Some children) None is names = let none : Option (ℕ × ℕ) = None in let clash : none ≡ Some (children.0 - first, children.1 - first) = is in cc
    by_children (Some children) (Some c) is names =
        let same : c ≡ (children.0 - first, children.1 - first) =
        (let pair : Some c ≡ Some (children.0 - first, children.1 - first) = is in cc) in
        let l : c.0 ≡ children.0 - first = ap (λ (q : ℕ × ℕ). q.0) same in
        let r : c.1 ≡ children.1 - first = ap (λ (q : ℕ × ℕ). q.1) same in
        (omega (arith, some, l, names.0), omega (arith, some, r, names.1))

-- The last of the nodes is a pair with the children p.
module _ {N : Type 0} (kids : N → Option (ℕ × ℕ)) (nodes : List N) (ok : IsPostOrder (map kids nodes)) (e : N) (p : ℕ × ℕ)
    (pair : kids (get_or nodes (length nodes - 1) e) ≡ Some p) where
  abbrev last : ℕ
  last = length nodes - 1

  abbrev n : N
  n = get_or nodes last e

  j : IsJoined kids nodes p n
  j = joined_at kids nodes ok e p pair

  tree_numbered : IsNumbered kids 0 (fork j.left j.right n)
  tree_numbered =
      let w : Whole kids nodes = whole_of kids nodes ok in
      let names : Some w.tree ≡ Some (fork j.left j.right n) = sym w.root_is ∙ j.root_is in
      let same : w.tree ≡ fork j.left j.right n = cc in
      subst (IsNumbered kids 0) same w.numbered

  below_long : length (labels j.left ++ labels j.right) ≡ last
  below_long = simp length-append (omega (arith, j.long, j.right_size, length-labels j.left, length-labels j.right))

  left_long : length (labels j.left) ≡ p.0 + 1
  left_long = omega (arith, length-labels j.left, j.left_size)

  -- so its left part ends within
  pub cut_within : p.0 + 1 ≤ last
  cut_within = omega (arith, j.long, j.left_size, j.right_size, size_pos j.right)

  -- the nodes before it are cut where its left part ends
  pub cut_given : (back_kids : N → Option (ℕ × ℕ)) → ((m : N) → back_kids m ≡ counted_from (p.0 + 1) (kids m))
      → (below front back : List N) → below ≡ take last nodes → front ≡ take (p.0 + 1) below → back ≡ drop (p.0 + 1) below
      → IsCut kids back_kids nodes front back n
  cut_given back_kids counts below front back below_is front_is back_is =
      let here : below ≡ labels j.left ++ labels j.right =
      below_is ∙ ap (take last) j.nodes_are ∙ take_at (labels j.left ++ labels j.right) (n ∷ []) last below_long in
      let f : front ≡ labels j.left =
      front_is ∙ ap (take (p.0 + 1)) here ∙ take_at (labels j.left) (labels j.right) (p.0 + 1) left_long in
      let b : back ≡ labels j.right =
      back_is ∙ ap (drop (p.0 + 1)) here ∙ drop_at (labels j.left) (labels j.right) (p.0 + 1) left_long in
      record {
        left = j.left;
        right = j.right;
        front_is = f;
        back_is = b;
        nodes_are = j.nodes_are ∙ ap₂ (λ xs ys. xs ++ ys ++ n ∷ []) (sym f) (sym b);
        numbered = tree_numbered;
        back_numbered = rebased kids (p.0 + 1) back_kids counts j.right j.right_numbered;
      }

-- the first item that fails, in a list and in a longer one
first_in_front : {T : Type 0} (ts us : List T) (k : ℕ) (t : T) → slice_get ts k ≡ Some t
    → (slice_get (ts ++ us) k ≡ Some t) × (take k (ts ++ us) ≡ take k ts)
first_in_front ts us k t here =
    let within : k < length ts = slice_get_within ts k t here in (
      slice_get-get_or (ts ++ us) k t (omega (arith, within, length-append ts us))
          ∙ ap Some (get_or_append_left ts us t k within ∙ get_or_from_slice_get ts k t t here),
      take-append-le k ts us (omega (arith, within)),
    )

first_in_back : {T : Type 0} (ts us : List T) (m j k : ℕ) (t : T) → m ≡ length ts → m + j ≡ k → slice_get us j ≡ Some t
    → (slice_get (ts ++ us) k ≡ Some t) × (take k (ts ++ us) ≡ ts ++ take j us)
first_in_back ts us m j k t long number here =
    let within : j < length us = slice_get_within us j t here in
    let place : k - length ts ≡ j = omega (arith, long, number) in
    let add : length ts + j ≡ k = omega (arith, long, number) in (
      slice_get-get_or (ts ++ us) k t (omega (arith, within, number, long, length-append ts us))
          ∙ ap Some (get_or-append_right ts us (length ts) k t refl (omega (arith, number, long)) ∙ ap (λ i. get_or us i t) place
          ∙ get_or_from_slice_get us j t t here),
      sym (ap (λ i. take i (ts ++ us)) add) ∙ take-append-add ts us j,
    )

module _ {N : Type 0} {kids back_kids : N → Option (ℕ × ℕ)} {nodes front back : List N} {node : N}
    (c : IsCut kids back_kids nodes front back node) where
  abbrev pub whole : BinaryTree N
  whole = fork c.left c.right node

  labels_are : nodes ≡ labels c.left ++ labels c.right ++ node ∷ []
  labels_are = c.nodes_are ∙ ap₂ (λ xs ys. xs ++ ys ++ node ∷ []) c.front_is c.back_is

  pub front_size : length front ≡ size c.left
  front_size = ap length c.front_is ∙ length-labels c.left

  pub back_size : length back ≡ size c.right
  back_size = ap length c.back_is ∙ length-labels c.right

  pub some_front : 1 ≤ length front
  some_front = omega (arith, front_size, size_pos c.left)

  pub some_back : 1 ≤ length back
  some_back = omega (arith, back_size, size_pos c.right)

  pub cut_long : length nodes ≡ length front + length back + 1
  cut_long =
      ap length c.nodes_are ∙ length-append (front ++ back) (node ∷ [])
      ∙ ap (λ n. n + 1) (length-append front back)

  -- each of the three spells its tree
  pub front_spelled : IsSpelled kids front c.left
  unfolding IsNumbered
  front_spelled = subst (λ ns. IsSpelled kids ns c.left) (sym c.front_is) (spelled kids c.left (c.numbered.0))

  pub back_spelled : IsSpelled back_kids back c.right
  back_spelled = subst (λ ns. IsSpelled back_kids ns c.right) (sym c.back_is) (spelled back_kids c.right c.back_numbered)

  pub whole_spelled : IsSpelled kids nodes whole
  unfolding labels
  whole_spelled = subst (λ ns. IsSpelled kids ns whole) (sym labels_are) (spelled kids whole c.numbered)

  pub trees_are : trees_of kids nodes ≡ subtrees c.left ++ subtrees c.right ++ whole ∷ []
  unfolding subtrees
  trees_are = whole_spelled.trees_are

  pub occurrences_are : occurrences_of kids nodes
      ≡ occurrences (whole ∷ []) c.left ++ occurrences (whole ∷ []) c.right ++ occurrence [] whole ∷ []
  unfolding occurrences
  occurrences_are = whole_spelled.occurrences_are

  pub told : (P : BinaryTree N → Type 0) → IfSome (root_of kids nodes) P → P whole
  told P = subst (λ o. IfSome o P) whole_spelled.root_is

  pub tell : (P : BinaryTree N → Type 0) → P whole → IfSome (root_of kids nodes) P
  tell P = subst (λ o. IfSome o P) (sym whole_spelled.root_is)

  -- what holds of every node holds of those of each part and of the root
  module _ (P : N → Type 0) (all : All P nodes) where
    all_parts : All P (front ++ back)
    all_parts = all_front P (front ++ back) (node ∷ []) (subst (All P) c.nodes_are all)

    pub of_front : All P front
    of_front = all_front P front back all_parts

    pub of_back : All P back
    of_back = all_back P front back all_parts

    pub of_root : P node
    of_root = all_back P (front ++ back) (node ∷ []) (subst (All P) c.nodes_are all) 0 node (omega arith)

  -- no node of the right part names one of the left part
  pub back_names : (all_kids : N → Option (ℕ × ℕ)) (first : ℕ) → ((n : N) → kids n ≡ counted_from first (all_kids n))
      → All (NamesFrom all_kids (first + length front)) back
  unfolding IsNumbered
  back_names all_kids first counts =
      let start : 0 + size c.left ≡ length front = omega (arith, front_size) in
      let numbered : IsNumbered kids (length front) c.right = subst (λ o. IsNumbered kids o c.right) start (c.numbered.1) in
      let named : All (NamesFrom kids (length front)) (labels c.right) =
      names_from kids c.right (length front) (length front) (omega arith) numbered in
      All-weaker (NamesFrom kids (length front)) (NamesFrom all_kids (first + length front))
      (names_further all_kids kids first (length front) some_front counts) back
      (subst (All (NamesFrom kids (length front))) (sym c.back_is) named)

  -- what is related to the trees of the parts and of the root
  pub zipped : {X : Type 0} (R : BinaryTree N → X → Type 0) (xs ys : List X) (x : X) → AllZip R (subtrees c.left) xs
      → AllZip R (subtrees c.right) ys → R whole x → AllZip R (trees_of kids nodes) (xs ++ ys ++ x ∷ [])
  zipped R xs ys x of_left of_right of_whole =
      subst (λ ts. AllZip R ts (xs ++ ys ++ x ∷ [])) (sym trees_are)
      (all_zip-append R (subtrees c.left ++ subtrees c.right) (whole ∷ []) (xs ++ ys) (x ∷ [])
      (all_zip-append R (subtrees c.left) (subtrees c.right) xs ys of_left of_right) (of_whole, tt))

  -- what fails first in a part, or at the root where nothing below it fails, fails first in the whole
  module _ (Fails : BinaryTree N → Type 0) where
    grouped : trees_of kids nodes ≡ subtrees c.left ++ (subtrees c.right ++ whole ∷ [])
    grouped = trees_are ∙ append_assoc (subtrees c.left) (subtrees c.right) (whole ∷ [])

    pub left_first : (k : ℕ) → IsLeastFailure kids front Fails k → IsLeastFailure kids nodes Fails k
    left_first k f =
        let found : slice_get (subtrees c.left) k ≡ Some f.tree = ap (λ ts. slice_get ts k) (sym front_spelled.trees_are) ∙ f.found in
        let here = first_in_front (subtrees c.left) (subtrees c.right ++ whole ∷ []) k f.tree found in
        record {
          tree = f.tree;
          found = ap (λ ts. slice_get ts k) grouped ∙ here.0;
          fails = f.fails;
          none_before = subst (All (λ t. ¬ Fails t)) (sym (ap (take k) grouped ∙ here.1))
              (subst (λ ts. All (λ t. ¬ Fails t) (take k ts)) front_spelled.trees_are f.none_before);
        }

    module _ (none_left : All (λ t. ¬ Fails t) (subtrees c.left)) where
      pub right_first : (i k : ℕ) → length front + i ≡ k → IsLeastFailure back_kids back Fails i → IsLeastFailure kids nodes Fails k
      right_first i k number f =
          let found : slice_get (subtrees c.right) i ≡ Some f.tree = ap (λ ts. slice_get ts i) (sym back_spelled.trees_are) ∙ f.found in
          let ahead = first_in_front (subtrees c.right) (whole ∷ []) i f.tree found in
          let here = first_in_back (subtrees c.left) (subtrees c.right ++ whole ∷ []) (length front) i k f.tree
          (omega (arith, front_size, length-subtrees c.left)) number ahead.0 in
          record {
            tree = f.tree;
            found = ap (λ ts. slice_get ts k) grouped ∙ here.0;
            fails = f.fails;
            none_before = subst (All (λ t. ¬ Fails t))
                (sym (ap (take k) grouped ∙ here.1 ∙ ap (λ ts. subtrees c.left ++ ts) ahead.1))
                (All-append (λ t. ¬ Fails t) (subtrees c.left) (take i (subtrees c.right)) none_left
                (subst (λ ts. All (λ t. ¬ Fails t) (take i ts)) back_spelled.trees_are f.none_before));
          }

      pub root_first : All (λ t. ¬ Fails t) (subtrees c.right) → (k : ℕ) → k + 1 ≡ length nodes → Fails whole
          → IsLeastFailure kids nodes Fails k
      root_first none_right k last_is fails =
          let lists : List (BinaryTree N) = subtrees c.left ++ subtrees c.right in
          let long : k ≡ length lists =
          omega (
            arith,
            last_is,
            cut_long,
            front_size,
            back_size,
            length-append (subtrees c.left) (subtrees c.right),
            length-subtrees c.left,
            length-subtrees c.right,
          ) in
          let next : k + 0 ≡ k = omega arith in
          let here = first_in_back lists (whole ∷ []) k 0 k whole long next refl in
          record {
            tree = whole;
            found = ap (λ ts. slice_get ts k) trees_are ∙ here.0;
            fails = fails;
            none_before = subst (All (λ t. ¬ Fails t)) (sym (ap (take k) trees_are ∙ here.1))
                (All-append (λ t. ¬ Fails t) lists [] (All-append (λ t. ¬ Fails t) (subtrees c.left) (subtrees c.right) none_left none_right)
                (All-nil (λ t. ¬ Fails t)));
          }
