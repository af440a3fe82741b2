-- The ids of the leaves of a shape: how they are listed, and how they are taken.
use Rattle.std.proofs.Common.{◌≡◌, ℕ, ◌+◌, ◌-◌, ◌<◌, ◌≤◌, List, [], ◌∷◌, ◌++◌, take, length, filter_map, get_or, slice_get, Option, refl, sym, ap, subst, ◌∙◌, arith, append-nil, pos}
use Rattle.std.specs.Option.{MatchOption, option_map}
use Rattle.std.proofs.lemmas.List.Elements.{filter_map-append}
use Rattle.std.proofs.lemmas.Option.{slice_get-get_or}
use Rattle.cts_units.specs.declared.params.Sink.{Sink}
use Rattle.cts_topo.specs.declared.shape.ShapeNode.{ShapeNode}
use Rattle.cts_topo.specs.declared.shape.ShapeNode.TheVariants.{Leaf, Pair}
use Rattle.cts_topo.specs.Shape.{leaf_sinks, IsShapeOver}
use Rattle.cts_topo.proofs.Counts.{leaf_within, leaves_more}
use Rattle.cts_embed.specs.Leaves.{IsIdOf, ids_of_leaves, own_ids}

-- the id of a place in the list of sinks
abbrev id_at : List Sink → ℕ → Option ℕ
id_at sinks sink = option_map (λ (s : Sink). s.id) (slice_get sinks sink)

-- lists that have the same end
last_same : (xs ys : List ℕ) (x y : ℕ) → xs ++ x ∷ [] ≡ ys ++ y ∷ [] → (xs ≡ ys) × (x ≡ y)
last_same [] [] x y is = (refl, cc)
last_same [] (b ∷ []) x y is = cc
last_same [] (b ∷ c ∷ ys) x y is = cc
last_same (a ∷ []) [] x y is = cc
last_same (a ∷ c ∷ xs) [] x y is = cc
last_same (a ∷ xs) (b ∷ ys) x y is =
    let heads : a ≡ b = cc in
    let tails : xs ++ x ∷ [] ≡ ys ++ y ∷ [] = cc in
    let rest = last_same xs ys x y tails in
    (ap (λ h. h ∷ xs) heads ∙ ap (λ zs. b ∷ zs) rest.0, rest.1)

-- what a node has, where its kind is known
pub own_at_leaf : (n : ShapeNode) (s : ℕ) → n ≡ Leaf s → (id : ℕ) → own_ids n id ≡ id ∷ []
unfolding own_ids
own_at_leaf n s is id = ap (λ m. own_ids m id) is

pub own_at_pair : (n : ShapeNode) (l r : ℕ) → n ≡ Pair l r → (id : ℕ) → own_ids n id ≡ []
unfolding own_ids
own_at_pair n l r is id = ap (λ m. own_ids m id) is

-- what a node has at the end of two lists
own_same : (sinks : List Sink) (n : ShapeNode) (xs ys : List ℕ) (i j : ℕ) → xs ++ own_ids n i ≡ ys ++ own_ids n j → IsIdOf sinks n j
    → (xs ≡ ys) × IsIdOf sinks n i
unfolding own_ids IsIdOf
own_same sinks (Leaf s) xs ys i j is named =
    let same = last_same xs ys i j is in
    (same.0, subst (IsIdOf sinks (Leaf s)) (sym (same.1)) named)
own_same sinks (Pair l r) xs ys i j is named = (sym (append-nil xs) ∙ is ∙ append-nil ys, tt)

module _ (sinks : List Sink) where
  id_of_leaf : (s : ℕ) (d : Sink) → s < length sinks → ids_of_leaves sinks (Leaf s ∷ []) ≡ (get_or sinks s d).id ∷ []
  id_of_leaf s d within =
      ap (λ (o : Option Sink). filter_map (option_map (λ (x : Sink). x.id)) (o ∷ [])) (slice_get-get_or sinks s d within)

  -- what one node has of the ids
  record OwnId (n : ShapeNode) : Type 0 where
    id : ℕ
    named : IsIdOf sinks n id
    own : ids_of_leaves sinks (n ∷ []) ≡ own_ids n id

  own_id : (n : ShapeNode) → ((s : ℕ) → n ≡ Leaf s → s < length sinks) → OwnId n
  unfolding IsIdOf own_ids
  own_id (Leaf s) within =
      let d : Sink = record { id = 0; x = pos 0; y = pos 0; cap = 0; offset = 0 } in
      record {
        id = (get_or sinks s d).id;
        named = subst (λ o. MatchOption o ⊥ (λ (x : Sink). x.id ≡ (get_or sinks s d).id)) (sym (slice_get-get_or sinks s d (within s refl))) refl;
        own = id_of_leaf s d (within s refl);
      }
  own_id (Pair l r) within = record { id = 0; named = tt; own = refl }

  module _ (nodes : List ShapeNode) (k : ℕ) (e : ShapeNode) (h : k < length nodes) where
    -- the ids of a front, one node further
    ids_more : ids_of_leaves sinks (take (k + 1) nodes) ≡ ids_of_leaves sinks (take k nodes) ++ ids_of_leaves sinks (get_or nodes k e ∷ [])
    ids_more =
        ap (filter_map (id_at sinks)) (leaves_more nodes k e h)
        ∙ filter_map-append (id_at sinks) (leaf_sinks (take k nodes)) (leaf_sinks (get_or nodes k e ∷ []))

    module _ (ids : List ℕ) (are : ids ≡ ids_of_leaves sinks (take k nodes)) where
      pub ids_at_leaf : (s : ℕ) (d : Sink) → get_or nodes k e ≡ Leaf s → s < length sinks
          → ids ++ (get_or sinks s d).id ∷ [] ≡ ids_of_leaves sinks (take (k + 1) nodes)
      ids_at_leaf s d here within =
          ap (λ xs. xs ++ (get_or sinks s d).id ∷ []) are
          ∙ ap (λ xs. ids_of_leaves sinks (take k nodes) ++ xs) (sym (id_of_leaf s d within))
          ∙ ap (λ n. ids_of_leaves sinks (take k nodes) ++ ids_of_leaves sinks (n ∷ [])) (sym here) ∙ sym ids_more

      pub ids_at_pair : (l r : ℕ) → get_or nodes k e ≡ Pair l r → ids ≡ ids_of_leaves sinks (take (k + 1) nodes)
      ids_at_pair l r here =
          are ∙ sym (append-nil (ids_of_leaves sinks (take k nodes)))
          ∙ ap (λ n. ids_of_leaves sinks (take k nodes) ++ ids_of_leaves sinks (n ∷ [])) (sym here) ∙ sym ids_more

-- the ids of the leaves before a number, of which the node before it takes its own
module _ (sinks : List Sink) (nodes : List ShapeNode) (over : IsShapeOver (length sinks) nodes) (number : ℕ) (some : 0 < number)
    (within : number ≤ length nodes) (e : ShapeNode) (ids : List ℕ) (are : ids ≡ ids_of_leaves sinks (take number nodes)) where
  abbrev pub here : ShapeNode
  here = get_or nodes (number - 1) e

  has : OwnId sinks here
  has = own_id sinks here (λ s is. leaf_within (length sinks) nodes over (number - 1) e s (omega arith) is)

  ends : ids ≡ ids_of_leaves sinks (take (number - 1) nodes) ++ own_ids here has.id
  ends =
      let next : number - 1 + 1 ≡ number = omega arith in
      are ∙ ap (λ n. ids_of_leaves sinks (take n nodes)) (sym next) ∙ ids_more sinks nodes (number - 1) e (omega arith)
      ∙ ap (λ xs. ids_of_leaves sinks (take (number - 1) nodes) ++ xs) has.own

  pub own_left : (left : List ℕ) × (id : ℕ) × (ids ≡ left ++ own_ids here id)
  own_left = (ids_of_leaves sinks (take (number - 1) nodes), has.id, ends)

  module _ (rest : List ℕ) (id : ℕ) (taken : ids ≡ rest ++ own_ids here id) where
    same : (rest ≡ ids_of_leaves sinks (take (number - 1) nodes)) × IsIdOf sinks here id
    same = own_same sinks here rest (ids_of_leaves sinks (take (number - 1) nodes)) id has.id (sym taken ∙ ends) has.named

    pub ids_left : rest ≡ ids_of_leaves sinks (take (number - 1) nodes)
    ids_left = same.0

    pub id_taken : IsIdOf sinks here id
    id_taken = same.1
