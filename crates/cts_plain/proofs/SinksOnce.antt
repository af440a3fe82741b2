-- The leaves of a placed tree are those of its shape: each sink is reached once, and at its place.
use Rattle.std.proofs.Common.{◌≡◌, ◌≢◌, ℕ, suc, ◌+◌, ◌<◌, ◌==◌, Bool, true, cond, inl, inr, List, [], ◌∷◌, map, length, get_or, slice_get, count_by, Option, Some, None, MatchOption, refl, sym, ap, ap₂, subst, ◌∙◌, arith}
use Rattle.std.specs.List.{All, Contains}
use Rattle.std.specs.Option.{option_map}
use Rattle.std.proofs.lemmas.Option.{slice_get_within, get_or_from_slice_get}
use Rattle.std.proofs.lemmas.Bool.{cases_lt}
use Rattle.std.proofs.lemmas.Bool.Decides.{nat_tests}
use Rattle.cts_geom.specs.Points.{spot_at}
use Rattle.cts_units.specs.declared.params.Sink.{Sink}
use Rattle.cts_units.specs.Ids.{HasDistinctIds}
use Rattle.cts_tree.specs.declared.nodes.NodeKind.{NodeKind}
use Rattle.cts_tree.specs.declared.nodes.NodeKind.TheVariants as kinds
use Rattle.cts_tree.specs.declared.nodes.TreeNode.{TreeNode}
use Rattle.cts_tree.specs.Nodes.{leaf_id}
use Rattle.cts_topo.specs.declared.shape.ShapeNode.{ShapeNode}
use Rattle.cts_topo.specs.declared.shape.ShapeNode.TheVariants.{Leaf, Pair}
use Rattle.cts_topo.specs.Shape.{leaf_sink as named_by}
use Rattle.cts_topo.proofs.Ranks.{count_by-cons}
use Rattle.cts_embed.specs.Places.{kind_of}
use Rattle.cts_elmore.specs.Sound.{IsSinkAt}

-- what a leaf of a shape is made of: the sink that it names, with this sink's id
module _ (sinks : List Sink) where
  named : (s : ℕ) (k : NodeKind) → option_map (λ (p : Sink). kinds.Leaf p.id s) (slice_get sinks s) ≡ Some k
      → (sink : Sink) × (slice_get sinks s ≡ Some sink) × (k ≡ kinds.Leaf sink.id s)
  named s k is = by_sink (slice_get sinks s) refl is
    where
      by_sink : (o : Option Sink) → slice_get sinks s ≡ o → option_map (λ (p : Sink). kinds.Leaf p.id s) o ≡ Some k
          → (sink : Sink) × (slice_get sinks s ≡ Some sink) × (k ≡ kinds.Leaf sink.id s)
      by_sink None found is = absurd cc
      by_sink (Some sink) found is = (sink, found, cc)

  contains : (s : ℕ) (sink : Sink) → slice_get sinks s ≡ Some sink → Contains sinks sink
  contains s sink found =
      (s, slice_get_within sinks s sink found, get_or_from_slice_get sinks s sink sink found)

  -- a node with this kind, at the place that this kind has, stands at its sink
  pub stands_by : (n : ShapeNode) (buffer : Option ℕ) (node : TreeNode) → kind_of sinks n buffer ≡ Some node.kind
      → ((s : ℕ) (sink : Sink) → n ≡ Leaf s → slice_get sinks s ≡ Some sink → node.place ≡ spot_at sink.x sink.y)
      → MatchOption (leaf_id node.kind) (Unit {0}) (IsSinkAt sinks node)
  unfolding kind_of
  stands_by (Leaf s) buffer node is place =
      let it : (sink : Sink) × (slice_get sinks s ≡ Some sink) × (node.kind ≡ kinds.Leaf sink.id s) = named s node.kind is in
      subst (λ k. MatchOption (leaf_id k) (Unit {0}) (IsSinkAt sinks node)) (sym (it.2))
      (record { sink = it.0; among = contains s it.0 it.1; id_is = refl; place = place s it.0 refl it.1 })
  stands_by (Pair left right) buffer node is place =
      let k : node.kind ≡ kinds.Pair left right buffer = cc in
      subst (λ k. MatchOption (leaf_id k) (Unit {0}) (IsSinkAt sinks node)) (sym k) tt

  -- the id of the leaf that a node of a shape makes is that of the sink that it names
  pub id_by : (n : ShapeNode) (buffer : Option ℕ) (k : NodeKind) (d : Sink) → kind_of sinks n buffer ≡ Some k
      → leaf_id k ≡ option_map (λ s. (get_or sinks s d).id) (named_by n)
  unfolding kind_of
  id_by (Leaf s) buffer k d is =
      let it : (sink : Sink) × (slice_get sinks s ≡ Some sink) × (k ≡ kinds.Leaf sink.id s) = named s k is in
      ap leaf_id (it.2) ∙ ap (λ (p : Sink). Some p.id) (sym (get_or_from_slice_get sinks s it.0 d it.1))
  id_by (Pair left right) buffer k d is =
      let same : k ≡ kinds.Pair left right buffer = cc in ap leaf_id same

-- counting what a function gives, where it gives the value wanted only at one argument
count_same : (p q : ℕ → Bool) (xs : List ℕ) → All (λ x. p x ≡ q x) xs → count_by p xs ≡ count_by q xs
count_same p q [] same = refl
count_same p q (x ∷ xs) same =
    count_by-cons p x xs ∙ ap₂ (λ b n. cond b 1 0 + n) (same 0 x (omega arith)) (count_same p q xs (λ k d h. same (suc k) d (omega arith)))
    ∙ sym (count_by-cons q x xs)

count_map : (f : ℕ → ℕ) (v : ℕ) (xs : List ℕ) → count_by (λ y. y == v) (map f xs) ≡ count_by (λ x. f x == v) xs
count_map f v [] = refl
count_map f v (x ∷ xs) =
    count_by-cons (λ y. y == v) (f x) (map f xs) ∙ ap (λ n. cond (f x == v) 1 0 + n) (count_map f v xs)
    ∙ sym (count_by-cons (λ z. f z == v) x xs)

-- the one among sinks whose id is that of a certain sink is this sink
id_test : (sinks : List Sink) → HasDistinctIds (λ s. s.id) sinks → (j k : ℕ) (d : Sink) → j < length sinks → k < length sinks
    → ((get_or sinks j d).id == (get_or sinks k d).id) ≡ (j == k)
id_test sinks distinct j k d h w =
    elim (cases_lt j k) [
      | inl less ↦
          let differ : (get_or sinks j d).id ≢ (get_or sinks k d).id = distinct j k d less w in
          grind (arith, nat_tests)
      | inr more ↦ elim (cases_lt k j) [
        | inl less ↦
            let differ : (get_or sinks k d).id ≢ (get_or sinks j d).id = distinct k j d less h in
            grind (arith, nat_tests)
        | inr not_less ↦
            let same : j ≡ k = omega arith in
            subst (λ i. ((get_or sinks j d).id == (get_or sinks i d).id) ≡ (j == i)) same
            (let one : ((get_or sinks j d).id == (get_or sinks j d).id) ≡ true = grind (arith, nat_tests) in
            let two : (j == j) ≡ true = grind (arith, nat_tests) in
            one ∙ sym two)
      ]
    ]

-- each sink of the list is named once, where each place of the list is
pub ids_once : (sinks : List Sink) → HasDistinctIds (λ s. s.id) sinks → (places : List ℕ) → All (λ s. s < length sinks) places
    → ((s : ℕ) → s < length sinks → count_by (λ x. x == s) places ≡ 1)
    → (d : Sink) (k : ℕ) → k < length sinks
    → count_by (λ id. id == (get_or sinks k d).id) (map (λ s. (get_or sinks s d).id) places) ≡ 1
ids_once sinks distinct places within once d k h =
    count_map (λ s. (get_or sinks s d).id) (get_or sinks k d).id places
    ∙ count_same (λ s. (get_or sinks s d).id == (get_or sinks k d).id) (λ s. s == k) places
    (λ i e w. id_test sinks distinct (get_or places i e) k d (within i e w) h)
    ∙ once k h
