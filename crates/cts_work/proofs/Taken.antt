-- What the next tree has of the last one.
use Rattle.std.proofs.Common.{◌≡◌, ℕ, ◌+◌, ◌-◌, ◌<◌, ◌≤◌, ◌⊎◌, List, [], ◌∷◌, ◌++◌, take, length, get_or, slice_get, Option, Some, None, IsSome, IfSome, All, inl, inr, refl, sym, ap, ◌∙◌, subst, arith, length-append, length-take}
use mathlib.Core.List.{IsPrefix}
use Rattle.std.specs.Option.{option_map}
use Rattle.std.proofs.lemmas.Bool.{cases_lt}
use Rattle.std.proofs.lemmas.List.{get_or_append_left, get_or_at, map-append, take_more}
use Rattle.std.proofs.lemmas.Option.{slice_get-get_or, slice_get-map, slice_get_cases, slice_get_within, get_or_from_slice_get}
use Rattle.cts_units.specs.declared.params.Sink.{Sink}
use Rattle.cts_topo.specs.declared.shape.ShapeNode.{ShapeNode}
use Rattle.cts_topo.specs.declared.shape.ShapeNode.TheVariants.{Leaf, Pair}
use Rattle.cts_up.specs.declared.site.Site.{Site}
use Rattle.cts_up.specs.Sites.{site_of}
use Rattle.cts_memo.specs.declared.key.Key.{Key}
use Rattle.cts_memo.specs.declared.key.Key.TheVariants.{Pair as key_pair}
use Rattle.cts_memo.specs.Keys.{leaf_key, pair_key}
use Rattle.cts_work.specs.declared.node.Built.{Built}
use Rattle.cts_work.specs.declared.again.Placed.{Placed}
use Rattle.cts_work.specs.declared.last.LastTree.{LastTree}
use Rattle.cts_work.specs.declared.work.Work.{Work}
use Rattle.cts_work.specs.Known.{HasKeyAt, IsAtPlace, picked, sites_of}
use Rattle.cts_work.specs.Last.{AreFound, AreKeyed, AreSameLeaves, IsAgain, IsKeyAt, IsKeyOf, IsPairOver, IsSameLeaf, IsTakenOver, MayStandIn, StandsIn}
use Rattle.cts_memo.specs.declared.entry.MemoEntry.{MemoEntry}
use Rattle.cts_memo.specs.Passes.{params_of}
use Rattle.cts_memo.specs.Sound.{IsSound, max_entries}
use Rattle.cts_work.specs.Built.{IsBuilt, IsBuiltLeaf, IsNoted}
use Rattle.cts_work.specs.Known.{StandAt}
use Rattle.cts_work.specs.Work.{AreBuilt, IsBuiltAt, IsReady, missing_at, missing_from}
use Rattle.cts_work.proofs.Builts.{known_leaf, known_pair}
use Rattle.cts_work.proofs.Nodes.{leaf_built, pair_at_number, tip_at}
use Rattle.cts_work.proofs.Parts.{built_all_stay, earlier_at, merges_next, part_at}
use Rattle.cts_work.proofs.Picked.{length-picked, picked-at, picked_further, picked_stays, places_stay}

-- what stands there
some_of : {X : Type 0} (o : Option X) → IsSome o → (x : X) × (o ≡ Some x)
some_of None e = absurd (cc (e))
some_of (Some x) e = (x, refl)

some_one : {X : Type 0} (x y : X) (o : Option X) → o ≡ Some x → o ≡ Some y → x ≡ y
some_one x y o e f = let both : Some x ≡ Some y = sym e ∙ f in cc

-- one item more at the end
get_push : {X : Type 0} (xs : List X) (x : X) (i : ℕ) (y : X) → slice_get (xs ++ x ∷ []) i ≡ Some y
    → ((i < length xs) × (slice_get xs i ≡ Some y)) ⊎ ((i ≡ length xs) × (x ≡ y))
get_push xs x i y here =
    let within : i < length (xs ++ x ∷ []) = slice_get_within (xs ++ x ∷ []) i y here in
    elim (cases_lt i (length xs)) [
      | inl w ↦
          inl (w, slice_get-get_or xs i y w ∙ ap Some (sym (get_or_append_left xs (x ∷ []) y i w) ∙ get_or_from_slice_get (xs ++ x ∷ []) i y y here))
      | inr w ↦
          let last : length xs ≡ i = omega (arith, w, within, length-append xs (x ∷ [])) in
          inr (sym last, sym (get_or_at xs x [] y i last) ∙ get_or_from_slice_get (xs ++ x ∷ []) i y y here)
    ]

-- and what stood before it
get_before : {X : Type 0} (xs : List X) (x : X) (i : ℕ) (y : X) → slice_get xs i ≡ Some y → slice_get (xs ++ x ∷ []) i ≡ Some y
get_before xs x i y here =
    let h : i < length xs = slice_get_within xs i y here in
    slice_get-get_or (xs ++ x ∷ []) i y (omega (arith, h, length-append xs (x ∷ [])))
    ∙ ap Some (get_or_append_left xs (x ∷ []) y i h ∙ get_or_from_slice_get xs i y y here)

get_last : {X : Type 0} (xs : List X) (x : X) (i : ℕ) → length xs ≡ i → slice_get (xs ++ x ∷ []) i ≡ Some x
get_last xs x i is =
    slice_get-get_or (xs ++ x ∷ []) i x (omega (arith, is, length-append xs (x ∷ []))) ∙ ap Some (get_or_at xs x [] x i is)

module _ (nodes : List Built) (ps : List ℕ) (all : All (λ p. p < length nodes) ps) where
  place_within : (i p : ℕ) → slice_get ps i ≡ Some p → p < length nodes
  place_within i p at = subst (λ (q : ℕ). q < length nodes) (get_or_from_slice_get ps i p p at) (all i p (slice_get_within ps i p at))

  -- the node at the place of a number
  pub picked_get : (i p : ℕ) (b : Built) → slice_get ps i ≡ Some p → slice_get nodes p ≡ Some b → slice_get (picked nodes ps) i ≡ Some b
  picked_get i p b at here =
      let h : i < length ps = slice_get_within ps i p at in
      slice_get-get_or (picked nodes ps) i b (omega (arith, h, length-picked nodes ps all))
      ∙ ap Some
      (picked-at nodes ps i p b all h ∙ ap (λ q. get_or nodes q b) (get_or_from_slice_get ps i p p at) ∙ get_or_from_slice_get nodes p b b here)

  pub node_at : (i p : ℕ) → slice_get ps i ≡ Some p → (b : Built) × (slice_get nodes p ≡ Some b) × (slice_get (picked nodes ps) i ≡ Some b)
  node_at i p at = elim (slice_get_cases nodes p).1 [
    | inl w ↦ (w.0, w.2, picked_get i p w.0 at (w.2))
    | inr w ↦ absurd (omega (arith, place_within i p at, w.0))
  ]

  pub picked_read : (i p : ℕ) (b : Built) → slice_get ps i ≡ Some p → slice_get (picked nodes ps) i ≡ Some b → slice_get nodes p ≡ Some b
  picked_read i p b at here =
      let found = node_at i p at in
      found.1 ∙ ap Some (some_one found.0 b (slice_get (picked nodes ps) i) (found.2) here)

-- keys stay those of longer lists
key_stays : (sinks : List Sink) (bs : List Built) (b : Built) (node : ShapeNode) (key : Option Key) → IsKeyOf sinks bs node key
    → IsKeyOf sinks (bs ++ b ∷ []) node key
key_stays sinks bs b (Leaf s) key is = is
key_stays sinks bs b (Pair l r) key is =
    (is.0, is.1, get_before bs b l is.0 (is.2), get_before bs b r is.1 (is.3), is.4)

-- one node more that has its key
pub keyed_push : (sinks : List Sink) (shape : List ShapeNode) (bs : List Built) (b : Built) (k : ℕ) → length bs ≡ k → AreKeyed sinks shape bs
    → IsSome b.number → ((node : ShapeNode) → slice_get shape k ≡ Some node → IsKeyOf sinks bs node b.key) → AreKeyed sinks shape (bs ++ b ∷ [])
keyed_push sinks shape bs b k long keyed number key = record {
  each = λ i node c at here. elim (get_push bs b i c here) [
    | inl w ↦
        let was = keyed.each i node c at (w.1) in
        (was.0, key_stays sinks bs b node c.key (was.1))
    | inr w ↦
        let own : IsSome b.number × IsKeyOf sinks (bs ++ b ∷ []) node b.key =
        (number, key_stays sinks bs b node b.key (key node (ap (slice_get shape) (sym long ∙ sym (w.0)) ∙ at))) in
        subst (λ (x : Built). IsSome x.number × IsKeyOf sinks (bs ++ b ∷ []) node x.key) (w.1) own
  ];
}

pub none_keyed : (sinks : List Sink) (shape : List ShapeNode) (bs : List Built) → bs ≡ [] → AreKeyed sinks shape bs
none_keyed sinks shape bs none = record {
  each = λ k node b at here. absurd (omega (arith, slice_get_within bs k b here, ap length none));
}

-- the last tree stands in longer lists too
pub stands_stays : (nodes longer : List Built) (last : LastTree) → IsPrefix nodes longer → MayStandIn nodes last → MayStandIn longer last
stands_stays nodes longer last more stands whole =
    let st = stands whole in
    let same : picked longer last.places.items ≡ picked nodes last.places.items = picked_stays nodes longer more last.places.items st.within in
    record {
      within = places_stay nodes longer more last.places.items st.within;
      long = st.long;
      keyed = subst (AreKeyed last.sinks.items last.shape.items) (sym same) st.keyed;
      sites = st.sites ∙ ap sites_of (sym same);
    }

-- a site of the last tree is that of its node
pub site_is : (nodes : List Built) (last : LastTree) (number p : ℕ) (b : Built) (site : Site) → StandsIn nodes last
    → slice_get last.places.items number ≡ Some p → slice_get nodes p ≡ Some b → slice_get last.sites.items number ≡ Some site
    → site ≡ site_of b.finished
site_is nodes last number p b site st at here read =
    let own : Built → Site = λ (node : Built). site_of node.finished in
    let there = picked_get nodes last.places.items st.within number p b at here in
    some_one site (own b) (slice_get last.sites.items number) read
    (ap (λ xs. slice_get xs number) st.sites ∙ slice_get-map own (picked nodes last.places.items) number ∙ ap (option_map own) there)

-- numbers in the last tree, one more
pub found_push : (places tree : List ℕ) (found : List (Option ℕ)) (p : ℕ) (o : Option ℕ) → AreFound places tree found
    → IfSome o (λ number. slice_get places number ≡ Some p) → AreFound places (tree ++ p ∷ []) (found ++ o ∷ [])
found_push places tree found p o are here = record {
  long = omega (arith, are.long, length-append tree (p ∷ []), length-append found (o ∷ []));
  each = λ i number at. elim (get_push found o i (Some number) at) [
    | inl w ↦
        let was = are.each i number (w.1) in
        (was.0, was.1, get_before tree p i was.0 (was.2))
    | inr w ↦
        let own : slice_get places number ≡ Some p = subst (λ x. IfSome x (λ n. slice_get places n ≡ Some p)) (w.1) here in
        (p, own, get_last tree p i (omega (arith, w.0, are.long)))
  ];
}

pub none_found : (places tree : List ℕ) (found : List (Option ℕ)) → tree ≡ [] → found ≡ [] → AreFound places tree found
none_found places tree found none nothing = record {
  long = omega (arith, ap length none, ap length nothing);
  each = λ i number at. absurd (omega (arith, slice_get_within found i (Some number) at, ap length nothing));
}

-- leaves of more sinks
pub leaves_push : (last : LastTree) (sinks : List Sink) (leaves : List (Option ℕ)) (i : ℕ) (sink : Sink) (o : Option ℕ) → i < length sinks
    → sink ≡ get_or sinks i sink → AreSameLeaves last (take i sinks) leaves → IfSome o (IsSameLeaf last sink)
    → AreSameLeaves last (take (i + 1) sinks) (leaves ++ o ∷ [])
leaves_push last sinks leaves i sink o h is are here =
    let front : take (i + 1) sinks ≡ take i sinks ++ sink ∷ [] = take_more sinks i sink h ∙ ap (λ x. take i sinks ++ x ∷ []) (sym is) in
    let count : length (take i sinks) ≡ i = omega (arith, length-take i sinks, h) in
    record {
      long = omega (arith, are.long, ap length front, length-append (take i sinks) (sink ∷ []), length-append leaves (o ∷ []));
      each = λ s number x at there. elim (get_push leaves o s (Some number) there) [
        | inl w ↦
            elim (get_push (take i sinks) sink s x (ap (λ xs. slice_get xs s) (sym front) ∙ at)) [
              | inl v ↦ are.each s number x (v.1) (w.1)
              | inr v ↦ absurd (omega (arith, w.0, v.0, are.long))
            ]
        | inr w ↦
            elim (get_push (take i sinks) sink s x (ap (λ xs. slice_get xs s) (sym front) ∙ at)) [
              | inl v ↦ absurd (omega (arith, v.0, w.0, are.long))
              | inr v ↦
                  let own : IsSameLeaf last sink number = subst (λ y. IfSome y (IsSameLeaf last sink)) (w.1) here in
                  subst (λ (y : Sink). IsSameLeaf last y number) (v.1) own
            ]
      ];
    }

pub no_leaves : (last : LastTree) (sinks : List Sink) (leaves : List (Option ℕ)) → sinks ≡ [] → leaves ≡ [] → AreSameLeaves last sinks leaves
no_leaves last sinks leaves none nothing = record {
  long = omega (arith, ap length none, ap length nothing);
  each = λ s number x at there. absurd (omega (arith, slice_get_within leaves s (Some number) there, ap length nothing));
}

module _ (sinks : List Sink) (last : LastTree) (leaves found : List (Option ℕ)) (nodes : List Built) (tree : List ℕ)
    (stands : MayStandIn nodes last) (same : AreSameLeaves last sinks leaves) (are : AreFound last.places.items tree found)
    (within : All (λ p. p < length nodes) tree) (placed : Placed) where
  -- a node that is taken over has its key and a number
  pub again_leaf : (s : ℕ) → IsAgain last leaves found (Leaf s) placed
      → (b : Built) × (slice_get nodes placed.place ≡ Some b) × IsSome b.number × IsKeyOf sinks (picked nodes tree) (Leaf s) b.key
  again_leaf s again =
      let st = stands again.whole in
      let at = node_at nodes last.places.items st.within again.number placed.place again.place in
      let h : s < length sinks = omega (arith, slice_get_within leaves s (Some again.number) again.same, same.long) in
      elim (slice_get_cases sinks s).1 [
        | inl w ↦
            let leaf = same.each s again.number w.0 (w.2) again.same in
            let keyed = st.keyed.each again.number (Leaf leaf.place) at.0 leaf.leaf (at.2) in
            let one : keyed.1.0 ≡ leaf.old = some_one keyed.1.0 leaf.old (slice_get last.sinks.items leaf.place) (keyed.1.1) leaf.there in
            (at.0, at.1, keyed.0, (w.0, w.2, keyed.1.2 ∙ ap (λ x. Some (leaf_key x)) one ∙ ap Some leaf.same))
        | inr w ↦ absurd (omega (arith, h, w.0))
      ]

  pub again_pair : (l r : ℕ) → IsAgain last leaves found (Pair l r) placed
      → (b : Built) × (slice_get nodes placed.place ≡ Some b) × IsSome b.number
      × (x : Built) × (y : Built) × (slice_get (picked nodes tree) l ≡ Some x) × (slice_get (picked nodes tree) r ≡ Some y)
      × IsSome x.number × IsSome y.number × (b.key ≡ pair_key x.number y.number)
  again_pair l r again =
      let st = stands again.whole in
      let places = last.places.items in
      let at = node_at nodes places st.within again.number placed.place again.place in
      let pair = again.same in
      let keyed = st.keyed.each again.number (Pair pair.0 pair.1) at.0 (pair.4) (at.2) in
      let left = are.each l pair.0 (pair.2) in
      let right = are.each r pair.1 (pair.3) in
      let x_at = picked_read nodes places st.within pair.0 left.0 keyed.1.0 (left.1) (keyed.1.2) in
      let y_at = picked_read nodes places st.within pair.1 right.0 keyed.1.1 (right.1) (keyed.1.3) in (
        at.0,
        at.1,
        keyed.0,
        keyed.1.0,
        keyed.1.1,
        picked_get nodes tree within l left.0 keyed.1.0 (left.2) x_at,
        picked_get nodes tree within r right.0 keyed.1.1 (right.2) y_at,
        number_at st pair.0 keyed.1.0 (keyed.1.2),
        number_at st pair.1 keyed.1.1 (keyed.1.3),
        keyed.1.4,
      )
    where
      number_at : StandsIn nodes last → (k : ℕ) (x : Built) → slice_get (picked nodes last.places.items) k ≡ Some x → IsSome x.number
      number_at st k x here =
          let h : k < length last.shape.items =
          omega (arith, slice_get_within (picked nodes last.places.items) k x here, length-picked nodes last.places.items st.within, st.long) in
          elim (slice_get_cases last.shape.items k).1 [
            | inl w ↦ (st.keyed.each k w.0 x (w.2) here).0
            | inr w ↦ absurd (omega (arith, h, w.0))
          ]

-- two numbers make a key
pub both_make_key : (x y : Option ℕ) → IsSome x → IsSome y → (key : Key) × (pair_key x y ≡ Some key)
both_make_key None y e f = absurd (cc (e))
both_make_key (Some i) None e f = absurd (cc (f))
both_make_key (Some i) (Some j) e f = (key_pair i j, refl)

-- a node with a key and a number has its key at its place
pub has_key : (nodes : List Built) (p : ℕ) (b : Built) (key : Key) → slice_get nodes p ≡ Some b → b.key ≡ Some key → IsSome b.number → HasKeyAt nodes key p
has_key nodes p b key at is number =
    let n = some_of b.number number in
    (b, n.0, at, is, n.1)

taken_over : (last : LastTree) (nodes : List Built) (placed : Placed) (n : ℕ) → placed.again ≡ Some n → slice_get last.places.items n ≡ Some placed.place
    → IsAtPlace nodes (λ node. IsSome node.number) placed.place → StandsIn nodes last → IsTakenOver last nodes placed
taken_over last nodes placed n is place number st =
    subst (λ (o : Option ℕ). IfSome o (λ number. (slice_get last.places.items number ≡ Some placed.place)
    × IsAtPlace nodes (λ node. IsSome node.number) placed.place × StandsIn nodes last)) (sym is) (place, number, st)

-- what was not taken over
pub not_taken : (last : LastTree) (nodes : List Built) (place : ℕ) → IsTakenOver last nodes (record { place = place; again = None })
not_taken last nodes place = tt

module _ (last : LastTree) (nodes : List Built) (placed : Placed) (n : ℕ) (taken : IsTakenOver last nodes placed) (is : placed.again ≡ Some n) where
  abbrev told : (slice_get last.places.items n ≡ Some placed.place) × IsAtPlace nodes (λ node. IsSome node.number) placed.place × StandsIn nodes last
  told = subst (λ (o : Option ℕ). IfSome o (λ number. (slice_get last.places.items number ≡ Some placed.place)
      × IsAtPlace nodes (λ node. IsSome node.number) placed.place × StandsIn nodes last)) is taken

  -- what is told of a node that was taken over
  pub taken_place : slice_get last.places.items n ≡ Some placed.place
  taken_place = told.0

  pub taken_number : IsAtPlace nodes (λ node. IsSome node.number) placed.place
  taken_number = told.1

  pub taken_stands : StandsIn nodes last
  taken_stands = told.2

module _ (work : Work) (seen : List MemoEntry) (last : LastTree) (leaves found : List (Option ℕ)) (nodes : List Built) (tree : List ℕ) (k : ℕ)
    (sound : IsSound (params_of work.memo.now) seen) (ready : IsReady work) (h : k < length work.nodes.now) (long : length tree ≡ k)
    (before : StandAt nodes tree (AreBuilt work seen 0)) (stands : MayStandIn nodes last) (same : AreSameLeaves last work.sinks.now leaves)
    (are : AreFound last.places.items tree found) (noted : All (IsNoted seen) nodes) (placed : Placed) where
  built_before : (i : ℕ) (x : Built) → slice_get (picked nodes tree) i ≡ Some x → IsBuiltAt work seen i x
  built_before i x here =
      let count : length (picked nodes tree) ≡ k = length-picked nodes tree (before.0) ∙ long in
      let below : i < k = omega (arith, slice_get_within (picked nodes tree) i x here, count) in
      subst (IsBuiltAt work seen i) (get_or_from_slice_get (picked nodes tree) i x x here)
      (earlier_at work seen k (picked nodes tree) i x (before.1) count below)

  -- a node that is taken over is built
  pub again_built : (e : ShapeNode) → slice_get work.nodes.now k ≡ Some e → IsAgain last leaves found e placed
      → IsAtPlace nodes (IsBuiltAt work seen k) placed.place
  again_built (Leaf s) at again =
      let params = params_of work.memo.now in
      let sinks = work.sinks.now in
      let t = again_leaf sinks last leaves found nodes tree stands same are (before.0) placed s again in
      let sink : Sink = t.3.0 in
      let leaf = known_leaf params seen sink (leaf_key sink) nodes placed.place refl sound noted
      (has_key nodes placed.place t.0 (leaf_key sink) (t.1) (t.3.2) (t.2)) in
      let own = leaf_built params sinks seen s sink leaf.0 (slice_get_within sinks s sink (t.3.1))
      (subst (λ x. IsBuiltLeaf seen x leaf.0) (sym (get_or_from_slice_get sinks s sink sink (t.3.1))) (leaf.2)) in
      subst (λ r. IsAtPlace nodes (IsBuilt params sinks seen r) placed.place)
      (sym (tip_at work.nodes.now k h (Leaf s) s (get_or_from_slice_get work.nodes.now k (Leaf s) (Leaf s) at)))
      (leaf.0, leaf.1, own)
  again_built (Pair l r) at again =
      let params = params_of work.memo.now in
      let sinks = work.sinks.now in
      let t = again_pair sinks last leaves found nodes tree stands same are (before.0) placed l r again in
      let x : Built = t.3 in
      let y : Built = t.4 in
      let key = both_make_key x.number y.number (t.7) (t.8) in
      subst (λ r. IsAtPlace nodes (IsBuilt params sinks seen r) placed.place)
      (sym (pair_at_number sinks work.nodes.now ready.shape k h (Pair l r) l r (get_or_from_slice_get work.nodes.now k (Pair l r) (Pair l r) at)))
      (known_pair params sinks seen sound _ _ (Pair l r) x y (built_before l x (t.5)) (built_before r y (t.6)) key.0 (key.1) nodes placed.place noted
      (has_key nodes placed.place t.0 key.0 (t.1) (t.9 ∙ key.1) (t.2)))

  -- and has its key
  pub again_keyed : (e : ShapeNode) → slice_get work.nodes.now k ≡ Some e → IsAgain last leaves found e placed
      → IsAtPlace nodes (IsKeyAt work (picked nodes tree) k) placed.place
  again_keyed (Leaf s) at again =
      let t = again_leaf work.sinks.now last leaves found nodes tree stands same are (before.0) placed s again in (
        t.0,
        t.1,
        λ node here.
            subst (λ n. IsKeyOf work.sinks.now (picked nodes tree) n t.0.key) (some_one (Leaf s) node (slice_get work.nodes.now k) at here) (t.3),
      )
  again_keyed (Pair l r) at again =
      let t = again_pair work.sinks.now last leaves found nodes tree stands same are (before.0) placed l r again in (
        t.0,
        t.1,
        λ node here.
            subst (λ n. IsKeyOf work.sinks.now (picked nodes tree) n t.0.key) (some_one (Pair l r) node (slice_get work.nodes.now k) at here)
            (t.3, t.4, t.5, t.6, t.9),
      )

  pub again_taken : (e : ShapeNode) → slice_get work.nodes.now k ≡ Some e → IsAgain last leaves found e placed → IsTakenOver last nodes placed
  again_taken (Leaf s) at again =
      let t = again_leaf work.sinks.now last leaves found nodes tree stands same are (before.0) placed s again in
      taken_over last nodes placed again.number again.again again.place (t.0, t.1, t.2) (stands again.whole)
  again_taken (Pair l r) at again =
      let t = again_pair work.sinks.now last leaves found nodes tree stands same are (before.0) placed l r again in
      taken_over last nodes placed again.number again.again again.place (t.0, t.1, t.2) (stands again.whole)

-- the node of an earlier number at its place
pub place_at : (work : Work) (seen : List MemoEntry) (k : ℕ) (nodes : List Built) (tree : List ℕ) (i p : ℕ) → StandAt nodes tree (AreBuilt work seen 0)
    → length tree ≡ k → i < k → p ≡ get_or tree i p → IsAtPlace nodes (IsBuiltAt work seen i) p
place_at work seen k nodes tree i p stand long below is =
    part_at work seen 0 k nodes tree i p stand (omega (arith, long)) (omega arith) below
    (subst (λ j. p ≡ get_or tree j p) (let same : i ≡ i - 0 = omega arith in same) is)

-- the sites of one node more
pub sites_push : (nodes longer : List Built) → IsPrefix nodes longer → (ps : List ℕ) → All (λ p. p < length nodes) ps → (p : ℕ) (b : Built)
    → slice_get longer p ≡ Some b → (was now : List Site) (s : Site) → was ≡ sites_of (picked nodes ps) → now ≡ was ++ s ∷ [] → s ≡ site_of b.finished
    → now ≡ sites_of (picked longer (ps ++ p ∷ []))
sites_push nodes longer more ps all p b here was now s was_is now_is site =
    let own : Built → Site = λ (node : Built). site_of node.finished in
    now_is ∙ (λ z. was_is z ++ site z ∷ []) ∙ sym (map-append own (picked nodes ps) (b ∷ []))
    ∙ ap sites_of (sym (picked_further nodes longer more ps all p b here))

-- the merges of one node more
pub merges_more : (work : Work) (seen longer : List MemoEntry) (k start was now : ℕ) → k < length work.nodes.now → IsPrefix seen longer
    → was ≤ start + missing_from work seen 0 k → now ≤ was + missing_at work longer k → now ≤ start + missing_from work seen 0 (k + 1)
merges_more work seen longer k start was now h more before here =
    let same : k ≡ k - 0 = omega arith in
    let next : k + 1 - 0 ≡ k + 1 = omega arith in
    subst (λ n. now ≤ start + missing_from work seen 0 n) next
    (merges_next work seen longer 0 k start was now (omega arith) h more (subst (λ n. was ≤ start + missing_from work seen 0 n) same before) here)

-- all its facts of a node that is added to a tree
module _ (work : Work) (nodes longer : List Built) (more : IsPrefix nodes longer) (tree : List ℕ) (within : All (λ p. p < length nodes) tree)
    (k : ℕ) (long : length tree ≡ k) (p : ℕ) (b : Built) (here : slice_get longer p ≡ Some b) where
  pub keyed_further : AreKeyed work.sinks.now work.nodes.now (picked nodes tree) → IsAtPlace longer (λ node. IsSome node.number) p
      → IsAtPlace longer (IsKeyAt work (picked longer tree) k) p → AreKeyed work.sinks.now work.nodes.now (picked longer (tree ++ p ∷ []))
  keyed_further keyed number key =
      let one : number.0 ≡ b = some_one number.0 b (slice_get longer p) (number.1) here in
      let other : key.0 ≡ b = some_one key.0 b (slice_get longer p) (key.1) here in
      subst (AreKeyed work.sinks.now work.nodes.now) (sym (picked_further nodes longer more tree within p b here))
      (keyed_push work.sinks.now work.nodes.now (picked nodes tree) b k (length-picked nodes tree within ∙ long) keyed
      (subst (λ (x : Built). IsSome x.number) one (number.2))
      (λ node at. subst (λ bs. IsKeyOf work.sinks.now bs node b.key) (picked_stays nodes longer more tree within)
      (subst (λ (x : Built). IsKeyOf work.sinks.now (picked longer tree) node x.key) other (key.2 node at))))

taken_first : (last : LastTree) (nodes : List Built) (p : ℕ) (o : Option ℕ)
    → IfSome o (λ number. (slice_get last.places.items number ≡ Some p) × IsAtPlace nodes (λ node. IsSome node.number) p × StandsIn nodes last)
    → IfSome o (λ number. slice_get last.places.items number ≡ Some p)
taken_first last nodes p None taken = tt
taken_first last nodes p (Some n) taken = taken.0

-- and its number in the last tree
pub found_further : (last : LastTree) (nodes : List Built) (tree tree' : List ℕ) (found found' : List (Option ℕ)) (placed : Placed)
    → AreFound last.places.items tree found → IsTakenOver last nodes placed → tree' ≡ tree ++ placed.place ∷ [] → found' ≡ found ++ placed.again ∷ []
    → AreFound last.places.items tree' found'
found_further last nodes tree tree' found found' placed are taken is same =
    subst (λ (x : List ℕ × List (Option ℕ)). AreFound last.places.items x.0 x.1) (λ z. (sym is z, sym same z))
    (found_push last.places.items tree found placed.place placed.again are (taken_first last nodes placed.place placed.again taken))

-- what was taken over was so from the list itself
pub taken_in : (last : LastTree) (nodes same : List Built) (placed : Placed) → same ≡ nodes → IsTakenOver last nodes placed → IsTakenOver last same placed
taken_in last nodes same placed is taken = subst (λ ns. IsTakenOver last ns placed) (sym is) taken

-- a leaf and a pair that were not taken over have their keys
pub leaf_key_at : (work : Work) (nodes bs : List Built) (k s : ℕ) (d : Sink) (place : ℕ) → slice_get work.nodes.now k ≡ Some (Leaf s)
    → s < length work.sinks.now → IsAtPlace nodes (λ leaf. leaf.key ≡ Some (leaf_key (get_or work.sinks.now s d))) place
    → IsAtPlace nodes (IsKeyAt work bs k) place
leaf_key_at work nodes bs k s d place at h here = (
  here.0,
  here.1,
  λ node there.
      subst (λ n. IsKeyOf work.sinks.now bs n here.0.key) (some_one (Leaf s) node (slice_get work.nodes.now k) at there)
      (get_or work.sinks.now s d, slice_get-get_or work.sinks.now s d h, here.2),
)

pub pair_key_at : (work : Work) (nodes : List Built) (tree : List ℕ) (k l r a b place : ℕ) → All (λ p. p < length nodes) tree
    → slice_get work.nodes.now k ≡ Some (Pair l r) → slice_get tree l ≡ Some a → slice_get tree r ≡ Some b → IsPairOver nodes a b place
    → IsAtPlace nodes (IsKeyAt work (picked nodes tree) k) place
pair_key_at work nodes tree k l r a b place within at left right over = (
  over.2,
  over.5,
  λ node there.
      subst (λ n. IsKeyOf work.sinks.now (picked nodes tree) n over.2.key) (some_one (Pair l r) node (slice_get work.nodes.now k) at there) (
        over.0,
        over.1,
        picked_get nodes tree within l a over.0 left (over.3),
        picked_get nodes tree within r b over.1 right (over.4),
        over.6,
      ),
)

-- what stands, stands in longer lists
pub stand_stays : (work : Work) (seen later : List MemoEntry) (nodes longer : List Built) (tree : List ℕ) → IsPrefix seen later
    → length later ≤ max_entries → IsPrefix nodes longer → StandAt nodes tree (AreBuilt work seen 0) → StandAt longer tree (AreBuilt work later 0)
stand_stays work seen later nodes longer tree goes_on short more stand = (
  places_stay nodes longer more tree (stand.0),
  subst (AreBuilt work later 0) (sym (picked_stays nodes longer more tree (stand.0)))
      (built_all_stay work seen later 0 (picked nodes tree) goes_on short (stand.1)),
)
