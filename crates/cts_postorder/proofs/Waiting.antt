-- A pass upward with a stack: one step at a leaf, one at a pair, and the end.
use Rattle.std.proofs.Common.{◌≡◌, ℕ, zero, suc, ◌+◌, ◌-◌, ◌<◌, ◌≤◌, List, [], ◌∷◌, ◌++◌, map, drop, length, get_or, reverse, set, Option, Some, None, refl, sym, ap, subst, ◌∙◌, arith}
use Rattle.std.specs.Prelude.{IfSome}
use Rattle.std.specs.List.{AllZip}
use Rattle.std.proofs.lemmas.List.{drop_more, drop_all, reverse-append, length-reverse}
use Rattle.std.proofs.lemmas.Slice.Zip.{AllZip-long}
use Rattle.cts_postorder.specs.BinaryTree.{BinaryTree}
use Rattle.cts_postorder.specs.PostOrder.{IsPostOrderFrom, IsPostOrder, root_of}
use Rattle.cts_postorder.specs.Stack.{stack_after}
use Rattle.cts_postorder.proofs.Stacks.{IsJoin, post_splits}
use Rattle.cts_postorder.specs.Waiting.{StandsAt, AreWaiting}

-- the two latest trees of a stack that a pair joins
joined : (stack : List ℕ) (p : ℕ × ℕ) → IsJoin (Some p) stack → (below : List ℕ) × (stack ≡ p.1 ∷ p.0 ∷ below)
joined [] p join = absurd join
joined (b ∷ []) p join = absurd join
joined (b ∷ a ∷ below) p join = (below, ap (λ (q : ℕ × ℕ). q.1 ∷ q.0 ∷ below) (sym join))

-- one tree is left at the end
last_one : (stack : List ℕ) (k : ℕ) → IsPostOrderFrom [] stack k → (a : ℕ) × (stack ≡ a ∷ [])
unfolding IsPostOrderFrom
last_one [] k reads = absurd reads
last_one (a ∷ []) k reads = (a, refl)
last_one (b ∷ a ∷ stack) k reads = absurd reads

first_of : (a b : ℕ) (xs ys : List ℕ) → a ∷ xs ≡ b ∷ ys → a ≡ b
first_of a b xs ys e = cc

-- The pair of number k takes the two latest values, those of its parts, and leaves the others with one of its own.
pub record AtPair {N V : Type 0} (kids : N → Option (ℕ × ℕ)) (nodes : List N) (R : BinaryTree N → V → Type 0) (k : ℕ)
    (p : ℕ × ℕ) (values : List V) (a b : V) : Type 0 where
  pub left_value : StandsAt kids nodes R (p.0) a
  pub right_value : StandsAt kids nodes R (p.1) b
  pub next : (v : V) → StandsAt kids nodes R k v → AreWaiting kids nodes R (k + 1) (values ++ v ∷ [])

module _ {N V : Type 0} (kids : N → Option (ℕ × ℕ)) (nodes : List N) (R : BinaryTree N → V → Type 0) where
  abbrev Values : List ℕ → List V → Type 0
  Values stack values = AllZip (StandsAt kids nodes R) stack (reverse values)

  pub waiting_at_start : IsPostOrder (map kids nodes) → AreWaiting kids nodes R 0 []
  waiting_at_start ok = record {
    stack = [];
    reads = ok;
    latest = λ number rest e. cc;
    each_value = tt;
  }

  module _ (k : ℕ) (e : N) (h : k < length nodes) (values : List V) (w : AreWaiting kids nodes R k values) where
    splits : IsJoin (kids (get_or nodes k e)) w.stack
        × IsPostOrderFrom (map kids (drop (k + 1) nodes)) (stack_after (kids (get_or nodes k e)) w.stack k) (k + 1)
    splits =
        post_splits (kids (get_or nodes k e)) (map kids (drop (k + 1) nodes)) w.stack k
        (subst (λ ns. IsPostOrderFrom (map kids ns) w.stack k) (drop_more nodes k e h) w.reads)

    pub waiting_at_leaf : kids (get_or nodes k e) ≡ None → (v : V) → StandsAt kids nodes R k v
        → AreWaiting kids nodes R (k + 1) (values ++ v ∷ [])
    waiting_at_leaf leaf v here = record {
      stack = k ∷ w.stack;
      reads = subst (λ c. IsPostOrderFrom (map kids (drop (k + 1) nodes)) (stack_after c w.stack k) (k + 1)) leaf (splits.1);
      latest = λ number rest is. omega (arith, first_of k number w.stack rest is);
      each_value = subst (AllZip (StandsAt kids nodes R) (k ∷ w.stack)) (sym (reverse-append values (v ∷ []))) (here, w.each_value);
    }

    module _ (p : ℕ × ℕ) (pair : kids (get_or nodes k e) ≡ Some p) where
      joins : (below : List ℕ) × (w.stack ≡ p.1 ∷ p.0 ∷ below)
      joins = joined w.stack p (subst (λ c. IsJoin c w.stack) pair (splits.0))

      pub two_wait : 2 ≤ length values
      two_wait =
          omega (arith, AllZip-long (StandsAt kids nodes R) w.stack (reverse values) w.each_value, length-reverse values, ap length (joins.1))

      pub waiting_at_pair : (rest : List V) (a b : V) → values ≡ rest ++ a ∷ b ∷ [] → AtPair kids nodes R k p rest a b
      waiting_at_pair rest a b is =
          let back : reverse values ≡ b ∷ a ∷ reverse rest = ap reverse is ∙ reverse-append rest (a ∷ b ∷ []) in
          let each : AllZip (StandsAt kids nodes R) (p.1 ∷ p.0 ∷ joins.0) (b ∷ a ∷ reverse rest) =
          subst (λ s. AllZip (StandsAt kids nodes R) s (b ∷ a ∷ reverse rest)) (joins.1)
          (subst (AllZip (StandsAt kids nodes R) w.stack) back w.each_value) in
          let reads : IsPostOrderFrom (map kids (drop (k + 1) nodes)) (stack_after (Some p) (p.1 ∷ p.0 ∷ joins.0) k) (k + 1) =
          subst (λ s. IsPostOrderFrom (map kids (drop (k + 1) nodes)) (stack_after (Some p) s k) (k + 1)) (joins.1)
          (subst (λ c. IsPostOrderFrom (map kids (drop (k + 1) nodes)) (stack_after c w.stack k) (k + 1)) pair (splits.1)) in
          record {
            left_value = each.1.0;
            right_value = each.0;
            next = λ v here. record {
              stack = k ∷ joins.0;
              reads = reads;
              latest = λ number more is. omega (arith, first_of k number (joins.0) more is);
              each_value = subst (AllZip (StandsAt kids nodes R) (k ∷ joins.0)) (sym (reverse-append rest (v ∷ []))) (here, each.1.1);
            };
          }

  module _ (k : ℕ) (h : length nodes ≤ k) (within : k ≤ length nodes) (values : List V) (w : AreWaiting kids nodes R k values) where
    left_over : (a : ℕ) × (w.stack ≡ a ∷ [])
    left_over = last_one w.stack k (subst (λ ns. IsPostOrderFrom (map kids ns) w.stack k) (drop_all k nodes h) w.reads)

    pub one_waits : 0 < length values
    one_waits =
        omega (arith, AllZip-long (StandsAt kids nodes R) w.stack (reverse values) w.each_value, length-reverse values, ap length (left_over.1))

    pub root_waits : (rest : List V) (v : V) → values ≡ rest ++ v ∷ [] → IfSome (root_of kids nodes) (λ t. R t v)
    unfolding root_of
    root_waits rest v is =
        let back : reverse values ≡ v ∷ reverse rest = ap reverse is ∙ reverse-append rest (v ∷ []) in
        let each : AllZip (StandsAt kids nodes R) (left_over.0 ∷ []) (v ∷ reverse rest) =
        subst (λ s. AllZip (StandsAt kids nodes R) s (v ∷ reverse rest)) (left_over.1)
        (subst (AllZip (StandsAt kids nodes R) w.stack) back w.each_value) in
        let last : left_over.0 ≡ length nodes - 1 = omega (arith, w.latest (left_over.0) [] (left_over.1)) in
        subst (λ n. StandsAt kids nodes R n v) last (each.0)

-- another item in place of one that stands in the relation
pub all_zip-set : {A B : Type 0} (R : A → B → Type 0) (xs : List A) (ys : List B) (k : ℕ) (d : A) (y : B) → AllZip R xs ys
    → R (get_or xs k d) y → AllZip R xs (set ys k y)
all_zip-set R [] [] k d y all here = tt
all_zip-set R [] (v ∷ ys) k d y all here = absurd all
all_zip-set R (x ∷ xs) [] k d y all here = absurd all
all_zip-set R (x ∷ xs) (v ∷ ys) zero d y all here = (here, all.1)
all_zip-set R (x ∷ xs) (v ∷ ys) (suc k) d y all here = (all.0, all_zip-set R xs ys k d y (all.1) here)
