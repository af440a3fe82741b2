-- What workers have done, piece after piece and one beside another.
use Rattle.std.proofs.Common.{◌≡◌, ◌≢◌, ℕ, zero, suc, ◌<◌, ◌≤◌, Bool, true, false, cond, nat_lt, List, [], ◌∷◌, ◌++◌, filter, length, get_or, All, AllPairs, Contains, refl, sym, ap, ◌∙◌, subst, arith, append-nil}
use Rattle.std.proofs.lemmas.Bool.{lt-ltb, le-ltb, ltb-true}
use Rattle.std.proofs.lemmas.List.{map-append}
use Rattle.std.proofs.lemmas.List.Elements.{All-cons, Contains-append_left, Contains-append_right, filter-append}
use Rattle.std.proofs.lemmas.List.Kept.{AllPairs-filter}
use Rattle.cts_deal.specs.Hands.{IsDealt}
use Rattle.cts_list.proofs.Distinct.{at_most_from_distinct_below}
use Rattle.cts_work.specs.declared.workers.Done.{Done}
use Rattle.cts_work.specs.Done.{AreOnce, Covers, numbers_of}

pub numbers_push : (ds : List Done) (d : Done) → numbers_of (ds ++ d ∷ []) ≡ numbers_of ds ++ d.number ∷ []
numbers_push ds d = map-append (λ (x : Done). x.number) ds (d ∷ [])

pub numbers_append : (ds es : List Done) → numbers_of (ds ++ es) ≡ numbers_of ds ++ numbers_of es
numbers_append ds es = map-append (λ (x : Done). x.number) ds es

-- no more numbers below a count than the count
pub few_drawn : (count : ℕ) (drawn : List ℕ) → AllPairs (λ a b. a ≢ b) drawn → All (λ n. n < count) drawn → length drawn ≤ count
few_drawn count drawn distinct below = at_most_from_distinct_below drawn count distinct below

module _ (count : ℕ) where
  All-tail : (x : ℕ) (xs : List ℕ) → All (λ n. n < count) (x ∷ xs) → All (λ n. n < count) xs
  All-tail x xs all = λ k d h. all (suc k) d (omega (arith, h))

  keeps : (xs : List ℕ) → All (λ n. n < count) xs → filter (λ n. nat_lt n count) xs ≡ xs
  keeps [] below = refl
  keeps (x ∷ xs) below =
      let here : nat_lt x count ≡ true = lt-ltb x count (below 0 0 (omega arith)) in
      ap (λ b. cond b (x ∷ filter (λ n. nat_lt n count) xs) (filter (λ n. nat_lt n count) xs)) here
      ∙ ap (λ ys. x ∷ ys) (keeps xs (All-tail x xs below))

  drops : (x : ℕ) → count ≤ x → filter (λ n. nat_lt n count) (x ∷ []) ≡ []
  drops x h = let here : nat_lt x count ≡ false = le-ltb x count h in ap (λ (b : Bool). cond b (x ∷ []) []) here

  -- a worker that met a number past the last
  pub covers_end : (drawn numbers next : List ℕ) (n : ℕ) → drawn ≡ numbers → All (λ n. n < count) drawn → next ≡ drawn ++ n ∷ [] → count ≤ n
      → Covers count next numbers
  covers_end drawn numbers next n same below is past =
      let all : filter (λ n. nat_lt n count) next ≡ numbers =
      ap (filter (λ n. nat_lt n count)) is ∙ filter-append (λ n. nat_lt n count) drawn (n ∷ [])
      ∙ (λ z. keeps drawn below z ++ drops n past z) ∙ append-nil drawn ∙ same in
      record {
        are = sym all;
        past = (n, subst (λ l. Contains l n) (sym is) (Contains-append_right drawn (n ∷ []) n (0, omega arith, refl)), past);
      }

  -- two workers
  pub covers_append : (a b both xs ys zs : List ℕ) → both ≡ a ++ b → zs ≡ xs ++ ys → Covers count a xs → Covers count b ys → Covers count both zs
  covers_append a b both xs ys zs is are left right = record {
    are = are ∙ (λ z. left.are z ++ right.are z) ∙ sym (filter-append (λ n. nat_lt n count) a b) ∙ ap (filter (λ n. nat_lt n count)) (sym is);
    past = (left.past.0, subst (λ l. Contains l left.past.0) (sym is) (Contains-append_left a b left.past.0 (left.past.1)), left.past.2);
  }

  -- a number below the count that stands in a list is kept
  kept_at : (xs : List ℕ) (n k : ℕ) → k < length xs → get_or xs k n ≡ n → n < count → Contains (filter (λ n. nat_lt n count) xs) n
  kept_at [] n k w is h = absurd (omega arith)
  kept_at (x ∷ xs) n zero w is h =
      let here : nat_lt x count ≡ true = lt-ltb x count (subst (λ (y : ℕ). y < count) (sym is) h) in
      subst (λ b. Contains (cond b (x ∷ filter (λ n. nat_lt n count) xs) (filter (λ n. nat_lt n count) xs)) n) (sym here) (0, omega arith, is)
  kept_at (x ∷ xs) n (suc k) w is h = by (nat_lt x count) refl (kept_at xs n k (omega arith) is h)
    where
      by : (b : Bool) → nat_lt x count ≡ b → Contains (filter (λ n. nat_lt n count) xs) n → Contains (filter (λ n. nat_lt n count) (x ∷ xs)) n
      by true e rest =
          subst (λ b. Contains (cond b (x ∷ filter (λ n. nat_lt n count) xs) (filter (λ n. nat_lt n count) xs)) n) (sym e)
          (suc rest.0, omega (arith, rest.1), rest.2)
      by false e rest =
          subst (λ b. Contains (cond b (x ∷ filter (λ n. nat_lt n count) xs) (filter (λ n. nat_lt n count) xs)) n) (sym e) rest

  all_kept : (xs : List ℕ) → All (λ n. n < count) (filter (λ n. nat_lt n count) xs)
  all_kept [] = λ k d h. absurd (omega arith)
  all_kept (x ∷ xs) = by (nat_lt x count) refl (all_kept xs)
    where
      by : (b : Bool) → nat_lt x count ≡ b → All (λ n. n < count) (filter (λ n. nat_lt n count) xs)
          → All (λ n. n < count) (filter (λ n. nat_lt n count) (x ∷ xs))
      by true e rest =
          subst (λ b. All (λ n. n < count) (cond b (x ∷ filter (λ n. nat_lt n count) xs) (filter (λ n. nat_lt n count) xs))) (sym e)
          (All-cons (λ n. n < count) x (filter (λ n. nat_lt n count) xs) (ltb-true x count e) rest)
      by false e rest =
          subst (λ b. All (λ n. n < count) (cond b (x ∷ filter (λ n. nat_lt n count) xs) (filter (λ n. nat_lt n count) xs))) (sym e) rest

  -- where the whole deal is in one hand, each piece was drawn once
  pub once : (drawn numbers : List ℕ) → IsDealt drawn → Covers count drawn numbers → AreOnce count numbers
  once drawn numbers dealt covers =
      let p : ℕ → Bool = λ n. nat_lt n count in
      let past : covers.past.0 < length drawn =
      subst (λ (m : ℕ). m < length drawn) (covers.past.1.2) (dealt.below (covers.past.1.0) (covers.past.0) (covers.past.1.1)) in
      record {
        distinct = subst (AllPairs (λ a b. a ≢ b)) (sym covers.are) (AllPairs-filter (λ a b. a ≢ b) p drawn dealt.distinct);
        below = subst (All (λ n. n < count)) (sym covers.are) (all_kept drawn);
        every = λ n h.
            let c = dealt.every n (omega (arith, h, past, covers.past.2)) in
            subst (λ xs. Contains xs n) (sym covers.are) (kept_at drawn n (c.0) (c.1) (c.2) h);
      }
