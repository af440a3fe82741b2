-- What it means that two keys are one, and that the map tells them apart as this crate's words do.
use Rattle.std.proofs.Common.{◌≡◌, Bool, true, false, ◌&&◌, refl, sym, ap, ◌∙◌, true≢false}
use Rattle.std.specs.Bool.{Decides, ◌==◌}
use Rattle.std.specs.Ordering.{int_eq}
use Rattle.std.proofs.lemmas.Bool.Decides.{Decides-int_eq, Decides-eqb}
use Rattle.cts_memo.specs.declared.key.Key.{Key}
use Rattle.cts_memo.specs.declared.key.Key.TheVariants.{Leaf, Pair}
use Rattle.cts_memo.specs.Keys.{same_key}
use Rattle.cts_memo.specs.contracts.key.KeyPartialEq.TheImpl.{ghosts}

first : (a b : Bool) → a && b ≡ true → a ≡ true
first true b e = refl
first false b e = absurd (true≢false (sym e))

second : (a b : Bool) → a && b ≡ true → b ≡ true
second true b e = e
second false b e = absurd (true≢false (sym e))

both : (a b : Bool) → a ≡ true → b ≡ true → a && b ≡ true
both a b p q = ap (λ x. x && b) p ∙ q

pub same_key-decides : (a b : Key) → Decides (same_key a b) (a ≡ b)
same_key-decides (Leaf x y c o) (Leaf x' y' c' o') = (
  (λ e.
      let p = (Decides-int_eq x x').0 (first _ _ e) in
      let q = (Decides-int_eq y y').0 (first _ _ (second (int_eq x x') _ e)) in
      let last : (c == c') && (o == o') ≡ true = second (int_eq y y') _ (second (int_eq x x') _ e) in
      let r = (Decides-eqb c c').0 (first _ _ last) in
      let s = (Decides-eqb o o').0 (second (c == c') _ last) in
      λ k. Leaf (p k) (q k) (r k) (s k)),
  (λ e.
      let last = both _ _ ((Decides-eqb c c').1 (cc (e))) ((Decides-eqb o o').1 (cc (e))) in
      both _ _ ((Decides-int_eq x x').1 (cc (e))) (both _ _ ((Decides-int_eq y y').1 (cc (e))) last)),
)
same_key-decides (Pair l r) (Pair l' r') = (
  (λ e.
      let p = (Decides-eqb l l').0 (first _ _ e) in
      let q = (Decides-eqb r r').0 (second _ _ e) in
      λ k. Pair (p k) (q k)),
  (λ e. both _ _ ((Decides-eqb l l').1 (cc (e))) ((Decides-eqb r r').1 (cc (e)))),
)
same_key-decides (Leaf x y c o) (Pair l r) = ((λ e. absurd (true≢false (sym e))), λ e. absurd (cc (e)))
same_key-decides (Pair l r) (Leaf x y c o) = ((λ e. absurd (true≢false (sym e))), λ e. absurd (cc (e)))

-- the map's test is the same
pub map_test : (a b : Key) → ghosts.eq a b ≡ same_key a b
map_test (Leaf x y c o) (Leaf x' y' c' o') = refl
map_test (Pair l r) (Pair l' r') = refl
map_test (Leaf x y c o) (Pair l r) = refl
map_test (Pair l r) (Leaf x y c o) = refl
