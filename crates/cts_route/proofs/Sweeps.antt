-- A sweep over all points, point by point.
use Rattle.std.proofs.Common.{◌≡◌, ℕ, ◌+◌, ◌<◌, ◌≤◌, ◌⊎◌, inl, inr, Bool, true, false, Option, Some, None, is_some, List, refl, sym, ap, ◌∙◌, subst, below_more, arith}
use Rattle.std.specs.Bool.{OnTrue, OnFalse}
use Rattle.std.specs.Option.{OnSome, IfNone}
use Rattle.cts_route.specs.declared.direction.Direction.{Direction}
use Rattle.cts_route.specs.declared.direction.Direction.TheVariants.{East, West, North, South}
use Rattle.cts_route.specs.declared.graph.Graph.{Graph}
use Rattle.cts_route.specs.Search.{AreLabels, total, IsSettledAt, IsSettledFrom, IsSettledBelow}

pub on_false : (b : Bool) (P : Type 0) → (b ≡ false → P) → OnFalse b P
on_false true P f = tt
on_false false P f = f refl

pub on_true : (b : Bool) (P : Type 0) → (b ≡ true → P) → OnTrue b P
on_true true P f = f refl
on_true false P f = tt

pub from_false : (b : Bool) (P : Type 0) → b ≡ false → OnFalse b P → P
from_false true P e h = cc
from_false false P e h = h

pub from_true : (b : Bool) (P : Type 0) → b ≡ true → OnTrue b P → P
from_true true P e h = h
from_true false P e h = cc

pub from_none : (r : Option ℕ) (b : Bool) (P : Type 0) → b ≡ is_some r → b ≡ false → IfNone r P → P
from_none None b P e f h = h
from_none (Some x) b P e f h = cc

pub from_some : (r : Option ℕ) (b : Bool) (P : Type 0) → b ≡ is_some r → b ≡ true → OnSome r P → P
from_some None b P e f h = cc
from_some (Some x) b P e f h = h

-- a step that makes a path shorter, or changes nothing
pub not_longer : (r : Option ℕ) (before after : List ℕ) → OnSome r (total after < total before) → IfNone r (after ≡ before) → total after ≤ total before
not_longer None before after shorter kept = let e = ap total kept in omega (arith, e)
not_longer (Some x) before after shorter kept = omega (arith, shorter)

-- of four steps down, none of which leads up, one leads down
pub shorter_by_one : (a b c d e : ℕ) → b ≤ a → c ≤ b → d ≤ c → e ≤ d → (b < a) ⊎ ((c < b) ⊎ ((d < c) ⊎ (e < d))) → e < a
shorter_by_one a b c d e p q r s (inl f) = omega arith
shorter_by_one a b c d e p q r s (inr (inl f)) = omega arith
shorter_by_one a b c d e p q r s (inr (inr (inl f))) = omega arith
shorter_by_one a b c d e p q r s (inr (inr (inr f))) = omega arith

pub settled_all : (graph : Graph) (c : ℕ) (labels l1 l2 l3 : List ℕ) → l1 ≡ labels → l2 ≡ l1 → l3 ≡ l2
    → IsSettledAt graph labels East c → IsSettledAt graph l1 West c → IsSettledAt graph l2 North c → IsSettledAt graph l3 South c
    → IsSettledFrom graph labels c
settled_all graph c labels l1 l2 l3 e f g at_east at_west at_north at_south =
    record {
      at = at graph c labels at_east
          (subst (λ (l : List ℕ). IsSettledAt graph l West c) e at_west)
          (subst (λ (l : List ℕ). IsSettledAt graph l North c) (f ∙ e) at_north)
          (subst (λ (l : List ℕ). IsSettledAt graph l South c) (g ∙ f ∙ e) at_south);
    }
  where
    at : (graph : Graph) (c : ℕ) (labels : List ℕ) → IsSettledAt graph labels East c → IsSettledAt graph labels West c
        → IsSettledAt graph labels North c → IsSettledAt graph labels South c → (d : Direction) → IsSettledAt graph labels d c
    at graph c labels e w n s East = e
    at graph c labels e w n s West = w
    at graph c labels e w n s North = n
    at graph c labels e w n s South = s

-- what a sweep has done up to a point
pub record IsSwept (graph : Graph) (start goal old_goal from : ℕ) (before labels : List ℕ) (changed : Bool) : Type 0 where
  pub valid : AreLabels graph goal labels
  pub same_goal : goal ≡ old_goal
  pub kept : changed ≡ false → labels ≡ before
  pub settled : changed ≡ false → (c : ℕ) → c < from → IsSettledBelow graph labels start c
  pub shorter : changed ≡ true → total labels < total before

pub not_swept : (graph : Graph) (start goal : ℕ) (labels : List ℕ) → AreLabels graph goal labels → IsSwept graph start goal goal 0 labels labels false
not_swept graph start goal labels valid =
    record { valid = valid; same_goal = refl; kept = λ _. refl; settled = λ _ c lt. absurd (omega arith); shorter = λ e. cc }

at_most : (graph : Graph) (start goal old_goal from : ℕ) (before labels : List ℕ) (changed : Bool) → IsSwept graph start goal old_goal from before labels changed
    → total labels ≤ total before
at_most graph start goal old_goal from before labels true swept = let lt = swept.shorter refl in omega (arith, lt)
at_most graph start goal old_goal from before labels false swept = let e = ap total (swept.kept refl) in omega (arith, e)

pub swept_shorter : (graph : Graph) (start goal next_goal old_goal from : ℕ) (before labels after : List ℕ) (changed now : Bool)
    → IsSwept graph start goal old_goal from before labels changed → AreLabels graph next_goal after → next_goal ≡ goal
    → total after < total labels → now ≡ true → IsSwept graph start next_goal old_goal (from + 1) before after now
swept_shorter graph start goal next_goal old_goal from before labels after changed now swept valid same less is =
    record {
      valid = valid;
      same_goal = same ∙ swept.same_goal;
      kept = λ e. cc;
      settled = λ e. cc;
      shorter = λ _. let le = at_most graph start goal old_goal from before labels changed swept in omega (arith, le, less);
    }

pub swept_kept : (graph : Graph) (start goal next_goal old_goal from : ℕ) (before labels after : List ℕ) (changed now : Bool)
    → IsSwept graph start goal old_goal from before labels changed → AreLabels graph next_goal after → next_goal ≡ goal
    → after ≡ labels → IsSettledBelow graph labels start from → now ≡ changed → IsSwept graph start next_goal old_goal (from + 1) before after now
swept_kept graph start goal next_goal old_goal from before labels after changed now swept valid same kept here is =
    record {
      valid = valid;
      same_goal = same ∙ swept.same_goal;
      kept = λ e. kept ∙ swept.kept (sym is ∙ e);
      settled = λ e. below_more (λ c. IsSettledBelow graph after start c) from
          (λ c lt. subst (λ (l : List ℕ). IsSettledBelow graph l start c) (sym kept) (swept.settled (sym is ∙ e) c lt))
          (subst (λ (l : List ℕ). IsSettledBelow graph l start from) (sym kept) here);
      shorter = λ e. let lt = swept.shorter (sym is ∙ e) in let eq = ap total kept in omega (arith, lt, eq);
    }
