-- Lists that have a first, or a last, element with a property.
use Rattle.std.proofs.Common.{◌≡◌, ℕ, ◌+◌, List, [], ◌∷◌, ◌++◌, append_assoc, take, drop, length, slice_get, Option, Some, refl, sym, ap, subst, ◌∙◌}
use Rattle.std.specs.List.{All}
use Rattle.std.proofs.Math.Seq.{take-append_seam, drop-append-add}
use Rattle.std.proofs.lemmas.List.Elements.{All-append, All-nil}
use Rattle.cts_postorder.specs.BinaryTree.{BinaryTree}
use Rattle.cts_postorder.specs.Occurrence.{Occurrence, occurrences_of}
use Rattle.cts_postorder.specs.Pass.{IsLeastFailure, IsGreatestFailure}
use Rattle.cts_postorder.specs.PostOrder.{trees_of}

at_seam : {X : Type 0} (front : List X) (x : X) (back : List X) → slice_get (front ++ x ∷ back) (length front) ≡ Some x
at_seam [] x back = refl
at_seam (y ∷ front) x back = at_seam front x back

module _ {X : Type 0} (Bad : X → Type 0) where
  -- ---- the first one
  pub record HasFirst (xs : List X) : Type 0 where
    pub front : List X
    pub first : X
    pub back : List X
    pub whole : xs ≡ front ++ first ∷ back
    pub bad : Bad first
    pub none_before : All (λ x. ¬ Bad x) front

  pub first_stays : (xs ys : List X) → HasFirst xs → HasFirst (xs ++ ys)
  first_stays xs ys f = record {
    front = f.front;
    first = f.first;
    back = f.back ++ ys;
    whole = ap (λ zs. zs ++ ys) f.whole ∙ append_assoc f.front (f.first ∷ f.back) ys;
    bad = f.bad;
    none_before = f.none_before;
  }

  pub first_later : (xs ys : List X) → All (λ x. ¬ Bad x) xs → HasFirst ys → HasFirst (xs ++ ys)
  first_later xs ys none f = record {
    front = xs ++ f.front;
    first = f.first;
    back = f.back;
    whole = ap (λ zs. xs ++ zs) f.whole ∙ sym (append_assoc xs f.front (f.first ∷ f.back));
    bad = f.bad;
    none_before = All-append (λ x. ¬ Bad x) xs f.front none f.none_before;
  }

  pub first_at_end : (xs : List X) (x : X) → All (λ y. ¬ Bad y) xs → Bad x → HasFirst (xs ++ x ∷ [])
  first_at_end xs x none bad = record { front = xs; first = x; back = []; whole = refl; bad = bad; none_before = none }

  -- ---- the last one
  pub record HasLast (xs : List X) : Type 0 where
    pub front : List X
    pub last : X
    pub back : List X
    pub whole : xs ≡ front ++ last ∷ back
    pub bad : Bad last
    pub none_after : All (λ x. ¬ Bad x) back

  pub last_stays : (xs ys : List X) → HasLast ys → HasLast (xs ++ ys)
  last_stays xs ys f = record {
    front = xs ++ f.front;
    last = f.last;
    back = f.back;
    whole = ap (λ zs. xs ++ zs) f.whole ∙ sym (append_assoc xs f.front (f.last ∷ f.back));
    bad = f.bad;
    none_after = f.none_after;
  }

  pub last_earlier : (xs ys : List X) → HasLast xs → All (λ x. ¬ Bad x) ys → HasLast (xs ++ ys)
  last_earlier xs ys f none = record {
    front = f.front;
    last = f.last;
    back = f.back ++ ys;
    whole = ap (λ zs. zs ++ ys) f.whole ∙ append_assoc f.front (f.last ∷ f.back) ys;
    bad = f.bad;
    none_after = All-append (λ x. ¬ Bad x) f.back ys f.none_after none;
  }

  pub last_at_end : (xs : List X) (x : X) → Bad x → HasLast (xs ++ x ∷ [])
  last_at_end xs x bad = record { front = xs; last = x; back = []; whole = refl; bad = bad; none_after = All-nil _ }

-- ---- as the numbers at which passes fail
module _ {N : Type 0} (kids : N → Option (ℕ × ℕ)) (nodes : List N) where
  pub least_of_first : (Fails : BinaryTree N → Type 0) → HasFirst Fails (trees_of kids nodes) → (k : ℕ) × IsLeastFailure kids nodes Fails k
  least_of_first Fails f = (
    length f.front,
    record {
      tree = f.first;
      found = ap (λ ts. slice_get ts (length f.front)) f.whole ∙ at_seam f.front f.first f.back;
      fails = f.bad;
      none_before = subst (All (λ t. ¬ Fails t))
          (sym (ap (take (length f.front)) f.whole ∙ take-append_seam f.front (f.first ∷ f.back))) f.none_before;
    },
  )

  pub greatest_of_last : (Fails : Occurrence N → Type 0) → HasLast Fails (occurrences_of kids nodes) → (k : ℕ) × IsGreatestFailure kids nodes Fails k
  greatest_of_last Fails f = (
    length f.front,
    record {
      here = f.last;
      found = ap (λ os. slice_get os (length f.front)) f.whole ∙ at_seam f.front f.last f.back;
      fails = f.bad;
      none_after = subst (All (λ o. ¬ Fails o))
          (sym (ap (drop (length f.front + 1)) f.whole ∙ drop-append-add f.front (f.last ∷ f.back) 1)) f.none_after;
    },
  )
