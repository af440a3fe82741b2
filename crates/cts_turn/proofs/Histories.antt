-- Steps of one seat on the history and the object.
use Rattle.std.proofs.Common.{◌≡◌, ◌≢◌, ℕ, ◌+◌, ◌<◌, ◌⊎◌, ⊎_elim, inl, inr, List, [], ◌∷◌, ◌++◌, length, set, sym, refl, ap, ◌∙◌, subst, arith, Option, Some}
use mathlib.Core.Logic.{dite}
use mathlib.Core.Option as homes
use mathlib.Core.Option.{some}
use native.Mathlib.Decide.{ℕ_discrete}
use lib.ListN.{get_elem?}
use Rattle.atomic_table.proofs.Lists.{at_longer}
use Rattle.cts_turn.specs.declared.view.View.{View}
use Rattle.cts_turn.specs.Views.{first_half, second_half, joined, spent_view, longer}
use Rattle.cts_turn.specs.History.{NoneInTurn, SomeInTurn, HasSeen, IsHistory, KeepsObject}
use Rattle.cts_turn.proofs.Sums.{total_append, total_set}
use Rattle.cts_turn.proofs.Joins.{shorter_begins, longer_begins, longer_whole}
use Rattle.cts_turn.proofs.Seats.{at_same, put_here, put_else, each_set, each_snoc}

module _ {E O : Type 0} where
  -- some view that is not spent has seen the whole
  abbrev pub Whole : List E → List (View E O) → Type 0
  Whole history views = (i : ℕ) × (v : View E O) × (get_elem? views i ≡ some v) × (0 < v.share) × (v.seen ≡ history)

  pub whole_mine : (history : List E) (views : List (View E O)) (id : ℕ) (v w : View E O) → get_elem? views id ≡ some v → 0 < w.share → w.seen ≡ history
      → Whole history (set views id w)
  whole_mine history views id v w at some_share seen = (id, w, put_here views id v w at, some_share, seen)

  pub whole_still : (history : List E) (views : List (View E O)) (id : ℕ) (v w : View E O) → get_elem? views id ≡ some v
      → (0 < v.share → 0 < w.share) → (v.seen ≡ history → w.seen ≡ history) → Whole history views → Whole history (set views id w)
  whole_still history views id v w at share seen whole = dite (ℕ_discrete whole.0 id)
      (λ e. let same : whole.1 ≡ v = at_same views id whole.1 v (subst (λ (k : ℕ). get_elem? views k ≡ some whole.1) e whole.2) at in
      (id, w, put_here views id v w at, share (subst (λ (x : View E O). 0 < x.share) same whole.3), seen (subst (λ (x : View E O). x.seen ≡ history) same whole.4)))
      (λ ne. (whole.0, whole.1, put_else views id whole.0 whole.1 w ne whole.2, whole.3, whole.4))

  pub in_turn_still : (views : List (View E O)) (id : ℕ) (v w : View E O) → get_elem? views id ≡ some v → w.in_turn ≡ v.in_turn
      → SomeInTurn views → SomeInTurn (set views id w)
  in_turn_still views id v w at turn some_turn = dite (ℕ_discrete some_turn.0 id)
      (λ e. let same : some_turn.1 ≡ v = at_same views id some_turn.1 v (subst (λ (k : ℕ). get_elem? views k ≡ some some_turn.1) e some_turn.2) at in
      (id, w, put_here views id v w at, subst (λ (k : ℕ). 0 < k) (ap (λ (x : View E O). x.in_turn) same ∙ sym turn) some_turn.3))
      (λ ne. (some_turn.0, some_turn.1, put_else views id some_turn.0 some_turn.1 w ne some_turn.2, some_turn.3))

  pub none_still : (views : List (View E O)) (id : ℕ) (v w : View E O) → get_elem? views id ≡ some v → w.in_turn ≡ v.in_turn
      → NoneInTurn views → NoneInTurn (set views id w)
  none_still views id v w at turn none = each_set (λ _ x. x.in_turn ≡ 0) views id w (turn ∙ none id v at) (λ j u _ at'. none j u at')

module _ {E O B : Type 0} (told : O → List E) (base : O → B) (start : O) where
  -- a step of one seat
  pub history_set : (h h' : List E) (views : List (View E O)) (id : ℕ) (v w : View E O) → get_elem? views id ≡ some v → IsHistory told base start h views
      → v.made + length h' ≡ w.made + length h → HasSeen told base start h' w
      → ((j : ℕ) (u : View E O) → j ≢ id → get_elem? views j ≡ some u → HasSeen told base start h' u)
      → Whole h' (set views id w)
      → IsHistory told base start h' (set views id w)
  history_set h h' views id v w at history counts mine others whole =
      let a = total_set (λ (u : View E O). u.made) views id v w at in
      let b = history.made in
      record {
        made = omega arith;
        each = each_set (λ _ u. HasSeen told base start h' u) views id w mine others;
        whole = whole;
      }

  pub slot_still : (h : List E) (slots : List (homes.Option (Option O))) (views : List (View E O)) (id : ℕ) (v w : View E O) → get_elem? views id ≡ some v
      → w.in_turn ≡ v.in_turn → KeepsObject told base start h slots views → KeepsObject told base start h slots (set views id w)
  slot_still h slots views id v w at turn slot = ⊎_elim
      (λ (t : NoneInTurn views × ((object : O) × (slots ≡ some (Some object) ∷ []) × (told object ≡ h) × (base object ≡ base start))). inl (none_still views id v w at turn t.0, t.1))
      (λ (t : SomeInTurn views). inr (in_turn_still views id v w at turn t)) slot

  pub history_split : (h : List E) (views : List (View E O)) (id : ℕ) (v : View E O) → get_elem? views id ≡ some v → IsHistory told base start h views → v.in_turn ≡ 0
      → IsHistory told base start h (set views id (first_half v) ++ second_half v ∷ [])
  history_split h views id v at history free =
      let w = first_half v in
      let u = second_half v in
      let a = total_set (λ (x : View E O). x.made) views id v w at in
      let a' = total_append (λ (x : View E O). x.made) (set views id w) (u ∷ []) in
      let b = history.made in
      let old = history.each id v at in
      let mine : HasSeen told base start h w = record {
        spent = λ z. old.spent (omega arith);
        object = λ l. old.object (omega arith);
        seen = old.seen;
        also = old.also;
        in_turn = old.in_turn;
      } in
      let new : HasSeen told base start h u = record {
        spent = λ z. refl;
        object = λ l. old.object (omega arith);
        seen = old.seen;
        also = old.also;
        in_turn = old.in_turn;
      } in
      let whole = whole_still h views id v w at (λ l. omega arith) (λ e. e) history.whole in
      record {
        made = omega arith;
        each = each_snoc (λ _ x. HasSeen told base start h x) (set views id w) u (λ _. new) (each_set (λ _ x. HasSeen told base start h x) views id w mine (λ j x _ at'. history.each j x at'));
        whole = (whole.0, whole.1, at_longer (set views id w) (u ∷ []) whole.0 whole.1 whole.2, whole.3, whole.4);
      }

  pub slot_split : (h : List E) (slots : List (homes.Option (Option O))) (views : List (View E O)) (id : ℕ) (v : View E O) → get_elem? views id ≡ some v → v.in_turn ≡ 0
      → KeepsObject told base start h slots views → KeepsObject told base start h slots (set views id (first_half v) ++ second_half v ∷ [])
  slot_split h slots views id v at free slot =
      let w = first_half v in
      let u = second_half v in
      ⊎_elim
      (λ (t : NoneInTurn (set views id w) × ((object : O) × (slots ≡ some (Some object) ∷ []) × (told object ≡ h) × (base object ≡ base start))). inl (each_snoc (λ _ x. x.in_turn ≡ 0) (set views id w) u (λ _. free) t.0, t.1))
      (λ (t : SomeInTurn (set views id w)). inr (t.0, t.1, at_longer (set views id w) (u ∷ []) t.0 t.1 t.2, t.3))
      (slot_still h slots views id v w at refl slot)

  pub history_join : (h : List E) (views : List (View E O)) (id other : ℕ) (v w : View E O) → other ≢ id → get_elem? views id ≡ some v → get_elem? views other ≡ some w
      → IsHistory told base start h views → v.in_turn ≡ 0 → 0 < v.share
      → IsHistory told base start h (set (set views id (joined v w)) other spent_view)
  history_join h views id other v w ne at at' history free share =
      let b = joined v w in
      let z : View E O = spent_view in
      let there : get_elem? (set views id b) other ≡ some w = put_else views id other w b ne at' in
      let p = total_set (λ (x : View E O). x.made) views id v b at in
      let q = total_set (λ (x : View E O). x.made) (set views id b) other w z there in
      let m = history.made in
      let one = history.each id v at in
      let two = history.each other w at' in
      let mine : HasSeen told base start h b = record {
        spent = λ e. absurd (omega arith);
        object = λ l. one.object share;
        seen = longer_begins v.seen w.seen h one.seen two.seen;
        also = shorter_begins v.seen w.seen h one.seen two.seen;
        in_turn = λ l. absurd (omega arith);
      } in
      let gone : HasSeen told base start h z = record {
        spent = λ e. refl;
        object = λ l. absurd (omega arith);
        seen = (h, refl);
        also = ([], refl);
        in_turn = λ l. absurd (omega arith);
      } in
      let is_whole : (v.seen ≡ h) ⊎ (w.seen ≡ h) → longer v.seen w.seen ≡ h = longer_whole v.seen w.seen h one.seen two.seen in
      let joined_whole : v.seen ≡ h ⊎ w.seen ≡ h → Whole h (set (set views id b) other z) =
      λ e. (id, b, put_else (set views id b) other id b z (λ k. ne (sym k)) (put_here views id v b at), omega arith, is_whole e) in
      let old = history.whole in
      record {
        made = omega arith;
        each = each_set (λ _ x. HasSeen told base start h x) (set views id b) other z gone (λ i x _ k. each_set (λ _ y. HasSeen told base start h y) views id b mine (λ j y _ l. history.each j y l) i x k);
        whole = dite (ℕ_discrete old.0 id)
            (λ e. joined_whole (inl (subst (λ (x : View E O). x.seen ≡ h) (at_same views id old.1 v (subst (λ (k : ℕ). get_elem? views k ≡ some old.1) e old.2) at) old.4)))
            (λ ne'. dite (ℕ_discrete old.0 other)
            (λ e. joined_whole (inr (subst (λ (x : View E O). x.seen ≡ h) (at_same views other old.1 w (subst (λ (k : ℕ). get_elem? views k ≡ some old.1) e old.2) at') old.4)))
            (λ ne''. (old.0, old.1, put_else (set views id b) other old.0 old.1 z ne'' (put_else views id old.0 old.1 b ne' old.2), old.3, old.4)));
      }

  pub slot_join : (h : List E) (slots : List (homes.Option (Option O))) (views : List (View E O)) (id other : ℕ) (v w : View E O) → other ≢ id → get_elem? views id ≡ some v → get_elem? views other ≡ some w
      → v.in_turn ≡ 0 → w.in_turn ≡ 0 → KeepsObject told base start h slots views → KeepsObject told base start h slots (set (set views id (joined v w)) other spent_view)
  slot_join h slots views id other v w ne at at' free free' slot =
      let b = joined v w in
      let z : View E O = spent_view in
      slot_still h slots (set views id b) other w z (put_else views id other w b ne at') (sym free') (slot_still h slots views id v b at refl slot)
