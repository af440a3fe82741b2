-- Steps of one seat on tickets and shares.
use Rattle.std.proofs.Common.{◌≡◌, ◌≢◌, ℕ, ◌+◌, ◌%◌, ◌^◌, ◌<◌, ◌≤◌, List, [], ◌∷◌, ◌++◌, set, sym, refl, ◌∙◌, arith}
use mathlib.Core.Logic.{dite}
use mathlib.Core.Option.{some}
use native.Mathlib.Decide.{ℕ_discrete}
use lib.ListN.{get_elem?}
use Rattle.atomic_table.proofs.Lists.{one_turn}
use Rattle.cts_turn.specs.declared.view.View.{View}
use Rattle.cts_turn.specs.Views.{first_half, second_half, joined, spent_view}
use Rattle.cts_turn.specs.Line.{StandsInLine, IsLine}
use Rattle.cts_turn.proofs.Sums.{total_append, total_set, total_le}
use Rattle.cts_turn.proofs.Seats.{put_else, each_set, each_snoc}

module _ {E O : Type 0} where
  -- no two that wait have one ticket
  abbrev pub Differ : List (View E O) → Type 0
  Differ views = (i : ℕ) (v : View E O) → get_elem? views i ≡ some v → (j : ℕ) (w : View E O) → get_elem? views j ≡ some w
      → 0 < v.waits → 0 < w.waits → v.ticket ≡ w.ticket → i ≡ j

  -- one view changes, and shares no ticket with another
  pub differ_set : (views : List (View E O)) (id : ℕ) (w : View E O) → ((j : ℕ) (u : View E O) → j ≢ id → get_elem? views j ≡ some u → 0 < w.waits → 0 < u.waits → u.ticket ≢ w.ticket)
      → Differ views
      → Differ (set views id w)
  differ_set views id w apart differ =
      each_set (λ i v. (j : ℕ) (u : View E O) → get_elem? (set views id w) j ≡ some u → 0 < v.waits → 0 < u.waits → v.ticket ≡ u.ticket → i ≡ j) views id w
      (each_set (λ j u. 0 < w.waits → 0 < u.waits → w.ticket ≡ u.ticket → id ≡ j) views id w (λ a b e. refl) (λ j u ne at a b e. absurd (apart j u ne at a b (sym e))))
      (λ i v ne at. each_set (λ j u. 0 < v.waits → 0 < u.waits → v.ticket ≡ u.ticket → i ≡ j) views id w (λ a b e. absurd (apart i v ne at b a e)) (λ j u ne' at'. differ i v at j u at'))

  -- a view is added that waits for nothing
  pub differ_snoc : (views : List (View E O)) (w : View E O) → w.waits ≡ 0
      → Differ views
      → Differ (views ++ w ∷ [])
  differ_snoc views w idle differ =
      each_snoc (λ i v. (j : ℕ) (u : View E O) → get_elem? (views ++ w ∷ []) j ≡ some u → 0 < v.waits → 0 < u.waits → v.ticket ≡ u.ticket → i ≡ j) views w
      (λ i j u at a b e. absurd (omega arith))
      (λ i v at. each_snoc (λ j u. 0 < v.waits → 0 < u.waits → v.ticket ≡ u.ticket → i ≡ j) views w (λ j a b e. absurd (omega arith)) (λ j u at'. differ i v at j u at'))

  -- a step of one seat that keeps its share
  pub line_set : (t s t' s' : ℕ) (views : List (View E O)) (id : ℕ) (v w : View E O) → get_elem? views id ≡ some v → IsLine t s views
      → w.share ≡ v.share → t + w.waits + s' ≡ t' + s + v.waits → StandsInLine t' s' w
      → ((j : ℕ) (u : View E O) → j ≢ id → get_elem? views j ≡ some u → StandsInLine t' s' u)
      → ((j : ℕ) (u : View E O) → j ≢ id → get_elem? views j ≡ some u → 0 < w.waits → 0 < u.waits → u.ticket ≢ w.ticket)
      → IsLine t' s' (set views id w)
  line_set t s t' s' views id v w at line same counts mine others apart =
      let a = total_set (λ (u : View E O). u.share) views id v w at in
      let b = total_set (λ (u : View E O). u.waits) views id v w at in
      let c = line.shares in
      let d = line.waiting in
      record {
        shares = omega arith;
        waiting = omega arith;
        each = each_set (λ _ u. StandsInLine t' s' u) views id w mine others;
        differ = differ_set views id w apart line.differ;
      }

  -- at most 65,536 tickets are out
  pub tickets_out : (t s : ℕ) (views : List (View E O)) → IsLine t s views → (s ≤ t) × (t ≤ s + 65536)
  tickets_out t s views line =
      let a = total_le (λ (u : View E O). u.waits) (λ u. u.share) views (λ i u at. (line.each i u at).waits) in
      let b = line.shares in
      let c = line.waiting in
      (omega arith, omega arith)

  -- so the words tell whether a ticket is the one that is served
  pub ticket_served : (t s : ℕ) (views : List (View E O)) (id : ℕ) (v : View E O) → get_elem? views id ≡ some v → IsLine t s views → 0 < v.waits
      → s % 2 ^ 64 ≡ v.ticket % 2 ^ 64 → s ≡ v.ticket
  ticket_served t s views id v at line waits e =
      let out = tickets_out t s views line in
      let lower = (line.each id v at).not_before waits in
      let upper = (line.each id v at).not_after waits in
      one_turn s v.ticket (2 ^ 64) lower (omega arith) e

  -- and then no other view is in turn
  pub others_wait : (t s : ℕ) (views : List (View E O)) (id : ℕ) (v : View E O) → get_elem? views id ≡ some v → IsLine t s views → 0 < v.waits → s ≡ v.ticket
      → (j : ℕ) (u : View E O) → j ≢ id → get_elem? views j ≡ some u → u.in_turn ≡ 0
  others_wait t s views id v at line waits e j u ne at' = dite (ℕ_discrete u.in_turn 0) (λ z. z)
      (λ some_turn. let turn = (line.each j u at').in_turn (omega arith) in absurd (ne (line.differ j u at' id v at turn.0 waits (turn.1 ∙ e))))

  -- a seat that waits for nothing is split
  pub line_split : (t s : ℕ) (views : List (View E O)) (id : ℕ) (v : View E O) → get_elem? views id ≡ some v → IsLine t s views → v.waits ≡ 0 → v.in_turn ≡ 0
      → IsLine t s (set views id (first_half v) ++ second_half v ∷ [])
  line_split t s views id v at line idle free =
      let w = first_half v in
      let u = second_half v in
      let a = total_set (λ (x : View E O). x.share) views id v w at in
      let b = total_set (λ (x : View E O). x.waits) views id v w at in
      let a' = total_append (λ (x : View E O). x.share) (set views id w) (u ∷ []) in
      let b' = total_append (λ (x : View E O). x.waits) (set views id w) (u ∷ []) in
      let c = line.shares in
      let d = line.waiting in
      let mine : StandsInLine t s w = record { waits = omega arith; not_before = λ l. absurd (omega arith); not_after = λ l. absurd (omega arith); in_turn = λ l. absurd (omega arith) } in
      let new : StandsInLine t s u = record { waits = omega arith; not_before = λ l. absurd (omega arith); not_after = λ l. absurd (omega arith); in_turn = λ l. absurd (omega arith) } in
      record {
        shares = omega arith;
        waiting = omega arith;
        each = each_snoc (λ _ x. StandsInLine t s x) (set views id w) u (λ _. new) (each_set (λ _ x. StandsInLine t s x) views id w mine (λ j x _ at'. line.each j x at'));
        differ = differ_snoc (set views id w) u idle (differ_set views id w (λ j x ne at' l. absurd (omega arith)) line.differ);
      }

  -- two seats that wait for nothing are joined
  pub line_join : (t s : ℕ) (views : List (View E O)) (id other : ℕ) (v w : View E O) → other ≢ id → get_elem? views id ≡ some v → get_elem? views other ≡ some w → IsLine t s views
      → v.waits ≡ 0 → v.in_turn ≡ 0 → w.waits ≡ 0
      → IsLine t s (set (set views id (joined v w)) other spent_view)
  line_join t s views id other v w ne at at' line idle free idle' =
      let b = joined v w in
      let z : View E O = spent_view in
      let there : get_elem? (set views id b) other ≡ some w = put_else views id other w b ne at' in
      let p = total_set (λ (x : View E O). x.share) views id v b at in
      let q = total_set (λ (x : View E O). x.waits) views id v b at in
      let p' = total_set (λ (x : View E O). x.share) (set views id b) other w z there in
      let q' = total_set (λ (x : View E O). x.waits) (set views id b) other w z there in
      let c = line.shares in
      let d = line.waiting in
      let mine : StandsInLine t s b = record { waits = omega arith; not_before = λ l. absurd (omega arith); not_after = λ l. absurd (omega arith); in_turn = λ l. absurd (omega arith) } in
      let gone : StandsInLine t s z = record { waits = omega arith; not_before = λ l. absurd (omega arith); not_after = λ l. absurd (omega arith); in_turn = λ l. absurd (omega arith) } in
      record {
        shares = omega arith;
        waiting = omega arith;
        each = each_set (λ _ x. StandsInLine t s x) (set views id b) other z gone (λ i x _ h. each_set (λ _ y. StandsInLine t s y) views id b mine (λ j y _ k. line.each j y k) i x h);
        differ = differ_set (set views id b) other z (λ j x _ _ l. absurd (omega arith)) (differ_set views id b (λ j x _ _ l. absurd (omega arith)) line.differ);
      }
