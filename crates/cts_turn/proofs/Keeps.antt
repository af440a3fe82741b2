-- Each kind of step keeps the rule of a turn, and tells what it should.
use Rattle.std.proofs.Common.{◌≡◌, ◌≢◌, ℕ, ◌+◌, ◌%◌, ◌^◌, ◌<◌, ◌≤◌, ⊎_elim, inl, inr, List, [], ◌∷◌, length, get_or, set, sym, refl, ap, ◌∙◌, subst, arith, Option, Some}
use Rattle.std.proofs.Math.Nat.{mod-add-mod}
use mathlib.Core.Logic.{dite}
use mathlib.Core.Option as homes
use mathlib.Core.Option.{some, none, some-injective}
use mathlib.Core.List.{IsPrefix}
use native.Mathlib.Decide.{ℕ_discrete}
use lib.ListN.{get_elem?}
use Rattle.std.proofs.lemmas.List.{get_or-set_same, get_or-set_other, length-set}
use lib.Seq.{set-get_or}
use Rattle.atomic_table.specs.Table.{State, Step, step, keeps, takes, gives, rest, put_back, stepped, Allows, Splits, Joins, opening, Final, Seen}
use Rattle.atomic_table.proofs.Lists.{set_again, set_else}
use Rattle.cts_turn.specs.declared.view.View.{View}
use Rattle.cts_turn.specs.Sums.{total}
use Rattle.cts_turn.specs.Views.{whole_view, first_half, second_half, joined, spent_view, with_ticket, at_turn, after_call, after_turn}
use Rattle.cts_turn.specs.Line.{StandsInLine}
use Rattle.cts_turn.specs.History.{NoneInTurn, SomeInTurn, HasSeen, IsKept}
use Rattle.cts_turn.specs.Steps.{Held, Draws, Compares, Rings, Records, PassesOn, Waits}
use Rattle.cts_turn.proofs.Sums.{total_only, one_le_total, two_le_total}
use Rattle.cts_list.proofs.Prefixes.{prefix_self, prefix_same, prefix_trans, prefix_length}
use Rattle.cts_turn.proofs.Seats.{at_same, put_here, each_set, each_single}
use Rattle.cts_turn.proofs.Lines.{line_set, ticket_served, others_wait, line_split, line_join}
use Rattle.cts_turn.proofs.Histories.{whole_mine, whole_still, history_set, slot_still, history_split, slot_split, history_join, slot_join}

-- no step tells anything of its operands
abbrev any_step : {O : Type 0} → Step (Option O)
any_step = step 0 0 0 0 none

stays_long : (ws : List ℕ) (i new : ℕ) → 9 < length ws → 9 < length (set ws i new)
stays_long ws i new long = omega (arith, long, length-set ws i new)

module _ {E O B : Type 0} (told : O → List E) (base : O → B) (start : O) where
  -- a step that changes nothing
  unmoved : (s : State (Option O) (View E O)) (i id : ℕ) (me : Held E O) → IsKept told base start s → get_elem? s.views id ≡ some me.0
      → IsKept told base start (stepped s i (get_or s.words i 0) id me.1 me.0 keeps)
  unmoved s i id me r at =
      let words : s.words ≡ set s.words i (get_or s.words i 0) = sym (set-get_or s.words i 0) in
      let views : s.views ≡ set s.views id me.0 = sym (set_again s.views id me.0 at) in
      subst (λ (x : List ℕ × List (View E O)). IsKept told base start record { words = x.0; homes = s.homes; views = x.1 }) (λ k. (words k, views k)) r

  -- drawing a ticket
  pub draws : (slots id : ℕ) (me : Held E O) → me.0.waits ≡ 0 → me.0.in_turn ≡ 0 → 0 < me.0.share
      → Allows (IsKept told base start) slots id me 0 (λ n. (n + 1) % 2 ^ 64) (Draws any_step me)
  draws slots id me idle free share s r count at fits =
      let v = me.0 in
      let w = with_ticket r.tickets v in
      let waiting = r.line.waiting in
      let found : get_or s.words 0 0 ≡ r.tickets % 2 ^ 64 = r.drawn in
      let mine : StandsInLine (r.tickets + 1) r.serving w = record {
        waits = omega arith;
        not_before = λ _. omega arith;
        not_after = λ _. omega arith;
        in_turn = λ l. absurd (omega arith);
      } in
      let others : (j : ℕ) (u : View E O) → j ≢ id → get_elem? s.views j ≡ some u → StandsInLine (r.tickets + 1) r.serving u =
      λ j u _ at'. let old = r.line.each j u at' in record {
        waits = old.waits;
        not_before = old.not_before;
        not_after = λ l. let before = old.not_after l in omega arith;
        in_turn = old.in_turn;
      } in
      let apart : (j : ℕ) (u : View E O) → j ≢ id → get_elem? s.views j ≡ some u → 0 < w.waits → 0 < u.waits → u.ticket ≢ w.ticket =
      λ j u _ at' _ l e. let before = (r.line.each j u at').not_after l in absurd (omega arith) in
      let old = r.passes.each id v at in
      let seen : HasSeen told base start r.history w = record {
        spent = old.spent;
        object = old.object;
        seen = old.seen;
        also = old.also;
        in_turn = old.in_turn;
      } in (
        w,
        keeps,
        tt,
        record {
          tickets = r.tickets + 1;
          serving = r.serving;
          history = r.history;
          long = stays_long s.words 0 _ r.long;
          drawn = get_or-set_same s.words 0 _ 0 (omega (arith, r.long))
              ∙ (ap (λ (n : ℕ). (n + 1) % 2 ^ 64) found ∙ mod-add-mod r.tickets (2 ^ 64) 1);
          served = get_or-set_other s.words 0 8 _ 0 (λ e. absurd (omega (arith, e))) ∙ r.served;
          counted = get_or-set_other s.words 0 9 _ 0 (λ e. absurd (omega (arith, e))) ∙ r.counted;
          line = line_set r.tickets r.serving (r.tickets + 1) r.serving s.views id v w at r.line refl (omega arith) mine others apart;
          passes = history_set told base start r.history r.history s.views id v w at r.passes refl seen (λ j u _ at'. r.passes.each j u at')
              (whole_still r.history s.views id v w at (λ l. l) (λ e. e) r.passes.whole);
          slot = slot_still told base start r.history s.homes s.views id v w at refl r.slot;
        },
        (r.tickets, found, refl),
      )

  -- looking at what two joined passes have seen
  pub compares : (slots id : ℕ) (me : Held E O) → Allows (IsKept told base start) slots id me 0 (λ n. n) (Compares any_step me)
  compares slots id me s r count at fits =
      let shares = r.line.shares in
      (me.0, keeps, tt, unmoved s 0 id me r at, (refl, (r.passes.each id me.0 at).also, omega (arith, one_le_total (λ (v : View E O). v.share) s.views id me.0 at)))

  -- a step on a bell
  pub rings : (slots id : ℕ) (me : Held E O) (word : ℕ) (f : ℕ → ℕ) → 10 ≤ word → Allows (IsKept told base start) slots id me word f (Rings any_step me)
  rings slots id me word f bell s r count at fits =
      let number = f (get_or s.words word 0) in
      let views : s.views ≡ set s.views id me.0 = sym (set_again s.views id me.0 at) in
      let kept : IsKept told base start record { words = set s.words word number; homes = s.homes; views = s.views } = record {
        tickets = r.tickets;
        serving = r.serving;
        history = r.history;
        long = stays_long s.words word number r.long;
        drawn = get_or-set_other s.words word 0 number 0 (λ e. absurd (omega (arith, e, bell))) ∙ r.drawn;
        served = get_or-set_other s.words word 8 number 0 (λ e. absurd (omega (arith, e, bell))) ∙ r.served;
        counted = get_or-set_other s.words word 9 number 0 (λ e. absurd (omega (arith, e, bell))) ∙ r.counted;
        line = r.line;
        passes = r.passes;
        slot = r.slot;
      } in (
        me.0,
        keeps,
        tt,
        subst (λ (vs : List (View E O)). IsKept told base start record { words = set s.words word number; homes = s.homes; views = vs }) views kept,
        refl,
      )

  -- the slot is at home where a view is about to be in turn
  at_home : (s : State (Option O) (View E O)) (r : IsKept told base start s) (id : ℕ) (v : View E O) → get_elem? s.views id ≡ some v → 0 < v.waits → v.in_turn ≡ 0 → r.serving ≡ v.ticket
      → (object : O) × (s.homes ≡ some (Some object) ∷ []) × (told object ≡ r.history) × (base object ≡ base start)
  at_home s r id v at waits free now = ⊎_elim
      (λ (t : NoneInTurn s.views × ((object : O) × (s.homes ≡ some (Some object) ∷ []) × (told object ≡ r.history) × (base object ≡ base start))). t.1)
      (λ (t : SomeInTurn s.views). let turn = t.3 in dite (ℕ_discrete t.0 id)
      (λ e. let same : t.1 ≡ v = at_same s.views id t.1 v (subst (λ (k : ℕ). get_elem? s.views k ≡ some t.1) e t.2) at in
      let z : t.1.in_turn ≡ 0 = ap (λ (x : View E O). x.in_turn) same ∙ free in absurd (omega arith))
      (λ ne. let z = others_wait r.tickets r.serving s.views id v at r.line waits now t.0 t.1 ne t.2 in absurd (omega arith)))
      r.slot

  -- waiting for a ticket
  pub waits : (slots id : ℕ) (me : Held E O) → me.1 ≡ [] → 0 < me.0.waits → me.0.in_turn ≡ 0
      → Allows (IsKept told base start) slots id me 8 (λ n. n) (Waits told base any_step me)
  waits slots id me empty waiting free s r count at fits =
      let v = me.0 in
      let found : get_or s.words 8 0 ≡ r.serving % 2 ^ 64 = r.served in
      dite (ℕ_discrete (get_or s.words 8 0) (v.ticket % 2 ^ 64))
      (λ hit.
      let now : r.serving ≡ v.ticket = ticket_served r.tickets r.serving s.views id v at r.line waiting (sym found ∙ hit) in
      let home = at_home s r id v at waiting free now in
      let object = home.0 in
      let slot : s.homes ≡ some (Some object) ∷ [] = home.1 in
      let whole : told object ≡ r.history = home.2 in
      let w = at_turn (told object) v in
      let stands = r.line.each id v at in
      let mine : StandsInLine r.tickets r.serving w = record {
        waits = stands.waits;
        not_before = stands.not_before;
        not_after = stands.not_after;
        in_turn = λ _. (waiting, sym now);
      } in
      let apart : (j : ℕ) (u : View E O) → j ≢ id → get_elem? s.views j ≡ some u → 0 < w.waits → 0 < u.waits → u.ticket ≢ w.ticket =
      λ j u ne at' _ l e. ne (r.line.differ j u at' id v at l waiting e) in
      let old = r.passes.each id v at in
      let may = stands.waits in
      let some_share : 0 < v.share = omega arith in
      let onward : IsPrefix v.seen (told object) = subst (IsPrefix v.seen) (sym whole) old.seen in
      let seen : HasSeen told base start r.history w = record {
        spent = old.spent;
        object = old.object;
        seen = prefix_same (told object) r.history whole;
        also = prefix_trans v.also v.seen (told object) old.also onward;
        in_turn = λ _. whole;
      } in (
        w,
        takes 0 (Some object),
        ap (λ (hs : List (homes.Option (Option O))). get_elem? hs 0) slot,
        record {
          tickets = r.tickets;
          serving = r.serving;
          history = r.history;
          long = stays_long s.words 8 _ r.long;
          drawn = ap (λ (ws : List ℕ). get_or ws 0 0) (set-get_or s.words 8 0) ∙ r.drawn;
          served = ap (λ (ws : List ℕ). get_or ws 8 0) (set-get_or s.words 8 0) ∙ r.served;
          counted = ap (λ (ws : List ℕ). get_or ws 9 0) (set-get_or s.words 8 0) ∙ r.counted;
          line = line_set r.tickets r.serving r.tickets r.serving s.views id v w at r.line refl (omega arith) mine (λ j u _ at'. r.line.each j u at') apart;
          passes = history_set told base start r.history r.history s.views id v w at r.passes refl seen (λ j u _ at'. r.passes.each j u at')
              (whole_mine r.history s.views id v w at some_share whole);
          slot = inr (id, w, put_here s.views id v w at, omega arith);
        },
        (
          (λ _. (object, ap (λ (l : List (ℕ × Option O)). (w, (0, Some object) ∷ l)) empty, onward, (start, old.object some_share, home.3))),
          (λ miss. absurd (miss hit)),
        ),
      ))
      (λ miss. (me.0, keeps, tt, unmoved s 8 id me r at, ((λ hit. absurd (miss hit)), (λ _. refl))))

  -- recording what the object tells after its call
  pub records : (slots id : ℕ) (me : Held E O) (new : ℕ) (list : List E) → new ≡ length list → 0 < me.0.in_turn → IsPrefix me.0.seen list
      → Allows (IsKept told base start) slots id me 9 (λ _. new) (Records list any_step me)
  records slots id me new list is turn onward s r count at fits =
      let v = me.0 in
      let w = after_call list v in
      let stands = r.line.each id v at in
      let now = stands.in_turn turn in
      let may = stands.waits in
      let waiting : 0 < v.waits = now.0 in
      let some_share : 0 < v.share = omega arith in
      let old = r.passes.each id v at in
      let whole : v.seen ≡ r.history = old.in_turn turn in
      let longer : IsPrefix r.history list = subst (λ (l : List E). IsPrefix l list) whole onward in
      let grows : length v.seen ≤ length list = prefix_length v.seen list onward in
      let same : length v.seen ≡ length r.history = ap length whole in
      let mine : StandsInLine r.tickets r.serving w = record {
        waits = stands.waits;
        not_before = stands.not_before;
        not_after = stands.not_after;
        in_turn = λ _. now;
      } in
      let apart : (j : ℕ) (u : View E O) → j ≢ id → get_elem? s.views j ≡ some u → 0 < w.waits → 0 < u.waits → u.ticket ≢ w.ticket =
      λ j u ne at' _ l e. ne (r.line.differ j u at' id v at l waiting e) in
      let seen : HasSeen told base start list w = record {
        spent = λ z. absurd (omega arith);
        object = old.object;
        seen = prefix_self list;
        also = prefix_trans v.also v.seen list old.also onward;
        in_turn = λ _. refl;
      } in
      let others : (j : ℕ) (u : View E O) → j ≢ id → get_elem? s.views j ≡ some u → HasSeen told base start list u =
      λ j u ne at'. let has = r.passes.each j u at' in let free = others_wait r.tickets r.serving s.views id v at r.line waiting (sym now.1) j u ne at' in record {
        spent = has.spent;
        object = has.object;
        seen = prefix_trans u.seen r.history list has.seen longer;
        also = has.also;
        in_turn = λ l. absurd (omega arith);
      } in (
        w,
        keeps,
        tt,
        record {
          tickets = r.tickets;
          serving = r.serving;
          history = list;
          long = stays_long s.words 9 new r.long;
          drawn = get_or-set_other s.words 9 0 new 0 (λ e. absurd (omega (arith, e))) ∙ r.drawn;
          served = get_or-set_other s.words 9 8 new 0 (λ e. absurd (omega (arith, e))) ∙ r.served;
          counted = get_or-set_same s.words 9 new 0 r.long ∙ is;
          line = line_set r.tickets r.serving r.tickets r.serving s.views id v w at r.line refl (omega arith) mine (λ j u _ at'. r.line.each j u at') apart;
          passes = history_set told base start r.history list s.views id v w at r.passes (omega arith) seen others (whole_mine list s.views id v w at some_share refl);
          slot = inr (id, w, put_here s.views id v w at, turn);
        },
        refl,
      )

  only : {A : Type 0} (l : List A) → length l ≡ 1 → (a : A) × (l ≡ a ∷ [])
  only [] e = absurd (omega arith)
  only (x ∷ []) e = (x, refl)
  only (x ∷ y ∷ l) e = absurd (omega arith)

  -- passing the turn on, with the object back in the slot
  pub passes_on : (slots id : ℕ) (me : Held E O) (new : ℕ) (object : O) → slots ≡ 1 → me.1 ≡ (0, Some object) ∷ [] → me.0.waits ≡ 1 → 0 < me.0.in_turn
      → told object ≡ me.0.seen → ((first : O) × (me.0.object ≡ Some first) × (base object ≡ base first)) → new ≡ (me.0.ticket % 2 ^ 64 + 1) % 2 ^ 64
      → Allows (IsKept told base start) slots id me 8 (λ _. new) (λ _. PassesOn any_step me new)
  passes_on slots id me new object one holds waiting turn tells from next s r count at fits =
      let v = me.0 in
      let w = after_turn v in
      let stands = r.line.each id v at in
      let now = stands.in_turn turn in
      let may = stands.waits in
      let some_waits : 0 < v.waits = now.0 in
      let some_share : 0 < v.share = omega arith in
      let old = r.passes.each id v at in
      let whole : v.seen ≡ r.history = old.in_turn turn in
      let is_start : from.0 ≡ start = cc (from.1, old.object some_share) in
      let home = only s.homes (count ∙ one) in
      let free : (j : ℕ) (u : View E O) → j ≢ id → get_elem? s.views j ≡ some u → u.in_turn ≡ 0 = others_wait r.tickets r.serving s.views id v at r.line some_waits (sym now.1) in
      let mine : StandsInLine r.tickets (r.serving + 1) w = record {
        waits = omega arith;
        not_before = λ l. absurd (omega arith);
        not_after = λ l. absurd (omega arith);
        in_turn = λ l. absurd (omega arith);
      } in
      let others : (j : ℕ) (u : View E O) → j ≢ id → get_elem? s.views j ≡ some u → StandsInLine r.tickets (r.serving + 1) u =
      λ j u ne at'. let has = r.line.each j u at' in let none = free j u ne at' in record {
        waits = has.waits;
        not_before = λ l. let from_now = has.not_before l in let not_mine : u.ticket ≢ v.ticket = λ e. ne (r.line.differ j u at' id v at l some_waits e) in
            let mine_is = now.1 in let later : u.ticket ≢ r.serving = λ e. not_mine (e ∙ sym mine_is) in omega arith;
        not_after = has.not_after;
        in_turn = λ l. absurd (omega arith);
      } in
      let apart : (j : ℕ) (u : View E O) → j ≢ id → get_elem? s.views j ≡ some u → 0 < w.waits → 0 < u.waits → u.ticket ≢ w.ticket =
      λ j u ne at' l. absurd (omega arith) in
      let seen : HasSeen told base start r.history w = record {
        spent = old.spent;
        object = old.object;
        seen = old.seen;
        also = old.also;
        in_turn = λ l. absurd (omega arith);
      } in
      let is_next : new ≡ (r.serving + 1) % 2 ^ 64 = next ∙ (mod-add-mod v.ticket (2 ^ 64) 1 ∙ ap (λ (n : ℕ). (n + 1) % 2 ^ 64) now.1) in (
        w,
        gives,
        tt,
        record {
          tickets = r.tickets;
          serving = r.serving + 1;
          history = r.history;
          long = stays_long s.words 8 new r.long;
          drawn = get_or-set_other s.words 8 0 new 0 (λ e. absurd (omega (arith, e))) ∙ r.drawn;
          served = get_or-set_same s.words 8 new 0 (omega (arith, r.long)) ∙ is_next;
          counted = get_or-set_other s.words 8 9 new 0 (λ e. absurd (omega (arith, e))) ∙ r.counted;
          line = line_set r.tickets r.serving r.tickets (r.serving + 1) s.views id v w at r.line refl (omega arith) mine others apart;
          passes = history_set told base start r.history r.history s.views id v w at r.passes refl seen (λ j u _ at'. r.passes.each j u at')
              (whole_still r.history s.views id v w at (λ l. l) (λ e. e) r.passes.whole);
          slot = inl (
            each_set (λ _ u. u.in_turn ≡ 0) s.views id w refl free,
            (
              object,
              homes_back s.homes home.0 home.1 me.1 object holds,
              tells ∙ whole,
              from.2 ∙ ap base is_start,
            ),
          );
        },
        ap (λ (l : List (ℕ × Option O)). (w, rest l)) holds,
      )
    where
      homes_back : (hs : List (homes.Option (Option O))) (h : homes.Option (Option O)) → hs ≡ h ∷ [] → (l : List (ℕ × Option O)) (object : O) → l ≡ (0, Some object) ∷ []
          → put_back hs l ≡ some (Some object) ∷ []
      homes_back hs h e l object holds = ap (λ (x : List (ℕ × Option O)). put_back hs x) holds ∙ ap (λ (x : List (homes.Option (Option O))). set x 0 (some (Some object))) e

  -- the start
  pub opens : (words : List ℕ) (slots : List (Option O)) → 9 < length words → get_or words 0 0 ≡ 0 → get_or words 8 0 ≡ 0 → get_or words 9 0 ≡ length (told start)
      → slots ≡ Some start ∷ [] → IsKept told base start (opening words slots (whole_view (told start) start))
  opens words slots long drawn served is are =
      let first : View E O = whole_view (told start) start in
      let mine : StandsInLine 0 0 first = record {
        waits = omega arith;
        not_before = λ l. absurd (omega arith);
        not_after = λ l. absurd (omega arith);
        in_turn = λ l. absurd (omega arith);
      } in
      let seen : HasSeen told base start (told start) first = record {
        spent = λ _. refl;
        object = λ _. refl;
        seen = prefix_self (told start);
        also = (told start, refl);
        in_turn = λ l. absurd (omega arith);
      } in
      let alone : (P : View E O → Type 0) → P first → (i : ℕ) (u : View E O) → get_elem? (first ∷ []) i ≡ some u → P u = each_single first in
      subst (λ (x : List (Option O)). IsKept told base start (opening words x first)) (sym are) record {
        tickets = 0;
        serving = 0;
        history = told start;
        long = long;
        drawn = drawn;
        served = served;
        counted = is;
        line = record {
          shares = refl;
          waiting = refl;
          each = alone (StandsInLine 0 0) mine;
          differ = λ i v at j w at' l. absurd (alone (λ (u : View E O). 0 < u.waits → ⊥) (λ m. omega arith) i v at l);
        };
        passes = record {
          made = omega arith;
          each = alone (HasSeen told base start (told start)) seen;
          whole = (0, first, refl, omega arith, refl);
        };
        slot = inl (alone (λ u. u.in_turn ≡ 0) refl, (start, refl, refl, refl));
      }

  -- splitting a seat
  pub splits : (id : ℕ) (v : View E O) → v.waits ≡ 0 → v.in_turn ≡ 0 → Splits (IsKept told base start) id v (first_half v) (second_half v)
  splits id v idle free s r at = record {
    tickets = r.tickets;
    serving = r.serving;
    history = r.history;
    long = r.long;
    drawn = r.drawn;
    served = r.served;
    counted = r.counted;
    line = line_split r.tickets r.serving s.views id v at r.line idle free;
    passes = history_split told base start r.history s.views id v at r.passes free;
    slot = slot_split told base start r.history s.homes s.views id v at free r.slot;
  }

  -- joining two seats
  pub joins : (id other : ℕ) (v w : View E O) → v.waits ≡ 0 → v.in_turn ≡ 0 → 0 < v.share → w.waits ≡ 0 → w.in_turn ≡ 0
      → Joins (IsKept told base start) id v other w (joined v w) spent_view
  joins id other v w idle free share idle' free' s r at ne at' =
      let there : get_elem? s.views other ≡ some w = sym (set_else s.views id other (joined v w) ne) ∙ at' in record {
        tickets = r.tickets;
        serving = r.serving;
        history = r.history;
        long = r.long;
        drawn = r.drawn;
        served = r.served;
        counted = r.counted;
        line = line_join r.tickets r.serving s.views id other v w ne at there r.line idle free idle';
        passes = history_join told base start r.history s.views id other v w ne at there r.passes free share;
        slot = slot_join told base start r.history s.homes s.views id other v w ne at there free free' r.slot;
      }

  -- the pass with the whole share has seen the whole history, and made every entry of it
  pub closes : (id : ℕ) (v : View E O) (words : List ℕ) (slots : List (Option O)) → v.share ≡ 65536 → v.waits ≡ 0 → v.in_turn ≡ 0
      → Final (Seen (IsKept told base start) id v) words slots
      → (length slots ≡ 1) × ((object : O) × (get_elem? slots 0 ≡ some (Some object)) × (told object ≡ v.seen) × (base object ≡ base start)) × (length v.seen ≡ v.made + length (told start))
  closes id v words slots share idle free final =
      let s = final.0 in
      let r = final.1.0 in
      let at = final.1.1 in
      let shares = r.line.shares in
      let no_share : (j : ℕ) (u : View E O) → j ≢ id → get_elem? s.views j ≡ some u → u.share ≡ 0 =
      λ j u ne at'. omega (arith, two_le_total (λ (x : View E O). x.share) s.views j id u v ne at' at) in
      let made : total (λ (x : View E O). x.made) s.views ≡ v.made =
      total_only (λ (x : View E O). x.made) s.views id v at (λ j u ne at'. (r.passes.each j u at').spent (no_share j u ne at')) in
      let counts = r.passes.made in
      let old = r.passes.whole in
      let whole : v.seen ≡ r.history = dite (ℕ_discrete old.0 id)
      (λ e. let same : old.1 ≡ v = at_same s.views id old.1 v (subst (λ (k : ℕ). get_elem? s.views k ≡ some old.1) e old.2) at in
      subst (λ (x : View E O). x.seen ≡ r.history) same old.4)
      (λ ne. let none = no_share old.0 old.1 ne old.2 in let has = old.3 in absurd (omega arith)) in
      let free_all : (j : ℕ) (u : View E O) → get_elem? s.views j ≡ some u → u.in_turn ≡ 0 =
      λ j u at'. dite (ℕ_discrete j id)
      (λ e. ap (λ (x : View E O). x.in_turn) (at_same s.views id u v (subst (λ (k : ℕ). get_elem? s.views k ≡ some u) e at') at) ∙ free)
      (λ ne. let none = no_share j u ne at' in let stands = r.line.each j u at' in let may = stands.waits in
      dite (ℕ_discrete u.in_turn 0) (λ z. z) (λ some_turn. let t = (stands.in_turn (omega arith)).0 in absurd (omega arith))) in
      let home : (object : O) × (s.homes ≡ some (Some object) ∷ []) × (told object ≡ r.history) × (base object ≡ base start) = ⊎_elim
      (λ (t : NoneInTurn s.views × ((object : O) × (s.homes ≡ some (Some object) ∷ []) × (told object ≡ r.history) × (base object ≡ base start))). t.1)
      (λ (t : SomeInTurn s.views). let has = t.3 in let none = free_all t.0 t.1 t.2 in absurd (omega arith)) r.slot in
      let count = final.3 in (
        omega (arith, ap length home.1),
        (home.0, final.4 0 (Some home.0) (ap (λ (hs : List (homes.Option (Option O))). get_elem? hs 0) home.1), home.2 ∙ sym whole, home.3),
        omega (arith, ap length whole),
      )
