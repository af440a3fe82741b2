-- Each kind of step keeps the rule of a deal, and tells what it should.
use Rattle.std.proofs.Common.{◌≡◌, ◌≢◌, ℕ, ◌+◌, ◌*◌, ◌%◌, ◌^◌, ◌<◌, ◌≤◌, List, [], ◌∷◌, ◌++◌, length, get_or, set, sym, refl, ap, ◌∙◌, subst, arith, length-append}
use Rattle.std.proofs.Math.Nat.{mod-eq_of_lt}
use mathlib.Core.Logic.{dite}
use mathlib.Core.Option.{some, none, some-injective}
use native.Mathlib.Decide.{ℕ_discrete, dec_le}
use lib.ListN.{get_elem?}
use Rattle.atomic_table.specs.Table.{State, Step, step, keeps, Allows, Splits, Joins, Final, Seen}
use Rattle.atomic_table.proofs.Lists.{set_else}
use Rattle.cts_deal.specs.declared.view.View.{View}
use Rattle.cts_deal.specs.Counts.{total, times}
use Rattle.cts_deal.specs.Views.{first_half, second_half, joined, spent_view, with_number}
use Rattle.cts_deal.specs.Dealing.{IsDealing}
use Rattle.cts_deal.specs.Steps.{Draws}
use Rattle.cts_deal.specs.Hands.{IsDealt}
use Rattle.cts_deal.proofs.Counts.{total_append, total_set, total_le, total_only, one_le_total, two_le_total}
use Rattle.cts_deal.proofs.Seats.{put_here, each_set, each_snoc}
use Rattle.cts_deal.proofs.Times.{times_append, times_more, times_else, times_le_length, times_from_at, contains_from_times, distinct_from_times}

abbrev share_in : View → ℕ
share_in v = v.share

abbrev numbers_in : View → ℕ
numbers_in v = length v.drawn

abbrev times_in : ℕ → View → ℕ
times_in n v = times n v.drawn

-- no step tells anything of its operands
abbrev any_step : {S : Type 0} → Step S
any_step = step 0 0 0 0 none

module _ {S : Type 0} where
  -- a number stands in the lists at most once
  pub at_most_once : (s : State S View) → IsDealing s → (n : ℕ) → total (times_in n) s.views ≤ 1
  at_most_once s r n = dite (dec_le r.next n) (λ l. omega (arith, r.never n l)) (λ l. omega (arith, r.once n (omega arith)))

  -- there is room for the numbers in the word
  pub numbers_drawn : (s : State S View) (r : IsDealing s) → r.next ≤ 257 * 64
  numbers_drawn s r = omega (arith, total_le 257 numbers_in share_in s.views r.each, r.numbers, r.shares)

  next_word : (s : State S View) (r : IsDealing s) → r.next ≤ 257 * 64 → set s.words 0 ((get_or s.words 0 0 + 1) % 2 ^ 64) ≡ (r.next + 1) ∷ []
  next_word s r few = ap (λ (ws : List ℕ). set ws 0 ((get_or ws 0 0 + 1) % 2 ^ 64)) r.word ∙ ap (λ (n : ℕ). n ∷ []) (mod-eq_of_lt (omega arith))

  pub draws : (slots id : ℕ) (v : View) (held : List (ℕ × S)) → length v.drawn < 257 * v.share
      → Allows IsDealing slots id (v, held) 0 (λ n. (n + 1) % 2 ^ 64) (Draws any_step (v, held))
  draws slots id v held room s r count at fits =
      let w = with_number r.next v in
      let few = numbers_drawn s r in
      let found : get_or s.words 0 0 ≡ r.next = ap (λ (ws : List ℕ). get_or ws 0 0) r.word in
      let longer = length-append v.drawn (r.next ∷ []) in
      let shares = total_set share_in s.views id v w at in
      let numbers = total_set numbers_in s.views id v w at in
      let counts : (n : ℕ) → total (times_in n) (set s.views id w) ≡ total (times_in n) s.views + times n (r.next ∷ []) =
      λ n. omega (arith, total_set (times_in n) s.views id v w at, times_append n v.drawn (r.next ∷ [])) in
      let new : IsDealing (record { words = (r.next + 1) ∷ []; homes = s.homes; views = set s.views id w }) = record {
        next = r.next + 1;
        word = refl;
        shares = omega (arith, r.shares);
        once = λ n l. dite (ℕ_discrete n r.next)
            (λ e. omega (arith, counts n, r.never n (omega arith), times_more n [], ap (λ (k : ℕ). times n (k ∷ [])) e))
            (λ ne. omega (arith, counts n, r.once n (omega arith), times_else n r.next [] ne));
        never = λ n l. omega (arith, counts n, r.never n (omega arith), times_else n r.next [] (λ e. omega arith));
        numbers = omega (arith, r.numbers);
        each = each_set (λ (u : View). length u.drawn ≤ 257 * u.share) s.views id w (omega arith) r.each;
      } in (
        w,
        keeps,
        tt,
        subst (λ (ws : List ℕ). IsDealing (record { words = ws; homes = s.homes; views = set s.views id w })) (sym (next_word s r few)) new,
        (
          ap (λ (n : ℕ). let x : View × List (ℕ × S) = (with_number n v, held) in x) (sym found),
          omega (arith, numbers_drawn _ new),
          distinct_from_times w.drawn (λ n. omega (arith, at_most_once _ new n, one_le_total (times_in n) (set s.views id w) id w (put_here s.views id v w at))),
        ),
      )

  pub splits : (id : ℕ) (v : View) → v.drawn ≡ [] → Splits {S = S} IsDealing id v (first_half v) (second_half v)
  splits id v undrawn s r at =
      let a = first_half v in
      let b = second_half v in
      let views = set s.views id a in
      let none_there : length v.drawn ≡ 0 = ap length undrawn in
      let counts : (n : ℕ) → total (times_in n) (views ++ b ∷ []) ≡ total (times_in n) s.views =
      λ n. omega (arith, total_set (times_in n) s.views id v a at, total_append (times_in n) views (b ∷ [])) in
      record {
        next = r.next;
        word = r.word;
        shares = omega (arith, r.shares, total_set share_in s.views id v a at, total_append share_in views (b ∷ []));
        once = λ n l. counts n ∙ r.once n l;
        never = λ n l. counts n ∙ r.never n l;
        numbers = omega (arith, r.numbers, total_set numbers_in s.views id v a at, total_append numbers_in views (b ∷ []));
        each = each_snoc (λ (u : View). length u.drawn ≤ 257 * u.share) views b (omega arith) (each_set (λ (u : View). length u.drawn ≤ 257 * u.share) s.views id a (omega arith) r.each);
      }

  pub joins : (id other : ℕ) (v w : View) → Joins {S = S} IsDealing id v other w (joined v w) spent_view
  joins id other v w s r at ne at' =
      let a = joined v w in
      let z : View = spent_view in
      let views = set s.views id a in
      let there : get_elem? s.views other ≡ some w = sym (set_else s.views id other a ne) ∙ at' in
      let one = r.each id v at in
      let two = r.each other w there in
      let longer = length-append v.drawn w.drawn in
      let counts : (n : ℕ) → total (times_in n) (set views other z) ≡ total (times_in n) s.views =
      λ n. omega (arith, total_set (times_in n) s.views id v a at, total_set (times_in n) views other w z at', times_append n v.drawn w.drawn) in
      record {
        next = r.next;
        word = r.word;
        shares = omega (arith, r.shares, total_set share_in s.views id v a at, total_set share_in views other w z at');
        once = λ n l. counts n ∙ r.once n l;
        never = λ n l. counts n ∙ r.never n l;
        numbers = omega (arith, r.numbers, total_set numbers_in s.views id v a at, total_set numbers_in views other w z at');
        each = each_set (λ (u : View). length u.drawn ≤ 257 * u.share) views other z (omega arith) (each_set (λ (u : View). length u.drawn ≤ 257 * u.share) s.views id a (omega arith) r.each);
      }

  module _ (id : ℕ) (v : View) (words : List ℕ) (slots : List S) (whole : v.share ≡ 64) (final : Final (Seen IsDealing id v) words slots) where
    none_else : (j : ℕ) (u : View) → j ≢ id → get_elem? final.0.views j ≡ some u → length u.drawn ≡ 0
    none_else j u ne at' =
        let r = final.1.0 in
        omega (arith, r.shares, two_le_total share_in final.0.views j id u v ne at' final.1.1, r.each j u at')

    all_here : length v.drawn ≡ final.1.0.next
    all_here = sym (total_only numbers_in final.0.views id v final.1.1 none_else) ∙ final.1.0.numbers

    times_here : (n : ℕ) → total (times_in n) final.0.views ≡ times n v.drawn
    times_here n = total_only (times_in n) final.0.views id v final.1.1 (λ j u ne at'. omega (arith, none_else j u ne at', times_le_length n u.drawn))

    -- the hand with the whole share has each number that was drawn
    pub closes : IsDealt v.drawn
    closes =
        let s = final.0 in
        let r = final.1.0 in
        record {
          distinct = distinct_from_times v.drawn (λ n. omega (arith, at_most_once s r n, times_here n));
          below = λ k d within. dite (dec_le r.next (get_or v.drawn k d))
              (λ l. absurd (omega (arith, r.never (get_or v.drawn k d) l, times_here (get_or v.drawn k d), times_from_at v.drawn k d within)))
              (λ l. omega (arith, all_here));
          every = λ n l. contains_from_times n v.drawn (omega (arith, r.once n (omega (arith, all_here)), times_here n));
        }

    -- and the word counts them
    pub counts : (word : ℕ) → get_elem? words 0 ≡ some word → word ≡ length v.drawn
    counts word at =
        let is : words ≡ length v.drawn ∷ [] = sym final.2 ∙ (final.1.0.word ∙ ap (λ (n : ℕ). n ∷ []) (sym all_here)) in
        some-injective word (length v.drawn) (sym at ∙ ap (λ (ws : List ℕ). get_elem? ws 0) is)

    pub fits : (word : ℕ) → get_elem? words 0 ≡ some word → word ≤ 257 * 64
    fits word at = omega (arith, counts word at, all_here, numbers_drawn final.0 final.1.0)
