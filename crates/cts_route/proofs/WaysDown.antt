-- The turns of a way down, step by step.
use Rattle.std.proofs.Common.{◌≡◌, ℕ, ◌-◌, ◌^◌, ◌<◌, ◌≤◌, Bool, true, false, ℤ, pos, ◌+ℤ◌, ◌-ℤ◌, ◌<ℤ◌, Option, Some, None, List, [], ◌∷◌, ◌++◌, map, length, slice_index, refl, sym, ap, ◌∙◌, subst, append_assoc, arith}
use Rattle.std.specs.Prelude.{int_lt}
use Rattle.std.proofs.lemmas.Int.{ints}
use Rattle.std.proofs.lemmas.List.{append-nil}
use Rattle.cts_geom.specs.declared.points.Half.{Half}
use Rattle.cts_tree.specs.Path.{keeps_on, goes_on, turns_of}
use Rattle.cts_route.specs.declared.direction.Direction.{Direction}
use Rattle.cts_route.specs.declared.direction.Direction.TheVariants.{East, West, North, South}
use Rattle.cts_route.specs.declared.graph.Graph.{Graph}
use Rattle.cts_route.specs.declared.table.Table.{Table}
use Rattle.cts_route.specs.Grid.{IsAhead}
use Rattle.cts_route.specs.Search.{IsFirstFall, IsSettled}
use Rattle.cts_route.specs.Walks.{IsTurn, IsNoTurn, FallsTo, GoesDown, IsWayDown}
use Rattle.cts_route.specs.Windows.{point_at}
use Rattle.cts_route.proofs.Turns.{int_lt-true, int_lt-false, keeps_on-is, goes_on-is, goes_straight, goes_round, turns_on, turns_at, turns_of-none, turns_of-one}

-- ---- a turn depends on the direction alone from which a point is reached
same_rise : (a e b c : ℤ) → a <ℤ b → e <ℤ b → keeps_on a b c ≡ keeps_on e b c
same_rise a e b c h k =
    keeps_on-is a b c true false (int_lt b c) (int_lt c b) (int_lt-true a b h) (int_lt-false b a (omega (arith, ints))) refl refl
    ∙ sym (keeps_on-is e b c true false (int_lt b c) (int_lt c b) (int_lt-true e b k) (int_lt-false b e (omega (arith, ints))) refl refl)

same_fall : (a e b c : ℤ) → b <ℤ a → b <ℤ e → keeps_on a b c ≡ keeps_on e b c
same_fall a e b c h k =
    keeps_on-is a b c false true (int_lt b c) (int_lt c b) (int_lt-false a b (omega (arith, ints))) (int_lt-true b a h) refl refl
    ∙ sym (keeps_on-is e b c false true (int_lt b c) (int_lt c b) (int_lt-false e b (omega (arith, ints))) (int_lt-true b e k) refl refl)

same_stay : (a e b c : ℤ) → a ≡ b → e ≡ b → keeps_on a b c ≡ keeps_on e b c
same_stay a e b c h k = ap (λ (x : ℤ). keeps_on x b c) (h ∙ sym k)

same_on : (d : Direction) (p r n q : Half) → IsAhead d p n → IsAhead d r n → goes_on p n q ≡ goes_on r n q
same_on East p r n q h k = goes_on-is p n q _ _ (same_rise p.x r.x n.x q.x h.0 k.0) (same_stay p.y r.y n.y q.y h.1 k.1) ∙ sym (goes_on-is r n q _ _ refl refl)
same_on West p r n q h k = goes_on-is p n q _ _ (same_fall p.x r.x n.x q.x h.0 k.0) (same_stay p.y r.y n.y q.y h.1 k.1) ∙ sym (goes_on-is r n q _ _ refl refl)
same_on North p r n q h k = goes_on-is p n q _ _ (same_stay p.x r.x n.x q.x h.0 k.0) (same_rise p.y r.y n.y q.y h.1 k.1) ∙ sym (goes_on-is r n q _ _ refl refl)
same_on South p r n q h k = goes_on-is p n q _ _ (same_stay p.x r.x n.x q.x h.0 k.0) (same_fall p.y r.y n.y q.y h.1 k.1) ∙ sym (goes_on-is r n q _ _ refl refl)

same_turns : (d : Direction) (p r n : Half) (rest : List Half) → IsAhead d p n → IsAhead d r n → turns_of (p ∷ n ∷ rest) ≡ turns_of (r ∷ n ∷ rest)
same_turns d p r n [] h k = turns_of-one p n ∙ sym (turns_of-one r n)
same_turns d p r n (q ∷ rest) h k =
    by_test (goes_on r n q) refl
  where
    by_test : (b : Bool) → goes_on r n q ≡ b → turns_of (p ∷ n ∷ q ∷ rest) ≡ turns_of (r ∷ n ∷ q ∷ rest)
    by_test true e = turns_on p n q rest (same_on d p r n q h k ∙ e) ∙ sym (turns_on r n q rest e)
    by_test false e = turns_at p n q rest (same_on d p r n q h k ∙ e) ∙ sym (turns_at r n q rest e)

-- a point from which p lies straight ahead
pub behind : Direction → Half → Half
behind East p = record { x = p.x -ℤ pos 1; y = p.y }
behind West p = record { x = p.x +ℤ pos 1; y = p.y }
behind North p = record { x = p.x; y = p.y -ℤ pos 1 }
behind South p = record { x = p.x; y = p.y +ℤ pos 1 }

behind-ahead : (d : Direction) (p : Half) → IsAhead d (behind d p) p
unfolding behind
behind-ahead East p = (omega (arith, ints), refl)
behind-ahead West p = (omega (arith, ints), refl)
behind-ahead North p = (refl, omega (arith, ints))
behind-ahead South p = (refl, omega (arith, ints))

-- the turns from p on, where a step in a direction led to p
pub turns_after : Option Direction → Half → List Half → List Half
turns_after None p rest = turns_of (p ∷ rest)
turns_after (Some last) p rest = turns_of (behind last p ∷ p ∷ rest)

step_straight : (last : Option Direction) (d : Direction) (p n : Half) (rest : List Half) → IsAhead d p n → IsNoTurn last d
    → turns_after last p (n ∷ rest) ≡ turns_after (Some d) n rest
unfolding turns_after
step_straight None d p n rest ahead straight = same_turns d p (behind d n) n rest ahead (behind-ahead d n)
step_straight (Some last) d p n rest ahead straight =
    turns_on (behind last p) p n rest
    (goes_straight d (behind last p) p n (subst (λ (e : Direction). IsAhead e (behind last p) p) straight (behind-ahead last p)) ahead)
    ∙ same_turns d p (behind d n) n rest ahead (behind-ahead d n)

step_turned : (last : Option Direction) (d : Direction) (p n : Half) (rest : List Half) → IsAhead d p n → IsTurn last d
    → turns_after last p (n ∷ rest) ≡ p ∷ turns_after (Some d) n rest
unfolding turns_after
step_turned None d p n rest ahead turn = absurd turn
step_turned (Some last) d p n rest ahead turn =
    turns_at (behind last p) p n rest (goes_round last d (behind last p) p n turn (behind-ahead last p) ahead)
    ∙ ap (λ (ts : List Half). p ∷ ts) (same_turns d p (behind d n) n rest ahead (behind-ahead d n))

no_turns_after : (last : Option Direction) (p : Half) → turns_after last p [] ≡ []
unfolding turns_after
no_turns_after None p = turns_of-none p
no_turns_after (Some last) p = turns_of-one (behind last p) p

-- ---- the walk
-- a way down all the same from each way down onward
pub record IsOnward (xs ys : List ℤ) (graph : Graph) (labels : List ℕ) (start goal cell : ℕ) (last : Option Direction) (corners : List Half) (cells : List ℕ) : Type 0 where
  pub all : List ℕ
  pub down : GoesDown graph labels start all goal
  pub turns : turns_of (map (point_at xs ys) (start ∷ all)) ≡ corners ++ turns_after last (point_at xs ys cell) (map (point_at xs ys) cells)

pub record IsWalked (xs ys : List ℤ) (graph : Graph) (labels : List ℕ) (start goal cell : ℕ) (last : Option Direction) (corners : List Half) : Type 0 where
  pub inside : cell < length labels
  pub reached : slice_index labels cell < 2 ^ 64 - 1
  pub below : slice_index labels cell ≤ slice_index labels start
  pub onward : (cells : List ℕ) → GoesDown graph labels cell cells goal → IsOnward xs ys graph labels start goal cell last corners cells

pub not_walked : (xs ys : List ℤ) (graph : Graph) (labels : List ℕ) (start goal : ℕ) (corners : List Half) → start < length labels
    → slice_index labels start < 2 ^ 64 - 1 → corners ≡ [] → IsWalked xs ys graph labels start goal start None corners
unfolding turns_after
not_walked xs ys graph labels start goal corners inside reached e =
    record {
      inside = inside;
      reached = reached;
      below = omega arith;
      onward = λ cells down. record {
        all = cells;
        down = down;
        turns = sym (ap (λ (cs : List Half). cs ++ turns_of (map (point_at xs ys) (start ∷ cells))) e);
      };
    }

walked_on : (xs ys : List ℤ) (graph : Graph) (labels : List ℕ) (start goal cell : ℕ) (last now : Option Direction) (corners after : List Half) (n : ℕ)
    → IsWalked xs ys graph labels start goal cell last corners → FallsTo graph labels cell n → n < length labels → slice_index labels n < 2 ^ 64 - 1
    → ((rest : List Half) → corners ++ turns_after last (point_at xs ys cell) (point_at xs ys n ∷ rest) ≡ after ++ turns_after now (point_at xs ys n) rest)
    → IsWalked xs ys graph labels start goal n now after
unfolding GoesDown
walked_on xs ys graph labels start goal cell last now corners after n walked falls inside reached same =
    record {
      inside = inside;
      reached = reached;
      below = omega arith;
      onward = λ cells down.
          let old : IsOnward xs ys graph labels start goal cell last corners (n ∷ cells) = walked.onward (n ∷ cells) (falls, down) in
          record { all = old.all; down = old.down; turns = old.turns ∙ same (map (point_at xs ys) cells) };
    }

falls_below : (graph : Graph) (labels : List ℕ) (d : Direction) (c n len : ℕ) → IsFirstFall graph labels d c n len
    → slice_index labels c < 2 ^ 64 - 1 → slice_index labels n < 2 ^ 64 - 1
falls_below graph labels d c n len first reached = let e = first.fall.whole in omega (arith, e)

pub walked_straight : (xs ys : List ℤ) (graph : Graph) (labels : List ℕ) (start goal cell : ℕ) (last : Option Direction) (corners after : List Half) (d : Direction) (n len : ℕ)
    → IsWalked xs ys graph labels start goal cell last corners → IsFirstFall graph labels d cell n len → n < length labels
    → IsAhead d (point_at xs ys cell) (point_at xs ys n) → IsNoTurn last d → after ≡ corners
    → IsWalked xs ys graph labels start goal n (Some d) after
walked_straight xs ys graph labels start goal cell last corners after d n len walked first inside ahead straight e =
    walked_on xs ys graph labels start goal cell last (Some d) corners after n walked (record { direction = d; len = len; fall = first }) inside
    (falls_below graph labels d cell n len first walked.reached)
    (λ rest. ap (λ (ts : List Half). corners ++ ts) (step_straight last d (point_at xs ys cell) (point_at xs ys n) rest ahead straight)
    ∙ sym (ap (λ (cs : List Half). cs ++ turns_after (Some d) (point_at xs ys n) rest) e))

pub walked_turned : (xs ys : List ℤ) (graph : Graph) (labels : List ℕ) (start goal cell : ℕ) (last : Option Direction) (corners after : List Half) (at : Half) (d : Direction) (n len : ℕ)
    → IsWalked xs ys graph labels start goal cell last corners → IsFirstFall graph labels d cell n len → n < length labels
    → IsAhead d (point_at xs ys cell) (point_at xs ys n) → IsTurn last d → at ≡ point_at xs ys cell → after ≡ corners ++ at ∷ []
    → IsWalked xs ys graph labels start goal n (Some d) after
walked_turned xs ys graph labels start goal cell last corners after at d n len walked first inside ahead turn here e =
    walked_on xs ys graph labels start goal cell last (Some d) corners after n walked (record { direction = d; len = len; fall = first }) inside
    (falls_below graph labels d cell n len first walked.reached)
    (λ rest. ap (λ (ts : List Half). corners ++ ts) (step_turned last d (point_at xs ys cell) (point_at xs ys n) rest ahead turn)
    ∙ sym (append_assoc corners (point_at xs ys cell ∷ []) (turns_after (Some d) (point_at xs ys n) rest))
    ∙ sym (ap (λ (cs : List Half). cs ++ turns_after (Some d) (point_at xs ys n) rest) (e ∙ ap (λ (p : Half). corners ++ p ∷ []) here)))

pub walked_down : (xs ys : List ℤ) (graph : Graph) (table : Table) (start cell : ℕ) (last : Option Direction) (corners : List Half)
    → IsWalked xs ys graph table.labels.items start table.goal cell last corners → cell ≡ table.goal → IsWayDown xs ys graph table start corners
unfolding GoesDown
walked_down xs ys graph table start cell last corners walked at_goal =
    let end : IsOnward xs ys graph table.labels.items start table.goal cell last corners [] = walked.onward [] at_goal in
    record {
      cells = end.all;
      down = end.down;
      turns = sym (end.turns ∙ ap (λ (ts : List Half). corners ++ ts) (no_turns_after last (point_at xs ys cell)) ∙ append-nil corners);
    }

-- what is settled below the start is settled below each cell of the way
pub settled_on : (graph : Graph) (labels : List ℕ) (start cell : ℕ) → IsSettled graph labels start
    → slice_index labels cell ≤ slice_index labels start → IsSettled graph labels cell
settled_on graph labels start cell settled below =
    record { from = λ c inside. record { at = λ le. (settled.from c inside).at (omega (arith, le, below)) } }
