-- Ways step by step: which of them are legal, and how long they are.
use Rattle.std.proofs.Common.{◌≡◌, ℕ, ◌+◌, ◌<◌, ◌≤◌, ◌↔◌, ℤ, inl, inr, List, [], ◌∷◌, ◌++◌, drop, length, get_or, sym, ap, subst, arith}
use Rattle.std.proofs.lemmas.Int.{ints, by_lt_z}
use Rattle.std.proofs.lemmas.List.{drop_more, drop_all}
use Rattle.cts_geom.specs.declared.bounds.Die.{Die}
use Rattle.cts_geom.specs.declared.points.Half.{Half}
use Rattle.cts_geom.specs.Points.{manhattan_of}
use Rattle.cts_block.specs.declared.blocks.Block.{Block}
use Rattle.cts_block.specs.FreePoints.{IsBetween, IsHalfInDie}
use Rattle.cts_tree.specs.Path.{points_along, path_length, IsAxisStep, HasAxisSteps, IsWithin, IsOnSegment, AllAlong}
use Rattle.cts_route.specs.Grid.{IsClear}
use Rattle.cts_check.specs.Ways.{IsLegalStep, HasLegalSteps}

-- the ends of a segment are on it
at_start : (a b : ℤ) → IsWithin a b a
at_start a b = by_lt_z b a (λ less. inr (omega (arith, ints, less), omega (arith, ints, less)))
    (λ not_less. inl (omega (arith, ints, not_less), omega (arith, ints, not_less)))

at_end : (a b : ℤ) → IsWithin a b b
at_end a b = by_lt_z b a (λ less. inr (omega (arith, ints, less), omega (arith, ints, less)))
    (λ not_less. inl (omega (arith, ints, not_less), omega (arith, ints, not_less)))

start_on : (p q : Half) → IsOnSegment p q p
start_on p q = record { x = at_start p.x q.x; y = at_start p.y q.y }

end_on : (p q : Half) → IsOnSegment p q q
end_on p q = record { x = at_end p.x q.x; y = at_end p.y q.y }

-- between two numbers of a range
between : (low high a b c : ℤ) → IsBetween low high a → IsBetween low high b → IsWithin a b c → IsBetween low high c
between low high a b c first second within =
    elim within [
      | inl up ↦ record { at_least = omega (arith, ints, first.at_least, up.0); at_most = omega (arith, ints, second.at_most, up.1) }
      | inr down ↦ record { at_least = omega (arith, ints, second.at_least, down.0); at_most = omega (arith, ints, first.at_most, down.1) }
    ]

module _ (blocks : List Block) (die : Die) where
  -- a step is legal where its ends are in the die and it is clear
  pub legal_step : (p q : Half) → IsAxisStep p q → IsHalfInDie die p → IsHalfInDie die q → IsClear blocks p q → IsLegalStep blocks die p q
  legal_step p q axis from to clear = record {
    axis = axis;
    free = λ r on. record {
      in_die = record { x = between die.x1 die.x2 p.x q.x r.x from.x to.x on.x; y = between die.y1 die.y2 p.y q.y r.y from.y to.y on.y };
      clear = clear r on;
    };
  }

  pub start_in_die : (p q : Half) → IsLegalStep blocks die p q → IsHalfInDie die p
  start_in_die p q step = (step.free p (start_on p q)).in_die

  pub end_in_die : (p q : Half) → IsLegalStep blocks die p q → IsHalfInDie die q
  end_in_die p q step = (step.free q (end_on p q)).in_die

  pub is_clear : (p q : Half) → IsLegalStep blocks die p q → IsClear blocks p q
  is_clear p q step r on = (step.free r on).clear

  -- a way of one step
  one_step : (p q : Half) → IsLegalStep blocks die p q ↔ HasLegalSteps blocks die (p ∷ q ∷ [])
  unfolding HasAxisSteps AllAlong
  one_step p q = (
    (λ step. record { axis = (step.axis, tt); free = (step.free, step.free q (end_on p q)) }),
    (λ way. record { axis = way.axis.0; free = way.free.0 }),
  )

  first_step : (p q : Half) (points : List Half) → HasLegalSteps blocks die (p ∷ q ∷ points) → IsLegalStep blocks die p q
  unfolding HasAxisSteps AllAlong
  first_step p q points way = record { axis = way.axis.0; free = way.free.0 }

  other_steps : (p q : Half) (points : List Half) → HasLegalSteps blocks die (p ∷ q ∷ points) → HasLegalSteps blocks die (q ∷ points)
  unfolding HasAxisSteps AllAlong
  other_steps p q points way = record { axis = way.axis.1; free = way.free.1 }

  all_steps : (p q : Half) (points : List Half) → IsLegalStep blocks die p q → HasLegalSteps blocks die (q ∷ points) → HasLegalSteps blocks die (p ∷ q ∷ points)
  unfolding HasAxisSteps AllAlong
  all_steps p q points step way = record { axis = (step.axis, way.axis); free = (step.free, way.free) }

  -- A way of which the steps before a corner are legal is legal where the rest of it is.
  module _ (from : Half) (corners : List Half) (to : Half) where
    pub record Decides (k : ℕ) (start : Half) : Type 0 where
      pub rest : HasLegalSteps blocks die (points_along from corners to) → HasLegalSteps blocks die (points_along start (drop k corners) to)
      pub whole : HasLegalSteps blocks die (points_along start (drop k corners) to) → HasLegalSteps blocks die (points_along from corners to)

    pub decides_at_start : Decides 0 from
    decides_at_start = record { rest = λ way. way; whole = λ way. way }

    module _ (k : ℕ) (start : Half) (decides : Decides k start) where
      module _ (d : Half) (within : k < length corners) where
        next : drop k corners ≡ get_or corners k d ∷ drop (k + 1) corners
        next = drop_more corners k d within

        abbrev Way : List Half → Type 0
        Way rest = HasLegalSteps blocks die (points_along start rest to)

        pub step_of_way : HasLegalSteps blocks die (points_along from corners to) → IsLegalStep blocks die start (get_or corners k d)
        step_of_way way = first_step start (get_or corners k d) (drop (k + 1) corners ++ to ∷ []) (subst Way next (decides.rest way))

        pub decides_next : IsLegalStep blocks die start (get_or corners k d) → Decides (k + 1) (get_or corners k d)
        decides_next step = record {
          rest = λ way. other_steps start (get_or corners k d) (drop (k + 1) corners ++ to ∷ []) (subst Way next (decides.rest way));
          whole = λ way. decides.whole (subst Way (sym next) (all_steps start (get_or corners k d) (drop (k + 1) corners ++ to ∷ []) step way));
        }

      pub last_step : length corners ≤ k → IsLegalStep blocks die start to ↔ HasLegalSteps blocks die (points_along from corners to)
      last_step done =
          let Way : List Half → Type 0 = λ rest. HasLegalSteps blocks die (points_along start rest to) in
          let none : drop k corners ≡ [] = drop_all k corners done in (
            (λ step. decides.whole (subst Way (sym none) ((one_step start to).0 step))),
            (λ way. (one_step start to).1 (subst Way none (decides.rest way))),
          )

-- The length of a way is that of its steps before a corner and of the rest.
module _ (from : Half) (corners : List Half) (to : Half) where
  abbrev pub AddsUp : ℕ → Half → ℕ → Type 0
  AddsUp k start sum = sum + path_length (points_along start (drop k corners) to) ≡ path_length (points_along from corners to)

  pub adds_up_next : (k : ℕ) (start d : Half) (sum step : ℕ) → k < length corners → step ≡ manhattan_of start (get_or corners k d)
      → AddsUp k start sum → AddsUp (k + 1) (get_or corners k d) (sum + step)
  unfolding path_length
  adds_up_next k start d sum step within is before =
      let split : path_length (points_along start (drop k corners) to)
      ≡ manhattan_of start (get_or corners k d) + path_length (points_along (get_or corners k d) (drop (k + 1) corners) to) =
      ap (λ rest. path_length (points_along start rest to)) (drop_more corners k d within) in
      omega (arith, before, split, is)

  pub adds_up_last : (k : ℕ) (start : Half) (sum step : ℕ) → length corners ≤ k → step ≡ manhattan_of start to → AddsUp k start sum
      → sum + step ≡ path_length (points_along from corners to)
  unfolding path_length
  adds_up_last k start sum step done is before =
      let last : path_length (points_along start (drop k corners) to) ≡ manhattan_of start to + 0 =
      ap (λ rest. path_length (points_along start rest to)) (drop_all k corners done) in
      omega (arith, before, last, is)
