-- The place of a node, as the code reads it in three steps.
use Rattle.std.proofs.Common.{◌≡◌, ℕ, ◌+◌, ◌/◌, ◌%◌, List, Some, None, inl, inr, refl, eq-eqb, codes}
use Rattle.std.proofs.lemmas.Bool.Decides.{eqb_tells}
use Rattle.cts_report.specs.Printed.{PrintedPoint}
use Rattle.cts_report_reader.specs.Words.{place_at, point_at, word_at}

pub place_no_word : (bytes : List ℕ) → word_at (codes " at") bytes ≡ None → place_at bytes ≡ None
unfolding place_at
place_no_word bytes e = rw e refl

pub place_no_point : (bytes rest : List ℕ) → word_at (codes " at") bytes ≡ Some (tt, rest) → point_at rest ≡ None → place_at bytes ≡ None
unfolding place_at
place_no_point bytes rest e f = rw (e, f) refl

pub place_there : (bytes one rest : List ℕ) (point : PrintedPoint) → word_at (codes " at") bytes ≡ Some (tt, one) → point_at one ≡ Some (point, rest)
    → (point.x / 5 + point.y / 5) % 2 ≡ 0 → place_at bytes ≡ Some ((tt, point), rest)
unfolding place_at
place_there bytes one rest point e f g = rw (e, f, eq-eqb ((point.x / 5 + point.y / 5) % 2) 0 g) refl

pub place_odd : (bytes one rest : List ℕ) (point : PrintedPoint) → word_at (codes " at") bytes ≡ Some (tt, one) → point_at one ≡ Some (point, rest)
    → ((point.x / 5 + point.y / 5) % 2 ≡ 0 → ⊥) → place_at bytes ≡ None
unfolding place_at
place_odd bytes one rest point e f g =
    elim (eqb_tells ((point.x / 5 + point.y / 5) % 2) 0) [ inl p ↦ absurd (g p.1) | inr p ↦ rw (e, f, p.0) refl ]
