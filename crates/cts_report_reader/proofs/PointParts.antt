-- Points and corners, and what every line of a node ends with.
use Rattle.std.proofs.Common.{◌≡◌, ℕ, zero, suc, ◌+◌, ◌-◌, ◌*◌, ◌/◌, ◌%◌, ◌^◌, ◌<◌, ◌≤◌, Bool, true, false, eqb, List, [], ◌∷◌, ◌++◌, length, All, Option, Some, None, refl, sym, ap, ap₂, ◌∙◌, subst, inl, inr, arith, codes}
use Rattle.std.specs.List.{flat_map}
use Rattle.std.proofs.lemmas.Bool.Decides.{eqb_tells, leb_tells}
use Rattle.std.proofs.lemmas.List.Elements.{All-nil, All-cons, All-head, All-tail}
use Rattle.cts_report.specs.Lines.{labelled, coordinate, whole, time, point_words, corner_words, arrival_words}
use Rattle.cts_report.specs.Printed.{PrintedPoint}
use Rattle.cts_report_reader.specs.Reader.{PartReader, IsStop, IsAny, IsPart}
use Rattle.cts_report_reader.specs.Bounds.{IsShort, IsPrintedCoordinate, IsPrintedPoint, IsPrintedPlace, IsArrival}
use Rattle.cts_report_reader.specs.Words.{◌>>=◌, word_at, kept_if, labelled_at, bounded_at, both_at, mapped_at, is_coordinate, coordinate_at, point_of_two, point_at, is_even_place, place_at, points_at, corners_at, arrival_at, tail_at}
use Rattle.cts_report_reader.proofs.Parts.{bind_part, kept_part, same_part, some_is, none_is}
use Rattle.cts_report_reader.proofs.Labels.{word_part, labelled_part, bounded_part, le_bound}

-- a part, put into another form
module _ {A C : Type 0} (Ends : List ℕ → Type 0) (FitsA : A → Type 0) (textA : A → List ℕ) (readA : PartReader A)
    (Fits : C → Type 0) (text : C → List ℕ) (to : A → C) (from : C → A)
    (part : IsPart Ends FitsA textA readA)
    (joins : (a : A) → FitsA a → Fits (to a) × (text (to a) ≡ textA a))
    (splits : (c : C) → Fits c → FitsA (from c) × (to (from c) ≡ c)) where
  abbrev out : Option (A × List ℕ) → Option (C × List ℕ)
  out found = ◌>>=◌ {B = C × List ℕ} found (λ a. Some (to a.0, a.1))

  map_takes : (bytes : List ℕ) (found : Option (A × List ℕ)) (c : C) (rest : List ℕ) → readA bytes ≡ found
      → out found ≡ Some (c, rest) → Fits c × (bytes ≡ text c ++ rest)
  map_takes bytes None c rest e f = absurd (none_is f)
  map_takes bytes (Some x) c rest e f =
      let t = part.takes bytes x.0 x.1 e in
      let j = joins x.0 t.0 in
      let p = some_is f in
      let value_is : to x.0 ≡ c = ap (λ (y : C × List ℕ). y.0) p in
      (subst Fits value_is j.0, t.1 ∙ ap₂ (λ u v. u ++ v) (sym j.1 ∙ ap text value_is) (ap (λ (y : C × List ℕ). y.1) p))

  map_again : (c : C) (rest : List ℕ) → Fits c → Ends rest → out (readA (text c ++ rest)) ≡ Some (c, rest)
  map_again c rest fits ends =
      let s = splits c fits in
      let j = joins (from c) s.0 in
      let text_is : text c ≡ textA (from c) = sym (ap text s.1) ∙ j.1 in
      ap (λ u. out (readA (u ++ rest))) text_is
      ∙ ap out (part.again (from c) rest s.0 ends)
      ∙ ap (λ v. Some (v, rest)) s.1

  pub map_part : IsPart Ends Fits text (mapped_at to readA)
  map_part = record { takes = λ bytes c rest e. map_takes bytes (readA bytes) c rest refl e; again = map_again }

-- one part and then another
module _ {A B : Type 0} (EndsA : List ℕ → Type 0) (FitsA : A → Type 0) (textA : A → List ℕ) (readA : PartReader A)
    (Ends : List ℕ → Type 0) (FitsB : B → Type 0) (textB : B → List ℕ) (readB : PartReader B)
    (first : IsPart EndsA FitsA textA readA) (second : IsPart Ends FitsB textB readB)
    (stops : (b : B) (rest : List ℕ) → FitsB b → Ends rest → EndsA (textB b ++ rest)) where
  second_of : (a : A) → IsPart Ends (λ (c : A × B). (c.0 ≡ a) × FitsB c.1) (λ c. textB c.1) (λ bytes. readB bytes >>= λ b. Some ((a, b.0), b.1))
  second_of a =
      map_part Ends FitsB textB readB (λ (c : A × B). (c.0 ≡ a) × FitsB c.1) (λ c. textB c.1) (λ b. (a, b)) (λ c. c.1) second
      (λ b fits. ((refl, fits), refl)) (λ c fits. (fits.1, ap (λ x. (x, c.1)) (sym fits.0)))

  pub both_part : IsPart Ends (λ (c : A × B). FitsA c.0 × FitsB c.1) (λ c. textA c.0 ++ textB c.1) (both_at readA readB)
  both_part =
      bind_part EndsA FitsA textA readA Ends (λ (c : A × B). FitsA c.0 × FitsB c.1) (λ c. textA c.0 ++ textB c.1)
      (λ a c. (c.0 ≡ a) × FitsB c.1) (λ c. textB c.1) (λ a bytes. readB bytes >>= λ b. Some ((a, b.0), b.1)) (λ c. c.0)
      first (λ a _. second_of a)
      (λ a c fits fitsG. ((subst FitsA (sym fitsG.0) fits, fitsG.1), ap (λ x. textA x ++ textB c.1) fitsG.0))
      (λ c fits. (fits.0, (refl, fits.1)))
      (λ c rest fits ends. stops c.1 rest fits.1 ends)

-- coordinates and points

pub true_false : ◌≡◌ {A = Bool} true false → ⊥
true_false e = cc

test_holds : (n : ℕ) → eqb n 0 ≡ true → n ≡ 0
test_holds n e = elim (eqb_tells n 0) [ inl q ↦ q.1 | inr q ↦ absurd (true_false (sym e ∙ q.0)) ]

test_passes : (n : ℕ) → n ≡ 0 → eqb n 0 ≡ true
test_passes n e = elim (eqb_tells n 0) [ inl q ↦ q.0 | inr q ↦ absurd (q.1 e) ]

coordinate_fits : (number : ℕ) → is_coordinate number ≡ true → IsPrintedCoordinate number
coordinate_fits number e =
    elim (leb_tells number (5 * (2 * 10 ^ 8))) [
      | inl p ↦ elim (eqb_tells (number % 5) 0) [
        | inl q ↦ record { inside = p.1; half = q.1 }
        | inr q ↦ absurd (true_false (sym e ∙ rw (p.0, q.0) refl))
      ]
      | inr p ↦ absurd (true_false (sym e ∙ rw p.0 refl))
    ]

coordinate_passes : (number : ℕ) → IsPrintedCoordinate number → is_coordinate number ≡ true
coordinate_passes number h =
    elim (eqb_tells (number % 5) 0) [
      | inl q ↦ rw (le_bound number (5 * (2 * 10 ^ 8)) h.inside, q.0) refl
      | inr q ↦ absurd (q.1 h.half)
    ]

pub coordinate_part : IsPart IsStop IsPrintedCoordinate (coordinate (codes " ")) coordinate_at
unfolding coordinate coordinate_at
coordinate_part =
    same_part IsStop (λ number. (number < 10 ^ 38) × (is_coordinate number ≡ true)) IsPrintedCoordinate (labelled (codes " ") 4) coordinate_at
    (kept_part IsStop (λ number. number < 10 ^ 38) (labelled (codes " ") 4) (labelled_at (codes " ") 4) is_coordinate (labelled_part (codes " ") 4))
    (λ number fits. coordinate_fits number fits.1)
    (λ number fits. (omega (arith, fits.inside), coordinate_passes number fits))

pub point_part : IsPart IsStop IsPrintedPoint point_words point_at
unfolding point_words point_at coordinate labelled
point_part =
    map_part IsStop (λ (c : ℕ × ℕ). IsPrintedCoordinate c.0 × IsPrintedCoordinate c.1) (λ c. coordinate (codes " ") c.0 ++ coordinate (codes " ") c.1)
    (both_at coordinate_at coordinate_at) IsPrintedPoint point_words point_of_two (λ p. (p.x, p.y))
    (both_part IsStop IsPrintedCoordinate (coordinate (codes " ")) coordinate_at IsStop IsPrintedCoordinate (coordinate (codes " ")) coordinate_at coordinate_part coordinate_part (λ b rest fits ends. refl))
    (λ c fits. (record { x = fits.0; y = fits.1 }, refl))
    (λ p fits. ((fits.x, fits.y), refl))

pub place_part : IsPart IsStop (λ (c : Unit {0} × PrintedPoint). IsPrintedPlace c.1) (λ c. codes " at" ++ point_words c.1) place_at
unfolding place_at
place_part =
    same_part IsStop (λ (c : Unit {0} × PrintedPoint). Unit {0} × (IsPrintedPoint c.1 × (is_even_place c.1 ≡ true))) (λ c. IsPrintedPlace c.1) (λ c. codes " at" ++ point_words c.1) place_at
    (both_part IsAny (λ (_ : Unit {0}). Unit {0}) (λ _. codes " at") (word_at (codes " at")) IsStop (λ p. IsPrintedPoint p × (is_even_place p ≡ true)) point_words (λ bytes. kept_if is_even_place (point_at bytes))
    (word_part (codes " at")) (kept_part IsStop IsPrintedPoint point_words point_at is_even_place point_part) (λ b rest fits ends. tt))
    (λ c fits. record { point = fits.1.0; even = test_holds (((c.1).x / 5 + (c.1).y / 5) % 2) fits.1.1 })
    (λ c fits. (tt, (fits.point, test_passes (((c.1).x / 5 + (c.1).y / 5) % 2) fits.even)))

-- so many points

unfoldable pub PointsFit : ℕ → List PrintedPoint → Type 0
PointsFit count ps = (length ps ≡ count) × All IsPrintedPoint ps

no_points : (bytes : List ℕ) (ps : List PrintedPoint) (rest : List ℕ) → ◌≡◌ {A = Option (List PrintedPoint × List ℕ)} (Some ([], bytes)) (Some (ps, rest))
    → PointsFit 0 ps × (bytes ≡ flat_map point_words ps ++ rest)
unfolding PointsFit
no_points bytes ps rest e =
    let p = some_is e in
    let none : [] ≡ ps = ap (λ (x : List PrintedPoint × List ℕ). x.0) p in
    (subst (PointsFit 0) none (refl, All-nil IsPrintedPoint), ap (λ (x : List PrintedPoint × List ℕ). x.1) p ∙ ap (λ qs. flat_map point_words qs ++ rest) none)

origin : PrintedPoint
origin = record { x = 0; y = 0 }

first_point : List PrintedPoint → PrintedPoint × List PrintedPoint
first_point [] = (origin, [])
first_point (p ∷ ps) = (p, ps)

points_stop : (ps : List PrintedPoint) (rest : List ℕ) → IsStop rest → IsStop (flat_map point_words ps ++ rest)
unfolding point_words coordinate labelled
points_stop [] rest stop = stop
points_stop (p ∷ ps) rest stop = refl

points_none : (ps : List PrintedPoint) (rest : List ℕ) → PointsFit 0 ps → IsStop rest
    → ◌≡◌ {A = Option (List PrintedPoint × List ℕ)} (Some ([], flat_map point_words ps ++ rest)) (Some (ps, rest))
unfolding PointsFit
points_none [] rest fits stop = refl
points_none (p ∷ ps) rest fits stop = absurd (omega (arith, fits.0))

points_join : (count : ℕ) (p : PrintedPoint) (ps : List PrintedPoint) → IsPrintedPoint p → PointsFit count ps
    → PointsFit (suc count) (p ∷ ps) × (flat_map point_words (p ∷ ps) ≡ point_words p ++ flat_map point_words ps)
unfolding PointsFit
points_join count p ps fits others = ((ap suc others.0, All-cons IsPrintedPoint p ps fits others.1), refl)

points_split : (count : ℕ) (ps : List PrintedPoint) → PointsFit (suc count) ps
    → (IsPrintedPoint ((first_point ps).0) × PointsFit count ((first_point ps).1)) × (((first_point ps).0 ∷ (first_point ps).1) ≡ ps)
unfolding PointsFit first_point
points_split count [] fits = absurd (omega (arith, fits.0))
points_split count (p ∷ ps) fits = ((All-head IsPrintedPoint p ps fits.1, (omega (arith, fits.0), All-tail IsPrintedPoint p ps fits.1)), refl)

pub points_part : (count : ℕ) → IsPart IsStop (PointsFit count) (flat_map point_words) (points_at count)
unfolding points_at PointsFit first_point
points_part zero = record { takes = no_points; again = points_none }
points_part (suc count) =
    map_part IsStop (λ (c : PrintedPoint × List PrintedPoint). IsPrintedPoint c.0 × PointsFit count c.1) (λ c. point_words c.0 ++ flat_map point_words c.1)
    (both_at point_at (points_at count)) (PointsFit (suc count)) (flat_map point_words) (λ found. found.0 ∷ found.1) first_point
    (both_part IsStop IsPrintedPoint point_words point_at IsStop (PointsFit count) (flat_map point_words) (points_at count) point_part (points_part count) (λ b rest fits ends. points_stop b rest ends))
    (λ c fits. points_join count c.0 c.1 fits.0 fits.1)
    (points_split count)

-- corners

unfoldable pub CornersFit : List PrintedPoint → Type 0
CornersFit ps = (length ps ≤ 65536) × All IsPrintedPoint ps

pub corners_part : IsPart IsStop CornersFit corner_words corners_at
unfolding corners_at corner_words whole PointsFit CornersFit
corners_part =
    bind_part IsStop (λ count. count ≤ 65536) (labelled (codes " via ") 0) (bounded_at (codes " via ") 0 65536)
    IsStop CornersFit corner_words PointsFit (flat_map point_words) points_at length
    (bounded_part (codes " via ") 0 65536 (omega arith)) (λ count _. points_part count)
    (λ count ps few fits. ((omega (arith, few, fits.0), fits.1), ap (λ n. labelled (codes " via ") 0 n ++ flat_map point_words ps) fits.0))
    (λ ps fits. (fits.0, (refl, fits.1)))
    (λ ps rest fits ends. points_stop ps rest ends)

-- arrivals

arrival_joins : (arrival : ℕ) → IsShort arrival → IsArrival true (Some arrival) × (arrival_words (Some arrival) ≡ labelled (codes " arrival ") 16 arrival)
unfolding arrival_words time
arrival_joins arrival fits = (fits, refl)

arrival_or : Option ℕ → ℕ
arrival_or None = 0
arrival_or (Some arrival) = arrival

arrival_splits : (c : Option ℕ) → IsArrival true c → IsShort (arrival_or c) × (◌≡◌ {A = Option ℕ} (Some (arrival_or c)) c)
unfolding arrival_or
arrival_splits None fits = absurd fits
arrival_splits (Some arrival) fits = (fits, refl)

-- an arrival that is not told is none
pub no_arrival : (c : Option ℕ) → IsArrival false c → c ≡ None
no_arrival None fits = refl
no_arrival (Some arrival) fits = absurd fits

untold_takes : (bytes : List ℕ) (c : Option ℕ) (rest : List ℕ) → ◌≡◌ {A = Option (Option ℕ × List ℕ)} (Some (None, bytes)) (Some (c, rest))
    → IsArrival false c × (bytes ≡ arrival_words c ++ rest)
unfolding arrival_words
untold_takes bytes None rest e = (tt, ap (λ (x : Option ℕ × List ℕ). x.1) (some_is e))
untold_takes bytes (Some arrival) rest e = absurd (none_is (ap (λ (x : Option ℕ × List ℕ). x.0) (some_is e)))

untold_again : (c : Option ℕ) (rest : List ℕ) → IsArrival false c → ◌≡◌ {A = Option (Option ℕ × List ℕ)} (Some (None, arrival_words c ++ rest)) (Some (c, rest))
unfolding arrival_words
untold_again None rest fits = refl
untold_again (Some arrival) rest fits = absurd fits

pub arrival_part : (told : Bool) → IsPart IsStop (IsArrival told) arrival_words (arrival_at told)
unfolding arrival_at
arrival_part false = record { takes = untold_takes; again = λ c rest fits ends. untold_again c rest fits }
arrival_part true =
    map_part IsStop IsShort (labelled (codes " arrival ") 16) (labelled_at (codes " arrival ") 16) (IsArrival true) arrival_words Some arrival_or
    (labelled_part (codes " arrival ") 16) arrival_joins arrival_splits

-- the end of a node's line

unfoldable pub TailFits : Bool → ℕ × (Option ℕ × (ℕ × (ℕ × (List PrintedPoint × Unit {0})))) → Type 0
TailFits told c =
    IsShort c.0 × (IsArrival told c.1.0 × (IsShort c.1.1.0 × ((c.1.1.1.0 ≤ 2 ^ 31 - 1) × (CornersFit c.1.1.1.1.0 × Unit {0}))))

unfoldable pub tail_text : ℕ × (Option ℕ × (ℕ × (ℕ × (List PrintedPoint × Unit {0})))) → List ℕ
tail_text c =
    labelled (codes " delay ") 16 c.0 ++ (arrival_words c.1.0 ++ (labelled (codes " slew ") 16 c.1.1.0 ++ (labelled (codes " wire ") 3 c.1.1.1.0 ++ (corner_words c.1.1.1.1.0 ++ codes "\n"))))

arrival_stop : (c : Option ℕ) (slew : ℕ) (tail rest : List ℕ) → IsStop ((arrival_words c ++ (labelled (codes " slew ") 16 slew ++ tail)) ++ rest)
unfolding arrival_words time labelled
arrival_stop None slew tail rest = refl
arrival_stop (Some arrival) slew tail rest = refl

pub tail_part : (told : Bool) → IsPart IsAny (TailFits told) tail_text (tail_at told)
unfolding tail_at TailFits tail_text corner_words whole labelled
tail_part told =
    both_part IsStop IsShort (labelled (codes " delay ") 16) (labelled_at (codes " delay ") 16) IsAny (λ (c : Option ℕ × (ℕ × (ℕ × (List PrintedPoint × Unit {0})))). IsArrival told c.0 × (IsShort c.1.0 × ((c.1.1.0 ≤ 2 ^ 31 - 1) × (CornersFit c.1.1.1.0 × Unit {0})))) (λ c. arrival_words c.0 ++ (labelled (codes " slew ") 16 c.1.0 ++ (labelled (codes " wire ") 3 c.1.1.0 ++ (corner_words c.1.1.1.0 ++ codes "\n")))) _
    (labelled_part (codes " delay ") 16)
    (both_part IsStop (IsArrival told) arrival_words (arrival_at told) IsAny (λ (c : ℕ × (ℕ × (List PrintedPoint × Unit {0}))). IsShort c.0 × ((c.1.0 ≤ 2 ^ 31 - 1) × (CornersFit c.1.1.0 × Unit {0}))) (λ c. labelled (codes " slew ") 16 c.0 ++ (labelled (codes " wire ") 3 c.1.0 ++ (corner_words c.1.1.0 ++ codes "\n"))) _
    (arrival_part told)
    (both_part IsStop IsShort (labelled (codes " slew ") 16) (labelled_at (codes " slew ") 16) IsAny (λ (c : ℕ × (List PrintedPoint × Unit {0})). (c.0 ≤ 2 ^ 31 - 1) × (CornersFit c.1.0 × Unit {0})) (λ c. labelled (codes " wire ") 3 c.0 ++ (corner_words c.1.0 ++ codes "\n")) _
    (labelled_part (codes " slew ") 16)
    (both_part IsStop (λ wire. wire ≤ 2 ^ 31 - 1) (labelled (codes " wire ") 3) (bounded_at (codes " wire ") 3 (2 ^ 31 - 1)) IsAny (λ (c : List PrintedPoint × Unit {0}). CornersFit c.0 × Unit {0}) (λ c. corner_words c.0 ++ codes "\n") _
    (bounded_part (codes " wire ") 3 (2 ^ 31 - 1) (omega arith))
    (both_part IsStop CornersFit corner_words corners_at IsAny (λ (_ : Unit {0}). Unit {0}) (λ _. codes "\n") (word_at (codes "\n"))
    corners_part (word_part (codes "\n")) (λ b rest fits ends. refl))
    (λ b rest fits ends. refl))
    (λ b rest fits ends. refl))
    (λ b rest fits ends. refl))
    (λ b rest fits ends. arrival_stop b.0 b.1.0 _ rest)
