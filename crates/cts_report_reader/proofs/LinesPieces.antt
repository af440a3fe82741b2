-- Lines put together: in another form, and one after another.
use Rattle.std.proofs.Common.{◌≡◌, ℕ, ◌+◌, List, ◌++◌, take, length, Result, Ok, Err, refl, sym, ap, ap₂, ◌∙◌, subst, arith}
use Rattle.std.specs.List.{concat}
use Rattle.cts_report_reader.specs.Text.{Begins}
use Rattle.cts_report_reader.specs.Reader.{LinesReader, Stops, IsPiece, ◌>>=◌}
use Rattle.cts_report_reader.specs.Whole.{both_lines, mapped_lines}
use Rattle.cts_report_reader.proofs.Wholes.{ok_is, err_ok}
use Rattle.cts_report_reader.proofs.Pieces.{errs_are, bind_piece}

module _ {A C : Type 0} (FitsA : A → Type 0) (linesA : A → List (List ℕ)) (readA : LinesReader A) (at : ℕ)
    (Fits : C → Type 0) (lines : C → List (List ℕ)) (to : A → C) (from : C → A)
    (piece : IsPiece FitsA linesA at readA)
    (joins : (a : A) → FitsA a → Fits (to a) × (lines (to a) ≡ linesA a))
    (splits : (c : C) → Fits c → FitsA (from c) × (to (from c) ≡ c)) where
  abbrev out : Result (A × List ℕ) ℕ → Result (C × List ℕ) ℕ
  out found = ◌>>=◌ {B = C × List ℕ} found (λ a. Ok (to a.0, a.1))

  lines_are : (c : C) → Fits c → lines c ≡ linesA (from c)
  lines_are c fits = let s = splits c fits in sym (ap lines s.1) ∙ (joins (from c) s.0).1

  map_takes : (bytes : List ℕ) (found : Result (A × List ℕ) ℕ) (c : C) (rest : List ℕ) → readA bytes ≡ found → out found ≡ Ok (c, rest)
      → Fits c × (bytes ≡ concat (lines c) ++ rest)
  map_takes bytes (Err l) c rest e f = absurd (err_ok f)
  map_takes bytes (Ok x) c rest e f =
      let t = piece.takes bytes x.0 x.1 e in
      let j = joins x.0 t.0 in
      let p = ok_is f in
      let value_is : to x.0 ≡ c = ap (λ (y : C × List ℕ). y.0) p in
      (subst Fits value_is j.0, t.1 ∙ ap₂ (λ u v. concat u ++ v) (sym j.1 ∙ ap lines value_is) (ap (λ (y : C × List ℕ). y.1) p))

  map_again : (c : C) (rest : List ℕ) → Fits c → out (readA (concat (lines c) ++ rest)) ≡ Ok (c, rest)
  map_again c rest fits =
      let s = splits c fits in
      ap (λ u. out (readA (concat u ++ rest))) (lines_are c fits) ∙ ap out (piece.again (from c) rest s.0) ∙ ap (λ v. Ok (v, rest)) s.1

  begins_from : (bytes : List ℕ) (count : ℕ) → Begins Fits lines bytes count → Begins FitsA linesA bytes count
  begins_from bytes count h =
      let e = lines_are h.value h.fits in
      record {
        value = from h.value;
        fits = (splits h.value h.fits).0;
        inside = omega (arith, h.inside, ap length e);
        more = h.more;
        front = h.front ∙ ap (λ u. concat (take count u) ++ h.more) e;
      }

  begins_to : (bytes : List ℕ) (count : ℕ) → Begins FitsA linesA bytes count → Begins Fits lines bytes count
  begins_to bytes count h =
      let j = joins h.value h.fits in
      record {
        value = to h.value;
        fits = j.0;
        inside = omega (arith, h.inside, ap length j.1);
        more = h.more;
        front = h.front ∙ ap (λ u. concat (take count u) ++ h.more) (sym j.1);
      }

  map_missed : (found : Result (A × List ℕ) ℕ) (line : ℕ) → out found ≡ Err line → found ≡ Err line
  map_missed (Err l) line e = ap Err (errs_are e)
  map_missed (Ok x) line e = absurd (err_ok (sym e))

  map_stops : (bytes : List ℕ) (line : ℕ) → out (readA bytes) ≡ Err line → Stops Fits lines at bytes line
  map_stops bytes line e =
      let s = piece.stops bytes line (map_missed (readA bytes) line e) in
      record {
        count = s.count;
        line_is = s.line_is;
        begun = begins_to bytes s.count s.begun;
        ended = λ h. s.ended (begins_from bytes (s.count + 1) h);
      }

  map_ends : (bytes : List ℕ) (found : Result (A × List ℕ) ℕ) (c : C) (rest : List ℕ) → readA bytes ≡ found → out found ≡ Ok (c, rest)
      → ¬ Begins Fits lines bytes (length (lines c) + 1)
  map_ends bytes (Err l) c rest e f h = absurd (err_ok f)
  map_ends bytes (Ok x) c rest e f h =
      let t = piece.takes bytes x.0 x.1 e in
      let j = joins x.0 t.0 in
      let value_is : to x.0 ≡ c = ap (λ (y : C × List ℕ). y.0) (ok_is f) in
      let long : length (lines c) + 1 ≡ length (linesA x.0) + 1 = omega (arith, ap length j.1, ap (λ v. length (lines v)) value_is) in
      piece.ends bytes x.0 x.1 e (subst (Begins FitsA linesA bytes) long (begins_from bytes (length (lines c) + 1) h))

  pub map_piece : IsPiece Fits lines at (mapped_lines to readA)
  map_piece = record {
    takes = λ bytes c rest e. map_takes bytes (readA bytes) c rest refl e;
    again = map_again;
    stops = map_stops;
    ends = λ bytes c rest e. map_ends bytes (readA bytes) c rest refl e;
  }

-- some lines, as many for each value, and then others
module _ {A B : Type 0} (FitsA : A → Type 0) (linesA : A → List (List ℕ)) (readA : LinesReader A) (at n at_rest : ℕ)
    (FitsB : B → Type 0) (linesB : B → List (List ℕ)) (readB : LinesReader B)
    (first : IsPiece FitsA linesA at readA) (long : (a : A) → FitsA a → length (linesA a) ≡ n) (at_is : at_rest ≡ at + n)
    (second : IsPiece FitsB linesB at_rest readB) (some : B) (some_fits : FitsB some) where
  second_of : (a : A) → IsPiece (λ (c : A × B). (c.0 ≡ a) × FitsB c.1) (λ c. linesB c.1) at_rest (λ bytes. readB bytes >>= λ b. Ok ((a, b.0), b.1))
  second_of a =
      map_piece FitsB linesB readB at_rest (λ (c : A × B). (c.0 ≡ a) × FitsB c.1) (λ c. linesB c.1) (λ b. (a, b)) (λ c. c.1) second
      (λ b fits. ((refl, fits), refl)) (λ c fits. (fits.1, ap (λ x. (x, c.1)) (sym fits.0)))

  pub both_piece : IsPiece (λ (c : A × B). FitsA c.0 × FitsB c.1) (λ c. linesA c.0 ++ linesB c.1) at (both_lines readA readB)
  both_piece =
      bind_piece FitsA linesA readA at n at_rest (λ (c : A × B). FitsA c.0 × FitsB c.1) (λ c. linesA c.0 ++ linesB c.1)
      (λ a c. (c.0 ≡ a) × FitsB c.1) (λ c. linesB c.1) (λ a bytes. readB bytes >>= λ b. Ok ((a, b.0), b.1)) (λ c. c.0)
      first long at_is (λ a _. second_of a)
      (λ a c fits fitsG. ((subst FitsA (sym fitsG.0) fits, fitsG.1), ap (λ x. linesA x ++ linesB c.1) fitsG.0))
      (λ c fits. (fits.0, (refl, fits.1)))
      (λ a fits. ((a, some), (refl, some_fits)))
