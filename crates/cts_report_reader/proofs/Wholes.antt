-- Whole texts: the line that goes wrong is one, and a reader tells it.
use Rattle.std.proofs.Common.{◌≡◌, ℕ, zero, suc, ◌+◌, ◌≤◌, List, [], ◌∷◌, ◌++◌, take, drop, length, Result, Ok, Err, refl, sym, ap, ◌∙◌, subst, inl, inr, arith, append_assoc, append-nil}
use Rattle.std.specs.List.{concat}
use Rattle.std.proofs.lemmas.Bool.{cases_lt}
use Rattle.std.proofs.lemmas.List.{take_all, take-append-drop}
use Rattle.std.proofs.lemmas.List.Folds.{concat-append}
use Rattle.cts_report_reader.specs.Text.{Spells, Begins, IsNotText}
use Rattle.cts_report_reader.specs.Reader.{LinesReader, IsPiece, ◌>>=◌, to_the_end, whole_of, IsWholeReading}

take_take : {X : Type 0} (less count : ℕ) (xs : List X) → less ≤ count → take less (take count xs) ≡ take less xs
take_take zero count xs le = refl
take_take (suc less) zero xs le = absurd (omega arith)
take_take (suc less) (suc count) [] le = refl
take_take (suc less) (suc count) (x ∷ xs) le = ap (λ t. x ∷ t) (take_take less count xs (omega arith))

pub err_ok : {X E : Type 0} {x : X} {e : E} → ◌≡◌ {A = Result X E} (Err e) (Ok x) → ⊥
err_ok e = cc

pub ok_is : {X E : Type 0} {x y : X} → ◌≡◌ {A = Result X E} (Ok x) (Ok y) → x ≡ y
ok_is e = cc

module _ {A : Type 0} (Fits : A → Type 0) (lines : A → List (List ℕ)) where
  -- fewer lines begin a text too
  pub begins_less : (bytes : List ℕ) (count less : ℕ) → less ≤ count → Begins Fits lines bytes count → Begins Fits lines bytes less
  begins_less bytes count less le h =
      let front = take count (lines h.value) in
      let shorter : take less front ≡ take less (lines h.value) = take_take less count (lines h.value) le in
      let cut : concat front ≡ concat (take less (lines h.value)) ++ concat (drop less front) =
      ap concat (sym (take-append-drop less front)) ∙ concat-append (take less front) (drop less front) ∙ ap (λ ls. concat ls ++ concat (drop less front)) shorter in
      record {
        value = h.value;
        fits = h.fits;
        inside = omega (arith, h.inside);
        more = concat (drop less front) ++ h.more;
        front = h.front ∙ ap (λ t. t ++ h.more) cut ∙ append_assoc (concat (take less (lines h.value))) (concat (drop less front)) h.more;
      }

  line_at_most : (bytes : List ℕ) (line other : ℕ) → IsNotText Fits lines bytes line → IsNotText Fits lines bytes other → other ≤ line
  line_at_most bytes line other h g =
      elim (cases_lt line other) [
        | inl lt ↦ absurd (h.ended (begins_less bytes g.before line (omega (arith, g.next)) g.begun))
        | inr le ↦ le
      ]

  pub first_line_is_one : (bytes : List ℕ) (line other : ℕ) → IsNotText Fits lines bytes line → IsNotText Fits lines bytes other → line ≡ other
  first_line_is_one bytes line other h g = omega (arith, line_at_most bytes line other h g, line_at_most bytes other line g h)

  module _ (read : LinesReader A) (piece : IsPiece Fits lines 0 read) where
    spelled : (bytes : List ℕ) (value : A) → Spells Fits lines bytes value → read bytes ≡ Ok (value, [])
    spelled bytes value h = ap read (h.text ∙ sym (append-nil (concat (lines value)))) ∙ piece.again value [] h.fits

    pub pieces_are_unique : (bytes : List ℕ) (value other : A) → Spells Fits lines bytes value → Spells Fits lines bytes other → value ≡ other
    pieces_are_unique bytes value other h g =
        let e : ◌≡◌ {A = Result (A × List ℕ) ℕ} (Ok (value, [])) (Ok (other, [])) = sym (spelled bytes value h) ∙ spelled bytes other g in ap (λ (x : A × List ℕ). x.0) (ok_is e)

    none_left : (bytes : List ℕ) (value : A) (byte : ℕ) (rest : List ℕ) → read bytes ≡ Ok (value, byte ∷ rest) → (w : A) → ¬ Spells Fits lines bytes w
    none_left bytes value byte rest found w h =
        let e : ◌≡◌ {A = Result (A × List ℕ) ℕ} (Ok (value, byte ∷ rest)) (Ok (w, [])) = sym found ∙ spelled bytes w h in let left : byte ∷ rest ≡ [] = ap (λ (x : A × List ℕ). x.1) (ok_is e) in absurd (omega (arith, ap length left))

    none_found : (bytes : List ℕ) (line : ℕ) → read bytes ≡ Err line → (w : A) → ¬ Spells Fits lines bytes w
    none_found bytes line found w h =
        let e : ◌≡◌ {A = Result (A × List ℕ) ℕ} (Err line) (Ok (w, [])) = sym found ∙ spelled bytes w h in err_ok e

    whole_by : (bytes : List ℕ) (found : Result (A × List ℕ) ℕ) → read bytes ≡ found
        → IsWholeReading Fits lines bytes (found >>= λ x. to_the_end lines x.0 x.1)
    whole_by bytes (Ok (value, [])) e =
        let t = piece.takes bytes value [] e in
        record { fits = t.0; text = t.1 ∙ append-nil (concat (lines value)) }
    whole_by bytes (Ok (value, byte ∷ rest)) e =
        let t = piece.takes bytes value (byte ∷ rest) e in
        record {
          none = none_left bytes value byte rest e;
          before = length (lines value);
          next = refl;
          begun = record {
            value = value;
            fits = t.0;
            inside = omega arith;
            more = byte ∷ rest;
            front = t.1 ∙ ap (λ ls. concat ls ++ byte ∷ rest) (sym (take_all (length (lines value)) (lines value) (omega arith)));
          };
          ended = piece.ends bytes value (byte ∷ rest) e;
        }
    whole_by bytes (Err line) e =
        let s = piece.stops bytes line e in
        let at : line ≡ s.count + 1 = omega (arith, s.line_is) in
        record {
          none = none_found bytes line e;
          before = s.count;
          next = at;
          begun = s.begun;
          ended = λ h. s.ended (subst (Begins Fits lines bytes) at h);
        }

    pub whole_told : (bytes : List ℕ) → IsWholeReading Fits lines bytes (whole_of lines read bytes)
    unfolding whole_of
    whole_told bytes = whole_by bytes (read bytes) refl
