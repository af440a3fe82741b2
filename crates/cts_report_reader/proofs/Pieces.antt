-- Readers of lines, put together.
use Rattle.std.proofs.Common.{◌≡◌, ℕ, ◌+◌, ◌<◌, ◌≤◌, List, [], ◌∷◌, ◌++◌, take, length, Option, Some, None, Result, Ok, Err, refl, sym, ap, ◌∙◌, subst, inl, inr, arith, append_assoc, append-nil, length-append}
use Rattle.std.specs.List.{concat}
use Rattle.std.proofs.lemmas.Bool.{cases_lt}
use Rattle.std.proofs.lemmas.List.{take_all, take-append-le}
use Rattle.std.proofs.lemmas.List.Folds.{concat-append}
use Rattle.std.proofs.Math.Seq.{take-append-add}
use Rattle.cts_report_reader.specs.Text.{Begins}
use Rattle.cts_report_reader.specs.Reader.{PartReader, LinesReader, IsAny, IsPart, Stops, IsPiece, ◌>>=◌, at_line}
use Rattle.cts_report_reader.proofs.Wholes.{ok_is, err_ok}

-- what a chain of two answers came from
pub bind_ok : {A B E : Type 0} (o : Result A E) (f : A → Result B E) (y : B) {P : Type 0} → (o >>= f) ≡ Ok y
    → ((x : A) → o ≡ Ok x → f x ≡ Ok y → P) → P
bind_ok (Ok x) f y e then = then x refl e
bind_ok (Err l) f y e then = absurd (err_ok e)

pub none_some : {A : Type 0} {x : A} → ◌≡◌ {A = Option A} None (Some x) → ⊥
none_some e = cc

pub errs_are : {A E : Type 0} {k l : E} → ◌≡◌ {A = Result A E} (Err k) (Err l) → k ≡ l
errs_are e = cc

pub bind_err : {A B E : Type 0} (o : Result A E) (f : A → Result B E) (l : E) {P : Type 0} → (o >>= f) ≡ Err l
    → (o ≡ Err l → P) → ((x : A) → o ≡ Ok x → f x ≡ Err l → P) → P
bind_err (Ok x) f l e first then = then x refl e
bind_err (Err k) f l e first then = first (ap Err (errs_are e))

pub bind_again : {A B E : Type 0} (o : Result A E) (f : A → Result B E) (x : A) (r : Result B E) → o ≡ Ok x → f x ≡ r → (o >>= f) ≡ r
bind_again o f x r e h = ap (λ (p : Result _ _). p >>= f) e ∙ h

-- no line
pub done_piece : {A : Type 0} (at : ℕ) (value : A) → IsPiece (λ a. a ≡ value) (λ _. []) at (λ bytes. Ok (value, bytes))
done_piece at value = record {
  takes = λ bytes found rest e.
      let p = ok_is e in (sym (ap (λ (x : _ × List ℕ). x.0) p), ap (λ (x : _ × List ℕ). x.1) p);
  again = λ other rest fits. ap (λ a. Ok (a, rest)) (sym fits);
  stops = λ bytes line e. absurd (err_ok (sym e));
  ends = λ bytes found rest e h. absurd (omega (arith, h.inside));
}

-- one line
module _ {A : Type 0} (Fits : A → Type 0) (text : A → List ℕ) (read : PartReader A) (part : IsPart IsAny Fits text read) (at : ℕ) where
  line_read : (bytes : List ℕ) (found : Option (A × List ℕ)) (x : A × List ℕ) → read bytes ≡ found → at_line at found ≡ Ok x → read bytes ≡ Some x
  line_read bytes (Some y) x e f = e ∙ ap Some (ok_is f)
  line_read bytes None x e f = absurd (err_ok f)

  line_missed : (bytes : List ℕ) (found : Option (A × List ℕ)) (line : ℕ) → read bytes ≡ found → at_line at found ≡ Err line
      → (read bytes ≡ None) × (line ≡ at + 1)
  line_missed bytes (Some y) line e f = absurd (err_ok (sym f))
  line_missed bytes None line e f = (e, sym (errs_are f))

  line_found : (bytes : List ℕ) (x : A × List ℕ) → at_line at (read bytes) ≡ Ok x → read bytes ≡ Some x
  line_found bytes x f = line_read bytes (read bytes) x refl f

  begun_line : (bytes : List ℕ) → Begins Fits (λ a. text a ∷ []) bytes 1 → read bytes ≡ None → ⊥
  begun_line bytes h none =
      let front : bytes ≡ text h.value ++ h.more = h.front ∙ ap (λ t. t ++ h.more) (append-nil (text h.value)) in
      let found : read bytes ≡ Some (h.value, h.more) = ap read front ∙ part.again h.value h.more h.fits tt in
      none_some (sym none ∙ found)

  pub line_piece : (some : A) → Fits some → IsPiece Fits (λ a. text a ∷ []) at (λ bytes. at_line at (read bytes))
  line_piece some fits = record {
    takes = λ bytes value rest e.
        let t = part.takes bytes value rest (line_found bytes (value, rest) e) in
        (t.0, t.1 ∙ ap (λ u. u ++ rest) (sym (append-nil (text value))));
    again = λ value rest fit. ap (λ u. at_line at (read (u ++ rest))) (append-nil (text value)) ∙ ap (at_line at) (part.again value rest fit tt);
    stops = λ bytes line e.
        let m = line_missed bytes (read bytes) line refl e in
        record {
          count = 0;
          line_is = omega (arith, m.1);
          begun = record { value = some; fits = fits; inside = omega arith; more = bytes; front = refl };
          ended = λ h. begun_line bytes h m.0;
        };
    ends = λ bytes value rest e h. absurd (omega (arith, h.inside));
  }

-- some lines, and then others that depend on what was found
module _ {A C : Type 0} (FitsA : A → Type 0) (linesA : A → List (List ℕ)) (readA : LinesReader A) (at n at_rest : ℕ)
    (Fits : C → Type 0) (lines : C → List (List ℕ)) (FitsG : A → C → Type 0) (linesG : C → List (List ℕ)) (readG : A → LinesReader C)
    (part : C → A)
    (first : IsPiece FitsA linesA at readA)
    (long : (a : A) → FitsA a → length (linesA a) ≡ n)
    (at_is : at_rest ≡ at + n)
    (others : (a : A) → FitsA a → IsPiece (FitsG a) linesG at_rest (readG a))
    (joins : (a : A) (c : C) → FitsA a → FitsG a c → Fits c × (lines c ≡ linesA a ++ linesG c))
    (splits : (c : C) → Fits c → FitsA (part c) × FitsG (part c) c)
    (some : (a : A) → FitsA a → (c : C) × FitsG a c) where
  cut_lines : (a : A) (c : C) (count : ℕ) → FitsA a → FitsG a c → take (n + count) (lines c) ≡ linesA a ++ take count (linesG c)
  cut_lines a c count fits fitsG =
      ap (λ ls. take (n + count) ls) ((joins a c fits fitsG).1)
      ∙ ap (λ m. take (m + count) (linesA a ++ linesG c)) (sym (long a fits)) ∙ take-append-add (linesA a) (linesG c) count

  cut_text : (a : A) (c : C) (count : ℕ) (more : List ℕ) → FitsA a → FitsG a c
      → concat (take (n + count) (lines c)) ++ more ≡ concat (linesA a) ++ (concat (take count (linesG c)) ++ more)
  cut_text a c count more fits fitsG =
      ap (λ ls. concat ls ++ more) (cut_lines a c count fits fitsG)
      ∙ ap (λ t. t ++ more) (concat-append (linesA a) (take count (linesG c)))
      ∙ append_assoc (concat (linesA a)) (concat (take count (linesG c))) more

  long_both : (a : A) (c : C) → FitsA a → FitsG a c → length (lines c) ≡ n + length (linesG c)
  long_both a c fits fitsG =
      omega (arith, ap length ((joins a c fits fitsG).1), length-append (linesA a) (linesG c), long a fits)

  split_begins : (bytes : List ℕ) (count : ℕ) (a : A) (mid : List ℕ) → readA bytes ≡ Ok (a, mid)
      → Begins Fits lines bytes (n + count) → Begins (FitsG a) linesG mid count
  split_begins bytes count a mid found h =
      let c = h.value in
      let s = splits c h.fits in
      let text = h.front ∙ cut_text (part c) c count h.more s.0 s.1 in
      let p = ok_is (sym found ∙ ap readA text ∙ first.again (part c) (concat (take count (linesG c)) ++ h.more) s.0) in
      record {
        value = c;
        fits = subst (λ x. FitsG x c) (sym (ap (λ (x : A × List ℕ). x.0) p)) s.1;
        inside = omega (arith, h.inside, long_both (part c) c s.0 s.1);
        more = h.more;
        front = ap (λ (x : A × List ℕ). x.1) p;
      }

  front_lines : (a : A) (c : C) (count : ℕ) → FitsA a → FitsG a c → count ≤ n → take count (lines c) ≡ take count (linesA a)
  front_lines a c count fits fitsG le =
      ap (λ ls. take count ls) ((joins a c fits fitsG).1) ∙ take-append-le count (linesA a) (linesG c) (omega (arith, long a fits))

  front_begins : (bytes : List ℕ) (count : ℕ) → count ≤ n → Begins Fits lines bytes count → Begins FitsA linesA bytes count
  front_begins bytes count le h =
      let c = h.value in
      let s = splits c h.fits in
      record {
        value = part c;
        fits = s.0;
        inside = omega (arith, long (part c) s.0);
        more = h.more;
        front = h.front ∙ ap (λ ls. concat ls ++ h.more) (front_lines (part c) c count s.0 s.1 le);
      }

  -- where all of the first lines begin a text, they are read
  not_all : (bytes : List ℕ) (line count : ℕ) → readA bytes ≡ Err line → Begins FitsA linesA bytes count → count < n
  not_all bytes line count e h =
      elim (cases_lt count n) [
        | inl lt ↦ lt
        | inr le ↦
            let all = take_all count (linesA h.value) (omega (arith, long h.value h.fits)) in
            let text = h.front ∙ ap (λ ls. concat ls ++ h.more) all in
            absurd (err_ok (sym e ∙ ap readA text ∙ first.again h.value h.more h.fits))
      ]

  stops_first : (bytes : List ℕ) (line : ℕ) → readA bytes ≡ Err line → Stops Fits lines at bytes line
  stops_first bytes line e =
      let s = first.stops bytes line e in
      let lt = not_all bytes line s.count e s.begun in
      let a = s.begun.value in
      let w = some a s.begun.fits in
      record {
        count = s.count;
        line_is = s.line_is;
        begun = record {
          value = w.0;
          fits = (joins a w.0 s.begun.fits w.1).0;
          inside = omega (arith, lt, long_both a w.0 s.begun.fits w.1);
          more = s.begun.more;
          front = s.begun.front ∙ ap (λ ls. concat ls ++ s.begun.more) (sym (front_lines a w.0 s.count s.begun.fits w.1 (omega (arith, lt))));
        };
        ended = λ h. s.ended (front_begins bytes (s.count + 1) (omega (arith, lt)) h);
      }

  stops_rest : (bytes : List ℕ) (line : ℕ) (a : A) (mid : List ℕ) → readA bytes ≡ Ok (a, mid) → readG a mid ≡ Err line → Stops Fits lines at bytes line
  stops_rest bytes line a mid found e =
      let t = first.takes bytes a mid found in
      let s = (others a t.0).stops mid line e in
      let c = s.begun.value in
      record {
        count = n + s.count;
        line_is = omega (arith, s.line_is, at_is);
        begun = record {
          value = c;
          fits = (joins a c t.0 s.begun.fits).0;
          inside = omega (arith, s.begun.inside, long_both a c t.0 s.begun.fits);
          more = s.begun.more;
          front = t.1 ∙ ap (λ u. concat (linesA a) ++ u) s.begun.front ∙ sym (cut_text a c s.count s.begun.more t.0 s.begun.fits);
        };
        ended = λ h.
            let e2 : n + s.count + 1 ≡ n + (s.count + 1) = omega arith in
            s.ended (split_begins bytes (s.count + 1) a mid found (subst (Begins Fits lines bytes) e2 h));
      }

  ends_both : (bytes : List ℕ) (c : C) (rest : List ℕ) (a : A) (mid : List ℕ) → readA bytes ≡ Ok (a, mid) → readG a mid ≡ Ok (c, rest)
      → ¬ Begins Fits lines bytes (length (lines c) + 1)
  ends_both bytes c rest a mid found e h =
      let t = first.takes bytes a mid found in
      let g = (others a t.0).takes mid c rest e in
      let e2 : length (lines c) + 1 ≡ n + (length (linesG c) + 1) = omega (arith, long_both a c t.0 g.0) in
      (others a t.0).ends mid c rest e (split_begins bytes (length (linesG c) + 1) a mid found (subst (Begins Fits lines bytes) e2 h))

  takes_both : (bytes : List ℕ) (c : C) (rest : List ℕ) (a : A) (mid : List ℕ) → readA bytes ≡ Ok (a, mid) → readG a mid ≡ Ok (c, rest)
      → Fits c × (bytes ≡ concat (lines c) ++ rest)
  takes_both bytes c rest a mid found e =
      let t = first.takes bytes a mid found in
      let g = (others a t.0).takes mid c rest e in
      let j = joins a c t.0 g.0 in (
        j.0,
        t.1 ∙ ap (λ u. concat (linesA a) ++ u) g.1 ∙ sym (append_assoc (concat (linesA a)) (concat (linesG c)) rest)
            ∙ ap (λ u. u ++ rest) (sym (concat-append (linesA a) (linesG c)) ∙ ap concat (sym j.1)),
      )

  again_both : (c : C) (rest : List ℕ) → Fits c → (readA (concat (lines c) ++ rest) >>= λ x. readG x.0 x.1) ≡ Ok (c, rest)
  again_both c rest fits =
      let s = splits c fits in
      let j = joins (part c) c s.0 s.1 in
      let text : concat (lines c) ++ rest ≡ concat (linesA (part c)) ++ (concat (linesG c) ++ rest) =
      ap (λ ls. concat ls ++ rest) j.1 ∙ ap (λ u. u ++ rest) (concat-append (linesA (part c)) (linesG c))
      ∙ append_assoc (concat (linesA (part c))) (concat (linesG c)) rest in
      bind_again (readA (concat (lines c) ++ rest)) (λ x. readG x.0 x.1) (part c, concat (linesG c) ++ rest) (Ok (c, rest))
      (ap readA text ∙ first.again (part c) (concat (linesG c) ++ rest) s.0)
      ((others (part c) s.0).again c rest s.1)

  pub bind_piece : IsPiece Fits lines at (λ bytes. readA bytes >>= λ x. readG x.0 x.1)
  bind_piece = record {
    takes = λ bytes c rest e. bind_ok (readA bytes) (λ x. readG x.0 x.1) (c, rest) e (λ x found f. takes_both bytes c rest x.0 x.1 found f);
    again = again_both;
    stops = λ bytes line e. bind_err (readA bytes) (λ x. readG x.0 x.1) line e (stops_first bytes line) (λ x found f. stops_rest bytes line x.0 x.1 found f);
    ends = λ bytes c rest e. bind_ok (readA bytes) (λ x. readG x.0 x.1) (c, rest) e (λ x found f. ends_both bytes c rest x.0 x.1 found f);
  }
