-- Readers of parts of a line, put together.
use Rattle.std.proofs.Common.{◌≡◌, ℕ, Bool, true, false, cond, List, [], ◌++◌, Option, Some, None, refl, sym, ap, ◌∙◌, subst, append_assoc}
use Rattle.cts_report_reader.specs.Reader.{PartReader, IsAny, IsPart}
use Rattle.cts_report_reader.specs.Words.{◌>>=◌, kept_if}

pub some_is : {A : Type 0} {x y : A} → ◌≡◌ {A = Option A} (Some x) (Some y) → x ≡ y
some_is e = cc

pub none_is : {A : Type 0} {x : A} → ◌≡◌ {A = Option A} None (Some x) → ⊥
none_is e = cc

pub bind_some : {A B : Type 0} (o : Option A) (f : A → Option B) (y : B) {P : Type 0} → (o >>= f) ≡ Some y
    → ((x : A) → o ≡ Some x → f x ≡ Some y → P) → P
bind_some (Some x) f y e then = then x refl e
bind_some None f y e then = absurd (none_is e)

pub bind_part_again : {A B : Type 0} (o : Option A) (f : A → Option B) (x : A) (r : Option B) → o ≡ Some x → f x ≡ r → (o >>= f) ≡ r
bind_part_again o f x r e h = ap (λ (p : Option _). p >>= f) e ∙ h

-- nothing more
pub done_part : {A : Type 0} (value : A) → IsPart IsAny (λ a. a ≡ value) (λ _. []) (λ bytes. Some (value, bytes))
done_part value = record {
  takes = λ bytes found rest e.
      let p = some_is e in (sym (ap (λ (x : _ × List ℕ). x.0) p), ap (λ (x : _ × List ℕ). x.1) p);
  again = λ other rest fits ends. ap (λ a. Some (a, rest)) (sym fits);
}

-- a part, and then others that depend on what was found
module _ {A C : Type 0} (EndsA : List ℕ → Type 0) (FitsA : A → Type 0) (textA : A → List ℕ) (readA : PartReader A)
    (Ends : List ℕ → Type 0) (Fits : C → Type 0) (text : C → List ℕ) (FitsG : A → C → Type 0) (textG : C → List ℕ) (readG : A → PartReader C)
    (part : C → A)
    (first : IsPart EndsA FitsA textA readA)
    (others : (a : A) → FitsA a → IsPart Ends (FitsG a) textG (readG a))
    (joins : (a : A) (c : C) → FitsA a → FitsG a c → Fits c × (text c ≡ textA a ++ textG c))
    (splits : (c : C) → Fits c → FitsA (part c) × FitsG (part c) c)
    (stops : (c : C) (rest : List ℕ) → Fits c → Ends rest → EndsA (textG c ++ rest)) where
  takes_parts : (bytes : List ℕ) (c : C) (rest : List ℕ) (a : A) (mid : List ℕ) → readA bytes ≡ Some (a, mid) → readG a mid ≡ Some (c, rest)
      → Fits c × (bytes ≡ text c ++ rest)
  takes_parts bytes c rest a mid found e =
      let t = first.takes bytes a mid found in
      let g = (others a t.0).takes mid c rest e in
      let j = joins a c t.0 g.0 in
      (j.0, t.1 ∙ ap (λ u. textA a ++ u) g.1 ∙ sym (append_assoc (textA a) (textG c) rest) ∙ ap (λ u. u ++ rest) (sym j.1))

  again_parts : (c : C) (rest : List ℕ) → Fits c → Ends rest → (readA (text c ++ rest) >>= λ x. readG x.0 x.1) ≡ Some (c, rest)
  again_parts c rest fits ends =
      let s = splits c fits in
      let j = joins (part c) c s.0 s.1 in
      let whole : text c ++ rest ≡ textA (part c) ++ (textG c ++ rest) =
      ap (λ u. u ++ rest) j.1 ∙ append_assoc (textA (part c)) (textG c) rest in
      bind_part_again (readA (text c ++ rest)) (λ x. readG x.0 x.1) (part c, textG c ++ rest) (Some (c, rest))
      (ap readA whole ∙ first.again (part c) (textG c ++ rest) s.0 (stops c rest fits ends))
      ((others (part c) s.0).again c rest s.1 ends)

  pub bind_part : IsPart Ends Fits text (λ bytes. readA bytes >>= λ x. readG x.0 x.1)
  bind_part = record {
    takes = λ bytes c rest e. bind_some (readA bytes) (λ x. readG x.0 x.1) (c, rest) e (λ x found f. takes_parts bytes c rest x.0 x.1 found f);
    again = again_parts;
  }

-- a part that passes a test
module _ {A : Type 0} (Ends : List ℕ → Type 0) (Fits : A → Type 0) (text : A → List ℕ) (read : PartReader A) (test : A → Bool)
    (part : IsPart Ends Fits text read) where
  kept_cases : (y x : A × List ℕ) (b : Bool) → test y.0 ≡ b → cond {A = Option (A × List ℕ)} b (Some y) None ≡ Some x
      → (◌≡◌ {A = Option (A × List ℕ)} (Some y) (Some x)) × (test x.0 ≡ true)
  kept_cases y x true t e = (e, subst (λ (z : A × List ℕ). test z.0 ≡ true) (some_is e) t)
  kept_cases y x false t e = absurd (none_is e)

  kept_came : (o : Option (A × List ℕ)) (x : A × List ℕ) → kept_if test o ≡ Some x → (o ≡ Some x) × (test x.0 ≡ true)
  kept_came None x e = absurd (none_is e)
  kept_came (Some y) x e = kept_cases y x (test y.0) refl e

  kept_again : (o : Option (A × List ℕ)) (x : A × List ℕ) → o ≡ Some x → test x.0 ≡ true → kept_if test o ≡ Some x
  kept_again o x e t = ap (kept_if test) e ∙ ap (λ b. cond {A = Option (A × List ℕ)} b (Some x) None) t

  pub kept_part : IsPart Ends (λ a. Fits a × (test a ≡ true)) text (λ bytes. kept_if test (read bytes))
  kept_part = record {
    takes = λ bytes value rest e.
        let k = kept_came (read bytes) (value, rest) e in
        let t = part.takes bytes value rest k.0 in
        ((t.0, k.1), t.1);
    again = λ value rest fits ends. kept_again (read (text value ++ rest)) (value, rest) (part.again value rest fits.0 ends) fits.1;
  }

-- what fits may be said in other words, and so may the text
pub same_part : {A : Type 0} (Ends : List ℕ → Type 0) (Fits Other : A → Type 0) (text : A → List ℕ) (read : PartReader A)
    → IsPart Ends Fits text read → ((a : A) → Fits a → Other a) → ((a : A) → Other a → Fits a) → IsPart Ends Other text read
same_part Ends Fits Other text read part to from = record {
  takes = λ bytes value rest e. let t = part.takes bytes value rest e in (to value t.0, t.1);
  again = λ value rest fits ends. part.again value rest (from value fits) ends;
}
