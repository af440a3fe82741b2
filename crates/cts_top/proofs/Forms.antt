-- What words ask for, by their parts.
use Rattle.std.proofs.Common.{◌≡◌, ◌≤◌, ◌↔◌, ◌⊎◌, inl, inr, ℕ, zero, suc, List, [], ◌∷◌, Option, Some, None, codes, length, map, refl, subst, ap, arith}
use Rattle.std.specs.Option.{option_zip}
use Rattle.cts_top.specs.declared.words.Form.{Form}
use Rattle.cts_top.specs.declared.words.Form.TheVariants.{Synth, Check, Edit, Make, Job, Trunk, Near, Replay}
use Rattle.cts_top.specs.Words.{AreMade, AsksFor, IsAlone, IsNumber, IsWithinLimits, IsWorkers}

-- two values, each found where it is what is told
pub zip_tells : {A B : Type 0} (P : A → Type 0) (Q : B → Type 0) (x : Option A) (y : Option B)
    → ((a : A) → (x ≡ Some a) ↔ P a) → ((b : B) → (y ≡ Some b) ↔ Q b) → (a : A) (b : B) → (option_zip x y ≡ Some (a, b)) ↔ (P a × Q b)
zip_tells P Q None y p q a b = (λ e. cc, λ r. let e : None ≡ Some a = (p a).1 r.0 in cc)
zip_tells P Q (Some x) None p q a b = (λ e. cc, λ r. let e : None ≡ Some b = (q b).1 r.1 in cc)
zip_tells {A = A} {B = B} P Q (Some x) (Some y) p q a b = (
  λ e.
      let pair : ◌≡◌ {A = A × B} (x, y) (a, b) = cc in
      ((p a).0 (ap (λ p. Some p.0) pair), (q b).0 (ap (λ p. Some p.1) pair)),
  λ r.
      let first : Some x ≡ Some a = (p a).1 r.0 in
      let second : Some y ≡ Some b = (q b).1 r.1 in
      cc,
)

-- a seed and a number of sinks, each found where it is within its limits
pub made_zip : (seed_word sinks_word : List ℕ) (x y : Option ℕ)
    → ((n : ℕ) → (x ≡ Some n) ↔ (IsNumber seed_word n × (0 ≤ n) × (n ≤ 2147483647)))
    → ((n : ℕ) → (y ≡ Some n) ↔ (IsNumber sinks_word n × (1 ≤ n) × (n ≤ 65536)))
    → (s n : ℕ) → (option_zip x y ≡ Some (s, n)) ↔ AreMade seed_word sinks_word s n
made_zip seed_word sinks_word x y p q s n =
    let both = zip_tells _ _ x y p q s n in (
      λ e.
          let r = both.0 e in
          record {
            seed_is = r.0.0;
            seed_within = omega (arith, r.0.2);
            sinks_is = r.1.0;
            some_sink = r.1.1;
            sinks_within = r.1.2;
          },
      λ m. both.1 ((m.seed_is, omega arith, omega (arith, m.seed_within)), (m.sinks_is, m.some_sink, m.sinks_within)),
    )

-- a seed and a number of sinks beside a number of workers
pub job_zip : (s n w : List ℕ) (x : Option (ℕ × ℕ)) (y : Option ℕ) → ((a b : ℕ) → (x ≡ Some (a, b)) ↔ AreMade s n a b)
    → ((q : ℕ) → (y ≡ Some q) ↔ IsWorkers w q)
    → (p : (ℕ × ℕ) × ℕ) → (option_zip x y ≡ Some p) ↔ (AreMade s n p.0.0 p.0.1 × IsWorkers w p.1)
job_zip s n w x y are is p = zip_tells (λ (a : ℕ × ℕ). AreMade s n a.0 a.1) (IsWorkers w) x y (λ a. are a.0 a.1) is p.0 p.1

-- a number is one, or not
one_or_not : (n : ℕ) → (n ≡ 1) ⊎ (¬ (n ≡ 1))
one_or_not zero = inr (λ e. omega (arith, e))
one_or_not (suc zero) = inl refl
one_or_not (suc (suc n)) = inr (λ e. omega (arith, e))

-- what is asked for is within its limits
pub asked_within : (words : List (List ℕ)) (form : Form) → AsksFor words form → IsWithinLimits form
asked_within words (Synth workers) a = (a.2.1, a.2.2)
asked_within words Check a = tt
asked_within words Edit a = tt
asked_within words Near a = tt
asked_within words Replay a = tt
asked_within words (Make seed sinks) a = (a.3.seed_within, a.3.some_sink, a.3.sinks_within)
asked_within words (Job seed sinks workers) a = (a.4.seed_within, a.4.some_sink, a.4.sinks_within, a.5.1, a.5.2)
asked_within words (Trunk step buffer) a = (a.3.some, a.3.within, a.4.within)

-- the first word of a form
abbrev name_of : Form → List ℕ
name_of (Synth workers) = codes "synth"
name_of Check = codes "check"
name_of Edit = codes "edit"
name_of Near = codes "near"
name_of Replay = codes "replay"
name_of (Make seed sinks) = codes "make"
name_of (Job seed sinks workers) = codes "job"
name_of (Trunk step buffer) = codes "trunk"

-- how many follow it
abbrev more_of : Form → ℕ
more_of (Synth workers) = 1
more_of Check = 0
more_of Edit = 0
more_of Near = 0
more_of Replay = 0
more_of (Make seed sinks) = 2
more_of (Job seed sinks workers) = 3
more_of (Trunk step buffer) = 2

-- words that ask for a form begin with its name, and so many follow
pub named : (name : List ℕ) (more : List (List ℕ)) (form : Form) → AsksFor (name ∷ more) form → (name ≡ name_of form) × (length more ≡ more_of form)
named name more (Synth workers) a = let e = a.1 in (cc, ap length (let t : more ≡ a.0 ∷ [] = cc in t))
named name more Check a = (cc, ap length (let t : more ≡ [] = cc in t))
named name more Edit a = (cc, ap length (let t : more ≡ [] = cc in t))
named name more Near a = (cc, ap length (let t : more ≡ [] = cc in t))
named name more Replay a = (cc, ap length (let t : more ≡ [] = cc in t))
named name more (Make seed sinks) a = let e = a.2 in (cc, ap length (let t : more ≡ a.0 ∷ a.1 ∷ [] = cc in t))
named name more (Job seed sinks workers) a = let e = a.3 in (cc, ap length (let t : more ≡ a.0 ∷ a.1 ∷ a.2 ∷ [] = cc in t))
named name more (Trunk step buffer) a = let e = a.2 in (cc, ap length (let t : more ≡ a.0 ∷ a.1 ∷ [] = cc in t))

-- What some words ask for that begin with a name, where what follows it tells one value: the form of that value.
module _ {A : Type 0} (form_with : A → Form) (Tells : A → Type 0) (Asks : Form → Type 0) (given : (a : A) → Tells a → Asks (form_with a))
    (only : (form : Form) → Asks form → (a : A) × Tells a × (form ≡ form_with a)) (found : Option A) (of : (a : A) → (found ≡ Some a) ↔ Tells a) where
  pub asked_some : (a : A) → found ≡ Some a → (form : Form) → (Some (form_with a) ≡ Some form) ↔ Asks form
  asked_some a is form = (
    λ e. let same : form_with a ≡ form = cc in subst Asks same (given a ((of a).0 is)),
    λ asks.
        let p = only form asks in
        let there : found ≡ Some (p.0) = (of (p.0)).1 (p.1) in
        let same : Some a ≡ Some (p.0) = cc in
        let one : a ≡ p.0 = cc in
        let is_form : form ≡ form_with (p.0) = p.2 in
        let forms : form_with a ≡ form_with (p.0) = ap form_with one in
        cc,
  )

  pub asked_none : found ≡ None → (form : Form) → (None ≡ Some form) ↔ Asks form
  asked_none is form = (
    λ e. absurd cc,
    λ asks.
        let p = only form asks in
        let there : found ≡ Some (p.0) = (of (p.0)).1 (p.1) in
        absurd cc,
  )

pub only_synth : (w : List ℕ) (form : Form) → AsksFor (codes "synth" ∷ w ∷ []) form → (n : ℕ) × IsWorkers w n × (form ≡ Synth n)
only_synth w (Synth n) a = let e = a.1 in let same : a.0 ≡ w = cc in (n, subst (λ v. IsWorkers v n) same a.2, refl)
only_synth w form a = let p = named _ _ form a in absurd (omega (arith, p.1))

pub only_make : (s n : List ℕ) (form : Form) → AsksFor (codes "make" ∷ s ∷ n ∷ []) form
    → (a : ℕ × ℕ) × AreMade s n a.0 a.1 × (form ≡ Make a.0 a.1)
only_make s n (Make x y) a =
    let e = a.2 in
    let first : a.0 ≡ s = cc in
    let second : a.1 ≡ n = cc in
    ((x, y), subst (λ v. AreMade s v x y) second (subst (λ v. AreMade v a.1 x y) first a.3), refl)
only_make s n (Trunk x y) a = let e : codes "make" ≡ codes "trunk" = (named _ _ (Trunk x y) a).0 in absurd cc
only_make s n form a = let p = named _ _ form a in absurd (omega (arith, p.1))

pub only_job : (s n w : List ℕ) (form : Form) → AsksFor (codes "job" ∷ s ∷ n ∷ w ∷ []) form
    → (a : (ℕ × ℕ) × ℕ) × (AreMade s n a.0.0 a.0.1 × IsWorkers w a.1) × (form ≡ Job a.0.0 a.0.1 a.1)
only_job s n w (Job x y q) a =
    let e = a.3 in
    let first : a.0 ≡ s = cc in
    let second : a.1 ≡ n = cc in
    let third : a.2 ≡ w = cc in (
      ((x, y), q),
      (subst (λ v. AreMade s v x y) second (subst (λ v. AreMade v a.1 x y) first a.4), subst (λ v. IsWorkers v q) third a.5),
      refl,
    )
only_job s n w form a = let p = named _ _ form a in absurd (omega (arith, p.1))

-- words of these bytes
pub words_one : {A : Type 0} (f : A → List ℕ) (R : List (List ℕ) → Type 0) (xs : List A) (a : A) (p : List ℕ)
    → xs ≡ a ∷ [] → p ≡ f a → R (p ∷ []) → R (map f xs)
words_one f R xs a p e g r = subst R (let m : map f xs ≡ f a ∷ [] = ap (map f) e in let t : p ∷ [] ≡ map f xs = cc in t) r

pub words_two : {A : Type 0} (f : A → List ℕ) (R : List (List ℕ) → Type 0) (xs : List A) (a b : A) (p q : List ℕ)
    → xs ≡ a ∷ b ∷ [] → p ≡ f a → q ≡ f b → R (p ∷ q ∷ []) → R (map f xs)
words_two f R xs a b p q e g h r = subst R (let m : map f xs ≡ f a ∷ f b ∷ [] = ap (map f) e in let t : p ∷ q ∷ [] ≡ map f xs = cc in t) r

pub words_three : {A : Type 0} (f : A → List ℕ) (R : List (List ℕ) → Type 0) (xs : List A) (a b c : A) (p q s : List ℕ)
    → xs ≡ a ∷ b ∷ c ∷ [] → p ≡ f a → q ≡ f b → s ≡ f c → R (p ∷ q ∷ s ∷ []) → R (map f xs)
words_three f R xs a b c p q s e g h k r =
    subst R (let m : map f xs ≡ f a ∷ f b ∷ f c ∷ [] = ap (map f) e in let t : p ∷ q ∷ s ∷ [] ≡ map f xs = cc in t) r

pub words_four : {A : Type 0} (f : A → List ℕ) (R : List (List ℕ) → Type 0) (xs : List A) (a b c d : A) (p q s t : List ℕ)
    → xs ≡ a ∷ b ∷ c ∷ d ∷ [] → p ≡ f a → q ≡ f b → s ≡ f c → t ≡ f d → R (p ∷ q ∷ s ∷ t ∷ []) → R (map f xs)
words_four f R xs a b c d p q s t e g h k l r =
    subst R (let m : map f xs ≡ f a ∷ f b ∷ f c ∷ f d ∷ [] = ap (map f) e in let u : p ∷ q ∷ s ∷ t ∷ [] ≡ map f xs = cc in u) r

-- a form is served by one thread, or not
pub alone_or_not : (form : Form) → IsAlone form ⊎ (¬ IsAlone form)
alone_or_not (Synth workers) = one_or_not workers
alone_or_not Check = inl tt
alone_or_not Edit = inr (λ a. a)
alone_or_not Near = inl tt
alone_or_not Replay = inl tt
alone_or_not (Make seed sinks) = inl tt
alone_or_not (Job seed sinks workers) = one_or_not workers
alone_or_not (Trunk step buffer) = inl tt
