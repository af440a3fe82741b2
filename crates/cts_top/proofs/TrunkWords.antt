-- What the words after `trunk` ask for.
use Rattle.std.proofs.Common.{◌≡◌, ℕ, List, [], ◌∷◌, codes, refl, subst, arith}
use Rattle.cts_top.specs.declared.words.Form.{Form}
use Rattle.cts_top.specs.declared.words.Form.TheVariants.{Make, Trunk}
use Rattle.cts_top.specs.TrunkWords.{IsBufferIndex, IsStep}
use Rattle.cts_top.specs.Words.{AsksFor}
use Rattle.cts_top.proofs.Forms.{named}

pub only_trunk : (s j : List ℕ) (form : Form) → AsksFor (codes "trunk" ∷ s ∷ j ∷ []) form
    → (a : ℕ × ℕ) × (IsStep s a.0 × IsBufferIndex j a.1) × (form ≡ Trunk a.0 a.1)
only_trunk s j (Trunk x y) a =
    let e = a.2 in
    let first : a.0 ≡ s = cc in
    let second : a.1 ≡ j = cc in
    ((x, y), (subst (λ v. IsStep v x) first a.3, subst (λ v. IsBufferIndex v y) second a.4), refl)
only_trunk s j (Make x y) a = let e : codes "trunk" ≡ codes "make" = (named _ _ (Make x y) a).0 in absurd cc
only_trunk s j form a = let p = named _ _ form a in absurd (omega (arith, p.1))
