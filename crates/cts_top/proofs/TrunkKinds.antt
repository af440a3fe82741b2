-- Of one synthesis there is one kind of text for its trunk.
use Rattle.std.proofs.Common.{◌≡◌, ℕ, List, refl, sym, subst, ◌∙◌}
use Rattle.cts_instance.specs.declared.parts.Parts.{Parts}
use Rattle.cts_trunk.specs.declared.trunk.TrunkEnd.{TrunkEnd}
use Rattle.cts_trunk.specs.declared.trunk.TrunkEnd.TheVariants as end
use Rattle.cts_trunk.proofs.OneTrunk.{laid_has_no_end_lem}
use Rattle.cts_plain.specs.Synthesis.{Synthesis, IsSynthesis, made, beyond, cut}
use Rattle.cts_plain.proofs.Valid.{synthesis_same}
use Rattle.cts_top.specs.declared.stop.Answer.{Answer}
use Rattle.cts_top.specs.declared.stop.Answer.TheVariants as answer
use Rattle.cts_top.specs.Trunk.{IsNoTrunkText, IsTrunkKind, IsTrunkText, TellsTrunk}

-- a line says that there is no trunk only where memory did not run out
no_line : (why : TrunkEnd) (text : List ℕ) → IsNoTrunkText why text → why ≡ end.NoMemory → ⊥
no_line end.NoMemory text told same = told
no_line end.Buffer text told same = cc
no_line end.Many text told same = cc
no_line end.Beyond text told same = cc

module _ (i : Parts) (step buffer : ℕ) where
  kind_by : (s : Synthesis) (kind other : Answer) (text : List ℕ) → IsTrunkText i step buffer s kind text → IsTrunkKind i step buffer s other
      → kind ≡ other
  kind_by (made tree) answer.Text answer.Text text t k = refl
  kind_by (made tree) answer.NoTrunk answer.NoTrunk text t k = refl
  kind_by (made tree) answer.Text answer.NoTrunk text t k =
      absurd (k.2 (laid_has_no_end_lem i tree step buffer t.trunk k.0 t.laid k.1))
  kind_by (made tree) answer.NoTrunk answer.Text text t k = absurd (no_line t.why text t.told (k t.why t.ends))
  kind_by (made tree) answer.No other text t k = absurd t
  kind_by (made tree) answer.NoTree other text t k = absurd t
  kind_by (made tree) answer.Text answer.No text t k = absurd k
  kind_by (made tree) answer.Text answer.NoTree text t k = absurd k
  kind_by (made tree) answer.NoTrunk answer.No text t k = absurd k
  kind_by (made tree) answer.NoTrunk answer.NoTree text t k = absurd k
  kind_by (beyond node) kind other text t k = t.0 ∙ sym k
  kind_by (cut node) kind other text t k = t.0 ∙ sym k

  pub trunk_kind_one : (kind other : Answer) (text : List ℕ) (s : Synthesis) → TellsTrunk i step buffer kind text → IsSynthesis i s
      → IsTrunkKind i step buffer s other → kind ≡ other
  trunk_kind_one kind other text s told is k =
      kind_by s kind other text
      (subst (λ x. IsTrunkText i step buffer x kind text) (synthesis_same i told.valid told.synthesis s told.comes is) told.is_text) k
