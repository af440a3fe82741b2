-- Whether a wire is shorter than its way.
use Rattle.std.proofs.Common.{◌≡◌, ◌↔◌, ℕ, ◌*◌, ◌<◌, ltb, List, ap, subst, ◌∙◌}
use Rattle.std.specs.Prelude.{IsTrue}
use Rattle.std.proofs.lemmas.Bool.Decides.{Decides-ltb}
use Rattle.cts_geom.specs.declared.points.Half.{Half}
use Rattle.cts_tree.specs.Path.{path_length, points_along}

pub short_decided : (wire length : ℕ) (from : Half) (corners corners' : List Half) (to to' : Half)
    → length ≡ path_length (points_along from corners to) → corners ≡ corners' → to ≡ to'
    → IsTrue (ltb (2 * wire) length) ↔ (2 * wire < path_length (points_along from corners' to'))
short_decided wire length from corners corners' to to' e f g =
    subst (λ n. IsTrue (ltb (2 * wire) length) ↔ (2 * wire < n))
    (e ∙ (ap (λ (cs : List Half). path_length (points_along from cs to)) f ∙ ap (λ (end : Half). path_length (points_along from corners' end)) g))
    (Decides-ltb (2 * wire) length)
