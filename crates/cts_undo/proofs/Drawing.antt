-- What a draw tells of the synthesis of the sinks after the changes that are done.
use Rattle.std.proofs.Common.{◌≡◌, ℕ, List, length, refl, sym, subst, ap, ◌∙◌, take_all, arith}
use Rattle.cts_tree.specs.declared.nodes.TreeNode.{TreeNode}
use Rattle.cts_instance.specs.declared.parts.Parts.{Parts}
use Rattle.cts_instance.specs.Validity.{with_sinks}
use Rattle.cts_elmore.specs.declared.figures.Figures.{Figures}
use Rattle.cts_elmore.specs.Figures.{AreFigures}
use Rattle.cts_plain.specs.Synthesis.{IsSynthesis, made}
use Rattle.cts_edit.specs.declared.edit.Entry.{Entry}
use Rattle.cts_edit.specs.Edits.{after}
use Rattle.cts_history.specs.Replies.{IsDrawing, at_version}

module _ (base : Parts) (done : List Entry) (version : ℕ) (now : Parts) (is_last : version ≡ length done)
    (is_now : now ≡ with_sinks base (after base.sinks done)) where
  -- the last version is that after all changes
  now_last : now ≡ at_version base done version
  now_last = is_now ∙ ap (λ edits. with_sinks base (after base.sinks edits)) (sym (take_all version done (omega (arith, is_last))))

  pub drawn : (tree : List TreeNode) (figures : Figures) → IsSynthesis now (made tree) → AreFigures now tree figures
      → IsDrawing base done version figures.skew figures.wire_total
  drawn tree figures is are = record {
    within = omega (arith, is_last);
    tree = tree;
    is_tree = subst (λ i. IsSynthesis i (made tree)) now_last is;
    figures = figures;
    are_figures = subst (λ i. AreFigures i tree figures) now_last are;
    skew_is = refl;
    wire_is = refl;
  }
