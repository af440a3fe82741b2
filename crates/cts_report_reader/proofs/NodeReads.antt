-- The line of a node, by what its parts are.
use Rattle.std.proofs.Common.{◌≡◌, ℕ, true, false, eqb, List, Some, None, refl, inl, inr, codes}
use Rattle.std.proofs.lemmas.Bool.Decides.{eqb_tells}
use Rattle.cts_report.specs.Printed.{PrintedNode}
use Rattle.cts_report_reader.specs.declared.form.Form.{Form}
use Rattle.cts_report_reader.specs.Bounds.{printed_children}
use Rattle.cts_report_reader.specs.NodeLine.{joins_stack, node_rest_at, node_at}
use Rattle.cts_report_reader.specs.Words.{labelled_at}

eqb_other : (a b : ℕ) → (a ≡ b → ⊥) → eqb a b ≡ false
eqb_other a b h = elim (eqb_tells a b) [ inl p ↦ absurd (h p.1) | inr p ↦ p.0 ]

eqb_alike : (a b : ℕ) → a ≡ b → eqb a b ≡ true
eqb_alike a b h = elim (eqb_tells a b) [ inl p ↦ p.0 | inr p ↦ absurd (p.1 h) ]

module _ (form : Form) (number : ℕ) (stack : List ℕ) (todo : ℕ) (bytes : List ℕ) where
  pub node_unlabelled : labelled_at (codes "node ") 0 bytes ≡ None → node_at form number stack todo bytes ≡ None
  unfolding node_at
  node_unlabelled e = rw e refl

  module _ (found : ℕ) (one : List ℕ) (is_found : labelled_at (codes "node ") 0 bytes ≡ Some (found, one)) where
    pub node_other : (found ≡ number → ⊥) → node_at form number stack todo bytes ≡ None
    unfolding node_at
    node_other h = rw (is_found, eqb_other found number h) refl

    module _ (same_number : found ≡ number) where
      pub node_nothing : node_rest_at form one ≡ None → node_at form number stack todo bytes ≡ None
      unfolding node_at
      node_nothing e = rw (is_found, eqb_alike found number same_number, e) refl

      module _ (node : PrintedNode) (two : List ℕ) (is_node : node_rest_at form one ≡ Some (node, two)) where
        pub node_apart : joins_stack stack todo (printed_children node) ≡ false → node_at form number stack todo bytes ≡ None
        unfolding node_at
        node_apart e = rw (is_found, eqb_alike found number same_number, is_node, e) refl

        pub node_there : joins_stack stack todo (printed_children node) ≡ true → node_at form number stack todo bytes ≡ Some (node, two)
        unfolding node_at
        node_there e = rw (is_found, eqb_alike found number same_number, is_node, e) refl
