-- Wires in print.
use Rattle.std.proofs.Common.{◌≡◌, ℕ, ◌-◌, List, [], ◌∷◌, ◌++◌, length, refl, ap, ◌∙◌, sym}
use Rattle.std.specs.List.{flat_map}
use Rattle.std.proofs.lemmas.Grind.{flat_map-append}
use Rattle.cts_report.specs.Printed.{PrintedPoint, PrintedNode}
use Rattle.cts_picture.specs.declared.wire.Scale.{Scale}
use Rattle.cts_picture.specs.Wires.{wire_text, wire_to, wires_below, wires_of, wires_text}

pub flat_map_twice : {A B C : Type 0} (f : B → List C) (g : A → List B) (xs : List A)
    → flat_map f (flat_map g xs) ≡ flat_map (λ x. flat_map f (g x)) xs
flat_map_twice f g [] = refl
flat_map_twice f g (x ∷ xs) =
    flat_map-append f (g x) (flat_map g xs) ∙ ap (λ t. flat_map f (g x) ++ t) (flat_map_twice f g xs)

-- the wire to the root, and those below the pairs
pub wires_in_print : (scale : Scale) (source : PrintedPoint) (nodes : List PrintedNode) (root : ℕ) → root ≡ length nodes - 1
    → flat_map (wire_text scale) (wire_to nodes source root)
    ++ flat_map (λ node. flat_map (wire_text scale) (wires_below nodes node)) nodes
    ≡ wires_text scale source nodes
unfolding wires_text wires_of
wires_in_print scale source nodes root e =
    ap (λ t. flat_map (wire_text scale) (wire_to nodes source root) ++ t) (sym (flat_map_twice (wire_text scale) (wires_below nodes) nodes))
    ∙ sym (flat_map-append (wire_text scale) (wire_to nodes source root) (flat_map (wires_below nodes) nodes))
    ∙ ap (λ k. flat_map (wire_text scale) (wire_to nodes source k ++ flat_map (wires_below nodes) nodes)) e
