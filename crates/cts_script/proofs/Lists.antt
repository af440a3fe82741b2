-- Lines of a list, one more at a time.
use Rattle.std.proofs.Common.{◌≡◌, ℕ, ◌+◌, ◌<◌, List, [], ◌∷◌, ◌++◌, length, get_or, take, map, codes, ap, ◌∙◌, append-nil}
use Rattle.std.specs.List.{concat}
use Rattle.std.proofs.lemmas.List.{take_more, map-append}
use Rattle.std.proofs.lemmas.List.Folds.{concat-append}
use Rattle.cts_instance.specs.declared.parts.Parts.{Parts}
use Rattle.cts_script.specs.Text.{block_line, buffer_line, end_line, head_lines, instance_lines, instance_text, list_lines, sink_line}

-- the lines of one more item
pub lines_more : {A : Type 0} (line : A → List ℕ) (first : List ℕ) (items : List A) (k : ℕ) (d : A) → k < length items
    → concat (first ∷ map line (take (k + 1) items)) ≡ concat (first ∷ map line (take k items)) ++ line (get_or items k d)
lines_more line first items k d h =
    ap (λ front. concat (first ∷ map line front)) (take_more items k d h)
    ∙ ap (λ lines. concat (first ∷ lines)) (map-append line (take k items) (get_or items k d ∷ []))
    ∙ concat-append (first ∷ map line (take k items)) (line (get_or items k d) ∷ [])
    ∙ ap (λ text. concat (first ∷ map line (take k items)) ++ text) (append-nil (line (get_or items k d)))

-- the text of an instance, list by list
pub text_by_lists : (parts : Parts) → instance_text parts
    ≡ concat (head_lines parts)
    ++ concat (list_lines (codes "buffers") buffer_line parts.params.library)
    ++ concat (list_lines (codes "sinks") (sink_line parts.version) parts.sinks)
    ++ concat (list_lines (codes "blocks") block_line parts.blocks)
    ++ concat (end_line ∷ [])
unfolding instance_lines
text_by_lists parts =
    let head : List (List ℕ) = head_lines parts in
    let buffers : List (List ℕ) = list_lines (codes "buffers") buffer_line parts.params.library in
    let sinks : List (List ℕ) = list_lines (codes "sinks") (sink_line parts.version) parts.sinks in
    let blocks : List (List ℕ) = list_lines (codes "blocks") block_line parts.blocks in
    concat-append (head ++ buffers ++ sinks ++ blocks) (end_line ∷ [])
    ∙ ap (λ t. t ++ concat (end_line ∷ []))
    (concat-append (head ++ buffers ++ sinks) blocks
    ∙ ap (λ t. t ++ concat blocks)
    (concat-append (head ++ buffers) sinks ∙ ap (λ t. t ++ concat sinks) (concat-append head buffers)))
