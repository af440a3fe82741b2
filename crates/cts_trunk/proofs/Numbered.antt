-- Lines of repeaters, one more at a time.
use Rattle.std.proofs.Common.{◌≡◌, ℕ, ◌+◌, ◌<◌, List, [], ◌∷◌, ◌++◌, length, take, get_or, sym, ap, ◌∙◌, arith, append_assoc, append-nil}
use Rattle.std.specs.List.{concat}
use Rattle.std.proofs.lemmas.List.{take_more, length-take-le}
use Rattle.cts_trunk.specs.declared.trunk.Repeater.{Repeater}
use Rattle.cts_trunk.specs.Lines.{repeater_line, repeater_lines}

repeater_lines_more : (number : ℕ) (repeaters : List Repeater) (repeater : Repeater)
    → concat (repeater_lines number (repeaters ++ repeater ∷ []))
    ≡ concat (repeater_lines number repeaters) ++ repeater_line (number + length repeaters) repeater
unfolding repeater_lines
repeater_lines_more number [] repeater =
    append-nil (repeater_line number repeater) ∙ ap (λ n. repeater_line n repeater) (omega arith)
repeater_lines_more number (first ∷ repeaters) repeater =
    ap (λ t. repeater_line number first ++ t)
    (repeater_lines_more (number + 1) repeaters repeater
    ∙ ap (λ n. concat (repeater_lines (number + 1) repeaters) ++ repeater_line n repeater) (omega arith))
    ∙ sym (append_assoc (repeater_line number first) (concat (repeater_lines (number + 1) repeaters)) (repeater_line (number + length (first ∷ repeaters)) repeater))

-- the lines of the first k repeaters, and then that of the next
pub lines_before_more : (repeaters : List Repeater) (k : ℕ) (d : Repeater) → k < length repeaters
    → concat (repeater_lines 1 (take (k + 1) repeaters))
    ≡ concat (repeater_lines 1 (take k repeaters)) ++ repeater_line (k + 1) (get_or repeaters k d)
lines_before_more repeaters k d below =
    let front : length (take k repeaters) ≡ k = length-take-le k repeaters (omega arith) in
    ap (λ rs. concat (repeater_lines 1 rs)) (take_more repeaters k d below)
    ∙ repeater_lines_more 1 (take k repeaters) (get_or repeaters k d)
    ∙ ap (λ n. concat (repeater_lines 1 (take k repeaters)) ++ repeater_line n (get_or repeaters k d)) (omega arith)
