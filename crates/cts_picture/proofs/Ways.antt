-- Ways over the corners of a route, one more corner at a time, and the points of a way in print.
use Rattle.std.proofs.Common.{◌≡◌, ℕ, ◌+◌, ◌<◌, ◌≤◌, List, [], ◌∷◌, ◌++◌, length, map, drop, get_or, sym, ap, ◌∙◌, arith, append-nil, append_assoc}
use Rattle.std.specs.List.{flat_map}
use Rattle.std.proofs.lemmas.List.{drop_more, drop_all}
use Rattle.std.proofs.lemmas.Grind.{flat_map-append}
use Rattle.cts_geom.specs.declared.points.Half.{Half}
use Rattle.cts_report.specs.Printed.{PrintedPoint}
use Rattle.cts_report_reader.specs.Seen.{seen_point}
use Rattle.cts_report.specs.Lines.{point_words}
use Rattle.cts_picture.specs.Wires.{gap, way_length}

-- a way from a point on, over the next corner
pub way_over : (at : PrintedPoint) (corners : List Half) (i : ℕ) (d : Half) (next lower : PrintedPoint) → i < length corners
    → next ≡ seen_point (get_or corners i d)
    → way_length at (map seen_point (drop i corners) ++ lower ∷ [])
    ≡ (gap at.x next.x + gap at.y next.y) + way_length next (map seen_point (drop (i + 1) corners) ++ lower ∷ [])
unfolding way_length
way_over at corners i d next lower h e =
    ap (λ cs. way_length at (map seen_point cs ++ lower ∷ [])) (drop_more corners i d h)
    ∙ ap (λ q. (gap at.x q.x + gap at.y q.y) + way_length q (map seen_point (drop (i + 1) corners) ++ lower ∷ [])) (sym e)

-- a way from a point to its end, after the last corner
pub way_to_end : (at : PrintedPoint) (corners : List Half) (i : ℕ) (lower : PrintedPoint) → length corners ≤ i
    → way_length at (map seen_point (drop i corners) ++ lower ∷ []) ≡ gap at.x lower.x + gap at.y lower.y
unfolding way_length
way_to_end at corners i lower h =
    ap (λ cs. way_length at (map seen_point cs ++ lower ∷ [])) (drop_all i corners h) ∙ omega arith

-- the points of a way, its two ends and the corners between them
pub way_in_print : (upper : PrintedPoint) (corners : List PrintedPoint) (lower : PrintedPoint)
    → flat_map point_words (upper ∷ (corners ++ lower ∷ []))
    ≡ point_words upper ++ flat_map point_words corners ++ point_words lower
way_in_print upper corners lower =
    ap (λ t. point_words upper ++ t)
    (flat_map-append point_words corners (lower ∷ []) ∙ ap (λ t. flat_map point_words corners ++ t) (append-nil (point_words lower)))
    ∙ sym (append_assoc (point_words upper) (flat_map point_words corners) (point_words lower))
