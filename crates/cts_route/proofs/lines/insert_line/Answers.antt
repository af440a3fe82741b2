use Rattle.std.proofs.Common.{◌≡◌, List, ℤ, w64, FitsSigned, subst}
use Rattle.std.specs.List.{insert}
use Rattle.std.proofs.lemmas.Int.{to_z-of_z}
use Rattle.cts_route.specs.LineLists.{IsRoom}
use Rattle.cts_route.proofs.Insertions.{inserted}
use Rattle.cts_route.proofs.lines.insert_line.Goals as goal

pub returns-in_ok-insert : goal.returns-in_ok-insert
returns-in_ok-insert c =
    let fits : FitsSigned w64 c.args.line = c.ranges.line in
    let room : IsRoom c.args.lines.now.items c.args.line c.in-Some.place =
    subst (λ (xs : List ℤ). IsRoom xs c.args.line c.in-Some.place) c.as_slice.ensures.value
    (simp to_z-of_z at c.in-Some.ensures.room) in
    let items : c.insert.new.self.items ≡ insert c.args.lines.now.items c.in-Some.place c.args.line =
    simp to_z-of_z at c.in_ok-insert.ensures.items in
    inserted c.args.lines.now.items c.args.line c.in-Some.place c.insert.new.self.items c.requires room items
