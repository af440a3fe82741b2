use Rattle.std.proofs.Common.{length, slice_get, refl, sym, ap, ◌∙◌}
use Rattle.std.proofs.lemmas.Option.{slice_get_read, get_or_from_slice_get}
use Rattle.cts_up.specs.Sites.{site_of}
use Rattle.cts_work.specs.declared.node.Built.{Built}
use Rattle.cts_work.proofs.Taken.{site_is, taken_place, taken_stands}
use Rattle.cts_work.proofs.again.site_at.Goals as goal

pub returns-in-Some-get : goal.returns-in-Some-get
returns-in-Some-get c node here =
    let last = c.args.last.now in
    let nodes = c.args.nodes.now in
    let number = c.in-Some.number in
    let found = c.in-Some-get.ensures.lookup in
    let sites = c.as_slice-sites.result.now in
    site_is nodes last number c.args.placed.place node c.in-Some-get.site.now
    (taken_stands last nodes c.args.placed number c.requires.again c.in-Some.is)
    (taken_place last nodes c.args.placed number c.requires.again c.in-Some.is) here
    (ap (λ xs. slice_get xs number) (sym c.as_slice-sites.ensures.value)
    ∙ slice_get_read sites (length sites) number c.in-Some-get.site.now refl (found.3.0) (found.1))

pub returns : goal.returns
returns c node here =
    c.site_of.ensures
    ∙ ap (λ (n : Built). site_of n.finished)
    (get_or_from_slice_get c.args.nodes.now c.args.placed.place node c.index-nodes-placed.result here)
