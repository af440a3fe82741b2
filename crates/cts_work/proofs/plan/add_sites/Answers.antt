use Rattle.std.proofs.Common.{◌≡◌, ℕ, ◌+◌, ◌<◌, List, [], ◌∷◌, ◌++◌, length, get_or, map, take, sym, ap, ◌∙◌, append_assoc}
use Rattle.std.proofs.lemmas.List.{map_more}
use Rattle.cts_merge.specs.declared.side.Finished.{Finished}
use Rattle.cts_up.specs.declared.site.Site.{Site}
use Rattle.cts_up.specs.Sites.{site_of}
use Rattle.cts_work.proofs.plan.add_sites.Goals as goal

-- the site of one node more
one_more : (old now : List Site) (nodes : List Finished) (k : ℕ) (d : Finished) (site : Site) → k < length nodes
    → now ≡ old ++ map site_of (take k nodes) → site ≡ site_of (get_or nodes k d) → now ++ site ∷ [] ≡ old ++ map site_of (take (k + 1) nodes)
one_more old now nodes k d site below before here =
    (λ z. before z ++ here z ∷ []) ∙ append_assoc old (map site_of (take k nodes)) (site_of (get_or nodes k d) ∷ [])
    ∙ ap (λ more. old ++ more) (sym (map_more site_of nodes k d below))

pub loop-finished-preserved : goal.loop-finished-preserved
loop-finished-preserved c =
    record {
      sites = c.in_ok-push.ensures.items
          ∙ one_more c.args.sites.now.items c.loop-finished.sites.items c.args.nodes.now c.loop-finished.finished-index c.finished-item.result
          c.site_of.result c.loop-finished-test.true c.loop-finished.invariant.sites (c.site_of.ensures ∙ ap site_of c.finished-item.is);
    }
