-- The sites of a plan, by number.
use Rattle.std.proofs.Common.{◌≡◌, ℕ, ◌<◌, List, length, get_or, sym, ap, subst, ◌∙◌, arith}
use Rattle.std.proofs.lemmas.List.{get_or-map, get_or_default, length-map}
use Rattle.std.proofs.lemmas.Slice.Zip.{AllZip-long}
use Rattle.cts_geom.specs.Regions.{IsRegionInRange}
use Rattle.cts_postorder.specs.PostOrder.{trees_of}
use Rattle.cts_postorder.proofs.Growth.{length-trees_of}
use Rattle.cts_topo.specs.declared.shape.ShapeNode.{ShapeNode}
use Rattle.cts_topo.specs.Shape.{children}
use Rattle.cts_merge.specs.declared.side.Finished.{Finished}
use Rattle.cts_up.specs.declared.site.Site.{Site}
use Rattle.cts_up.specs.Plan.{IsFinished}
use Rattle.cts_up.specs.Sites.{AreSites, site_of}
use Rattle.cts_instance.specs.declared.parts.Parts.{Parts}
use Rattle.cts_instance.specs.Validity.{IsValid}
use Rattle.cts_embed.specs.Leaves.{IsLeafOf}
use Rattle.cts_embed.proofs.Stands.{leaf_at, region_at}

-- what is finished of the node of a number, by its site
pub record FinishedAt (parts : Parts) (nodes : List ShapeNode) (plan : List Finished) (k : ℕ) (site : Site) : Type 0 where
  pub node : Finished
  pub is_node : node ≡ get_or plan k node
  pub is_site : site_of node ≡ site
  pub is_leaf : (e : ShapeNode) → IsLeafOf parts.sinks (get_or nodes k e) node
  pub in_range : IsValid parts → IsRegionInRange site.region

module _ (parts : Parts) (nodes : List ShapeNode) (sites : List Site) (are : AreSites parts.params parts.sinks nodes sites) where
  abbrev plan : List Finished
  plan = are.0

  plan_long : length plan ≡ length nodes
  plan_long =
      AllZip-long (IsFinished parts.params parts.sinks) (trees_of children nodes) plan (are.1) ∙ length-trees_of children nodes

  pub sites_long : length sites ≡ length nodes
  sites_long = omega (arith, ap length (are.2), length-map plan site_of, plan_long)

  pub finished_at : (k : ℕ) → k < length nodes → (site : Site) → site ≡ get_or sites k site
      → FinishedAt parts nodes plan k site
  finished_at k h site site_is =
      let past_end : Finished = record {
        side = record { greatest = 0; load = 0; region = site.region };
        ea = 0;
        eb = 0;
        buffer = site.buffer;
      } in
      let within : k < length plan = omega (arith, h, plan_long) in
      let node : Finished = get_or plan k past_end in
      let is_node : node ≡ get_or plan k node = get_or_default plan k past_end node within in
      let is_site : site_of node ≡ site =
      sym (get_or-map site_of plan k past_end site within) ∙ ap (λ xs. get_or xs k site) (sym (are.2)) ∙ sym site_is in
      record {
        node = node;
        is_node = is_node;
        is_site = is_site;
        is_leaf = λ e. leaf_at parts.params parts.sinks nodes plan (are.1) k node node e h is_node;
        in_range = λ valid. subst (λ (s : Site). IsRegionInRange s.region) is_site
            (region_at parts nodes plan valid (are.1) k node node h is_node);
      }
