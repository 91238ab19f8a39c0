use mathlib.Core.Path.{◌∙◌}
use Rattle.trees.specs.Layout.{elements_of}
use Rattle.outmap.proofs.Turns.{facts_are, few_counts, map_is, after_fine}
use Rattle.outmap.proofs.map_outputs.Goals as goal

pub write_facts-requires-clause-few : goal.write_facts-requires-clause-few
write_facts-requires-clause-few c = few_counts (elements_of c.args.parts.now) _ c.in_ok-cells.ensures.cells.counts_are

pub returns-clause-map_after : goal.returns-clause-map_after
returns-clause-map_after c =
    let f = c.in_ok-cells.ensures.cells in
    after_fine _ _ _ _ c.in_ok-cells.ensures.result_value (c.write_map.ensures ∙ map_is (elements_of c.args.parts.now) _ _ _ _ f.masks_are f.counts_are f.kinds_are f.s0s_are)

pub returns-clause-facts_after : goal.returns-clause-facts_after
returns-clause-facts_after c =
    let f = c.in_ok-cells.ensures.cells in
    after_fine _ _ _ _ c.in_ok-cells.ensures.result_value (c.write_facts.ensures ∙ facts_are (elements_of c.args.parts.now) _ _ f.masks_are f.counts_are)
