use Rattle.tables.proofs.Values.{in_order}
use mathlib.Core.Path.{refl}
use Rattle.tables.proofs.tabulate.Goals as goal

pub fill-requires : goal.fill-requires
fill-requires c = record {
  ready = record {
    passed = c.requires.parts_value;
    in_order = in_order _ _ _ _ _ c.requires.matrix c.ranks-ranks.ensures c.order-n.ensures c.order-n.result refl;
    complements = c.flips.ensures;
    pins = c.requires.pins;
    small = c.requires.o_bound;
  };
  size_in_bounds = c.requires.size_in_bounds;
}
