-- How links are kept.
use Rattle.std.specs.Prelude.{List}
use Rattle.tb_model.specs.Units.{PairValue}
use Rattle.tb_units.specs.declared.links.Form.{Form}
use Rattle.tb_units.specs.declared.links.Form.TheVariants.{Slots, Pairs}

-- the links, in either form
abbrev pub links_in : Form → List PairValue
links_in (Slots links) = links
links_in (Pairs links) = links
