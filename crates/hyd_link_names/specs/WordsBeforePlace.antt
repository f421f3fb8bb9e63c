-- The line of a name that is refused, up to the place of the name.
use Rattle.std.specs.Prelude.{ℕ, List, codes}
use Rattle.hyd_spec_named_links.specs.declared.NameFails.{NameFails}
use Rattle.hyd_spec_named_links.specs.declared.NameFails.TheVariants.{NoLink, NotBetweenJunctions}

abbrev pub words_before_place : NameFails → List ℕ
words_before_place NoLink = codes "REFUSED line 0 cause 5 detail "
words_before_place NotBetweenJunctions = codes "REFUSED line 0 cause 3 detail "
