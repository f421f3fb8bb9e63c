use Rattle.hyd_inp.proofs.IdsInTheirOrder.{apart_or_of_table}
use Rattle.hyd_spec_input.specs.MeaningsAcrossRows.{node_ids, link_ids}
use Rattle.hyd_inp.proofs.numbered_names.NumberedApart.numbers.Goals as goal

pub returns : goal.returns
returns c = λ rows apart. record {
  nodes = apart_or_of_table c.args.self.now.nodes c.args.tables.now.nodes.names (node_ids rows)
      c.or_of_table.result.now c.or_of_table.ensures.some c.or_of_table.ensures.none apart.nodes
      apart.nodes_of_table;
  tanks = apart.tanks;
  links = apart_or_of_table c.args.self.now.links c.args.tables.now.links.names (link_ids rows)
      c.or_of_table-2.result.now c.or_of_table-2.ensures.some c.or_of_table-2.ensures.none apart.links
      apart.links_of_table;
  patterns = apart.patterns;
}
