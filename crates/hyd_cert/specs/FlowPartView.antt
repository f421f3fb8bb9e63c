-- The part of a record with the vectors of named links, as the program keeps it, as the definitions see it.
use Rattle.std.specs.Prelude.{List, map, take}
use Rattle.hyd_spec_flows.specs.FlowParts.{NamedLink, FlowPart as Part}
use Rattle.hyd_cert.specs.VectorsOfRecord.{two_vectors}
use Rattle.hyd_cert.specs.declared.named_vectors.NamedVectors.{NamedVectors}
use Rattle.hyd_cert.specs.declared.flow_part.FlowPart.{FlowPart}

-- A named link and its vectors.
abbrev pub named_of : NamedVectors → NamedLink
named_of named = record { link = named.link; held = two_vectors named.junctions named.heads.list }

-- Those of some.
abbrev pub links_in : List NamedVectors → Part
links_in named = map named_of named

-- The links that are named, in order.
abbrev pub part_of : FlowPart → Part
part_of part = links_in (take part.count part.named.list)
