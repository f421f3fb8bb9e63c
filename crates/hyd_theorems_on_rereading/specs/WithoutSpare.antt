-- A network without the spare of its lists. Two readings of one text differ in nothing else.
-- Source: this program's.
use Rattle.hyd_net.specs.ProjectAsCompared.{bare_list, compared_list, compared_pattern}
use Rattle.hyd_spec.specs.ProgramTypes.{Project, Junction, Rule}

-- a junction whose list of demands has no spare
abbrev pub bare_junction : Junction → Junction
bare_junction j = record j { demands = bare_list j.demands }

-- a rule whose lists have no spare
abbrev pub bare_rule : Rule → Rule
bare_rule r = record {
  id = bare_list r.id;
  clauses = bare_list r.clauses;
  yes = bare_list r.yes;
  no = bare_list r.no;
  priority = r.priority;
}

-- a network whose lists, and the lists in them, have no spare; all its numbers stay
abbrev pub bare_project : Project → Project
bare_project p =
    record {
      options = p.options;
      times = p.times;
      node_ids = p.node_ids;
      link_ids = p.link_ids;
      junctions = compared_list bare_junction p.junctions;
      reservoirs = bare_list p.reservoirs;
      tanks = bare_list p.tanks;
      links = bare_list p.links;
      patterns = compared_list compared_pattern p.patterns;
      shapes = compared_list bare_list p.shapes;
      bends = compared_list bare_list p.bends;
      controls = bare_list p.controls;
      rules = compared_list bare_rule p.rules;
    }
