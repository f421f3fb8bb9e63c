-- Rows describe one network: any two of them are the same but for the spare of their lists.
use Rattle.std.proofs.Common.{◌≡◌, ℕ, List, sym, ap, ◌∙◌}
use Rattle.hyd_spec_lines.specs.Lines.{Row}
use Rattle.hyd_spec_lines.specs.declared.section.Section.TheVariants.{Junctions, Reservoirs, Tanks, Controls, Rules}
use Rattle.hyd_net.specs.ProjectAsCompared.{bare_list, compared_pattern}
use Rattle.hyd_net.specs.declared.nodes.Junction.{Junction}
use Rattle.hyd_net.specs.declared.rules.Rule.{Rule}
use Rattle.hyd_net.specs.declared.project.Project.{Project}
use Rattle.hyd_spec_input.specs.SectionsAndTables.{rows_of, words_of}
use Rattle.hyd_spec_input.specs.OptionsAndTimesInForce.{unit}
use Rattle.hyd_spec_input.specs.MeaningsAcrossRows.{emitter_of, pattern_ids, shape_names, bend_names, rule_groups}
use Rattle.hyd_spec_input.specs.MeaningsAcrossRows.{clause_lines, then_lines, else_lines}
use Rattle.hyd_spec_input.specs.Project as project_of
use Rattle.hyd_spec_input.specs.Project.{IsLink, IsClause, IsAction, numbered_links, shape_points, bend_points}
use Rattle.hyd_spec_input.specs.Project.{IsProject}
use Rattle.hyd_theorems_on_input.proofs.OneProject.{one_pattern, one_options, one_reservoir, one_times, one_action}
use Rattle.hyd_theorems_on_input.proofs.OneProject.{one_clause_at, one_control, one_emitter, one_link, one_tank}
use Rattle.hyd_theorems_on_input.proofs.MatchedLists.{one_image, one_list}
use Rattle.hyd_theorems_on_rereading.specs.WithoutSpare.{bare_junction, bare_rule, bare_project}

-- ---- nodes

one_junction : (rows : List Row) (row : Row) (j k : Junction) → project_of.IsJunction rows row j
    → project_of.IsJunction rows row k → bare_junction j ≡ bare_junction k
one_junction rows row j k f g =
    let elevation = f.elevation ∙ sym g.elevation in
    let demands = f.demands ∙ sym g.demands in
    let emitter = one_emitter (unit rows) (emitter_of rows row) j.emitter k.emitter f.emitter g.emitter in
    λ i. record { elevation = elevation i; demands = record { list = demands i; spare = 0 }; emitter = emitter i }

-- ---- rules

one_rule : (rows : List Row) (group : List (List (List ℕ))) (r s : Rule) → project_of.IsRule rows group r
    → project_of.IsRule rows group s → bare_rule r ≡ bare_rule s
one_rule rows group r s f g =
    let id = f.id ∙ sym g.id in
    let clauses = one_list (IsClause rows) (clause_lines group) r.clauses.list s.clauses.list
    (λ words c d x y. one_clause_at rows _ words c d x y) f.clauses g.clauses in
    let actions = one_list (IsAction rows) (then_lines group) r.yes.list s.yes.list (one_action rows)
    f.yes
    g.yes in
    let otherwise = one_list (IsAction rows) (else_lines group) r.no.list s.no.list (one_action rows) f.no
    g.no in
    let priority = f.priority ∙ sym g.priority in
    λ i. record {
      id = record { list = id i; spare = 0 };
      clauses = record { list = clauses i; spare = 0 };
      yes = record { list = actions i; spare = 0 };
      no = record { list = otherwise i; spare = 0 };
      priority = priority i;
    }

-- ---- all of it

pub one_network : (rows : List Row) (p q : Project) → IsProject rows p → IsProject rows q
    → bare_project p ≡ bare_project q
one_network rows p q f g =
    let options = one_options rows p.options q.options f.options g.options in
    let times = one_times rows p.times q.times f.times g.times in
    let node_ids = f.node_ids_are ∙ sym g.node_ids_are in
    let link_ids = f.link_ids_are ∙ sym g.link_ids_are in
    let junctions = one_image (project_of.IsJunction rows) bare_junction (rows_of Junctions rows) p.junctions.list
    q.junctions.list (one_junction rows) f.junctions g.junctions in
    let reservoirs = one_list (project_of.IsReservoir rows) (rows_of Reservoirs rows) p.reservoirs.list
    q.reservoirs.list
    (one_reservoir rows) f.reservoirs g.reservoirs in
    let tanks = one_list (project_of.IsTank rows) (rows_of Tanks rows) p.tanks.list q.tanks.list
    (one_tank rows) f.tanks g.tanks in
    let links = one_list (IsLink rows) (numbered_links rows) p.links.list q.links.list (one_link rows)
    f.links g.links in
    let patterns = one_image (project_of.IsPattern rows) compared_pattern (pattern_ids rows) p.patterns.list
    q.patterns.list (one_pattern rows) f.patterns g.patterns in
    let shapes = one_image (λ name list. list.list ≡ shape_points rows name) bare_list (shape_names rows)
    p.shapes.list q.shapes.list (λ name a b x y. ap (λ xs. record { list = xs; spare = 0 }) (x ∙ sym y)) f.shapes
    g.shapes in
    let bends = one_image (λ name list. list.list ≡ bend_points rows name) bare_list (bend_names rows) p.bends.list
    q.bends.list (λ name a b x y. ap (λ xs. record { list = xs; spare = 0 }) (x ∙ sym y)) f.bends g.bends in
    let controls = one_list (project_of.IsControl rows) (words_of Controls rows) p.controls.list
    q.controls.list (one_control rows) f.controls g.controls in
    let rules = one_image (project_of.IsRule rows) bare_rule (rule_groups (words_of Rules rows)) p.rules.list
    q.rules.list
    (one_rule rows) f.rules g.rules in
    λ i. record {
      options = options i;
      times = times i;
      node_ids = node_ids i;
      link_ids = link_ids i;
      junctions = record { list = junctions i; spare = 0 };
      reservoirs = record { list = reservoirs i; spare = 0 };
      tanks = record { list = tanks i; spare = 0 };
      links = record { list = links i; spare = 0 };
      patterns = record { list = patterns i; spare = 0 };
      shapes = record { list = shapes i; spare = 0 };
      bends = record { list = bends i; spare = 0 };
      controls = record { list = controls i; spare = 0 };
      rules = record { list = rules i; spare = 0 };
    }
