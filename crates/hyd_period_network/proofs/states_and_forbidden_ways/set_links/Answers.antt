use Rattle.std.proofs.Common.{ℕ, ◌<◌, List, length, map, slice_index_or, subst, sym, ap, ◌∙◌, rules, arith}
use Rattle.std.proofs.lemmas.List.{get_or-map, length-map}
use Rattle.hyd_spec.specs.NodeNumbers.{nodes_before_tanks}
use Rattle.hyd_spec.specs.ProgramTypes.{Link, LinkState}
use Rattle.hyd_period_network.specs.BothLaws.{AreFree}
use Rattle.hyd_period_network.specs.NetsSetToPeriods.{ends_of}
use Rattle.hyd_period_network.specs.declared.both_laws.BothLaws.{BothLaws}
use Rattle.hyd_period_network.specs.declared.junctions_ends_and_settings.Ends.{Ends}
use Rattle.hyd_lemmas.proofs.ListsOptionsAndResults.{any_default}
use Rattle.hyd_period_network.specs.declared.junctions_ends_and_settings.Setting.{Setting}
use Rattle.hyd_period_network.proofs.LawsOfBoth.{unforbidden}
use Rattle.hyd_period_network.specs.LawsInSettings.{AreBoth, CanStand}
use Rattle.hyd_period_network.proofs.OneLinkSet.{both_set, free_set, sets_more}
use Rattle.hyd_period_network.proofs.LinksInStates.{standing_of}
use Rattle.hyd_period_network.proofs.states_and_forbidden_ways.set_links.Goals as goal

pub loop-i-init : goal.loop-i-init
loop-i-init c =
    let n = ap length c.as_slice-links.ensures in
    record {
      settings = omega (arith, n, c.requires.each_setting);
      laws = omega (arith, n, c.requires.each_law);
      stand = subst (λ (ls : List Link). AreBoth c.args.project.now ls c.args.settings.now c.args.laws.now)
          (sym c.as_slice-links.ensures) c.requires.stand;
      free = subst (λ (ls : List Link). AreFree (nodes_before_tanks c.args.project.now) (map ends_of ls)
          c.args.laws.now) (sym c.as_slice-links.ensures) c.requires.free;
      set = λ k link state setting h. absurd (omega arith);
    }

pub set_link-requires-clause-can : goal.set_link-requires-clause-can
set_link-requires-clause-can c =
    let all : (k : ℕ) (link : Link) (state : LinkState) → k < length c.as_slice-links.result.now
    → CanStand c.args.project.now (slice_index_or c.as_slice-links.result.now k link).kind
    (slice_index_or c.args.states.now k state) =
    subst (λ (ls : List Link). (k : ℕ) (link : Link) (state : LinkState) → k < length ls
    → CanStand c.args.project.now (slice_index_or ls k link).kind (slice_index_or c.args.states.now k state))
    (sym c.as_slice-links.ensures) (standing_of c.args.project.now c.args.states.now c.requires.sound
    c.requires.states) in
    subst (λ (q : LinkState). CanStand c.args.project.now (slice_index_or c.as_slice-links.result.now c.loop-i.i
    c.index-links-i-in-loop-i.result).kind q) (sym (ap (λ (x : Setting). x.state) c.setting_of-wanted.ensures
    ∙ c.index-states-i.is))
    (all c.loop-i.i c.index-links-i-in-loop-i.result c.index-states-i.result (omega arith))

pub set_link-requires-clause-free : goal.set_link-requires-clause-free
set_link-requires-clause-free c = λ none.
    let project = c.args.project.now in
    let tanks = c.args.tanks.now in
    let links = c.as_slice-links.result.now in
    let link = slice_index_or links c.loop-i.i c.index-links-i.result in
    let at = get_or-map ends_of links c.loop-i.i c.index-links-i.result (ends_of c.index-links-i.result)
    (omega arith) in
    let here = c.loop-i.invariant.free c.loop-i.i (ends_of c.index-links-i.result) c.index-laws-i.result
    (omega (arith, length-map links ends_of)) (search rules) in
    let from : link.from < nodes_before_tanks project =
    subst (λ (e : Ends). e.from < nodes_before_tanks project) at here.0 in
    let to : link.to < nodes_before_tanks project =
    subst (λ (e : Ends). e.to < nodes_before_tanks project) at here.1 in
    let ways = unforbidden project tanks c.index-links-i.result (search rules) (search rules) in (
      ap (λ (s : Setting). s.no_forward) c.setting_of-wanted.ensures ∙ ways.0,
      ap (λ (s : Setting). s.no_reverse) c.setting_of-wanted.ensures ∙ ways.1,
    )

pub loop-i-preserved : goal.loop-i-preserved
loop-i-preserved c = record {
  settings = search rules;
  laws = search rules;
  stand = both_set c.args.project.now c.as_slice-links.result.now c.loop-i.settings c.loop-i.laws
      c.loop-i.i c.set_link.new.setting c.set_link.new.laws
      c.index-links-i-in-loop-i.result c.loop-i.invariant.stand (omega arith) (omega arith) (omega arith)
      c.set_link.ensures.stand;
  free = free_set (nodes_before_tanks c.args.project.now) (map ends_of c.as_slice-links.result.now) c.loop-i.laws
      c.loop-i.i c.set_link.new.laws c.loop-i.invariant.free (omega arith) (λ both.
      let same = ap (λ (x : BothLaws). length x.between.items) (any_default c.loop-i.laws c.loop-i.i
      c.index-laws-i.result both (omega arith)) in
      omega (arith, c.set_link.ensures.count, same));
  set = sets_more c.args.project.now c.args.tanks.now c.as_slice-links.result.now c.args.states.now c.loop-i.settings
      c.loop-i.i c.set_link.new.setting c.index-links-i.result c.index-states-i.result
      c.loop-i.invariant.set (omega arith) (omega arith) (omega arith) c.index-links-i.is c.index-states-i.is
      (c.set_link.ensures.set ∙ c.setting_of-wanted.ensures);
}

pub returns-clause-stand : goal.returns-clause-stand
returns-clause-stand c =
    subst (λ (ls : List Link). AreBoth c.args.project.now ls c.loop-i.settings c.loop-i.laws)
    c.as_slice-links.ensures c.loop-i.invariant.stand

pub returns-clause-free : goal.returns-clause-free
returns-clause-free c =
    subst (λ (ls : List Link). AreFree (nodes_before_tanks c.args.project.now) (map ends_of ls) c.loop-i.laws)
    c.as_slice-links.ensures c.loop-i.invariant.free
