use Rattle.std.proofs.Common.{◌≡◌, ℕ, ◌+◌, pos, length, map, subst, ap, sym, ◌∙◌, arith}
use Rattle.std.proofs.lemmas.List.{length-map}
use Rattle.hyd_spec.specs.NodeNumbers.{nodes_before_tanks}
use Rattle.std.specs.List.{AllZip}
use Rattle.std.proofs.lemmas.Int.{ints}
use Rattle.hyd_net.specs.NumberRanges.{IsHead}
use Rattle.hyd_spec.specs.ProgramTypes.{Junction}
use Rattle.std.specs.Prelude.{List}
use Rattle.hyd_law.specs.declared.demand_law_kinds.OutLaw.{OutLaw}
use Rattle.hyd_law.specs.declared.demand_law_kinds.OutLaw.TheVariants.{Fixed}
use Rattle.hyd_spec_certificates.specs.declared.LevelSpan.{LevelSpan}
use Rattle.hyd_period_network.specs.declared.junctions_ends_and_settings.Ends.{Ends}
use Rattle.hyd_period_network.specs.NetView.{NetView}
use Rattle.hyd_period_network.specs.Demands.{IsNetJunction, IsHeld}
use Rattle.hyd_period_network.specs.LawsInSettings.{closed_setting}
use Rattle.hyd_period_network.specs.SoundNets.{AreHeads}
use Rattle.hyd_period_network.specs.NetsSetToPeriods.{ends_of, IsNetOf, IsFresh}
use Rattle.hyd_period_network.specs.BothLaws.{own_of, law_of, AreFree}
use Rattle.hyd_period_network.specs.LinkEnds.{AreRows}
use Rattle.hyd_period_network.proofs.ClosedLaws.{closed_stand}
use Rattle.hyd_period_network.proofs.DemandLawsInGrid.{nothing_held}
use Rattle.hyd_period_network.proofs.LawsOfBoth.{laws_of_both}
use Rattle.hyd_period_network.proofs.NetOfSoundProject.{sound_net, long_zipped}
use Rattle.hyd_period_network.proofs.ListsItemByItem.{all_copies, count_copies}
use Rattle.hyd_period_network.proofs.net.Net.open.Goals as goal

abbrev nothing : OutLaw
nothing = Fixed (record { demand = pos 0 })

abbrev nowhere : LevelSpan
nowhere = record { lo = pos 0; hi = pos 0 }

abbrev new : goal.In_ok-rows → NetView
new c = record {
  junctions = c.in_ok-junctions.junctions.items;
  demands = c.in_ok-demands.demands.items;
  reservoirs = c.in_ok-reservoirs.reservoirs.items;
  tanks = c.in_ok-tanks.tanks.items;
  ends = c.in_ok-ends.ends.items;
  settings = c.in_ok-settings.settings.items;
  own = map own_of c.in_ok-laws.laws.items;
  laws = map law_of c.in_ok-laws.laws.items;
}

fresh : (c : goal.In_ok-rows) → IsFresh (new c)
fresh c = record {
  links = all_copies c.len-4.result closed_setting c.in_ok-settings.settings.items c.in_ok-settings.ensures;
  demands = all_copies c.len.result nothing c.in_ok-demands.demands.items c.in_ok-demands.ensures;
  reservoirs = all_copies c.len-2.result (pos 0) c.in_ok-reservoirs.reservoirs.items c.in_ok-reservoirs.ensures;
  tanks = all_copies c.len-3.result nowhere c.in_ok-tanks.tanks.items c.in_ok-tanks.ensures;
}

of : (c : goal.In_ok-rows) → IsNetOf c.args.project.now (new c)
of c = record {
  ends = c.in_ok-ends.ensures ∙ ap (map ends_of) c.as_slice-2.ensures;
  junctions = subst (λ (js : List Junction). AllZip IsNetJunction js c.in_ok-junctions.junctions.items)
      c.as_slice.ensures c.in_ok-junctions.ensures;
  each_demand = count_copies c.len.result nothing c.in_ok-demands.demands.items c.in_ok-demands.ensures ∙ c.len.ensures;
  each_reservoir = count_copies c.len-2.result (pos 0) c.in_ok-reservoirs.reservoirs.items c.in_ok-reservoirs.ensures
      ∙ c.len-2.ensures;
  each_tank = count_copies c.len-3.result nowhere c.in_ok-tanks.tanks.items c.in_ok-tanks.ensures ∙ c.len-3.ensures;
  each_setting = count_copies c.len-4.result closed_setting c.in_ok-settings.settings.items c.in_ok-settings.ensures
      ∙ c.len-4.ensures;
  each_own = length-map c.in_ok-laws.laws.items own_of ∙ c.in_ok-laws.ensures.count;
  each_law = length-map c.in_ok-laws.laws.items law_of ∙ c.in_ok-laws.ensures.count;
  demands = λ k law h. subst (IsHeld c.args.project.now) (sym ((fresh c).demands k law h))
      (nothing_held c.args.project.now);
  laws = laws_of_both c.args.project.now c.args.project.now.links.list c.in_ok-settings.settings.items
      c.in_ok-laws.laws.items c.in_ok-laws.ensures.count (closed_stand c.args.project.now
      c.args.project.now.links.list c.in_ok-settings.settings.items
      c.in_ok-laws.laws.items c.in_ok-laws.ensures.closed
      (λ k s h. (fresh c).links k s (omega (
        arith,
        h,
        count_copies c.len-4.result closed_setting
            c.in_ok-settings.settings.items c.in_ok-settings.ensures,
        c.len-4.ensures,
      ))));
}

zero_head : IsHead (pos 0)
zero_head = record { at_least = omega (arith, ints); at_most = omega (arith, ints) }

free : (c : goal.In_ok-rows) → AreFree (length c.in_ok-junctions.junctions.items
    + length c.in_ok-reservoirs.reservoirs.items) c.in_ok-ends.ends.items c.in_ok-laws.laws.items
free c =
    let j = long_zipped IsNetJunction c.args.project.now.junctions.list c.in_ok-junctions.junctions.items
    (of c).junctions in
    let e : map ends_of c.args.project.now.links.list ≡ c.in_ok-ends.ends.items = sym (of c).ends in
    let n : nodes_before_tanks c.args.project.now ≡ length c.in_ok-junctions.junctions.items
    + length c.in_ok-reservoirs.reservoirs.items = omega (arith, j, (of c).each_reservoir) in
    subst (λ (m : ℕ). AreFree m c.in_ok-ends.ends.items c.in_ok-laws.laws.items) n
    (subst (λ (es : List Ends). AreFree (nodes_before_tanks c.args.project.now) es c.in_ok-laws.laws.items) e
    c.in_ok-laws.ensures.free)

pub returns-clause-of : goal.returns-clause-of
returns-clause-of c = of c

pub returns-clause-fresh : goal.returns-clause-fresh
returns-clause-fresh c = fresh c

pub invariant_of-result : goal.invariant_of-result
invariant_of-result c = (
  sound_net c.args.project.now (new c) c.requires (of c)
      (λ k d h. subst IsHead (sym ((fresh c).reservoirs k d h)) zero_head)
      (λ k d h. subst AreHeads (sym ((fresh c).tanks k d h)) (record { lo = zero_head; hi = zero_head })),
  (
    record {
      count = c.in_ok-rows.ensures.count ∙ omega (arith, c.len-5.ensures, c.len-6.ensures, c.len-7.ensures);
      are_rows = subst (λ (es : List Ends). AreRows es c.in_ok-rows.rows.items) c.deref.ensures.value
          c.in_ok-rows.ensures.each;
    },
    free c,
  ),
)
