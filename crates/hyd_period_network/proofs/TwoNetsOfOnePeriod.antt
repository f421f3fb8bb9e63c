-- Two nets of one period answer alike.
use Rattle.std.proofs.Common.{◌≡◌, ℕ, ◌<◌, pos, List, length, map, Option, None, Some, slice_get, slice_index_or}
use Rattle.std.proofs.Common.{IfSome, sym, ap, subst, ◌∙◌, arith}
use Rattle.std.specs.Option.{option_map, option_map_or}
use Rattle.std.proofs.lemmas.Option.{slice_get-map, slice_get-get_or, slice_get_within}
use Rattle.hyd_spec.specs.ProgramTypes.{Project, LinkState}
use Rattle.hyd_spec.specs.declared.TankState.{TankState}
use Rattle.hyd_spec.specs.Law.{Law, Shut}
use Rattle.hyd_spec_certificates.specs.SpansAsIntervals.{levels_of}
use Rattle.hyd_spec_certificates.specs.EnclosingFunctions.{DemandLaw, Fixed, demand_low, demand_high}
use Rattle.hyd_spec_certificates.specs.PeriodNetwork.{Grid, GridLink, GridJunction}
use Rattle.hyd_spec_certificates.specs.NetOutflow.{margin}
use Rattle.hyd_spec_certificates.specs.declared.LevelSpan.{LevelSpan}
use Rattle.hyd_law.specs.declared.link_law_kinds.LinkLaw.{LinkLaw}
use Rattle.hyd_law.specs.declared.demand_law_kinds.OutLaw.{OutLaw}
use Rattle.hyd_law.specs.DemandLaws.{IsSoundOut}
use Rattle.hyd_period_network.specs.declared.junctions_ends_and_settings.Ends.{Ends}
use Rattle.hyd_period_network.specs.NetView.{NetView}
use Rattle.hyd_period_network.specs.Demands.{demand_of_law}
use Rattle.hyd_period_network.specs.ExactLaw.{exact_law}
use Rattle.hyd_period_network.specs.LawsInSettings.{Stands}
use Rattle.hyd_period_network.specs.NetAsPeriodNetwork.{grid_of, states_of, own_laws}
use Rattle.hyd_period_network.specs.SoundNets.{IsSoundNet, IsSoundDemand}
use Rattle.hyd_period_network.specs.LinkEnds.{ties_from}
use Rattle.hyd_period_network.specs.NetsSetToPeriods.{IsNetOf, IsSetTo, PassAlike, GiveAlike, AnswerAlike, own_laws_of}
use Rattle.hyd_period_network.proofs.GridJunctionsAndLinks.{links_count, junctions_count}
use Rattle.hyd_period_network.proofs.SetNetIsGrid.{own_are}
use Rattle.hyd_period_network.proofs.DemandLawsInGrid.{demand_low_is, demand_high_is}
use Rattle.hyd_period_network.proofs.NetItemsInGrid.{law_at, own_at, demand_at, all_at}
use Rattle.hyd_theorems_on_definitions.proofs.OneGrid.{same_grid}

-- two laws that stand for one exact law
alike : (x y : LinkLaw) (exact : Law) → Stands x exact → Stands y exact → PassAlike x y
alike x y exact s t = record { low = λ d. s.low_is d ∙ sym (t.low_is d); high = λ d. s.high_is d ∙ sym (t.high_is d) }

-- what is so of an item is so, if it is there
of_item : {X : Type 0} (P Q : X → Type 0) (R : Type 0) (xs : List X) (k : ℕ) (d : X) → k < length xs
    → IfSome (slice_get xs k) P → IfSome (slice_get xs k) Q
    → ((x : X) → P x → Q x → R) → R
of_item {X} P Q R xs k d within p q f =
    let at = slice_get-get_or xs k d within in
    f (slice_index_or xs k d) (subst (λ (o : Option X). IfSome o P) at p) (subst (λ (o : Option X). IfSome o Q) at q)

nowhere : GridLink
nowhere = record { from = 0; to = 0; law = Shut }

laws_alike : (a b : NetView) → IsSoundNet a → IsSoundNet b → grid_of a ≡ grid_of b → (k : ℕ) (x y : LinkLaw)
    → slice_get a.laws k ≡ Some x → slice_get b.laws k ≡ Some y
    → PassAlike x y
laws_alike a b sa sb e k x y hx hy =
    let counts = links_count a.ends a.settings a.own sa.each_setting sa.each_own in
    let within = slice_get_within a.laws k x hx in
    let there : IfSome (slice_get (grid_of a).links k) (λ l. Stands y l.law) =
    subst (λ (g : Grid). IfSome (slice_get g.links k) (λ l. Stands y l.law)) (sym e) (law_at b k y sb hy) in
    of_item (λ (l : GridLink). Stands x l.law) (λ (l : GridLink). Stands y l.law) (PassAlike x y) (grid_of a).links k
    nowhere (omega (arith, counts, within, sa.each_law))
    (law_at a k x sa hx) there (λ l s t. alike x y l.law s t)

-- items at one place of lists that are the same after a map
same_item : {X Y : Type 0} (f : X → Y) (xs ys : List X) (k : ℕ) (x y : X) → map f xs ≡ map f ys
    → slice_get xs k ≡ Some x → slice_get ys k ≡ Some y → f x ≡ f y
same_item {X} {Y} f xs ys k x y e hx hy =
    let both : Some (f x) ≡ Some (f y) = sym (ap (option_map f) hx) ∙ sym (slice_get-map f xs k)
    ∙ ap (λ (zs : List Y). slice_get zs k) e ∙ slice_get-map f ys k ∙ ap (option_map f) hy in
    ap (λ (o : Option Y). option_map_or (λ (z : Y). z) o (f x)) both

own_alike : (a b : NetView) → IsSoundNet a → IsSoundNet b → own_laws a ≡ own_laws b → (k : ℕ) (x y : LinkLaw)
    → slice_get a.own k ≡ Some x → slice_get b.own k ≡ Some y
    → PassAlike x y
own_alike a b sa sb e k x y hx hy =
    let same = same_item exact_law a.own b.own k x y e hx hy in
    alike x y (exact_law x) (own_at a k x sa hx) (subst (Stands y) (sym same) (own_at b k y sb hy))

nothing : GridJunction
nothing = record { elevation = pos 0; demand = Fixed (pos 0); emitter = None }

demands_alike : (a b : NetView) → IsSoundNet a → IsSoundNet b → grid_of a ≡ grid_of b → (k : ℕ) (x y : OutLaw)
    → slice_get a.demands k ≡ Some x → slice_get b.demands k ≡ Some y
    → GiveAlike x y
demands_alike a b sa sb e k x y hx hy =
    let counts = junctions_count a.junctions a.demands sa.each_demand in
    let within = slice_get_within a.demands k x hx in
    let there : IfSome (slice_get (grid_of a).junctions k) (λ g. g.demand ≡ demand_of_law y) =
    subst (λ (g : Grid). IfSome (slice_get g.junctions k) (λ j. j.demand ≡ demand_of_law y)) (sym e)
    (demand_at b k y hy) in
    let same : demand_of_law x ≡ demand_of_law y =
    of_item (λ (j : GridJunction). j.demand ≡ demand_of_law x) (λ (j : GridJunction). j.demand ≡ demand_of_law y)
    (demand_of_law x ≡ demand_of_law y) (grid_of a).junctions k nothing
    (omega (arith, counts, within, sa.each_demand)) (demand_at a k x hx) there (λ j s t. sym s ∙ t) in
    let mine : IsSoundOut x = (all_at IsSoundDemand a.demands k x sa.demands hx).sound in
    let other : IsSoundOut y = (all_at IsSoundDemand b.demands k y sb.demands hy).sound in
    record {
      low = λ p. demand_low_is x mine p ∙ ap (λ (d : DemandLaw). demand_low d p) same ∙ sym (demand_low_is y other p);
      high = λ p. demand_high_is x mine p ∙ ap (λ (d : DemandLaw). demand_high d p) same
          ∙ sym (demand_high_is y other p);
    }

own_set : (project : Project) (net : NetView) (links : List LinkState) → IsNetOf project net → states_of net ≡ links
    → own_laws net ≡ own_laws_of project project.links.list links
own_set project net links of states =
    own_are project project.links.list net.settings net.own net.laws of.laws of.each_setting of.each_own of.each_law
    ∙ ap (own_laws_of project project.links.list) states

pub answer_alike : (project : Project) (time : ℕ) (levels : List LevelSpan) (tanks : List TankState)
    (links : List LinkState) (a b : NetView) → IsSoundNet a → IsSoundNet b
    → IsSetTo project time levels tanks links a → IsSetTo project time levels tanks links b → AnswerAlike a b
answer_alike project time levels tanks links a b sa sb x y =
    let grid = same_grid project time (map levels_of levels) tanks links (grid_of a) (grid_of b) x.grid y.grid in
    let own = own_set project a links x.of x.states ∙ sym (own_set project b links y.of y.states) in
    let ends = x.of.ends ∙ sym y.of.ends in
    record {
      grid = grid;
      states = x.states ∙ sym y.states;
      own_laws = own;
      own = own_alike a b sa sb own;
      laws = laws_alike a b sa sb grid;
      demands = demands_alike a b sa sb grid;
      margins = λ junction. ap (λ (g : Grid). margin g junction) grid;
      rows = λ node. ap (λ (es : List Ends). ties_from node 0 es) ends;
    }
