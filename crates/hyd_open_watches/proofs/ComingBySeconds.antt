-- Watched levels that may have been reached by a second, by the first second at which one may be.
use Rattle.std.proofs.Common.{◌≡◌, inl, inr, ℕ, ◌+◌, subst, arith}
use Rattle.std.specs.Prelude.{Some, slice_get, nat_le, IsTrue, ◌↔◌}
use Rattle.std.proofs.lemmas.Bool.{leb-true, le-leb}
use Rattle.hyd_spec.specs.ProgramTypes.{Project, Tank}
use Rattle.hyd_spec.specs.Tank.{walls_of}
use Rattle.hyd_spec_certificates.specs.Interval.{Interval}
use Rattle.hyd_spec_certificates.specs.Stocks.{Stocks, may_reach}
use Rattle.hyd_spec_certificates.specs.FirstSeconds.{IsFirstSecond}
use Rattle.hyd_spec_certificates.specs.Decided.{Watch}
use Rattle.hyd_lemmas.proofs.ListsOptionsAndResults.{same_some}
use Rattle.hyd_period_facts.specs.declared.facts.Facts.{Facts}
use Rattle.hyd_period_facts.specs.FactsBeforeEnd.{stocks_in, inflow_in}
use Rattle.hyd_open_watches.specs.Candidates.{ComesBy}

pub comes_first : (project : Project) (facts : Facts) (latest second : ℕ) (watch : Watch) (tank : Tank)
    (stocks : Stocks) (inflow : Interval)
    → slice_get project.tanks.list watch.tank ≡ Some tank → stocks ≡ stocks_in facts watch.tank
    → inflow ≡ inflow_in facts watch.tank
    → IsFirstSecond (may_reach (walls_of project tank) tank stocks inflow watch.target watch.rising) (latest + 1) second
    → IsTrue (nat_le second latest) ↔ ComesBy project facts latest watch
comes_first project facts latest second watch tank stocks inflow at are is given = (there, back)
  where
    first : IsFirstSecond (may_reach (walls_of project tank) tank (stocks_in facts watch.tank)
        (inflow_in facts watch.tank) watch.target watch.rising) (latest + 1) second
    first = subst (λ (s : Stocks). IsFirstSecond (may_reach (walls_of project tank) tank s
        (inflow_in facts watch.tank) watch.target watch.rising) (latest + 1) second) are
        (subst (λ (q : Interval). IsFirstSecond (may_reach (walls_of project tank) tank stocks q
        watch.target watch.rising) (latest + 1) second) is given)

    there : IsTrue (nat_le second latest) → ComesBy project facts latest watch
    there t =
        let early = leb-true second latest t in
        elim first.holds [
          | inl last ↦ absurd (omega (arith, early, last))
          | inr reached ↦ record {
            second = second;
            some = reached.0;
            in_time = early;
            tank = tank;
            is_tank = at;
            reached = reached.1;
          }
        ]

    back : ComesBy project facts latest watch → IsTrue (nat_le second latest)
    back comes =
        let e = same_some (slice_get project.tanks.list watch.tank) comes.tank tank comes.is_tank at in
        let l = first.least comes.second (inr (
          comes.some,
          subst (λ (t : Tank). IsTrue (may_reach (walls_of project t) t
              (stocks_in facts watch.tank) (inflow_in facts watch.tank) watch.target watch.rising comes.second)) e
              comes.reached,
        )) in
        let m = comes.in_time in
        le-leb second latest (omega (arith, l, m))
