use Rattle.std.proofs.Common.{subst}
use Rattle.hyd_law.specs.declared.link_law_kinds.LinkLaw.{LinkLaw}
use Rattle.hyd_law.specs.declared.link_law_kinds.LinkLaw.TheVariants.{QuadOneWay, LinearOneWay, Pump, LimitOneWay}
use Rattle.hyd_law.specs.declared.link_law_kinds.LinkLaw.TheVariants.{LinearLimitOneWay, PowerOneWay}
use Rattle.hyd_period_network.specs.LawsInSettings.{Stands}
use Rattle.hyd_period_network.proofs.LawsStandForExactLaws.{still_shut, quad_one_way, linear_one_way, limit_one_way}
use Rattle.hyd_period_network.proofs.LawsStandForExactLaws.{linear_limit_one_way, power_one_way, power_again}
use Rattle.hyd_period_network.proofs.LawsStandForExactLaws.{quad_again, linear_again, pump_again, limit_again}
use Rattle.hyd_period_network.proofs.LawsStandForExactLaws.{linear_limit_again}
use Rattle.hyd_period_network.proofs.LawsStandForExactLaws.{shut_one_way, against, against_least, against_most}
use Rattle.hyd_period_network.proofs.LawsStandForExactLaws.{bent_one_way}
use Rattle.hyd_period_network.proofs.laws.one_way.Goals as goal

pub returns-in-Shut-clause-stands : goal.returns-in-Shut-clause-stands
returns-in-Shut-clause-stands c of s = still_shut c.args.forward c.in-Shut.law
    of (subst (λ (l : LinkLaw). Stands l of) c.in-Shut.is s)

pub returns-in-Quad-clause-stands : goal.returns-in-Quad-clause-stands
returns-in-Quad-clause-stands c of s = quad_one_way c.args.forward c.in-Quad.inner
    of (subst (λ (l : LinkLaw). Stands l of) c.in-Quad.is s)

pub returns-in-Linear-clause-stands : goal.returns-in-Linear-clause-stands
returns-in-Linear-clause-stands c of s = linear_one_way c.args.forward c.in-Linear.inner
    of (subst (λ (l : LinkLaw). Stands l of) c.in-Linear.is s)

pub returns-in-Limit-clause-stands : goal.returns-in-Limit-clause-stands
returns-in-Limit-clause-stands c of s = limit_one_way c.args.forward c.in-Limit.inner
    of (subst (λ (l : LinkLaw). Stands l of) c.in-Limit.is s)

pub returns-in-LinearLimit-clause-stands : goal.returns-in-LinearLimit-clause-stands
returns-in-LinearLimit-clause-stands c of s = linear_limit_one_way c.args.forward c.in-LinearLimit.inner
    of (subst (λ (l : LinkLaw). Stands l of) c.in-LinearLimit.is s)

pub returns-in-Power-clause-stands : goal.returns-in-Power-clause-stands
returns-in-Power-clause-stands c of s = power_one_way c.args.forward c.in-Power.inner
    of (subst (λ (l : LinkLaw). Stands l of) c.in-Power.is s)

pub returns-then-is_same_way-clause-stands : goal.returns-then-is_same_way-clause-stands
returns-then-is_same_way-clause-stands c of s = quad_again c.args.forward c.in-QuadOneWay.law
    of c.if-is_same_way.ensures.same (subst (λ (l : LinkLaw). Stands l of) c.in-QuadOneWay.is s)

pub returns-else-is_same_way-clause-stands : goal.returns-else-is_same_way-clause-stands
returns-else-is_same_way-clause-stands c of s = shut_one_way c.args.forward (QuadOneWay c.in-QuadOneWay.law)
    (record {}) of (λ S x a. against_least c.in-QuadOneWay.law.forward c.args.forward _ S x a
    c.if-is_same_way.ensures.opposite) (λ S x a. against_most c.in-QuadOneWay.law.forward c.args.forward _ S x a
    c.if-is_same_way.ensures.opposite) (λ d. against c.in-QuadOneWay.law.forward c.args.forward _
    c.if-is_same_way.ensures.opposite) (λ d. against c.in-QuadOneWay.law.forward c.args.forward _
    c.if-is_same_way.ensures.opposite) (subst (λ (l : LinkLaw). Stands l of) c.in-QuadOneWay.is s)

pub returns-then-is_same_way-2-clause-stands : goal.returns-then-is_same_way-2-clause-stands
returns-then-is_same_way-2-clause-stands c of s = linear_again c.args.forward c.in-LinearOneWay.law
    of c.if-is_same_way-2.ensures.same (subst (λ (l : LinkLaw). Stands l of) c.in-LinearOneWay.is s)

pub returns-else-is_same_way-2-clause-stands : goal.returns-else-is_same_way-2-clause-stands
returns-else-is_same_way-2-clause-stands c of s = shut_one_way c.args.forward (LinearOneWay c.in-LinearOneWay.law)
    (record {}) of (λ S x a. against_least c.in-LinearOneWay.law.forward c.args.forward _ S x a
    c.if-is_same_way-2.ensures.opposite) (λ S x a. against_most c.in-LinearOneWay.law.forward c.args.forward _ S x a
    c.if-is_same_way-2.ensures.opposite) (λ d. against c.in-LinearOneWay.law.forward c.args.forward _
    c.if-is_same_way-2.ensures.opposite) (λ d. against c.in-LinearOneWay.law.forward c.args.forward _
    c.if-is_same_way-2.ensures.opposite) (subst (λ (l : LinkLaw). Stands l of) c.in-LinearOneWay.is s)

pub returns-then-is_same_way-3-clause-stands : goal.returns-then-is_same_way-3-clause-stands
returns-then-is_same_way-3-clause-stands c of s = pump_again c.args.forward c.in-Pump.law
    of c.if-is_same_way-3.ensures.same (subst (λ (l : LinkLaw). Stands l of) c.in-Pump.is s)

pub returns-else-is_same_way-3-clause-stands : goal.returns-else-is_same_way-3-clause-stands
returns-else-is_same_way-3-clause-stands c of s = shut_one_way c.args.forward (Pump c.in-Pump.law) (record {})
    of (λ S x a. against_least c.in-Pump.law.forward c.args.forward _ S x a c.if-is_same_way-3.ensures.opposite)
    (λ S x a. against_most c.in-Pump.law.forward c.args.forward _ S x a c.if-is_same_way-3.ensures.opposite)
    (λ d. against c.in-Pump.law.forward c.args.forward _ c.if-is_same_way-3.ensures.opposite)
    (λ d. against c.in-Pump.law.forward c.args.forward _ c.if-is_same_way-3.ensures.opposite)
    (subst (λ (l : LinkLaw). Stands l of) c.in-Pump.is s)

pub returns-then-is_same_way-4-clause-stands : goal.returns-then-is_same_way-4-clause-stands
returns-then-is_same_way-4-clause-stands c of s = limit_again c.args.forward c.in-LimitOneWay.law
    of c.if-is_same_way-4.ensures.same (subst (λ (l : LinkLaw). Stands l of) c.in-LimitOneWay.is s)

pub returns-else-is_same_way-4-clause-stands : goal.returns-else-is_same_way-4-clause-stands
returns-else-is_same_way-4-clause-stands c of s = shut_one_way c.args.forward (LimitOneWay c.in-LimitOneWay.law)
    (record {}) of (λ S x a. against_least c.in-LimitOneWay.law.forward c.args.forward _ S x a
    c.if-is_same_way-4.ensures.opposite) (λ S x a. against_most c.in-LimitOneWay.law.forward c.args.forward _ S x a
    c.if-is_same_way-4.ensures.opposite) (λ d. against c.in-LimitOneWay.law.forward c.args.forward _
    c.if-is_same_way-4.ensures.opposite) (λ d. against c.in-LimitOneWay.law.forward c.args.forward _
    c.if-is_same_way-4.ensures.opposite) (subst (λ (l : LinkLaw). Stands l of) c.in-LimitOneWay.is s)

pub returns-then-is_same_way-5-clause-stands : goal.returns-then-is_same_way-5-clause-stands
returns-then-is_same_way-5-clause-stands c of s = linear_limit_again c.args.forward c.in-LinearLimitOneWay.law
    of c.if-is_same_way-5.ensures.same (subst (λ (l : LinkLaw). Stands l of) c.in-LinearLimitOneWay.is s)

pub returns-else-is_same_way-5-clause-stands : goal.returns-else-is_same_way-5-clause-stands
returns-else-is_same_way-5-clause-stands c of s = shut_one_way c.args.forward
    (LinearLimitOneWay c.in-LinearLimitOneWay.law) (record {})
    of (λ S x a. against_least c.in-LinearLimitOneWay.law.forward c.args.forward _ S x a
    c.if-is_same_way-5.ensures.opposite) (λ S x a. against_most c.in-LinearLimitOneWay.law.forward c.args.forward _ S
    x a c.if-is_same_way-5.ensures.opposite) (λ d. against c.in-LinearLimitOneWay.law.forward c.args.forward _
    c.if-is_same_way-5.ensures.opposite) (λ d. against c.in-LinearLimitOneWay.law.forward c.args.forward _
    c.if-is_same_way-5.ensures.opposite) (subst (λ (l : LinkLaw). Stands l of) c.in-LinearLimitOneWay.is s)

pub returns-then-is_same_way-6-clause-stands : goal.returns-then-is_same_way-6-clause-stands
returns-then-is_same_way-6-clause-stands c of s = power_again c.args.forward c.in-PowerOneWay.law
    of c.if-is_same_way-6.ensures.same (subst (λ (l : LinkLaw). Stands l of) c.in-PowerOneWay.is s)

pub returns-else-is_same_way-6-clause-stands : goal.returns-else-is_same_way-6-clause-stands
returns-else-is_same_way-6-clause-stands c of s = shut_one_way c.args.forward (PowerOneWay c.in-PowerOneWay.law)
    (record {}) of (λ S x a. against_least c.in-PowerOneWay.law.forward c.args.forward _ S x a
    c.if-is_same_way-6.ensures.opposite) (λ S x a. against_most c.in-PowerOneWay.law.forward c.args.forward _ S x a
    c.if-is_same_way-6.ensures.opposite) (λ d. against c.in-PowerOneWay.law.forward c.args.forward _
    c.if-is_same_way-6.ensures.opposite) (λ d. against c.in-PowerOneWay.law.forward c.args.forward _
    c.if-is_same_way-6.ensures.opposite) (subst (λ (l : LinkLaw). Stands l of) c.in-PowerOneWay.is s)

pub returns-in-Bent-clause-stands : goal.returns-in-Bent-clause-stands
returns-in-Bent-clause-stands c of s = bent_one_way c.args.forward c.in-Bent.held c.one_way_held.result
    of c.one_way_held.ensures.least c.one_way_held.ensures.most c.one_way_held.ensures.inner
    (subst (λ (l : LinkLaw). Stands l of) c.in-Bent.is s)
