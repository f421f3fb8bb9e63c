use Rattle.std.proofs.Common.{◌≡◌, sym, subst, ◌∙◌, arith, ℕ, inl, inr}
use Rattle.std.specs.Prelude.{Some, slice_get}
use Rattle.std.proofs.lemmas.Bool.{cases_eq, false≢true}
use Rattle.std.proofs.lemmas.Option.{slice_get_within}
use Rattle.hyd_cert.specs.FlowPartView.{links_in}
use Rattle.hyd_spec_flows.specs.FlowParts.{names_of, NameIsRefused}
use Rattle.hyd_period_network.specs.NetAsPeriodNetwork.{grid_of}
use Rattle.hyd_lemmas.proofs.ListsOptionsAndResults.{same_item}
use Rattle.hyd_flow.proofs.NamesInParts.{name_at, names_count}
use Rattle.hyd_flow.proofs.names.first_refused_name.Goals as goal

pub returns-then-is_refused-clause-some : goal.returns-then-is_refused-clause-some
returns-then-is_refused-clause-some c = record {
  place = c.loop-i.i;
  is_name = name_at c.args.links.now c.loop-i.i c.index-links-i.result c.loop-i-test.true;
  refused = c.is_refused.ensures.0 c.if-is_refused.true;
  first = λ earlier other less at. c.loop-i.invariant earlier other less at;
}

pub loop-i-preserved : goal.loop-i-preserved
loop-i-preserved c = λ k number less at refused. elim (cases_eq k c.loop-i.i) [
  | inl e ↦ (let part = links_in c.args.links.now in
      let here = subst (λ (n : ℕ). slice_get (names_of part) n ≡ Some number) e at in
      let same : number ≡ _ = same_item ℕ number _ (sym here
      ∙ name_at c.args.links.now c.loop-i.i c.index-links-i.result c.loop-i-test.true) in
      false≢true (sym c.if-is_refused.false ∙ c.is_refused.ensures.1 (subst (λ (n : ℕ).
      NameIsRefused (grid_of c.args.net.now) part c.loop-i.i n) same
      (subst (λ (n : ℕ). NameIsRefused (grid_of c.args.net.now) part n number) e refused))))
  | inr ne ↦ c.loop-i.invariant k number (omega (arith, less, ne)) at refused
]

pub returns-clause-none : goal.returns-clause-none
returns-clause-none c = λ place number at.
    let part = links_in c.args.links.now in
    let within = slice_get_within (names_of part) place number at in
    let many = names_count c.args.links.now in
    let past = c.loop-i-test.false in
    c.loop-i.invariant place number (omega (arith, within, many, past)) at
