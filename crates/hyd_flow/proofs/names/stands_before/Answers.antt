use Rattle.std.proofs.Common.{◌≡◌, ◌<◌, length, sym, ap, subst, ◌∙◌, arith, ℕ, inl, inr, refl}
use Rattle.std.specs.Prelude.{Some, slice_get}
use Rattle.std.proofs.lemmas.Bool.{cases_eq}
use Rattle.hyd_cert.specs.FlowPartView.{links_in}
use Rattle.hyd_spec_flows.specs.FlowParts.{names_of}
use Rattle.hyd_lemmas.proofs.ListsOptionsAndResults.{same_item}
use Rattle.hyd_flow.proofs.NamesInParts.{name_at}
use Rattle.hyd_flow.proofs.names.stands_before.Goals as goal

pub returns-then-links-i : goal.returns-then-links-i
returns-then-links-i c =
    let low = c.loop-i-test.true in
    let inside : c.loop-i.i < length c.args.links.now = (let p = c.requires in omega (arith, low, p)) in (
      (λ yes. (
        c.loop-i.i,
        (
          low,
          name_at c.args.links.now c.loop-i.i c.index-links-i.result inside
              ∙ ap Some c.if-links-i.true,
        ),
      )),
      (λ some. refl),
    )

pub loop-i-preserved : goal.loop-i-preserved
loop-i-preserved c = λ k less at. elim (cases_eq k c.loop-i.i) [
  | inl e ↦ (let low = c.loop-i-test.true in
      let inside : c.loop-i.i < length c.args.links.now = (let p = c.requires in omega (arith, low, p)) in
      c.if-links-i.false (same_item ℕ _ _ (sym (name_at c.args.links.now c.loop-i.i c.index-links-i.result inside)
      ∙ subst (λ (n : ℕ). slice_get (names_of (links_in c.args.links.now)) n ≡ Some c.args.link) e at)))
  | inr ne ↦ c.loop-i.invariant k (omega (arith, less, ne)) at
]
