use Rattle.std.proofs.Common.{◌≡◌, true, refl, sym, subst}
use Rattle.hyd_spec_input.specs.declared.Attribute.{Attribute}
use Rattle.hyd_build_links_controls_and_rules.proofs.ClauseLemmas.{has_number, number_value}
use Rattle.hyd_build_links_controls_and_rules.proofs.clauses.value_of.Goals as goal

pub returns-in-Head : goal.returns-in-Head
returns-in-Head c = λ k words is.
    let numeric : has_number c.args.attribute ≡ true =
    subst (λ (a : Attribute). has_number a ≡ true) (sym c.in-Head.is) refl in
    number_value c.args.attribute c.args.what c.args.unit k words c.args.value
    c.quantity_of.result numeric c.requires is c.quantity_of.ensures

pub returns-in-Pressure : goal.returns-in-Pressure
returns-in-Pressure c = λ k words is.
    let numeric : has_number c.args.attribute ≡ true =
    subst (λ (a : Attribute). has_number a ≡ true) (sym c.in-Pressure.is) refl in
    number_value c.args.attribute c.args.what c.args.unit k words c.args.value
    c.quantity_of-in-Pressure.result numeric c.requires is c.quantity_of-in-Pressure.ensures

pub returns-in-Level : goal.returns-in-Level
returns-in-Level c = λ k words is.
    let numeric : has_number c.args.attribute ≡ true =
    subst (λ (a : Attribute). has_number a ≡ true) (sym c.in-Level.is) refl in
    number_value c.args.attribute c.args.what c.args.unit k words c.args.value
    c.quantity_of-in-Level.result numeric c.requires is c.quantity_of-in-Level.ensures

pub returns-in-Flow : goal.returns-in-Flow
returns-in-Flow c = λ k words is.
    let numeric : has_number c.args.attribute ≡ true =
    subst (λ (a : Attribute). has_number a ≡ true) (sym c.in-Flow.is) refl in
    number_value c.args.attribute c.args.what c.args.unit k words c.args.value
    c.quantity_of-in-Flow.result numeric c.requires is c.quantity_of-in-Flow.ensures

pub returns-in-Setting : goal.returns-in-Setting
returns-in-Setting c = λ k words is.
    let numeric : has_number c.args.attribute ≡ true =
    subst (λ (a : Attribute). has_number a ≡ true) (sym c.in-Setting.is) refl in
    number_value c.args.attribute c.args.what c.args.unit k words c.args.value
    c.quantity_of-in-Setting.result numeric c.requires is c.quantity_of-in-Setting.ensures
