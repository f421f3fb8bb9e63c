-- Where there are no rules, none changes a link.
use Rattle.std.proofs.Common.{◌≡◌, ℕ, suc, Bool, List, Option, [], ◌∷◌, ◌++◌, refl, ap, sym, subst, ◌∙◌, append-nil}
use Rattle.std.specs.Option.{option_map_or, option_and_then}
use Rattle.hyd_spec.specs.ProgramTypes.{Project, LinkState, Rule}
use Rattle.hyd_spec.specs.declared.Change.{Change}
use Rattle.hyd_spec.specs.Lists.{map_from, present}
use Rattle.hyd_spec.specs.Rules.{change_by, best_offer, offers_from, acted, rule_changes}

-- what some rules change of a link, and its state then
abbrev changed : List Rule → List Bool → ℕ → LinkState → Option Change
changed rules values link state = option_and_then (change_by state) (best_offer link (offers_from 0 rules values))

abbrev left : List Rule → List Bool → ℕ → LinkState → LinkState
left rules values link state = option_map_or (λ change. change.to) (changed rules values link state) state

states_left : (values : List Bool) (k : ℕ) (links : List LinkState) → map_from (left [] values) k links ≡ links
states_left values k [] = refl
states_left values k (state ∷ links) = ap (λ (states : List LinkState). state ∷ states) (states_left values (suc k)
    links)

nothing_changed : (values : List Bool) (k : ℕ) (links : List LinkState) → present (map_from (changed [] values) k links)
    ≡ []
nothing_changed values k [] = refl
nothing_changed values k (state ∷ links) = nothing_changed values (suc k) links

pub acted_alone : (project : Project) (values : List Bool) (links : List LinkState) → project.rules.list ≡ []
    → links ≡ acted project values links
acted_alone project values links none = subst (λ (rules : List Rule). links ≡ map_from (left rules values) 0 links)
    (sym none) (sym (states_left values 0 links))

pub changes_alone : (project : Project) (values : List Bool) (links : List LinkState) (rows : List Change)
    → project.rules.list ≡ [] → rows ≡ rows ++ rule_changes project values links
changes_alone project values links rows none = subst (λ (rules : List Rule). rows ≡ rows ++ present
    (map_from (changed rules values) 0 links)) (sym none)
    (sym (append-nil rows) ∙ ap (λ (more : List Change). rows ++ more) (sym (nothing_changed values 0 links)))
