-- One link put into its setting, among all links.
use Rattle.std.proofs.Common.{◌≡◌, ◌≢◌, ◌⊎◌, inl, inr, ℕ, zero, suc, ◌+◌, ◌<◌, List, length, slice_index_or, slice_set}
use Rattle.std.proofs.Common.{refl, ap, sym, ◌∙◌, subst, arith}
use Rattle.std.proofs.lemmas.List.{get_or-set_same, get_or-set_other}
use Rattle.hyd_spec.specs.ProgramTypes.{Project, Link, LinkState}
use Rattle.hyd_spec.specs.declared.TankState.{TankState}
use Rattle.hyd_period_network.specs.BothLaws.{AreFree}
use Rattle.hyd_period_network.specs.declared.both_laws.BothLaws.{BothLaws}
use Rattle.hyd_period_network.specs.declared.junctions_ends_and_settings.Ends.{Ends}
use Rattle.hyd_period_network.specs.declared.junctions_ends_and_settings.Setting.{Setting}
use Rattle.hyd_period_network.specs.LawsInSettings.{AreBothOf, AreBoth, AreSet, setting_of}
use Rattle.hyd_lemmas.proofs.ListsOptionsAndResults.{any_default}

pub same_or : (k i : ℕ) → (k ≡ i) ⊎ (k ≢ i)
same_or zero zero = inl refl
same_or zero (suc i) = inr (λ e. absurd (omega arith))
same_or (suc k) zero = inr (λ e. absurd (omega arith))
same_or (suc k) (suc i) = elim (same_or k i) [ inl e ↦ inl (ap suc e) | inr n ↦ inr (λ e. n (omega arith)) ]

-- what holds of one link, its setting and its laws, by equations
moved : (project : Project) (l l' : Link) (s s' : Setting) (b b' : BothLaws) → l ≡ l' → s ≡ s' → b ≡ b'
    → AreBothOf project l s b → AreBothOf project l' s' b'
moved project l l' s s' b b' el es eb here =
    subst (λ (x : BothLaws). AreBothOf project l' s' x) eb
    (subst (λ (x : Setting). AreBothOf project l' x b) es (subst (λ (x : Link). AreBothOf project x s b) el here))

pub both_set : (project : Project) (links : List Link) (settings : List Setting) (laws : List BothLaws) (i : ℕ)
    (s : Setting) (b : BothLaws) (l : Link)
    → AreBoth project links settings laws → i < length links → i < length settings → i < length laws
    → AreBothOf project (slice_index_or links i l) s b
    → AreBoth project links (slice_set settings i s) (slice_set laws i b)
both_set project links settings laws i s b l all hl hs hw here k link setting both h =
    elim (same_or k i) as (λ _. AreBothOf project (slice_index_or links k link)
    (slice_index_or (slice_set settings i s) k setting) (slice_index_or (slice_set laws i b) k both)) [
      | inl e ↦ subst (λ (j : ℕ). AreBothOf project (slice_index_or links j link)
          (slice_index_or (slice_set settings i s) j setting) (slice_index_or (slice_set laws i b) j both)) (sym e)
          (moved project (slice_index_or links i l) (slice_index_or links i link) s
          (slice_index_or (slice_set settings i s) i setting) b (slice_index_or (slice_set laws i b) i both)
          (any_default links i l link hl) (sym (get_or-set_same settings i s setting hs))
          (sym (get_or-set_same laws i b both hw)) here)
      | inr n ↦
          moved project (slice_index_or links k link) (slice_index_or links k link)
          (slice_index_or settings k setting) (slice_index_or (slice_set settings i s) k setting)
          (slice_index_or laws k both) (slice_index_or (slice_set laws i b) k both)
          refl (sym (get_or-set_other settings i k s setting n)) (sym (get_or-set_other laws i k b both n))
          (all k link setting both h)
    ]

-- the room for a second law stays
pub free_set : (before : ℕ) (ends : List Ends) (laws : List BothLaws) (i : ℕ) (b : BothLaws)
    → AreFree before ends laws → i < length laws
    → ((both : BothLaws) → length b.between.items ≡ length (slice_index_or laws i both).between.items)
    → AreFree before ends (slice_set laws i b)
free_set before ends laws i b all hw same k e both h none =
    all k e both h (elim (same_or k i) as (λ _. length (slice_index_or laws k both).between.items ≡ 0) [
      | inl there ↦ subst (λ (j : ℕ). length (slice_index_or laws j both).between.items ≡ 0) (sym there)
          (sym (same both) ∙ ap (λ (x : BothLaws). length x.between.items) (sym (get_or-set_same laws i b both hw))
          ∙ subst (λ (j : ℕ). length (slice_index_or (slice_set laws i b) j both).between.items ≡ 0) there none)
      | inr n ↦ ap (λ (x : BothLaws). length x.between.items) (sym (get_or-set_other laws i k b both n)) ∙ none
    ])

pub sets_more : (project : Project) (tanks : List TankState) (links : List Link) (states : List LinkState)
    (settings : List Setting) (i : ℕ) (s : Setting) (l : Link) (q : LinkState)
    → AreSet project tanks links states settings i → i < length links → i < length states → i < length settings
    → l ≡ slice_index_or links i l → q ≡ slice_index_or states i q
    → s ≡ setting_of project tanks l q → AreSet project tanks links states (slice_set settings i s) (i + 1)
sets_more project tanks links states settings i s l q all hl hq hs at state is k link st setting h =
    elim (same_or k i) as (λ _. slice_index_or (slice_set settings i s) k setting ≡ setting_of project tanks
    (slice_index_or links k link) (slice_index_or states k st)) [
      | inl e ↦ subst (λ (j : ℕ). slice_index_or (slice_set settings i s) j setting ≡ setting_of project tanks
          (slice_index_or links j link) (slice_index_or states j st)) (sym e)
          (get_or-set_same settings i s setting hs
          ∙ (is ∙ (ap (λ (x : Link). setting_of project tanks x q) (at ∙ any_default links i l link hl)
          ∙ ap (λ (x : LinkState). setting_of project tanks (slice_index_or links i link) x)
          (state ∙ any_default states i q st hq))))
      | inr n ↦ get_or-set_other settings i k s setting n ∙ all k link st setting (omega (arith, n))
    ]
