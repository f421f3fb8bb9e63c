-- The laws with which a net opens are those of closed links.
use Rattle.std.proofs.Common.{◌≡◌, ℕ, ◌+◌, ◌-◌, ◌<◌, Bool, List, [], ◌∷◌, ◌++◌, length, slice_index_or, refl, sym, ap}
use Rattle.std.proofs.Common.{subst, ◌∙◌, inl, inr, arith}
use Rattle.hyd_net.specs.ListView.{ListView}
use Rattle.hyd_net.specs.declared.curves.HeadPoint.{HeadPoint}
use Rattle.hyd_spec.specs.ProgramTypes.{Project, Link, LinkKind}
use Rattle.hyd_spec.specs.Law.{Law}
use Rattle.hyd_spec.specs.DemandsHeadsAndPumpLifts.{is_us}
use Rattle.hyd_law.specs.declared.link_law_kinds.LinkLaw.{LinkLaw}
use Rattle.hyd_period_network.specs.declared.junctions_ends_and_settings.Setting.{Setting}
use Rattle.hyd_period_network.specs.LawsInSettings.{Represents, AreLawsOf, AreBothOf, AreBoth, IsClosedLaw, AreClosed}
use Rattle.hyd_period_network.specs.LawsInSettings.{closed_setting}
use Rattle.hyd_period_network.specs.BothLaws.{own_of, law_of}
use Rattle.hyd_period_network.specs.declared.both_laws.BothLaws.{BothLaws}
use Rattle.hyd_lemmas.proofs.ListsOptionsAndResults.{any_default}
use Rattle.hyd_period_network.proofs.RangesOfLinkNumbers.{closed_is}
use Rattle.hyd_period_network.proofs.OneLinkSet.{same_or}
use Rattle.std.proofs.lemmas.List.{get_or_append_left, get_or-append_right}

closed_one : (us : Bool) (bends : List (ListView HeadPoint)) (kind : LinkKind) (own law : LinkLaw)
    → IsClosedLaw bends kind own → IsClosedLaw bends kind law
    → AreLawsOf us bends kind closed_setting own law
closed_one us bends kind own law is also = record {
  own_is = subst (λ (of : Law). Represents own of) (sym (closed_is us bends kind)) is.represents;
  law_shut = λ forward reverse. also.represents.is_exact;
  law_is = (subst (λ (of : Law). Represents law of) (sym (closed_is us bends kind)) also.represents).stands;
  own_room = is.room;
  law_room = also.room;
}

pub closed_stand : (project : Project) (links : List Link) (settings : List Setting) (laws : List BothLaws)
    → AreClosed project links laws
    → ((k : ℕ) (s : Setting) → k < length links → slice_index_or settings k s ≡ closed_setting)
    → AreBoth project links settings laws
closed_stand project links settings laws are set k link setting b within =
    let here = slice_index_or laws k b in
    subst (λ (s : Setting). AreBothOf project (slice_index_or links k link) s here) (sym (set k setting within))
    (closed_one (is_us project) project.bends.list (slice_index_or links k link).kind (own_of here) (law_of here)
    (are k link b within).own (are k link b within).law)

-- what is so of both laws of each link that a net has so far is so with one more
pub with_more : (P : Link → BothLaws → Type 0) (links : List Link) (laws news : List BothLaws) (i : ℕ)
    (l : Link) (both : BothLaws) → news ≡ laws ++ both ∷ [] → length laws ≡ i
    → ((k : ℕ) (link : Link) (b : BothLaws) → k < i → P (slice_index_or links k link) (slice_index_or laws k b))
    → i < length links → P (slice_index_or links i l) both
    → (k : ℕ) (link : Link) (b : BothLaws) → k < i + 1 → P (slice_index_or links k link) (slice_index_or news k b)
with_more P links laws news i l both new n all within here k link b less =
    elim (same_or k i) as (λ _. P (slice_index_or links k link) (slice_index_or news k b)) [
      | inl same ↦ subst (λ (j : ℕ). P (slice_index_or links j link) (slice_index_or news j b)) (sym same)
          (subst (λ (w : BothLaws). P (slice_index_or links i link) w)
          (sym (ap (λ (ws : List BothLaws). slice_index_or ws i b) new ∙ get_or-append_right laws (both ∷ []) i i b n
          (omega arith) ∙ (let z : i - i ≡ 0 = omega arith in rw z refl)))
          (subst (λ (q : Link). P q both) (any_default links i l link within) here))
      | inr other ↦ subst (λ (w : BothLaws). P (slice_index_or links k link) w)
          (sym (ap (λ (ws : List BothLaws). slice_index_or ws k b) new ∙ get_or_append_left laws (both ∷ []) b k
          (omega (arith, n, other)))) (all k link b (omega (arith, other)))
    ]
