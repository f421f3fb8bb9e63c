-- What the header line of a certificate says of a network is the same of each that differs in spares alone, and so is
-- what the comparison of networks looks at.
use Rattle.std.proofs.Common.{◌≡◌, ℕ, Bool, List, [], ◌∷◌, map, sym, ap, ap₂, refl, ◌∙◌, subst}
use Rattle.std.proofs.lemmas.List.{length-map}
use Rattle.hyd_net.specs.ProjectAsCompared.{compared_junction, compared_rule, compared_project}
use Rattle.hyd_net.specs.ProjectAsCompared.{compared_pattern, bare_list}
use Rattle.hyd_spec.specs.ProgramTypes.{Project}
use Rattle.hyd_spec.specs.NodeNumbers.{junction_count, tank_count}
use Rattle.hyd_spec_certificates.specs.RecordAndStanding.{Record}
use Rattle.hyd_spec_certificates.specs.CertificateText.{IsCertificateText, version_of}
use Rattle.hyd_theorems_on_rereading.specs.WithoutSpare.{bare_junction, bare_rule, bare_project}

-- ---- the header line

pub same_version : (p q : Project) → bare_project p ≡ bare_project q → version_of p ≡ version_of q
same_version p q same = ap version_of same

pub same_junctions : (p q : Project) → bare_project p ≡ bare_project q → junction_count p ≡ junction_count q
same_junctions p q same =
    sym (length-map p.junctions.list bare_junction)
    ∙ (ap junction_count same ∙ length-map q.junctions.list bare_junction)

pub same_tanks : (p q : Project) → bare_project p ≡ bare_project q → tank_count p ≡ tank_count q
same_tanks p q same = ap tank_count same

pub certificate_text : (p q : Project) → bare_project p ≡ bare_project q → (text : List ℕ) (records : List Record)
    (periods : ℕ) (finished : Bool)
    → IsCertificateText text (version_of p) (junction_count p) (tank_count p) records periods finished
    → IsCertificateText text (version_of q) (junction_count q) (tank_count q) records periods finished
certificate_text p q same text records periods finished is =
    subst (λ (v : ℕ). IsCertificateText text v (junction_count q) (tank_count q) records periods finished)
    (same_version p q same)
    (subst (λ (n : ℕ). IsCertificateText text (version_of p) n (tank_count q) records periods finished)
    (same_junctions p q same)
    (subst (λ (k : ℕ). IsCertificateText text (version_of p) (junction_count p) k records periods finished)
    (same_tanks p q same) is))

-- ---- the comparison of networks

twice : {X : Type 0} (f g : X → X) → ((x : X) → f x ≡ f (g x)) → (xs : List X) → map f xs ≡ map f (map g xs)
twice f g each [] = refl
twice f g each (x ∷ xs) = ap₂ (λ v vs. v ∷ vs) (each x) (twice f g each xs)

compared_of_bare : (p : Project) → compared_project p ≡ compared_project (bare_project p)
compared_of_bare p =
    let junctions = twice compared_junction bare_junction (λ j. refl) p.junctions.list in
    let patterns = twice compared_pattern compared_pattern (λ j. refl) p.patterns.list in
    let shapes = twice bare_list bare_list (λ j. refl) p.shapes.list in
    let bends = twice bare_list bare_list (λ j. refl) p.bends.list in
    let rules = twice compared_rule bare_rule (λ j. refl) p.rules.list in
    λ i. record (compared_project p) {
      junctions = record { list = junctions i; spare = 0 };
      patterns = record { list = patterns i; spare = 0 };
      shapes = record { list = shapes i; spare = 0 };
      bends = record { list = bends i; spare = 0 };
      rules = record { list = rules i; spare = 0 };
    }

pub same_compared : (p q : Project) → bare_project p ≡ bare_project q → compared_project p ≡ compared_project q
same_compared p q same = compared_of_bare p ∙ (ap compared_project same ∙ sym (compared_of_bare q))
