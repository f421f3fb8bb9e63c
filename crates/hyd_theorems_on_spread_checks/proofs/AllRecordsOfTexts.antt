-- All records with which a text of version 4 begins are the most of those with which it begins, and they are the same
-- whoever read them.
use Rattle.std.proofs.Common.{◌≡◌, ℕ, ◌<◌, ◌⊎◌, inl, inr, List, [], ◌∷◌, ◌++◌, length, map, sym, ap, subst, ◌∙◌}
use Rattle.std.proofs.Common.{append_assoc, append-nil, arith}
use Rattle.std.specs.Prelude.{All}
use Rattle.std.proofs.lemmas.Bool.{cases_lt}
use Rattle.std.proofs.lemmas.List.Elements.{All-head, All-tail}
use Rattle.hyd_spec.specs.ProgramTypes.{Project}
use Rattle.hyd_spec.specs.Lists.{joined}
use Rattle.hyd_spec.specs.NodeNumbers.{junction_count, tank_count}
use Rattle.hyd_spec_certificates.specs.CertificateText.{header_line}
use Rattle.hyd_spec_open_ends.specs.OpenStandings.{OpenRecord}
use Rattle.hyd_spec_open_ends.specs.OpenCertificateText.{open_version, open_record_text, IsOpenRow}
use Rattle.hyd_spec_open_checks.specs.OpenChecks.{BeginsWithOpenRecords}
use Rattle.hyd_lemmas.proofs.ListsOptionsAndResults.{joined_append}
use Rattle.hyd_theorems_on_open_checks.proofs.LongestReadings.{same_lists, longer}

all-behind : {X : Type 0} (P : X → Type 0) (front : List X) (x : X) (rest : List X) → All P (front ++ (x ∷ rest)) → P x
all-behind P [] x rest all = All-head P x rest all
all-behind P (y ∷ front) x rest all = all-behind P front x rest (All-tail P y (front ++ (x ∷ rest)) all)

module _ (project : Project) (text : List ℕ) where
  abbrev Fits : List OpenRecord → Type 0
  Fits rows = All (IsOpenRow (junction_count project) (tank_count project)) rows

  abbrev Begins : List OpenRecord → Type 0
  Begins rows = BeginsWithOpenRecords project rows text

  -- the text begins with these records, or with none, and behind them with no more
  pub record AreAll (rows : List OpenRecord) : Type 0 where
    pub fit : Fits rows
    pub begins : (rows ≡ []) ⊎ Begins rows
    pub no_more : (found : OpenRecord) → IsOpenRow (junction_count project) (tank_count project) found
        → Begins (rows ++ (found ∷ [])) → ⊥

  abbrev head : List ℕ
  head = header_line open_version (junction_count project) (tank_count project)

  abbrev texts : List OpenRecord → List ℕ
  texts rows = joined (map open_record_text rows)

  -- it begins with the first of the records with which it begins
  begins-first : (front rest : List OpenRecord) → Begins (front ++ rest) → Begins front
  begins-first front rest begins = record {
    unread = texts rest ++ begins.unread;
    is_text = begins.is_text
        ∙ ap (λ t. head ++ t) (ap (λ t. t ++ begins.unread) (joined_append open_record_text front rest)
        ∙ append_assoc (texts front) (texts rest) begins.unread);
  }

  -- and with all of them, where it begins with any
  begins-all : (all rows : List OpenRecord) → (all ≡ []) ⊎ Begins all → Begins rows → Begins all
  begins-all all rows (inr begins) other = begins
  begins-all all rows (inl none) other = subst Begins (sym none) (begins-first [] rows other)

  none-behind : (all rows more : List OpenRecord) → AreAll all → Fits rows → Begins rows → rows ≡ all ++ more
      → length all < length rows → ⊥
  none-behind all rows [] are fit begins e less =
      let n = ap length (e ∙ append-nil all) in omega (arith, n, less)
  none-behind all rows (found ∷ more) are fit begins e less =
      let P = IsOpenRow (junction_count project) (tank_count project) in
      are.no_more found (all-behind P all found more (subst Fits e fit))
      (begins-first (all ++ (found ∷ [])) more (subst Begins (e ∙ sym (append_assoc all (found ∷ []) more)) begins))

  pub longest : (all rows : List OpenRecord) → AreAll all → Fits rows → Begins rows
      → (more : List OpenRecord) × (all ≡ rows ++ more)
  longest all rows are fit begins =
      let own = begins-all all rows are.begins begins in
      elim (cases_lt (length all) (length rows)) [
        | inr le ↦ longer project text rows all fit are.fit begins own le
        | inl less ↦
            let k = longer project text all rows are.fit fit own begins (omega (arith, less)) in
            absurd (none-behind all rows k.0 are fit begins k.1 less)
      ]

  pub all_records_same : (xs ys : List OpenRecord) → AreAll xs → AreAll ys → xs ≡ ys
  all_records_same xs ys x y = by-begin x.begins y.begins
    where
      both : (rows : List OpenRecord) → Begins rows → xs ≡ ys
      both rows begins =
          let k = longest xs ys x y.fit (begins-all ys rows y.begins begins) in
          let m = longest ys xs y x.fit (begins-all xs rows x.begins begins) in
          same_lists xs ys k.0 m.0 k.1 m.1

      by-begin : (xs ≡ []) ⊎ Begins xs → (ys ≡ []) ⊎ Begins ys → xs ≡ ys
      by-begin (inr begins) b = both xs begins
      by-begin (inl none) (inr begins) = both ys begins
      by-begin (inl none) (inl nothing) = none ∙ sym nothing
