-- Neither a record nor a part that is refused is one of a run with flows.
use Rattle.std.proofs.Common.{◌≡◌, List, [], ◌∷◌, ◌++◌, refl, sym, ap, subst, ◌∙◌, append_assoc}
use Rattle.std.proofs.lemmas.List.{map-append}
use Rattle.std.specs.List.{AllByRecursion}
use Rattle.hyd_spec.specs.ProgramTypes.{Project}
use Rattle.hyd_spec_certificates.specs.RecordAndStanding.{Standing, initial_standing}
use Rattle.hyd_spec_certificates.specs.declared.CertRefused.{CertRefused}
use Rattle.hyd_spec_certificates.specs.RefusedRecords.{IsRefused}
use Rattle.hyd_spec_reports.specs.PromisesOfRunsAndChecks.{Found, IsFound, IsRun, rows_of}
use Rattle.hyd_spec_flows.specs.FlowParts.{FlowPart, IsFlowPart, IsRefusedPart}
use Rattle.hyd_spec_flows.specs.FlowTexts.{Entry, rows_in}
use Rattle.hyd_spec_flows.specs.declared.FlowFails.{FlowFails}
use Rattle.hyd_spec_reports_with_flows.specs.PromisesWithFlows.{FoundNaming, IsFoundNaming, founds_in, entry_of}
use Rattle.hyd_spec_reports_with_flows.specs.PromisesWithFlows.{entries_of}
use Rattle.hyd_theorems_on_runs.proofs.OnePeriodMore.{run_more}
use Rattle.hyd_theorems_on_flows.proofs.OneCause.{none_refused as no_part_refused}
use Rattle.hyd_theorems_on_checks.proofs.BeginningsOfLists.{Begins}
use Rattle.hyd_theorems_on_checks.proofs.RecordsNotRefused.{none_refused}
use Rattle.hyd_theorems_on_checks.proofs.RunsByRecords.{begins_with}
use Rattle.hyd_theorems_on_checks.proofs.RunsByEntries.{rows_are}

-- the records of a run and of one entry more
pub rows_before : (namings : List FoundNaming) (entry : Entry)
    → rows_in (entries_of namings ++ (entry ∷ [])) ≡ rows_of (founds_in namings) ++ (entry.row ∷ [])
rows_before namings entry =
    map-append (λ (one : Entry). one.row) (entries_of namings) (entry ∷ [])
    ∙ ap (λ rows. rows ++ (entry.row ∷ [])) (sym (rows_are namings))

-- records begin with others where their entries do
pub begin_rows : (front all : List Entry) → Begins front all → Begins (rows_in front) (rows_in all)
begin_rows front all k = record {
  more = rows_in k.more;
  is = ap rows_in k.is ∙ map-append (λ (one : Entry). one.row) front k.more;
}

module _ (project : Project) where
  -- a record that is refused doesn't stand behind those before it in a run
  pub no_refused_record : (a : List FoundNaming) (b : List Found) (entries : List Entry) (last other : Standing)
      (entry : Entry) (cause : CertRefused) → IsRun project (founds_in a) last
      → IsRefused project last entry.row cause → IsRun project b other → rows_in entries ≡ rows_of b
      → Begins (entries_of a ++ (entry ∷ [])) entries → ⊥
  no_refused_record a b entries last other entry cause x refused y rows k =
      let begins = begin_rows (entries_of a ++ (entry ∷ [])) entries k in
      none_refused project (founds_in a) b last other entry.row cause x refused y (record {
        more = begins.more;
        is = sym rows ∙ (begins.is ∙ ap (λ front. front ++ begins.more) (rows_before a entry));
      })

  -- ---- parts

  -- the period of a run that has what was found, and the part
  record StandsIn (found : Found) (part : FlowPart) : Type 0 where
    naming : FoundNaming
    is : IsFoundNaming project naming
    found_is : naming.found ≡ found
    part_is : naming.part ≡ part

  stands_in : (a b : List FoundNaming) (found : Found) (part : FlowPart) (founds : List Found) (entries : List Entry)
      → founds_in b ≡ founds_in a ++ (found ∷ founds)
      → entries_of b ≡ entries_of a ++ ((record { row = found.row; part = part }) ∷ entries)
      → AllByRecursion (IsFoundNaming project) b → StandsIn found part
  stands_in [] [] found part founds entries f e are = absurd (cc)
  stands_in [] (y ∷ b) found part founds entries f e are =
      let entry : entry_of y ≡ record { row = found.row; part = part } = cc in
      record { naming = y; is = are.0; found_is = cc; part_is = ap (λ (one : Entry). one.part) entry }
  stands_in (x ∷ a) [] found part founds entries f e are = absurd (cc)
  stands_in (x ∷ a) (y ∷ b) found part founds entries f e are =
      stands_in a b found part founds entries (cc) (cc) are.1

  -- the run up to a record that is valid
  pub run_with : (a : List FoundNaming) (found : Found) → IsRun project (founds_in a) found.standing
      → IsFound project found → IsRun project (founds_in a ++ (found ∷ [])) found.next
  run_with a found x is = run_more project (founds_in a) found.standing found x refl is

  -- and its records
  pub rows_with : (a : List FoundNaming) (found : Found) (part : FlowPart)
      → rows_in (entries_of a ++ ((record { row = found.row; part = part }) ∷ []))
      ≡ rows_of (founds_in a ++ (found ∷ []))
  rows_with a found part =
      rows_before a (record { row = found.row; part = part })
      ∙ sym (map-append (λ (one : Found). one.row) (founds_in a) (found ∷ []))

  -- a part that is refused doesn't stand behind the entries before it in a run
  pub no_refused_part : (a b : List FoundNaming) (found : Found) (part : FlowPart) (other : Standing)
      (cause : FlowFails) → IsRun project (founds_in a) found.standing → IsFound project found
      → IsRefusedPart found.grid found.row part cause → IsRun project (founds_in b) other
      → AllByRecursion (IsFoundNaming project) b
      → Begins (entries_of a ++ ((record { row = found.row; part = part }) ∷ [])) (entries_of b) → ⊥
  no_refused_part a b found part other cause x is refused y are k =
      let front = entries_of a ++ ((record { row = found.row; part = part }) ∷ []) in
      let begins = begin_rows front (entries_of b) k in
      let founds = begins_with project (initial_standing project) (founds_in a ++ (found ∷ [])) (founds_in b)
      begins.more found.next other (run_with a found x is) y
      (rows_are b ∙ (begins.is ∙ ap (λ rows. rows ++ begins.more) (rows_with a found part))) in
      let at = stands_in a b found part founds.more k.more
      (founds.is ∙ append_assoc (founds_in a) (found ∷ []) founds.more)
      (k.is ∙ append_assoc (entries_of a) ((record { row = found.row; part = part }) ∷ []) k.more) are in
      let held : IsFlowPart found.grid found.row part =
      subst (λ (p : FlowPart). IsFlowPart found.grid found.row p) at.part_is
      (subst (λ (f : Found). IsFlowPart f.grid f.row at.naming.part) at.found_is at.is.held) in
      no_part_refused found.grid found.row part cause held refused
