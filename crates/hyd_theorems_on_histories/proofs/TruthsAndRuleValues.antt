-- The truths of rules tell the values that rules have in a period.
use Rattle.std.proofs.Common.{◌≡◌, ℕ, suc, ◌+◌, ◌-◌, ◌<◌, refl, sym, ◌∙◌, arith, Bool, false, List, [], ◌∷◌, map}
use Rattle.std.specs.Prelude.{slice_index_or, All}
use Rattle.std.specs.List.{AllByRecursion, list_any}
use Rattle.hyd_net.specs.ControlsAndRules.{Compares, IsRule}
use Rattle.hyd_net.specs.Sound.{IsSound}
use Rattle.hyd_spec.specs.ProgramTypes.{Project, Rule, RuleClause, Joined, And, Or, Clause}
use Rattle.hyd_spec.specs.Rules.{Readings, Parts, put_before, parts_of, groups_in, groups_of, clause_holds, rule_holds}
use Rattle.hyd_spec.specs.Rules.{rule_values, rule_changes}
use Rattle.hyd_spec.specs.PeriodLength.{Period, readings_after, values_at}
use Rattle.hyd_spec_certificates.specs.declared.Verdict.{Verdict}
use Rattle.hyd_spec_certificates.specs.declared.Verdict.TheVariants.{Yes, No, Unknown}
use Rattle.hyd_spec_certificates.specs.ThreeValuedLogic.{is_yes, is_unknown, some_holds}
use Rattle.hyd_spec_certificates.specs.ThreeValuedLogic.{all_hold}
use Rattle.hyd_spec_certificates.specs.PeriodNetwork.{Grid}
use Rattle.hyd_spec_certificates.specs.RecordAndStanding.{Record, Standing}
use Rattle.hyd_spec_certificates.specs.Decided.{clause_truth, rule_truths, decided_changes}
use Rattle.hyd_theorems_on_definitions.specs.VerdictsOfTests.{Tells, TellEach}
use Rattle.hyd_lemmas.proofs.BooleanTests.{or-false}
use Rattle.hyd_theorems_on_definitions.proofs.DecidedByEnds.{rule_tells}
use Rattle.hyd_theorems_on_histories.specs.Agreement.{AreBetween, IsUnder}
use Rattle.hyd_theorems_on_histories.proofs.Clauses.{clause_tells}
use Rattle.hyd_theorems_on_histories.proofs.RuleReadingsBetweenEnds.{readings_between}

pub each_of : (X : Type 0) (P : X → Type 0) (xs : List X) → All P xs → AllByRecursion P xs
each_of X P [] all = tt
each_of X P (x ∷ xs) all = (all 0 x (omega arith), each_of X P xs (λ k d le. all (suc k) d (omega (arith, le))))

-- ---- groups

record AreParts (P : Clause → Type 0) (parts : Parts) : Type 0 where
  front : AllByRecursion P parts.front
  rest : AllByRecursion (AllByRecursion P) parts.rest

parts-before : (P : Clause → Type 0) (joined : Joined) (clause : Clause) (parts : Parts) → P clause → AreParts P parts
    → AreParts P (put_before joined clause parts)
parts-before P And clause parts holds are = record { front = tt; rest = ((holds, are.front), are.rest) }
parts-before P Or clause parts holds are = record { front = (holds, are.front); rest = are.rest }

parts-hold : (P : Clause → Type 0) (rows : List RuleClause) → AllByRecursion (λ (row : RuleClause). P row.clause) rows
    → AreParts P (parts_of rows)
parts-hold P [] all = record { front = tt; rest = tt }
parts-hold P (row ∷ rows) all = parts-before P row.joined row.clause (parts_of rows) all.0 (parts-hold P rows all.1)

groups-hold : (P : Clause → Type 0) (front : List Clause) (rest : List (List Clause)) → AllByRecursion P front
    → AllByRecursion (AllByRecursion P) rest
    → AllByRecursion (AllByRecursion P) (groups_in (record { front = front; rest = rest }))
groups-hold P [] rest a b = b
groups-hold P (clause ∷ front) rest a b = (a, b)

pub in-groups : (P : Clause → Type 0) (rule : Rule)
    → AllByRecursion (λ (row : RuleClause). P row.clause) rule.clauses.list
    → AllByRecursion (AllByRecursion P) (groups_of rule)
in-groups P rule all =
    let parts = parts-hold P rule.clauses.list all in
    groups-hold P (parts_of rule.clauses.list).front (parts_of rule.clauses.list).rest parts.front parts.rest

-- ---- truths and values

all-mapped : (X : Type 0) (P Q : X → Type 0) (xs : List X) → ((x : X) → P x → Q x) → AllByRecursion P xs
    → AllByRecursion Q xs
all-mapped X P Q [] f all = tt
all-mapped X P Q (x ∷ xs) f all = (f x all.0, all-mapped X P Q xs f all.1)

tell-mapped : (X : Type 0) (truth : X → Verdict) (test : X → Bool) (xs : List X)
    → AllByRecursion (λ (x : X). Tells (truth x) (test x)) xs → TellEach (map truth xs) (map test xs)
tell-mapped X truth test [] all = tt
tell-mapped X truth test (x ∷ xs) all = (all.0, tell-mapped X truth test xs all.1)

pub first-known : (t : Verdict) (b : Bool) → is_unknown t ≡ false → Tells t b → is_yes t ≡ b
first-known Yes b e tells = sym tells
first-known No b e tells = sym tells
first-known Unknown b e tells = absurd (cc)

pub all_known : (truths : List Verdict) (tests : List Bool) → list_any is_unknown truths ≡ false → TellEach truths tests
    → map is_yes truths ≡ tests
all_known [] [] e tells = refl
all_known [] (b ∷ tests) e tells = absurd tells
all_known (t ∷ truths) [] e tells = absurd tells
all_known (t ∷ truths) (b ∷ tests) e tells =
    let parts = or-false (is_unknown t) (list_any is_unknown truths) e in
    let first = first-known t b parts.0 tells.0 in
    let rest = all_known truths tests parts.1 tells.1 in
    λ i. first i ∷ rest i

-- the truths on readings between which those at scale S lie
pub truths_tell : (project : Project) (S time : ℕ) (below x above : Readings) (truth : Clause → Verdict) → 0 < S
    → IsSound project → AreBetween project S below x above
    → ((clause : Clause) → Compares clause.what clause.relation
    → Tells (truth clause) (clause_holds project S time x clause))
    → TellEach (map (λ rule. all_hold (map (λ group. some_holds (map truth group)) (groups_of rule)))
    project.rules.list) (rule_values project S time x)
truths_tell project S time below x above truth some sound between tells =
    tell-mapped Rule (λ rule. all_hold (map (λ group. some_holds (map truth group)) (groups_of rule)))
    (rule_holds project S time x) project.rules.list
    (all-mapped Rule (IsRule project)
    (λ rule. Tells (all_hold (map (λ group. some_holds (map truth group)) (groups_of rule)))
    (rule_holds project S time x rule)) project.rules.list
    (λ rule is. rule_tells truth (clause_holds project S time x) (groups_of rule)
    (in-groups (λ clause. Tells (truth clause) (clause_holds project S time x clause)) rule
    (each_of RuleClause (λ row. Tells (truth row.clause) (clause_holds project S time x row.clause)) rule.clauses.list
    (λ k d le. tells (slice_index_or rule.clauses.list k d).clause (is.clauses k d le).relation))))
    (each_of Rule (IsRule project) project.rules.list sound.rules))

module _ (project : Project) (sound : IsSound project) (S : ℕ) (period : Period) (grid : Grid) (standing : Standing)
    (row : Record) (under : IsUnder project S period grid standing row) where
  values-tell : (seconds : ℕ) → TellEach (rule_truths project grid standing row seconds)
      (rule_values project S (standing.time + seconds) (readings_after project S period seconds))
  values-tell seconds =
      truths_tell project S (standing.time + seconds) _ _ _ (clause_truth project grid standing row seconds)
      under.compared.some sound (readings_between project S period grid standing row under seconds)
      (λ clause way. clause_tells project S (standing.time + seconds) _ _ _ clause under.compared.some way
      (readings_between project S period grid standing row under seconds))

  values-are : (seconds instant : ℕ) → instant ≡ standing.time + seconds → values_at project S period instant
      ≡ rule_values project S (standing.time + seconds) (readings_after project S period seconds)
  values-are seconds instant e =
      let t = under.time in
      let s : instant - period.time ≡ seconds = omega (arith, e, t) in
      λ i. rule_values project S (e i) (readings_after project S period (s i))

  -- where no rule is open, the values are those that are decided
  pub decided_values : (seconds instant : ℕ) → instant ≡ standing.time + seconds
      → list_any is_unknown (rule_truths project grid standing row seconds) ≡ false
      → map is_yes (rule_truths project grid standing row seconds) ≡ values_at project S period instant
  decided_values seconds instant e known =
      all_known (rule_truths project grid standing row seconds) _ known (values-tell seconds)
      ∙ sym (values-are seconds instant e)

  -- and so are the changes
  pub changes_are : (seconds instant : ℕ) → instant ≡ standing.time + seconds
      → list_any is_unknown (rule_truths project grid standing row seconds) ≡ false
      → decided_changes project grid standing row seconds ≡ rule_changes project (values_at project S period instant)
      period.links
  changes_are seconds instant e known =
      let v = decided_values seconds instant e known in
      let l = under.links in
      λ i. rule_changes project (v i) (sym l i)
