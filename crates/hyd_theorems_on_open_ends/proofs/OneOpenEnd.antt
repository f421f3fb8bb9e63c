-- A record decides one way in which its period ends, or one matter that is open first, and not both.
use Rattle.std.proofs.Common.{◌≡◌, ℕ, zero, suc, ◌+◌, ◌-◌, ◌<◌, ◌≤◌, sym, ap, subst, ◌∙◌, arith}
use Rattle.std.proofs.Common.{inl, inr}
use Rattle.std.proofs.Common.{Bool, true, List, [], ◌∷◌, length}
use Rattle.std.specs.Prelude.{slice_index_or}
use Rattle.std.specs.List.{list_any}
use Rattle.std.proofs.lemmas.List.Quantifiers.{position-Some}
use Rattle.hyd_num.specs.Rational.{floor, ceiling}
use Rattle.hyd_spec.specs.ProgramTypes.{Project, RuleClause}
use Rattle.hyd_spec.specs.Rules.{measured}
use Rattle.hyd_spec.specs.PeriodLength.{IsLeast}
use Rattle.hyd_spec_certificates.specs.declared.Verdict.{Verdict}
use Rattle.hyd_spec_certificates.specs.declared.Verdict.TheVariants.{Unknown}
use Rattle.hyd_spec_certificates.specs.ThreeValuedLogic.{is_unknown}
use Rattle.hyd_spec_certificates.specs.PeriodNetwork.{Grid}
use Rattle.hyd_spec_certificates.specs.RecordAndStanding.{Record}
use Rattle.hyd_spec_certificates.specs.Decided.{OpenRule, End, RuleIsOpen, EventIsOpen}
use Rattle.hyd_spec_open_ends.specs.OpenStandings.{OpenStanding}
use Rattle.hyd_spec_open_ends.specs.RulesOverLengths.{RulesMatterOver, SomeRuleIsOpen}
use Rattle.hyd_spec_open_ends.specs.RulesOverLengths.{IsOpenRuleOver, open_rule_truths, readings_below_over}
use Rattle.hyd_spec_open_ends.specs.RulesOverLengths.{readings_above_over}
use Rattle.hyd_spec_open_ends.specs.OpenEnds.{IsEarliestWatched, IsLatestWatched, AreSeconds, Way, ByRules, ByInstant}
use Rattle.hyd_spec_open_ends.specs.OpenEnds.{ByWatched, EndsIn, by_rules, by_instant, by_watched, late_at_end}
use Rattle.hyd_spec_open_ends.specs.OpenEnds.{last_end}
use Rattle.hyd_spec_open_ends.specs.OpenEnds.{IsFirstOpen, rule_is_open, rule_parts, too_wide, rule_is_open_between}
use Rattle.hyd_spec_open_ends.specs.OpenEnds.{rule_acts_between}
use Rattle.hyd_lemmas.proofs.BooleanTests.{or-left, or-right}

least-is-one : (P : ℕ → Type 0) (a b : ℕ) → IsLeast P a → IsLeast P b → a ≡ b
least-is-one P a b x y = let l = x.least b y.holds in let m = y.least a x.holds in omega (arith, l, m)

any-here : (test : Verdict → Bool) (xs : List Verdict) (k : ℕ) → k < length xs
    → test (slice_index_or xs k Unknown) ≡ true → list_any test xs ≡ true
any-here test [] k le e = absurd (omega (arith, le))
any-here test (y ∷ ys) zero le e = or-left (test y) (list_any test ys) e
any-here test (y ∷ ys) (suc k) le e = or-right (test y) (list_any test ys) (any-here test ys k (omega (arith, le)) e)

module _ (project : Project) (grid : Grid) (standing : OpenStanding) (row : Record) where
  -- The seconds of what is watched and of the clock are the same.
  record AreSame (cap earliest latest other sooner later : ℕ) : Type 0 where
    caps : cap ≡ other
    earliests : earliest ≡ sooner
    latests : latest ≡ later

  same : (cap earliest latest other sooner later : ℕ) → AreSeconds project grid standing.known row cap earliest latest
      → AreSeconds project grid standing.known row other sooner later
      → AreSame cap earliest latest other sooner later
  same cap earliest latest other sooner later x y =
      let sum = least-is-one _ (standing.known.time + cap) (standing.known.time + other) x.is_cap y.is_cap in
      let e : cap ≡ other = omega (arith, sum) in
      record {
        caps = e;
        earliests = least-is-one _ earliest sooner
            (subst (λ c. IsEarliestWatched project grid standing.known row c earliest) e x.is_earliest) y.is_earliest;
        latests = least-is-one _ latest later
            (subst (λ c. IsLatestWatched project grid standing.known row c latest) e x.is_latest) y.is_latest;
      }

  abbrev Matter : ℕ → Type 0
  Matter seconds = RulesMatterOver project grid standing row seconds

  one-first : (a b : ℕ) → IsLeast Matter a → IsLeast Matter b → a ≡ b
  one-first a b x y = least-is-one Matter a b x y

  -- a rule that is found open is open
  is-open : (seconds : ℕ) (open_rule : OpenRule) → IsOpenRuleOver project grid standing row seconds open_rule
      → SomeRuleIsOpen project grid standing row seconds
  is-open seconds open_rule is =
      let found = position-Some is_unknown (open_rule_truths project grid standing row seconds) open_rule.rule Unknown
      is.first_rule in
      any-here is_unknown (open_rule_truths project grid standing row seconds) open_rule.rule found.0 found.1

  closed-elsewhere : (a b : ℕ) → a ≡ b → (SomeRuleIsOpen project grid standing row a → ⊥)
      → SomeRuleIsOpen project grid standing row b → ⊥
  closed-elsewhere a b e none open_there =
      none (subst (λ k. SomeRuleIsOpen project grid standing row k) (sym e) open_there)

  same-rule : (seconds : ℕ) (a b : OpenRule) → IsOpenRuleOver project grid standing row seconds a
      → IsOpenRuleOver project grid standing row seconds b → a ≡ b
  same-rule seconds a b x y =
      let rule : a.rule ≡ b.rule = (let p = x.first_rule in let q = y.first_rule in cc) in
      let rules : x.rule ≡ y.rule = (let p = x.is_rule in let q = y.is_rule in cc) in
      let clause : a.clause ≡ b.clause = (let p = x.clause_is.first_clause in let q = y.clause_is.first_clause in cc) in
      let each : x.clause_is.each ≡ y.clause_is.each = (let p = x.clause_is.is_clause in
      let q = y.clause_is.is_clause in cc) in
      let lo : a.lo ≡ b.lo = x.clause_is.lo_is
      ∙ (ap (λ (c : RuleClause). floor (measured project 1
      (readings_below_over project grid standing.known row (seconds - standing.late) seconds)
      c.clause.what)) each ∙ sym y.clause_is.lo_is) in
      let hi : a.hi ≡ b.hi = x.clause_is.hi_is
      ∙ (ap (λ (c : RuleClause). ceiling (measured project 1
      (readings_above_over project grid standing.known row (seconds - standing.late) seconds)
      c.clause.what)) each ∙ sym y.clause_is.hi_is) in
      λ i. record { rule = rule i; clause = clause i; lo = lo i; hi = hi i }

  same-rule-at : (s t : ℕ) (a b : OpenRule) → s ≡ t → IsOpenRuleOver project grid standing row s a
      → IsOpenRuleOver project grid standing row t b → a ≡ b
  same-rule-at s t a b e x y =
      same-rule t a b (subst (λ k. IsOpenRuleOver project grid standing row k a) e x) y

  -- ---- one way

  pub one_way : (a b : Way) → EndsIn project grid standing row a → EndsIn project grid standing row b → a ≡ b
  one_way _ _ (by_rules {seconds = i} x m after in_time closed) (by_rules {seconds = j} y n later in_time' closed') =
      ap ByRules (one-first i j m n)
  one_way _ _ (by_rules {cap = c} {earliest = e} {latest = l} {seconds = i} x m after in_time closed)
      (by_instant {cap = d} {earliest = f} {latest = k} y is none) = absurd (
      let s = same c e l d f k x y in let a = none i m.holds in let b = s.earliests in
      omega (arith, a, b, is, in_time))
  one_way _ _ (by_rules {cap = c} {earliest = e} {latest = l} {seconds = i} x m after in_time closed)
      (by_watched {cap = d} {earliest = f} {latest = k} y before none) = absurd (
      let s = same c e l d f k x y in let a = none i m.holds in let b = s.latests in let o = x.in_order in
      omega (arith, a, b, o, in_time))
  one_way _ _ (by_instant {cap = c} {earliest = e} {latest = l} x is none)
      (by_rules {cap = d} {earliest = f} {latest = k} {seconds = j} y n later in_time closed) = absurd (
      let s = same c e l d f k x y in let a = none j n.holds in let b = s.earliests in
      omega (arith, a, b, is, in_time))
  one_way _ _ (by_instant {cap = c} {earliest = e} {latest = l} x is none)
      (by_instant {cap = d} {earliest = f} {latest = k} y is' none') = ap ByInstant (same c e l d f k x y).caps
  one_way _ _ (by_instant {cap = c} {earliest = e} {latest = l} x is none)
      (by_watched {cap = d} {earliest = f} {latest = k} y before none') = absurd (
      let s = same c e l d f k x y in let a = s.caps in let b = s.earliests in let o = y.in_order in
      omega (arith, a, b, o, is, before))
  one_way _ _ (by_watched {cap = c} {earliest = e} {latest = l} x before none)
      (by_rules {cap = d} {earliest = f} {latest = k} {seconds = j} y n later in_time closed) = absurd (
      let s = same c e l d f k x y in let a = none j n.holds in let b = s.latests in let o = y.in_order in
      omega (arith, a, b, o, in_time))
  one_way _ _ (by_watched {cap = c} {earliest = e} {latest = l} x before none)
      (by_instant {cap = d} {earliest = f} {latest = k} y is none') = absurd (
      let s = same c e l d f k x y in let a = s.caps in let b = s.earliests in let o = x.in_order in
      omega (arith, a, b, o, is, before))
  one_way _ _ (by_watched {cap = c} {earliest = e} {latest = l} x before none)
      (by_watched {cap = d} {earliest = f} {latest = k} y before' none') =
      let s = same c e l d f k x y in λ i. ByWatched (s.earliests i) (s.latests i)

  -- ---- not both

  pub not_both : (slack : ℕ) (way : Way) (end : End) → EndsIn project grid standing row way
      → late_at_end standing.late way ≤ slack → IsFirstOpen project grid standing row slack end → ⊥
  not_both slack _ _ (by_rules {seconds = i} x m after in_time closed) within
      (rule_is_open {seconds = j} {open_rule = o} y n before is) =
      closed-elsewhere i j (one-first i j m n) closed (is-open j o is)
  not_both slack _ _ (by_rules {seconds = i} x m after in_time closed) within
      (rule_parts {seconds = j} y n before early closed') =
      let a = one-first i j m n in absurd (omega (arith, a, after, early))
  not_both slack _ _ (by_rules {cap = c} {earliest = e} {latest = l} {seconds = i} x m after in_time closed) within
      (too_wide {cap = d} {earliest = f} {latest = k} y none before wide) =
      let s = same c e l d f k x y in let a = none i m.holds in let b = s.earliests in
      absurd (omega (arith, a, b, in_time))
  not_both slack _ _ (by_rules {cap = c} {earliest = e} {latest = l} {seconds = i} x m after in_time closed) within
      (rule_is_open_between {cap = d} {earliest = f} {latest = k} {seconds = j} y before narrow n later by is) =
      let s = same c e l d f k x y in let a = one-first i j m n in let b = s.earliests in
      absurd (omega (arith, a, b, in_time, later))
  not_both slack _ _ (by_rules {cap = c} {earliest = e} {latest = l} {seconds = i} x m after in_time closed) within
      (rule_acts_between {cap = d} {earliest = f} {latest = k} {seconds = j} y before narrow n later by closed') =
      let s = same c e l d f k x y in let a = one-first i j m n in let b = s.earliests in
      absurd (omega (arith, a, b, in_time, later))
  not_both slack _ _ (by_instant {cap = c} {earliest = e} {latest = l} x is none) within
      (rule_is_open {cap = d} {earliest = f} {latest = k} {seconds = j} y n before is') =
      let s = same c e l d f k x y in let a = none j n.holds in let b = s.earliests in
      absurd (omega (arith, a, b, is, before))
  not_both slack _ _ (by_instant {cap = c} {earliest = e} {latest = l} x is none) within
      (rule_parts {cap = d} {earliest = f} {latest = k} {seconds = j} y n before early closed) =
      let s = same c e l d f k x y in let a = none j n.holds in let b = s.earliests in
      absurd (omega (arith, a, b, is, before))
  not_both slack _ _ (by_instant {cap = c} {earliest = e} {latest = l} x is none) within
      (too_wide {cap = d} {earliest = f} {latest = k} y none' before wide) =
      let s = same c e l d f k x y in let a = s.caps in let b = s.earliests in
      absurd (omega (arith, a, b, is, before))
  not_both slack _ _ (by_instant {cap = c} {earliest = e} {latest = l} x is none) within
      (rule_is_open_between {cap = d} {earliest = f} {latest = k} {seconds = j} y before narrow n later by is') =
      let s = same c e l d f k x y in let a = none j n.holds in let b = s.caps in
      absurd (omega (arith, a, b, by, before))
  not_both slack _ _ (by_instant {cap = c} {earliest = e} {latest = l} x is none) within
      (rule_acts_between {cap = d} {earliest = f} {latest = k} {seconds = j} y before narrow n later by closed) =
      let s = same c e l d f k x y in let a = none j n.holds in let b = s.caps in
      absurd (omega (arith, a, b, by, before))
  not_both slack _ _ (by_watched {cap = c} {earliest = e} {latest = l} x before none) within
      (rule_is_open {cap = d} {earliest = f} {latest = k} {seconds = j} y n in_time is) =
      let s = same c e l d f k x y in let a = none j n.holds in let b = s.latests in let o = y.in_order in
      absurd (omega (arith, a, b, o, in_time))
  not_both slack _ _ (by_watched {cap = c} {earliest = e} {latest = l} x before none) within
      (rule_parts {cap = d} {earliest = f} {latest = k} {seconds = j} y n in_time early closed) =
      let s = same c e l d f k x y in let a = none j n.holds in let b = s.latests in let o = y.in_order in
      absurd (omega (arith, a, b, o, in_time))
  not_both slack _ _ (by_watched {cap = c} {earliest = e} {latest = l} x before none) within
      (too_wide {cap = d} {earliest = f} {latest = k} y none' sooner wide) =
      let s = same c e l d f k x y in let p = s.caps in let q = s.earliests in let r = s.latests in
      elim wide [
        | inl beyond ↦ absurd (omega (arith, p, r, before, beyond))
        | inr more ↦ absurd (omega (arith, q, r, within, more))
      ]
  not_both slack _ _ (by_watched {cap = c} {earliest = e} {latest = l} x before none) within
      (rule_is_open_between {cap = d} {earliest = f} {latest = k} {seconds = j} y before' narrow n later by is) =
      let s = same c e l d f k x y in let a = none j n.holds in let b = s.latests in
      absurd (omega (arith, a, b, by))
  not_both slack _ _ (by_watched {cap = c} {earliest = e} {latest = l} x before none) within
      (rule_acts_between {cap = d} {earliest = f} {latest = k} {seconds = j} y before' narrow n later by closed) =
      let s = same c e l d f k x y in let a = none j n.holds in let b = s.latests in
      absurd (omega (arith, a, b, by))

  -- ---- one first open matter

  pub one_open : (slack : ℕ) (a b : End) → IsFirstOpen project grid standing row slack a
      → IsFirstOpen project grid standing row slack b → a ≡ b
  one_open slack _ _
      (rule_is_open {cap = c} {earliest = e} {latest = l} {seconds = i} {open_rule = o} x m before is)
      (rule_is_open {cap = d} {earliest = f} {latest = k} {seconds = j} {open_rule = q} y n before' is') =
      ap RuleIsOpen (same-rule-at i j o q (one-first i j m n) is is')
  one_open slack _ _
      (rule_is_open {cap = c} {earliest = e} {latest = l} {seconds = i} {open_rule = o} x m before is)
      (rule_parts {cap = d} {earliest = f} {latest = k} {seconds = j} y n before' early' closed') =
      absurd (closed-elsewhere j i (sym (one-first i j m n)) closed' (is-open i o is))
  one_open slack _ _
      (rule_is_open {cap = c} {earliest = e} {latest = l} {seconds = i} {open_rule = o} x m before is)
      (too_wide {cap = d} {earliest = f} {latest = k} y none' sooner' wide') =
      let s = same c e l d f k x y in let t = none' i m.holds in let u = s.earliests in
      absurd (omega (arith, t, u, before))
  one_open slack _ _
      (rule_is_open {cap = c} {earliest = e} {latest = l} {seconds = i} {open_rule = o} x m before is)
      (rule_is_open_between {cap = d} {earliest = f} {latest = k} {seconds = j} {open_rule = q} y in_time' narrow' n
      later' by' is') =
      let s = same c e l d f k x y in let t = one-first i j m n in let u = s.earliests in
      absurd (omega (arith, t, u, before, later'))
  one_open slack _ _
      (rule_is_open {cap = c} {earliest = e} {latest = l} {seconds = i} {open_rule = o} x m before is)
      (rule_acts_between {cap = d} {earliest = f} {latest = k} {seconds = j} y in_time' narrow' n later' by' closed') =
      let s = same c e l d f k x y in let t = one-first i j m n in let u = s.earliests in
      absurd (omega (arith, t, u, before, later'))
  one_open slack _ _
      (rule_parts {cap = c} {earliest = e} {latest = l} {seconds = i} x m before early closed)
      (rule_is_open {cap = d} {earliest = f} {latest = k} {seconds = j} {open_rule = q} y n before' is') =
      absurd (closed-elsewhere i j (one-first i j m n) closed (is-open j q is'))
  one_open slack _ _
      (rule_parts {cap = c} {earliest = e} {latest = l} {seconds = i} x m before early closed)
      (rule_parts {cap = d} {earliest = f} {latest = k} {seconds = j} y n before' early' closed') =
      let s = same c e l d f k x y in let t = one-first i j m n in
      λ i. EventIsOpen (t i) (last_end standing.late (s.latests i) (s.caps i))
  one_open slack _ _
      (rule_parts {cap = c} {earliest = e} {latest = l} {seconds = i} x m before early closed)
      (too_wide {cap = d} {earliest = f} {latest = k} y none' sooner' wide') =
      let s = same c e l d f k x y in let t = none' i m.holds in let u = s.earliests in
      absurd (omega (arith, t, u, before))
  one_open slack _ _
      (rule_parts {cap = c} {earliest = e} {latest = l} {seconds = i} x m before early closed)
      (rule_is_open_between {cap = d} {earliest = f} {latest = k} {seconds = j} {open_rule = q} y in_time' narrow' n
      later' by' is') =
      let s = same c e l d f k x y in let t = one-first i j m n in let u = s.earliests in
      absurd (omega (arith, t, u, before, later'))
  one_open slack _ _
      (rule_parts {cap = c} {earliest = e} {latest = l} {seconds = i} x m before early closed)
      (rule_acts_between {cap = d} {earliest = f} {latest = k} {seconds = j} y in_time' narrow' n later' by' closed') =
      let s = same c e l d f k x y in let t = one-first i j m n in let u = s.earliests in
      absurd (omega (arith, t, u, before, later'))
  one_open slack _ _
      (too_wide {cap = c} {earliest = e} {latest = l} x none sooner wide)
      (rule_is_open {cap = d} {earliest = f} {latest = k} {seconds = j} {open_rule = q} y n before' is') =
      let s = same c e l d f k x y in let t = none j n.holds in let u = s.earliests in
      absurd (omega (arith, t, u, before'))
  one_open slack _ _
      (too_wide {cap = c} {earliest = e} {latest = l} x none sooner wide)
      (rule_parts {cap = d} {earliest = f} {latest = k} {seconds = j} y n before' early' closed') =
      let s = same c e l d f k x y in let t = none j n.holds in let u = s.earliests in
      absurd (omega (arith, t, u, before'))
  one_open slack _ _
      (too_wide {cap = c} {earliest = e} {latest = l} x none sooner wide)
      (too_wide {cap = d} {earliest = f} {latest = k} y none' sooner' wide') =
      let s = same c e l d f k x y in λ i. EventIsOpen (s.earliests i) (last_end standing.late (s.latests i) (s.caps i))
  one_open slack _ _
      (too_wide {cap = c} {earliest = e} {latest = l} x none sooner wide)
      (rule_is_open_between {cap = d} {earliest = f} {latest = k} {seconds = j} {open_rule = q} y in_time' narrow' n
      later' by' is') =
      let s = same c e l d f k x y in let u = s.caps in let v = s.earliests in let w = s.latests in elim wide [
        | inl beyond ↦ absurd (omega (arith, u, w, in_time', beyond))
        | inr more ↦ absurd (omega (arith, v, w, narrow', more))
      ]
  one_open slack _ _
      (too_wide {cap = c} {earliest = e} {latest = l} x none sooner wide)
      (rule_acts_between {cap = d} {earliest = f} {latest = k} {seconds = j} y in_time' narrow' n later' by' closed') =
      let s = same c e l d f k x y in let u = s.caps in let v = s.earliests in let w = s.latests in elim wide [
        | inl beyond ↦ absurd (omega (arith, u, w, in_time', beyond))
        | inr more ↦ absurd (omega (arith, v, w, narrow', more))
      ]
  one_open slack _ _
      (rule_is_open_between {cap = c} {earliest = e} {latest = l} {seconds = i} {open_rule = o} x in_time narrow m
      later by is)
      (rule_is_open {cap = d} {earliest = f} {latest = k} {seconds = j} {open_rule = q} y n before' is') =
      let s = same c e l d f k x y in let t = one-first i j m n in let u = s.earliests in
      absurd (omega (arith, t, u, later, before'))
  one_open slack _ _
      (rule_is_open_between {cap = c} {earliest = e} {latest = l} {seconds = i} {open_rule = o} x in_time narrow m
      later by is)
      (rule_parts {cap = d} {earliest = f} {latest = k} {seconds = j} y n before' early' closed') =
      let s = same c e l d f k x y in let t = one-first i j m n in let u = s.earliests in
      absurd (omega (arith, t, u, later, before'))
  one_open slack _ _
      (rule_is_open_between {cap = c} {earliest = e} {latest = l} {seconds = i} {open_rule = o} x in_time narrow m
      later by is)
      (too_wide {cap = d} {earliest = f} {latest = k} y none' sooner' wide') =
      let s = same c e l d f k x y in let u = s.caps in let v = s.earliests in let w = s.latests in elim wide' [
        | inl beyond ↦ absurd (omega (arith, u, w, in_time, beyond))
        | inr more ↦ absurd (omega (arith, v, w, narrow, more))
      ]
  one_open slack _ _
      (rule_is_open_between {cap = c} {earliest = e} {latest = l} {seconds = i} {open_rule = o} x in_time narrow m
      later by is)
      (rule_is_open_between {cap = d} {earliest = f} {latest = k} {seconds = j} {open_rule = q} y in_time' narrow' n
      later' by' is') =
      ap RuleIsOpen (same-rule-at i j o q (one-first i j m n) is is')
  one_open slack _ _
      (rule_is_open_between {cap = c} {earliest = e} {latest = l} {seconds = i} {open_rule = o} x in_time narrow m
      later by is)
      (rule_acts_between {cap = d} {earliest = f} {latest = k} {seconds = j} y in_time' narrow' n later' by' closed') =
      absurd (closed-elsewhere j i (sym (one-first i j m n)) closed' (is-open i o is))
  one_open slack _ _
      (rule_acts_between {cap = c} {earliest = e} {latest = l} {seconds = i} x in_time narrow m later by closed)
      (rule_is_open {cap = d} {earliest = f} {latest = k} {seconds = j} {open_rule = q} y n before' is') =
      let s = same c e l d f k x y in let t = one-first i j m n in let u = s.earliests in
      absurd (omega (arith, t, u, later, before'))
  one_open slack _ _
      (rule_acts_between {cap = c} {earliest = e} {latest = l} {seconds = i} x in_time narrow m later by closed)
      (rule_parts {cap = d} {earliest = f} {latest = k} {seconds = j} y n before' early' closed') =
      let s = same c e l d f k x y in let t = one-first i j m n in let u = s.earliests in
      absurd (omega (arith, t, u, later, before'))
  one_open slack _ _
      (rule_acts_between {cap = c} {earliest = e} {latest = l} {seconds = i} x in_time narrow m later by closed)
      (too_wide {cap = d} {earliest = f} {latest = k} y none' sooner' wide') =
      let s = same c e l d f k x y in let u = s.caps in let v = s.earliests in let w = s.latests in elim wide' [
        | inl beyond ↦ absurd (omega (arith, u, w, in_time, beyond))
        | inr more ↦ absurd (omega (arith, v, w, narrow, more))
      ]
  one_open slack _ _
      (rule_acts_between {cap = c} {earliest = e} {latest = l} {seconds = i} x in_time narrow m later by closed)
      (rule_is_open_between {cap = d} {earliest = f} {latest = k} {seconds = j} {open_rule = q} y in_time' narrow' n
      later' by' is') =
      absurd (closed-elsewhere i j (one-first i j m n) closed (is-open j q is'))
  one_open slack _ _
      (rule_acts_between {cap = c} {earliest = e} {latest = l} {seconds = i} x in_time narrow m later by closed)
      (rule_acts_between {cap = d} {earliest = f} {latest = k} {seconds = j} y in_time' narrow' n later' by' closed') =
      let s = same c e l d f k x y in let t = one-first i j m n in
      λ i. EventIsOpen (s.earliests i) (last_end standing.late (s.latests i) (s.caps i))
