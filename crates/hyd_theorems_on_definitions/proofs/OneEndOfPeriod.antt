-- A record decides one end of its period.
use Rattle.std.proofs.Common.{◌≡◌, ℕ, zero, suc, ◌<◌, Bool, true, false, IsFalse, List, [], ◌∷◌, length, sym, ap, subst}
use Rattle.std.proofs.Common.{◌∙◌, arith, ◌≢◌}
use Rattle.std.specs.Prelude.{Some, position, slice_index_or}
use Rattle.std.specs.List.{list_any}
use Rattle.std.proofs.lemmas.List.Quantifiers.{position-Some}
use Rattle.hyd_spec.specs.ProgramTypes.{Project, RuleClause, LinkState}
use Rattle.hyd_spec.specs.PeriodLength.{IsLeast}
use Rattle.hyd_spec_certificates.specs.PeriodNetwork.{Grid}
use Rattle.hyd_spec.specs.Rules.{measured}
use Rattle.hyd_spec_certificates.specs.RecordAndStanding.{Record, Standing}
use Rattle.hyd_spec_certificates.specs.declared.Verdict.TheVariants.{Unknown}
use Rattle.hyd_spec_certificates.specs.ThreeValuedLogic.{is_unknown}
use Rattle.hyd_num.specs.Rational.{floor, ceiling}
use Rattle.hyd_spec_certificates.specs.Decided.{OpenRule, IsOpenRule, IsFirstMatter, NoRuleMatters, rule_truths}
use Rattle.hyd_spec_certificates.specs.Decided.{readings_below, readings_above, End, ByRules, WithoutRules, RuleIsOpen}
use Rattle.hyd_spec_certificates.specs.Decided.{EventIsOpen, EndsBy, by_rules, rule_is_open, by_clock, event_is_open}
use Rattle.hyd_spec_certificates.specs.Valid.{LeavesLinks, by_rules as left_by_rules, by_clock as left_by_clock}
use Rattle.hyd_lemmas.proofs.BooleanTests.{or-left, or-right}

least_is_one : (P : ℕ → Type 0) (a b : ℕ) → IsLeast P a → IsLeast P b → a ≡ b
least_is_one P a b x y = let l = x.least b y.holds in let m = y.least a x.holds in omega (arith, l, m)

any_here : (X : Type 0) (test : X → Bool) (xs : List X) (k : ℕ) (d : X) → k < length xs
    → test (slice_index_or xs k d) ≡ true → list_any test xs ≡ true
any_here X test [] k d le e = absurd (omega (arith, le))
any_here X test (y ∷ ys) zero d le e = or-left (test y) (list_any test ys) e
any_here X test (y ∷ ys) (suc k) d le e = or-right (test y) (list_any test ys)
    (any_here X test ys k d (omega (arith, le)) e)

found_passes : (X : Type 0) (test : X → Bool) (xs : List X) (k : ℕ) (d : X) → position test xs ≡ Some k
    → list_any test xs ≡ true
found_passes X test xs k d e = let found = position-Some test xs k d e in any_here X test xs k d found.0 found.1

module _ (project : Project) (grid : Grid) (standing : Standing) (row : Record) where
  abbrev pub Ends : End → Type 0
  Ends e = EndsBy project grid standing row e

  -- rules matter by the earliest end or they don't
  not_both : (s e : ℕ) → IsFirstMatter project grid standing row s → NoRuleMatters project grid standing row e → ⊥
  not_both s e m n =
      let same = least_is_one _ m.earliest e m.is_earliest n.is_earliest in
      let l = n.none s m.first.holds in
      let within = m.in_time in
      omega (arith, same, l, within)

  not_open : (s t : ℕ) (open_rule : OpenRule) → IsFirstMatter project grid standing row s
      → IsFirstMatter project grid standing row t
      → IsFalse (list_any is_unknown (rule_truths project grid standing row s))
      → IsOpenRule project grid standing row t open_rule → ⊥
  not_open s t open_rule m n decided is =
      let same = least_is_one _ s t m.first n.first in
      let found = found_passes _ is_unknown (rule_truths project grid standing row t) open_rule.rule Unknown
      is.first_rule in
      let other = subst (λ (k : ℕ). list_any is_unknown (rule_truths project grid standing row k) ≡ false) same
      decided in
      cc

  same_rule : (s : ℕ) (a b : OpenRule) → IsOpenRule project grid standing row s a
      → IsOpenRule project grid standing row s b → a ≡ b
  same_rule s a b x y =
      let rule : a.rule ≡ b.rule = (let p = x.first_rule in let q = y.first_rule in cc) in
      let rules : x.rule ≡ y.rule = (let p = x.is_rule in let q = y.is_rule in cc) in
      let clause : a.clause ≡ b.clause = (let p = x.clause_is.first_clause in let q = y.clause_is.first_clause in cc) in
      let each : x.clause_is.each ≡ y.clause_is.each = (let p = x.clause_is.is_clause in
      let q = y.clause_is.is_clause in cc) in
      let lo : a.lo ≡ b.lo = x.clause_is.lo_is
      ∙ (ap (λ (c : RuleClause). floor (measured project 1 (readings_below project grid standing row s)
      c.clause.what)) each ∙ sym y.clause_is.lo_is) in
      let hi : a.hi ≡ b.hi = x.clause_is.hi_is
      ∙ (ap (λ (c : RuleClause). ceiling (measured project 1 (readings_above project grid standing row s)
      c.clause.what)) each ∙ sym y.clause_is.hi_is) in
      λ i. record { rule = rule i; clause = clause i; lo = lo i; hi = hi i }

  pub one_end : (a b : End) → Ends a → Ends b → a ≡ b
  one_end _ _ (by_rules {seconds = s} m f) (by_rules {seconds = t} n g) = ap ByRules
      (least_is_one _ s t m.first n.first)
  one_end _ _ (by_rules {seconds = s} m f) (rule_is_open {seconds = t} {open_rule = o} n is) =
      absurd (not_open s t o m n f is)
  one_end _ _ (by_rules {seconds = s} m f) (by_clock {second = e} n l) = absurd (not_both s e m n)
  one_end _ _ (by_rules {seconds = s} m f) (event_is_open {earliest = e} n l ne) = absurd (not_both s e m n)
  one_end _ _ (rule_is_open {seconds = s} {open_rule = o} m is) (by_rules {seconds = t} n g) =
      absurd (not_open t s o n m g is)
  one_end _ _ (rule_is_open {seconds = s} {open_rule = a} m is) (rule_is_open {seconds = t} {open_rule = b} n too) =
      ap RuleIsOpen (same_rule s a b is (subst (λ (k : ℕ). IsOpenRule project grid standing row k b)
      (sym (least_is_one _ s t m.first n.first)) too))
  one_end _ _ (rule_is_open {seconds = s} m is) (by_clock {second = e} n l) = absurd (not_both s e m n)
  one_end _ _ (rule_is_open {seconds = s} m is) (event_is_open {earliest = e} n l ne) = absurd (not_both s e m n)
  one_end _ _ (by_clock {second = e} n l) (by_rules {seconds = s} m f) = absurd (not_both s e m n)
  one_end _ _ (by_clock {second = e} n l) (rule_is_open {seconds = s} m is) = absurd (not_both s e m n)
  one_end _ _ (by_clock {second = d} n l) (by_clock {second = e} m k) = ap WithoutRules
      (least_is_one _ d e n.is_earliest m.is_earliest)
  one_end _ _ (by_clock {second = d} n l) (event_is_open {earliest = e} {latest = f} m k ne) =
      absurd (ne (least_is_one _ e d m.is_earliest n.is_earliest ∙ least_is_one _ d f l k))
  one_end _ _ (event_is_open {earliest = e} n l ne) (by_rules {seconds = s} m f) = absurd (not_both s e m n)
  one_end _ _ (event_is_open {earliest = e} n l ne) (rule_is_open {seconds = s} m is) = absurd (not_both s e m n)
  one_end _ _ (event_is_open {earliest = e} {latest = f} m k ne) (by_clock {second = d} n l) =
      absurd (ne (least_is_one _ e d m.is_earliest n.is_earliest ∙ least_is_one _ d f l k))
  one_end _ _ (event_is_open {earliest = a} {latest = b} n l ne) (event_is_open {earliest = c} {latest = d} m k nf) =
      let first = least_is_one _ a c n.is_earliest m.is_earliest in
      let last = least_is_one _ b d l k in
      λ i. EventIsOpen (first i) (last i)

  -- a period that ends in some way doesn't begin at the end of the run
  pub not-last : (e : End) → Ends e → standing.time ≢ project.times.duration
  not-last _ (by_rules m f) = m.not_last
  not-last _ (rule_is_open m is) = m.not_last
  not-last _ (by_clock n l) = n.not_last
  not-last _ (event_is_open n l ne) = n.not_last

  pub leaves-not-last : (seconds : ℕ) (links : List LinkState) → LeavesLinks project grid standing row seconds links
      → standing.time ≢ project.times.duration
  leaves-not-last seconds _ (left_by_rules e) = not-last (ByRules seconds) e
  leaves-not-last seconds _ (left_by_clock e) = not-last (WithoutRules seconds) e

  -- a decided end is one, and isn't open
  pub leaves-one : (s t : ℕ) (links others : List LinkState) → LeavesLinks project grid standing row s links
      → LeavesLinks project grid standing row t others → s ≡ t
  leaves-one s t _ _ (left_by_rules e) (left_by_rules f) = let same = one_end (ByRules s)
      (ByRules t) e f in cc
  leaves-one s t _ _ (left_by_rules e) (left_by_clock f) = absurd
      (let same = one_end (ByRules s) (WithoutRules t) e f in cc)
  leaves-one s t _ _ (left_by_clock e) (left_by_rules f) = absurd
      (let same = one_end (WithoutRules s) (ByRules t) e f in cc)
  leaves-one s t _ _ (left_by_clock e) (left_by_clock f) = let same = one_end
      (WithoutRules s) (WithoutRules t) e f in cc

  pub leaves-no-rule : (s : ℕ) (links : List LinkState) (open_rule : OpenRule)
      → LeavesLinks project grid standing row s links
      → EndsBy project grid standing row (RuleIsOpen open_rule) → ⊥
  leaves-no-rule s _ open_rule (left_by_rules e) f = absurd (let same = one_end (ByRules s)
      (RuleIsOpen open_rule) e f in cc)
  leaves-no-rule s _ open_rule (left_by_clock e) f = absurd (let same = one_end
      (WithoutRules s) (RuleIsOpen open_rule) e f in cc)

  pub leaves-no-event : (s : ℕ) (links : List LinkState) (earliest latest : ℕ)
      → LeavesLinks project grid standing row s links
      → EndsBy project grid standing row (EventIsOpen earliest latest) → ⊥
  leaves-no-event s _ earliest latest (left_by_rules e) f = absurd
      (let same = one_end (ByRules s) (EventIsOpen earliest latest) e f in cc)
  leaves-no-event s _ earliest latest (left_by_clock e) f = absurd
      (let same = one_end (WithoutRules s) (EventIsOpen earliest latest) e f in cc)
