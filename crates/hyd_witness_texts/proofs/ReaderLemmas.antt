-- What a reader answers behind some periods and at the start of a witness.
use Rattle.std.proofs.Common.{◌≡◌, ◌≢◌, ℕ, ◌+◌, ◌<◌, ◌^◌, Option, Some, None, IfSome, List, [], ◌++◌, Result, Ok, Err}
use Rattle.std.proofs.Common.{IfOk, IfErr, sym, ap, subst, ◌∙◌, arith}
use Rattle.hyd_io.specs.DeskBytes.{prepend_known, where_told}
use Rattle.hyd_io.proofs.MovedBytesLemmas.{prepend_known-prepend_known}
use Rattle.hyd_io.specs.declared.desk.Faults.{Faults}
use Rattle.hyd_spec_witnesses.specs.MetPeriods.{Moment as Row}
use Rattle.hyd_spec_witnesses.specs.WitnessText.{Counts, IsMoment, IsScale, moment_line, moment_text, witness_header}
use Rattle.hyd_spec_witnesses.specs.WitnessText.{witness_end}
use Rattle.hyd_spec_witnesses.specs.FaultyLine.{IsWitness}
use Rattle.hyd_cert.specs.Faults.{lines_on}
use Rattle.hyd_witness_texts.specs.Lines.{IsHeaderLine}
use Rattle.hyd_witness_texts.specs.PeriodOrEndLine.{IsPeriodOrEnd}
use Rattle.hyd_witness_texts.specs.FirstFaults.{IsLineFault, IsTextFault, IsFaultOf, IsFaultAtFront, OnGrammar}
use Rattle.hyd_witness_texts.specs.PartsOfWitness.{AreLists, IsRest, LacksMoment, HasValues, lists_text, list_lines}
use Rattle.hyd_witness_texts.specs.ReaderView.{CanCome, LacksNext, IsScaleAt, OnMoment, OnEnd}
use Rattle.hyd_witness_texts.specs.ReaderView.{reached_by, lead_lines}
use Rattle.hyd_witness_texts.specs.MomentView.{HasCounts}
use Rattle.hyd_witness_texts.specs.declared.answers_of_reader.Stand.{Stand}
use Rattle.hyd_witness_texts.specs.declared.answers_of_reader.Stand.TheVariants as stand
use Rattle.hyd_witness_texts.specs.declared.answers_of_reader.WitnessFault.{WitnessFault}
use Rattle.hyd_witness_texts.specs.declared.answers_of_reader.WitnessFault.TheVariants.{Read, Grammar}
use Rattle.hyd_witness_texts.specs.declared.answers_of_reader.WitnessNext.{WitnessNext}
use Rattle.hyd_witness_texts.specs.declared.answers_of_reader.WitnessNext.TheVariants.{Moment, End}
use Rattle.hyd_witness_texts.proofs.FirstFaultLemmas.{text_stuck_here, text_stuck_behind}
use Rattle.hyd_witness_texts.proofs.RestOfWitness.{AreSmall, AreSmallCounts, period_text, stuck_between, stuck_in_lists}
use Rattle.hyd_witness_texts.proofs.RestOfWitness.{stuck_over, none_between, none_in_lists, none_at_end, stuck_first}
use Rattle.hyd_witness_texts.proofs.RestOfWitness.{stuck_behind_header, none_at_first, none_behind_header}

module _ (counts : Counts) (periods : ℕ) where
  -- no PERIOD line and no END line is next
  pub no_next : (line : ℕ) (text : Option (List ℕ)) (before now : Faults) (fault : WitnessFault) → periods < 2 ^ 32
      → IsLineFault (IsPeriodOrEnd periods) line text before now fault
      → IsTextFault (IsFaultOf (IsRest counts periods)) line text before now fault
  no_next line text before now fault fits h =
      text_stuck_here (IsFaultOf (IsRest counts periods)) (IsPeriodOrEnd periods) line text before now fault
      (stuck_between counts periods fits) h

  pub no_next_moment : (line : ℕ) (text : Option (List ℕ)) (before now : Faults) (fault : WitnessFault)
      → IsLineFault (IsPeriodOrEnd periods) line text before now fault
      → OnGrammar fault (LacksMoment counts periods text)
  no_next_moment line text before now Read h = tt
  no_next_moment line text before now (Grammar number) h = none_between counts periods text h.1

  -- a fault in the lists behind a PERIOD line
  module _ (number time seconds : ℕ) (small : AreSmall number time seconds) (l0 l1 : ℕ)
      (first rest : Option (List ℕ)) (before counted now : Faults) (fault : WitnessFault)
      (text : first ≡ prepend_known (period_text number time seconds) rest)
      (h : IsTextFault (IsFaultAtFront (AreLists counts)) l1 rest counted now fault) where
    pub in_lists : periods + 1 < 2 ^ 32 → l1 ≡ lines_on l0 1 → counted ≡ before
        → IsTextFault (IsFaultOf (IsRest counts periods)) l0 first before now fault
    in_lists more at same =
        text_stuck_behind (IsFaultAtFront (AreLists counts)) (IsFaultOf (IsRest counts periods))
        (period_text number time seconds) 1 l0 l1 first rest before counted now fault text at same
        (stuck_in_lists counts periods number time seconds small more) h

    pub no_moment_in_lists : OnGrammar fault (LacksMoment counts periods first)
    no_moment_in_lists = by fault rest text h
      where
        by : (f : WitnessFault) (r : Option (List ℕ)) → first ≡ prepend_known (period_text number time seconds) r
            → IsTextFault (IsFaultAtFront (AreLists counts)) l1 r counted now f
            → OnGrammar f (LacksMoment counts periods first)
        by Read r e k = tt
        by (Grammar n) None e k = λ m after is more same. absurd (cc (e, same))
        by (Grammar n) (Some t) e k = subst (LacksMoment counts periods) (sym e)
            (none_in_lists counts periods number time seconds small t k.0 k.1.1)

  -- something behind the END line
  pub over_fault : (first rest : Option (List ℕ)) → periods < 2 ^ 32 → first ≡ prepend_known (witness_end periods) rest
      → rest ≢ Some [] → IfSome first (λ t. IsFaultOf (IsRest counts periods) t 2)
  over_fault first None fits e more = subst (λ (o : Option (List ℕ)). IfSome o (λ t.
      IsFaultOf (IsRest counts periods) t 2)) (sym e) tt
  over_fault first (Some t) fits e more = subst (λ (o : Option (List ℕ)). IfSome o (λ t.
      IsFaultOf (IsRest counts periods) t 2)) (sym e)
      (stuck_over counts periods fits t (λ none. more (ap Some none)))

  pub no_moment_over : (first rest : Option (List ℕ)) → first ≡ prepend_known (witness_end periods) rest
      → LacksMoment counts periods first
  no_moment_over first None e = λ m after is more same. absurd (cc (e, same))
  no_moment_over first (Some t) e = subst (LacksMoment counts periods) (sym e) (none_at_end counts periods t)

-- ---- behind the header line

module _ (counts : Counts) (small : AreSmallCounts counts) where
  -- no header line is next
  pub no_header : (line : ℕ) (text : Option (List ℕ)) (before now : Faults) (fault : WitnessFault)
      → IsLineFault (IsHeaderLine counts) line text before now fault
      → IsTextFault (IsFaultOf (IsWitness counts)) line text before now fault
  no_header line text before now fault h =
      text_stuck_here (IsFaultOf (IsWitness counts)) (IsHeaderLine counts) line text before now fault
      (stuck_first counts small) h

  pub no_header_moment : (line : ℕ) (text : Option (List ℕ)) (before now : Faults) (fault : WitnessFault)
      → IsLineFault (IsHeaderLine counts) line text before now fault
      → OnGrammar fault (LacksNext counts stand.First text)
  no_header_moment line text before now Read h = tt
  no_header_moment line text before now (Grammar number) h = none_at_first counts small text h.1

  module _ (scale : ℕ) (is : IsScale scale) (first rest : Option (List ℕ))
      (text : first ≡ prepend_known (witness_header scale counts) rest) where
    pub behind_header : (l0 l1 : ℕ) (before counted now : Faults) (result : Result WitnessNext WitnessFault)
        → l1 ≡ lines_on l0 1 → counted ≡ before
        → IfErr result (IsTextFault (IsFaultOf (IsRest counts 0)) l1 rest counted now)
        → IfErr result (IsTextFault (IsFaultOf (IsWitness counts)) l0 first before now)
    behind_header l0 l1 before counted now (Ok next) at same h = tt
    behind_header l0 l1 before counted now (Err fault) at same h =
        text_stuck_behind (IsFaultOf (IsRest counts 0)) (IsFaultOf (IsWitness counts)) (witness_header scale counts) 1
        l0 l1 first rest before counted now fault text at same (stuck_behind_header counts small scale is) h

    pub no_moment_behind_header : (result : Result WitnessNext WitnessFault)
        → IfErr result (λ f. OnGrammar f (LacksMoment counts 0 rest))
        → IfErr result (λ f. OnGrammar f (LacksNext counts stand.First first))
    no_moment_behind_header (Ok next) h = tt
    no_moment_behind_header (Err Read) h = tt
    no_moment_behind_header (Err (Grammar n)) h = none_behind_header counts small scale is first rest text h

    pub first_moment : (result : Result WitnessNext WitnessFault) (moment : Row) (after : Option (List ℕ))
        → IfOk result (λ next. (reached_by next).scale ≡ scale)
        → IfOk result (λ next. OnMoment next (λ r. rest ≡ prepend_known (moment_text moment) after))
        → IfOk result (λ next. OnMoment next (λ r. first
        ≡ prepend_known (witness_header r.scale counts ++ moment_text moment) after))
    first_moment (Err fault) moment after same h = tt
    first_moment (Ok (End r)) moment after same h = tt
    first_moment (Ok (Moment r)) moment after same h =
        text ∙ (ap (prepend_known (witness_header scale counts)) h
        ∙ (prepend_known-prepend_known after (witness_header scale counts) (moment_text moment)
        ∙ ap (λ s. prepend_known (witness_header s counts ++ moment_text moment) after) (sym same)))

    told_end : (text_of_end a : List ℕ) (r0 r1 : Option (List ℕ)) → first ≡ prepend_known a r0
        → rest ≡ where_told r1 text_of_end → first ≡ where_told r0 (witness_header scale counts ++ text_of_end)
    told_end E a None r1 e is_end = e
    told_end E a (Some x) None e is_end = absurd (let none : first ≡ None = text
        ∙ ap (prepend_known (witness_header scale counts)) is_end in cc (e, none))
    told_end E a (Some x) (Some y) e is_end = text ∙ ap (prepend_known (witness_header scale counts)) is_end

    pub first_end : (result : Result WitnessNext WitnessFault) (a : List ℕ) (r0 r1 : Option (List ℕ))
        → first ≡ prepend_known a r0 → IfOk result (λ next. (reached_by next).scale ≡ scale)
        → IfOk result (λ next. OnEnd next (λ r. rest ≡ where_told r1 (witness_end r.periods)))
        → IfOk result (λ next. OnEnd next (λ r. first
        ≡ where_told r0 (witness_header r.scale counts ++ witness_end r.periods)))
    first_end (Err fault) a r0 r1 e same h = tt
    first_end (Ok (Moment r)) a r0 r1 e same h = tt
    first_end (Ok (End r)) a r0 r1 e same h =
        told_end (witness_end r.periods) a r0 r1 e h
        ∙ ap (λ s. where_told r0 (witness_header s counts ++ witness_end r.periods)) (sym same)

    pub first_scale : (result : Result WitnessNext WitnessFault)
        → IfOk result (λ next. (reached_by next).scale ≡ scale)
        → IfOk result (λ next. IsScaleAt stand.First (reached_by next).scale)
    first_scale (Err fault) same = tt
    first_scale (Ok next) same = subst IsScale (sym same) is

-- so many lines behind the header line
pub first_line : (l0 l1 l2 n : ℕ) (result : Result WitnessNext WitnessFault) → l1 ≡ lines_on l0 1
    → IfOk result (λ next. OnMoment next (λ r. l2 ≡ lines_on l1 (1 + n)))
    → IfOk result (λ next. OnMoment next (λ r. l2 ≡ lines_on l0 (2 + n)))
first_line l0 l1 l2 n (Err fault) at h = tt
first_line l0 l1 l2 n (Ok (End r)) at h = tt
first_line l0 l1 l2 n (Ok (Moment r)) at h = omega (arith, at, h)

-- ---- in other words for the reader's values

-- what is said of a period that was read
pub period_moved : (P Q : Type 0) (result answer : Result WitnessNext WitnessFault) → (P → Q) → result ≡ answer
    → IfOk result (λ next. OnMoment next (λ r. P)) → IfOk answer (λ next. OnMoment next (λ r. Q))
period_moved P Q result answer lemma same h = subst (λ r. IfOk r (λ next. OnMoment next (λ r. Q))) same (by result h)
  where
    by : (r : Result WitnessNext WitnessFault) → IfOk r (λ next. OnMoment next (λ r. P))
        → IfOk r (λ next. OnMoment next (λ r. Q))
    by (Err fault) k = tt
    by (Ok (End r)) k = tt
    by (Ok (Moment r)) k = lemma k

-- the moment that a call left, seen from what it was given: `m ≡ n` leads from the one to the other
pub lists_moved : (k k' : Counts) (n m : Row) → k ≡ k' → m ≡ n → HasCounts k n → HasCounts k' m
lists_moved k k' n m same_counts same h = subst (HasCounts k') (sym same) (subst (λ (c : Counts). HasCounts c n)
    same_counts h)

pub moment_moved : (k k' : Counts) (n m : Row) → k ≡ k' → m ≡ n → IsMoment k n → IsMoment k' m
moment_moved k k' n m same_counts same h = subst (IsMoment k') (sym same) (subst (λ (c : Counts). IsMoment c n)
    same_counts h)

pub line_moved : (l l' : ℕ) (at at' : Stand) (k k' : Counts) → l ≡ l' → at ≡ at' → k ≡ k'
    → lines_on l (lead_lines at + list_lines k) ≡ lines_on l' (lead_lines at' + list_lines k')
line_moved l l' at at' k k' same_line same_at same_counts =
    λ i. lines_on (same_line i) (lead_lines (same_at i) + list_lines (same_counts i))

module _ (counts counts' : Counts) (at at' : Stand) (text text' : Option (List ℕ))
    (result answer : Result WitnessNext WitnessFault) (same_counts : counts ≡ counts') (same_at : at ≡ at')
    (same_text : text ≡ text') (same_result : result ≡ answer) where
  pub fault_moved : (line line' : ℕ) (before now now' : Faults) → line ≡ line' → now ≡ now'
      → IfErr result (IsTextFault (IsFaultOf (CanCome counts at)) line text before now)
      → IfErr answer (IsTextFault (IsFaultOf (CanCome counts' at')) line' text' before now')
  fault_moved line line' before now now' same_line same_now h =
      subst (λ r. IfErr r (IsTextFault (IsFaultOf (CanCome counts' at')) line' text' before now')) same_result
      (subst (λ (f : Faults). IfErr result (IsTextFault (IsFaultOf (CanCome counts' at')) line' text' before f))
      same_now
      (subst (λ (t : Option (List ℕ)). IfErr result (IsTextFault (IsFaultOf (CanCome counts' at')) line' t before now))
      same_text
      (subst (λ (n : ℕ). IfErr result (IsTextFault (IsFaultOf (CanCome counts' at')) n text before now)) same_line
      (subst (λ (s : Stand). IfErr result (IsTextFault (IsFaultOf (CanCome counts' s)) line text before now)) same_at
      (subst (λ (k : Counts). IfErr result (IsTextFault (IsFaultOf (CanCome k at)) line text before now)) same_counts
      h)))))

  pub no_moment_moved : IfErr result (λ f. OnGrammar f (LacksNext counts at text))
      → IfErr answer (λ f. OnGrammar f (LacksNext counts' at' text'))
  no_moment_moved h =
      subst (λ r. IfErr r (λ f. OnGrammar f (LacksNext counts' at' text'))) same_result
      (subst (λ (t : Option (List ℕ)). IfErr result (λ f. OnGrammar f (LacksNext counts' at' t))) same_text
      (subst (λ (s : Stand). IfErr result (λ f. OnGrammar f (LacksNext counts' s text))) same_at
      (subst (λ (k : Counts). IfErr result (λ f. OnGrammar f (LacksNext k at text))) same_counts h)))

-- ---- a period that was read

module _ (m : Row) (number time seconds : ℕ) (same_number : m.number ≡ number) (same_time : m.time ≡ time)
    (same_length : m.length ≡ seconds) where
  pub moment_read : (first rest after : Option (List ℕ)) → first ≡ prepend_known (period_text number time seconds) rest
      → rest ≡ prepend_known (lists_text m) after → first ≡ prepend_known (moment_text m) after
  moment_read first rest after text read =
      let own : period_text number time seconds ≡ moment_line m = λ i. period_text (sym same_number i)
      (sym same_time i) (sym same_length i) in
      text ∙ (ap (prepend_known (period_text number time seconds)) read
      ∙ (prepend_known-prepend_known after (period_text number time seconds) (lists_text m)
      ∙ ap (λ p. prepend_known (p ++ lists_text m) after) own))

  pub moment_is : (counts : Counts) → AreSmall number time seconds → HasValues counts m → IsMoment counts m
  moment_is counts small values = record {
    number_fits = (let f = small.number_fits in omega (arith, f, same_number));
    time_fits = (let f = small.time_fits in omega (arith, f, same_time));
    length_fits = (let f = small.length_fits in omega (arith, f, same_length));
    heads = values.heads;
    flows = values.flows;
    demands = values.demands;
    emitters = values.emitters;
    levels = values.levels;
    volumes = values.volumes;
  }
