-- What is found of a witness where its periods end, and how far it is met one turn more.
use Rattle.std.proofs.Common.{◌≡◌, ℕ, ◌+◌, ◌^◌, ◌<◌, List, [], ◌∷◌, ◌++◌, length, map, refl, sym, ap}
use Rattle.std.proofs.Common.{subst, ◌∙◌, append_assoc, length-append, arith}
use Rattle.std.specs.Prelude.{Option, Some, None}
use Rattle.std.specs.List.{All}
use Rattle.std.proofs.lemmas.List.Elements.{All-nil}
use Rattle.std.proofs.lemmas.Nat.{pow_pos}
use Rattle.hyd_io.specs.declared.desk.Faults.{Faults}
use Rattle.hyd_io.specs.DeskBytes.{prepend_known, where_told}
use Rattle.hyd_net.specs.Sound.{IsSound}
use Rattle.hyd_spec.specs.ProgramTypes.{Project}
use Rattle.hyd_spec.specs.Lists.{joined}
use Rattle.hyd_lemmas.proofs.ListsOptionsAndResults.{join-more, same_item}
use Rattle.hyd_spec_witnesses.specs.MetPeriods.{Moment, AreMet, at_start}
use Rattle.hyd_spec_witnesses.specs.WitnessText.{Counts, IsScale, IsMoment, counts_of, witness_header, moment_text}
use Rattle.hyd_spec_witnesses.specs.WitnessText.{witness_end}
use Rattle.hyd_spec_witnesses.specs.FaultyLine.{IsWitness, IsFaultyLine}
use Rattle.hyd_spec_witness_answers.specs.PromisesOfWitnesses.{BeginsWithMoments, WitnessIsMet}
use Rattle.hyd_spec_witness_answers.specs.PromisesOfWitnesses.{meets_line}
use Rattle.hyd_theorems_on_histories.proofs.TruthsAndRuleValues.{each_of}
use Rattle.hyd_theorems_on_witnesses.proofs.MetHistories.{met-history}
use Rattle.hyd_cert.specs.Faults.{lines_on}
use Rattle.hyd_course.specs.declared.course.Course.{Course}
use Rattle.hyd_witness_texts.specs.FirstFaults.{IsTextFault, IsFaultOf}
use Rattle.hyd_witness_texts.specs.PartsOfWitness.{IsRest, list_lines, lines_of}
use Rattle.hyd_witness_texts.specs.ReaderView.{ReaderView, to_come, lead, lead_lines, periods_at, IsScaleAt, CanCome}
use Rattle.hyd_witness_texts.specs.ReaderView.{LacksNext}
use Rattle.hyd_witness_texts.specs.declared.answers_of_reader.Reached.{Reached}
use Rattle.hyd_witness_texts.specs.declared.answers_of_reader.Stand.{Stand}
use Rattle.hyd_witness_texts.specs.declared.answers_of_reader.Stand.TheVariants.{First, Between, Over, Stuck}
use Rattle.hyd_witness_texts.specs.declared.answers_of_reader.WitnessFault.TheVariants.{Grammar}
use Rattle.hyd_witness_texts.proofs.OneBeginning.{one_beginning}
use Rattle.hyd_witness_texts.proofs.RestOfWitness.{faulty_line, faulty_behind_moments}
use Rattle.hyd_witness_trials.specs.Findings.{IsFound}
use Rattle.hyd_witness_trials.specs.WitnessSoFar.{StandsBehind, TrialGives}
use Rattle.hyd_witness_trials.specs.WitnessSoFar.{IsSoFar, TurnGives}
use Rattle.hyd_witness_trials.specs.declared.finding.Finding.{Finding}
use Rattle.hyd_witness_trials.specs.declared.finding.Finding.TheVariants.{Meets, BadLine}
use Rattle.hyd_witness_trials.proofs.MetMoments.{one_more, met_more, met_front, has_lists}
use Rattle.hyd_witness_trials.proofs.LinesOfWitness.{HasFewLines, few_lines, lines_more, lines_first, number_fits}
use Rattle.hyd_witness_trials.proofs.LinesOfWitness.{said_number}

-- ---- texts that are told

-- what stands before what is to come
pub record Begun (front text : List ℕ) (coming : Option (List ℕ)) : Type 0 where
  pub unread : List ℕ
  pub is : coming ≡ Some unread
  pub parts : text ≡ front ++ unread

begun : (front text : List ℕ) (coming : Option (List ℕ)) → Some text ≡ prepend_known front coming
    → Begun front text coming
begun front text None e = absurd (cc)
begun front text (Some unread) e = record { unread = unread; is = refl; parts = same_item _ text (front ++ unread) e }

-- a text that is told and over
over : (rest : Option (List ℕ)) (text whole : List ℕ) → Some text ≡ where_told rest whole → text ≡ whole
over None text whole e = absurd (cc)
over (Some left) text whole e = same_item _ text whole e

scale_some : (scale : ℕ) → IsScale scale → 0 < scale
scale_some scale is = subst (λ (s : ℕ). 0 < s) (sym is.is_power) (pow_pos is.power)

module _ (project : Project) (sound : IsSound project) where
  abbrev counts : Counts
  counts = counts_of project

  few : HasFewLines counts
  few = few_lines project sound

  -- the text of some periods, and of one more behind them
  text_more : (scale : ℕ) (moments : List Moment) (moment : Moment) (text before unread : List ℕ)
      → text ≡ witness_header scale counts ++ (joined (map moment_text moments) ++ before)
      → before ≡ moment_text moment ++ unread
      → text ≡ witness_header scale counts ++ (joined (map moment_text (moments ++ (moment ∷ []))) ++ unread)
  text_more scale moments moment text before unread begins next =
      begins ∙ ap (λ t. witness_header scale counts ++ t) (ap (λ t. joined (map moment_text moments) ++ t) next
      ∙ (sym (append_assoc (joined (map moment_text moments)) (moment_text moment) unread)
      ∙ ap (λ t. t ++ unread) (sym (join-more moment_text moments moment))))

  -- ---- the end

  module _ (text : List ℕ) (scale : ℕ) (moments : List Moment) (is : IsScale scale)
      (fit : All (IsMoment counts) moments) (met : AreMet project scale moments) where
    all_met : (periods : ℕ) → periods < 2 ^ 32 → periods ≡ length moments
        → text ≡ witness_header scale counts ++ (joined (map moment_text moments) ++ witness_end periods)
        → WitnessIsMet project text (meets_line periods)
    all_met periods fits many e = record {
      scale = scale;
      moments = moments;
      is_text = record {
        is_scale = is;
        moments_fit = fit;
        count_fits = omega (arith, fits, many);
        is_text = e ∙ ap (λ n. witness_header scale counts ++ (joined (map moment_text moments) ++ witness_end n)) many;
      };
      met = met;
      history = met-history project sound scale (scale_some scale is) moments (each_of Moment _ moments
          (has_lists project moments fit)) met;
      report = ap meets_line many;
    }

  module _ (text : List ℕ) (reader : ReaderView) (rest : Option (List ℕ)) (course : Course) where
    pub ended : (at : Stand) (reached : Reached) → IsSoFar at project text reader rest course
        → to_come reader rest ≡ where_told rest (lead at reached.scale counts ++ witness_end reached.periods)
        → reached.periods ≡ periods_at at → IsScaleAt at reached.scale → reached.periods < 2 ^ 32
        → IsFound project text (Meets reached.periods)
    ended First reached so e many is fits =
        all_met text reached.scale [] is (All-nil (IsMoment counts)) tt reached.periods fits many
        (over rest text (witness_header reached.scale counts ++ witness_end reached.periods) (sym so.coming ∙ e))
    ended (Between before) reached so e many is fits =
        all_met text before.scale so.moments so.is_scale so.fit so.met reached.periods fits (many ∙ sym so.each)
        (so.begins ∙ ap (λ t. witness_header before.scale counts ++ (joined (map moment_text so.moments) ++ t))
        (over rest so.unread (witness_end reached.periods) (sym so.coming ∙ e)))
    ended (Over before) reached so e many is fits = absurd so
    ended (Stuck fault) reached so e many is fits = absurd so

    -- ---- a line that can't be so

    -- a text that goes on with no period behind some begins with no others than them
    no_others : (scale : ℕ) (moments : List Moment) (unread : List ℕ) → IsScale scale → All (IsMoment counts) moments
        → AreMet project scale moments
        → text ≡ witness_header scale counts ++ (joined (map moment_text moments) ++ unread)
        → LacksNext counts (Between (record { scale = scale; periods = length moments })) (Some unread)
        → (other : ℕ) (others : List Moment) → BeginsWithMoments project text other others
        → AreMet project other others
    no_others scale moments unread is fit met begins lacks other others b =
        let one = one_beginning counts few.small text unread b.unread scale other moments others is b.is_scale fit
        b.moments_fit b.count_fits begins lacks b.is_text in
        met_front project other others moments one.1 (subst (λ (s : ℕ). AreMet project s moments) one.0 met)

    -- nor does one that goes on with no header line and period begin with any
    none_at_all : LacksNext counts First (Some text) → (other : ℕ) (others : List Moment)
        → BeginsWithMoments project text other others → AreMet project other others
    none_at_all lacks other [] b = tt
    none_at_all lacks other (moment ∷ others) b = absurd (lacks other moment (joined (map moment_text others)
        ++ b.unread) b.is_scale (b.moments_fit 0 moment (omega arith))
        (ap Some (b.is_text ∙ ap (λ t. witness_header other counts ++ t)
        (append_assoc (moment_text moment) (joined (map moment_text others)) b.unread))))

    bad : (number line offset : ℕ) → number ≡ lines_on line offset → IsFaultyLine counts text (line + offset)
        → ((other : ℕ) (others : List Moment) → BeginsWithMoments project text other others
        → AreMet project other others)
        → IsFound project text (BadLine number)
    bad number line offset said fault met =
        let is : number ≡ line + offset = said
        ∙ said_number line offset (number_fits counts few text (line + offset) fault) in record {
          fault = subst (IsFaultyLine counts text) (sym is) fault;
          met = met;
          report = refl;
        }

    pub faulty : (at : Stand) (number : ℕ) (before now : Faults) → IsSoFar at project text reader rest course
        → IsTextFault (IsFaultOf (CanCome counts at)) reader.line (to_come reader rest) before now (Grammar number)
        → LacksNext counts at (to_come reader rest) → IsFound project text (BadLine number)
    faulty First number before now so fault lacks =
        let coming = so.coming in
        let of_text : IsFaultOf (IsWitness counts) text fault.0 = rw coming at fault.1.1 in
        bad number 0 fault.0 (fault.1.0 ∙ ap (λ l. lines_on l fault.0) so.line)
        (subst (IsFaultyLine counts text) (omega arith) (faulty_line counts text fault.0 of_text))
        (none_at_all (subst (LacksNext counts First) coming lacks))
    faulty (Between reached) number before now so fault lacks =
        let coming = so.coming in
        let of_rest : IsFaultOf (IsRest counts reached.periods) so.unread fault.0 = rw coming at fault.1.1 in
        let same = so.each in
        bad number (lines_of counts (length so.moments)) fault.0
        (fault.1.0 ∙ ap (λ l. lines_on l fault.0) so.line)
        (faulty_behind_moments counts few.small text so.unread reached.scale fault.0 so.moments so.is_scale so.fit
        so.begins (subst (λ (n : ℕ). IsFaultOf (IsRest counts n) so.unread fault.0) (sym so.each) of_rest))
        (no_others reached.scale so.moments so.unread so.is_scale so.fit so.met so.begins
        (subst (λ (n : ℕ). LacksNext counts (Between (record { scale = reached.scale; periods = n })) (Some so.unread))
        (sym so.each) (subst (LacksNext counts (Between reached)) coming lacks)))
    faulty (Over reached) number before now so fault lacks = absurd so
    faulty (Stuck why) number before now so fault lacks = absurd so

  -- ---- a period

  -- one period was read, from where the reader stood
  pub record WasRead (at : Stand) (moment : Moment) (reached : Reached) (reader after : ReaderView)
      (rest left : Option (List ℕ)) : Type 0 where
    pub coming : to_come reader rest ≡ prepend_known (lead at reached.scale counts ++ moment_text moment)
        (to_come after left)
    pub is_moment : IsMoment counts moment
    pub more : reached.periods ≡ periods_at at + 1
    pub line : after.line ≡ lines_on reader.line (lead_lines at + list_lines counts)
    pub is_scale : IsScaleAt at reached.scale
    pub stand : after.stand ≡ Between reached
    pub fits : reached.periods < 2 ^ 32

  module _ (text : List ℕ) (moment : Moment) (reached : Reached) (after : ReaderView) (left : Option (List ℕ))
      (course : Course) (stands : after.stand ≡ Between reached) (is_moment : IsMoment counts moment)
      (fits : reached.periods < 2 ^ 32) where
    -- it was tried behind those before it
    tried : (answer : Option Finding) (moments : List Moment) (unread : List ℕ) → IsScale reached.scale
        → All (IsMoment counts) moments → AreMet project reached.scale moments
        → reached.periods ≡ length moments + 1
        → text ≡ witness_header reached.scale counts ++ (joined (map moment_text (moments ++ (moment ∷ []))) ++ unread)
        → to_come after left ≡ Some unread → after.line ≡ lines_of counts (length moments + 1)
        → TrialGives answer project reached.scale moments moment course
        → TurnGives answer project text after left course
    tried None moments unread is fit met many begins coming line did =
        let longer = length-append moments (moment ∷ []) in
        subst (λ (s : Stand). IsSoFar s project text after left course) (sym stands) (record {
          moments = moments ++ (moment ∷ []);
          is_scale = is;
          fit = one_more (IsMoment counts) moments moment fit is_moment;
          each = longer ∙ sym many;
          unread = unread;
          coming = coming;
          begins = begins;
          line = line ∙ ap (lines_of counts) (sym longer);
          met = met_more project reached.scale at_start moments moment met did.met;
          stands = did.stands;
        })
    tried (Some finding) moments unread is fit met many begins coming line lost =
        let longer = length-append moments (moment ∷ []) in
        subst (IsFound project text) (sym lost.is) (record {
          scale = reached.scale;
          moments = moments;
          moment = moment;
          is_text = record {
            is_scale = is;
            moments_fit = one_more (IsMoment counts) moments moment fit is_moment;
            count_fits = omega (arith, longer, many, fits);
            unread = unread;
            is_text = begins;
          };
          met = met;
          fails = lost.fails;
          report = refl;
        })

  pub turned : (at : Stand) (text : List ℕ) (moment : Moment) (reached : Reached) (reader after : ReaderView)
      (rest left : Option (List ℕ)) (before course : Course) (answer : Option Finding)
      → IsSoFar at project text reader rest before → WasRead at moment reached reader after rest left
      → ((moments : List Moment) → IsScale reached.scale → reached.periods ≡ length moments + 1
      → StandsBehind project reached.scale moments before
      → TrialGives answer project reached.scale moments moment course)
      → TurnGives answer project text after left course
  turned First text moment reached reader after rest left before course answer so was trial =
      let b = begun (witness_header reached.scale counts ++ moment_text moment) text (to_come after left)
      (sym so.coming ∙ was.coming) in
      tried text moment reached after left course was.stand was.is_moment was.fits answer [] b.unread was.is_scale
      (All-nil (IsMoment counts)) tt was.more
      (text_more reached.scale [] moment text (moment_text moment ++ b.unread) b.unread
      (b.parts ∙ append_assoc (witness_header reached.scale counts) (moment_text moment) b.unread) refl)
      b.is (was.line ∙ (ap (λ l. lines_on l (2 + list_lines counts)) so.line ∙ lines_first counts few))
      (trial [] was.is_scale was.more tt)
  turned (Between behind) text moment reached reader after rest left before course answer so was trial =
      let b = begun (moment_text moment) so.unread (to_come after left) (sym so.coming ∙ was.coming) in
      let same : behind.scale ≡ reached.scale = sym was.is_scale in
      let many : reached.periods ≡ length so.moments + 1 = was.more ∙ ap (λ n. n + 1) (sym so.each) in
      let is : IsScale reached.scale = subst IsScale same so.is_scale in
      let few_more = was.fits in
      tried text moment reached after left course was.stand was.is_moment was.fits answer so.moments b.unread is so.fit
      (subst (λ (s : ℕ). AreMet project s so.moments) same so.met) many
      (text_more reached.scale so.moments moment text so.unread b.unread
      (subst (λ (s : ℕ). text ≡ witness_header s counts ++ (joined (map moment_text so.moments) ++ so.unread)) same
      so.begins) b.parts)
      b.is (was.line ∙ (ap (λ l. lines_on l (1 + list_lines counts)) so.line
      ∙ lines_more counts few (length so.moments) (omega (arith, many, few_more))))
      (trial so.moments is many (subst (λ (s : ℕ). StandsBehind project s so.moments before) same so.stands))
  turned (Over behind) text moment reached reader after rest left before course answer so was trial = absurd so
  turned (Stuck fault) text moment reached reader after rest left before course answer so was trial = absurd so
