-- What can come of a witness: at its start, and behind some of its periods.
use Rattle.std.proofs.Common.{◌≡◌, ◌≢◌, ℕ, suc, ◌+◌, ◌*◌, ◌<◌, ◌^◌, Option, Some, None, List, [], ◌∷◌, ◌++◌}
use Rattle.std.proofs.Common.{length, map, get_or, refl, sym, ap, ap₂, subst, ◌∙◌, append_assoc, inl, inr, codes, arith}
use Rattle.std.specs.Prelude.{All}
use Rattle.std.specs.Fmt.{decimal}
use Rattle.std.proofs.lemmas.List.{append-nil}
use Rattle.std.proofs.lemmas.List.Elements.{All-nil, All-cons, All-head, All-tail}
use Rattle.hyd_io.specs.DeskBytes.{prepend_known}
use Rattle.hyd_spec.specs.Lists.{joined}
use Rattle.hyd_spec_certificates.specs.CertificateText.{words, line_feeds}
use Rattle.hyd_spec_witnesses.specs.MetPeriods.{Moment}
use Rattle.hyd_spec_witnesses.specs.WitnessText.{Counts, IsMoment, IsScale, moment_line, moment_text}
use Rattle.hyd_spec_witnesses.specs.WitnessText.{witness_end, witness_header}
use Rattle.hyd_spec_witnesses.specs.FaultyLine.{IsLines, IsWitness, IsFaultyLine}
use Rattle.hyd_line_reader.specs.TextsWithoutLine.{HasNo}
use Rattle.hyd_cert.specs.PlacesOfLines.{Lacks}
use Rattle.hyd_cert.specs.Lines.{IsPeriodLine}
use Rattle.hyd_cert.proofs.HeadLemmas.{period_is}
use Rattle.hyd_cert.proofs.LineLemmas.{next_is_line}
use Rattle.hyd_lemmas.proofs.ListsOptionsAndResults.{same_item}
use Rattle.hyd_witness_texts.specs.Lines.{IsHeaderLine, header_words}
use Rattle.hyd_witness_texts.specs.PeriodOrEndLine.{IsPeriodOrEnd, end_words}
use Rattle.hyd_witness_texts.specs.FirstFaults.{IsFaultOf, IsFaultAtFront}
use Rattle.hyd_witness_texts.specs.PartsOfWitness.{AreLists, IsOneThen, IsRest, LacksMoment, HasValues, lists_text}
use Rattle.hyd_witness_texts.specs.PartsOfWitness.{list_lines, lines_of}
use Rattle.hyd_witness_texts.proofs.WitnessLines.{next_line_is_line, end_is_line, header_is_line}
use Rattle.hyd_witness_texts.proofs.FirstFaultLemmas.{feeds-append, one_feed, lines_append, one_is_lines, cut_line}
use Rattle.hyd_witness_texts.proofs.FirstFaultLemmas.{HasFirst, none_such, stuck_here, stuck_behind, stuck_with_more}
use Rattle.hyd_witness_texts.proofs.FirstFaultLemmas.{stuck_at_end}
use Rattle.hyd_witness_texts.proofs.Blocks.{IsBlock, then_is, then_block}
use Rattle.hyd_witness_texts.proofs.ListsOfValues.{values_block, stocks_block}

-- ---- the lists of a period

pub lists_block : (counts : Counts) → IsBlock (AreLists counts) (list_lines counts)
lists_block counts =
    then_block _ _ (values_block 72 (λ e. omega (arith, e)) counts.junctions)
    (then_block _ _ (values_block 81 (λ e. omega (arith, e)) counts.links)
    (then_block _ _ (values_block 68 (λ e. omega (arith, e)) counts.junctions)
    (then_block _ _ (values_block 69 (λ e. omega (arith, e)) counts.junctions) (stocks_block counts.tanks))))

-- the lists of values make such lines
pub lists_are : (counts : Counts) (m : Moment) → HasValues counts m → AreLists counts (lists_text m)
lists_are counts m is =
    then_is _ _ (record { values = m.heads; are_values = is.heads; is = refl })
    (then_is _ _ (record { values = m.flows; are_values = is.flows; is = refl })
    (then_is _ _ (record { values = m.demands; are_values = is.demands; is = refl })
    (then_is _ _ (record { values = m.emitters; are_values = is.emitters; is = refl })
    (record {
      levels = m.levels;
      volumes = m.volumes;
      are_levels = is.levels;
      are_volumes = is.volumes;
      is = refl;
    }))))

pub has_values : (counts : Counts) (m : Moment) → IsMoment counts m → HasValues counts m
has_values counts m is = record {
  heads = is.heads;
  flows = is.flows;
  demands = is.demands;
  emitters = is.emitters;
  levels = is.levels;
  volumes = is.volumes;
}

-- a PERIOD line and its words
abbrev pub period_words : ℕ → ℕ → ℕ → List ℕ
period_words number time seconds =
    words (codes "PERIOD" ∷ (decimal number ∷ (decimal time ∷ (decimal seconds ∷ []))))

abbrev pub period_text : ℕ → ℕ → ℕ → List ℕ
period_text number time seconds = period_words number time seconds ++ (10 ∷ [])

-- a number, a time and a length below 2^32
pub record AreSmall (number time seconds : ℕ) : Type 0 where
  pub number_fits : number < 2 ^ 32
  pub time_fits : time < 2 ^ 32
  pub length_fits : seconds < 2 ^ 32

abbrev pub small_of : (counts : Counts) (m : Moment) → IsMoment counts m → AreSmall m.number m.time m.length
small_of counts m is = record {
  number_fits = is.number_fits;
  time_fits = is.time_fits;
  length_fits = is.length_fits;
}

is_period : (number time seconds : ℕ) → AreSmall number time seconds → IsPeriodLine (period_words number time seconds)
is_period number time seconds small = period_is number time seconds small.number_fits small.time_fits small.length_fits

pub period_alone : (number time seconds : ℕ) → AreSmall number time seconds
    → HasNo 10 (period_words number time seconds)
period_alone number time seconds small = (next_is_line _ (inl (is_period number time seconds small))).0

-- such lines are those of a moment
record OfMoment (counts : Counts) (number time seconds : ℕ) (t : List ℕ) : Type 0 where
  moment : Moment
  is_moment : IsMoment counts moment
  lists : t ≡ lists_text moment
  line : period_text number time seconds ≡ moment_line moment

lists_moment : (counts : Counts) (number time seconds : ℕ) → AreSmall number time seconds → (t : List ℕ)
    → AreLists counts t → OfMoment counts number time seconds t
lists_moment counts number time seconds small t is =
    let flows = is.is_second in let demands = flows.is_second in let emitters = demands.is_second in
    let stocks = emitters.is_second in record {
      moment = record {
        number = number;
        time = time;
        length = seconds;
        heads = is.is_first.values;
        flows = flows.is_first.values;
        demands = demands.is_first.values;
        emitters = emitters.is_first.values;
        levels = stocks.levels;
        volumes = stocks.volumes;
      };
      is_moment = record {
        number_fits = small.number_fits;
        time_fits = small.time_fits;
        length_fits = small.length_fits;
        heads = is.is_first.are_values;
        flows = flows.is_first.are_values;
        demands = demands.is_first.are_values;
        emitters = emitters.is_first.are_values;
        levels = stocks.are_levels;
        volumes = stocks.are_volumes;
      };
      lists = is.parts ∙ ap₂ (λ a b. a ++ b) is.is_first.is (flows.parts
          ∙ ap₂ (λ a b. a ++ b) flows.is_first.is (demands.parts
          ∙ ap₂ (λ a b. a ++ b) demands.is_first.is (emitters.parts
          ∙ ap₂ (λ a b. a ++ b) emitters.is_first.is stocks.is)));
      line = refl;
    }

-- ---- what can come behind some periods

pub rest_ends : (counts : Counts) (periods : ℕ) → periods < 2 ^ 32 → IsRest counts periods (witness_end periods)
rest_ends counts periods fits = record {
  moments = [];
  moments_fit = All-nil (IsMoment counts);
  count_fits = omega (arith, fits);
  is_text = ap witness_end (omega arith);
}

pub rest_goes : (counts : Counts) (periods : ℕ) (m : Moment) (r : List ℕ) → IsMoment counts m
    → IsRest counts (periods + 1) r → IsRest counts periods (moment_text m ++ r)
rest_goes counts periods m r is rest = record {
  moments = m ∷ rest.moments;
  moments_fit = All-cons (IsMoment counts) m rest.moments is rest.moments_fit;
  count_fits = (let f = rest.count_fits in omega (arith, f));
  is_text = ap (λ t. moment_text m ++ t) rest.is_text
      ∙ (sym (append_assoc (moment_text m) (joined (map moment_text rest.moments))
      (witness_end (periods + 1 + length rest.moments)))
      ∙ ap (λ n. (moment_text m ++ joined (map moment_text rest.moments)) ++ witness_end n) (omega arith));
}

data RestCase (counts : Counts) (periods : ℕ) (t : List ℕ) : Type 0 where
  ends : t ≡ witness_end periods → RestCase counts periods t
  goes : (m : Moment) (r : List ℕ) → IsMoment counts m → periods + 1 < 2 ^ 32 → IsRest counts (periods + 1) r
      → t ≡ moment_text m ++ r → RestCase counts periods t

rest_case : (counts : Counts) (periods : ℕ) (t : List ℕ) → IsRest counts periods t → RestCase counts periods t
rest_case counts periods t is = by is.moments is.moments_fit is.count_fits is.is_text
  where
    by : (ms : List Moment) → All (IsMoment counts) ms → periods + length ms < 2 ^ 32
        → t ≡ joined (map moment_text ms) ++ witness_end (periods + length ms) → RestCase counts periods t
    by [] all fits e = ends (e ∙ ap witness_end (omega arith))
    by (m ∷ ms) all fits e =
        goes m (joined (map moment_text ms) ++ witness_end (periods + 1 + length ms)) (All-head (IsMoment counts) m ms
        all) (omega (arith, fits)) (record {
          moments = ms;
          moments_fit = All-tail (IsMoment counts) m ms all;
          count_fits = omega (arith, fits);
          is_text = refl;
        }) (e ∙ (ap (λ n. (moment_text m ++ joined (map moment_text ms)) ++ witness_end n) (omega arith)
        ∙ append_assoc (moment_text m) (joined (map moment_text ms)) (witness_end (periods + 1 + length ms))))

-- the PERIOD line of a moment, and its lists
moment_parts : (m : Moment) (r : List ℕ) → moment_text m ++ r ≡ moment_line m ++ (lists_text m ++ r)
moment_parts m r = append_assoc (moment_line m) (lists_text m) r

begins_next : (counts : Counts) (periods : ℕ) (t : List ℕ) → IsRest counts periods t
    → HasFirst (IsPeriodOrEnd periods) t
begins_next counts periods t is = by (rest_case counts periods t is)
  where
    by : RestCase counts periods t → HasFirst (IsPeriodOrEnd periods) t
    by (ends e) = record { line = end_words periods; rest = []; is_such = inr refl; parts = e }
    by (goes m r is_m more rest e) = record {
      line = period_words m.number m.time m.length;
      rest = lists_text m ++ r;
      is_such = inl (is_period m.number m.time m.length (small_of counts m is_m), more);
      parts = e ∙ (moment_parts m r ∙ append_assoc (period_words m.number m.time m.length) (10 ∷ [])
          (lists_text m ++ r));
    }

-- no line that can stand there is next
pub stuck_between : (counts : Counts) (periods : ℕ) → periods < 2 ^ 32 → (t : List ℕ)
    → Lacks (IsPeriodOrEnd periods) (Some t) → IsFaultOf (IsRest counts periods) t 1
stuck_between counts periods fits t lacks =
    stuck_here (IsPeriodOrEnd periods) t (witness_end periods) (rest_ends counts periods fits)
    (λ l is. (next_line_is_line periods fits l is).0) (begins_next counts periods) lacks

-- ---- a period

abbrev IsPeriodThen : Counts → ℕ → List ℕ → Type 0
IsPeriodThen counts periods = IsOneThen (AreLists counts) (IsRest counts (periods + 1))

period_push : (counts : Counts) (periods number time seconds : ℕ) → AreSmall number time seconds → (t : List ℕ)
    → IsPeriodThen counts periods t → IsRest counts periods (period_text number time seconds ++ t)
period_push counts periods number time seconds small t is =
    let k = lists_moment counts number time seconds small is.first is.is_first in
    subst (IsRest counts periods)
    (moment_parts k.moment is.second
    ∙ ap₂ (λ a b. a ++ b) (sym k.line) (sym (is.parts ∙ ap (λ f. f ++ is.second) k.lists)))
    (rest_goes counts periods k.moment is.second k.is_moment is.is_second)

-- a PERIOD line isn't the END line
not_end : (number time seconds periods : ℕ) (t : List ℕ) → period_text number time seconds ++ t ≡ witness_end periods
    → ⊥
not_end number time seconds periods t e =
    let first : 80 ≡ 69 = ap (λ (w : List ℕ). get_or w 0 0) e in absurd (omega (arith, first))

-- what follows a PERIOD line
lists_behind : (counts : Counts) (number time seconds : ℕ) → AreSmall number time seconds → (t : List ℕ) (m : Moment)
    (r : List ℕ) → IsMoment counts m → period_text number time seconds ++ t ≡ moment_text m ++ r
    → t ≡ lists_text m ++ r
lists_behind counts number time seconds small t m r is e =
    cut_line (period_words number time seconds) (period_words m.number m.time m.length) t (lists_text m ++ r)
    (period_alone number time seconds small) (period_alone m.number m.time m.length (small_of counts m is))
    (e ∙ moment_parts m r)

period_pull : (counts : Counts) (periods number time seconds : ℕ) → AreSmall number time seconds → (t : List ℕ)
    → IsRest counts periods (period_text number time seconds ++ t) → IsPeriodThen counts periods t
period_pull counts periods number time seconds small t is = by (rest_case counts periods _ is)
  where
    by : RestCase counts periods (period_text number time seconds ++ t) → IsPeriodThen counts periods t
    by (ends e) = absurd (not_end number time seconds periods t e)
    by (goes m r is_m more rest e) = record {
      first = lists_text m;
      second = r;
      is_first = lists_are counts m (has_values counts m is_m);
      is_second = rest;
      parts = lists_behind counts number time seconds small t m r is_m e;
    }

-- a fault in the lists of a period
pub stuck_in_lists : (counts : Counts) (periods number time seconds : ℕ) → AreSmall number time seconds
    → periods + 1 < 2 ^ 32 → (t : List ℕ) (k : ℕ) → IsFaultAtFront (AreLists counts) t k
    → IsFaultOf (IsRest counts periods) (period_text number time seconds ++ t) (1 + k)
stuck_in_lists counts periods number time seconds small more t k fault =
    let inside : IsFaultOf (IsPeriodThen counts periods) t k = stuck_with_more t k
    (λ u lists. (
      witness_end (periods + 1),
      then_is u (witness_end (periods + 1)) lists
          (rest_ends counts (periods + 1) more),
    ))
    (λ u is. record { front = is.first; rest = is.second; is_such = is.is_first; parts = is.parts }) fault in
    stuck_behind (period_text number time seconds) t 1 k (one_is_lines (period_words number time seconds))
    (one_feed (period_words number time seconds) (period_alone number time seconds small))
    (period_push counts periods number time seconds small) (period_pull counts periods number time seconds small) inside

-- something behind the END line
pub stuck_over : (counts : Counts) (periods : ℕ) → periods < 2 ^ 32 → (t : List ℕ) → t ≢ []
    → IsFaultOf (IsRest counts periods) (witness_end periods ++ t) (1 + 1)
stuck_over counts periods fits t some =
    stuck_behind (witness_end periods) t 1 1 (one_is_lines (end_words periods))
    (one_feed (end_words periods) (end_is_line periods fits).0) push pull (stuck_at_end t some)
  where
    push : (u : List ℕ) → u ≡ [] → IsRest counts periods (witness_end periods ++ u)
    push u e = subst (IsRest counts periods) (sym (ap (λ v. witness_end periods ++ v) e
        ∙ append-nil (witness_end periods))) (rest_ends counts periods fits)

    by : (u : List ℕ) → RestCase counts periods (witness_end periods ++ u) → u ≡ []
    by u (ends e) = cut_line (end_words periods) (end_words periods) u [] (end_is_line periods fits).0
        (end_is_line periods fits).0 (e ∙ sym (append-nil (witness_end periods)))
    by u (goes m r is_m more rest e) = let first : 69 ≡ 80 = ap (λ (w : List ℕ). get_or w 0 0) e in
        absurd (omega (arith, first))

    pull : (u : List ℕ) → IsRest counts periods (witness_end periods ++ u) → u ≡ []
    pull u is = by u (rest_case counts periods _ is)

-- ---- no whole period

pub none_between : (counts : Counts) (periods : ℕ) (text : Option (List ℕ)) → Lacks (IsPeriodOrEnd periods) text
    → LacksMoment counts periods text
none_between counts periods text lacks m r is more e =
    lacks (period_words m.number m.time m.length) (lists_text m ++ r)
    (inl (is_period m.number m.time m.length (small_of counts m is), more))
    (e ∙ ap Some (moment_parts m r ∙ append_assoc (period_words m.number m.time m.length) (10 ∷ [])
    (lists_text m ++ r)))

pub none_in_lists : (counts : Counts) (periods number time seconds : ℕ) → AreSmall number time seconds
    → (t : List ℕ) (k : ℕ) → IsFaultAtFront (AreLists counts) t k
    → LacksMoment counts periods (Some (period_text number time seconds ++ t))
none_in_lists counts periods number time seconds small t k fault m r is more e =
    let whole = same_item _ (period_text number time seconds ++ t) (moment_text m ++ r) e in
    none_such t k fault (record {
      front = lists_text m;
      rest = r;
      is_such = lists_are counts m (has_values counts m is);
      parts = lists_behind counts number time seconds small t m r is whole;
    })

pub none_at_end : (counts : Counts) (periods : ℕ) (t : List ℕ) → LacksMoment counts periods (Some (witness_end periods
    ++ t))
none_at_end counts periods t m r is more e =
    let whole = same_item _ (witness_end periods ++ t) (moment_text m ++ r) e in
    let first : 69 ≡ 80 = ap (λ (w : List ℕ). get_or w 0 0) whole in absurd (omega (arith, first))

-- ---- whole periods

moment_cut : (counts : Counts) (m n : Moment) → IsMoment counts m → IsMoment counts n → (t r : List ℕ)
    → moment_text m ++ t ≡ moment_text n ++ r → t ≡ r
moment_cut counts m n is_m is_n t r e =
    let lists = lists_behind counts m.number m.time m.length (small_of counts m is_m) (lists_text m ++ t) n r is_n
    (sym (moment_parts m t) ∙ e) in
    (lists_block counts).cut (lists_text m) (lists_text n) t r (lists_are counts m (has_values counts m is_m))
    (lists_are counts n (has_values counts n is_n)) lists

moment_feeds : (counts : Counts) (m : Moment) → IsMoment counts m → line_feeds (moment_text m) ≡ 1 + list_lines counts
moment_feeds counts m is =
    let sum = feeds-append (moment_line m) (lists_text m) in
    let one = one_feed (period_words m.number m.time m.length) (period_alone m.number m.time m.length
    (small_of counts m is)) in
    let more = (lists_block counts).feeds (lists_text m) (lists_are counts m (has_values counts m is)) in
    sum ∙ ap₂ (λ a b. a + b) one more

moment_is_lines : (counts : Counts) (m : Moment) → IsMoment counts m → IsLines (moment_text m)
moment_is_lines counts m is = lines_append (moment_line m) (lists_text m) (one_is_lines (period_words m.number m.time
    m.length)) ((lists_block counts).lines (lists_text m) (lists_are counts m (has_values counts m is)))

moment_pull : (counts : Counts) (periods : ℕ) (m : Moment) → IsMoment counts m → (t : List ℕ)
    → IsRest counts periods (moment_text m ++ t) → IsRest counts (periods + 1) t
moment_pull counts periods m is_m t is = by (rest_case counts periods _ is)
  where
    by : RestCase counts periods (moment_text m ++ t) → IsRest counts (periods + 1) t
    by (ends e) = absurd (not_end m.number m.time m.length periods (lists_text m ++ t) (sym (moment_parts m t) ∙ e))
    by (goes n r is_n more rest e) = subst (IsRest counts (periods + 1)) (sym (moment_cut counts m n is_m is_n t r e))
        rest

moments_stuck : (counts : Counts) (ms : List Moment) → All (IsMoment counts) ms → (periods k : ℕ) (rest : List ℕ)
    → IsFaultOf (IsRest counts (periods + length ms)) rest k
    → IsFaultOf (IsRest counts periods) (joined (map moment_text ms) ++ rest)
    (length ms * (1 + list_lines counts) + k)
moments_stuck counts [] all periods k rest fault =
    let none : 0 * (1 + list_lines counts) + k ≡ k = omega arith in
    subst (IsFaultOf (IsRest counts periods) rest) (sym none)
    (subst (λ (p : ℕ). IsFaultOf (IsRest counts p) rest k) (omega arith) fault)
moments_stuck counts (m ∷ ms) all periods k rest fault =
    let X = 1 + list_lines counts in
    let is = All-head (IsMoment counts) m ms all in
    let inner = moments_stuck counts ms (All-tail (IsMoment counts) m ms all) (periods + 1) k rest
    (subst (λ (p : ℕ). IsFaultOf (IsRest counts p) rest k) (omega arith) fault) in
    let more : X + (length ms * X + k) ≡ suc (length ms) * X + k = omega arith in
    subst (IsFaultOf (IsRest counts periods) (joined (map moment_text (m ∷ ms)) ++ rest)) more
    (subst (λ (t : List ℕ). IsFaultOf (IsRest counts periods) t (X + (length ms * X + k)))
    (sym (append_assoc (moment_text m) (joined (map moment_text ms)) rest))
    (stuck_behind (moment_text m) (joined (map moment_text ms) ++ rest) X (length ms * X + k)
    (moment_is_lines counts m is) (moment_feeds counts m is)
    (λ t r. rest_goes counts periods m t is r) (moment_pull counts periods m is) inner))

-- ---- the header line

pub record AreSmallCounts (counts : Counts) : Type 0 where
  pub junctions : counts.junctions < 2 ^ 32
  pub links : counts.links < 2 ^ 32
  pub tanks : counts.tanks < 2 ^ 32

one_is_scale : IsScale 1
one_is_scale = record { power = 0; is_power = refl; at_most = omega arith }

module _ (counts : Counts) (small : AreSmallCounts counts) where
  pub header_alone : (s : ℕ) → IsScale s → HasNo 10 (header_words s counts)
  header_alone s is = (header_is_line counts small.junctions small.links small.tanks (header_words s counts) (record {
    scale = s;
    is_scale = is;
    is = refl;
  })).0

  header_push : (s : ℕ) → IsScale s → (t : List ℕ) → IsRest counts 0 t
      → IsWitness counts (witness_header s counts ++ t)
  header_push s is t rest = record {
    scale = s;
    moments = rest.moments;
    is_text = record {
      is_scale = is;
      moments_fit = rest.moments_fit;
      count_fits = (let f = rest.count_fits in omega (arith, f));
      is_text = ap (λ u. witness_header s counts ++ u) (rest.is_text
          ∙ ap (λ n. joined (map moment_text rest.moments) ++ witness_end n) (omega arith));
    };
  }

  header_pull : (s : ℕ) → IsScale s → (t : List ℕ) → IsWitness counts (witness_header s counts ++ t)
      → IsRest counts 0 t
  header_pull s is t w =
      let k = w.is_text in
      let after = cut_line (header_words s counts) (header_words w.scale counts) t
      (joined (map moment_text w.moments) ++ witness_end (length w.moments)) (header_alone s is)
      (header_alone w.scale k.is_scale) k.is_text in record {
        moments = w.moments;
        moments_fit = k.moments_fit;
        count_fits = (let f = k.count_fits in omega (arith, f));
        is_text = after ∙ ap (λ n. joined (map moment_text w.moments) ++ witness_end n) (omega arith);
      }

  begins_header : (t : List ℕ) → IsWitness counts t → HasFirst (IsHeaderLine counts) t
  begins_header t w = record {
    line = header_words w.scale counts;
    rest = joined (map moment_text w.moments) ++ witness_end (length w.moments);
    is_such = record { scale = w.scale; is_scale = w.is_text.is_scale; is = refl };
    parts = w.is_text.is_text ∙ append_assoc (header_words w.scale counts) (10 ∷ [])
        (joined (map moment_text w.moments) ++ witness_end (length w.moments));
  }

  -- no header line is next
  pub stuck_first : (t : List ℕ) → Lacks (IsHeaderLine counts) (Some t) → IsFaultOf (IsWitness counts) t 1
  stuck_first t lacks =
      stuck_here (IsHeaderLine counts) t (witness_header 1 counts ++ witness_end 0)
      (header_push 1 one_is_scale (witness_end 0) (rest_ends counts 0 (omega arith)))
      (λ l is. (header_is_line counts small.junctions small.links small.tanks l is).0) begins_header lacks

  -- a fault behind the header line
  pub stuck_behind_header : (s : ℕ) → IsScale s → (t : List ℕ) (k : ℕ) → IsFaultOf (IsRest counts 0) t k
      → IsFaultOf (IsWitness counts) (witness_header s counts ++ t) (1 + k)
  stuck_behind_header s is t k fault =
      stuck_behind (witness_header s counts) t 1 k (one_is_lines (header_words s counts))
      (one_feed (header_words s counts) (header_alone s is)) (header_push s is) (header_pull s is) fault

  -- no whole period

  abbrev LacksFirst : Option (List ℕ) → Type 0
  LacksFirst text = (scale : ℕ) (moment : Moment) (rest : List ℕ) → IsScale scale → IsMoment counts moment
      → text ≢ Some (witness_header scale counts ++ (moment_text moment ++ rest))

  pub none_at_first : (text : Option (List ℕ)) → Lacks (IsHeaderLine counts) text → LacksFirst text
  none_at_first text lacks s m r is_s is_m e =
      lacks (header_words s counts) (moment_text m ++ r) (record { scale = s; is_scale = is_s; is = refl })
      (e ∙ ap Some (append_assoc (header_words s counts) (10 ∷ []) (moment_text m ++ r)))

  pub none_behind_header : (s : ℕ) → IsScale s → (text rest : Option (List ℕ))
      → text ≡ prepend_known (witness_header s counts) rest → LacksMoment counts 0 rest → LacksFirst text
  none_behind_header s is text None same lacks o m r is_o is_m e = absurd (cc (same, e))
  none_behind_header s is text (Some t) same lacks o m r is_o is_m e =
      let whole = same_item _ (witness_header s counts ++ t) (witness_header o counts ++ (moment_text m ++ r))
      (sym same ∙ e) in
      let after = cut_line (header_words s counts) (header_words o counts) t (moment_text m ++ r) (header_alone s is)
      (header_alone o is_o) whole in
      lacks m r is_m (omega arith) (ap Some after)

-- ---- faulty lines

pub faulty_line : (counts : Counts) (text : List ℕ) (number : ℕ) → IsFaultOf (IsWitness counts) text number
    → IsFaultyLine counts text number
faulty_line counts text number k = record {
  front = k.front;
  rest = k.rest;
  parts = k.parts;
  lines = k.lines;
  count = k.count;
  more = k.more;
  goes_on = k.goes_on;
  stops = k.stops;
}

pub faulty_behind_moments : (counts : Counts) → AreSmallCounts counts → (text rest : List ℕ) (scale number : ℕ)
    (moments : List Moment) → IsScale scale → All (IsMoment counts) moments
    → text ≡ witness_header scale counts ++ (joined (map moment_text moments) ++ rest)
    → IsFaultOf (IsRest counts (length moments)) rest number
    → IsFaultyLine counts text (lines_of counts (length moments) + number)
faulty_behind_moments counts small text rest scale number moments is all e fault =
    let X = length moments * (1 + list_lines counts) in
    let inner = moments_stuck counts moments all 0 number rest
    (subst (λ (p : ℕ). IsFaultOf (IsRest counts p) rest number) (omega arith) fault) in
    let outer = stuck_behind_header counts small scale is (joined (map moment_text moments) ++ rest) (X + number)
    inner in
    let whole : 1 + (X + number) ≡ 1 + X + number = omega arith in
    subst (IsFaultyLine counts text) whole
    (subst (λ (t : List ℕ). IsFaultyLine counts t (1 + (X + number))) (sym e)
    (faulty_line counts (witness_header scale counts ++ (joined (map moment_text moments) ++ rest)) (1 + (X + number))
    outer))
