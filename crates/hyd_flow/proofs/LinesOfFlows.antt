-- The FLOW lines of links.
use Rattle.std.proofs.Common.{◌≡◌, ℕ, zero, suc, ◌+◌, ◌<◌, List, [], ◌∷◌, ◌++◌, length, All, take, drop, map, get_or}
use Rattle.std.proofs.Common.{sym, ap, ap₂}
use Rattle.std.proofs.Common.{subst, ◌∙◌, refl, Bool, true, false, pos, neg_ℤ, ◌<ℤ◌, arith}
use Rattle.std.specs.Prelude.{MatchBool}
use Rattle.std.specs.List.{AllZip}
use Rattle.std.proofs.lemmas.List.{map-append, take-append-drop}
use Rattle.std.proofs.lemmas.List.Elements.{All-head, All-tail}
use Rattle.hyd_num.specs.PrintedDecimals.{flow_quantity}
use Rattle.hyd_num.specs.declared.spans.Span.{Span}
use Rattle.hyd_bounds.specs.VectorsInOrder.{IsSpan}
use Rattle.hyd_spec.specs.Lists.{joined}
use Rattle.hyd_spec.specs.ProgramTypes.{Project}
use Rattle.hyd_spec_certificates.specs.Interval.{Interval}
use Rattle.hyd_spec_certificates.specs.PeriodNetwork.{Grid, GridLink}
use Rattle.hyd_spec_certificates.specs.RecordAndStanding.{Standing}
use Rattle.hyd_spec_certificates.specs.SpansAsIntervals.{flows_of}
use Rattle.hyd_spec_certificates.specs.PrintedIntervals.{Prints, is_report_time}
use Rattle.hyd_spec_flows.specs.FlowParts.{NamedLink, FlowPart, JoinsJunctions, flow_interval}
use Rattle.hyd_spec_reports_with_flows.specs.FlowLines.{FlowLine, IsFlowLine, AreFlowLines, flow_line_text}
use Rattle.hyd_cert.specs.FlowPartView.{named_of, links_in}
use Rattle.hyd_cert.specs.declared.named_vectors.NamedVectors.{NamedVectors}
use Rattle.hyd_report.specs.PrintedIntervals.{printed, in_ten_thousandths}
use Rattle.hyd_num.specs.Rational.{negated, floor, ceiling}
use Rattle.hyd_num.proofs.Floors.{floor_is, ceiling_is}
use Rattle.hyd_lemmas.proofs.DenominatorsAboveZero.{flow_above}
use Rattle.std.proofs.lemmas.Int.{ints}
use Rattle.hyd_lemmas.proofs.ListsOptionsAndResults.{join-more, joined_append}
use Rattle.hyd_flow.proofs.NamesInParts.{links_then}

-- what holds of items one by one holds of two lists behind each other
zip_append : {A B : Type 0} (R : A → B → Type 0) (xs more : List A) (ys others : List B) → AllZip R xs ys
    → AllZip R more others → AllZip R (xs ++ more) (ys ++ others)
zip_append R [] more [] others all behind = behind
zip_append R [] more (y ∷ ys) others all behind = absurd all
zip_append R (x ∷ xs) more [] others all behind = absurd all
zip_append R (x ∷ xs) more (y ∷ ys) others all behind = (all.0, zip_append R xs more ys others all.1 behind)

-- flows are printed outward
flow_prints : (project : Project) (ticks : Interval)
    → Prints (flow_quantity project.options.unit) ticks (printed (flow_quantity project.options.unit) ticks)
unfolding printed
flow_prints project ticks =
    let x = in_ten_thousandths (flow_quantity project.options.unit ticks.lo) in
    let y = in_ten_thousandths (flow_quantity project.options.unit ticks.hi) in
    let low : pos 0 <ℤ pos x.den = (let p = flow_above project.options.unit ticks.lo in omega (arith, ints, p)) in
    let high : pos 0 <ℤ pos y.den = (let p = flow_above project.options.unit ticks.hi in omega (arith, ints, p)) in
    record {
      down = floor_is x.num (pos x.den) (floor x) low refl;
      up = ceiling_is y.num (neg_ℤ y.num) (pos y.den) (floor (negated y)) (ceiling y) high refl refl
          (floor_is (neg_ℤ y.num) (pos y.den) (floor (negated y)) high refl);
    }

-- the printed ends of a flow
pub ends_of : Project → GridLink → NamedLink → Interval
ends_of project link named = printed (flow_quantity project.options.unit) (flow_interval link named)

abbrev pub line_of : Project → ℕ → GridLink → NamedLink → FlowLine
line_of project time link named = record { time = time; link = named.link; ends = ends_of project link named }

-- what a span prints
pub span_prints : (project : Project) (span : Span) (link : GridLink) (named : NamedLink)
    → IsSpan span (flow_interval link named)
    → Prints (flow_quantity project.options.unit) (flows_of span) (ends_of project link named)
unfolding ends_of
span_prints project span link named is =
    let same : flows_of span ≡ flow_interval link named =
    ap₂ (λ lo hi. record { lo = lo; hi = hi }) is.lo_is is.hi_is in
    subst (λ (flows : Interval). Prints (flow_quantity project.options.unit) flows
    (printed (flow_quantity project.options.unit) (flow_interval link named))) (sym same)
    (flow_prints project (flow_interval link named))

module _ (project : Project) (grid : Grid) (time : ℕ) where
  pub its_line : (named : NamedLink) (joins : JoinsJunctions grid named.link)
      → IsFlowLine project grid time named (line_of project time joins.0 named)
  unfolding ends_of
  its_line named joins = record {
    link = joins.0;
    is_link = joins.1.0;
    ends = ends_of project joins.0 named;
    prints = flow_prints project (flow_interval joins.0 named);
    is_line = refl;
  }

  -- there are lines of links that join two junctions
  pub some_lines : (part : FlowPart) → All (λ (named : NamedLink). JoinsJunctions grid named.link) part
      → (lines : List FlowLine) × AllZip (IsFlowLine project grid time) part lines
  some_lines [] all = ([], tt)
  some_lines (x ∷ part) all =
      let joins = All-head (λ (named : NamedLink). JoinsJunctions grid named.link) x part all in
      let rest = some_lines part (All-tail (λ (named : NamedLink). JoinsJunctions grid named.link) x part all) in
      (line_of project time joins.0 x ∷ rest.0, (its_line x joins, rest.1))

  -- one line more
  pub lines_more : (i : ℕ) (links : List NamedVectors) (x : NamedVectors) (lines : List FlowLine) (line : FlowLine)
      → i < length links → x ≡ get_or links i x
      → AllZip (IsFlowLine project grid time) (links_in (take i links)) lines
      → IsFlowLine project grid time (named_of x) line
      → AllZip (IsFlowLine project grid time) (links_in (take (i + 1) links)) (lines ++ (line ∷ []))
  lines_more i links x lines line within is all here =
      subst (λ (part : FlowPart). AllZip (IsFlowLine project grid time) part (lines ++ (line ∷ [])))
      (sym (links_then i links x within is))
      (zip_append (IsFlowLine project grid time) (links_in (take i links)) (named_of x ∷ []) lines (line ∷ []) all
      (here, tt))

  -- and the others
  pub lines_whole : (i : ℕ) (links : List NamedVectors) (lines others : List FlowLine)
      → AllZip (IsFlowLine project grid time) (links_in (take i links)) lines
      → AllZip (IsFlowLine project grid time) (links_in (drop i links)) others
      → AllZip (IsFlowLine project grid time) (links_in links) (lines ++ others)
  lines_whole i links lines others all behind =
      subst (λ (part : FlowPart). AllZip (IsFlowLine project grid time) part (lines ++ others))
      (sym (map-append named_of (take i links) (drop i links)) ∙ ap links_in (take-append-drop i links))
      (zip_append (IsFlowLine project grid time) (links_in (take i links)) (links_in (drop i links)) lines others all
      behind)

pub all_behind : (P : NamedLink → Type 0) (i : ℕ) (links : List NamedVectors) → All P (links_in links)
    → All P (links_in (drop i links))
all_behind P zero links all = all
all_behind P (suc i) [] all = all
all_behind P (suc i) (x ∷ links) all = all_behind P i links (All-tail P (named_of x) (links_in links) all)

-- the text of one line more, and of the others
pub text_more : (project : Project) (lines : List FlowLine) (line : FlowLine)
    → joined (map (flow_line_text project) lines) ++ flow_line_text project line
    ≡ joined (map (flow_line_text project) (lines ++ (line ∷ [])))
text_more project lines line = sym (join-more (flow_line_text project) lines line)

pub text_whole : (project : Project) (lines others : List FlowLine) (line : FlowLine)
    → (joined (map (flow_line_text project) lines) ++ flow_line_text project line)
    ++ joined (map (flow_line_text project) others)
    ≡ joined (map (flow_line_text project) ((lines ++ (line ∷ [])) ++ others))
text_whole project lines others line =
    ap (λ text. text ++ joined (map (flow_line_text project) others)) (text_more project lines line)
    ∙ sym (joined_append (flow_line_text project) (lines ++ (line ∷ [])) others)

-- ---- the lines of a period

lines_at : (project : Project) (grid : Grid) (time : ℕ) (part : FlowPart) (due : Bool)
    → All (λ (named : NamedLink). JoinsJunctions grid named.link) part
    → (lines : List FlowLine) × MatchBool due (AllZip (IsFlowLine project grid time) part lines) (lines ≡ [])
lines_at project grid time part true joins = some_lines project grid time part joins
lines_at project grid time part false joins = ([], refl)

pub lines_there : (project : Project) (grid : Grid) (standing : Standing) (part : FlowPart)
    → All (λ (named : NamedLink). JoinsJunctions grid named.link) part
    → (lines : List FlowLine) × AreFlowLines project grid standing part lines
lines_there project grid standing part joins =
    lines_at project grid standing.time part (is_report_time project standing.time) joins

pub lines_due : (project : Project) (grid : Grid) (standing : Standing) (time : ℕ) (part : FlowPart)
    (lines : List FlowLine) → standing.time ≡ time → is_report_time project time ≡ true
    → AllZip (IsFlowLine project grid time) part lines → AreFlowLines project grid standing part lines
lines_due project grid standing time part lines at due all =
    subst (λ (b : Bool). MatchBool b (AllZip (IsFlowLine project grid standing.time) part lines) (lines ≡ []))
    (sym (ap (is_report_time project) at ∙ due))
    (subst (λ (t : ℕ). AllZip (IsFlowLine project grid t) part lines) (sym at) all)
