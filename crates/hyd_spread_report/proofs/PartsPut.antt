-- What is put of the parts of a period is the text of its lines.
use Rattle.std.proofs.Common.{◌≡◌, ℕ, ◌+◌, ℤ, pos, List, ◌∷◌, ◌++◌, length, map, sym, ap, ◌∙◌}
use Rattle.std.proofs.lemmas.List.{length-append}
use Rattle.hyd_spec.specs.ProgramTypes.{Project}
use Rattle.hyd_spec.specs.Lists.{map_from}
use Rattle.hyd_spec_certificates.specs.PeriodNetwork.{GridJunction}
use Rattle.hyd_spec_certificates.specs.RecordAndStanding.{Record}
use Rattle.hyd_spec_reports.specs.ReportLine.{ReportLine, line_text}
use Rattle.hyd_spec_open_reports.specs.OpenReportLine.{OpenLine, known_line}
use Rattle.hyd_spec_spread_runs.specs.OutermostPairs.{Pair}
use Rattle.hyd_period_network.specs.NetView.{NetView}
use Rattle.hyd_period_network.specs.NetAsPeriodNetwork.{grid_of}
use Rattle.hyd_bounds.specs.VectorsInOrder.{AreInOrder}
use Rattle.hyd_spread_bounds.specs.BothSides.{pair_of, IsOrderedPair}
use Rattle.hyd_spread_bounds.proofs.HeadsOfBothSides.{junctions-alike, reservoirs-alike}
use Rattle.hyd_report.specs.NodeAndLinkLines.{texts}
use Rattle.hyd_report.proofs.LineLemmas.{texts-append, in_order}
use Rattle.hyd_open_report.specs.OpenPeriodLines.{open_texts}
use Rattle.hyd_open_report.proofs.OpenTexts.{known_lines, three_parts}
use Rattle.hyd_spread_report.specs.LinesOverBothSides.{AreBoundsOver, junction_line_over}

-- the parts of a report time, with the vectors as they were read
pub state_text : (project : Project) (pair : Pair) (told : ReportLine) (low lower high upper : List ℤ)
    (junctions : List GridJunction) (reservoirs rest : List ReportLine) → low ≡ lower → high ≡ upper
    → line_text project told ++ (texts project (map_from (junction_line_over project pair low high) 0 junctions)
    ++ (texts project reservoirs ++ texts project rest))
    ≡ texts project (told ∷ (map_from (junction_line_over project pair lower upper) 0 junctions
    ++ (reservoirs ++ rest)))
state_text project pair told low lower high upper junctions reservoirs rest low_is high_is =
    let lines : List ℤ → List ℤ → List ReportLine = λ l h. map_from (junction_line_over project pair l h) 0
    junctions in
    let behind = texts project reservoirs ++ texts project rest in
    ap (λ (l : List ℤ). line_text project told ++ (texts project (lines l high) ++ behind)) low_is
    ∙ (ap (λ (h : List ℤ). line_text project told ++ (texts project (lines lower h) ++ behind)) high_is
    ∙ ap (λ (s : List ℕ). line_text project told ++ s)
    (ap (λ (s : List ℕ). texts project (lines lower upper) ++ s) (sym (texts-append project reservoirs rest))
    ∙ sym (texts-append project (lines lower upper) (reservoirs ++ rest))))

-- vectors are in order where they are with others behind them, and others again behind those
pub front_in_order : (lower upper below above rest more : List ℤ) → length lower ≡ length upper
    → length below ≡ length above → AreInOrder (pos 0) ((lower ++ below) ++ rest) ((upper ++ above) ++ more)
    → AreInOrder (pos 0) lower upper
front_in_order lower upper below above rest more same alike order =
    in_order lower upper below above same
    (in_order (lower ++ below) (upper ++ above) rest more
    (length-append lower below ∙ (ap (λ n. n + length below) same ∙ (ap (λ n. length upper + n) alike
    ∙ sym (length-append upper above)))) order)

-- the vectors of a record have as many heads, and both nets as many reservoirs
pub vectors-alike : (upper lower : NetView) (row : Record) → IsOrderedPair (pair_of upper lower)
    → AreBoundsOver upper lower row → length (grid_of upper).junctions ≡ length upper.junctions
    → length (grid_of lower).junctions ≡ length lower.junctions
    → (length row.main.lower ≡ length row.main.upper) × (length lower.reservoirs ≡ length upper.reservoirs)
vectors-alike upper lower row ordered bounds above below = (
  bounds.low.one_each ∙ (sym below ∙ (junctions-alike upper lower ordered ∙ (above ∙ sym bounds.high.one_each))),
  reservoirs-alike upper lower ordered,
)

-- the start, what is told of a report time, and the end
pub parts_text : (project : Project) (start : List OpenLine) (middle : List ReportLine) (end : List OpenLine)
    → open_texts project start ++ (texts project middle ++ open_texts project end)
    ≡ open_texts project (start ++ (map known_line middle ++ end))
parts_text project start middle end =
    ap (λ (s : List ℕ). open_texts project start ++ (s ++ open_texts project end)) (sym (known_lines project middle))
    ∙ three_parts project start (map known_line middle) end
