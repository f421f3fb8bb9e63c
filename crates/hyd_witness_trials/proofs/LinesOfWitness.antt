-- How many lines a witness has: fewer than the last number that a line can have.
use Rattle.std.proofs.Common.{◌≡◌, ℕ, ◌+◌, ◌*◌, ◌^◌, ◌<◌, ◌≤◌, List, [], ◌∷◌, ◌++◌, length, map, suc}
use Rattle.std.proofs.Common.{ap, ap₂, ◌∙◌, arith}
use Rattle.std.specs.List.{All}
use Rattle.std.proofs.lemmas.Nat.{mul-le}
use Rattle.hyd_net.specs.Sound.{IsSound}
use Rattle.hyd_spec.specs.ProgramTypes.{Project}
use Rattle.hyd_spec.specs.Lists.{joined}
use Rattle.hyd_spec_certificates.specs.CertificateText.{line_feeds}
use Rattle.hyd_spec_witnesses.specs.MetPeriods.{Moment}
use Rattle.hyd_spec_witnesses.specs.WitnessText.{Counts, IsMoment, counts_of, moment_text, moment_line, witness_header}
use Rattle.hyd_spec_witnesses.specs.WitnessText.{witness_end}
use Rattle.hyd_spec_witnesses.specs.FaultyLine.{IsFaultyLine}
use Rattle.hyd_cert.specs.Faults.{lines_on}
use Rattle.hyd_witness_texts.specs.Lines.{header_words}
use Rattle.hyd_witness_texts.specs.PartsOfWitness.{list_lines, lines_of, lists_text}
use Rattle.hyd_witness_texts.specs.PeriodOrEndLine.{end_words}
use Rattle.hyd_witness_texts.proofs.FirstFaultLemmas.{feeds-append, one_feed}
use Rattle.hyd_witness_texts.proofs.RestOfWitness.{lists_block, lists_are, has_values, AreSmallCounts, header_alone}
use Rattle.hyd_witness_texts.proofs.RestOfWitness.{period_alone, period_words}
use Rattle.hyd_witness_texts.proofs.WitnessLines.{end_is_line}

-- ---- counts of a network

-- a network has so few lines in a period
pub record HasFewLines (counts : Counts) : Type 0 where
  pub small : AreSmallCounts counts
  pub few : 1 + list_lines counts ≤ 2 ^ 16

pub few_lines : (project : Project) → IsSound project → HasFewLines (counts_of project)
few_lines project sound =
    let junctions = sound.counts.junctions in
    let links = sound.counts.links in
    let tanks = sound.counts.tanks in
    record {
      small = record {
        junctions = omega (arith, junctions);
        links = omega (arith, links);
        tanks = omega (arith, tanks);
      };
      few = omega (arith, junctions, links, tanks);
    }

-- ---- numbers of lines

module _ (counts : Counts) (few : HasFewLines counts) where
  -- the lines of fewer than 2^32 periods
  few_of_periods : (periods : ℕ) → periods < 2 ^ 32 → periods * (1 + list_lines counts) ≤ 2 ^ 48
  few_of_periods periods fits =
      let product = mul-le periods (1 + list_lines counts) (2 ^ 32) (2 ^ 16) (omega (arith, fits)) few.few in
      product

  -- the lines of one more
  pub lines_more : (periods : ℕ) → periods + 1 < 2 ^ 32
      → lines_on (lines_of counts periods) (1 + list_lines counts) ≡ lines_of counts (periods + 1)
  lines_more periods fits =
      let bound = few_of_periods periods (omega (arith, fits)) in
      let few_more = few.few in
      let product : (periods + 1) * (1 + list_lines counts) ≡ periods * (1 + list_lines counts) + (1 + list_lines counts) =
      omega arith in
      omega (arith, bound, few_more, product)

  -- those of the first one, behind the header line
  pub lines_first : lines_on 0 (2 + list_lines counts) ≡ lines_of counts 1
  lines_first = let few_more = few.few in omega (arith, few_more)

  moment_feeds : (m : Moment) → IsMoment counts m → line_feeds (moment_text m) ≡ 1 + list_lines counts
  moment_feeds m is =
      let sum = feeds-append (moment_line m) (lists_text m) in
      let one = one_feed (period_words m.number m.time m.length) (period_alone m.number m.time m.length (record {
        number_fits = is.number_fits;
        time_fits = is.time_fits;
        length_fits = is.length_fits;
      })) in
      let more = (lists_block counts).feeds (lists_text m) (lists_are counts m (has_values counts m is)) in
      sum ∙ ap₂ (λ a b. a + b) one more

  moments_feeds : (moments : List Moment) → All (IsMoment counts) moments
      → line_feeds (joined (map moment_text moments)) ≡ length moments * (1 + list_lines counts)
  moments_feeds [] all = omega arith
  moments_feeds (m ∷ moments) all =
      let sum = feeds-append (moment_text m) (joined (map moment_text moments)) in
      let one = moment_feeds m (all 0 m (omega arith)) in
      let more = moments_feeds moments (λ k d le. all (suc k) d (omega (arith, le))) in
      omega (arith, sum, one, more)

  -- a faulty line's number can be said
  pub number_fits : (text : List ℕ) (number : ℕ) → IsFaultyLine counts text number → number < 2 ^ 49
  number_fits text number fault =
      let w = fault.goes_on in
      let t = w.is_text in
      let moments = joined (map moment_text w.moments) in
      let end = witness_end (length w.moments) in
      let whole = ap line_feeds t.is_text in
      let parts = feeds-append fault.front fault.more in
      let outer = feeds-append (witness_header w.scale counts) (moments ++ end) in
      let inner = feeds-append moments end in
      let first = one_feed (header_words w.scale counts) (header_alone counts few.small w.scale t.is_scale) in
      let last = one_feed (end_words (length w.moments)) (end_is_line (length w.moments) t.count_fits).0 in
      let middle = moments_feeds w.moments t.moments_fit in
      let bound = few_of_periods (length w.moments) t.count_fits in
      let count = fault.count in
      omega (arith, whole, parts, outer, inner, first, last, middle, bound, count)

-- such a number is the one that a reader says
pub said_number : (line offset : ℕ) → line + offset < 2 ^ 49 → lines_on line offset ≡ line + offset
said_number line offset fits = omega (arith, fits)
