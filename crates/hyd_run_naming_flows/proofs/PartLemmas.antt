-- The links of a part, in the network of a period and in a certificate.
use Rattle.std.proofs.Common.{◌≡◌, ℕ, ◌<◌, ◌^◌, List, length, map, All, sym, ap, subst, ◌∙◌, arith, Option}
use Rattle.std.specs.Prelude.{◌≢◌, Some, slice_get, slice_index_or, IfSome, AllPairs}
use Rattle.std.specs.Option.{option_map}
use Rattle.std.proofs.lemmas.List.{length-map}
use Rattle.std.proofs.lemmas.Option.{slice_get-map, slice_get_within}
use Rattle.hyd_net.specs.Sound.{IsSound}
use Rattle.hyd_spec.specs.ProgramTypes.{Project, Link}
use Rattle.hyd_spec.specs.NodeNumbers.{junction_count}
use Rattle.hyd_spec_certificates.specs.PeriodNetwork.{Grid, GridLink}
use Rattle.hyd_spec_certificates.specs.RecordAndStanding.{Record, vector_on}
use Rattle.hyd_spec_certificates.specs.declared.Side.{Side}
use Rattle.hyd_spec_certificates.specs.declared.Side.TheVariants.{Upper, Lower}
use Rattle.hyd_spec_certificates.specs.CertificateText.{IsVector}
use Rattle.hyd_spec_flows.specs.FlowParts.{NamedLink, FlowPart, JoinsJunctions, HasItsVector, IsFlowPart, names_of}
use Rattle.hyd_spec_flows.specs.FlowTexts.{IsPart}
use Rattle.hyd_spec_named_links.specs.NamedLinks.{JoinsTwoJunctions, MayBeNamed}
use Rattle.hyd_lemmas.proofs.ListsOptionsAndResults.{same_item, item_there, mapped}
use Rattle.hyd_period_network.specs.NetAsPeriodNetwork.{grid_of}
use Rattle.hyd_period_network.specs.NetView.{NetView}
use Rattle.hyd_period_network.specs.NetsSetToPeriods.{IsNetOf, ends_of}
use Rattle.hyd_period_network.specs.declared.junctions_ends_and_settings.Ends.{Ends}
use Rattle.hyd_period_network.proofs.GridJunctionsAndLinks.{links_count, at_link}
use Rattle.hyd_run.proofs.PeriodLemmas.{grid-count}

-- ---- names and links

-- the number of the link at a place
number-at : (part : FlowPart) (k : ℕ) (d : NamedLink) → k < length part
    → slice_index_or (names_of part) k d.link ≡ (slice_index_or part k d).link
number-at part k d within = mapped (λ (named : NamedLink). named.link) part k d.link d within

inside-names : (part : FlowPart) (k : ℕ) → k < length part → k < length (names_of part)
inside-names part k within =
    let many = length-map part (λ (named : NamedLink). named.link) in omega (arith, within, many)

-- what holds of each number holds of each link
pub all-links : (P : ℕ → Type 0) (part : FlowPart) → All P (names_of part)
    → All (λ (named : NamedLink). P named.link) part
all-links P part all k d within = subst P (number-at part k d within) (all k d.link (inside-names part k within))

pub distinct-links : (part : FlowPart) → AllPairs (λ (one later : ℕ). one ≢ later) (names_of part)
    → AllPairs (λ (one later : NamedLink). one.link ≢ later.link) part
distinct-links part distinct i j d less within same =
    distinct i j d.link less (inside-names part j within)
    (number-at part i d (omega (arith, less, within)) ∙ (same ∙ sym (number-at part j d within)))

-- ---- the network of a period

-- a link of it has the nodes that it has in the network
same-nodes : (net : NetView) (links : List Link) (number : ℕ) (link : Link) → net.ends ≡ map ends_of links
    → slice_get links number ≡ Some link
    → IfSome (slice_get (grid_of net).links number) (λ (there : GridLink).
    (there.from ≡ link.from) × (there.to ≡ link.to))
same-nodes net links number link ends at =
    at_link net.ends net.settings net.own number (λ (there : GridLink). (there.from ≡ link.from) × (there.to ≡ link.to))
    (λ its setting law its_at setting_at law_at. (let same : its ≡ ends_of link = same_item Ends its (ends_of link)
    (sym its_at ∙ (ap (λ (all : List Ends). slice_get all number) ends ∙ (slice_get-map ends_of links number
    ∙ ap (option_map ends_of) at))) in (ap (λ (e : Ends). e.from) same, ap (λ (e : Ends). e.to) same)))

-- a link that joins two junctions joins them there too
pub joins-there : (project : Project) (net : NetView) → IsNetOf project net → (number : ℕ)
    → JoinsTwoJunctions project number → JoinsJunctions (grid_of net) number
joins-there project net of number joins =
    let link = joins.0 in
    let inside : number < length project.links.list = slice_get_within project.links.list number link joins.1.0 in
    let ends : length net.ends ≡ length project.links.list =
    ap length of.ends ∙ length-map project.links.list ends_of in
    let many : length (grid_of net).links ≡ length project.links.list =
    links_count net.ends net.settings net.own (of.each_setting ∙ sym ends) (of.each_own ∙ sym ends) ∙ ends in
    let there = item_there (grid_of net).links number (omega (arith, inside, many)) in
    let nodes : (there.0.from ≡ link.from) × (there.0.to ≡ link.to) =
    subst (λ (o : Option GridLink). IfSome o (λ (l : GridLink). (l.from ≡ link.from) × (l.to ≡ link.to))) there.1
    (same-nodes net project.links.list number link of.ends joins.1.0) in
    let from = joins.1.1.0 in
    let to = joins.1.1.1 in
    let same_from = nodes.0 in
    let same_to = nodes.1 in
    let count = grid-count project net of in
    (there.0, (there.1, (omega (arith, from, same_from, count), omega (arith, to, same_to, count))))

-- the links of a part do
pub joins-each : (project : Project) (net : NetView) → IsNetOf project net → (part : FlowPart)
    → All (JoinsTwoJunctions project) (names_of part)
    → All (λ (named : NamedLink). JoinsJunctions (grid_of net) named.link) part
joins-each project net of part joins k d within =
    joins-there project net of (slice_index_or part k d).link (all-links (JoinsTwoJunctions project) part joins k d
    within)

-- links that may be named, with their vectors, are a part
pub is-flow-part : (project : Project) (net : NetView) → IsNetOf project net → (row : Record) (part : FlowPart)
    → MayBeNamed project (names_of part)
    → All (λ (named : NamedLink). (side : Side) → HasItsVector (grid_of net) row named side) part
    → IsFlowPart (grid_of net) row part
is-flow-part project net of row part may vectors = record {
  distinct = distinct-links part may.distinct;
  joins = joins-each project net of part may.join;
  vectors = vectors;
}

-- ---- a certificate

vector-fits : (grid : Grid) (row : Record) (named : NamedLink) (side : Side) (junctions : ℕ)
    → length grid.junctions ≡ junctions → HasItsVector grid row named side
    → IsVector junctions (vector_on side named.held)
vector-fits grid row named side junctions count has =
    record { one_each = has.1.1.one_each ∙ count; in_box = has.1.1.in_box }

link-fits : (project : Project) → IsSound project → (number : ℕ) → JoinsTwoJunctions project number → number < 2 ^ 32
link-fits project sound number joins =
    let inside : number < length project.links.list = slice_get_within project.links.list number joins.0 joins.1.0 in
    let most = sound.counts.links in
    omega (arith, inside, most)

-- it can hold such a part
pub part-fits : (project : Project) → IsSound project → (grid : Grid) → length grid.junctions ≡ junction_count project
    → (row : Record) (part : FlowPart) → MayBeNamed project (names_of part) → IsFlowPart grid row part
    → IsPart (junction_count project) part
part-fits project sound grid count row part may is =
    let many = length-map part (λ (named : NamedLink). named.link) in
    record {
      some = (let some = may.some in omega (arith, many, some));
      at_most = (let most = may.at_most in omega (arith, many, most));
      each = λ k d within. record {
        link_fits = link-fits project sound (slice_index_or part k d).link
            (all-links (JoinsTwoJunctions project) part may.join k d within);
        upper = vector-fits grid row (slice_index_or part k d) Upper (junction_count project) count
            (is.vectors k d within Upper);
        lower = vector-fits grid row (slice_index_or part k d) Lower (junction_count project) count
            (is.vectors k d within Lower);
      };
    }
