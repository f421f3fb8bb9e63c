-- What was read of a text so far, and one record more with the part behind it.
use Rattle.std.proofs.Common.{◌≡◌, ℕ, ◌+◌, Bool, List, [], ◌∷◌, ◌++◌, map, All, Option, Some, refl, sym}
use Rattle.std.proofs.Common.{ap, subst, ◌∙◌, arith, append-nil, append_assoc}
use Rattle.std.proofs.lemmas.List.Elements.{All-nil, All-push}
use Rattle.hyd_io.specs.DeskBytes.{where_told, prepend_known}
use Rattle.hyd_io.proofs.MovedBytesLemmas.{prepend_known-prepend_known}
use Rattle.hyd_net.specs.Sound.{IsSound}
use Rattle.hyd_spec.specs.ProgramTypes.{Project}
use Rattle.hyd_spec.specs.Lists.{joined}
use Rattle.hyd_spec.specs.NodeNumbers.{junction_count, tank_count}
use Rattle.hyd_spec_certificates.specs.CertificateText.{line_feeds}
use Rattle.hyd_spec_flows.specs.FlowTexts.{Entry}
use Rattle.hyd_cert.specs.Lines.{Header, header_text}
use Rattle.hyd_cert.specs.PlacesOfLines.{heads_in}
use Rattle.hyd_cert.specs.Faults.{lines_on}
use Rattle.hyd_cert.specs.ReaderView.{lead, lead_lines}
use Rattle.hyd_cert.specs.ReaderWithFlows.{as_read, lead_as_read, part_lines}
use Rattle.hyd_cert.specs.declared.answers_of_reader.Stand.{Stand}
use Rattle.hyd_cert.specs.declared.answers_of_reader.Stand.TheVariants as stand
use Rattle.hyd_cert.proofs.TextsAtFault.{has_rest}
use Rattle.hyd_cert.proofs.WholeTextLemmas.{feeds_append}
use Rattle.hyd_sim.specs.RunView.{header_for}
use Rattle.hyd_theorems_on_flow_texts.proofs.LinesOfEntries.{entry-feeds}
use Rattle.hyd_cert_check.specs.ReaderAndPen.{CheckMoment}
use Rattle.hyd_cert_check.specs.RecordByRecord.{coming, entry_as_read, IsEntryAsRead, KeepsFlows, IsRead, read_text}
use Rattle.hyd_cert_check.specs.RecordByRecord.{IsReadTo, nothing, entries}
use Rattle.hyd_cert_check.proofs.TextLemmas.{header-feeds, read-text-more, told-is}

-- ---- lines

-- behind the header line and the first record
first-lines : (heads part entry whole header line : ℕ) → line ≡ lines_on 0 (2 + heads + part) → header ≡ 1
    → entry ≡ 1 + heads + part → whole ≡ header + entry → line ≡ lines_on 0 whole
first-lines heads part entry whole header line l h e w = omega (arith, l, h, e, w)

-- behind one record more
more-lines : (heads part entry whole read before line : ℕ) → before ≡ lines_on 0 read
    → line ≡ lines_on before (1 + heads + part) → entry ≡ 1 + heads + part → whole ≡ read + entry
    → line ≡ lines_on 0 whole
more-lines heads part entry whole read before line b l e w = omega (arith, b, l, e, w)

-- ---- one record more

-- what stands before a record of a reader that stands there
lead-first : (s : Stand) (header : Header) → s ≡ stand.First → lead s header ≡ header_text header
lead-first s header e = ap (λ (x : Stand). lead x header) e

lead-between : (s : Stand) (header : Header) → s ≡ stand.Between → lead s header ≡ []
lead-between s header e = ap (λ (x : Stand). lead x header) e

module _ (project : Project) (sound : IsSound project) (start : CheckMoment) where
  abbrev own : Header
  own = header_for project

  -- the lines of an entry that was read
  read-feeds : (entry : Entry) (before now : CheckMoment) → IsRead own entry before now
      → line_feeds (entry_as_read now.reader.flows entry)
      ≡ 1 + heads_in own.junctions own.tanks + part_lines now.reader.flows own.junctions entry.part
  read-feeds entry before now read =
      entry-feeds now.reader.flows own.junctions own.tanks entry.row entry.part read.fits.row read.fits.part

  -- the first record was read
  first-read : (entry : Entry) (before now : CheckMoment) → before.reader.stand ≡ stand.First
      → coming before ≡ coming start → before.reader.line ≡ 0 → IsRead own entry before now
      → IsReadTo project start now (entry ∷ [])
  first-read entry before now stands same zero_lines read =
      let flows = now.reader.flows in
      let heads = heads_in own.junctions own.tanks in
      let part = part_lines flows own.junctions entry.part in
      let head = header_text (as_read flows own) in
      let one = entry_as_read flows entry in
      let text : coming start ≡ prepend_known (read_text flows own (entry ∷ [])) (coming now) =
      sym same ∙ (read.text
      ∙ (ap (λ (l : List ℕ). prepend_known (l ++ one) (coming now))
      (lead-first before.reader.stand (as_read flows own) stands)
      ∙ ap (λ (r : List ℕ). prepend_known (head ++ r) (coming now)) (sym (append-nil one)))) in
      let passed : now.reader.line ≡ lines_on 0 (2 + heads + part) =
      read.lines ∙ (ap (λ (l : ℕ). lines_on l (lead_lines before.reader.stand + heads + part)) zero_lines
      ∙ ap (λ (s : Stand). lines_on 0 (lead_lines s + heads + part)) stands) in
      let whole : line_feeds (read_text flows own (entry ∷ [])) ≡ line_feeds head + line_feeds one =
      ap (λ (r : List ℕ). line_feeds (head ++ r)) (append-nil one) ∙ feeds_append head one in
      entries read.stands text (first-lines heads part (line_feeds one) (line_feeds (read_text flows own (entry ∷ [])))
      (line_feeds head) now.reader.line passed (header-feeds flows project sound) (read-feeds entry before now read)
      whole)

  -- one more was read
  next-read : (all : List Entry) (entry : Entry) (before now : CheckMoment) → before.reader.stand ≡ stand.Between
      → coming start ≡ prepend_known (read_text before.reader.flows own all) (coming before)
      → before.reader.line ≡ lines_on 0 (line_feeds (read_text before.reader.flows own all))
      → IsRead own entry before now → IsReadTo project start now (all ++ (entry ∷ []))
  next-read all entry before now stands begins passed read =
      let flows = now.reader.flows in
      let same : before.reader.flows ≡ flows = sym (read.keeps.same stands) in
      let heads = heads_in own.junctions own.tanks in
      let part = part_lines flows own.junctions entry.part in
      let front = read_text flows own all in
      let one = entry_as_read flows entry in
      let here : coming before ≡ prepend_known one (coming now) =
      read.text ∙ ap (λ (l : List ℕ). prepend_known (l ++ one) (coming now))
      (lead-between before.reader.stand (as_read flows own) stands) in
      let so_far : coming start ≡ prepend_known front (coming before) =
      begins ∙ ap (λ (f : Bool). prepend_known (read_text f own all) (coming before)) same in
      let more = read-text-more flows own all entry in
      let text : coming start ≡ prepend_known (read_text flows own (all ++ (entry ∷ []))) (coming now) =
      so_far ∙ (ap (prepend_known front) here
      ∙ (prepend_known-prepend_known (coming now) front one
      ∙ ap (λ (t : List ℕ). prepend_known t (coming now)) (sym more))) in
      let lines : now.reader.line ≡ lines_on before.reader.line (1 + heads + part) =
      read.lines ∙ ap (λ (s : Stand). lines_on before.reader.line (lead_lines s + heads + part)) stands in
      let counted : before.reader.line ≡ lines_on 0 (line_feeds front) =
      passed ∙ ap (λ (f : Bool). lines_on 0 (line_feeds (read_text f own all))) same in
      entries read.stands text (more-lines heads part (line_feeds one)
      (line_feeds (read_text flows own (all ++ (entry ∷ [])))) (line_feeds front) before.reader.line now.reader.line
      counted lines (read-feeds entry before now read) (ap line_feeds more ∙ feeds_append front one))

  pub read-more : (all : List Entry) (entry : Entry) (before now : CheckMoment) → IsReadTo project start before all
      → IsRead own entry before now → IsReadTo project start now (all ++ (entry ∷ []))
  read-more _ entry before now (nothing stands same zero_lines) read =
      first-read entry before now stands same zero_lines read
  read-more _ entry before now (entries {all = all} stands begins passed) read =
      next-read all entry before now stands begins passed read

  -- ---- what a certificate can hold

  -- where the reader keeps in mind whether the text has flows
  pub fit-kept : (all : List Entry) (at now : CheckMoment) → IsReadTo project start at all → KeepsFlows at now
      → All (IsEntryAsRead at.reader.flows (junction_count project) (tank_count project)) all
      → All (IsEntryAsRead now.reader.flows (junction_count project) (tank_count project)) all
  fit-kept _ at now (nothing stands same zero_lines) keeps fit =
      All-nil (IsEntryAsRead now.reader.flows (junction_count project) (tank_count project))
  fit-kept _ at now (entries {all = all} stands begins passed) keeps fit =
      subst (λ (f : Bool). All (IsEntryAsRead f (junction_count project) (tank_count project)) all)
      (sym (keeps.same stands)) fit

  pub fit-more : (all : List Entry) (entry : Entry) (at now : CheckMoment) → IsReadTo project start at all
      → IsRead own entry at now
      → All (IsEntryAsRead at.reader.flows (junction_count project) (tank_count project)) all
      → All (IsEntryAsRead now.reader.flows (junction_count project) (tank_count project)) (all ++ (entry ∷ []))
  fit-more all entry at now to read fit =
      All-push (IsEntryAsRead now.reader.flows (junction_count project) (tank_count project)) all entry
      (fit-kept all at now to read.keeps fit) read.fits

  -- ---- a text that is told

  -- the text, where this is what is left of it
  pub last-text : (all : List Entry) (at now : CheckMoment) (rest : Option (List ℕ)) (tail text : List ℕ)
      → IsReadTo project start at all → KeepsFlows at now
      → coming at ≡ where_told rest (lead_as_read now.reader.flows at.reader.stand own ++ tail)
      → coming start ≡ Some text
      → text ≡ header_text (as_read now.reader.flows own)
      ++ (joined (map (entry_as_read now.reader.flows) all) ++ tail)
  last-text _ at now rest tail text (nothing stands same zero_lines) keeps left told =
      let header = as_read now.reader.flows own in
      told-is rest (header_text header ++ tail) text
      (ap (λ (l : List ℕ). where_told rest (l ++ tail)) (sym (lead-first at.reader.stand header stands))
      ∙ (sym left ∙ (same ∙ told)))
  last-text _ at now rest tail text (entries {all = all} stands begins passed) keeps left told =
      let flows = now.reader.flows in
      let same : at.reader.flows ≡ flows = sym (keeps.same stands) in
      let head = header_text (as_read flows own) in
      let front = read_text flows own all in
      let so_far : coming start ≡ prepend_known front (coming at) =
      begins ∙ ap (λ (f : Bool). prepend_known (read_text f own all) (coming at)) same in
      let k = has_rest front (coming at) text (sym so_far ∙ told) in
      let is : k.left ≡ tail = told-is rest tail k.left
      (ap (λ (l : List ℕ). where_told rest (l ++ tail)) (sym (lead-between at.reader.stand (as_read flows own) stands))
      ∙ (sym left ∙ k.told)) in
      k.whole ∙ (ap (λ (t : List ℕ). front ++ t) is ∙ append_assoc head (joined (map (entry_as_read flows) all)) tail)

-- a text that begins with the header line and these entries
pub record BeginsAsRead (project : Project) (flows : Bool) (all : List Entry) (text : List ℕ) : Type 0 where
  pub unread : List ℕ
  pub is_text : text ≡ header_text (as_read flows (header_for project))
      ++ (joined (map (entry_as_read flows) all) ++ unread)

-- it begins with what was read, and the rest is to come
pub record IsBehind (project : Project) (at : CheckMoment) (all : List Entry) (text : List ℕ) : Type 0 where
  pub stands : at.reader.stand ≡ stand.Between
  pub left : List ℕ
  pub told : coming at ≡ Some left
  pub whole : text ≡ read_text at.reader.flows (header_for project) all ++ left
  pub passed : at.reader.line ≡ lines_on 0 (line_feeds (read_text at.reader.flows (header_for project) all))

pub begins-as-read : (project : Project) (at : CheckMoment) (all : List Entry) (text : List ℕ)
    → IsBehind project at all text → BeginsAsRead project at.reader.flows all text
begins-as-read project at all text behind = record {
  unread = behind.left;
  is_text = behind.whole ∙ append_assoc (header_text (as_read at.reader.flows (header_for project)))
      (joined (map (entry_as_read at.reader.flows) all)) behind.left;
}

-- where the reader stands, of a text that is told
pub data StandsAt (project : Project) (at : CheckMoment) (all : List Entry) (text : List ℕ) : Type 0 where
  at_first : at.reader.stand ≡ stand.First → coming at ≡ Some text → at.reader.line ≡ 0 → all ≡ []
      → StandsAt project at all text
  behind : IsBehind project at all text → StandsAt project at all text

pub stands-at : (project : Project) (start at : CheckMoment) (all : List Entry) (text : List ℕ)
    → IsReadTo project start at all → coming start ≡ Some text → StandsAt project at all text
stands-at project start at _ text (nothing stands same zero_lines) told =
    at_first stands (same ∙ told) zero_lines refl
stands-at project start at _ text (entries {all = all} stands begins passed) told =
    let k = has_rest (read_text at.reader.flows (header_for project) all) (coming at) text (sym begins ∙ told) in
    behind (record { stands = stands; left = k.left; told = k.told; whole = k.whole; passed = passed })

-- where something was read
pub behind-more : (project : Project) (start at : CheckMoment) (all : List Entry) (entry : Entry) (text : List ℕ)
    → IsReadTo project start at (all ++ (entry ∷ [])) → coming start ≡ Some text
    → IsBehind project at (all ++ (entry ∷ [])) text
behind-more project start at all entry text to told =
    by-case (stands-at project start at (all ++ (entry ∷ [])) text to told)
  where
    no-end : (before : List Entry) → before ++ (entry ∷ []) ≡ [] → ⊥
    no-end [] e = cc
    no-end (b ∷ before) e = cc

    by-case : StandsAt project at (all ++ (entry ∷ [])) text → IsBehind project at (all ++ (entry ∷ [])) text
    by-case (at_first stands left zero_lines none) = absurd (no-end all none)
    by-case (behind here) = here
