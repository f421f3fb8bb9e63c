-- What was read of a certificate of version 4 so far, and one record more.
use Rattle.std.proofs.Common.{◌≡◌, ℕ, ◌+◌, ◌*◌, ◌<◌, ◌^◌, Bool, List, [], ◌∷◌, ◌++◌, length, length-append, map}
use Rattle.std.proofs.Common.{Option, Some, refl, sym, ap, subst, ◌∙◌, arith, append-nil, append_assoc}
use Rattle.std.specs.Prelude.{IfSome}
use Rattle.hyd_io.specs.declared.desk.Faults.{Faults}
use Rattle.hyd_io.specs.DeskBytes.{where_told, prepend_known}
use Rattle.hyd_io.proofs.MovedBytesLemmas.{prepend_known-prepend_known}
use Rattle.hyd_lemmas.proofs.ListsOptionsAndResults.{join-more}
use Rattle.hyd_spec.specs.ProgramTypes.{Project}
use Rattle.hyd_spec.specs.Lists.{joined}
use Rattle.hyd_spec_certificates.specs.CertificateText.{end_line}
use Rattle.hyd_spec_open_ends.specs.OpenStandings.{OpenStanding, OpenRecord}
use Rattle.hyd_spec_open_ends.specs.OpenCertificateText.{open_record_text, IsOpenRow}
use Rattle.hyd_spec_open_checks.specs.OpenChecks.{open_header_for, BeginsWithOpenRecords}
use Rattle.hyd_spec_spread.specs.Spreads.{Spread}
use Rattle.hyd_cert.specs.Lines.{Header, header_text}
use Rattle.hyd_cert.specs.PlacesOfLines.{heads_in}
use Rattle.hyd_cert.specs.Faults.{lines_on}
use Rattle.hyd_cert.specs.ReaderView.{ReaderView, lead, lead_lines, to_come}
use Rattle.hyd_cert.specs.declared.answers_of_reader.CertFault.TheVariants.{Grammar, Count}
use Rattle.hyd_cert.specs.declared.answers_of_reader.Stand.{Stand}
use Rattle.hyd_cert.specs.declared.answers_of_reader.Stand.TheVariants as stand
use Rattle.hyd_cert.proofs.TextsAtFault.{has_rest}
use Rattle.hyd_open_certificates.specs.OpenFaults.{IsOpenFault, IsOpenTextFault, LacksOpenRecord, HasOtherOpenHeader}
use Rattle.hyd_open_certificates.specs.OpenRowView.{open_header_of, open_record_of}
use Rattle.hyd_open_certificates.specs.OpenTexts.{open_lines_of as lines_with_records}
use Rattle.hyd_open_certificates.specs.declared.open_row.OpenRow.{OpenRow}
use Rattle.hyd_cert_check.specs.ReaderAndPen.{CheckMoment}
use Rattle.hyd_cert_check.specs.RecordByRecord.{coming}
use Rattle.hyd_spread_check_so_far.specs.SpreadCheckSoFar.{IsRead, read_text, IsReadTo, nothing, records, IsEndLine}
use Rattle.hyd_spread_check_so_far.specs.SpreadCheckSoFar.{IsSo, IsGrammarFault, IsCountsFault}
use Rattle.hyd_spread_check_so_far.specs.declared.conclusion.SpreadConclusion.TheVariants.{Accepted, OtherEnd}
use Rattle.hyd_spread_check_so_far.proofs.LinesOfOpenTexts.{told-is}

-- ---- what stands before a record of a reader that stands there

lead-first : (s : Stand) (header : Header) → s ≡ stand.First → lead s header ≡ header_text header
lead-first s header e = ap (λ (x : Stand). lead x header) e

lead-between : (s : Stand) (header : Header) → s ≡ stand.Between → lead s header ≡ []
lead-between s header e = ap (λ (x : Stand). lead x header) e

-- what is still to come stays where reader and text do
pub read-there : (header : Header) (found : OpenRecord) (m n o : CheckMoment) → IsRead header found m n
    → o.reader ≡ n.reader → o.told.rest ≡ n.told.rest → IsRead header found m o
read-there header found m n o read same rest =
    let coming_stays : coming o ≡ coming n = ap (λ (r : ReaderView). to_come r o.told.rest) same
    ∙ ap (to_come n.reader) rest in
    record {
      text = read.text ∙ ap (prepend_known (lead m.reader.stand header ++ open_record_text found)) (sym coming_stays);
      fits = read.fits;
      stands = ap (λ (r : ReaderView). r.stand) same ∙ read.stands;
      lines = ap (λ (r : ReaderView). r.line) same ∙ read.lines;
    }

-- ---- one record more

-- behind the header line and the first record
first-lines : (heads line : ℕ) → line ≡ lines_on 0 (2 + heads) → line ≡ lines_on 0 (1 + 1 * (1 + heads))
first-lines heads line l = omega (arith, l)

-- behind one record more
more-lines : (heads count more before line : ℕ) → before ≡ lines_on 0 (1 + count * (1 + heads))
    → line ≡ lines_on before (1 + heads) → more ≡ count + 1 → line ≡ lines_on 0 (1 + more * (1 + heads))
more-lines heads count more before line b l m =
    let e : more * (1 + heads) ≡ count * (1 + heads) + (1 + heads) =
    ap (λ (x : ℕ). x * (1 + heads)) m ∙ omega arith in
    omega (arith, b, l, e)

pub read-text-more : (project : Project) (rows : List OpenRecord) (found : OpenRecord)
    → read_text project (rows ++ (found ∷ [])) ≡ read_text project rows ++ open_record_text found
read-text-more project rows found =
    let head = header_text (open_header_for project) in
    ap (λ (t : List ℕ). head ++ t) (join-more open_record_text rows found)
    ∙ sym (append_assoc head (joined (map open_record_text rows)) (open_record_text found))

module _ (project : Project) (start : CheckMoment) where
  abbrev own : Header
  own = open_header_for project

  abbrev heads : ℕ
  heads = heads_in own.junctions own.tanks

  -- the first record was read
  first-read : (found : OpenRecord) (before now : CheckMoment) → before.reader.stand ≡ stand.First
      → coming before ≡ coming start → before.reader.line ≡ 0 → IsRead own found before now
      → IsReadTo project start now (found ∷ [])
  first-read found before now stands same zero_lines read =
      let head = header_text own in
      let one = open_record_text found in
      let text : coming start ≡ prepend_known (read_text project (found ∷ [])) (coming now) =
      sym same ∙ (read.text
      ∙ (ap (λ (l : List ℕ). prepend_known (l ++ one) (coming now)) (lead-first before.reader.stand own stands)
      ∙ ap (λ (r : List ℕ). prepend_known (head ++ r) (coming now)) (sym (append-nil one)))) in
      let passed : now.reader.line ≡ lines_on 0 (2 + heads) =
      read.lines ∙ (ap (λ (l : ℕ). lines_on l (lead_lines before.reader.stand + heads)) zero_lines
      ∙ ap (λ (s : Stand). lines_on 0 (lead_lines s + heads)) stands) in
      records read.stands text (first-lines heads now.reader.line passed)

  -- one more was read
  next-read : (rows : List OpenRecord) (found : OpenRecord) (before now : CheckMoment)
      → before.reader.stand ≡ stand.Between
      → coming start ≡ prepend_known (read_text project rows) (coming before)
      → before.reader.line ≡ lines_on 0 (lines_with_records own rows)
      → IsRead own found before now → IsReadTo project start now (rows ++ (found ∷ []))
  next-read rows found before now stands begins passed read =
      let front = read_text project rows in
      let one = open_record_text found in
      let here : coming before ≡ prepend_known one (coming now) =
      read.text ∙ ap (λ (l : List ℕ). prepend_known (l ++ one) (coming now))
      (lead-between before.reader.stand own stands) in
      let text : coming start ≡ prepend_known (read_text project (rows ++ (found ∷ []))) (coming now) =
      begins ∙ (ap (prepend_known front) here
      ∙ (prepend_known-prepend_known (coming now) front one
      ∙ ap (λ (t : List ℕ). prepend_known t (coming now)) (sym (read-text-more project rows found)))) in
      let lines : now.reader.line ≡ lines_on before.reader.line (1 + heads) =
      read.lines ∙ ap (λ (s : Stand). lines_on before.reader.line (lead_lines s + heads)) stands in
      records read.stands text (more-lines heads (length rows) (length (rows ++ (found ∷ []))) before.reader.line
      now.reader.line passed lines (length-append rows (found ∷ [])))

  pub read-more : (rows : List OpenRecord) (found : OpenRecord) (before now : CheckMoment)
      → IsReadTo project start before rows → IsRead own found before now
      → IsReadTo project start now (rows ++ (found ∷ []))
  read-more _ found before now (nothing stands same zero_lines) read =
      first-read found before now stands same zero_lines read
  read-more _ found before now (records {rows = rows} stands begins passed) read =
      next-read rows found before now stands begins passed read

  -- ---- a text that is told

  -- the text, where this is what is left of it
  pub last-text : (rows : List OpenRecord) (at : CheckMoment) (rest : Option (List ℕ)) (tail text : List ℕ)
      → IsReadTo project start at rows
      → coming at ≡ where_told rest (lead at.reader.stand own ++ tail) → coming start ≡ Some text
      → text ≡ header_text own ++ (joined (map open_record_text rows) ++ tail)
  last-text _ at rest tail text (nothing stands same zero_lines) left told =
      told-is rest (header_text own ++ tail) text
      (ap (λ (l : List ℕ). where_told rest (l ++ tail)) (sym (lead-first at.reader.stand own stands))
      ∙ (sym left ∙ (same ∙ told)))
  last-text _ at rest tail text (records {rows = rows} stands begins passed) left told =
      let head = header_text own in
      let front = read_text project rows in
      let k = has_rest front (coming at) text (sym begins ∙ told) in
      let is : k.left ≡ tail = told-is rest tail k.left
      (ap (λ (l : List ℕ). where_told rest (l ++ tail)) (sym (lead-between at.reader.stand own stands))
      ∙ (sym left ∙ k.told)) in
      k.whole ∙ (ap (λ (t : List ℕ). front ++ t) is ∙ append_assoc head (joined (map open_record_text rows)) tail)

-- it begins with what was read, and the rest is to come
pub record IsBehind (project : Project) (at : CheckMoment) (rows : List OpenRecord) (text : List ℕ) : Type 0 where
  pub stands : at.reader.stand ≡ stand.Between
  pub left : List ℕ
  pub told : coming at ≡ Some left
  pub whole : text ≡ read_text project rows ++ left
  pub passed : at.reader.line ≡ lines_on 0 (lines_with_records (open_header_for project) rows)

pub begins-as-read : (project : Project) (at : CheckMoment) (rows : List OpenRecord) (text : List ℕ)
    → IsBehind project at rows text → BeginsWithOpenRecords project rows text
begins-as-read project at rows text behind = record {
  unread = behind.left;
  is_text = behind.whole ∙ append_assoc (header_text (open_header_for project)) (joined (map open_record_text rows))
      behind.left;
}

-- where the reader stands, of a text that is told
pub data StandsAt (project : Project) (at : CheckMoment) (rows : List OpenRecord) (text : List ℕ) : Type 0 where
  at_first : at.reader.stand ≡ stand.First → coming at ≡ Some text → at.reader.line ≡ 0 → rows ≡ []
      → StandsAt project at rows text
  behind : IsBehind project at rows text → StandsAt project at rows text

pub stands-at : (project : Project) (start at : CheckMoment) (rows : List OpenRecord) (text : List ℕ)
    → IsReadTo project start at rows → coming start ≡ Some text → StandsAt project at rows text
stands-at project start at _ text (nothing stands same zero_lines) told =
    at_first stands (same ∙ told) zero_lines refl
stands-at project start at _ text (records {rows = rows} stands begins passed) told =
    let k = has_rest (read_text project rows) (coming at) text (sym begins ∙ told) in
    behind (record { stands = stands; left = k.left; told = k.told; whole = k.whole; passed = passed })

-- where something was read
pub behind-more : (project : Project) (start at : CheckMoment) (rows : List OpenRecord) (found : OpenRecord)
    (text : List ℕ) → IsReadTo project start at (rows ++ (found ∷ [])) → coming start ≡ Some text
    → IsBehind project at (rows ++ (found ∷ [])) text
behind-more project start at rows found text to told =
    by-case (stands-at project start at (rows ++ (found ∷ [])) text to told)
  where
    no-end : (before : List OpenRecord) → before ++ (found ∷ []) ≡ [] → ⊥
    no-end [] e = cc
    no-end (b ∷ before) e = cc

    by-case : StandsAt project at (rows ++ (found ∷ [])) text → IsBehind project at (rows ++ (found ∷ [])) text
    by-case (at_first stands left zero_lines none) = absurd (no-end rows none)
    by-case (behind here) = here

-- ---- what a reader answers

pub is-read : (header : Header) (found : OpenRow) (before now : CheckMoment) → open_header_of found ≡ header
    → coming before ≡ prepend_known (lead before.reader.stand (open_header_of found)
    ++ open_record_text (open_record_of found)) (coming now)
    → IsOpenRow found.row.junctions found.row.tanks (open_record_of found)
    → now.reader.line ≡ lines_on before.reader.line (lead_lines before.reader.stand + length found.row.vectors.list)
    → now.reader.stand ≡ stand.Between → IsRead header (open_record_of found) before now
is-read header found before now same text fits lines stands =
    subst (λ (h : Header). IsRead h (open_record_of found) before now) same (record {
      text = text;
      fits = fits;
      stands = stands;
      lines = lines ∙ ap (λ (m : ℕ). lines_on before.reader.line (lead_lines before.reader.stand + m)) found.row.whole;
    })

pub end-is : (project : Project) (header : Header) (periods : ℕ) (finished : Bool) (before now : CheckMoment)
    → header ≡ open_header_for project
    → coming before ≡ where_told before.told.rest (lead before.reader.stand header ++ end_line periods finished)
    → now.reader.line ≡ lines_on before.reader.line (lead_lines before.reader.stand)
    → periods < 2 ^ 32 → IsEndLine project periods finished before now
end-is project header periods finished before now same text line fits = record {
  text = text ∙ ap (λ (h : Header). where_told before.told.rest
      (lead before.reader.stand h ++ end_line periods finished)) same;
  line = line;
  fits = fits;
}

-- what an END line says of so many records
pub other-end : (project : Project) (spread : Spread) (left : OpenStanding) (line periods : ℕ) (finished : Bool)
    (before now : CheckMoment) → left.known.number < 2 ^ 32
    → (((periods ≡ left.known.number) × (finished ≡ left.known.finished)) → ⊥)
    → IsEndLine project periods finished before now → line ≡ now.reader.line
    → IsSo (OtherEnd line) project spread left before now
other-end project spread left line periods finished before now few other end number = (
  record { periods = periods; finished = finished; is_end = end; few = few; other = other },
  number,
)

pub same-end : (project : Project) (spread : Spread) (left : OpenStanding) (periods : ℕ) (finished : Bool)
    (before now : CheckMoment) → periods ≡ left.known.number → finished ≡ left.known.finished
    → IsEndLine project periods finished before now → IsSo (Accepted finished) project spread left before now
same-end project spread left periods finished before now same done end =
    (subst (λ (p : ℕ). IsEndLine project p finished before now) same end, done)

pub grammar-is : (project : Project) (header : Header) (line : ℕ) (before after : CheckMoment) (start now : Faults)
    → header ≡ open_header_for project
    → IsOpenTextFault header before.reader.stand before.reader.line (coming before) start now (Grammar line)
    → LacksOpenRecord before.reader.stand header (coming before) → IsGrammarFault project line before after
grammar-is project header line before after start now same fault lacks = record {
  offset = fault.0;
  number = fault.1.0;
  fault = subst (λ (h : Header). IfSome (coming before)
      (λ told. IsOpenFault h before.reader.stand told fault.0)) same fault.1.1;
  no_record = subst (λ (h : Header). LacksOpenRecord before.reader.stand h (coming before)) same lacks;
}

pub counts-is : (project : Project) (header : Header) (line : ℕ) (before after : CheckMoment) (start now : Faults)
    → header ≡ open_header_for project
    → IsOpenTextFault header before.reader.stand before.reader.line (coming before) start now (Count line)
    → IsCountsFault project line before after
counts-is project header line before after start now same fault = record {
  first = fault.0;
  number = fault.1;
  other_header = subst (λ (h : Header). HasOtherOpenHeader h (coming before)) same fault.2;
}
