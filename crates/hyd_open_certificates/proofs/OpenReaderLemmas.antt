-- What a reader answers from a PERIOD line or the END line on, and at the header line.
use Rattle.std.proofs.Common.{◌≡◌, ◌≢◌, ℕ, ◌<◌, ◌^◌, ℤ, Option, Some, None, IfSome, List, [], ◌∷◌, ◌++◌}
use Rattle.std.proofs.Common.{Result, Ok, Err, IfErr, Bool, refl, sym, ap, subst, ◌∙◌}
use Rattle.hyd_io.specs.DeskBytes.{prepend_known}
use Rattle.hyd_io.specs.declared.desk.Faults.{Faults}
use Rattle.hyd_io.proofs.MovedBytesLemmas.{prepend_known-prepend_known}
use Rattle.hyd_spec_certificates.specs.CertificateText.{end_line}
use Rattle.hyd_spec_open_ends.specs.OpenCertificateText.{open_record_text}
use Rattle.hyd_witness_texts.specs.FirstFaults.{IsFaultAtFront}
use Rattle.hyd_cert.specs.Lines.{Header, header_words, header_text}
use Rattle.hyd_cert.specs.PlacesOfLines.{heads_in, head_text}
use Rattle.hyd_cert.specs.VectorsOfRecord.{AreVectors}
use Rattle.hyd_cert.specs.Faults.{lines_on, IsLineFault, OnGrammar}
use Rattle.hyd_cert.specs.declared.answers_of_reader.Stand.{Stand}
use Rattle.hyd_cert.specs.declared.answers_of_reader.Stand.TheVariants as stand
use Rattle.hyd_cert.specs.declared.answers_of_reader.CertNext.{CertNext}
use Rattle.hyd_cert.specs.declared.answers_of_reader.CertFault.{CertFault}
use Rattle.hyd_cert.specs.declared.answers_of_reader.CertFault.TheVariants.{Read, Grammar, Count}
use Rattle.hyd_open_certificates.specs.OpenLines.{IsOpenHeaderLine, AreFiveSmall, open_period_words}
use Rattle.hyd_open_certificates.specs.OpenPeriodOrEndLine.{IsOpenPeriodOrEnd}
use Rattle.hyd_open_certificates.specs.OpenTexts.{AreHeads}
use Rattle.hyd_open_certificates.specs.OpenFaults.{IsOpenFault, IsOpenHeaderFault, IsWrongLine, IsOpenTextFault}
use Rattle.hyd_open_certificates.specs.OpenFaults.{LacksOpenRecord}
use Rattle.hyd_open_certificates.proofs.WrongLines.{wrong_here, wrong_behind, as_fault, as_line}
use Rattle.hyd_open_certificates.proofs.OpenRests.{found_with, found_text, stuck_between, stuck_in_heads, none_in_heads}
use Rattle.hyd_open_certificates.proofs.OpenRests.{stuck_over, none_between, none_at_end, stuck_first}
use Rattle.hyd_open_certificates.proofs.OpenRests.{stuck_behind_header, none_at_first, none_behind_header}

-- ---- a record or the end

module _ (header : Header) where
  -- no PERIOD line and no END line is next
  pub no_next : (line : ℕ) (text : Option (List ℕ)) (before now : Faults) (fault : CertFault)
      → IsLineFault IsOpenPeriodOrEnd line text before now fault
      → IsOpenTextFault header stand.Between line text before now fault
  no_next line text before now fault h =
      as_fault header stand.Between line text before now fault
      (wrong_here (IsOpenFault header stand.Between) IsOpenPeriodOrEnd line text before now fault
      (stuck_between header) h)

  pub no_next_record : (line : ℕ) (text : Option (List ℕ)) (before now : Faults) (fault : CertFault)
      → IsLineFault IsOpenPeriodOrEnd line text before now fault
      → OnGrammar fault (LacksOpenRecord stand.Between header text)
  no_next_record line text before now Read h = tt
  no_next_record line text before now (Count number) h = tt
  no_next_record line text before now (Grammar number) h = none_between header text h.1

  -- a fault in the heads behind a PERIOD line
  module _ (number time late shortest longest : ℕ) (fit : AreFiveSmall number time late shortest longest) (l0 l1 : ℕ)
      (first rest : Option (List ℕ)) (before counted now : Faults) (fault : CertFault)
      (text : first ≡ prepend_known (open_period_words number time late shortest longest ++ (10 ∷ [])) rest)
      (h : IsWrongLine (IsFaultAtFront (AreHeads header.junctions 0 (heads_in header.junctions header.tanks))) l1 rest
      counted now fault) where
    pub in_heads : l1 ≡ lines_on l0 1 → counted ≡ before
        → IsOpenTextFault header stand.Between l0 first before now fault
    in_heads at same =
        as_fault header stand.Between l0 first before now fault
        (wrong_behind (IsFaultAtFront (AreHeads header.junctions 0 (heads_in header.junctions header.tanks)))
        (IsOpenFault header stand.Between) (open_period_words number time late shortest longest ++ (10 ∷ [])) 1 l0 l1
        first rest before counted now fault text at same
        (stuck_in_heads header number time late shortest longest fit) h)

    pub no_record_in_heads : OnGrammar fault (LacksOpenRecord stand.Between header first)
    no_record_in_heads = by fault rest text h
      where
        by : (f : CertFault) (r : Option (List ℕ))
            → first ≡ prepend_known (open_period_words number time late shortest longest ++ (10 ∷ [])) r
            → IsWrongLine (IsFaultAtFront (AreHeads header.junctions 0 (heads_in header.junctions header.tanks))) l1 r
            counted now f → OnGrammar f (LacksOpenRecord stand.Between header first)
        by Read r e k = tt
        by (Count n) r e k = tt
        by (Grammar n) None e k = λ found after is same. absurd (cc (e, same))
        by (Grammar n) (Some t) e k = subst (LacksOpenRecord stand.Between header) (sym e)
            (none_in_heads header number time late shortest longest fit t k.0 k.1.1)

  -- something behind the END line
  pub over_fault : (periods : ℕ) (finished : Bool) (first rest : Option (List ℕ)) → periods < 2 ^ 32
      → first ≡ prepend_known (end_line periods finished) rest
      → rest ≢ Some [] → IfSome first (λ t. IsOpenFault header stand.Between t 2)
  over_fault periods finished first None fits e more = subst (λ (o : Option (List ℕ)). IfSome o (λ t.
      IsOpenFault header stand.Between t 2)) (sym e) tt
  over_fault periods finished first (Some t) fits e more = subst (λ (o : Option (List ℕ)). IfSome o (λ t.
      IsOpenFault header stand.Between t 2)) (sym e)
      (stuck_over header periods finished fits t (λ none. more (ap Some none)))

  pub no_record_over : (periods : ℕ) (finished : Bool) (first rest : Option (List ℕ))
      → first ≡ prepend_known (end_line periods finished) rest → LacksOpenRecord stand.Between header first
  no_record_over periods finished first None e = λ found after is same. absurd (cc (e, same))
  no_record_over periods finished first (Some t) e = subst (LacksOpenRecord stand.Between header) (sym e)
      (none_at_end header periods finished t)

-- a record that was read
pub record_read : (n k number time late shortest longest : ℕ) (us heads : List ℤ) (first second third : Option (List ℕ))
    → us ≡ heads → AreVectors n k us
    → first ≡ prepend_known (open_period_words number time late shortest longest ++ (10 ∷ [])) second
    → second ≡ prepend_known (head_text n 0 heads) third
    → first ≡ prepend_known (open_record_text (found_with n k number time late shortest longest us)) third
record_read n k number time late shortest longest us heads first second third same whole opening heading =
    let period = open_period_words number time late shortest longest ++ (10 ∷ []) in
    opening ∙ (ap (prepend_known period) (heading ∙ ap (λ h. prepend_known (head_text n 0 h) third) (sym same))
    ∙ (prepend_known-prepend_known third period (head_text n 0 us)
    ∙ ap (λ t. prepend_known t third) (sym (found_text n k number time late shortest longest us whole))))

-- ---- at the header line

-- none is next, or one of other counts
pub no_header : (header : Header) → IsOpenHeaderLine header (header_words header) → (line : ℕ)
    (text : Option (List ℕ)) (before now : Faults) (fault : CertFault)
    → IsOpenHeaderFault header line text before now fault
    → IsOpenTextFault header stand.First line text before now fault
no_header header is line text before now Read h = h
no_header header is line text before now (Count number) h = (refl, h.0, h.1, h.2)
no_header header is line None before now (Grammar number) h = (1, (h.0, tt, h.2))
no_header header is line (Some t) before now (Grammar number) h = (1, (h.0, stuck_first header is t h.1, h.2))

pub no_header_record : (header : Header) → IsOpenHeaderLine header (header_words header) → (line : ℕ)
    (text : Option (List ℕ)) (before now : Faults) (fault : CertFault)
    → IsOpenHeaderFault header line text before now fault
    → OnGrammar fault (LacksOpenRecord stand.First header text)
no_header_record header is line text before now Read h = tt
no_header_record header is line text before now (Count number) h = tt
no_header_record header is line text before now (Grammar number) h = none_at_first header is text h.1

-- behind it
pub behind_header : (header : Header) → IsOpenHeaderLine header (header_words header) → (l0 l1 : ℕ)
    (first rest : Option (List ℕ)) (before counted now : Faults) (result : Result CertNext CertFault)
    → first ≡ prepend_known (header_text header) rest → l1 ≡ lines_on l0 1 → counted ≡ before
    → IfErr result (IsOpenTextFault header stand.Between l1 rest counted now)
    → IfErr result (IsOpenTextFault header stand.First l0 first before now)
behind_header header is l0 l1 first rest before counted now (Ok next) text at same h = tt
behind_header header is l0 l1 first rest before counted now (Err fault) text at same h =
    as_fault header stand.First l0 first before now fault
    (wrong_behind (IsOpenFault header stand.Between) (IsOpenFault header stand.First) (header_text header) 1 l0 l1
    first rest before counted now fault text at same (stuck_behind_header header is)
    (as_line header stand.Between l1 rest counted now fault (λ e. absurd (cc)) h))

pub no_record_behind_header : (header : Header) (first rest : Option (List ℕ)) (result : Result CertNext CertFault)
    → first ≡ prepend_known (header_text header) rest
    → IfErr result (λ fault. OnGrammar fault (LacksOpenRecord stand.Between header rest))
    → IfErr result (λ fault. OnGrammar fault (LacksOpenRecord stand.First header first))
no_record_behind_header header first rest (Ok next) text h = tt
no_record_behind_header header first rest (Err Read) text h = tt
no_record_behind_header header first rest (Err (Count number)) text h = tt
no_record_behind_header header first rest (Err (Grammar number)) text h = none_behind_header header first rest text h

-- ---- in other words for the reader's values

module _ (header : Header) (at at' : Stand) (text text' : Option (List ℕ)) (result answer : Result CertNext CertFault)
    (same_at : at ≡ at') (same_text : text ≡ text') (same_result : result ≡ answer) where
  pub fault_moved : (line line' : ℕ) (before now now' : Faults) → line ≡ line' → now ≡ now'
      → IfErr result (IsOpenTextFault header at line text before now)
      → IfErr answer (IsOpenTextFault header at' line' text' before now')
  fault_moved line line' before now now' same_line same_now h =
      subst (λ r. IfErr r (IsOpenTextFault header at' line' text' before now')) same_result
      (subst (λ (f : Faults). IfErr result (IsOpenTextFault header at' line' text' before f)) same_now
      (subst (λ (t : Option (List ℕ)). IfErr result (IsOpenTextFault header at' line' t before now)) same_text
      (subst (λ (n : ℕ). IfErr result (IsOpenTextFault header at' n text before now)) same_line
      (subst (λ (s : Stand). IfErr result (IsOpenTextFault header s line text before now)) same_at h))))

  pub none_moved : IfErr result (λ f. OnGrammar f (LacksOpenRecord at header text))
      → IfErr answer (λ f. OnGrammar f (LacksOpenRecord at' header text'))
  none_moved h =
      subst (λ r. IfErr r (λ f. OnGrammar f (LacksOpenRecord at' header text'))) same_result
      (subst (λ (t : Option (List ℕ)). IfErr result (λ f. OnGrammar f (LacksOpenRecord at' header t))) same_text
      (subst (λ (s : Stand). IfErr result (λ f. OnGrammar f (LacksOpenRecord s header text))) same_at h))
