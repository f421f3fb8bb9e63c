-- Faults of a reader of texts with flows and without.
use Rattle.std.proofs.Common.{◌≡◌, ℕ, suc, Option, List, [], ◌∷◌, Bool, true, false, Result, Ok}
use Rattle.std.proofs.Common.{Err, IfErr, refl, ap, ◌∙◌, subst, arith, codes}
use Rattle.std.specs.Fmt.{decimal}
use Rattle.hyd_io.specs.DeskBytes.{prepend_known}
use Rattle.hyd_io.specs.declared.desk.Faults.{Faults}
use Rattle.hyd_io.specs.DeskCounts.{with_read_fault}
use Rattle.hyd_spec_certificates.specs.CertificateText.{words}
use Rattle.hyd_cert.specs.Lines.{Header, header_text, IsHeaderLine}
use Rattle.hyd_cert.specs.Faults.{lines_on, OnGrammar}
use Rattle.hyd_cert.specs.PlacesWithFlows.{Between}
use Rattle.hyd_cert.specs.ReaderView.{OnRecord}
use Rattle.hyd_cert.specs.ReaderWithFlows.{IsStuckAt, IsFaultAsRead, IsHeaderFaultAsRead, LacksRecordAsRead, as_read}
use Rattle.hyd_cert.specs.declared.answers_of_reader.Stand.TheVariants as stand
use Rattle.hyd_cert.specs.declared.answers_of_reader.CertNext.{CertNext}
use Rattle.hyd_cert.specs.declared.answers_of_reader.CertNext.TheVariants.{Record}
use Rattle.hyd_cert.specs.declared.answers_of_reader.CertFault.{CertFault}
use Rattle.hyd_cert.specs.declared.answers_of_reader.CertFault.TheVariants.{Read, Grammar, Count}
use Rattle.hyd_cert.proofs.HeadLemmas.{stuck_first, stuck_behind_header}
use Rattle.hyd_cert.proofs.RecordFaultLemmas.{none_at_first, none_behind_header}

pub on_record : {P : Type 0} (next : CertNext) → next ≡ Record → OnRecord next P → P
on_record {P} next is h = subst (λ (n : CertNext). OnRecord n P) is h

pub stuck_as_read : (header : Header) (at : ℕ) (text : Option (List ℕ)) (before now : Faults) (fault : CertFault)
    → IsStuckAt header Between at text before now fault
    → IsFaultAsRead true header stand.Between at text before now fault
stuck_as_read header at text before now Read h = h
stuck_as_read header at text before now (Count number) h = absurd h
stuck_as_read header at text before now (Grammar number) h = h

-- a fault of the header line
pub header_as_read : (flows : Bool) (header : Header) (at : ℕ) (text : Option (List ℕ)) (before now : Faults)
    (fault : CertFault) → IsHeaderFaultAsRead flows header at text before now fault
    → IsFaultAsRead flows header stand.First at text before now fault
header_as_read false header at text before now fault h = stuck_first header at text before now fault h.0
header_as_read true header at text before now Read h = absurd h
header_as_read true header at text before now (Grammar number) h = absurd h
header_as_read true header at text before now (Count number) h = (refl, h.0, h.1, h.2)

-- no record is next at such a fault
pub none_at_header : (flows : Bool) (header : Header) (at : ℕ) (text : Option (List ℕ)) (before now : Faults)
    (fault : CertFault)
    → IsHeaderLine header (words (codes "HYDCERT" ∷ (decimal header.version ∷ (decimal header.junctions
    ∷ (decimal header.tanks ∷ [])))))
    → IsHeaderFaultAsRead flows header at text before now fault
    → OnGrammar fault (LacksRecordAsRead flows stand.First header text)
none_at_header false header at text before now fault is h = none_at_first header at text before now fault is h.0
none_at_header true header at text before now Read is h = tt
none_at_header true header at text before now (Grammar number) is h = tt
none_at_header true header at text before now (Count number) is h = tt

-- a fault behind the header line
pub behind_as_read : (flows : Bool) (header : Header) (line0 at : ℕ) (first rest : Option (List ℕ))
    (before counts now : Faults) (result : Result CertNext CertFault)
    → IsHeaderLine header (words (codes "HYDCERT" ∷ (decimal header.version ∷ (decimal header.junctions
    ∷ (decimal header.tanks ∷ [])))))
    → first ≡ prepend_known (header_text (as_read flows header)) rest → at ≡ lines_on line0 1 → counts ≡ before
    → IfErr result (IsFaultAsRead flows header stand.Between at rest counts now)
    → IfErr result (IsFaultAsRead flows header stand.First line0 first before now)
behind_as_read false header line0 at first rest before counts now result known is line same h =
    stuck_behind_header header line0 at (words (codes "HYDCERT" ∷ (decimal header.version ∷ (decimal header.junctions
    ∷ (decimal header.tanks ∷ []))))) first rest before counts now result known is line same h
behind_as_read true header line0 at first rest before counts now (Ok next) known is line same h = tt
behind_as_read true header line0 at first rest before counts now (Err Read) known is line same h = h
    ∙ ap with_read_fault same
behind_as_read true header line0 at first rest before counts now (Err (Count number)) known is line same h =
    let place : stand.Between ≡ stand.First = h.0 in absurd (cc)
behind_as_read true header line0 at first rest before counts now (Err (Grammar number)) known is line same h = (
  suc h.0,
  (
    let far = h.1.0 in omega (arith, far, line),
    (rest, (h.0, (is, refl, h.1.1))),
    h.1.2 ∙ same,
  ),
)

-- and no record there
pub none_behind_as_read : (flows : Bool) (header : Header) (text rest : Option (List ℕ))
    (result : Result CertNext CertFault) → text ≡ prepend_known (header_text (as_read flows header)) rest
    → IfErr result (λ fault. OnGrammar fault (LacksRecordAsRead flows stand.Between header rest))
    → IfErr result (λ fault. OnGrammar fault (LacksRecordAsRead flows stand.First header text))
none_behind_as_read false header text rest result is h = none_behind_header header text rest result is h
none_behind_as_read true header text rest (Ok next) is h = tt
none_behind_as_read true header text rest (Err Read) is h = tt
none_behind_as_read true header text rest (Err (Count number)) is h = tt
none_behind_as_read true header text rest (Err (Grammar number)) is h = tt
