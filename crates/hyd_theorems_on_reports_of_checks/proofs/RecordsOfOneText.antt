-- Of two lists of records with which one text begins, one begins with the other.
use Rattle.std.proofs.Common.{◌≡◌, ℕ, ◌<◌, ◌≤◌, ◌^◌, Bool, true, false, if◌then◌else◌, ◌⊎◌, inl, inr, List, [], ◌∷◌}
use Rattle.std.proofs.Common.{◌++◌, map, All, Some, refl, sym, ap, ◌∙◌, append_assoc, arith}
use Rattle.std.proofs.lemmas.List.{append_cancel_left}
use Rattle.hyd_net.specs.Sound.{IsSound}
use Rattle.hyd_spec.specs.ProgramTypes.{Project}
use Rattle.hyd_spec.specs.Lists.{joined}
use Rattle.hyd_spec.specs.NodeNumbers.{junction_count, tank_count}
use Rattle.hyd_spec_certificates.specs.RecordAndStanding.{Record}
use Rattle.hyd_spec_certificates.specs.CertificateText.{IsCertificateText, IsRow, version_of, header_line, record_text}
use Rattle.hyd_spec_certificates.specs.CertificateText.{end_line, certificate_text}
use Rattle.hyd_cert.specs.Faults.{HasOtherHeader}
use Rattle.hyd_cert.specs.Lines.{IsHeaderLine, header_words}
use Rattle.hyd_line_reader.proofs.SplitTexts.{split-same}
use Rattle.hyd_cert.proofs.LineLemmas.{header_is_line}
use Rattle.hyd_cert.proofs.TextsAtFault.{has_rest, header_same}
use Rattle.hyd_cert.proofs.HeadLemmas.{header_is}
use Rattle.hyd_cert.proofs.CertificatesLineByLine.{whole_reading}
use Rattle.hyd_sim.specs.RunView.{header_for}
use Rattle.hyd_theorems_on_checks.proofs.FirstRecords.{first_rows}
use Rattle.hyd_theorems_on_checks.proofs.BeginningsOfLists.{Begins, fronts}

by_two : (b : Bool) → (1 ≤ (if b then 2 else 1)) × ((if b then 2 else 1) ≤ 2)
by_two true = (omega arith, omega arith)
by_two false = (omega arith, omega arith)

-- records that a certificate of the network can hold
abbrev pub AreRows : Project → List Record → Type 0
AreRows project rows = All (IsRow (junction_count project) (tank_count project)) rows

-- the text begins with the header line of the network and these records
abbrev pub BeginsWith : Project → List Record → List ℕ → List ℕ → Type 0
BeginsWith project rows unread text =
    text ≡ header_line (version_of project) (junction_count project) (tank_count project)
    ++ (joined (map record_text rows) ++ unread)

module _ (project : Project) (sound : IsSound project) where
  abbrev head : List ℕ
  head = header_line (version_of project) (junction_count project) (tank_count project)

  known : (1 ≤ version_of project) × (version_of project ≤ 2)
  known = by_two _

  own_header : IsHeaderLine (header_for project) (header_words (header_for project))
  own_header =
      let n : junction_count project < 2 ^ 32 = (let le = sound.counts.junctions in omega (arith, le)) in
      let k : tank_count project < 2 ^ 32 = (let le = sound.counts.tanks in omega (arith, le)) in
      header_is (header_for project) known.0 known.1 n k

  -- records with an END line behind them
  closed : (rows : List Record) → AreRows project rows
      → IsCertificateText (certificate_text (version_of project) (junction_count project) (tank_count project) rows 0
      false) (version_of project) (junction_count project) (tank_count project) rows 0 false
  closed rows fit = whole_reading (header_for project) (header_words (header_for project)) _ rows 0 false own_header fit
      (omega arith) refl

  by_texts : (a b : List Record) → AreRows project a → AreRows project b
      → Begins (joined (map record_text a)) (joined (map record_text b)) → Begins a b
  by_texts a b fit_a fit_b k =
      let end = end_line 0 false in
      let first = first_rows (certificate_text (version_of project) (junction_count project) (tank_count project) b 0
      false) (k.more ++ end) (version_of project) (junction_count project) (tank_count project) 0 b a false
      (closed b fit_b) fit_a (ap (λ t. head ++ t) (ap (λ t. t ++ end) k.is ∙ append_assoc (joined (map record_text a))
      k.more end)) in
      record { more = first.0; is = first.1 }

  -- of two lists of records with which a text begins one begins with the other
  pub compared : (text u v : List ℕ) (a b : List Record) → AreRows project a → AreRows project b
      → BeginsWith project a u text → BeginsWith project b v text → Begins a b ⊎ Begins b a
  compared text u v a b fit_a fit_b x y = by_front (fronts (joined (map record_text a)) u (joined (map record_text b)) v
      (append_cancel_left head (joined (map record_text a) ++ u) (joined (map record_text b) ++ v) (sym x ∙ y)))
    where
      by_front : Begins (joined (map record_text a)) (joined (map record_text b))
          ⊎ Begins (joined (map record_text b)) (joined (map record_text a)) → Begins a b ⊎ Begins b a
      by_front (inl k) = inl (by_texts a b fit_a fit_b k)
      by_front (inr k) = inr (by_texts b a fit_b fit_a k)

  -- a text with another header line doesn't begin so
  pub other_header : (text unread : List ℕ) (rows : List Record) → HasOtherHeader (header_for project) (Some text)
      → BeginsWith project rows unread text → ⊥
  other_header text unread rows is begins =
      let own = header_for project in
      let h = has_rest (is.line ++ (10 ∷ [])) is.rest text (sym is.begins) in
      let behind = joined (map record_text rows) ++ unread in
      let one : is.line ++ (10 ∷ h.left) ≡ header_words own ++ (10 ∷ behind) =
      sym (append_assoc is.line (10 ∷ []) h.left)
      ∙ (sym h.whole ∙ (begins ∙ append_assoc (header_words own) (10 ∷ []) behind)) in
      let same = split-same 10 is.line (header_words own) h.left behind (header_is_line is.other is.line is.is_header).0
      (header_is_line own (header_words own) own_header).0 one in
      is.apart (header_same is.other own is.line (header_words own) is.is_header own_header same.0)
