-- The records with which the text of a certificate begins are the first of its records.
use Rattle.std.proofs.Common.{◌≡◌, ◌≢◌, ℕ, ◌/◌, ◌%◌, ◌==◌, ℤ, Bool, true, false, if◌then◌else◌, List, [], ◌∷◌, ◌++◌}
use Rattle.std.proofs.Common.{map, All, codes, get_or, inl, inr, refl, sym, ap, ap₂, subst, ◌∙◌, append_assoc, arith}
use Rattle.std.specs.Fmt.{decimal, signed_decimal}
use Rattle.std.proofs.lemmas.List.{append-nil, append_cancel_left}
use Rattle.std.proofs.lemmas.List.Elements.{All-append}
use Rattle.hyd_spec.specs.Lists.{joined}
use Rattle.hyd_spec_certificates.specs.RecordAndStanding.{Record, Vectors}
use Rattle.hyd_spec_certificates.specs.CertificateText.{words, line, header_line, period_line, head_lines, vectors_text}
use Rattle.hyd_spec_certificates.specs.CertificateText.{record_text, end_line, IsRow, IsCertificateText}
use Rattle.hyd_theorems_on_definitions.proofs.CertificateLines.{contents-same}
use Rattle.hyd_line_reader.specs.TextsWithoutLine.{HasNo}
use Rattle.hyd_cert.specs.Lines.{Header, header_words, header_text}
use Rattle.hyd_cert.specs.PlacesOfLines.{Place, First, Between, Head, Over, CanStand, front_of, Goes, ends, goes}
use Rattle.hyd_cert.specs.FaultyLine.{IsCertificate, IsLines}
use Rattle.hyd_cert.proofs.TextsAtFault.{opened, stands_alone, goes_behind}
use Rattle.hyd_cert.proofs.CertificatesLineByLine.{certificate_goes, goes_certificate, whole_reading}

-- ---- whole lines

lines_append : (a b : List ℕ) → IsLines a → IsLines b → IsLines (a ++ b)
lines_append a b is (inl none) = subst IsLines (sym (ap (λ t. a ++ t) none ∙ append-nil a)) is
lines_append a b is (inr body) =
    inr (a ++ body.0, ap (λ t. a ++ t) body.1 ∙ sym (append_assoc a body.0 (10 ∷ [])))

lines_joined : {X : Type 0} (f : X → List ℕ) → ((x : X) → IsLines (f x)) → (xs : List X) → IsLines (joined (map f xs))
lines_joined f each [] = inl refl
lines_joined f each (x ∷ xs) = lines_append (f x) (joined (map f xs)) (each x) (lines_joined f each xs)

line_is : (parts : List (List ℕ)) → IsLines (line parts)
line_is parts = inr (words parts, refl)

heads_are : (key : List ℕ) (heads : List ℤ) → IsLines (head_lines key heads)
heads_are key heads =
    lines_joined (λ (h : ℤ). line (key ∷ (signed_decimal h ∷ [])))
    (λ h. line_is (key ∷ (signed_decimal h ∷ []))) heads

vectors_are : (upper lower : List ℕ) (vectors : Vectors) → IsLines (vectors_text upper lower vectors)
vectors_are upper lower vectors =
    lines_append (head_lines upper vectors.upper) (head_lines lower vectors.lower) (heads_are upper vectors.upper)
    (heads_are lower vectors.lower)

record_is : (row : Record) → IsLines (record_text row)
record_is row =
    let main = vectors_text (codes "MU") (codes "ML") row.main in
    let pinned = joined (map (vectors_text (codes "PU") (codes "PL")) row.pinned) in
    lines_append (period_line row) (main ++ pinned)
    (line_is (codes "PERIOD" ∷ (decimal row.number ∷ (decimal row.time ∷ (decimal row.length ∷ [])))))
    (lines_append main pinned (vectors_are (codes "MU") (codes "ML") row.main)
    (lines_joined (vectors_text (codes "PU") (codes "PL")) (vectors_are (codes "PU") (codes "PL")) row.pinned))

-- ---- two texts that begin with the same lines

-- the front of a text begins with the text's first line
record Begins (line rest front a : List ℕ) : Type 0 where
  behind : List ℕ
  lines : IsLines behind
  begins : front ≡ line ++ (10 ∷ behind)
  left : rest ≡ behind ++ a

first_line : (line rest body a : List ℕ) → HasNo 10 line → line ++ (10 ∷ rest) ≡ (body ++ (10 ∷ [])) ++ a
    → Begins line rest (body ++ (10 ∷ [])) a
first_line [] rest [] a free e = record { behind = []; lines = inl refl; begins = refl; left = cc }
first_line [] rest (y ∷ body) a free e =
    let feed : y ≡ 10 = cc in
    record {
      behind = body ++ (10 ∷ []);
      lines = inr (body, refl);
      begins = ap (λ c. c ∷ (body ++ (10 ∷ []))) feed;
      left = cc;
    }
first_line (x ∷ line) rest [] a free e = let feed : x ≡ 10 = cc in absurd (free.0 feed)
first_line (x ∷ line) rest (y ∷ body) a free e =
    let same : x ≡ y = cc in
    let after : line ++ (10 ∷ rest) ≡ (body ++ (10 ∷ [])) ++ a = cc in
    let k = first_line line rest body a free.1 after in
    record { behind = k.behind; lines = k.lines; begins = ap₂ (λ c t. c ∷ t) (sym same) k.begins; left = k.left }

-- behind those lines both go on from one place
record GoOn (header : Header) (a b : List ℕ) : Type 0 where
  place : Place
  first : Goes header place a
  second : Goes header place b

nothing_begins : (body a : List ℕ) → [] ≡ (body ++ (10 ∷ [])) ++ a → ⊥
nothing_begins [] a e = absurd (cc)
nothing_begins (x ∷ body) a e = absurd (cc)

go_on : (header : Header) (place : Place) (text front a b : List ℕ) → Goes header place text → text ≡ front ++ a
    → IsLines front → Goes header place (front ++ b) → GoOn header a b
go_on header place text front a b first e (inl none) other = record {
  place = place;
  first = subst (Goes header place) (e ∙ ap (λ f. f ++ a) none) first;
  second = subst (Goes header place) (ap (λ f. f ++ b) none) other;
}
go_on header _ _ front a b ends e (inr body) other =
    absurd (nothing_begins body.0 a (e ∙ ap (λ f. f ++ a) body.1))
go_on header _ _ front a b (goes {place = place} {next = next} line {rest = rest} can on) e (inr body) other =
    let k = first_line line rest body.0 a (stands_alone header place next line can) (e ∙ ap (λ f. f ++ a) body.1) in
    let whole : front ++ b ≡ line ++ (10 ∷ (k.behind ++ b)) =
    ap (λ f. f ++ b) (body.1 ∙ k.begins) ∙ append_assoc line (10 ∷ k.behind) b in
    go_on header next rest k.behind a b on k.left k.lines
    (goes_behind header place next line (k.behind ++ b) can (subst (Goes header place) whole other))

-- ---- where an END line can stand

by_tests : (a b d : Bool) (rest : List ℕ) → get_or
    ((if a then codes "MU " else (if b then codes "ML " else (if d then codes "PU " else codes "PL "))) ++ rest)
    0 0 ≢ 69
by_tests true b d rest e = absurd (omega (arith, e))
by_tests false true d rest e = absurd (omega (arith, e))
by_tests false false true rest e = absurd (omega (arith, e))
by_tests false false false rest e = absurd (omega (arith, e))

front_apart : (vector : ℕ) (rest : List ℕ) → get_or (front_of vector ++ rest) 0 0 ≢ 69
front_apart vector rest = by_tests (vector == 0) (vector == 1) (vector % 2 == 0) rest

end_stands : (header : Header) (place next : Place) (l rest : List ℕ) → end_line 0 false ≡ l ++ (10 ∷ rest)
    → CanStand header place l next → place ≡ Between
end_stands header First next l rest e can =
    let first : 69 ≡ 72 = ap (λ (t : List ℕ). get_or t 0 0) (e ∙ ap (λ w. w ++ (10 ∷ rest)) can.0.is) in
    absurd (omega (arith, first))
end_stands header Between next l rest e can = refl
end_stands header (Head i) next l rest e can =
    let front = front_of (i / header.junctions) in
    let number = signed_decimal can.0.head in
    absurd (front_apart (i / header.junctions) (number ++ (10 ∷ rest)) (sym (ap (λ (t : List ℕ). get_or t 0 0)
    (e ∙ (ap (λ w. w ++ (10 ∷ rest)) can.0.is ∙ append_assoc front number (10 ∷ rest))))))
end_stands header Over next l rest e can = absurd can

at_end : (header : Header) (place : Place) → Goes header place (end_line 0 false) → place ≡ Between
at_end header place on =
    let k = opened header place (end_line 0 false) on
    (λ at none. let first : 69 ≡ 0 = ap (λ (t : List ℕ). get_or t 0 0) none in absurd (omega (arith, first))) in
    end_stands header place k.next k.line k.rest k.is k.can

-- ---- records

-- without the records that it begins with a certificate is one
without : (header : Header) (text unread : List ℕ) (rows : List Record) → IsCertificate header text
    → All (IsRow header.junctions header.tanks) rows
    → text ≡ header_text header ++ (joined (map record_text rows) ++ unread)
    → IsCertificate header (header_text header ++ unread)
without header text unread rows certificate all e =
    let records = joined (map record_text rows) in
    let front = header_text header ++ records in
    let end = end_line 0 false in
    let own = certificate_goes header text certificate in
    let k = opened header First text own (λ at. absurd (cc)) in
    let short = certificate_goes header (front ++ end) (record {
      rows = rows;
      periods = 0;
      finished = false;
      is_text = whole_reading header k.line (front ++ end) rows 0 false k.can.0 all (omega arith)
          (append_assoc (header_text header) records end);
    }) in
    let both = go_on header First (front ++ end) front end unread short refl
    (lines_append (header_text header) records (inr (header_words header, refl))
    (lines_joined record_text record_is rows))
    (subst (Goes header First) (e ∙ sym (append_assoc (header_text header) records unread)) own) in
    let rest = subst (λ (p : Place). Goes header p unread) (at_end header both.place both.first) both.second in
    subst (IsCertificate header)
    (ap (λ l. l ++ (10 ∷ unread)) k.can.0.is ∙ sym (append_assoc (header_words header) (10 ∷ []) unread))
    (goes_certificate header (k.line ++ (10 ∷ unread)) (goes k.line (k.can.0, refl) rest))

pub both_rows : (rows more : List Record) (rest : List ℕ)
    → joined (map record_text rows) ++ (joined (map record_text more) ++ rest)
    ≡ joined (map record_text (rows ++ more)) ++ rest
both_rows [] more rest = refl
both_rows (row ∷ rows) more rest =
    append_assoc (record_text row) (joined (map record_text rows)) (joined (map record_text more) ++ rest)
    ∙ (ap (λ t. record_text row ++ t) (both_rows rows more rest)
    ∙ sym (append_assoc (record_text row) (joined (map record_text (rows ++ more))) rest))

pub first_rows : (text unread : List ℕ) (version junctions tanks periods : ℕ) (rows front : List Record)
    (finished : Bool)
    → IsCertificateText text version junctions tanks rows periods finished → All (IsRow junctions tanks) front
    → text ≡ header_line version junctions tanks ++ (joined (map record_text front) ++ unread)
    → (more : List Record) × (rows ≡ front ++ more)
first_rows text unread version junctions tanks periods rows front finished certificate all e =
    let header : Header = record { version = version; junctions = junctions; tanks = tanks } in
    let rest = without header text unread front
    (record { rows = rows; periods = periods; finished = finished; is_text = certificate }) all e in
    let last = end_line rest.periods rest.finished in
    let more = joined (map record_text rest.rows) in
    let unread_is : unread ≡ more ++ last =
    append_cancel_left (header_line version junctions tanks) unread (more ++ last) rest.is_text.is_text in
    let all_rows = front ++ rest.rows in
    let whole : IsCertificateText text version junctions tanks all_rows rest.periods rest.finished = record {
      known = certificate.known;
      junctions_fit = certificate.junctions_fit;
      tanks_fit = certificate.tanks_fit;
      header_fits = certificate.header_fits;
      rows_fit = All-append (IsRow junctions tanks) front rest.rows all rest.is_text.rows_fit;
      periods_fit = rest.is_text.periods_fit;
      is_text = e ∙ ap (λ t. header_line version junctions tanks ++ t)
          (ap (λ t. joined (map record_text front) ++ t) unread_is ∙ both_rows front rest.rows last);
    } in (
      rest.rows,
      (contents-same text version version junctions junctions tanks tanks periods rest.periods rows (front ++ rest.rows)
          finished rest.finished certificate whole).0,
    )
