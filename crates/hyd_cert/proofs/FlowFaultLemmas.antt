-- Where a text with flows is at fault inside an entry: behind the lines of its record, of its links and of their heads.
use Rattle.std.proofs.Common.{◌≡◌, ◌≢◌, ℕ, zero, suc, ◌+◌, ◌*◌, ◌-◌, ◌^◌, ◌<◌, ◌≤◌, ◌⊎◌, ℤ, Option, Some, None, List}
use Rattle.std.proofs.Common.{[], ◌∷◌}
use Rattle.std.proofs.Common.{◌++◌, length, All, Bool, true, false, nat_lt, if◌then◌else◌, Result, Ok, Err, IfErr, refl}
use Rattle.std.proofs.Common.{sym, ap, ap₂, subst, ◌∙◌, append_assoc, arith, inl, inr, codes, map}
use Rattle.std.specs.Fmt.{decimal, signed_decimal}
use Rattle.std.proofs.lemmas.List.Elements.{All-head, All-tail}
use Rattle.std.proofs.lemmas.Bool.Decides.{Decides-ltb}
use Rattle.hyd_io.specs.DeskBytes.{prepend_known}
use Rattle.hyd_io.proofs.MovedBytesLemmas.{prepend_known-prepend_known}
use Rattle.hyd_io.specs.declared.desk.Faults.{Faults}
use Rattle.hyd_io.specs.DeskCounts.{with_read_fault}
use Rattle.hyd_spec.specs.Lists.{joined}
use Rattle.hyd_spec_certificates.specs.Certificate.{IsInBox}
use Rattle.hyd_spec_certificates.specs.RecordAndStanding.{Record as Row}
use Rattle.hyd_spec_certificates.specs.CertificateText.{IsRow, record_text, words, line}
use Rattle.hyd_spec_flows.specs.FlowParts.{NamedLink, FlowPart as Part}
use Rattle.hyd_spec_flows.specs.FlowTexts.{IsNamed, named_text, name_line}
use Rattle.hyd_cert.specs.Lines.{Header, IsHeadLine, IsPeriodLine, IsEndLine}
use Rattle.hyd_cert.specs.PeriodOrEndLine.{IsPeriodOrEnd}
use Rattle.hyd_cert.specs.PlacesOfLines.{Place, Head as OldHead, CanStand, MayStand, IsFault, front_at, heads_in}
use Rattle.hyd_cert.specs.PlacesOfLines.{here as fault_here, later as fault_later, place_after, head_text}
use Rattle.hyd_cert.specs.Faults.{lines_on, IsLineFault, IsHeadsFault, OnGrammar}
use Rattle.hyd_cert.specs.PlacesWithFlows.{FlowPlace, Between, Head, Flows, Name, HeldHead, CanFollow, here, later}
use Rattle.hyd_cert.specs.PlacesWithFlows.{IsStuckInside, IsFlowsLine, IsNameLine, held_lines, held_front, held_after}
use Rattle.hyd_cert.specs.PlacesWithFlows.{flows_after, behind_link}
use Rattle.hyd_cert.specs.ReaderWithFlows.{IsStuckAt, IsVectorFault}
use Rattle.hyd_cert.specs.declared.answers_of_reader.CertFault.{CertFault}
use Rattle.hyd_cert.specs.declared.answers_of_reader.CertFault.TheVariants.{Read, Grammar, Count}
use Rattle.hyd_cert.proofs.HeadLemmas.{place_head}
use Rattle.hyd_cert.proofs.RecordFaultLemmas.{at_least_one, period_of, is_period, record_parts}
use Rattle.hyd_cert.proofs.CertificatesLineByLine.{by_heads, flat}
use Rattle.hyd_cert.proofs.FlowLineLemmas.{held_is}

-- ---- places

pub not_less : (i m : ℕ) → m ≤ i → nat_lt i m ≡ false
not_less i m low = go (nat_lt i m) refl
  where
    go : (b : Bool) → nat_lt i m ≡ b → nat_lt i m ≡ false
    go true e = absurd (let less = (Decides-ltb i m).0 e in omega (arith, less, low))
    go false e = e

pub flows_head : (heads i : ℕ) → i < heads → flows_after heads i ≡ Head i
flows_head heads i low = ap (λ b. if b then Head i else Flows) ((Decides-ltb i heads).1 low)

flows_end : (heads i : ℕ) → heads ≤ i → flows_after heads i ≡ Flows
flows_end heads i low = ap (λ b. if b then Head i else Flows) (not_less i heads low)

held_head : (n left i : ℕ) → i < 2 * n → held_after n left i ≡ HeldHead left i
held_head n left i low = ap (λ b. if b then HeldHead left i else behind_link left) ((Decides-ltb i (2 * n)).1 low)

held_end : (n left i : ℕ) → 2 * n ≤ i → held_after n left i ≡ behind_link left
held_end n left i low = ap (λ b. if b then HeldHead left i else behind_link left) (not_less i (2 * n) low)

flows_apart : (heads i : ℕ) → flows_after heads i ≢ Between
flows_apart heads i = go (nat_lt i heads)
  where
    go : (b : Bool) → (if b then Head i else Flows) ≡ Between → ⊥
    go true e = absurd (cc)
    go false e = absurd (cc)

-- behind so many heads an entry goes on, where heads or links are left
held_apart : (n left i : ℕ) → (i < 2 * n) ⊎ (1 ≤ left) → held_after n left i ≢ Between
held_apart n left i (inl low) e =
    let at = held_head n left i low in let same : HeldHead left i ≡ Between = sym at ∙ e in absurd (cc)
held_apart n left i (inr more) e = go (nat_lt i (2 * n)) left more e
  where
    go : (b : Bool) (m : ℕ) → 1 ≤ m → (if b then HeldHead m i else behind_link m) ≡ Between → ⊥
    go true m more e = absurd (cc)
    go false zero more e = absurd (omega (arith, more))
    go false (suc m) more e = absurd (cc)

-- ---- pieces of a text

pub nothing_before : (rest : Option (List ℕ)) → prepend_known [] rest ≡ rest
nothing_before None = refl
nothing_before (Some known) = refl

-- the first line of a piece
pub first_line : (a b more : List ℕ) (rest : Option (List ℕ))
    → prepend_known (a ++ (b ++ (10 ∷ more))) rest ≡ prepend_known ((a ++ b) ++ (10 ∷ [])) (prepend_known more rest)
first_line a b more rest =
    sym (prepend_known-prepend_known rest ((a ++ b) ++ (10 ∷ [])) more
    ∙ ap (λ t. prepend_known t rest) (append_assoc (a ++ b) (10 ∷ []) more ∙ append_assoc a b (10 ∷ more)))

-- the same fault at the same place of the same text
pub moved : (header : Header) (place other : FlowPlace) (text told : Option (List ℕ)) (number many : ℕ) → place ≡ other
    → text ≡ told → number ≡ many → IsStuckInside header place text number → IsStuckInside header other told many
moved header place other text told number many at is same h =
    subst (λ (k : ℕ). IsStuckInside header other told k) same
    (subst (λ (t : Option (List ℕ)). IsStuckInside header other t number) is
    (subst (λ (p : FlowPlace). IsStuckInside header p text number) at h))

-- ---- inside a record

-- a fault among the heads of a record
pub heads_stuck : (header : Header) (place : Place) (i : ℕ) (text : Option (List ℕ)) (number : ℕ)
    → IsFault header place text number → place ≡ OldHead i → number + i ≤ heads_in header.junctions header.tanks
    → IsStuckInside header (Head i) text number
heads_stuck header _ i text _ (fault_here lacks over) at within =
    let heads = heads_in header.junctions header.tanks in
    here (λ next l rest can e. lacks (place_after heads (i + 1)) l rest
    (subst (λ (p : Place). MayStand header p l (place_after heads (i + 1))) (sym at) (can.0, refl)) e)
    (λ over. absurd (cc))
heads_stuck header _ i _ _ (fault_later {place} {next} l {rest} {number} can fault) at within =
    let heads = heads_in header.junctions header.tanks in
    let stands : CanStand header (OldHead i) l next = subst (λ (p : Place). CanStand header p l next) at can in
    let some = at_least_one header next rest number fault in
    let low : i + 1 < heads = omega (arith, within, some) in
    later l (stands.0, sym (flows_head heads (i + 1) low)) (λ e. absurd (cc))
    (heads_stuck header next (i + 1) rest number fault (stands.1 ∙ place_head heads (i + 1) low)
    (omega (arith, within)))

-- no PERIOD line and no END line is next
pub stuck_before : (header : Header) (number : ℕ) (text : Option (List ℕ)) (before now : Faults) (fault : CertFault)
    → IsLineFault IsPeriodOrEnd number text before now fault → IsStuckAt header Between number text before now fault
stuck_before header at text before now Read h = h
stuck_before header at text before now (Count number) h = absurd h
stuck_before header at text before now (Grammar number) h =
    (1, (h.0, here (λ next l rest can e. h.1 l rest (follows_between header l next can) e) (λ over. absurd (cc)), h.2))
  where
    follows_between : (header : Header) (l : List ℕ) (next : FlowPlace) → CanFollow header Between l next
        → IsPeriodOrEnd l
    follows_between header l next (inl is) = inl is.0
    follows_between header l next (inr is) = inr is.0

-- a fault among the heads, behind the PERIOD line
pub stuck_among_heads : (header : Header) (line0 at : ℕ) (l : List ℕ) (first rest : Option (List ℕ))
    (before counts now : Faults) (fault : CertFault)
    → IsPeriodLine l → first ≡ prepend_known (l ++ (10 ∷ [])) rest → at ≡ lines_on line0 1 → counts ≡ before
    → IsHeadsFault header at rest counts now fault → IsStuckAt header Between line0 first before now fault
stuck_among_heads header line0 at l first rest before counts now Read is text line same h = h ∙ ap with_read_fault same
stuck_among_heads header line0 at l first rest before counts now (Count number) is text line same h = absurd h
stuck_among_heads header line0 at l first rest before counts now (Grammar number) is text line same h =
    let heads = heads_in header.junctions header.tanks in
    let some = at_least_one header (place_after heads 0) rest h.0 h.1.1 in
    let within = h.1.2.1 in
    let low : 0 < heads = omega (arith, within, some) in
    let inside = heads_stuck header (place_after heads 0) 0 rest h.0 h.1.1 (place_head heads 0 low)
    (omega (arith, within)) in (
      suc h.0,
      (
        let far = h.1.0 in omega (arith, far, line),
        subst (λ (t : Option (List ℕ)). IsStuckInside header Between t (suc h.0)) (sym text)
            (later l (inl (is, sym (flows_head heads 0 low))) (λ e. absurd (cc)) inside),
        h.1.2.0 ∙ same,
      ),
    )

-- something behind the END line
pub stuck_over : (header : Header) (l : List ℕ) (first rest : Option (List ℕ)) → IsEndLine l
    → first ≡ prepend_known (l ++ (10 ∷ [])) rest → rest ≢ Some [] → IsStuckInside header Between first 2
stuck_over header l first rest is text more =
    subst (λ (t : Option (List ℕ)). IsStuckInside header Between t 2) (sym text)
    (later l (inr (is, refl)) (λ e. absurd (cc)) (here (λ next k after stands e. stands) (λ over. more)))

-- heads of a record pass
pub heads_pass : (header : Header) (i : ℕ) (us : List ℤ) (rest text : Option (List ℕ)) (number : ℕ)
    → i + length us ≡ heads_in header.junctions header.tanks → All IsInBox us
    → text ≡ prepend_known (head_text header.junctions i us) rest → IsStuckInside header Flows rest number
    → IsStuckInside header (flows_after (heads_in header.junctions header.tanks) i) text (length us + number)
heads_pass header i [] rest text number all box is fault =
    moved header Flows _ rest text number _ (sym (flows_end (heads_in header.junctions header.tanks) i
    (omega (arith, all)))) (sym (nothing_before rest) ∙ sym is) (omega arith) fault
heads_pass header i (u ∷ us) rest text number all box is fault =
    let heads = heads_in header.junctions header.tanks in
    let more = head_text header.junctions (i + 1) us in
    let behind = heads_pass header (i + 1) us rest (prepend_known more rest) number (omega (arith, all))
    (All-tail IsInBox u us box) refl fault in
    let head : CanFollow header (Head i) (front_at header.junctions i ++ signed_decimal u) (flows_after heads (i + 1)) =
    (record { head = u; in_box = All-head IsInBox u us box; is = refl }, refl) in
    moved header (Head i) _ _ text (suc (length us + number)) _ (sym (flows_head heads i (omega (arith, all))))
    (sym (first_line (front_at header.junctions i) (signed_decimal u) more rest) ∙ sym is) (omega arith)
    (later (front_at header.junctions i ++ signed_decimal u) head (flows_apart heads (i + 1)) behind)

-- a record passes
pub record_passes : (header : Header) (row : Row) (rest text : Option (List ℕ)) (number : ℕ)
    → IsRow header.junctions header.tanks row → text ≡ prepend_known (record_text row) rest
    → IsStuckInside header Flows rest number
    → IsStuckInside header Between text (1 + heads_in header.junctions header.tanks + number)
record_passes header row rest text number fits is fault =
    let n = header.junctions in
    let heads = heads_in n header.tanks in
    let by = by_heads n header.tanks row fits in
    let whole = by.whole in
    let more = head_text n 0 (flat row) in
    let behind = heads_pass header 0 (flat row) rest (prepend_known more rest) number (omega (arith, whole)) by.box refl
    fault in
    let parts : record_text row ++ [] ≡ period_of row ++ (10 ∷ (more ++ [])) =
    record_parts n header.tanks row [] fits in
    let text_is : prepend_known (period_of row ++ (10 ∷ [])) (prepend_known more rest) ≡ text =
    split (record_text row) (period_of row) more rest parts ∙ sym is in
    moved header Between Between _ text (suc (length (flat row) + number)) _ refl text_is (omega (arith, whole))
    (later (period_of row) (inl (is_period n header.tanks row fits, refl)) (flows_apart heads 0) behind)
  where
    nil : (t : List ℕ) → t ++ [] ≡ t
    nil [] = refl
    nil (c ∷ t) = ap (λ r. c ∷ r) (nil t)

    split : (whole l more : List ℕ) (rest : Option (List ℕ)) → whole ++ [] ≡ l ++ (10 ∷ (more ++ []))
        → prepend_known (l ++ (10 ∷ [])) (prepend_known more rest) ≡ prepend_known whole rest
    split whole l more rest e =
        prepend_known-prepend_known rest (l ++ (10 ∷ [])) more
        ∙ ap (λ t. prepend_known t rest) (append_assoc l (10 ∷ []) more ∙ (ap (λ m. l ++ (10 ∷ m)) (sym (nil more))
        ∙ (sym e ∙ nil whole)))

-- ---- inside a link

-- heads of a link's vectors, all behind one key, pass
pub held_pass : (header : Header) (left i : ℕ) (front : List ℕ) (us : List ℤ) (rest text : Option (List ℕ)) (number : ℕ)
    → ((k : ℕ) → i ≤ k → k < i + length us → held_front header.junctions k ≡ front)
    → i + length us ≤ 2 * header.junctions → (i + length us < 2 * header.junctions) ⊎ (1 ≤ left) → All IsInBox us
    → text ≡ prepend_known (held_lines front us) rest
    → IsStuckInside header (held_after header.junctions left (i + length us)) rest number
    → IsStuckInside header (held_after header.junctions left i) text (length us + number)
held_pass header left i front [] rest text number key within more box is fault =
    moved header _ _ rest text number _ (ap (held_after header.junctions left) (omega arith))
    (sym (nothing_before rest) ∙ sym is) (omega arith) fault
held_pass header left i front (u ∷ us) rest text number key within more box is fault =
    let n = header.junctions in
    let after = held_lines front us in
    let behind = held_pass header left (i + 1) front us rest (prepend_known after rest) number
    (λ k low high. key k (omega (arith, low)) (omega (arith, high))) (omega (arith, within))
    (further i (length us) more)
    (All-tail IsInBox u us box) refl
    (subst (λ (k : ℕ). IsStuckInside header (held_after n left k) rest number) (omega arith) fault) in
    let here_key : held_front n i ≡ front = key i (omega arith) (omega arith) in
    let head : CanFollow header (HeldHead left i) (front ++ signed_decimal u) (held_after n left (i + 1)) = (
      record {
        head = u;
        in_box = All-head IsInBox u us box;
        is = ap (λ f. f ++ signed_decimal u) (sym here_key);
      },
      refl,
    ) in
    moved header (HeldHead left i) _ _ text (suc (length us + number)) _
    (sym (held_head n left i (omega (arith, within))))
    (sym (first_line front (signed_decimal u) after rest) ∙ sym is) (omega arith)
    (later (front ++ signed_decimal u) head (held_apart n left (i + 1) (next_left i (length us) more)) behind)
  where
    further : (i many : ℕ) → (i + suc many < 2 * header.junctions) ⊎ (1 ≤ left)
        → (i + 1 + many < 2 * header.junctions) ⊎ (1 ≤ left)
    further i many (inl low) = inl (omega (arith, low))
    further i many (inr some) = inr some

    next_left : (i many : ℕ) → (i + suc many < 2 * header.junctions) ⊎ (1 ≤ left)
        → (i + 1 < 2 * header.junctions) ⊎ (1 ≤ left)
    next_left i many (inl low) = inl (omega (arith, low))
    next_left i many (inr some) = inr some

-- a head of a vector is missing
pub vector_stuck : (header : Header) (left i count : ℕ) (front : List ℕ) (at : ℕ) (text : Option (List ℕ))
    (before now : Faults) (fault : CertFault)
    → ((k : ℕ) → i ≤ k → k < i + count → held_front header.junctions k ≡ front) → i + count ≤ 2 * header.junctions
    → IsVectorFault front count at text before now fault
    → IsStuckAt header (held_after header.junctions left i) at text before now fault
vector_stuck header left i count front at text before now Read key within h = h
vector_stuck header left i count front at text before now (Count number) key within h = absurd h
vector_stuck header left i count front at text before now (Grammar number) key within h =
    let m = h.0 in
    let n = header.junctions in
    let far = length m.passed in
    let few = m.within in
    let low : i + far < 2 * n = omega (arith, few, within) in
    let here_key : held_front n (i + far) ≡ front = key (i + far) (omega arith) (omega (arith, few)) in
    let stuck : IsStuckInside header (HeldHead left (i + far)) m.rest 1 =
    here (λ next l rest can e. m.lacks l rest (subst (λ (f : List ℕ). IsHeadLine f l) here_key can.0) e)
    (λ over. absurd (cc)) in (
      far + 1,
      (
        m.number_is,
        held_pass header left i front m.passed m.rest text 1
            (λ k low high. key k low (omega (arith, high, few))) (omega (arith, low)) (inl low) m.in_box m.is_text
            (subst (λ (p : FlowPlace). IsStuckInside header p m.rest 1) (sym (held_head n left (i + far) low)) stuck),
        h.1,
      ),
    )

-- the keys of the two vectors
pub first_key : (n k : ℕ) → k < n → held_front n k ≡ codes "FU "
first_key n k low = ap (λ b. if b then codes "FU " else codes "FL ") ((Decides-ltb k n).1 low)

pub second_key : (n k : ℕ) → n ≤ k → held_front n k ≡ codes "FL "
second_key n k low = ap (λ b. if b then codes "FU " else codes "FL ") (not_less k n low)

-- a head of the second vector is missing, behind the first one
pub second_stuck : (header : Header) (left line0 at : ℕ) (us : List ℤ) (text rest : Option (List ℕ))
    (before counts now : Faults) (fault : CertFault) → length us ≡ header.junctions → All IsInBox us
    → text ≡ prepend_known (held_lines (codes "FU ") us) rest → at ≡ lines_on line0 (length us) → counts ≡ before
    → IsVectorFault (codes "FL ") header.junctions at rest counts now fault
    → IsStuckAt header (held_after header.junctions left 0) line0 text before now fault
second_stuck header left line0 at us text rest before counts now Read long box is line same h = h
    ∙ ap with_read_fault same
second_stuck header left line0 at us text rest before counts now (Count number) long box is line same h = absurd h
second_stuck header left line0 at us text rest before counts now (Grammar number) long box is line same h =
    let n = header.junctions in
    let few = h.0.within in
    let k = vector_stuck header left n n (codes "FL ") at rest counts now (Grammar number)
    (λ j low high. second_key n j low) (omega arith) h in (
      length us + k.0,
      (
        let far = k.1.0 in omega (arith, far, line),
        held_pass header left 0 (codes "FU ") us rest text k.0
            (λ j low high. first_key n j (omega (arith, high, long))) (omega (arith, long))
            (inl (omega (arith, long, few))) box is
            (subst (λ (j : ℕ). IsStuckInside header (held_after n left j) rest k.0) (omega (arith, long)) k.1.1),
        k.1.2 ∙ same,
      ),
    )

-- no LINK line is next
pub stuck_at_name : (header : Header) (left at : ℕ) (text : Option (List ℕ)) (before now : Faults) (fault : CertFault)
    → IsLineFault (λ l. (number : ℕ) × IsNameLine number l) at text before now fault
    → IsStuckAt header (Name left) at text before now fault
stuck_at_name header left at text before now Read h = h
stuck_at_name header left at text before now (Count number) h = absurd h
stuck_at_name header left at text before now (Grammar number) h =
    (1, (h.0, here (λ next l rest can e. h.1 l rest (can.0, can.1.0) e) (λ over. absurd (cc)), h.2))

-- a fault behind the LINK line, among heads
pub stuck_behind_name : (header : Header) (left line0 at number : ℕ) (text rest : Option (List ℕ))
    (before counts now : Faults) (fault : CertFault) → number < 2 ^ 32
    → text ≡ prepend_known (name_line number) rest → at ≡ lines_on line0 1 → counts ≡ before
    → 0 < header.junctions → IsStuckAt header (held_after header.junctions left 0) at rest counts now fault
    → IsStuckAt header (Name left) line0 text before now fault
stuck_behind_name header left line0 at number text rest before counts now Read fits is line same some h = h
    ∙ ap with_read_fault same
stuck_behind_name header left line0 at number text rest before counts now (Count wrong) fits is line same some h =
    absurd h
stuck_behind_name header left line0 at number text rest before counts now (Grammar wrong) fits is line same some h = (
  suc h.0,
  (
    let far = h.1.0 in omega (arith, far, line),
    subst (λ (t : Option (List ℕ)). IsStuckInside header (Name left) t (suc h.0)) (sym is)
        (later (words (codes "LINK" ∷ (decimal number ∷ []))) (number, (record { fits = fits; is = refl }, refl))
        (held_apart header.junctions left 0 (inl (omega (arith, some)))) h.1.1),
    h.1.2 ∙ same,
  ),
)

-- a link passes, where another one is left
pub link_passes : (header : Header) (named : NamedLink) (left : ℕ) (rest text : Option (List ℕ)) (number : ℕ)
    → IsNamed header.junctions named → text ≡ prepend_known (named_text named) rest
    → IsStuckInside header (Name left) rest number
    → IsStuckInside header (Name (suc left)) text (1 + 2 * header.junctions + number)
link_passes header named left rest text number is same fault =
    let n = header.junctions in
    let upper = named.held.upper in
    let lower = named.held.lower in
    let long = is.upper.one_each in
    let also = is.lower.one_each in
    let second = held_lines (codes "FL ") lower in
    let first = held_lines (codes "FU ") upper in
    let at_end = subst (λ (p : FlowPlace). IsStuckInside header p rest number)
    (sym (held_end n (suc left) (n + length lower) (omega (arith, also)))) fault in
    let low = held_pass header (suc left) n (codes "FL ") lower rest (prepend_known second rest) number
    (λ k low high. second_key n k low) (omega (arith, also)) (inr (omega arith)) is.lower.in_box refl at_end in
    let up = held_pass header (suc left) 0 (codes "FU ") upper (prepend_known second rest)
    (prepend_known first (prepend_known second rest)) (length lower + number)
    (λ k low high. first_key n k (omega (arith, high, long))) (omega (arith, long)) (inr (omega arith))
    is.upper.in_box refl
    (subst (λ (k : ℕ). IsStuckInside header (held_after n (suc left) k) (prepend_known second rest)
    (length lower + number)) (omega (arith, long)) low) in
    let heads : named_text named ≡ name_line named.link ++ (first ++ second) =
    ap (λ t. name_line named.link ++ t) (ap₂ (λ a b. a ++ b) (sym (held_is (codes "FU") upper))
    (sym (held_is (codes "FL") lower))) in
    let parts : prepend_known (name_line named.link) (prepend_known first (prepend_known second rest)) ≡ text =
    ap (prepend_known (name_line named.link)) (prepend_known-prepend_known rest first second)
    ∙ (prepend_known-prepend_known rest (name_line named.link) (first ++ second)
    ∙ (ap (λ t. prepend_known t rest) (sym heads) ∙ sym same)) in
    moved header (Name (suc left)) _ _ text (suc (length upper + (length lower + number))) _ refl parts
    (omega (arith, long, also))
    (later (words (codes "LINK" ∷ (decimal named.link ∷ [])))
    (named.link, (record { fits = is.link_fits; is = refl }, refl)) (held_apart n (suc left) 0 (inr (omega arith))) up)

-- ---- inside a part

-- links pass, where another one is left
pub links_pass : (header : Header) (part : Part) (left : ℕ) (rest text : Option (List ℕ)) (number : ℕ)
    → All (IsNamed header.junctions) part → text ≡ prepend_known (joined (map named_text part)) rest
    → IsStuckInside header (Name left) rest number
    → IsStuckInside header (Name (left + length part)) text (length part * (1 + 2 * header.junctions) + number)
links_pass header [] left rest text number all is fault =
    moved header (Name left) _ rest text number _ (ap Name (omega arith)) (sym (nothing_before rest) ∙ sym is)
    (omega arith) fault
links_pass header (named ∷ part) left rest text number all is fault =
    let n = header.junctions in
    let more = joined (map named_text part) in
    let behind = links_pass header part left rest (prepend_known more rest) number
    (All-tail (IsNamed n) named part all) refl fault in
    let whole = link_passes header named (left + length part) (prepend_known more rest) text
    (length part * (1 + 2 * n) + number) (All-head (IsNamed n) named part all)
    (is ∙ sym (prepend_known-prepend_known rest (named_text named) more)) behind in
    moved header _ _ text text _ _ (ap Name (omega arith)) refl (omega arith) whole

-- a fault in the link of some number, behind those before it
pub stuck_in_links : (header : Header) (part : Part) (many line0 at : ℕ) (text rest : Option (List ℕ))
    (before counts now : Faults) (fault : CertFault) → length part < many → All (IsNamed header.junctions) part
    → text ≡ prepend_known (joined (map named_text part)) rest
    → at ≡ lines_on line0 (length part * (1 + 2 * header.junctions)) → counts ≡ before
    → ((left : ℕ) → IsStuckAt header (Name left) at rest counts now fault)
    → IsStuckAt header (behind_link many) line0 text before now fault
stuck_in_links header part many line0 at text rest before counts now Read low all is line same h = h 0
    ∙ ap with_read_fault same
stuck_in_links header part many line0 at text rest before counts now (Count number) low all is line same h =
    absurd (h 0)
stuck_in_links header part zero line0 at text rest before counts now (Grammar number) low all is line same h =
    absurd (omega (arith, low))
stuck_in_links header part (suc many) line0 at text rest before counts now (Grammar number) low all is line same h =
    let k = h (many - length part) in (
      length part * (1 + 2 * header.junctions) + k.0,
      (
        let far = k.1.0 in omega (arith, far, line),
        moved header _ (Name many) text text _ _ (ap Name (omega (arith, low))) refl refl
            (links_pass header part (many - length part) rest text k.0 all is k.1.1),
        k.1.2 ∙ same,
      ),
    )

-- no FLOWS line is next
pub stuck_at_flows : (header : Header) (at : ℕ) (text : Option (List ℕ)) (before now : Faults) (fault : CertFault)
    → IsLineFault (λ l. (count : ℕ) × IsFlowsLine count l) at text before now fault
    → IsStuckAt header Flows at text before now fault
stuck_at_flows header at text before now Read h = h
stuck_at_flows header at text before now (Count number) h = absurd h
stuck_at_flows header at text before now (Grammar number) h =
    (1, (h.0, here (λ next l rest can e. h.1 l rest (suc can.0, can.1.0) e) (λ over. absurd (cc)), h.2))

-- a fault behind the FLOWS line
pub stuck_behind_flows : (header : Header) (line0 at count : ℕ) (text rest : Option (List ℕ))
    (before counts now : Faults) (fault : CertFault) → 0 < count → count < 17
    → text ≡ prepend_known (line (codes "FLOWS" ∷ (decimal count ∷ []))) rest → at ≡ lines_on line0 1 → counts ≡ before
    → IsStuckAt header (behind_link count) at rest counts now fault
    → IsStuckAt header Flows line0 text before now fault
stuck_behind_flows header line0 at count text rest before counts now Read some most is line same h = h
    ∙ ap with_read_fault same
stuck_behind_flows header line0 at count text rest before counts now (Count number) some most is line same h = absurd h
stuck_behind_flows header line0 at zero text rest before counts now (Grammar number) some most is line same h =
    absurd (omega (arith, some))
stuck_behind_flows header line0 at (suc left) text rest before counts now (Grammar number) some most is line same h = (
  suc h.0,
  (
    let far = h.1.0 in omega (arith, far, line),
    subst (λ (t : Option (List ℕ)). IsStuckInside header Flows t (suc h.0)) (sym is)
        (later (words (codes "FLOWS" ∷ (decimal (suc left) ∷ [])))
        (left, (record { some = omega arith; at_most = omega (arith, most); is = refl }, refl)) (λ e. absurd (cc))
        h.1.1),
    h.1.2 ∙ same,
  ),
)

-- ---- in an entry

-- a fault in the part, behind the record
pub stuck_in_part : (header : Header) (row : Row) (line0 at : ℕ) (text rest : Option (List ℕ))
    (before counts now : Faults) (fault : CertFault) → IsRow header.junctions header.tanks row
    → text ≡ prepend_known (record_text row) rest
    → at ≡ lines_on line0 (1 + heads_in header.junctions header.tanks) → counts ≡ before
    → IsStuckAt header Flows at rest counts now fault → IsStuckAt header Between line0 text before now fault
stuck_in_part header row line0 at text rest before counts now Read fits is line same h = h ∙ ap with_read_fault same
stuck_in_part header row line0 at text rest before counts now (Count number) fits is line same h = absurd h
stuck_in_part header row line0 at text rest before counts now (Grammar number) fits is line same h = (
  1 + heads_in header.junctions header.tanks + h.0,
  (
    let far = h.1.0 in omega (arith, far, line),
    record_passes header row rest text h.0 fits is h.1.1,
    h.1.2 ∙ same,
  ),
)

-- ---- by what a call answered

-- the first vector of a link
pub first_fault : (n count at : ℕ) (text : Option (List ℕ)) (before now : Faults) (fault : CertFault) → count ≡ n
    → IsVectorFault (codes "FU ") count at text before now fault
    → (header : Header) (left : ℕ) → header.junctions ≡ n
    → IsStuckAt header (held_after header.junctions left 0) at text before now fault
first_fault n count at text before now fault many h header left e =
    vector_stuck header left 0 header.junctions (codes "FU ") at text before now fault
    (λ k low high. first_key header.junctions k (omega (arith, high))) (omega arith)
    (subst (λ (k : ℕ). IsVectorFault (codes "FU ") k at text before now fault) (many ∙ sym e) h)

-- the second one
pub second_fault : (n count line0 at : ℕ) (us : List ℤ) (text rest : Option (List ℕ)) (before counts now : Faults)
    (result : Result (Unit {0}) CertFault) → count ≡ n → length us ≡ n → All IsInBox us
    → text ≡ prepend_known (held_lines (codes "FU ") us) rest → at ≡ lines_on line0 (length us) → counts ≡ before
    → IfErr result (IsVectorFault (codes "FL ") count at rest counts now)
    → IfErr result (λ f. (header : Header) (left : ℕ) → header.junctions ≡ n
    → IsStuckAt header (held_after header.junctions left 0) line0 text before now f)
second_fault n count line0 at us text rest before counts now (Ok done) many long box is line same h = tt
second_fault n count line0 at us text rest before counts now (Err fault) many long box is line same h =
    λ header left e. second_stuck header left line0 at us text rest before counts now fault (long ∙ sym e) box is line
    same (subst (λ (k : ℕ). IsVectorFault (codes "FL ") k at rest counts now fault) (many ∙ sym e) h)

-- the heads of a link, behind its LINK line
pub link_fault : (n number line0 at : ℕ) (text rest : Option (List ℕ)) (before counts now : Faults)
    (result : Result (Unit {0}) CertFault) → number < 2 ^ 32 → text ≡ prepend_known (name_line number) rest
    → at ≡ lines_on line0 1 → counts ≡ before
    → IfErr result (λ f. (header : Header) (left : ℕ) → header.junctions ≡ n
    → IsStuckAt header (held_after header.junctions left 0) at rest counts now f)
    → IfErr result (λ f. OnGrammar f (0 < n))
    → IfErr result (λ f. (header : Header) (left : ℕ) → header.junctions ≡ n
    → IsStuckAt header (Name left) line0 text before now f)
link_fault n number line0 at text rest before counts now (Ok done) fits is line same h some = tt
link_fault n number line0 at text rest before counts now (Err Read) fits is line same h some =
    λ header left e. h header left e ∙ ap with_read_fault same
link_fault n number line0 at text rest before counts now (Err (Count wrong)) fits is line same h some =
    λ header left e. absurd (h header left e)
link_fault n number line0 at text rest before counts now (Err (Grammar wrong)) fits is line same h some =
    λ header left e. stuck_behind_name header left line0 at number text rest before counts now (Grammar wrong) fits is
    line same (omega (arith, some, e)) (h header left e)

-- the links of a part, behind its FLOWS line
pub part_fault : (n count line0 at : ℕ) (text rest : Option (List ℕ)) (before counts now : Faults)
    (result : Result (Unit {0}) CertFault) → 0 < count → count < 17
    → text ≡ prepend_known (line (codes "FLOWS" ∷ (decimal count ∷ []))) rest → at ≡ lines_on line0 1 → counts ≡ before
    → ((header : Header) → header.junctions ≡ n
    → IfErr result (IsStuckAt header (behind_link count) at rest counts now))
    → IfErr result (λ f. (header : Header) → header.junctions ≡ n → IsStuckAt header Flows line0 text before now f)
part_fault n count line0 at text rest before counts now (Ok done) some most is line same h = tt
part_fault n count line0 at text rest before counts now (Err fault) some most is line same h =
    λ header e. stuck_behind_flows header line0 at count text rest before counts now fault some most is line same
    (h header e)
