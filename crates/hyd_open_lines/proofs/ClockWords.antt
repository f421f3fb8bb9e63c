-- The words of lines with a time that may be open.
use Rattle.std.proofs.Common.{◌≡◌, ℕ, ◌+◌, ◌==◌, Bool, true, false, List, [], ◌∷◌, ◌++◌, refl, sym, ap, ◌∙◌}
use Rattle.std.proofs.Common.{append_assoc, if◌then◌else◌}
use Rattle.std.specs.Prelude.{codes}
use Rattle.std.specs.Fmt.{decimal}
use Rattle.hyd_spec.specs.ProgramTypes.{Project, LinkState, Open, Closed, Speed, Throttle, Limit}
use Rattle.hyd_spec_certificates.specs.CertificateText.{words, line}
use Rattle.hyd_spec_certificates.specs.declared.EventKind.{EventKind}
use Rattle.hyd_spec_certificates.specs.declared.EventKind.TheVariants.{Full, Empty, Control}
use Rattle.hyd_spec_reports.specs.ReportLine.{clock_text, state_words, given_words, tank_id}
use Rattle.hyd_spec_reports.specs.Report.{event_line}
use Rattle.hyd_spec_open_reports.specs.OpenReportLine.{with_clock, open_line_text}
use Rattle.hyd_open_lines.specs.Texts.{last_text, event_text}

by_word : (b : Bool) (first last word : List ℕ) (rest : List (List ℕ))
    → words (first ∷ (if b then word ∷ rest else last ∷ (word ∷ rest)))
    ≡ first ++ ((if b then [] else 32 ∷ last) ++ (32 ∷ words (word ∷ rest)))
by_word true first last word rest = refl
by_word false first last word rest = refl

-- both seconds, and the words behind them
pub clock_words : (time late : ℕ) (word : List ℕ) (rest : List (List ℕ))
    → words (with_clock time late (word ∷ rest))
    ≡ clock_text time ++ (last_text time late ++ (32 ∷ words (word ∷ rest)))
clock_words time late word rest = by_word (late == 0) (clock_text time) (clock_text (time + late)) word rest

-- a link and its state
pub given : (id : List ℕ) (state : LinkState)
    → words (given_words id state) ≡ codes "LINK" ++ (32 ∷ (id ++ (32 ∷ words (state_words state))))
given id Open = refl
given id Closed = refl
given id (Speed nano) = refl
given id (Throttle nano law) = refl
given id (Limit nano ticks) = refl

-- ---- whole lines

-- a line feed behind a time, a key word, an ID and more
at_end : (c l k i s : List ℕ)
    → (c ++ (l ++ (k ++ (i ++ (32 ∷ s))))) ++ (10 ∷ []) ≡ c ++ (l ++ (k ++ (i ++ (32 ∷ (s ++ (10 ∷ []))))))
at_end c l k i s =
    append_assoc c (l ++ (k ++ (i ++ (32 ∷ s)))) (10 ∷ [])
    ∙ ap (λ t. c ++ t) (append_assoc l (k ++ (i ++ (32 ∷ s))) (10 ∷ [])
    ∙ ap (λ t. l ++ t) (append_assoc k (i ++ (32 ∷ s)) (10 ∷ [])
    ∙ ap (λ t. k ++ t) (append_assoc i (32 ∷ s) (10 ∷ []))))

-- the line of a control
control_is : (number id : List ℕ) (time late : ℕ) (state : LinkState)
    → codes "CONTROL " ++ (number ++ (codes " " ++ (clock_text time ++ (last_text time late ++ (codes " LINK "
    ++ (id ++ (codes " " ++ (words (state_words state) ++ (codes "\n" ++ [])))))))))
    ≡ line (codes "CONTROL" ∷ (number ∷ with_clock time late (given_words id state)))
control_is number id time late state =
    let s = words (state_words state) in
    let all = clock_text time ++ (last_text time late ++ (codes " LINK " ++ (id ++ (32 ∷ s)))) in
    sym (ap (λ w. (codes "CONTROL" ++ (32 ∷ (number ++ (32 ∷ w)))) ++ (10 ∷ []))
    (clock_words time late (codes "LINK") (id ∷ state_words state)
    ∙ ap (λ w. clock_text time ++ (last_text time late ++ (32 ∷ w))) (given id state))
    ∙ (ap (λ t. codes "CONTROL " ++ t) (append_assoc number (32 ∷ all) (10 ∷ []))
    ∙ ap (λ t. codes "CONTROL " ++ (number ++ (codes " " ++ t)))
    (at_end (clock_text time) (last_text time late) (codes " LINK ") id s)))

-- its pieces
pub control_pieces : {key number first last id state : List ℕ} (control time late : ℕ) (to : LinkState)
    (link : List ℕ) → key ≡ codes "CONTROL " → number ≡ decimal (control + 1) → first ≡ clock_text time
    → last ≡ last_text time late → id ≡ link → state ≡ words (state_words to)
    → key ++ (number ++ (codes " " ++ (first ++ (last ++ (codes " LINK " ++ (id ++ (codes " "
    ++ (state ++ (codes "\n" ++ [])))))))))
    ≡ line (codes "CONTROL" ∷ (decimal (control + 1) ∷ with_clock time late (given_words link to)))
control_pieces control time late to link a b c d e f =
    (λ j. a j ++ (b j ++ (codes " " ++ (c j ++ (d j ++ (codes " LINK " ++ (e j ++ (codes " "
    ++ (f j ++ (codes "\n" ++ []))))))))))
    ∙ control_is (decimal (control + 1)) link time late to

-- the line of an event
event_is : (id told : List ℕ) (what : List (List ℕ)) (time late : ℕ)
    → words (codes "TANK" ∷ (id ∷ what)) ≡ codes "TANK" ++ (32 ∷ (id ++ (32 ∷ told)))
    → codes "EVENT " ++ (clock_text time ++ (last_text time late ++ (codes " TANK " ++ (id ++ (codes " "
    ++ (told ++ (codes "\n" ++ [])))))))
    ≡ line (codes "EVENT" ∷ with_clock time late (codes "TANK" ∷ (id ∷ what)))
event_is id told what time late same =
    sym (ap (λ w. (codes "EVENT" ++ (32 ∷ w)) ++ (10 ∷ []))
    (clock_words time late (codes "TANK") (id ∷ what)
    ∙ ap (λ w. clock_text time ++ (last_text time late ++ (32 ∷ w))) same)
    ∙ ap (λ t. codes "EVENT " ++ t) (at_end (clock_text time) (last_text time late) (codes " TANK ") id told))

event_told : (project : Project) (time late tank : ℕ) (what : EventKind)
    → codes "EVENT " ++ (clock_text time ++ (last_text time late ++ (codes " TANK " ++ (tank_id project tank
    ++ (codes " " ++ (event_text what ++ (codes "\n" ++ [])))))))
    ≡ open_line_text project (record { line = event_line time (record { tank = tank; what = what }); late = late })
event_told project time late tank Full =
    event_is (tank_id project tank) (codes "FULL") (codes "FULL" ∷ []) time late refl
event_told project time late tank Empty =
    event_is (tank_id project tank) (codes "EMPTY") (codes "EMPTY" ∷ []) time late refl
event_told project time late tank (Control number) =
    event_is (tank_id project tank) (codes "CONTROL " ++ decimal (number + 1))
    (codes "CONTROL" ∷ (decimal (number + 1) ∷ [])) time late refl

-- its pieces
pub event_pieces : {key first last id told : List ℕ} (project : Project) (time late tank : ℕ) (what : EventKind)
    → key ≡ codes "EVENT " → first ≡ clock_text time → last ≡ last_text time late → id ≡ tank_id project tank
    → told ≡ event_text what
    → key ++ (first ++ (last ++ (codes " TANK " ++ (id ++ (codes " " ++ (told ++ (codes "\n" ++ [])))))))
    ≡ open_line_text project (record { line = event_line time (record { tank = tank; what = what }); late = late })
event_pieces project time late tank what a b c d e =
    (λ j. a j ++ (b j ++ (c j ++ (codes " TANK " ++ (d j ++ (codes " " ++ (e j ++ (codes "\n" ++ []))))))))
    ∙ event_told project time late tank what
