-- The bytes of lines of which some may be open, part by part.
use Rattle.std.proofs.Common.{◌≡◌, ℕ, zero, suc, ◌==◌, ◌&&◌, Bool, false, List, [], ◌∷◌, ◌++◌, map}
use Rattle.std.proofs.Common.{refl, sym, ap, ◌∙◌, append_assoc, arith, if◌then◌else◌}
use Rattle.std.proofs.lemmas.Bool.Decides.{nat_tests}
use Rattle.std.proofs.lemmas.List.{map-append}
use Rattle.hyd_spec.specs.ProgramTypes.{Project}
use Rattle.hyd_spec.specs.Lists.{joined}
use Rattle.hyd_spec_reports.specs.ReportLine.{ReportLine, ControlLine, TimeLine, JunctionLine, ReservoirLine, TankLine}
use Rattle.hyd_spec_reports.specs.ReportLine.{LinkLine, FilledLine, EmptiedLine, ReachedLine, RuleLine, line_text}
use Rattle.hyd_spec_open_reports.specs.OpenReportLine.{OpenLine, known_line, open_line_text}
use Rattle.hyd_report.specs.NodeAndLinkLines.{texts}
use Rattle.hyd_report.proofs.LineLemmas.{texts-append}
use Rattle.hyd_lemmas.proofs.ListsOptionsAndResults.{join-append}
use Rattle.hyd_open_report.specs.OpenPeriodLines.{open_texts}

-- ---- lines that are known

-- a line whose time is known has the bytes that it has where nothing is open
known_bytes : (project : Project) (told : ReportLine)
    → open_line_text project (known_line told) ≡ line_text project told
known_bytes project (ControlLine time number link state) = refl
known_bytes project (TimeLine time) = refl
known_bytes project (JunctionLine j head pressure outflow) = refl
known_bytes project (ReservoirLine r head) = refl
known_bytes project (TankLine k head level inflow state) = refl
known_bytes project (LinkLine l flow status) = refl
known_bytes project (FilledLine time tank) = refl
known_bytes project (EmptiedLine time tank) = refl
known_bytes project (ReachedLine time tank control) = refl
known_bytes project (RuleLine time rule link state) = refl

-- so have lines that are made of items
pub known_texts : {X : Type 0} (project : Project) (h : X → ReportLine) (xs : List X)
    → open_texts project (map (λ x. known_line (h x)) xs) ≡ texts project (map h xs)
known_texts project h [] = refl
known_texts project h (x ∷ xs) =
    ap (λ t. t ++ open_texts project (map (λ y. known_line (h y)) xs)) (known_bytes project (h x))
    ∙ ap (λ t. line_text project (h x) ++ t) (known_texts project h xs)

pub known_lines : (project : Project) (lines : List ReportLine)
    → open_texts project (map known_line lines) ≡ texts project lines
known_lines project [] = refl
known_lines project (told ∷ lines) =
    ap (λ t. t ++ open_texts project (map known_line lines)) (known_bytes project told)
    ∙ ap (λ t. line_text project told ++ t) (known_lines project lines)

-- ---- lines one after another

pub open_texts-append : (project : Project) (xs ys : List OpenLine) → open_texts project (xs ++ ys)
    ≡ open_texts project xs ++ open_texts project ys
open_texts-append project xs ys =
    ap joined (map-append (open_line_text project) xs ys)
    ∙ join-append (map (open_line_text project) xs) (map (open_line_text project) ys)

-- lines that are made of items
map-map : {X Y Z : Type 0} (f : Y → Z) (h : X → Y) (xs : List X) → map f (map h xs) ≡ map (λ x. f (h x)) xs
map-map f h [] = refl
map-map f h (x ∷ xs) = ap (λ rest. f (h x) ∷ rest) (map-map f h xs)

pub open_texts-map : {X : Type 0} (project : Project) (h : X → OpenLine) (xs : List X)
    → joined (map (λ x. open_line_text project (h x)) xs) ≡ open_texts project (map h xs)
open_texts-map project h xs = ap joined (sym (map-map (open_line_text project) h xs))

-- three parts
pub three_parts : (project : Project) (xs ys zs : List OpenLine)
    → open_texts project xs ++ (open_texts project ys ++ open_texts project zs)
    ≡ open_texts project (xs ++ (ys ++ zs))
three_parts project xs ys zs =
    ap (λ t. open_texts project xs ++ t) (sym (open_texts-append project ys zs))
    ∙ sym (open_texts-append project xs (ys ++ zs))

-- ---- a report with a known start

-- what is put where nothing is open, and lines behind it
pub known_start : {X Y Z : Type 0} (project : Project) (h : X → ReportLine) (xs : List X) (middle : List ReportLine)
    (k : Y → ReportLine) (ys : List Y) (m : Z → ReportLine) (zs : List Z) (opened : List OpenLine)
    → texts project (map h xs ++ (middle ++ (map k ys ++ map m zs))) ++ open_texts project opened
    ≡ open_texts project (map (λ x. known_line (h x)) xs ++ (map known_line middle
    ++ (map (λ y. known_line (k y)) ys ++ (map (λ z. known_line (m z)) zs ++ opened))))
known_start project h xs middle k ys m zs opened =
    let a = map h xs in
    let e = map k ys in
    let r = map m zs in
    let a' = map (λ x. known_line (h x)) xs in
    let m' = map known_line middle in
    let e' = map (λ y. known_line (k y)) ys in
    let r' = map (λ z. known_line (m z)) zs in
    let T = texts project in
    let O = open_texts project in
    let left : T (a ++ (middle ++ (e ++ r))) ≡ T a ++ (T middle ++ (T e ++ T r)) =
    texts-append project a (middle ++ (e ++ r)) ∙ ap (λ t. T a ++ t) (texts-append project middle (e ++ r)
    ∙ ap (λ t. T middle ++ t) (texts-append project e r)) in
    let right : O (a' ++ (m' ++ (e' ++ (r' ++ opened)))) ≡ T a ++ (T middle ++ (T e ++ (T r ++ O opened))) =
    open_texts-append project a' (m' ++ (e' ++ (r' ++ opened)))
    ∙ (ap (λ t. t ++ O (m' ++ (e' ++ (r' ++ opened)))) (known_texts project h xs)
    ∙ ap (λ t. T a ++ t) (open_texts-append project m' (e' ++ (r' ++ opened))
    ∙ (ap (λ t. t ++ O (e' ++ (r' ++ opened))) (known_lines project middle)
    ∙ ap (λ t. T middle ++ t) (open_texts-append project e' (r' ++ opened)
    ∙ (ap (λ t. t ++ O (r' ++ opened)) (known_texts project k ys)
    ∙ ap (λ t. T e ++ t) (open_texts-append project r' opened
    ∙ ap (λ t. t ++ O opened) (known_texts project m zs))))))) in
    ap (λ t. t ++ O opened) left
    ∙ (append_assoc (T a) (T middle ++ (T e ++ T r)) (O opened)
    ∙ (ap (λ t. T a ++ t) (append_assoc (T middle) (T e ++ T r) (O opened)
    ∙ ap (λ t. T middle ++ t) (append_assoc (T e) (T r) (O opened)))
    ∙ sym right))

-- ---- a report with an open start

-- an open start isn't 0 seconds
pub not_zero : (n : ℕ) → (n ≡ 0 → ⊥) → (n == 0) ≡ false
not_zero zero some = absurd (some refl)
not_zero (suc n) some = grind (arith, nat_tests)

-- it has no lines of a report time
pub open_start : (project : Project) (late : ℕ) (b : Bool) (start end : List OpenLine) (state : List ReportLine)
    → (late ≡ 0 → ⊥)
    → open_texts project start ++ open_texts project end
    ≡ open_texts project (start ++ (map known_line (if (late == 0) && b then state else []) ++ end))
open_start project late b start end state some =
    sym (open_texts-append project start end)
    ∙ ap (λ (c : Bool). open_texts project (start ++ (map known_line (if c && b then state else []) ++ end)))
    (sym (not_zero late some))
