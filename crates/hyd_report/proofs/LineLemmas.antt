-- Lines one after another, and what is put of one.
use Rattle.std.proofs.Common.{◌≡◌, ℕ, zero, suc, ◌+◌, ◌<◌, ℤ, pos, ◌-ℤ◌, List, [], ◌∷◌, ◌++◌, length, map, take, get_or}
use Rattle.std.proofs.Common.{Option, Some, None, refl, sym, ap, subst, ◌∙◌, append_assoc, append-nil, arith}
use Rattle.std.specs.Prelude.{slice_get, slice_index_or, IfSome}
use Rattle.std.proofs.lemmas.Int.{ints}
use Rattle.std.proofs.lemmas.Option.{slice_get-get_or, get_or_from_slice_get}
use Rattle.hyd_num.specs.declared.spans.Span.{Span}
use Rattle.hyd_spec.specs.ProgramTypes.{Project, Tank, Link, LinkState}
use Rattle.hyd_spec.specs.declared.TankState.{TankState}
use Rattle.hyd_spec.specs.declared.TankState.TheVariants.{Between}
use Rattle.hyd_spec_certificates.specs.SpansAsIntervals.{levels_of, flows_of}
use Rattle.hyd_spec_certificates.specs.declared.LevelSpan.{LevelSpan}
use Rattle.hyd_spec_certificates.specs.Decided.{nowhere}
use Rattle.hyd_spec.specs.Assignment.{head_at}
use Rattle.hyd_spec.specs.DemandsHeadsAndPumpLifts.{is_us}
use Rattle.hyd_spec.specs.Rules.{state_of_link}
use Rattle.hyd_spec.specs.Lists.{joined, map_from}
use Rattle.hyd_spec_certificates.specs.Interval.{Interval, shifted}
use Rattle.hyd_spec_certificates.specs.PeriodNetwork.{Grid, GridLink, GridJunction, all_heads}
use Rattle.hyd_spec_certificates.specs.declared.Problem.TheVariants.{Main}
use Rattle.hyd_spec_certificates.specs.declared.Side.TheVariants.{Upper, Lower}
use Rattle.hyd_spec_certificates.specs.FlowIntervals.{difference, flow_box, out_box}
use Rattle.hyd_spec_reports.specs.ReportLine.{ReportLine, TankLine, line_text}
use Rattle.hyd_spec_certificates.specs.StatusesOfLinks.{status_of}
use Rattle.hyd_spec_certificates.specs.declared.StatusWord.{StatusWord}
use Rattle.hyd_bounds.specs.VectorsInOrder.{IsSpan, AreInOrder}
use Rattle.hyd_report.specs.PrintedIntervals.{printed, quantity_in, ArePrinted}
use Rattle.hyd_report.specs.NodeAndLinkLines.{texts, junction_at, junction_between, junction_line, tank_at}
use Rattle.hyd_report.specs.NodeAndLinkLines.{reservoir_between, reservoir_line, tank_line, no_link, link_at, link_line}
use Rattle.std.proofs.lemmas.List.{map-append}
use Rattle.hyd_lemmas.proofs.ListsOptionsAndResults.{any_default, join-append}
use Rattle.hyd_report.specs.declared.printed_intervals.Ends.{Ends}
use Rattle.hyd_report.specs.declared.printed_intervals.Quantity.TheVariants.{Head, Flow}

-- ---- items

-- the item that is there
pub there : {X : Type 0} (xs : List X) (i : ℕ) (Q : X → Type 0) → i < length xs → IfSome (slice_get xs i) Q
    → (x : X) × ((slice_get xs i ≡ Some x) × Q x)
there [] i Q within q = absurd (omega arith)
there (x ∷ xs) zero Q within q = (x, (refl, q))
there (x ∷ xs) (suc i) Q within q = there xs i Q (omega arith) q

-- what was read of a list, as a function shows it
pub map-read : {X Y : Type 0} (f : X → Y) (xs : List X) (i : ℕ) (x : X) (d : Y) → i < length xs → x ≡ get_or xs i x
    → slice_index_or (map f xs) i d ≡ f x
map-read f [] i x d within is = absurd (omega arith)
map-read f (y ∷ ys) zero x d within is = ap f (sym is)
map-read f (y ∷ ys) (suc i) x d within is = map-read f ys i x d (omega arith) is

-- ---- lines one after another

module _ {X : Type 0} (project : Project) (f : ℕ → X → ReportLine) where
  more_from : (k : ℕ) (xs : List X) (i : ℕ) (x : X) → slice_get xs i ≡ Some x
      → texts project (map_from f k (take i xs)) ++ line_text project (f (k + i) x) ≡ texts project (map_from f k
      (take (suc i) xs))
  more_from k [] i x at = absurd (cc)
  more_from k (y ∷ ys) zero x at =
      let same : y ≡ x = cc in
      let n : k + 0 ≡ k = omega arith in
      ap (λ m. line_text project (f m x)) n ∙ (ap (λ z. line_text project (f k z)) (sym same) ∙ sym (append-nil
      (line_text project (f k y))))
  more_from k (y ∷ ys) (suc i) x at =
      let n : k + suc i ≡ suc k + i = omega arith in
      append_assoc (line_text project (f k y)) (texts project (map_from f (suc k) (take i ys))) (line_text project (f
      (k + suc i) x))
      ∙ ap (λ t. line_text project (f k y) ++ t)
      (ap (λ m. texts project (map_from f (suc k) (take i ys)) ++ line_text project (f m x)) n ∙ more_from
      (suc k) ys i x at)

  rest_from : (k : ℕ) (xs : List X) (i : ℕ)
      → (rest : List ℕ) × (texts project (map_from f k (take i xs)) ++ rest ≡ texts project (map_from f k xs))
  rest_from k xs zero = (texts project (map_from f k xs), refl)
  rest_from k [] (suc i) = ([], refl)
  rest_from k (y ∷ ys) (suc i) =
      let r = rest_from (suc k) ys i in (
        r.0,
        append_assoc (line_text project (f k y)) (texts project (map_from f (suc k) (take i ys))) r.0
            ∙ ap (λ t. line_text project (f k y) ++ t) r.1,
      )

  -- one line more
  pub lines_more : (xs : List X) (i : ℕ) (x : X) → slice_get xs i ≡ Some x
      → texts project (map_from f 0 (take i xs)) ++ line_text project (f i x) ≡ texts project (map_from f 0 (take
      (i + 1) xs))
  lines_more xs i x at =
      let n : 0 + i ≡ i = omega arith in
      let m : suc i ≡ i + 1 = omega arith in
      ap (λ j. texts project (map_from f 0 (take i xs)) ++ line_text project (f j x)) (sym n)
      ∙ (more_from 0 xs i x at ∙ ap (λ j. texts project (map_from f 0 (take j xs))) m)

  -- all lines are those up to one and the others
  pub lines_rest : (xs : List X) (i : ℕ) → List ℕ
  lines_rest xs i = (rest_from 0 xs (i + 1)).0

  pub lines_split : (xs : List X) (i : ℕ) (x : X) → slice_get xs i ≡ Some x
      → (texts project (map_from f 0 (take i xs)) ++ line_text project (f i x)) ++ lines_rest xs i ≡ texts project
      (map_from f 0 xs)
  unfolding lines_rest
  lines_split xs i x at = ap (λ t. t ++ (rest_from 0 xs (i + 1)).0) (lines_more xs i x at) ∙ (rest_from 0 xs (i + 1)).1

-- ---- boxes

-- an interval by its ends
pub span_is : (span : Span) (box : Interval) → IsSpan span box → record { lo = span.lo; hi = span.hi } ≡ box
span_is span box is = ap (λ (z : ℤ). record { lo = z; hi = span.hi }) is.lo_is ∙ ap (λ
    (z : ℤ). record { lo = box.lo; hi = z }) is.hi_is

-- ---- junctions

pub junction_put : (o : Option GridJunction) (project : Project) (P : List ℕ → Type 0) (j : ℕ)
    (lower upper elevation : ℤ) (flow : Span)
    → IfSome o (λ here. IsSpan flow (out_box here lower upper)) → IfSome o (λ here. elevation ≡ here.elevation)
    → P (line_text project (junction_at project j elevation (record { lo = lower; hi = upper }) (flows_of flow)))
    → IfSome o (λ here. P (line_text project (junction_between project j here lower upper)))
junction_put None project P j lower upper elevation flow box at puts = tt
junction_put (Some here) project P j lower upper elevation flow box at puts =
    subst (λ (e : ℤ). P (line_text project (junction_at project j e heads (out_box here lower upper)))) at
    (subst (λ (z : Interval). P (line_text project (junction_at project j elevation heads z))) same puts)
  where
    heads : Interval
    heads = record { lo = lower; hi = upper }

    same : flows_of flow ≡ out_box here lower upper
    same = span_is flow (out_box here lower upper) box

-- ---- reservoirs

pub reservoir_put : (reservoirs : List ℤ) (project : Project) (P : List ℕ → Type 0) (r : ℕ) (height : ℤ)
    → r < length reservoirs → height ≡ head_at reservoirs r
    → P (line_text project (reservoir_between project r (record { lo = height; hi = height })))
    → IfSome (slice_get reservoirs r) (λ here. P (line_text project (reservoir_line project r here)))
reservoir_put [] project P r height within is puts = absurd (omega arith)
reservoir_put reservoirs project P r height within is puts =
    let at : slice_get reservoirs r ≡ Some (head_at reservoirs r) = slice_get-get_or reservoirs r (pos 0) within in
    subst (λ (o : Option ℤ). IfSome o (λ here. P (line_text project (reservoir_line project r here)))) (sym at)
    (subst (λ (z : ℤ). P (line_text project (reservoir_line project r z))) is puts)

-- ---- tanks

pub tank_put : (o : Option Tank) (project : Project) (P : List ℕ → Type 0) (k : ℕ) (levels inflow : Interval)
    (state : TankState)
    (bottom : ℤ) (head level flow : Ends)
    → IfSome o (λ t. bottom ≡ t.bottom)
    → ArePrinted (printed (quantity_in project Head) (shifted bottom levels)) head
    → ArePrinted (printed (quantity_in project Head) levels) level
    → ArePrinted (printed (quantity_in project Flow) inflow) flow
    → ((h l i : Interval) → ArePrinted h head → ArePrinted l level → ArePrinted i flow → P (line_text project
    (TankLine k h l i state)))
    → IfSome o (λ here. P (line_text project (tank_at project k here levels inflow state)))
tank_put None project P k levels inflow state bottom head level flow at h l i puts = tt
tank_put (Some here) project P k levels inflow state bottom head level flow at h l i puts =
    puts _ _ _ (subst (λ (z : ℤ). ArePrinted (printed (quantity_in project Head) (shifted z levels)) head) at h) l i

index-map : {X Y : Type 0} (f : X → Y) (xs : List X) (i : ℕ) (e : X) (d : Y) → i < length xs
    → f (slice_index_or xs i e) ≡ slice_index_or (map f xs) i d
index-map f [] i e d within = absurd (omega arith)
index-map f (x ∷ xs) zero e d within = refl
index-map f (x ∷ xs) (suc i) e d within = index-map f xs i e d (omega arith)

-- the line of a tank by what was read of the lists
pub tank_read : (o : Option Tank) (project : Project) (P : List ℕ → Type 0) (k : ℕ) (levels : List LevelSpan)
    (inflows : List Span)
    (states : List TankState) (level : LevelSpan) (inflow : Span) (state : TankState)
    → k < length levels → k < length inflows → k < length states → inflow ≡ get_or inflows k inflow
    → IfSome o (λ here. P (line_text project (tank_at project k here (levels_of (slice_index_or levels k level))
    (flows_of inflow) (slice_index_or states k state))))
    → IfSome o (λ here. P (line_text project (tank_line project levels inflows states k here)))
tank_read o project P k levels inflows states level inflow state in_levels in_inflows in_states read puts =
    let Q : Interval → Interval → TankState → Type 0 = λ l i s. IfSome o (λ here. P (line_text project
    (tank_at project k here l i s))) in
    subst (λ (s : TankState). Q (slice_index_or (map levels_of levels) k nowhere) (slice_index_or
    (map flows_of inflows) k nowhere) s)
    (any_default states k state Between in_states)
    (subst (λ (i : Interval). Q (slice_index_or (map levels_of levels) k nowhere) i (slice_index_or states k state))
    (sym (map-read flows_of inflows k inflow nowhere in_inflows read))
    (subst (λ (l : Interval). Q l (flows_of inflow) (slice_index_or states k state))
    (index-map levels_of levels k level nowhere in_levels) puts))

-- ---- links

pub link_put : (o : Option Link) (project : Project) (grid : Grid) (below above : List ℤ) (states : List LinkState)
    (P : List ℕ → Type 0) (l : ℕ) (flow : Span) (status : StatusWord) (place : GridLink)
    → slice_get grid.links l ≡ Some place
    → IfSome (slice_get grid.links l) (λ g. IsSpan flow (flow_box g below above))
    → IfSome o (λ here. status ≡ status_of (is_us project) project.bends.list here.kind (state_of_link states l)
    (difference place below above))
    → P (line_text project (link_at project l (flows_of flow) status))
    → IfSome o (λ here. P (line_text project (link_line project grid below above states l here)))
link_put None project grid below above states P l flow status place at box word puts = tt
link_put (Some here) project grid below above states P l flow status place at box word puts =
    let is : slice_index_or grid.links l no_link ≡ place = get_or_from_slice_get grid.links l place no_link at in
    let boxed : IsSpan flow (flow_box place below above) = subst (λ (o : Option GridLink). IfSome o (λ g. IsSpan flow
    (flow_box g below above))) at box in
    let text : (s : StatusWord) → s ≡ status → P (line_text project (link_at project l (flow_box place below above)
    s)) =
    λ s same. subst (λ (t : StatusWord). P (line_text project (link_at project l (flow_box place below above) t)))
    (sym same)
    (subst (λ (z : Interval). P (line_text project (link_at project l z status))) (span_is flow
    (flow_box place below above) boxed) puts) in
    subst (λ (g : GridLink). P (line_text project (link_at project l (flow_box g below above)
    (status_of (is_us project) project.bends.list here.kind (state_of_link states l) (difference g below above)))))
    (sym is)
    (text _ (sym word))

-- ---- orders of vectors

pub in_order : (lower upper below above : List ℤ) → length lower ≡ length upper → AreInOrder (pos 0) (lower ++ below)
    (upper ++ above)
    → AreInOrder (pos 0) lower upper
in_order [] [] below above same order node = omega (arith, ints)
in_order [] (u ∷ us) below above same order node = absurd (omega arith)
in_order (l ∷ ls) [] below above same order node = absurd (omega arith)
in_order (l ∷ ls) (u ∷ us) below above same order zero = order 0
in_order (l ∷ ls) (u ∷ us) below above same order (suc node) = in_order ls us below above (omega arith) (λ n. order
    (suc n)) node

-- ---- texts of lists of lines

pub texts-append : (project : Project) (xs ys : List ReportLine) → texts project (xs ++ ys)
    ≡ texts project xs ++ texts project ys
texts-append project xs ys =
    ap joined (map-append (line_text project) xs ys) ∙ join-append (map (line_text project) xs) (map
    (line_text project) ys)

map-map : {X Y Z : Type 0} (f : Y → Z) (h : X → Y) (xs : List X) → map f (map h xs) ≡ map (λ x. f (h x)) xs
map-map f h [] = refl
map-map f h (x ∷ xs) = ap (λ rest. f (h x) ∷ rest) (map-map f h xs)

-- the texts of lines that are made of items
pub texts-map : {X : Type 0} (project : Project) (h : X → ReportLine) (xs : List X)
    → joined (map (λ x. line_text project (h x)) xs) ≡ texts project (map h xs)
texts-map project h xs = ap joined (sym (map-map (line_text project) h xs))

-- the texts of a report time
pub state_text : (project : Project) (t : ReportLine) (lo lower up upper : List ℤ) (js : List GridJunction)
    (rs rest : List ReportLine)
    → lo ≡ lower → up ≡ upper
    → line_text project t ++ (texts project (map_from (junction_line project lo up) 0 js) ++
    (texts project rs ++ texts project rest))
    ≡ texts project (t ∷ (map_from (junction_line project lower upper) 0 js ++ (rs ++ rest)))
state_text project t lo lower up upper js rs rest is_lower is_upper =
    ap (λ (v : List ℤ). line_text project t ++ (texts project (map_from (junction_line project v up) 0 js) ++
    (texts project rs ++ texts project rest))) is_lower
    ∙ (ap (λ (v : List ℤ). line_text project t ++ (texts project (map_from (junction_line project lower v) 0 js) ++
    (texts project rs ++ texts project rest))) is_upper
    ∙ ap (λ (s : List ℕ). line_text project t ++ s)
    (ap (λ (s : List ℕ). texts project (map_from (junction_line project lower upper) 0 js) ++ s) (sym
    (texts-append project rs rest))
    ∙ sym (texts-append project (map_from (junction_line project lower upper) 0 js) (rs ++ rest))))

-- the texts of tanks and links
pub tanks_text : (project : Project) (grid : Grid) (states : List LinkState) (ls levels : List LevelSpan)
    (is inflows : List Span)
    (ts tanks : List TankState) (lo lower up upper : List ℤ) → ls ≡ levels → is ≡ inflows → ts ≡ tanks → lo ≡ lower
    → up ≡ upper
    → texts project (map_from (tank_line project ls is ts) 0 project.tanks.list)
    ++ texts project (map_from (link_line project grid (all_heads grid Main Lower lo)
    (all_heads grid Main Upper up) states) 0 project.links.list)
    ≡ texts project (map_from (tank_line project levels inflows tanks) 0 project.tanks.list
    ++ map_from (link_line project grid (all_heads grid Main Lower lower)
    (all_heads grid Main Upper upper) states) 0 project.links.list)
tanks_text project grid states ls levels is inflows ts tanks lo lower up upper a b c d e =
    let link : List ℤ → List ℤ → List ℕ = λ l u. texts project (map_from (link_line project grid
    (all_heads grid Main Lower l) (all_heads grid Main Upper u) states) 0 project.links.list) in
    let tank : List LevelSpan → List Span → List TankState → List ℕ = λ l i t. texts project (map_from
    (tank_line project l i t) 0 project.tanks.list) in
    ap (λ (l : List LevelSpan). tank l is ts ++ link lo up) a
    ∙ (ap (λ (i : List Span). tank levels i ts ++ link lo up) b
    ∙ (ap (λ (t : List TankState). tank levels inflows t ++ link lo up) c
    ∙ (ap (λ (l : List ℤ). tank levels inflows tanks ++ link l up) d
    ∙ (ap (λ (u : List ℤ). tank levels inflows tanks ++ link lower u) e
    ∙ sym (texts-append project (map_from (tank_line project levels inflows tanks) 0 project.tanks.list)
    (map_from (link_line project grid (all_heads grid Main Lower lower)
    (all_heads grid Main Upper upper) states) 0 project.links.list))))))

pub items_text : {X : Type 0} (project : Project) (h : ℕ → X → ReportLine) (t time : ℕ) (xs ys : List X) → t ≡ time
    → xs ≡ ys
    → joined (map (λ x. line_text project (h t x)) xs) ≡ texts project (map (h time) ys)
items_text project h t time xs ys at same =
    texts-map project (h t) xs ∙ (ap (λ n. texts project (map (h n) xs)) at ∙ ap (λ zs. texts project (map
    (h time) zs)) same)

-- the texts of the end of a period
pub end_text : {X Y : Type 0} (project : Project) (h : ℕ → X → ReportLine) (k : ℕ → Y → ReportLine) (t time : ℕ)
    (xs xs' : List X) (ys ys' : List Y)
    → t ≡ time → xs ≡ xs' → ys ≡ ys'
    → joined (map (λ x. line_text project (h t x)) xs) ++ joined (map (λ y. line_text project (k t y)) ys)
    ≡ texts project (map (h time) xs' ++ map (k time) ys')
end_text project h k t time xs xs' ys ys' at same alike =
    ap (λ s. s ++ joined (map (λ y. line_text project (k t y)) ys)) (items_text project h t time xs xs' at same)
    ∙ (ap (λ s. texts project (map (h time) xs') ++ s) (items_text project k t time ys ys' at alike)
    ∙ sym (texts-append project (map (h time) xs') (map (k time) ys')))

-- the texts of three parts
pub three_text : (project : Project) (xs ys zs : List ReportLine)
    → texts project xs ++ (texts project ys ++ texts project zs) ≡ texts project (xs ++ (ys ++ zs))
three_text project xs ys zs =
    ap (λ t. texts project xs ++ t) (sym (texts-append project ys zs)) ∙ sym (texts-append project xs (ys ++ zs))
