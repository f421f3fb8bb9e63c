-- At the end of each period some level has just been reached or none, and it is one level.
use Rattle.std.proofs.Common.{◌≡◌, ℕ, suc, ◌≤◌, ℤ, refl, sym, ap, subst, arith, Bool, true, false, List}
use Rattle.std.proofs.Common.{[], ◌∷◌, ◌⊎◌, inl, inr}
use Rattle.std.specs.Prelude.{Option, Some, None, slice_get, Contains}
use Rattle.std.proofs.lemmas.Int.{ints, by_lt_z}
use Rattle.std.proofs.lemmas.Bool.{cases_Bool, cases_lt, cases_eq}
use Rattle.hyd_spec.specs.ProgramTypes.{Project, Tank}
use Rattle.hyd_spec.specs.Tank.{walls_of}
use Rattle.hyd_spec_certificates.specs.PeriodNetwork.{Grid}
use Rattle.hyd_spec_certificates.specs.RecordAndStanding.{Record, Standing}
use Rattle.hyd_spec_certificates.specs.Stocks.{may_reach}
use Rattle.hyd_spec_certificates.specs.Decided.{Watch, watches, stocks_of_tank, inflow_of_tank}
use Rattle.hyd_spec_open_ends.specs.OpenEnds.{Way, ByRules, ByInstant, ByWatched}
use Rattle.hyd_spec_open_ends.specs.Arrivals.{MayComeBy, IsNoFarther, IsArrival, Arrives, by_rules, by_instant, one}
use Rattle.hyd_spec_open_ends.specs.Arrivals.{competing}
use Rattle.hyd_lemmas.proofs.ListsOptionsAndResults.{same_some}
use Rattle.hyd_theorems_on_raises.proofs.FirstItemsAndChoices.{first-below}
use Rattle.hyd_theorems_on_histories.proofs.WatchedLevels.{contains-here, contains-later, contains-cons, contains-none}

-- ---- lists

-- something that is decided of each item is so of all, or not
all-or-not : (X : Type 0) (P : X → Type 0) (xs : List X) → ((x : X) → Contains xs x → P x ⊎ (P x → ⊥))
    → ((x : X) → Contains xs x → P x) ⊎ (((x : X) → Contains xs x → P x) → ⊥)
all-or-not X P [] decide = inl (λ x c. absurd (contains-none X x c))
all-or-not X P (y ∷ xs) decide = elim (decide y (contains-here X y xs)) [
  | inr other ↦ inr (λ all. other (all y (contains-here X y xs)))
  | inl here ↦ elim (all-or-not X P xs (λ x c. decide x (contains-later X x y xs c))) [
    | inr other ↦ inr (λ all. other (λ x c. all x (contains-later X x y xs c)))
    | inl rest ↦ inl (λ x c. elim (contains-cons X x y xs c) [ inl e ↦ subst P e here | inr d ↦ rest x d ])
  ]
]

-- and of some, or of none
some-or-none : (X : Type 0) (P : X → Type 0) (xs : List X) → ((x : X) → Contains xs x → P x ⊎ (P x → ⊥))
    → ((x : X) × P x) ⊎ ((x : X) → Contains xs x → P x → ⊥)
some-or-none X P [] decide = inr (λ x c p. contains-none X x c)
some-or-none X P (y ∷ xs) decide = elim (decide y (contains-here X y xs)) [
  | inl here ↦ inl (y, here)
  | inr other ↦ elim (some-or-none X P xs (λ x c. decide x (contains-later X x y xs c))) [
    | inl found ↦ inl found
    | inr none ↦ inr (λ x c p. elim (contains-cons X x y xs c) [
      | inl e ↦ other (subst P (sym e) p)
      | inr d ↦ none x d p
    ])
  ]
]

same-or-not : (a b : Bool) → (a ≡ b) ⊎ ((a ≡ b) → ⊥)
same-or-not true true = inl refl
same-or-not true false = inr (λ e. absurd (cc))
same-or-not false true = inr (λ e. absurd (cc))
same-or-not false false = inl refl

no-farther-or-not : (rising : Bool) (target other : ℤ) → IsNoFarther rising target other
    ⊎ (IsNoFarther rising target other → ⊥)
no-farther-or-not true target other = by_lt_z other target
    (λ lt. inr (λ le. absurd (omega (arith, ints, lt, le)))) (λ ge. inl ge)
no-farther-or-not false target other = by_lt_z target other
    (λ lt. inr (λ le. absurd (omega (arith, ints, lt, le)))) (λ ge. inl ge)

module _ (project : Project) (grid : Grid) (standing : Standing) (row : Record) (last : ℕ) where
  abbrev Comes : Watch → Type 0
  Comes watch = MayComeBy project grid standing row watch last

  abbrev reaches-at : Watch → Tank → ℕ → Bool
  reaches-at watch tank s = may_reach (walls_of project tank) tank (stocks_of_tank standing watch.tank)
      (inflow_of_tank project grid row watch.tank) watch.target watch.rising s

  abbrev ComesAt : Watch → Tank → ℕ → Type 0
  ComesAt watch tank s = (1 ≤ s) × ((s ≤ last) × (reaches-at watch tank s ≡ true))

  comes-at-or-not : (watch : Watch) (tank : Tank) (s : ℕ) → ComesAt watch tank s ⊎ (ComesAt watch tank s → ⊥)
  comes-at-or-not watch tank s = elim (cases_lt 0 s) [
    | inr early ↦ inr (λ c. let l = c.0 in absurd (omega (arith, l, early)))
    | inl some ↦ elim (cases_lt last s) [
      | inl late ↦ inr (λ c. let l = c.1.0 in absurd (omega (arith, l, late)))
      | inr in-time ↦ elim (cases_Bool (reaches-at watch tank s)) [
        | inl held ↦ inl (omega (arith, some), (in-time, held))
        | inr fails ↦ inr (λ c. never (reaches-at watch tank s) c.1.1 fails)
      ]
    ]
  ]
    where
      never : (b : Bool) → b ≡ true → b ≡ false → ⊥
      never true e f = absurd (cc)
      never false e f = absurd (cc)

  comes-or-not : (watch : Watch) → Contains (watches project standing) watch → Comes watch ⊎ (Comes watch → ⊥)
  comes-or-not watch contained = by-tank (slice_get project.tanks.list watch.tank) refl
    where
      by-tank : (o : Option Tank) → slice_get project.tanks.list watch.tank ≡ o → Comes watch ⊎ (Comes watch → ⊥)
      by-tank None at = inr (λ c. let is = c.is_tank in absurd (cc))
      by-tank (Some tank) at =
          elim (first-below (ComesAt watch tank) (comes-at-or-not watch tank) (suc last)) [
            | inl found ↦ inl (record {
              is_watched = contained;
              second = found.0;
              some = found.1.holds.0;
              in_time = found.1.holds.1.0;
              tank = tank;
              is_tank = at;
              reached = found.1.holds.1.1;
            })
            | inr none ↦ inr (λ c.
                let own : c.tank ≡ tank = same_some (slice_get project.tanks.list watch.tank) c.tank tank c.is_tank at
                in
                let l = c.in_time in
                none c.second (omega (arith, l))
                (c.some, (c.in_time, subst (λ t. reaches-at watch t c.second ≡ true) own c.reached)))
          ]

  -- another level that may come doesn't compete with one
  abbrev Fits : Watch → Watch → Type 0
  Fits watch other =
      (other.tank ≡ watch.tank)
      × ((other.rising ≡ watch.rising) × IsNoFarther watch.rising watch.target other.target)

  fits-or-not : (watch other : Watch) → Fits watch other ⊎ (Fits watch other → ⊥)
  fits-or-not watch other = elim (cases_eq other.tank watch.tank) [
    | inr apart ↦ inr (λ f. apart f.0)
    | inl tank ↦ elim (same-or-not other.rising watch.rising) [
      | inr apart ↦ inr (λ f. apart f.1.0)
      | inl way ↦ elim (no-farther-or-not watch.rising watch.target other.target) [
        | inr nearer ↦ inr (λ f. nearer f.1.1)
        | inl farther ↦ inl (tank, (way, farther))
      ]
    ]
  ]

  fits-if-or-not : (watch other : Watch) → Contains (watches project standing) other
      → (Comes other → Fits watch other) ⊎ ((Comes other → Fits watch other) → ⊥)
  fits-if-or-not watch other contained = elim (comes-or-not other contained) [
    | inr never-comes ↦ inl (λ c. absurd (never-comes c))
    | inl comes ↦ elim (fits-or-not watch other) [
      | inl fits ↦ inl (λ c. fits)
      | inr apart ↦ inr (λ all. apart (all comes))
    ]
  ]

  arrival-or-not : (watch : Watch) → Contains (watches project standing) watch
      → IsArrival project grid standing row last watch ⊎ (IsArrival project grid standing row last watch → ⊥)
  arrival-or-not watch contained = elim (comes-or-not watch contained) [
    | inr never-comes ↦ inr (λ a. never-comes a.comes)
    | inl comes ↦ elim (cases_lt last project.times.hydraulic) [
      | inr step ↦ inr (λ a. let l = a.step_later in absurd (omega (arith, l, step)))
      | inl later ↦ elim (all-or-not Watch (λ other. Comes other → Fits watch other) (watches project standing)
          (fits-if-or-not watch)) [
            | inr apart ↦ inr (λ a. apart (λ other in-list c.
                (a.same_tank other c, (a.same_way other c, a.nearest other c))))
            | inl all ↦ inl (record {
              comes = comes;
              step_later = later;
              same_tank = λ other c. (all other c.is_watched c).0;
              same_way = λ other c. (all other c.is_watched c).1.0;
              nearest = λ other c. (all other c.is_watched c).1.1;
            })
          ]
    ]
  ]

-- at each end some level has just been reached, or none
pub arrival_is : (project : Project) (grid : Grid) (standing : Standing) (row : Record) (way : Way)
    → (reached : Option Watch) × Arrives project grid standing row way reached
arrival_is project grid standing row (ByRules i) = (None, by_rules)
arrival_is project grid standing row (ByInstant i) = (None, by_instant)
arrival_is project grid standing row (ByWatched earliest latest) =
    elim (some-or-none Watch (IsArrival project grid standing row latest) (watches project standing)
    (arrival-or-not project grid standing row latest)) [
      | inl found ↦ (Some found.0, one found.1)
      | inr none ↦ (None, competing (λ watch a. none watch a.comes.is_watched a))
    ]

-- and it is one level
pub one_level : (project : Project) (grid : Grid) (standing : Standing) (row : Record) (latest : ℕ) (a b : Watch)
    → IsArrival project grid standing row latest a → IsArrival project grid standing row latest b → a ≡ b
one_level project grid standing row latest a b x y =
    let tanks = y.same_tank a x.comes in
    let ways = y.same_way a x.comes in
    let targets : a.target ≡ b.target = same-target a.rising (x.nearest b y.comes)
    (subst (λ r. IsNoFarther r b.target a.target) (sym ways) (y.nearest a x.comes)) in
    λ i. record { tank = tanks i; target = targets i; rising = ways i }
  where
    same-target : (rising : Bool) → IsNoFarther rising a.target b.target → IsNoFarther rising b.target a.target
        → a.target ≡ b.target
    same-target true p q = omega (arith, ints, p, q)
    same-target false p q = omega (arith, ints, p, q)

pub one_reached : (project : Project) (grid : Grid) (standing : Standing) (row : Record) (way : Way)
    (a b : Option Watch) → Arrives project grid standing row way a → Arrives project grid standing row way b → a ≡ b
one_reached project grid standing row _ _ _ by_rules by_rules = refl
one_reached project grid standing row _ _ _ by_instant by_instant = refl
one_reached project grid standing row _ _ _ (one {latest = latest} {watch = v} x) (one {watch = w} y) =
    ap Some (one_level project grid standing row latest v w x y)
one_reached project grid standing row _ _ _ (one {watch = v} x) (competing none) = absurd (none v x)
one_reached project grid standing row _ _ _ (competing none) (one {watch = w} y) = absurd (none w y)
one_reached project grid standing row _ _ _ (competing none) (competing other) = refl
