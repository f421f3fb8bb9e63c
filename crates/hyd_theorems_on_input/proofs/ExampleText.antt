-- The example text has no fault, and it describes the example network.
use Rattle.std.proofs.Common.{◌≡◌, ℕ, ◌+◌, ◌*◌, ◌^◌, ◌<◌, zero, suc, Bool, true, List, [], ◌∷◌, codes, take, Option}
use Rattle.std.proofs.Common.{Some, None, refl, sym, subst, arith, inl, inr, true≢false, lit≤}
use Rattle.std.specs.Prelude.{slice_get, ◌&&◌, is_none, ℤ, pos, ◌<ℤ◌, ◌*ℤ◌}
use Rattle.std.specs.List.{AllByRecursion}
use Rattle.std.proofs.lemmas.Bool.{and_parts}
use Rattle.std.proofs.lemmas.Int.{ints}
use Rattle.std.proofs.Math.IntN.{*ℤ_comm}
use Rattle.hyd_num.proofs.Integers.{times_reflects}
use Rattle.hyd_num.specs.Numeral.{is_numeral, magnitude_of, nano_of}
use Rattle.hyd_num.specs.QuotientsAndRoots.{IsFloor, IsCeiling}
use Rattle.hyd_spec_lines.specs.WordsOfLines.{words_in, is_keyword}
use Rattle.hyd_spec_lines.specs.Headings.{read_section, is_passed_over, heading_kind}
use Rattle.hyd_spec_lines.specs.Lines.{Row, items_of, rows_in, fault_in, kind_of}
use Rattle.hyd_spec_lines.specs.declared.section.Section.TheVariants.{Junctions, Reservoirs, Tanks, Pumps, Valves}
use Rattle.hyd_spec_lines.specs.declared.section.Section.TheVariants.{Demands, Curves, Patterns, Status, Controls}
use Rattle.hyd_spec_lines.specs.declared.section.Section.TheVariants.{Rules, Options, Times}
use Rattle.hyd_net.specs.declared.refusal_cause.Cause.{Cause}
use Rattle.hyd_spec_input.specs.Keywords.{flow_unit, option_word, time_word, link_word, node_word, object_word}
use Rattle.hyd_spec_input.specs.Keywords.{attribute_word, relation_word, rule_word}
use Rattle.hyd_spec_input.specs.TimesAndClockTimes.{unit_seconds}
use Rattle.hyd_spec_input.specs.SingleRows as itself
use Rattle.hyd_spec_input.specs.SingleRows.{IsWrongByItself}
use Rattle.hyd_spec_input.specs.FaultsWithOtherRows as others
use Rattle.hyd_spec_input.specs.CapacitiesOutOfRange.{IsRefusedIn, IsRefusedRow}
use Rattle.hyd_spec_input.specs.Faults.{IsWrongWithOthers, NoneIs, HasNoFault, lack}
use Rattle.hyd_spec_input.specs.Project.{IsProject}
use Rattle.hyd_theorems_on_input.specs.Example.{text, project}

-- ---- the rows of the text

rows : List Row
rows =
    record { number = 2; section = Options; words = codes "UNITS" ∷ codes "CMD" ∷ [] }
    ∷ record { number = 3; section = Options; words = codes "HEADLOSS" ∷ codes "C-M" ∷ [] }
    ∷ record { number = 4; section = Options; words = codes "DEMAND" ∷ codes "MODEL" ∷ codes "PDA" ∷ [] }
    ∷ record { number = 5; section = Options; words = codes "MINIMUM" ∷ codes "PRESSURE" ∷ codes "1" ∷ [] }
    ∷ record { number = 6; section = Options; words = codes "REQUIRED" ∷ codes "PRESSURE" ∷ codes "2" ∷ [] }
    ∷ record { number = 7; section = Options; words = codes "PATTERN" ∷ codes "Q" ∷ [] }
    ∷ record { number = 9; section = Times; words = codes "DURATION" ∷ codes "2" ∷ [] }
    ∷ record { number = 11; section = Patterns; words = codes "Q" ∷ codes "1" ∷ codes "0.5" ∷ [] }
    ∷ record { number = 13; section = Junctions; words = codes "J" ∷ codes "10" ∷ codes "5" ∷ codes "Q" ∷ [] }
    ∷ record { number = 14; section = Junctions; words = codes "K" ∷ codes "10" ∷ [] }
    ∷ record { number = 16; section = Reservoirs; words = codes "R" ∷ codes "100" ∷ codes "Q" ∷ [] }
    ∷ record {
      number = 18;
      section = Tanks;
      words =
          codes "T" ∷ codes "20" ∷ codes "5" ∷ codes "0" ∷ codes "10" ∷ codes "20" ∷ [];
    }
    ∷ record {
      number = 19;
      section = Tanks;
      words =
          codes "W" ∷ codes "20" ∷ codes "4" ∷ codes "1" ∷ codes "9" ∷ codes "0" ∷ codes "0" ∷ codes "C" ∷ [];
    }
    ∷ record { number = 21; section = Curves; words = codes "C" ∷ codes "0" ∷ codes "0" ∷ [] }
    ∷ record { number = 22; section = Curves; words = codes "C" ∷ codes "10" ∷ codes "2000" ∷ [] }
    ∷ record { number = 23; section = Curves; words = codes "L" ∷ codes "0" ∷ codes "40" ∷ [] }
    ∷ record { number = 24; section = Curves; words = codes "L" ∷ codes "1000" ∷ codes "30" ∷ [] }
    ∷ record { number = 25; section = Curves; words = codes "L" ∷ codes "2000" ∷ codes "15" ∷ [] }
    ∷ record { number = 26; section = Curves; words = codes "L" ∷ codes "3000" ∷ codes "0" ∷ [] }
    ∷ record { number = 27; section = Curves; words = codes "G" ∷ codes "0" ∷ codes "0" ∷ [] }
    ∷ record { number = 28; section = Curves; words = codes "G" ∷ codes "100" ∷ codes "1" ∷ [] }
    ∷ record {
      number = 30;
      section = Pumps;
      words = codes "U" ∷ codes "R" ∷ codes "K" ∷ codes "HEAD" ∷ codes "L"
          ∷ codes "SPEED" ∷ codes "1.1" ∷ [];
    }
    ∷ record {
      number = 32;
      section = Valves;
      words = codes "V" ∷ codes "K" ∷ codes "T" ∷ codes "300" ∷ codes "TCV"
          ∷ codes "0" ∷ codes "0" ∷ [];
    }
    ∷ record {
      number = 33;
      section = Valves;
      words = codes "F" ∷ codes "J" ∷ codes "T" ∷ codes "300" ∷ codes "FCV"
          ∷ codes "50" ∷ [];
    }
    ∷ record {
      number = 34;
      section = Valves;
      words = codes "B" ∷ codes "J" ∷ codes "W" ∷ codes "300" ∷ codes "GPV"
          ∷ codes "G" ∷ [];
    }
    ∷ record { number = 36; section = Demands; words = codes "K" ∷ codes "4" ∷ codes "Q" ∷ [] }
    ∷ record { number = 38; section = Status; words = codes "U" ∷ codes "0.5" ∷ [] }
    ∷ record {
      number = 40;
      section = Controls;
      words =
          codes "LINK" ∷ codes "V" ∷ codes "CLOSED" ∷ codes "IF" ∷ codes "NODE" ∷ codes "T" ∷ codes "BELOW"
          ∷ codes "3"
          ∷ [];
    }
    ∷ record {
      number = 41;
      section = Controls;
      words =
          codes "VALVE" ∷ codes "F" ∷ codes "3" ∷ codes "AT" ∷ codes "TIME" ∷ codes "1" ∷ [];
    }
    ∷ record { number = 43; section = Rules; words = codes "RULE" ∷ codes "1" ∷ [] }
    ∷ record {
      number = 44;
      section = Rules;
      words = codes "IF" ∷ codes "TANK" ∷ codes "T" ∷ codes "LEVEL" ∷ codes ">"
          ∷ codes "1" ∷ [];
    }
    ∷ record {
      number = 45;
      section = Rules;
      words =
          codes "AND" ∷ codes "SYSTEM" ∷ codes "TIME" ∷ codes ">=" ∷ codes "2" ∷ [];
    }
    ∷ record {
      number = 46;
      section = Rules;
      words =
          codes "OR" ∷ codes "NODE" ∷ codes "J" ∷ codes "PRESSURE" ∷ codes "BELOW" ∷ codes "4" ∷ [];
    }
    ∷ record {
      number = 47;
      section = Rules;
      words =
          codes "THEN" ∷ codes "VALVE" ∷ codes "V" ∷ codes "SETTING" ∷ codes "IS" ∷ codes "0" ∷ [];
    }
    ∷ record {
      number = 48;
      section = Rules;
      words =
          codes "ELSE" ∷ codes "PUMP" ∷ codes "U" ∷ codes "STATUS" ∷ codes "IS" ∷ codes "OPEN" ∷ [];
    }
    ∷ record { number = 49; section = Rules; words = codes "PRIORITY" ∷ codes "3" ∷ [] } ∷ []

rows_are : rows_in (items_of text) ≡ rows
unfolding rows items_of kind_of read_section is_passed_over heading_kind words_in is_keyword is_numeral magnitude_of
    nano_of flow_unit option_word time_word link_word node_word object_word attribute_word relation_word rule_word
    unit_seconds
rows_are = refl

-- ---- no row is wrong

none_of : (List Row → ℕ → Row → Option Cause) → List Row → ℕ → List Row → Bool
none_of fault all k [] = true
none_of fault all k (row ∷ more) = is_none (fault all k row) && none_of fault all (suc k) more

none_is : (o : Option Cause) → is_none o ≡ true → o ≡ None
none_is None e = refl
none_is (Some cause) e = absurd (true≢false (sym e))

none_at : (fault : List Row → ℕ → Row → Option Cause) (all : List Row) (k : ℕ) (list : List Row)
    → none_of fault all k list ≡ true
    → (n : ℕ) (row : Row) → slice_get list n ≡ Some row → fault all (n + k) row ≡ None
unfolding none_of
none_at fault all k [] e n row is = absurd (let x : ⊥ = cc in x)
none_at fault all k (first ∷ more) e zero row is =
    let both = and_parts (is_none (fault all k first)) (none_of fault all (suc k) more) e in
    let same : first ≡ row = cc in
    let place : k ≡ 0 + k = omega arith in
    subst (λ n. fault all n row ≡ None) place
    (subst (λ r. fault all k r ≡ None) same (none_is (fault all k first) both.0))
none_at fault all k (first ∷ more) e (suc n) row is =
    let both = and_parts (is_none (fault all k first)) (none_of fault all (suc k) more) e in
    let place : n + suc k ≡ suc n + k = omega arith in
    subst (λ m. fault all m row ≡ None) place (none_at fault all (suc k) more both.1 n row is)

none_whole : (fault : List Row → ℕ → Row → Option Cause) (all : List Row) → none_of fault all 0 all ≡ true
    → (n : ℕ) (row : Row) → slice_get all n ≡ Some row → fault all n row ≡ None
none_whole fault all e n row is =
    let place : n + 0 ≡ n = omega arith in subst (λ m. fault all m row ≡ None) place
    (none_at fault all 0 all e n row is)

right_alone : none_of itself.row_fault rows 0 rows ≡ true
unfolding rows none_of items_of kind_of read_section is_passed_over heading_kind words_in is_keyword is_numeral
    magnitude_of nano_of flow_unit option_word time_word link_word node_word object_word attribute_word relation_word
    rule_word unit_seconds
right_alone = refl

right_among : none_of others.row_fault rows 0 rows ≡ true
unfolding rows none_of items_of kind_of read_section is_passed_over heading_kind words_in is_keyword is_numeral
    magnitude_of nano_of flow_unit option_word time_word link_word node_word object_word attribute_word relation_word
    rule_word unit_seconds
right_among = refl

-- ---- no row has a capacity that is out of range

NotRefused : Row → Type 0
NotRefused row = (acting : Bool) → IsRefusedIn row.section rows acting row → ⊥

nothing_above : pos 0 <ℤ pos 0 → ⊥
nothing_above l = absurd (omega (arith, ints, l))

-- ---- exact quotients

exact_floor : (c : ℕ) (r : ℤ) → 0 < c → IsFloor (r *ℤ pos c) (pos c) r
exact_floor c r some = record {
  at_most = omega (arith, ints);
  greatest = λ k h. times_reflects c k r some (omega (arith, ints, h, *ℤ_comm k (pos c), *ℤ_comm r (pos c)));
}

exact_ceiling : (c : ℕ) (r : ℤ) → 0 < c → IsCeiling (r *ℤ pos c) (pos c) r
exact_ceiling c r some = record {
  at_least = omega (arith, ints);
  least = λ k h. times_reflects c r k some (omega (arith, ints, h, *ℤ_comm k (pos c), *ℤ_comm r (pos c)));
}

none_refused : AllByRecursion NotRefused rows
unfolding rows NotRefused items_of kind_of read_section is_passed_over heading_kind words_in is_keyword is_numeral
    magnitude_of nano_of flow_unit option_word time_word link_word node_word object_word attribute_word relation_word
    rule_word unit_seconds
none_refused = (
  λ acting r. r,
  (
    λ acting r. r,
    (
      λ acting r. r,
      (
        λ acting r. r,
        (
          λ acting r. r,
          (
            λ acting r. r,
            (
              λ acting r. r,
              (
                λ acting r. r,
                (
                  λ acting r. r,
                  (
                    λ acting r. r,
                    (
                      λ acting r. r,
                      (
                        λ acting r. r,
                        (
                          λ acting r. r,
                          (
                            λ acting r. r,
                            (
                              λ acting r. r,
                              (
                                λ acting r. r,
                                (
                                  λ acting r. r,
                                  (
                                    λ acting r. r,
                                    (
                                      λ acting r. r,
                                      (
                                        λ acting r. r,
                                        (
                                          λ acting r. r,
                                          (
                                            λ acting r. true≢false r.0,
                                            (
                                              λ acting r.
                                                  elim r.1 [
                                                    | inl a ↦ (let l : pos 0 <ℤ pos 0 =
                                                        a.above in nothing_above l)
                                                    | inr b ↦ (let l : pos 0 <ℤ pos 0 =
                                                        b.1.above in nothing_above l)
                                                  ],
                                              (
                                                λ acting r.
                                                    elim r.1 [
                                                      | inl a ↦ (let l : pos 0 <ℤ pos 0 =
                                                          a.above in nothing_above l)
                                                      | inr b ↦ true≢false (sym b.0)
                                                    ],
                                                (
                                                  λ acting r. true≢false r.0,
                                                  (
                                                    λ acting r. r,
                                                    (
                                                      λ acting r. true≢false (sym r.0),
                                                      (
                                                        λ acting r. true≢false (sym r.0),
                                                        (
                                                          λ acting r. true≢false (sym r.0),
                                                          (
                                                            λ acting r. r.1,
                                                            (
                                                              λ acting r. r.1,
                                                              (
                                                                λ acting r. r.1,
                                                                (
                                                                  λ acting r. r.1,
                                                                  (
                                                                    λ acting r.
                                                                        (let l : pos 0 <ℤ pos 0 = r.1.1.above in
                                                                        nothing_above l),
                                                                    (
                                                                      λ acting r. true≢false (sym r.1.0),
                                                                      (λ acting r. r.1, tt),
                                                                    ),
                                                                  ),
                                                                ),
                                                              ),
                                                            ),
                                                          ),
                                                        ),
                                                      ),
                                                    ),
                                                  ),
                                                ),
                                              ),
                                            ),
                                          ),
                                        ),
                                      ),
                                    ),
                                  ),
                                ),
                              ),
                            ),
                          ),
                        ),
                      ),
                    ),
                  ),
                ),
              ),
            ),
          ),
        ),
      ),
    ),
  ),
)

not_refused : (list : List Row) → AllByRecursion NotRefused list → (n : ℕ) (row : Row) → slice_get list n ≡ Some row
    → NotRefused row
not_refused [] all n row is = absurd (let x : ⊥ = cc in x)
not_refused (first ∷ more) all zero row is = let same : first ≡ row = cc in subst NotRefused same all.0
not_refused (first ∷ more) all (suc n) row is = not_refused more all.1 n row is

-- ---- the text has no fault

itself_none : NoneIs (IsWrongByItself rows)
itself_none k cause w =
    let e : itself.row_fault rows k w.row ≡ None = none_whole itself.row_fault rows right_alone k w.row w.row_is in
    absurd (let x : ⊥ = cc in x)

refused_none : (n : ℕ) (row : Row) → slice_get rows n ≡ Some row → IsRefusedRow rows (take n rows) row → ⊥
unfolding NotRefused
refused_none n row is r = not_refused rows none_refused n row is (others.holds_action (take n rows) row) r

others_none : NoneIs (IsWrongWithOthers rows)
others_none k cause w =
    let e : others.row_fault rows k w.row ≡ None = none_whole others.row_fault rows right_among k w.row w.row_is in
    elim w.fault [
      | inl f ↦ absurd (let x : ⊥ = cc in x)
      | inr f ↦ refused_none k w.row w.row_is f.1
    ]

lacks_nothing : lack rows ≡ None
unfolding rows items_of kind_of read_section is_passed_over heading_kind words_in is_keyword is_numeral magnitude_of
    nano_of flow_unit option_word time_word link_word node_word object_word attribute_word relation_word rule_word
    unit_seconds
lacks_nothing = refl

no_line_fault : fault_in (items_of text) ≡ None
unfolding items_of kind_of read_section is_passed_over heading_kind words_in is_keyword is_numeral magnitude_of
    nano_of flow_unit option_word time_word link_word node_word object_word attribute_word relation_word rule_word
    unit_seconds
no_line_fault = refl

pub no_fault : HasNoFault text
no_fault = record {
  short = lit≤ tt;
  lines = no_line_fault;
  by_itself = subst (λ (rs : List Row). NoneIs (IsWrongByItself rs)) (sym rows_are) itself_none;
  with_others = subst (λ (rs : List Row). NoneIs (IsWrongWithOthers rs)) (sym rows_are) others_none;
  whole = subst (λ (rs : List Row). lack rs ≡ None) (sym rows_are) lacks_nothing;
}

-- ---- its network

its_network : IsProject rows project
unfolding rows items_of kind_of read_section is_passed_over heading_kind words_in is_keyword is_numeral magnitude_of
    nano_of flow_unit option_word time_word link_word node_word object_word attribute_word relation_word rule_word
    unit_seconds
its_network = record {
  options = record {
    unit_is = refl;
    pda = refl;
    minimum = refl;
    required = refl;
    multiplier = refl;
    default_pattern =
        refl;
  };
  times = record {
    duration = refl;
    hydraulic = refl;
    pattern = refl;
    pattern_start = refl;
    report = refl;
    report_start = refl;
    rule = refl;
    start_clock = refl;
  };
  node_ids_are = refl;
  link_ids_are = refl;
  junctions = (
    record { elevation = refl; demands = refl; emitter = refl },
    (record { elevation = refl; demands = refl; emitter = refl }, tt),
  );
  reservoirs = (record { head = refl; pattern = refl }, tt);
  tanks = (
    record {
      bottom = refl;
      initial = refl;
      minimum = refl;
      maximum = refl;
      diameter = refl;
      area = exact_floor (4 * 10 ^ 26) (pos 314159265400) (lit≤ tt);
      shape = refl;
      overflow = refl;
    },
    (
      record {
        bottom = refl;
        initial = refl;
        minimum = refl;
        maximum = refl;
        diameter = refl;
        area = exact_floor (4 * 10 ^ 26) (pos 0) (lit≤ tt);
        shape = refl;
        overflow = refl;
      },
      tt,
    ),
  );
  links = (
    record { ends = record { from = refl; to = refl }; kind = (refl, refl, refl); start = refl },
    (
      record { ends = record { from = refl; to = refl }; kind = (refl, refl); start = (refl, refl) },
      (
        record { ends = record { from = refl; to = refl }; kind = (refl, refl, refl); start = refl },
        (record { ends = record { from = refl; to = refl }; kind = (refl, refl); start = refl }, tt),
      ),
    ),
  );
  patterns = (refl, tt);
  shapes = (refl, tt);
  bends = (refl, (refl, tt));
  controls = (
    record { link = refl; to = refl; when = (refl, refl, refl, refl) },
    (record { link = refl; to = refl; when = (refl, refl) }, tt),
  );
  rules = (
    record {
      id = refl;
      clauses = (
        record { joined = refl; what = refl; relation = refl; value_is = (refl, record { low = refl; high = refl }) },
        (
          record {
            joined = refl;
            what = tt;
            relation = refl;
            value_is =
                (refl, record { whole = refl; high = refl });
          },
          (
            record {
              joined = refl;
              what = refl;
              relation = refl;
              value_is = (
                refl,
                record {
                  floor = exact_floor 1 (pos 40000000000000) (lit≤ tt);
                  ceiling = exact_ceiling 1 (pos 40000000000000) (lit≤ tt);
                },
              );
            },
            tt,
          ),
        ),
      );
      yes = (record { link = refl; to = (refl, refl) }, tt);
      no = (record { link = refl; to = refl }, tt);
      priority = refl;
    },
    tt,
  );
}

pub its_project : IsProject (rows_in (items_of text)) project
its_project = subst (λ (rs : List Row). IsProject rs project) (sym rows_are) its_network
