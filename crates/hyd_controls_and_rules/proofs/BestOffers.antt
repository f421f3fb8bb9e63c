-- The best of some offers, when one more comes.
use Rattle.std.proofs.Common.{◌≡◌, ◌≢◌, inl, inr, ℕ, zero, suc, ◌+◌, ◌<◌, ℤ, Bool, true, false, ◌==◌, if◌then◌else◌}
use Rattle.std.proofs.Common.{List, [], ◌∷◌, ◌++◌, length, map, take, Option, Some, None, slice_index_or, slice_set}
use Rattle.std.proofs.Common.{refl, ap, sym, subst, ◌∙◌, append_assoc, append-nil, arith}
use Rattle.std.specs.List.{All}
use Rattle.std.specs.Option.{option_map}
use Rattle.std.proofs.lemmas.Int.{ints}
use Rattle.std.proofs.lemmas.Bool.Decides.{eqb_tells}
use Rattle.std.proofs.lemmas.List.{get_or-set_same, get_or-set_other, map_more}
use Rattle.hyd_spec.specs.ProgramTypes.{Rule, Action}
use Rattle.hyd_spec.specs.Rules.{Offer, is_above, higher, best_offer, offer_of, offers_of, offers_from}
use Rattle.hyd_controls_and_rules.specs.declared.actions_by_priority.Offer as program
use Rattle.hyd_controls_and_rules.specs.ActionsByPriority.{offer_for, is_higher, best_of, AreBest}
use Rattle.hyd_lemmas.proofs.BooleanTests.{lt-from, lt-not, lt-no, lt-yes}
use Rattle.hyd_lemmas.proofs.ListsOptionsAndResults.{any_default}

-- ---- priorities

above_along : (a b c : Option ℤ) → is_above a b ≡ true → is_above b c ≡ true → is_above a c ≡ true
above_along (Some a) (Some b) (Some c) h i = lt-from c a (omega (arith, ints, lt-yes b a h, lt-yes c b i))
above_along (Some a) (Some b) None h i = refl
above_along (Some a) None c h i = absurd (cc)
above_along None b c h i = absurd (cc)

below_along : (a b c : Option ℤ) → is_above a b ≡ false → is_above b c ≡ false → is_above a c ≡ false
below_along (Some a) (Some b) (Some c) h i = lt-not c a (omega (arith, ints, lt-no b a h, lt-no c b i))
below_along (Some a) (Some b) None h i = absurd (cc)
below_along (Some a) None c h i = absurd (cc)
below_along None b c h i = refl

-- ---- one more offer

-- The best of an offer and of those before it.
abbrev better : Option Offer → Offer → Option Offer
better best offer = if is_higher offer.priority best then Some offer else best

by_priorities : (x b o : Offer) (p q : Bool) → is_above o.priority b.priority ≡ p → is_above b.priority x.priority ≡ q
    → higher x (if p then Some o else Some b) ≡ (if is_higher o.priority
    (if q then Some b else Some x) then Some o else (if q then Some b else Some x))
by_priorities x b o true true h i = let k = above_along o.priority b.priority x.priority h i in rw (k, h) refl
by_priorities x b o true false h i = refl
by_priorities x b o false true h i = rw (i, h) refl
by_priorities x b o false false h i = let k = below_along o.priority b.priority x.priority h i in rw (i, k) refl

higher_better : (x : Offer) (b : Option Offer) (o : Offer) → higher x (better b o) ≡ better (higher x b) o
higher_better x None o = refl
higher_better x (Some b) o = by_priorities x b o (is_above o.priority b.priority)
    (is_above b.priority x.priority) refl refl

by_links : (p q : Bool) (x o : Offer) (b : Option Offer)
    → (if p then higher x (if q then better b o else b) else (if q then better b o else b))
    ≡ (if q then better (if p then higher x b else b) o else (if p then higher x b else b))
by_links true true x o b = higher_better x b o
by_links true false x o b = refl
by_links false true x o b = refl
by_links false false x o b = refl

best_offer-push : (link : ℕ) (offers : List Offer) (o : Offer)
    → best_offer link (offers ++ o ∷ []) ≡ (if o.link == link then better
    (best_offer link offers) o else best_offer link offers)
best_offer-push link [] o = refl
best_offer-push link (x ∷ offers) o =
    ap (λ (b : Option Offer). if x.link == link then higher x b else b) (best_offer-push link offers o)
    ∙ by_links (x.link == link) (o.link == link) x o (best_offer link offers)

-- ---- the table of best offers

one_set : (count : ℕ) (offers : List Offer) (best : List (Option program.Offer)) (new : program.Offer)
    → AreBest count offers best
    → new.link < length best → is_higher new.priority (best_of best new.link) ≡ true
    → AreBest count (offers ++ offer_for new ∷ []) (slice_set best new.link (Some new))
one_set count offers best new are within ranks = record {
  each = λ link h. elim (eqb_tells new.link link) [
    | inl same ↦
        let own : is_higher new.priority (best_offer link offers) ≡ true =
        ap (is_higher new.priority) (sym (are.each link h) ∙ ap (best_of best) (sym same.1)) ∙ ranks in
        ap (λ (k : ℕ). best_of (slice_set best new.link (Some new)) k) (sym same.1)
        ∙ ap (option_map offer_for) (get_or-set_same best new.link (Some new) None within)
        ∙ sym (best_offer-push link offers (offer_for new)
        ∙ ap (λ (b : Bool). if b then better (best_offer link offers)
        (offer_for new) else best_offer link offers) same.0
        ∙ ap (λ (b : Bool). if b then Some (offer_for new) else best_offer link offers) own)
    | inr other ↦
        let apart : link ≢ new.link = λ e. other.1 (sym e) in
        ap (option_map offer_for) (get_or-set_other best new.link link (Some new) None apart)
        ∙ are.each link h
        ∙ sym (best_offer-push link offers (offer_for new)
        ∙ ap (λ (b : Bool). if b then better (best_offer link offers)
        (offer_for new) else best_offer link offers) other.0)
  ];
}

none_set : (count : ℕ) (offers : List Offer) (best : List (Option program.Offer)) (o : Offer)
    → AreBest count offers best
    → is_higher o.priority (best_of best o.link) ≡ false → AreBest count (offers ++ o ∷ []) best
none_set count offers best o are ranks = record {
  each = λ link h. elim (eqb_tells o.link link) [
    | inl same ↦
        let own : is_higher o.priority (best_offer link offers) ≡ false =
        ap (is_higher o.priority) (sym (are.each link h) ∙ ap (best_of best) (sym same.1)) ∙ ranks in
        are.each link h
        ∙ sym (best_offer-push link offers o
        ∙ ap (λ (b : Bool). if b then better (best_offer link offers) o else best_offer link offers) same.0
        ∙ ap (λ (b : Bool). if b then Some o else best_offer link offers) own)
    | inr other ↦
        are.each link h
        ∙ sym (best_offer-push link offers o
        ∙ ap (λ (b : Bool). if b then better (best_offer link offers) o else best_offer link offers) other.0)
  ];
}

-- The offers up to one more action.
actions_more : (before : List Offer) (f : Action → Offer) (actions : List Action) (i : ℕ) (action : Action)
    → i < length actions
    → action ≡ slice_index_or actions i action
    → (before ++ map f (take i actions)) ++ f action ∷ [] ≡ before ++ map f (take (i + 1) actions)
actions_more before f actions i action h is =
    append_assoc before (map f (take i actions)) (f action ∷ [])
    ∙ ap (λ (a : Action). before ++ (map f (take i actions) ++ f a ∷ [])) is
    ∙ ap (λ (os : List Offer). before ++ os) (sym (map_more f actions i action h))

pub higher_taken : (count : ℕ) (before : List Offer) (number : ℕ) (rule : Rule) (actions : List Action)
    (i : ℕ) (action : Action)
    (best : List (Option program.Offer)) (new : program.Offer) → i < length actions
    → action ≡ slice_index_or actions i action
    → AreBest count (before ++ map (offer_of number rule) (take i actions)) best
    → offer_for new ≡ offer_of number rule action
    → new.link < length best → is_higher new.priority (best_of best new.link) ≡ true
    → AreBest count (before ++ map (offer_of number rule) (take (i + 1) actions)) (slice_set best new.link (Some new))
higher_taken count before number rule actions i action best new h is are same within ranks =
    subst (λ (os : List Offer). AreBest count os (slice_set best new.link (Some new)))
    (ap (λ (o : Offer). (before ++ map (offer_of number rule) (take i actions)) ++ o ∷ []) same
    ∙ actions_more before (offer_of number rule) actions i action h is)
    (one_set count (before ++ map (offer_of number rule) (take i actions)) best new are within ranks)

pub lower_left : (count : ℕ) (before : List Offer) (number : ℕ) (rule : Rule) (actions : List Action) (i : ℕ)
    (action : Action)
    (best : List (Option program.Offer)) → i < length actions → action ≡ slice_index_or actions i action
    → AreBest count (before ++ map (offer_of number rule) (take i actions)) best
    → is_higher rule.priority (best_of best action.link) ≡ false
    → AreBest count (before ++ map (offer_of number rule) (take (i + 1) actions)) best
lower_left count before number rule actions i action best h is are ranks =
    subst (λ (os : List Offer). AreBest count os best) (actions_more before
    (offer_of number rule) actions i action h is)
    (none_set count (before ++ map (offer_of number rule) (take i actions)) best
    (offer_of number rule action) are ranks)

-- ---- places

-- What stands in the table for a link that is there.
pub stands : (best : List (Option program.Offer)) (link : ℕ) (here : Option program.Offer) (b : Bool)
    (priority : Option ℤ) (there : Bool) → link < length best
    → here ≡ slice_index_or best link here → there ≡ is_higher priority (option_map offer_for
    (slice_index_or best link here)) → there ≡ b
    → is_higher priority (best_of best link) ≡ b
stands best link here b priority there h is tells e =
    ap (λ (o : Option program.Offer). is_higher priority (option_map offer_for o))
    (any_default best link None here h) ∙ sym tells ∙ e

-- The link of an action is one of those in the table.
pub link_is : (count size : ℕ) (actions all : List Action) (i : ℕ) (action : Action)
    → All (λ (a : Action). a.link < size) all → actions ≡ all
    → i < length actions → action ≡ slice_index_or actions i action → size ≡ count → action.link < count
link_is count size actions all i action each are h is e =
    let there : i < length all = subst (λ (xs : List Action). i < length xs) are h in
    let at : action ≡ slice_index_or all i action = is ∙ ap (λ (xs : List Action). slice_index_or xs i action) are in
    let found : action.link < size = subst (λ (a : Action). a.link < size) (sym at) (each i action there) in
    omega (arith, found, e)

-- ---- rule after rule

offers_suc : (k i : ℕ) (rules : List Rule) (values : List Bool) (rule : Rule) (value : Bool) → i < length rules
    → i < length values
    → rule ≡ slice_index_or rules i rule → value ≡ slice_index_or values i value
    → offers_from k (take i rules) (take i values) ++ offers_of (k + i) rule value ≡ offers_from k (take
    (suc i) rules) (take (suc i) values)
offers_suc k i [] values rule value h v is gives = absurd (omega arith)
offers_suc k i (r ∷ rules) [] rule value h v is gives = absurd (omega arith)
offers_suc k zero (r ∷ rules) (b ∷ values) rule value h v is gives =
    ap (λ (n : ℕ). offers_of n rule value) (omega arith) ∙ ap (λ (x : Rule). offers_of k x value) is
    ∙ ap (λ (x : Bool). offers_of k r x) gives
    ∙ sym (append-nil (offers_of k r b))
offers_suc k (suc i) (r ∷ rules) (b ∷ values) rule value h v is gives =
    append_assoc (offers_of k r b) (offers_from (suc k) (take i rules) (take i values)) (offers_of
    (k + suc i) rule value)
    ∙ ap (λ (n : ℕ). offers_of k r b ++ (offers_from (suc k) (take i rules)
    (take i values) ++ offers_of n rule value)) (omega arith)
    ∙ ap (λ (os : List Offer). offers_of k r b ++ os) (offers_suc (suc k) i rules values rule value
    (omega arith) (omega arith) is gives)

-- The offers of the rules up to one more.
pub offers_more : (count i number : ℕ) (rules : List Rule) (values : List Bool) (rule here : Rule)
    (value given : Bool) (best : List (Option program.Offer))
    → AreBest count (offers_from 0 (take i rules) (take i values) ++ offers_of number rule value) best
    → number ≡ i → rule ≡ slice_index_or rules i here → value ≡ slice_index_or values i given → i < length rules
    → i < length values
    → AreBest count (offers_from 0 (take (i + 1) rules) (take (i + 1) values)) best
offers_more count i number rules values rule here value given best are is first gives h v =
    let next : suc i ≡ i + 1 = omega arith in
    let place : number ≡ 0 + i = omega arith in
    subst (λ (n : ℕ). AreBest count (offers_from 0 (take n rules) (take n values)) best) next
    (subst (λ (os : List Offer). AreBest count os best)
    (ap (λ (n : ℕ). offers_from 0 (take i rules) (take i values) ++ offers_of n rule value) place
    ∙ offers_suc 0 i rules values rule value h v (first ∙ any_default rules i here rule h) (gives
    ∙ any_default values i given value v)) are)
