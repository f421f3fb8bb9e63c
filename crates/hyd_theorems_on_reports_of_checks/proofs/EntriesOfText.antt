-- Of two lists of entries with which one text begins, one begins with the other.
use Rattle.std.proofs.Common.{◌≡◌, ℕ, ◌<◌, ◌^◌, ◌⊎◌, inl, inr, List, [], ◌∷◌, ◌++◌, map, All, refl, sym, ap, ◌∙◌}
use Rattle.std.proofs.Common.{append_assoc, arith}
use Rattle.std.proofs.lemmas.List.{append_cancel_left}
use Rattle.std.proofs.lemmas.List.Elements.{All-nil, All-cons, All-head, All-tail}
use Rattle.hyd_net.specs.Sound.{IsSound}
use Rattle.hyd_spec.specs.ProgramTypes.{Project}
use Rattle.hyd_spec.specs.Lists.{joined}
use Rattle.hyd_spec.specs.NodeNumbers.{junction_count, tank_count}
use Rattle.hyd_spec_certificates.specs.CertificateText.{header_line}
use Rattle.hyd_spec_flows.specs.FlowTexts.{Entry, IsEntry, flows_version, entry_text}
use Rattle.hyd_spec_reports_with_flows.specs.PromisesWithFlows.{BeginsWithEntries}
use Rattle.hyd_cert.specs.Lines.{header_words}
use Rattle.hyd_cert.specs.PlacesWithFlows.{IsFlowsHeaderLine}
use Rattle.hyd_lemmas.proofs.ListsOptionsAndResults.{joined_append}
use Rattle.hyd_theorems_on_flow_texts.proofs.FirstLines.{flows_header, flows_header_is}
use Rattle.hyd_theorems_on_flow_texts.proofs.EntriesOfOneText.{one_entry}
use Rattle.hyd_theorems_on_checks.proofs.BeginningsOfLists.{Begins, begin_more}

-- ---- texts of entries

pub compared_texts : (n k : ℕ) (a b : List Entry) (u v : List ℕ) → All (IsEntry n k) a → All (IsEntry n k) b
    → joined (map entry_text a) ++ u ≡ joined (map entry_text b) ++ v → Begins a b ⊎ Begins b a
compared_texts n k [] b u v are_a are_b e = inl (record { more = b; is = refl })
compared_texts n k (x ∷ a) [] u v are_a are_b e = inr (record { more = x ∷ a; is = refl })
compared_texts n k (x ∷ a) (y ∷ b) u v are_a are_b e =
    let more = joined (map entry_text a) in
    let others = joined (map entry_text b) in
    let first = one_entry n k x y (more ++ u) (others ++ v) (All-head (IsEntry n k) x a are_a)
    (All-head (IsEntry n k) y b are_b)
    (sym (append_assoc (entry_text x) more u) ∙ (e ∙ append_assoc (entry_text y) others v)) in
    begin_more x y a b first.0
    (compared_texts n k a b u v (All-tail (IsEntry n k) x a are_a) (All-tail (IsEntry n k) y b are_b) first.1)

front_fits : (n k : ℕ) (a b : List Entry) → All (IsEntry n k) (a ++ b) → All (IsEntry n k) a
front_fits n k [] b all = All-nil (IsEntry n k)
front_fits n k (x ∷ a) b all =
    All-cons (IsEntry n k) x a (All-head (IsEntry n k) x (a ++ b) all)
    (front_fits n k a b (All-tail (IsEntry n k) x (a ++ b) all))

-- ---- texts of a network

module _ (project : Project) (text : List ℕ) where
  pub compared_entries : (a b : List Entry) → BeginsWithEntries project text a → BeginsWithEntries project text b
      → Begins a b ⊎ Begins b a
  compared_entries a b x y =
      compared_texts (junction_count project) (tank_count project) a b x.unread y.unread x.entries_fit y.entries_fit
      (append_cancel_left (header_line flows_version (junction_count project) (tank_count project))
      (joined (map entry_text a) ++ x.unread) (joined (map entry_text b) ++ y.unread) (sym x.is_text ∙ y.is_text))

  -- a text that begins with entries begins with the first of them
  pub fewer_entries : (a b : List Entry) → BeginsWithEntries project text (a ++ b) → BeginsWithEntries project text a
  fewer_entries a b is =
      let first = joined (map entry_text a) in
      let second = joined (map entry_text b) in
      let head = header_line flows_version (junction_count project) (tank_count project) in
      record {
        entries_fit = front_fits (junction_count project) (tank_count project) a b is.entries_fit;
        unread = second ++ is.unread;
        is_text = is.is_text ∙ ap (λ t. head ++ t) (ap (λ t. t ++ is.unread) (joined_append entry_text a b)
            ∙ append_assoc first second is.unread);
      }

-- the header line of a sound network's certificates with flows
pub own_flows_header : (project : Project) → IsSound project
    → IsFlowsHeaderLine (flows_header (junction_count project) (tank_count project))
    (header_words (flows_header (junction_count project) (tank_count project)))
own_flows_header project sound =
    let n : junction_count project < 2 ^ 32 = (let le = sound.counts.junctions in omega (arith, le)) in
    let k : tank_count project < 2 ^ 32 = (let le = sound.counts.tanks in omega (arith, le)) in
    flows_header_is (junction_count project) (tank_count project) n k
