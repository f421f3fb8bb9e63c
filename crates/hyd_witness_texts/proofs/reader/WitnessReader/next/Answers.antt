use Rattle.std.proofs.Common.{◌≡◌, ◌+◌, ap, sym, subst, ◌∙◌}
use Rattle.hyd_spec_witnesses.specs.WitnessText.{Counts, IsMoment}
use Rattle.hyd_witness_texts.specs.MomentView.{counts_in, moment_of, HasCounts}
use Rattle.hyd_witness_texts.specs.ReaderView.{ReaderView, to_come, lead_lines}
use Rattle.hyd_witness_texts.specs.PartsOfWitness.{list_lines}
use Rattle.hyd_cert.specs.Faults.{lines_on}
use Rattle.hyd_witness_texts.specs.declared.answers_of_reader.Stand.TheVariants as stand
use Rattle.hyd_witness_texts.proofs.ReaderLemmas.{fault_moved, no_moment_moved, period_moved, moment_moved}
use Rattle.hyd_witness_texts.proofs.ReaderLemmas.{lists_moved, line_moved}
use Rattle.hyd_witness_texts.proofs.reader.WitnessReader.next.Goals as goal
use Rattle.hyd_witness_texts.proofs.reader.WitnessReader.next.Goals.{in-First, in-Between}

pub returns-clause-fault : goal.returns-clause-fault
returns-clause-fault g c =
    let line = ap (λ (v : ReaderView). v.line) c.self.view_is in
    let text = ap (λ (v : ReaderView). to_come v (g.D.Desk.rest c.args.desk.now)) c.self.view_is in
    let counts = ap (λ (v : ReaderView). v.counts) c.self.view_is in
    let at = ap (λ (v : ReaderView). v.stand) c.self.view_is in
    let has : HasCounts (counts_in c.self.inside.counts) (moment_of c.args.into.now) =
    subst (λ (k : Counts). HasCounts k (moment_of c.args.into.now)) (sym counts) c.requires in
    elim c.match-self.branch [
      | in-First w ↦ λ going. fault_moved _ _ _ _ _ _ _ _ counts (sym w.in-First.is ∙ at) text (sym w.read-is) _ _
          (g.D.Desk.counts c.args.desk.now) _ _ line (sym (ap g.D.Desk.counts w.desk-is))
          w.read_first-read.ensures.fault
      | in-Between w ↦ λ going. fault_moved _ _ (stand.Between w.in-Between.reached) _ _ _ _ _ counts
          (sym w.in-Between.is ∙ at) text (sym w.read-is) _ _
          (g.D.Desk.counts c.args.desk.now) _ _ line (sym (ap g.D.Desk.counts w.desk-is))
          (w.read_behind_periods-read.ensures.fault (counts_in c.self.inside.counts) has)
    ]

pub returns-clause-no_moment : goal.returns-clause-no_moment
returns-clause-no_moment g c =
    let text = ap (λ (v : ReaderView). to_come v (g.D.Desk.rest c.args.desk.now)) c.self.view_is in
    let counts = ap (λ (v : ReaderView). v.counts) c.self.view_is in
    let at = ap (λ (v : ReaderView). v.stand) c.self.view_is in
    let has : HasCounts (counts_in c.self.inside.counts) (moment_of c.args.into.now) =
    subst (λ (k : Counts). HasCounts k (moment_of c.args.into.now)) (sym counts) c.requires in
    elim c.match-self.branch [
      | in-First w ↦ λ going. no_moment_moved _ _ _ _ _ _ _ _ counts (sym w.in-First.is ∙ at) text (sym w.read-is)
          w.read_first-read.ensures.no_moment
      | in-Between w ↦ λ going. no_moment_moved _ _ (stand.Between w.in-Between.reached) _ _ _ _ _ counts
          (sym w.in-Between.is ∙ at) text (sym w.read-is)
          (w.read_behind_periods-read.ensures.no_moment (counts_in c.self.inside.counts) has)
    ]

pub returns-clause-lists : goal.returns-clause-lists
returns-clause-lists g c =
    let counts = ap (λ (v : ReaderView). v.counts) c.self.view_is in
    let has : HasCounts (counts_in c.self.inside.counts) (moment_of c.args.into.now) =
    subst (λ (k : Counts). HasCounts k (moment_of c.args.into.now)) (sym counts) c.requires in
    elim c.match-self.branch [
      | in-First w ↦ lists_moved _ _ _ _ counts (λ i. moment_of (w.into-is i)) w.read_first-read.ensures.lists
      | in-Between w ↦ lists_moved _ _ _ _ counts (λ i. moment_of (w.into-is i))
          (w.read_behind_periods-read.ensures.lists (counts_in c.self.inside.counts) has)
    ]

pub returns-clause-is_moment : goal.returns-clause-is_moment
returns-clause-is_moment g c =
    let counts = ap (λ (v : ReaderView). v.counts) c.self.view_is in
    let has : HasCounts (counts_in c.self.inside.counts) (moment_of c.args.into.now) =
    subst (λ (k : Counts). HasCounts k (moment_of c.args.into.now)) (sym counts) c.requires in
    let Q = IsMoment c.args.self.now.counts (moment_of c.match-self.into) in
    elim c.match-self.branch [
      | in-First w ↦ λ going. period_moved (IsMoment (counts_in c.self.inside.counts)
          (moment_of w.read_first-read.new.into)) Q w.read_first-read.result c.match-self.read
          (moment_moved _ _ _ _ counts (λ i. moment_of (w.into-is i))) (sym w.read-is)
          w.read_first-read.ensures.is_moment
      | in-Between w ↦ λ going. period_moved (IsMoment (counts_in c.self.inside.counts)
          (moment_of w.read_behind_periods-read.new.into)) Q w.read_behind_periods-read.result c.match-self.read
          (moment_moved _ _ _ _ counts (λ i. moment_of (w.into-is i))) (sym w.read-is)
          (w.read_behind_periods-read.ensures.is_moment (counts_in c.self.inside.counts) has)
    ]

pub returns-clause-line : goal.returns-clause-line
returns-clause-line g c =
    let line = ap (λ (v : ReaderView). v.line) c.self.view_is in
    let counts = ap (λ (v : ReaderView). v.counts) c.self.view_is in
    let at = ap (λ (v : ReaderView). v.stand) c.self.view_is in
    let has : HasCounts (counts_in c.self.inside.counts) (moment_of c.args.into.now) =
    subst (λ (k : Counts). HasCounts k (moment_of c.args.into.now)) (sym counts) c.requires in
    let Q = c.match-self.self-inside.lines.line ≡ lines_on c.args.self.now.line
    (lead_lines c.args.self.now.stand + list_lines c.args.self.now.counts) in
    elim c.match-self.branch [
      | in-First w ↦ λ going. period_moved (w.read_first-read.new.lines.line ≡ lines_on c.self.inside.lines.line
          (2 + list_lines (counts_in c.self.inside.counts))) Q w.read_first-read.result c.match-self.read
          (λ h. (λ i. (w.self-inside-is i).lines.line) ∙ (h ∙ line_moved _ _ _ _ _ _ line
          (sym w.in-First.is ∙ at) counts)) (sym w.read-is) w.read_first-read.ensures.line
      | in-Between w ↦ λ going. period_moved (w.read_behind_periods-read.new.lines.line
          ≡ lines_on c.self.inside.lines.line (1 + list_lines (counts_in c.self.inside.counts))) Q
          w.read_behind_periods-read.result c.match-self.read
          (λ h. (λ i. (w.self-inside-is i).lines.line) ∙ (h ∙ line_moved _ _ (stand.Between w.in-Between.reached) _ _ _
          line (sym w.in-Between.is ∙ at) counts)) (sym w.read-is)
          (w.read_behind_periods-read.ensures.line (counts_in c.self.inside.counts) has)
    ]
