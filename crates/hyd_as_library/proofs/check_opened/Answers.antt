-- A reader that has read nothing has the whole text to come.
use Rattle.std.proofs.Common.{◌≡◌, ℕ, List, [], Option, None, Some, ◌∙◌, ap, refl}
use Rattle.hyd_io.specs.DeskBytes.{prepend_known}
use Rattle.hyd_cert.specs.ReaderView.{ReaderView, fresh, to_come}
use Rattle.hyd_as_library.proofs.check_opened.Goals as goal

nothing_ahead : (rest : Option (List ℕ)) → prepend_known [] rest ≡ rest
nothing_ahead None = refl
nothing_ahead (Some left) = refl

comes : (reader : ReaderView) (rest : Option (List ℕ)) (text : List ℕ) → reader ≡ fresh → rest ≡ Some text
    → to_come reader rest ≡ Some text
comes reader rest text new told = ap (λ (r : ReaderView). to_come r rest) new ∙ (nothing_ahead rest ∙ told)

pub returns-clause-whole : goal.returns-clause-whole
returns-clause-whole g c text told =
    c.check.ensures.whole text (comes c.new-reader.result (g.D.Desk.rest c.args.desk.now) text c.new-reader.ensures told)

pub returns-clause-broken_off : goal.returns-clause-broken_off
returns-clause-broken_off g c text told = c.check.ensures.broken_off text
    (comes c.new-reader.result (g.D.Desk.rest c.args.desk.now) text c.new-reader.ensures told)
