use Rattle.std.proofs.Common.{◌∷◌, ◌++◌, decimal}
use Rattle.hyd_open_certificates.proofs.OpenLineLemmas.{open_period_parts, number_cut}
use Rattle.hyd_open_certificates.proofs.lines.period_line.Goals as goal

pub returns-in_default-first_number-2-clause-none : goal.returns-in_default-first_number-2-clause-none
returns-in_default-first_number-2-clause-none c = λ l p e.
    let lengths = decimal p.shortest ++ (32 ∷ decimal p.longest) in
    let opening = decimal p.late ++ (32 ∷ lengths) in
    let times = decimal p.time ++ (32 ∷ opening) in
    let fit = p.fit in
    let behind = number_cut c.in-Some.numbers.now c.in-Some-first_number.times.now times
    c.in-Some-first_number.number p.number c.in-Some-first_number.ensures.fits fit.number_fits
    c.in-Some-first_number.ensures.some
    (open_period_parts c.args.line.now c.in-Some.numbers.now l c.in-Some.ensures.some p e) in
    c.in_default-first_number-2.ensures.none p.time opening fit.time_fits behind

pub returns-in_default-first_number-3-clause-none : goal.returns-in_default-first_number-3-clause-none
returns-in_default-first_number-3-clause-none c = λ l p e.
    let lengths = decimal p.shortest ++ (32 ∷ decimal p.longest) in
    let opening = decimal p.late ++ (32 ∷ lengths) in
    let times = decimal p.time ++ (32 ∷ opening) in
    let fit = p.fit in
    let behind = number_cut c.in-Some.numbers.now c.in-Some-first_number.times.now times
    c.in-Some-first_number.number p.number c.in-Some-first_number.ensures.fits fit.number_fits
    c.in-Some-first_number.ensures.some
    (open_period_parts c.args.line.now c.in-Some.numbers.now l c.in-Some.ensures.some p e) in
    let after = number_cut c.in-Some-first_number.times.now c.in-Some-first_number-2.open.now opening
    c.in-Some-first_number-2.time p.time c.in-Some-first_number-2.ensures.fits fit.time_fits
    c.in-Some-first_number-2.ensures.some behind in
    c.in_default-first_number-3.ensures.none p.late lengths fit.late_fits after

pub returns-in_default-first_number-4-clause-none : goal.returns-in_default-first_number-4-clause-none
returns-in_default-first_number-4-clause-none c = λ l p e.
    let lengths = decimal p.shortest ++ (32 ∷ decimal p.longest) in
    let opening = decimal p.late ++ (32 ∷ lengths) in
    let times = decimal p.time ++ (32 ∷ opening) in
    let fit = p.fit in
    let behind = number_cut c.in-Some.numbers.now c.in-Some-first_number.times.now times
    c.in-Some-first_number.number p.number c.in-Some-first_number.ensures.fits fit.number_fits
    c.in-Some-first_number.ensures.some
    (open_period_parts c.args.line.now c.in-Some.numbers.now l c.in-Some.ensures.some p e) in
    let after = number_cut c.in-Some-first_number.times.now c.in-Some-first_number-2.open.now opening
    c.in-Some-first_number-2.time p.time c.in-Some-first_number-2.ensures.fits fit.time_fits
    c.in-Some-first_number-2.ensures.some behind in
    let last = number_cut c.in-Some-first_number-2.open.now c.in-Some-first_number-3.lengths.now lengths
    c.in-Some-first_number-3.late p.late c.in-Some-first_number-3.ensures.fits fit.late_fits
    c.in-Some-first_number-3.ensures.some after in
    c.in_default-first_number-4.ensures.none p.shortest (decimal p.longest) fit.shortest_fits last

pub returns-in_default-small_number-clause-none : goal.returns-in_default-small_number-clause-none
returns-in_default-small_number-clause-none c = λ l p e.
    let lengths = decimal p.shortest ++ (32 ∷ decimal p.longest) in
    let opening = decimal p.late ++ (32 ∷ lengths) in
    let times = decimal p.time ++ (32 ∷ opening) in
    let fit = p.fit in
    let behind = number_cut c.in-Some.numbers.now c.in-Some-first_number.times.now times
    c.in-Some-first_number.number p.number c.in-Some-first_number.ensures.fits fit.number_fits
    c.in-Some-first_number.ensures.some
    (open_period_parts c.args.line.now c.in-Some.numbers.now l c.in-Some.ensures.some p e) in
    let after = number_cut c.in-Some-first_number.times.now c.in-Some-first_number-2.open.now opening
    c.in-Some-first_number-2.time p.time c.in-Some-first_number-2.ensures.fits fit.time_fits
    c.in-Some-first_number-2.ensures.some behind in
    let last = number_cut c.in-Some-first_number-2.open.now c.in-Some-first_number-3.lengths.now lengths
    c.in-Some-first_number-3.late p.late c.in-Some-first_number-3.ensures.fits fit.late_fits
    c.in-Some-first_number-3.ensures.some after in
    c.in_default-small_number.ensures.none p.longest fit.longest_fits
    (number_cut c.in-Some-first_number-3.lengths.now c.in-Some-first_number-4.last.now (decimal p.longest)
    c.in-Some-first_number-4.shortest p.shortest c.in-Some-first_number-4.ensures.fits fit.shortest_fits
    c.in-Some-first_number-4.ensures.some last)
