use Rattle.std.proofs.Common.{◌≤◌, arith}
use Rattle.std.proofs.lemmas.Bool.Decides.{nat_tests}
use Rattle.std.proofs.lemmas.Nat.Gcd.{le_of_dvd, dvd_of_mod-eq-zero}
use Rattle.arithmetic.specs.Laws.{Divides}
use Rattle.cells.proofs.fitting.fits.Goals as goal

pub overflow_mul-n : goal.overflow_mul-n
overflow_mul-n g c =
    let laws = g.met.X.Arithmetic.lawful.every in
    let n = c.args.n in
    let granted = c.in_ok-divides.ensures.answer in
    let divides : Divides n g.X.Arithmetic.meaning.span = grind (arith, nat_tests) in
    let within : n ≤ g.X.Arithmetic.meaning.span = le_of_dvd laws.span_above_zero (dvd_of_mod-eq-zero n divides) in
    omega (arith, laws.span_fits)
