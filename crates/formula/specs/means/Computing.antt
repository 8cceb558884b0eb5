-- What has to unfold for a reading of a given formula to compute, as one group: a case says `unfolding computing`.
use Rattle.interval.specs.means.Computing as interval
use Rattle.formula.specs.Enclose.{Expr-enclose, Expr-enclose_all, Program-enclose}

unfoldable pub computing : Unit {0}
unfolding interval.computing Expr-enclose Expr-enclose_all Program-enclose
computing = tt
