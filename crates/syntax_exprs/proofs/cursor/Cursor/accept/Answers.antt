use Rattle.std.proofs.Common.{refl}
use Rattle.syntax_exprs.proofs.cursor.Cursor.accept.Goals as goal
use Rattle.syntax_exprs.proofs.Coming.{ends_halts, over_halts}
use Rattle.syntax_exprs.proofs.Taken.{takes-first}

pub returns-else-not-fits-clause-takes : goal.returns-else-not-fits-clause-takes
returns-else-not-fits-clause-takes c = takes-first c.args.self.now.rest.now c.args.self.now.end c.in-len1-up.len_at_least

pub returns-else-not-fits-clause-took : goal.returns-else-not-fits-clause-took
returns-else-not-fits-clause-took c =
    let t = takes-first c.args.self.now.rest.now c.args.self.now.end c.in-len1-up.len_at_least in
    record { next = record { terminal = t.terminal; place = _ }; is = t.takes.first; fits = c.fits.ensures.0 c.if-not-fits.false; same = refl }

pub returns-then-not-fits-clause-halts : goal.returns-then-not-fits-clause-halts
returns-then-not-fits-clause-halts c =
    over_halts c.args.self.now.rest.now c.args.self.now.end _ c.too_many.result c.fits.result c.in-len1-up.len_at_least c.fits.ensures c.if-not-fits.true c.too_many.ensures

pub returns-in-empty-clause-halts : goal.returns-in-empty-clause-halts
returns-in-empty-clause-halts c = ends_halts c.args.self.now.rest.now c.args.self.now.end _ c.unexpected.result c.in-empty.len_below c.unexpected.ensures
