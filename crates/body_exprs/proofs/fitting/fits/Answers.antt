use Rattle.std.proofs.Common.{◌≡◌, IfOk, sym, subst}
use Rattle.lang_base.specs.Types.{plain_type}
use Rattle.body_exprs.specs.declared.typed.Typed.{Typed}
use Rattle.body_exprs.specs.Env.{supers_of}
use Rattle.body_exprs.specs.Fits.{fits_as}
use Rattle.body_exprs.specs.Typed.{value_type}
use Rattle.body_exprs.proofs.Fitted.{fits_so}
use Rattle.body_exprs.proofs.fitting.fits.Goals as goal

pub returns-in-Known : goal.returns-in-Known
returns-in-Known c =
    subst (λ (z : Typed). IfOk c.fit.result (λ fit. fit ≡ fits_as (supers_of c.args.env.now) (value_type z) (plain_type c.args.declared.now))) (sym c.in-Known.is)
    (fits_so (supers_of c.args.env.now) (plain_type c.in-Known.value.ty) (plain_type c.args.declared.now) c.fit.result c.fit.ensures)
