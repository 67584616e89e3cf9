use Rattle.syntax_exprs.proofs.Making.{made_new}
use Rattle.syntax_exprs.proofs.exprs.new_object.Goals as goal

pub returns-clause-derives : goal.returns-clause-derives
returns-clause-derives c =
    made_new c.in_ok-place.ensures.takes c.in_ok-class.ensures.takes c.in_ok-regions.ensures.derives c.in_ok-actuals.ensures.derives c.object.ensures
