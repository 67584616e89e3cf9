use Rattle.std.proofs.Common.{◌≡◌, ◌∙◌, ◌+◌, ◌&&◌, Bool, List, [], map, drop, refl, sym, ap, arith}
use Rattle.std.proofs.lemmas.List.{drop_all}
use Rattle.lang_base.specs.declared.ty.Ty.{Ty}
use Rattle.body_exprs.specs.declared.typed.Typed.{Typed}
use Rattle.body_exprs.specs.Env.{supers_of}
use Rattle.body_exprs.specs.Fits.{all_fit}
use Rattle.body_exprs.specs.Typed.{value_type}
use Rattle.body_exprs.proofs.Fitted.{not_as_many, fits_here}
use Rattle.body_exprs.proofs.actuals.all_fit.Goals as goal

pub returns-then-actuals-declared : goal.returns-then-actuals-declared
returns-then-actuals-declared c = not_as_many (supers_of c.args.env.now) c.args.args.now c.args.actuals.now c.args.declared.now c.if-actuals-declared.true

pub loop-i-init : goal.loop-i-init
loop-i-init c = record { same = c.if-actuals-declared.false; rest = refl }

pub returns-then-not-branch : goal.returns-then-not-branch
returns-then-not-branch c =
    let others : Bool = all_fit (supers_of c.args.env.now) c.args.args.now (map value_type (drop (c.loop-i.i + 1) c.args.actuals.now)) (drop (c.loop-i.i + 1) c.args.declared.now) in
    sym (ap (λ z. z && others) c.if-not-branch.true)
    ∙ sym (fits_here (supers_of c.args.env.now) c.args.args.now c.args.actuals.now c.args.declared.now c.loop-i.i c.index-actuals-i.result c.index-declared-i.result
    c.in_ok-ty.ty c.in_ok-fits.field-0 (omega arith) (omega arith) c.index-actuals-i.is c.index-declared-i.is c.in_ok-ty.ensures c.in_ok-fits.ensures)
    ∙ c.loop-i.invariant.rest

pub loop-i-preserved : goal.loop-i-preserved
loop-i-preserved c = record {
  same = c.loop-i.invariant.same;
  rest =
      let others : Bool = all_fit (supers_of c.args.env.now) c.args.args.now (map value_type (drop (c.loop-i.i + 1) c.args.actuals.now)) (drop (c.loop-i.i + 1) c.args.declared.now) in
      sym (ap (λ z. z && others) c.if-not-branch.false)
      ∙ sym (fits_here (supers_of c.args.env.now) c.args.args.now c.args.actuals.now c.args.declared.now c.loop-i.i c.index-actuals-i.result c.index-declared-i.result
      c.in_ok-ty.ty c.in_ok-fits.field-0 (omega arith) (omega arith) c.index-actuals-i.is c.index-declared-i.is c.in_ok-ty.ensures c.in_ok-fits.ensures)
      ∙ c.loop-i.invariant.rest;
}

pub returns : goal.returns
returns c =
    let no_values : drop c.loop-i.i c.args.actuals.now ≡ [] = drop_all c.loop-i.i c.args.actuals.now (omega arith) in
    let no_types : drop c.loop-i.i c.args.declared.now ≡ [] = drop_all c.loop-i.i c.args.declared.now (omega arith) in
    sym (ap (λ (z : List Typed). all_fit (supers_of c.args.env.now) c.args.args.now (map value_type z) (drop c.loop-i.i c.args.declared.now)) no_values
    ∙ ap (λ (z : List Ty). all_fit (supers_of c.args.env.now) c.args.args.now [] z) no_types)
    ∙ c.loop-i.invariant.rest
