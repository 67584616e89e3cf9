use Rattle.std.proofs.Common.{◌∙◌, arith}
use Rattle.lang_base.specs.declared.elems.Elem.TheVariants.{Name}
use Rattle.region_paths.proofs.Walks.{apart_back-at, apart_back-end, pair-star_left, pair-star_right, pair-distinct, pair-on}
use Rattle.region_paths.proofs.apart.apart_back.Goals as goal
use Rattle.region_paths.proofs.apart.apart_back.Goals.{then-is_star-via-then-is_star, then-is_star-via-else-is_star+then-is_star-2}

pub returns-then-is_star : goal.returns-then-is_star
returns-then-is_star c =
    let e = apart_back-at c.args.a.now c.args.b.now c.loop-i.i (Name 0) (omega arith) (omega arith) in
    elim c.then-is_star.branch [
      | then-is_star-via-then-is_star w ↦ pair-star_left _ _ _ e w.if-is_star.ensures ∙ c.loop-i.invariant
      | then-is_star-via-else-is_star+then-is_star-2 w ↦ pair-star_right _ _ _ e w.if-is_star-2.ensures ∙ c.loop-i.invariant
    ]

pub returns-then-distinct : goal.returns-then-distinct
returns-then-distinct c =
    let e = apart_back-at c.args.a.now c.args.b.now c.loop-i.i (Name 0) (omega arith) (omega arith) in
    pair-distinct _ _ _ e c.if-is_star.ensures c.if-is_star-2.ensures c.if-distinct.ensures ∙ c.loop-i.invariant

pub loop-i-preserved : goal.loop-i-preserved
loop-i-preserved c =
    let e = apart_back-at c.args.a.now c.args.b.now c.loop-i.i (Name 0) (omega arith) (omega arith) in
    pair-on _ _ _ e c.if-is_star.ensures c.if-is_star-2.ensures c.if-distinct.ensures ∙ c.loop-i.invariant

pub returns : goal.returns
returns c = apart_back-end c.args.a.now c.args.b.now c.loop-i.i (omega arith) ∙ c.loop-i.invariant
