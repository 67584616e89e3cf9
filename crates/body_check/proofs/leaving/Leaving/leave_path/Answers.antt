use Rattle.std.proofs.Common.{◌≡◌, ◌∙◌, ℕ, zero, suc, ◌+◌, ◌<◌, List, [], ◌∷◌, ◌++◌, length, map, take, drop, set, get_or, refl, sym, ap, add-one, arith}
use Rattle.lang_base.specs.declared.elems.Elem.{Elem}
use Rattle.lang_base.specs.declared.elems.Elem.TheVariants.{Name}
use Rattle.lang_base.specs.declared.region.Head.{Head}
use Rattle.lang_base.specs.declared.region.Rpl.{Rpl}
use Rattle.body_check.specs.Leaving.{left_elem}
use Rattle.body_check.proofs.leaving.Leaving.leave_path.Goals as goal

-- the list with its first elements changed
changed : (Elem → Elem) → List Elem → ℕ → List Elem
changed f es i = map f (take i es) ++ drop i es

-- and the next one as well
changed-next : (f : Elem → Elem) (es : List Elem) (i : ℕ) (d : Elem) → i < length es →
    set (changed f es i) i (f (get_or (changed f es i) i d)) ≡ changed f es (suc i)
unfolding changed
changed-next f [] i d h = absurd (omega arith)
changed-next f (x ∷ es) zero d h = refl
changed-next f (x ∷ es) (suc i) d h = ap (λ l. f x ∷ l) (changed-next f es i d (omega arith))

pub loop-at-preserved : goal.loop-at-preserved
unfolding changed
loop-at-preserved c =
    let es = c.args.rpl.now.elems in
    let i = c.loop-at.at in
    let f : Elem → Elem = left_elem c.args.self.now.first_slot in
    let was : c.loop-at.rpl.elems ≡ changed f es i = ap (λ (r : Rpl). r.elems) c.loop-at.invariant in
    let value : c.left_elem.result ≡ f (get_or (changed f es i) i (Name 0)) =
    c.left_elem.ensures ∙ ap (λ (l : List Elem). f (get_or l i (Name 0))) (c.as_slice.ensures ∙ was) in
    let next : set (changed f es i) i (f (get_or (changed f es i) i (Name 0))) ≡ changed f es (i + 1) =
    changed-next f es i (Name 0) (omega arith) ∙ ap (changed f es) (sym (add-one i)) in
    let elems : c.set.new.self ≡ changed f es (i + 1) =
    c.set.ensures ∙ ap (λ (l : List Elem). set l i c.left_elem.result) was ∙ ap (set (changed f es i) i) value ∙ next in
    ap (λ (h : Head). record { head = h; elems = c.set.new.self }) (ap (λ (r : Rpl). r.head) c.loop-at.invariant)
    ∙ ap (λ (l : List Elem). record { head = c.args.rpl.now.head; elems = l }) elems
