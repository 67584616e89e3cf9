-- What `==` says of elements, of paths and of effects: that the two are equal.
use Rattle.std.proofs.Common.{◌≡◌, List, refl, ap, ◌∙◌, rules}
use Rattle.std.proofs.lemmas.Bool.Decides.{Decides-and, Decides-like}
use Rattle.std.specs.Bool.{Decides}
use Rattle.std.specs.Cmp.{booleans_Decides}
use Rattle.std.proofs.lemmas.Slice.Eq.{slice_eq-Decides}
use Rattle.lang_base.specs.declared.elems.Elem.{Elem}
use Rattle.lang_base.specs.declared.region.Head.{Head}
use Rattle.lang_base.specs.declared.region.Rpl.{Rpl}
use Rattle.lang_base.specs.declared.effect.Access.{Access}
use Rattle.lang_base.specs.declared.effect.Effect.{Effect}
use Rattle.lang_base.specs.Keys.{elems_eq}
use Rattle.lang_base.specs.contracts.elems.ElemPartialEq.TheImpl.{eq-value}
use Rattle.lang_base.specs.contracts.region.HeadPartialEq.TheImpl as head
use Rattle.lang_base.specs.contracts.region.RplPartialEq.TheImpl as rpl
use Rattle.lang_base.specs.contracts.effect.AccessPartialEq.TheImpl as access
use Rattle.lang_base.specs.contracts.effect.EffectPartialEq.TheImpl as effects

pub elem_decides : (a b : Elem) → Decides (eq-value.it a b) (a ≡ b)
elem_decides a b = search rules

pub elems_decides : (a b : List Elem) → Decides (elems_eq a b) (a ≡ b)
elems_decides a b = slice_eq-Decides elem_decides a b _ refl

head_decides : (a b : Head) → Decides (head.eq-value.it a b) (a ≡ b)
head_decides a b = search rules

access_decides : (a b : Access) → Decides (access.eq-value.it a b) (a ≡ b)
access_decides a b = search rules

rpl_decides : (a b : Rpl) → Decides (rpl.eq-value.it a b) (a ≡ b)
rpl_decides a b =
    Decides-like (rpl.eq-value.it a b)
    (λ p. ap (λ h. record { head = h; elems = a.elems }) p.0 ∙ ap (λ e. record { head = b.head; elems = e }) p.1)
    (λ e. (ap (λ r. r.head) e, ap (λ r. r.elems) e))
    (Decides-and (head.eq-value.it a.head b.head) (elems_eq a.elems b.elems) (head_decides a.head b.head) (elems_decides a.elems b.elems))

pub effect_decides : (a b : Effect) → Decides (effects.eq-value.it a b) (a ≡ b)
effect_decides a b =
    Decides-like (effects.eq-value.it a b)
    (λ p. ap (λ x. record a { access = x }) p.0 ∙ ap (λ m. record { access = b.access; atomic = m; rpl = a.rpl }) p.1.0 ∙ ap (λ r. record { access = b.access; atomic = b.atomic; rpl = r }) p.1.1)
    (λ e. (ap (λ z. z.access) e, (ap (λ z. z.atomic) e, ap (λ z. z.rpl) e)))
    (Decides-and (access.eq-value.it a.access b.access) _ (access_decides a.access b.access)
    (Decides-and _ (rpl.eq-value.it a.rpl b.rpl) (booleans_Decides a.atomic b.atomic) (rpl_decides a.rpl b.rpl)))
