-- Each expression of a well-typed program is in order, by the meaning that looks at kinds: by recursion on its typing.
use Rattle.std.proofs.Common.{◌≡◌, inl, inr, ◌+◌, pos, true, false, List, [], ◌∷◌, ◌++◌, map, reverse, refl, sym, ap, ◌∙◌, subst, Option, append_assoc}
use Rattle.std.specs.List.{AllZip}
use Rattle.std.proofs.lemmas.List.{reverse-append, append-nil}
use Rattle.lang_base.specs.Regions.{substituted}
use Rattle.lang_base.specs.Types.{PlainType, int, boolean, class, array, type_with, path_at}
use Rattle.lang_typed.specs.Effects.{does, uses, reads}
use Rattle.lang_typed.specs.Effects.{Own as EffectOwn}
use Rattle.lang_typed.specs.Plain.{PlainProgram, TypedExpr, type_of, TypedExprs}
use Rattle.lang_typed.specs.Scope.{Scope, constant, variable, frozen, part}
use Rattle.lang_typed.specs.Typing.{Has, literal_int, literal_boolean, literal_null, read_local, read_field, read_element, length_of_array, call_method, create_object, construct_object, make_array, negative, negation, operation, conjunction, disjunction, length_of_part, read_part}
use Rattle.lang_typed.specs.Typing.{Fit}
use Rattle.lang_typed.specs.Typing.{index_elem}
use Rattle.lang_typed.specs.Typing.{Fit as fit}
use Rattle.lang_typed.specs.WellTyped.{WellTyped}
use Rattle.lang_meaning.specs.Core.{Goes_on}
use Rattle.lang_meaning.specs.Counts.{number, slot_value}
use Rattle.runs_theory.specs.Objects.{Name, LocalRegion, Value, Int, Boolean, Null}
use Rattle.runs_program.specs.Steps.{named_by}
use Rattle.runs_sound.specs.Settings.{Setting, env_of}
use Rattle.runs_sound.specs.Shapes.{Instance, ArrayInstance, FitsIn}
use Rattle.runs_sound.specs.Accesses.{Bounds, Within}
use Rattle.runs_sound.specs.Frames.{Frame, State, Since, FrameFits}
use Rattle.runs_sound.specs.Scopes.{TypeInScope, GoodScope}
use Rattle.runs_sound.specs.Work.{Result, Prog, InOrder}
use Rattle.runs_sound.specs.Laws.{Deeper, Yields, DeeperInOrder}
use Rattle.runs_sound.proofs.classes.Types.{fits_grows}
use Rattle.runs_sound.proofs.classes.Classes.{env_alone, subtype_fits}
use Rattle.runs_sound.proofs.scopes.InScope.{paths_alone, index_in, typed_in}
use Rattle.runs_sound.proofs.scopes.Frames.{frame_since, frame_env, within_left, within_right, within_since}
use Rattle.runs_sound.proofs.work.Expressions.{order_unless, order_choose, order_length, order_operation, local_index, field_order, element_order}
use Rattle.runs_sound.proofs.work.Making.{put, order_new_array}
use Rattle.runs_sound.proofs.numbers.Ints.{neg_fits, number_fits}
use Rattle.runs_sound.proofs.work.Calls.{call_order, create_order, construct_order}
use Rattle.runs_sound.proofs.work.Work.{since_now, since_since, order_then, order_ret}
use Rattle.runs_sound.proofs.work.Typed.{type_alone, part_order, Next, yields}
use Rattle.std.proofs.lemmas.Bool.{and_from}
use Rattle.lang_base.specs.Operators.{operands_of}
use Rattle.runs_sound.specs.Kinds.{Wrong, is_read, is_length, is_class, is_name, strict_expr, strict_exprs}
use Rattle.runs_sound.proofs.kinds.Uses.{kind_fits, kind_as, operands_fit, part_kinds, IsRead, IsNew, SeesArray, SeesObject, read_answered, new_answered, length_answered, class_answered, order_needs, order_answered, order_use, first_of_part, first_call, first_new, first_new_array}

-- values in front of others, the latest first
abbrev onto : List Value → List Value → List Value
onto [] us = us
onto (v ∷ vs) us = onto vs (v ∷ us)

reverse_onto : (vs us : List Value) → reverse (onto vs us) ≡ reverse us ++ vs
reverse_onto [] us = sym (append-nil (reverse us))
reverse_onto (v ∷ vs) us = reverse_onto vs (v ∷ us) ∙ ap (λ z. z ++ vs) (reverse-append (v ∷ []) us) ∙ append_assoc (reverse us) (v ∷ []) vs

module _ (wrong : Wrong Name LocalRegion) (P : PlainProgram) (wt : WellTyped P) (b : Bounds) (dp : Option Deeper) (dd : DeeperInOrder P wt b dp) (L : Scope) (good : GoodScope L) (g : Setting) where
  mutual
    pub strict_order : {e : TypedExpr} {E : List EffectOwn} → Has P L e E → (R : State → Result → Type 0) (st : State) (f : Frame) →
        FrameFits P b.path st g L f → Within b st.entries g E →
        Next P L g R e st f → InOrder P b R st (strict_expr wrong (named_by b.path) P dp e f)
    strict_order (literal_int {k = k} fits) R st f ff w next = order_ret P b R st (Goes_on (Int k) f) (next st (Int k) (since_now st) fits refl)
    strict_order (literal_boolean {b = c}) R st f ff w next = order_ret P b R st (Goes_on (Boolean c) f) (next st (Boolean c) (since_now st) tt (pos 0, refl))
    strict_order literal_null R st f ff w next = order_ret P b R st (Goes_on Null f) (next st Null (since_now st) tt (pos 0, refl))
    strict_order (read_local {x = x} {t = t} h) R st f ff w next =
        order_needs P b wrong R st _ _ (kind_fits P st.shapes (env_of g) t _ held)
        (order_ret P b R st (Goes_on (slot_value f.values x) f) (next st (slot_value f.values x) (since_now st) held (local_index P b wt L g ff x (L.local x) refl)))
      where
        held : FitsIn P st.shapes (env_of g) t (slot_value f.values x)
        held = elim h [ inl a ↦ ff.each x (variable t) a | inr c ↦ elim c [ inl a ↦ ff.each x (frozen t) a | inr a ↦ ff.each x (constant t) a ] ]
    strict_order (read_field {at = at} {t = t} {e = e} {c = c} {k = k} {args = args} {f = fd} {E = E} h ty fe rd eq) R st f ff w next =
        order_then P b L g e f R _ st _ (strict_order h (Yields P L g e st f) st f ff (within_left b st.entries g E _ w) (yields P L g e st f))
        (λ h1 v s fv ix. (let here : FitsIn P h1.shapes (env_of g) (class c args) v = subst (λ z. FitsIn P h1.shapes (env_of g) z v) ty fv in
        order_use P b wrong R h1 IsRead is_read (read_answered P b h1) at (Instance P h1.shapes (env_of g) c args) _ (λ n i. tt) v here
        (field_order P b wt L g R h1 at f c k args fd fe rd (subst (TypeInScope L 0) ty (typed_in P wt L good h))
        (within_since b s g (does (reads (substituted args fd.region)) ∷ []) (within_right b st.entries g E _ w)) v here
        (λ x u s2 fx. next u x (since_since s s2) (subst (λ z. FitsIn P u.shapes (env_of g) z x) (sym eq) fx) (number x, refl)))))
    strict_order (read_element {at = at} {u = u} {a = a} {i = i} {t = t} {rpl = rpl} {named = named} {E = E} {F = F} ha ty hi ti rg eq) R st f ff w next =
        order_then P b L g a f R _ st _ (strict_order ha (Yields P L g a st f) st f ff (within_left b st.entries g E _ w) (yields P L g a st f))
        (λ h1 v s fv ix. order_then P b L g i f R _ h1 _
        (strict_order hi (Yields P L g i h1 f) h1 f (frame_since s ff) (within_since b s g _ (within_left b st.entries g F _ (within_right b st.entries g E _ w))) (yields P L g i h1 f))
        (λ h2 k s2 fk ik. (let here : FitsIn P h2.shapes (env_of g) (array t rpl named) v =
        fits_grows P h1.shapes h2.shapes s2.grows (env_of g) (array t rpl named) v (subst (λ z. FitsIn P h1.shapes (env_of g) z v) ty fv) in
        order_needs P b wrong R h2 _ _ (kind_as P h2.shapes (env_of g) int k ti fk)
        (order_use P b wrong R h2 IsRead is_read (read_answered P b h2) at (ArrayInstance h2.shapes (env_of g) t rpl) _ (λ n i. tt) v here
        (element_order P b wt L g R h2 at f t rpl named (index_elem L i) (number k) (index_in L i).0 ik rg
        (within_since b (since_since s s2) g (does (reads (path_at 0 (index_elem L i) rpl)) ∷ []) (within_right b st.entries g F _ (within_right b st.entries g E _ w))) v here
        (λ x y s3 fx. next y x (since_since (since_since s s2) s3) (subst (λ z. FitsIn P y.shapes (env_of g) z x) (sym eq) fx) (number x, refl)))))))
    strict_order (length_of_array {at = at} {a = a} {t = t} {rpl = rpl} {named = named} h ty) R st f ff w next =
        order_then P b L g a f R _ st _ (strict_order h (Yields P L g a st f) st f ff w (yields P L g a st f))
        (λ h1 v s fv ix. (let here : FitsIn P h1.shapes (env_of g) (array t rpl named) v = subst (λ z. FitsIn P h1.shapes (env_of g) z v) ty fv in
        order_use P b wrong R h1 (SeesArray h1) is_length (length_answered P b h1) at (ArrayInstance h1.shapes (env_of g) t rpl) _ (λ n i. (i.setting, i.element, i.rpl, i.shape)) v here
        (order_unless P b R h1 at (ArrayInstance h1.shapes (env_of g) t rpl) _
        (λ n i. order_length P b R h1 n f i.setting i.element i.rpl i.shape (λ k u s2 small. next u (Int (pos k)) (since_since s s2) small (pos k, refl))) v here)))
    strict_order (call_method {at = at} {t = t} {e = e} {c = c} {r = r} {n = n} {args = args} {owned = owned} {regions = regions} {m = m} {es = es} {E = E} {F = F} h ty rw mb ab ga fu kn rd ft nd_free eq) R st f ff w next =
        order_then P b L g e f R _ st _ (strict_order h (Yields P L g e st f) st f ff (within_left b st.entries g E _ w) (yields P L g e st f))
        (λ h1 v s fv ix. strict_actuals ft R h1 f (frame_since s ff) (within_since b s g _ (within_left b st.entries g F _ (within_right b st.entries g E _ w))) [] _
        (λ h2 vs s2 fits. (let here : FitsIn P h2.shapes (env_of g) (class c args) v =
        fits_grows P h1.shapes h2.shapes s2.grows (env_of g) (class c args) v (subst (λ z. FitsIn P h1.shapes (env_of g) z v) ty fv) in
        order_use P b wrong R h2 (SeesObject h2) is_class (class_answered P b h2) at (Instance P h2.shapes (env_of g) c args) _
        (λ o i. first_call P b (named_by b.path) (SeesObject h2) dp at c r _ o _ f (i.class, i.made_with, i.shape)) v here
        (order_unless P b R h2 at (Instance P h2.shapes (env_of g) c args) _
        (λ o i. call_order P wt b L g dp dd R h2 at f (frame_since (since_since s s2) ff) c r n args owned regions m rw mb ab ga fu kn rd
        (paths_alone L args (subst (TypeInScope L 0) ty (typed_in P wt L good h)))
        (within_since b (since_since s s2) g _ (within_right b st.entries g F _ (within_right b st.entries g E _ w))) (reverse (onto vs []))
        (subst (λ z. AllZip (λ t v. FitsIn P h2.shapes (env_of g) t v) (map (type_with (owned ++ regions)) m.formals) z)
        (sym (reverse_onto vs [])) fits) _ (λ q. refl) o i
        (λ x u s3 fx. next u x (since_since (since_since s s2) s3) (subst (λ z. FitsIn P u.shapes (env_of g) z x) (sym eq) fx) (number x, refl)))
        v here))))
    strict_order (create_object {at = at} {c = c} {args = args} {k = k} e ga fu kn) R st f ff w next =
        order_answered P b wrong R st IsNew is_name (new_answered P b st) _ (first_new P b (named_by b.path) dp at c (map (put P wt b L g st f ff) args) (reverse []) f)
        (create_order P wt b L g dp R st at f ff c k args (reverse []) e ga fu kn (λ v u s fv. next u v s fv (number v, refl)))
    strict_order (construct_object {at = at} {c = c} {n = n} {args = args} {k = k} {m = m} {es = es} {F = F} e ga fu kn mb ft nd_free) R st f ff w next =
        strict_actuals ft R st f ff (within_left b st.entries g F _ w) [] _
        (λ h1 vs s fits. order_answered P b wrong R h1 IsNew is_name (new_answered P b h1) _ (first_new P b (named_by b.path) dp at c (map (put P wt b L g h1 f (frame_since s ff)) args) (reverse (onto vs [])) f)
        (construct_order P wt b L g dp dd R h1 at f (frame_since s ff) c n k m args (reverse (onto vs [])) e ga fu kn mb
        (subst (λ z. AllZip (λ t v. FitsIn P h1.shapes (env_of g) t v) (map (type_with args) m.formals) z) (sym (reverse_onto vs [])) fits)
        (within_since b s g _ (within_right b st.entries g F _ w)) (λ v u s2 fv. next u v (since_since s s2) fv (number v, refl))))
    strict_order (make_array {at = at} {n = n} {t = t} {a = a} {named = named} gt fu h ty) R st f ff w next =
        order_then P b L g n f R _ st _ (strict_order h (Yields P L g n st f) st f ff w (yields P L g n st f))
        (λ h1 v s fv ix. order_needs P b wrong R h1 _ _ (kind_as P h1.shapes (env_of g) int v ty fv)
        (order_answered P b wrong R h1 IsNew is_name (new_answered P b h1) _ (first_new_array P b (named_by b.path) at t a named (number v) f)
        (order_new_array P wt b L g h1 f (frame_since s ff) R at t a named gt fu (number v) (number_fits P h1.shapes (env_of g) (type_of n) v fv)
        (λ x u s2 fx. next u x (since_since s s2) fx (number x, refl)))))
    strict_order (negative {e = e} h ty) R st f ff w next =
        order_then P b L g e f R _ st _ (strict_order h (Yields P L g e st f) st f ff w (yields P L g e st f))
        (λ h1 v s fv ix. order_needs P b wrong R h1 _ _ (kind_as P h1.shapes (env_of g) int v ty fv) (order_ret P b R h1 _ (next h1 _ s (neg_fits (number v)) (_, refl))))
    strict_order (negation {e = e} h ty) R st f ff w next =
        order_then P b L g e f R _ st _ (strict_order h (Yields P L g e st f) st f ff w (yields P L g e st f))
        (λ h1 v s fv ix. order_needs P b wrong R h1 _ _ (kind_as P h1.shapes (env_of g) boolean v ty fv) (order_ret P b R h1 _ (next h1 _ s tt (_, refl))))
    strict_order (operation {at = at} {t = t} {o = o} {a = a} {b = c} {E = E} {F = F} ha hc ops eq) R st f ff w next =
        order_then P b L g a f R _ st _ (strict_order ha (Yields P L g a st f) st f ff (within_left b st.entries g E F w) (yields P L g a st f))
        (λ h1 v s fv ix. order_then P b L g c f R _ h1 _
        (strict_order hc (Yields P L g c h1 f) h1 f (frame_since s ff) (within_since b s g F (within_right b st.entries g E F w)) (yields P L g c h1 f))
        (λ h2 u s2 fu iu. order_needs P b wrong R h2 _ _
        (operands_fit P h2.shapes (env_of g) (operands_of o) (type_of a) (type_of c) v u ops (fits_grows P h1.shapes h2.shapes s2.grows (env_of g) (type_of a) v fv) fu)
        (order_operation P b R h2 (env_of g) (named_by b.path).same at o v u f (number_fits P h1.shapes (env_of g) (type_of a) v fv)
        (λ x fx. next h2 x (since_since s s2) (subst (λ z. FitsIn P h2.shapes (env_of g) z x) (sym eq) fx) (number x, refl)))))
    strict_order (conjunction {a = a} {b = c} {E = E} {F = F} ha ta hc tc) R st f ff w next =
        order_then P b L g a f R _ st _ (strict_order ha (Yields P L g a st f) st f ff (within_left b st.entries g E F w) (yields P L g a st f))
        (λ h1 v s fv ix. order_needs P b wrong R h1 _ _ (kind_as P h1.shapes (env_of g) boolean v ta fv)
        (order_choose P b R h1 _ _ _ (order_ret P b R h1 (Goes_on (Boolean false) f) (next h1 (Boolean false) s tt (pos 0, refl)))
        (strict_order hc R h1 f (frame_since s ff) (within_since b s g F (within_right b st.entries g E F w))
        (λ u x s2 fx jx. next u x (since_since s s2) (subst (λ z. FitsIn P u.shapes (env_of g) z x) tc fx) (number x, refl)))))
    strict_order (disjunction {a = a} {b = c} {E = E} {F = F} ha ta hc tc) R st f ff w next =
        order_then P b L g a f R _ st _ (strict_order ha (Yields P L g a st f) st f ff (within_left b st.entries g E F w) (yields P L g a st f))
        (λ h1 v s fv ix. order_needs P b wrong R h1 _ _ (kind_as P h1.shapes (env_of g) boolean v ta fv)
        (order_choose P b R h1 _ _ _
        (strict_order hc R h1 f (frame_since s ff) (within_since b s g F (within_right b st.entries g E F w))
        (λ u x s2 fx jx. next u x (since_since s s2) (subst (λ z. FitsIn P u.shapes (env_of g) z x) tc fx) (number x, refl)))
        (order_ret P b R h1 (Goes_on (Boolean true) f) (next h1 (Boolean true) s tt (pos 0, refl)))))
    strict_order (length_of_part {k = k} {t = t} {a = a} e) R st f ff w next =
        order_needs P b wrong R st _ _ (kind_fits P st.shapes (env_of g) int _ (ff.each k (part t a) e).len)
        (order_ret P b R st (Goes_on (slot_value f.values (k + 2)) f) (next st (slot_value f.values (k + 2)) (since_now st) (ff.each k (part t a) e).len (_, refl)))
    strict_order (read_part {at = at} {k = k} {t = t} {a = a} {i = i} {E = E} e h ty) R st f ff w next =
        order_then P b L g i f R _ st _ (strict_order h (Yields P L g i st f) st f ff (within_left b st.entries g E _ w) (yields P L g i st f))
        (λ h1 v s fv ix. order_needs P b wrong R h1 _ _
        (and_from _ _ (kind_as P h1.shapes (env_of g) int v ty fv) (part_kinds P h1.shapes g f.values k t a ((frame_since s ff).each k (part t a) e)))
        (order_answered P b wrong R h1 IsRead is_read (read_answered P b h1) _ (first_of_part P b IsRead at k (number v) f _ (λ n p. tt))
        (part_order P b R h1 at f g k t a (number v) ((frame_since s ff).each k (part t a) e) (within_since b s g (uses k (reads a) ∷ []) (within_right b st.entries g E _ w))
        (λ x u s2 fx. next u x (since_since s s2) fx (number x, refl)))))

    strict_actuals : {es : TypedExprs} {ts : List PlainType} {E : List EffectOwn} → Fit P L es ts E →
        (R : State → Result → Type 0) (st : State) (f : Frame) → FrameFits P b.path st g L f → Within b st.entries g E →
        (us : List Value) (j : List Value → Frame → Prog) →
        ((h : State) (vs : List Value) → Since st h → AllZip (λ t v. FitsIn P h.shapes (env_of g) t v) ts vs → InOrder P b R h (j (onto vs us) f)) →
        InOrder P b R st (strict_exprs wrong (named_by b.path) P dp es f us j)
    strict_actuals fit.none R st f ff w us j next = next st [] (since_now st) tt
    strict_actuals (fit.one_more {e = e} {es = es} {t = t} {ts = ts} {E = E} {F = F} h sub rest) R st f ff w us j next =
        order_then P b L g e f R _ st _ (strict_order h (Yields P L g e st f) st f ff (within_left b st.entries g E F w) (yields P L g e st f))
        (λ h1 v s fv ix. strict_actuals rest R h1 f (frame_since s ff) (within_since b s g F (within_right b st.entries g E F w)) (v ∷ us) j
        (λ h2 vs s2 fits. next h2 (v ∷ vs) (since_since s s2) (
          fits_grows P h1.shapes h2.shapes s2.grows (env_of g) t v
              (subtype_fits P wt h1.shapes (env_of g) (env_alone L.given (env_of g) (frame_env ff)) refl sub (type_alone L (type_of e) (typed_in P wt L good h)) v fv),
          fits,
        )))
