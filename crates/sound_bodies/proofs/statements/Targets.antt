-- What is assigned to, a field or an element, can be written in the judgement where the checker lets it.
use Rattle.std.proofs.Common.{◌≡◌, ◌∙◌, ℕ, Bool, true, false, not, ◌||◌, cond, IsTrue, is_some, List, [], ◌∷◌, ◌++◌, Option, Some, None, Result, Ok, Err, refl, sym, ap, subst}
use Rattle.std.proofs.lemmas.Bool.{or_left, or_right}
use Rattle.std.specs.Option.{option_map_or}
use Rattle.lang_base.specs.declared.effect.Access.TheVariants.{Write}
use Rattle.lang_base.specs.declared.elems.Elem.{Elem}
use Rattle.lang_base.specs.declared.elems.Index.{Index}
use Rattle.lang_base.specs.declared.place.Place.{Place}
use Rattle.lang_base.specs.declared.refusal.Kind.TheVariants as kind
use Rattle.lang_base.specs.declared.refusal.Refusal.{Refusal}
use Rattle.lang_base.specs.declared.region.Rpl.{Rpl}
use Rattle.lang_base.specs.Regions.{is_any, substituted}
use Rattle.lang_base.specs.Types.{PlainType, plain_type, type_with, path_at, type_at, mentions_index, rigid_in_index}
use Rattle.lang_base.specs.Types.{PlainType as ty}
use Rattle.region_types.specs.Access.{element_of}
use Rattle.region_types.specs.Access.{index_elem as array_elem}
use Rattle.decl_headers.specs.Passes.{fault}
use Rattle.body_locals.specs.Touches.{expr_reads}
use Rattle.syntax_tree.specs.Plain as tree
use Rattle.lang_typed.specs.Plain.{PlainProgram, TypedExpr, type_of, TypedStmt, statement}
use Rattle.lang_typed.specs.Plain.{StmtForm as stmt}
use Rattle.lang_typed.specs.Scope.{Scope, part}
use Rattle.lang_typed.specs.Effects.{Own, does, uses, writes}
use Rattle.lang_typed.specs.Types.{Subtype}
use Rattle.lang_typed.specs.Typing.{Has, index_elem}
use Rattle.lang_typed.specs.Statements.{Passes}
use Rattle.body_exprs.specs.declared.env.Env.{Env}
use Rattle.body_exprs.specs.declared.env.LocalRow.{LocalRow}
use Rattle.body_exprs.specs.declared.found.Found.{Found}
use Rattle.body_exprs.specs.Answer.{gives, with_access}
use Rattle.body_exprs.specs.Elements.{index_of, array_element, element_in_part}
use Rattle.body_exprs.specs.Env.{table_of, supers_of, part_of}
use Rattle.body_exprs.specs.Fields.{field_with, field_through}
use Rattle.body_exprs.specs.Fields.{PlainField as SeenField}
use Rattle.body_exprs.specs.Partial.{mentions_partial}
use Rattle.body_exprs.specs.Targeting.{to_element, PlainTarget, with_write, TargetAnswer, aims, misses, aimed, in_field, field_target, in_array, in_element, element_target, in_part_element, part_target, Targeting}
use Rattle.body_exprs.specs.Typed.{type_in, is_int, FitsAs}
use Rattle.body_exprs.proofs.Fitted.{fits_is}
use Rattle.body_check.specs.declared.node.Node.{Node}
use Rattle.body_check.specs.Simple.{node_of, place_of, stored, target_fault}
use Rattle.body_check.specs.Walks.{Walk, passes, found_so}
use Rattle.sound_lemmas.proofs.StatementRules.{AssigningPlace}
use Rattle.sound_lemmas.proofs.Rules.{TargetRules, target_rules}
use Rattle.sound_bodies.specs.Gathered.{Gathers}
use Rattle.sound_bodies.specs.Laws.{Stands, Passing}
use Rattle.sound_bodies.specs.Naming.{IsIndex, IsRegion, TypeNames, LocalsName, Signed}
use Rattle.sound_bodies.specs.Seen.{can_stand, Tells, Sees}
use Rattle.syntax_grammar.specs.Written.{Fitting}
use Rattle.sound_bodies.proofs.statements.Expressions.{Made, Passed, int_is, part_seen, SeenRight, field_seen, steps_passed, expression_agrees}
use Rattle.sound_bodies.proofs.effects.Gathered.{one_gathered, use_gathered, then_gathered}
use Rattle.sound_bodies.proofs.scope.InScope.{stands_with, stands_at, has_names}
use Rattle.sound_bodies.proofs.statements.Singles.{free_found, judged_passes}
use Rattle.sound_bodies.proofs.table.Subtypes.{fits_subtype}

append_same : {A : Type 0} (xs ys zs : List A) → (xs ++ ys) ++ zs ≡ xs ++ (ys ++ zs)
append_same [] ys zs = refl
append_same (x ∷ xs) ys zs = ap (λ z. x ∷ z) (append_same xs ys zs)

fit_written : (fit may_write : Bool) → target_fault fit may_write ≡ None → (fit ≡ true) × (may_write ≡ true)
fit_written true true h = (refl, refl)
fit_written true false h = cc
fit_written false may_write h = cc

not_true : (b : Bool) → not b ≡ true → b ≡ false
not_true true h = cc
not_true false h = refl

module _ (P : PlainProgram) (L : Scope) (w : Walk) (may_read may_assign : ℕ → Bool) (tells : Tells P (table_of w.env) L.member_nd_free) (sees : Sees P L w.env may_read may_assign) (signed : Signed P) (locals : LocalsName L)
  where
    abbrev env : Env
    env = w.env

    -- what an assignment to this does beside the value's effects, and that it passes
    pub record Aim (f g : Found) (aim : PlainTarget) : Type 0 where
      pub effects : List Own
      pub gathers : Gathers f effects g
      pub nd_free : g.reaches_nd ≡ false → f.reaches_nd ≡ false
      pub access : Own
      pub wrote : (h : Found) → Gathers h (access ∷ []) (with_write h aim)
      pub still : (h : Found) → (with_write h aim).reaches_nd ≡ h.reaches_nd
      pub stores : (at : Place) (e : TypedExpr) (F : List Own) → (IsTrue L.nd_free → g.reaches_nd ≡ false) → aim.may_write ≡ true → Has P L e F → FitsAs (supers_of env) (Some (type_of e)) aim.ty →
          Passes P L (statement at (stored aim.spot e)) (effects ++ (F ++ access ∷ []))

    abbrev pub Aiming : Found → TargetAnswer → Type 0
    Aiming f (aims None g) = ⊥
    Aiming f (aims (Some aim) g) = Aim f g aim
    Aiming f (misses refusal) = Unit {0}

    fits : (e : TypedExpr) (u : PlainType) → can_stand u ≡ true → FitsAs (supers_of env) (Some (type_of e)) u → Subtype P (type_of e) u
    fits e u stands h = fits_subtype P (supers_of env) sees.supers (type_of e) u stands h

    -- a field
    field_aim : (f g : Found) (e : TypedExpr) (r : Result SeenField Refusal) → Stands P L f e g → SeenRight P L env may_read may_assign tells sees e r → Aiming f (aimed (in_field e r) g)
    field_aim f g e (Err refusal) s k = tt
    field_aim f g e (Ok seen) s k = subst (λ z. Aiming f (aimed (in_field e (Ok z)) g)) k.seen_as (by (mentions_partial (plain_type k.row.ty) 0 k.owned) refl)
      where
        by : (b : Bool) → mentions_partial (plain_type k.row.ty) 0 k.owned ≡ b → Aiming f (aimed (in_field e (Ok (field_with k.class k.row k.owned))) g)
        by b at = record {
          effects = s.effects;
          gathers = s.gathers;
          nd_free = s.nd_free;
          access = does (writes (substituted k.args k.known.field.region));
          wrote = λ h. subst (λ z. Gathers h (does (writes z) ∷ []) (with_access h (substituted k.owned k.row.rpl) Write)) (sym k.known.region) (one_gathered h (writes (substituted k.owned k.row.rpl)));
          still = λ h. refl;
          stores = λ place v F c may h fit.
              Passes.store_field (s.has c) k.is k.known.is (k.known.known (not_true (mentions_partial (plain_type k.row.ty) 0 k.owned) may)) h
              (subst (Subtype P (type_of v)) (sym k.known.ty) (fits v (type_with k.owned (plain_type k.row.ty)) (stands_with k.owned (plain_type k.row.ty) k.known.stands) fit));
        }

    -- an element of a part
    part_aim : (array : tree.PlainExpr) (f g : Found) (row : LocalRow) (i : TypedExpr) (place : Place) → part_of env array ≡ Some row → Stands P L f i g → Aiming f (aimed (part_target row (Some i) place) g)
    part_aim array f g row i place l s = by (is_int (type_of i)) refl
      where
        p : (t : PlainType) × (a : Rpl) × (L.local row.slot ≡ Some (part t a)) × (plain_type row.ty ≡ ty.array t a false)
        p = part_seen P L env may_read may_assign tells sees array row l

        made : is_int (type_of i) ≡ true → (u : PlainType) → u ≡ ty.array p.0 p.1 false → Aiming f (aimed (in_part_element i (Ok (element_in_part row.slot u))) g)
        made at u same = subst (λ z. Aiming f (aimed (in_part_element i (Ok (element_in_part row.slot z))) g)) (sym same) (record {
          effects = s.effects;
          gathers = s.gathers;
          nd_free = s.nd_free;
          access = uses row.slot (writes p.1);
          wrote = λ h. use_gathered h row.slot p.1 Write;
          still = λ h. refl;
          stores = λ place v F c may h fit. Passes.store_part p.2 (s.has c) (int_is (type_of i) at) h (fits v p.0 (locals row.slot (part p.0 p.1) p.2).1 fit);
        })

        by : (b : Bool) → is_int (type_of i) ≡ b → Aiming f (aimed (in_part_element i (cond b (Ok (element_in_part row.slot (plain_type row.ty))) (Err (fault kind.Type place)))) g)
        by true at = made at (plain_type row.ty) p.3
        by false at = tt

    -- an element of an array
    element_aim : (index : tree.PlainExpr) (f g h : Found) (e i : TypedExpr) (place : Place) → Stands P L f e g → Made P L env may_read may_assign tells sees index g i h →
        Aiming f (aimed (element_target env (Some e) index (Some i) place) h)
    element_aim index f g h e i place m n = by (is_int (type_of i)) refl
      where
        known_index : (o : Option Index) (k : Elem) (mentions : Bool) → k ≡ array_elem o → (is_some o || not mentions) ≡ true → is_any k ≡ true → mentions ≡ false
        known_index None k mentions same may any = not_true mentions may
        known_index (Some x) k mentions same may any = let no : false ≡ true = sym (ap is_any same) ∙ any in cc

        of_array : type_of i ≡ ty.int → (elem : PlainType) (a : Rpl) (named : Bool) → type_of e ≡ ty.array elem a named →
            Aim f h (in_array (to_element e i) (record {
              ty = type_at 0 (array_elem (index_of env index)) elem;
              rpl = path_at 0 (array_elem (index_of env index)) a;
              may_read = is_some (index_of env index) || not (rigid_in_index 0 elem);
              may_write = is_some (index_of env index) || not (mentions_index 0 elem);
            }))
        of_array int_so elem a named is =
            let same = n.index int_so in
            record {
              effects = m.effects ++ n.stands.effects;
              gathers = then_gathered f g h m.effects n.stands.effects m.gathers n.stands.gathers;
              nd_free = λ z. m.nd_free (n.stands.nd_free z);
              access = does (writes (path_at 0 (index_elem L i) a));
              wrote = λ x. subst (λ k. Gathers x (does (writes (path_at 0 k a)) ∷ []) (with_access x (path_at 0 (array_elem (index_of env index)) a) Write)) (sym same) (one_gathered x (writes (path_at 0 (array_elem (index_of env index)) a)));
              still = λ x. refl;
              stores = λ place v F c may k fit.
                  let has = m.has (λ z. n.stands.nd_free (c z)) in
                  let stands = (subst (TypeNames (IsIndex L) (IsRegion L)) is (has_names P signed L locals has).0).1 in
                  subst (Passes P L (statement place (stmt.store_element e i v))) (sym (append_same m.effects n.stands.effects (F ++ does (writes (path_at 0 (index_elem L i) a)) ∷ [])))
                  (Passes.store_element has is (n.stands.has c) int_so (λ any. known_index (index_of env index) (index_elem L i) (mentions_index 0 elem) same may any) k
                  (subst (λ z. Subtype P (type_of v) (type_at 0 z elem)) (sym same) (fits v (type_at 0 (array_elem (index_of env index)) elem) (stands_at 0 (array_elem (index_of env index)) elem stands) fit)));
            }

        of_type : type_of i ≡ ty.int → (t : PlainType) → type_of e ≡ t → Aiming f (aimed (in_element (to_element e i) (option_map_or (λ element. Ok (Some element)) (element_of t (index_of env index)) (Err (fault kind.Type place)))) h)
        of_type int_so (ty.array elem a named) is = of_array int_so elem a named is
        of_type int_so ty.int is = tt
        of_type int_so ty.boolean is = tt
        of_type int_so ty.void is = tt
        of_type int_so ty.null is = tt
        of_type int_so (ty.class c args) is = tt

        by : (b : Bool) → is_int (type_of i) ≡ b → Aiming f (aimed (in_element (to_element e i) (cond b (array_element (Some (type_of e)) (index_of env index) place) (Err (fault kind.Type place)))) h)
        by true at = of_type (int_is (type_of i) at) (type_of e) refl
        by false at = tt

    abbrev Reads : tree.PlainExpr → Type 0
    Reads e = (x : ℕ) → IsTrue (expr_reads x e) → IsTrue (may_read x)

    field_answer : (of : tree.PlainExpr) (f g : Found) (name : ℕ) (place : Place) (t : Option TypedExpr) → Passed P L env may_read may_assign tells sees of f (gives t g) → Aiming f (aimed (field_target env t name place) g)
    field_answer of f g name place None m = absurd m
    field_answer of f g name place (Some e) m = field_aim f g e (field_through (table_of env) (type_of e) name place) m.stands (field_seen P L env may_read may_assign tells sees e name place)

    part_answer : (array index : tree.PlainExpr) (f g : Found) (row : LocalRow) (place : Place) (t : Option TypedExpr) → part_of env array ≡ Some row → Passed P L env may_read may_assign tells sees index f (gives t g) →
        Aiming f (aimed (part_target row t place) g)
    part_answer array index f g row place None l m = absurd m
    part_answer array index f g row place (Some i) l m = part_aim array f g row i place l m.stands

    element_answer : (array index : tree.PlainExpr) (f g h : Found) (place : Place) (t u : Option TypedExpr) → Passed P L env may_read may_assign tells sees array f (gives t g) →
        Passed P L env may_read may_assign tells sees index g (gives u h) → Aiming f (aimed (element_target env t index u place) h)
    element_answer array index f g h place None u m n = absurd m
    element_answer array index f g h place (Some e) None m n = absurd n
    element_answer array index f g h place (Some e) (Some i) m n = element_aim index f g h e i place m.stands n

    -- a target that is found
    steps_aim : {e : tree.PlainExpr} {f : Found} {a : TargetAnswer} → Fitting e → Reads e → TargetRules env e f a → Aiming f a
    steps_aim fits all TargetRules.is_missed = tt
    steps_aim fits all (TargetRules.field_assigned {place = place} {of = of} {name = name} {f = f} {g = g} {t = t} l d r) =
        subst (Aiming f) r (field_answer of f g name place t (steps_passed P L env may_read may_assign tells sees fits all d))
    steps_aim fits all (TargetRules.part_element_assigned {place = place} {array = array} {index = index} {f = f} {g = g} {row = row} {t = t} l d r) =
        subst (Aiming f) r
        (part_answer array index f g row place t l (steps_passed P L env may_read may_assign tells sees fits.1 (λ x h. all x (or_right (expr_reads x array) (expr_reads x index) h)) d))
    steps_aim fits all (TargetRules.element_assigned {place = place} {array = array} {index = index} {f = f} {g = g} {h = h} {t = t} {u = u} l d i r) =
        subst (Aiming f) r
        (element_answer array index f g h place t u (steps_passed P L env may_read may_assign tells sees fits.0 (λ x h. all x (or_left (expr_reads x array) (expr_reads x index) h)) d)
        (steps_passed P L env may_read may_assign tells sees fits.1 (λ x h. all x (or_right (expr_reads x array) (expr_reads x index) h)) i))

    pub aiming : (e : tree.PlainExpr) (f : Found) {a : TargetAnswer} → Fitting e → Reads e → Targeting env e f a → Aiming f a
    aiming e f fits all d = steps_aim fits all (target_rules env e f d)

    -- an assignment to a field or an element
    pub placing : (node : Node) (target value : tree.PlainExpr) (u : Walk) (s : TypedStmt) → Fitting target → Fitting value → Reads target → Reads value → AssigningPlace node target value w (passes s u) → Passing P L w.found s u.found
    placing node target value u s fit_target fit_value reads_target reads_value (AssigningPlace.anything_assigned d i j) = absurd (aiming target w.found fit_target reads_target d)
    placing node target value u s fit_target fit_value reads_target reads_value (AssigningPlace.place_assigned {aim = aim} {g = g} {h = h} {t = t} {fit = fit} d i fits_so j) =
        let r = judged_passes _ (statement (place_of target) (stored aim.spot (node_of value t))) s (found_so w (with_write h aim)) u j in
        let q = fit_written fit aim.may_write (free_found node (target_fault fit aim.may_write) r.0).1 in
        let a = aiming target w.found fit_target reads_target d in
        let x = expression_agrees P L env may_read may_assign tells sees value g h t fit_value reads_value i in
        subst (λ (z : Walk). Passing P L w.found s z.found) r.2
        (subst (λ z. Passing P L w.found z (with_write h aim)) (ap (λ z. statement (place_of target) (stored aim.spot (node_of value z))) (sym x.1) ∙ r.1)
        (record {
          effects = a.effects ++ (x.2.effects ++ a.access ∷ []);
          does_so = λ c.
              let nd_free : IsTrue L.nd_free → h.reaches_nd ≡ false = λ z. sym (a.still h) ∙ c z in
              a.stores (place_of target) x.0 x.2.effects (λ z. x.2.nd_free (nd_free z)) q.1 (x.2.has nd_free) (subst (λ z. FitsAs (supers_of env) (type_in z) aim.ty) x.1 ((fits_is (supers_of env) (type_in t) aim.ty).0 (fits_so ∙ q.0)));
          gathers = then_gathered w.found g (with_write h aim) a.effects (x.2.effects ++ a.access ∷ []) a.gathers (then_gathered g h (with_write h aim) x.2.effects (a.access ∷ []) x.2.gathers (a.wrote h));
          nd_free = λ z. a.nd_free (x.2.nd_free (sym (a.still h) ∙ z));
        }))
