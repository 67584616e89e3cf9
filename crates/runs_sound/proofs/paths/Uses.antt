-- An effect that is through a part of an array has the part's path.
use Rattle.std.proofs.Common.{slice_index_or, not, true, map, ap, ◌≡◌, ℕ, Bool, false, ◌==◌, List, [], ◌∷◌, ◌++◌, refl, sym, ◌∙◌, subst, arith, Some, None, ⊎_elim, inl, inr, cond, zero, suc, ◌+◌, ◌<◌}
use Rattle.std.specs.Prelude.{All, option_map}
use Rattle.std.proofs.lemmas.List.Elements.{All-head, All-tail, All-cons, All-map, All-append}
use Rattle.std.proofs.lemmas.Bool.{cases_Bool, cond-true, cond-false, eqb-true, eq-eqb, false≢true, false_from_ne_true}
use Rattle.lang_base.specs.declared.effect.Effect.{Effect}
use Rattle.lang_base.specs.declared.elems.Elem.{Elem}
use Rattle.lang_base.specs.declared.elems.Elem.TheVariants.{Name, At, Any, Star, Local}
use Rattle.lang_base.specs.declared.elems.Index.TheVariants.{Literal, Variable, Renamed, Own}
use Rattle.lang_base.specs.declared.region.Rpl.{Rpl}
use Rattle.lang_base.specs.Regions.{generalised, general_elem}
use Rattle.lang_base.specs.Types.{PlainType, array, int}
use Rattle.lang_typed.specs.declared.stmt.Forking.{Forking}
use Rattle.lang_typed.specs.declared.stmt.Forking.TheVariants.{Deterministic, Nondeterministic}
use Rattle.lang_typed.specs.Effects.{Own as EffectOwn, does, uses, effect_of, mapped, outside_variable, outside_regions, begins_in, effect_with, marked, after_branches, after_parts, own_after, handed_on}
use Rattle.lang_typed.specs.Plain.{PlainProgram, TypedExpr, TypedExprs, TypedStmt, TypedStmts, TypedBranches, Source, of_array, of_part}
use Rattle.lang_typed.specs.Scope.{Scope, constant, part, reserved, with_local, read_alone, in_loop_branch, in_branch}
use Rattle.lang_typed.specs.Scope.{Local as ScopeLocal}
use Rattle.lang_typed.specs.Statements.{IsVariable, joined, all_copies, BranchesPass, no_branch, one_branch, declared_as, IsFree, with_part, Cuts, cuts_array, cuts_part, Passes, AllPass, store, store_field, store_element, store_part, perform, nested, choice, choice_else, while_loop, return_nothing, return_value, print_int, print_boolean, print_text, atomic, cobegin, foreach, foreach_parts, no_more, then', declare, declare_regions}
use Rattle.lang_typed.specs.Typing.{Has, literal_int, literal_boolean, literal_null, read_local, read_field, read_element, length_of_array, call_method, create_object, construct_object, make_array, negative, negation, operation, conjunction, disjunction, length_of_part, read_part, Fit}
use Rattle.lang_typed.specs.Typing.{Fit as fit}
use Rattle.runs_sound.specs.Scopes.{InScope, PathInScope, TypeInScope, GoodScope}
use Rattle.lang_typed.specs.WellTyped.{WellTyped}
use Rattle.runs_sound.proofs.work.Blocks.{good_block}
use Rattle.runs_sound.proofs.work.Cobegins.{seen_as_part, good_branch, copies_variables}
use Rattle.runs_sound.proofs.work.Forks.{HasNoMark, seen_local, seen_part, good_loop, free_in_loop, loop_wider}
use Rattle.runs_sound.proofs.scopes.InScope.{good_type, typed_in}
use Rattle.runs_sound.proofs.scopes.Locals.{inner_is, inner_local, other_than, no_part, good_declare}
use Rattle.runs_sound.proofs.work.Parts.{PartLocal, part_local, part_is_local, good_part}
use Rattle.runs_sound.proofs.work.Regions.{good_regions}
use Rattle.runs_sound.proofs.scopes.Wider.{wider_type}

-- the slot is a part of an array in this region, and the effect has no mark
abbrev pub UsesPart : Scope → EffectOwn → Type 0
UsesPart L (does e) = Unit {0}
UsesPart L (uses k e) = (t : PlainType) × (L.local k ≡ Some (part t e.rpl)) × (e.atomic ≡ false)

pub without_marks : (L : Scope) (E : List EffectOwn) → All (UsesPart L) E → All HasNoMark E
without_marks L E h = λ k d l. one (slice_index_or E k d) (h k d l)
  where
    one : (o : EffectOwn) → UsesPart L o → HasNoMark o
    one (does e) u = tt
    one (uses j e) u = u.2

-- a path without the variable is general
general_one : (L : Scope) (x D : ℕ) → L.local x ≡ None → (y : Elem) → InScope L D y → general_elem x y ≡ y
general_one L x D n (Name m) s = refl
general_one L x D n (At (Literal k)) s = refl
general_one L x D n (At (Variable w)) s = cond-false (x == w) Any (At (Variable w))
    (false_from_ne_true (x == w) (λ t. other_than L x w (constant int) s n (sym (eqb-true x w t))))
general_one L x D n (At (Renamed w)) s = absurd s
general_one L x D n (At (Own d)) s = refl
general_one L x D n Any s = refl
general_one L x D n Star s = refl
general_one L x D n (Local r m) s = refl

general_all : (L : Scope) (x D : ℕ) → L.local x ≡ None → (a : List Elem) → All (InScope L D) a → map (general_elem x) a ≡ a
general_all L x D n [] s = refl
general_all L x D n (y ∷ a) s =
    let e = general_one L x D n y (All-head (InScope L D) y a s) in
    let r = general_all L x D n a (All-tail (InScope L D) y a s) in
    λ i. e i ∷ r i

general_same : (L : Scope) (x D : ℕ) → L.local x ≡ None → (a : Rpl) → PathInScope L D a → generalised x a ≡ a
unfolding generalised
general_same L x D n a s = let e = general_all L x D n a.elems s in λ i. record { head = a.head; elems = e i }

none_used : (L : Scope) → All (UsesPart L) []
none_used L = λ k d l. absurd (omega (arith, l))

one_does : (L : Scope) (e : Effect) → All (UsesPart L) (does e ∷ [])
one_does L e = All-cons (UsesPart L) (does e) [] tt (none_used L)

one_uses : (L : Scope) (k : ℕ) (t : PlainType) (e : Effect) → L.local k ≡ Some (part t e.rpl) → e.atomic ≡ false → All (UsesPart L) (uses k e ∷ [])
one_uses L k t e h n = All-cons (UsesPart L) (uses k e) [] (t, h, n) (none_used L)

both_used : (L : Scope) (E F : List EffectOwn) → All (UsesPart L) E → All (UsesPart L) F → All (UsesPart L) (E ++ F)
both_used L E F h k = All-append (UsesPart L) E F h k

module _ (P : PlainProgram) (L : Scope) where
  mutual
    expr_uses : {e : TypedExpr} {E : List EffectOwn} → Has P L e E → All (UsesPart L) E
    expr_uses (literal_int fits) = none_used L
    expr_uses literal_boolean = none_used L
    expr_uses literal_null = none_used L
    expr_uses (read_local h) = none_used L
    expr_uses (read_field {E = E} h ty fe rd eq) = both_used L E _ (expr_uses h) (one_does L _)
    expr_uses (read_element {E = E} {F = F} ha ty hi ti rg eq) = both_used L E _ (expr_uses ha) (both_used L F _ (expr_uses hi) (one_does L _))
    expr_uses (length_of_array h ty) = expr_uses h
    expr_uses (call_method {owned = owned} {regions = regions} {m = m} {E = E} {F = F} h ty rw mb ab ga fu kn rd ft nd_free eq) =
        both_used L E _ (expr_uses h) (both_used L F _ (exprs_use ft) (All-map (UsesPart L) (λ e. does (effect_with (owned ++ regions) e)) m.summary (λ k d l. tt)))
    expr_uses (create_object e ga fu kn) = none_used L
    expr_uses (construct_object {args = args} {m = m} {F = F} e ga fu kn mb ft nd_free) =
        both_used L F _ (exprs_use ft) (All-map (UsesPart L) (λ e. does (effect_with args e)) m.summary (λ k d l. tt))
    expr_uses (make_array gt fu h ty) = expr_uses h
    expr_uses (negative h ty) = expr_uses h
    expr_uses (negation h ty) = expr_uses h
    expr_uses (operation {E = E} {F = F} ha hb ops eq) = both_used L E F (expr_uses ha) (expr_uses hb)
    expr_uses (conjunction {E = E} {F = F} ha ta hb tb) = both_used L E F (expr_uses ha) (expr_uses hb)
    expr_uses (disjunction {E = E} {F = F} ha ta hb tb) = both_used L E F (expr_uses ha) (expr_uses hb)
    expr_uses (length_of_part e) = none_used L
    expr_uses (read_part {k = k} {t = t} {E = E} e h ty) = both_used L E _ (expr_uses h) (one_uses L k t _ e refl)

    exprs_use : {es : TypedExprs} {ts : List PlainType} {E : List EffectOwn} → Fit P L es ts E → All (UsesPart L) E
    exprs_use fit.none = none_used L
    exprs_use (fit.one_more {E = E} {F = F} h sub rest) = both_used L E F (expr_uses h) (exprs_use rest)

-- after the scope of a local that is no part
local_uses : (L : Scope) → GoodScope L → (x : ℕ) (l : ScopeLocal) → L.local x ≡ None → ((t : PlainType) (a : Rpl) → l ≡ part t a → ⊥) → (o : EffectOwn) → UsesPart (with_local x l L) o →
    UsesPart L (mapped (λ e. record e { rpl = generalised x e.rpl }) o)
local_uses L good x l n np (does e) h = tt
local_uses L good x l n np (uses j e) h =
    let k : L.local j ≡ Some (part h.0 e.rpl) = ⊎_elim (λ t. absurd (np h.0 e.rpl (inner_is L x j l (part h.0 e.rpl) t h.1))) (λ f. inner_local L x j l (part h.0 e.rpl) f h.1) (cases_Bool (j == x)) in
    (h.0, k ∙ ap (λ z. Some (part h.0 z)) (sym (general_same L x 1 n e.rpl (good.each j (part h.0 e.rpl) k).0)), h.2)

general_use : (L : Scope) → GoodScope L → (x : ℕ) → L.local x ≡ None → (o : EffectOwn) → UsesPart L o → UsesPart L (mapped (λ e. record e { rpl = generalised x e.rpl }) o)
general_use L good x n (does e) h = tt
general_use L good x n (uses j e) h = (h.0, h.1 ∙ ap (λ z. Some (part h.0 z)) (sym (general_same L x 1 n e.rpl (good.each j (part h.0 e.rpl) h.1).0)), h.2)

general_uses : (L : Scope) → GoodScope L → (x : ℕ) → L.local x ≡ None → (E : List EffectOwn) → All (UsesPart L) E → All (UsesPart L) (outside_variable x E)
general_uses L good x n E h = All-map (UsesPart L) (mapped (λ e. record e { rpl = generalised x e.rpl })) E (λ k d l. general_use L good x n (slice_index_or E k d) (h k d l))

outside_uses : (L : Scope) → GoodScope L → (x : ℕ) (l : ScopeLocal) → L.local x ≡ None → ((t : PlainType) (a : Rpl) → l ≡ part t a → ⊥) → (E : List EffectOwn) →
    All (UsesPart (with_local x l L)) E → All (UsesPart L) (outside_variable x E)
outside_uses L good x l n np E h = All-map (UsesPart L) (mapped (λ e. record e { rpl = generalised x e.rpl })) E (λ k d l'. local_uses L good x l n np (slice_index_or E k d) (h k d l'))

one_marked : (L : Scope) (c : Bool) (o : EffectOwn) → UsesPart L o → UsesPart L (marked c o)
one_marked L c (does e) h = tt
one_marked L c (uses k e) h = h

marked_uses : (L : Scope) (c : Bool) (E : List EffectOwn) → All (UsesPart L) E → All (UsesPart L) (map (marked c) E)
marked_uses L c E h = All-map (UsesPart L) (marked c) E (λ k d l. one_marked L c (slice_index_or E k d) (h k d l))

branches_use : (L : Scope) (forking : Forking) (E : List EffectOwn) → All (UsesPart L) E → All (UsesPart L) (after_branches forking E)
branches_use L Deterministic E h = marked_uses L false E h
branches_use L Nondeterministic E h = h

regions_use : (L : Scope) (rs : List ℕ) (E : List EffectOwn) → All (UsesPart L) E → All (UsesPart L) (outside_regions rs E)
regions_use L rs [] h = none_used L
regions_use L rs (o ∷ E) h = kept (regions_use L rs E (All-tail (UsesPart L) o E h)) (not (begins_in rs (effect_of o).rpl.elems))
  where
    kept : All (UsesPart L) (outside_regions rs E) → (c : Bool) → All (UsesPart L) (cond c (o ∷ outside_regions rs E) (outside_regions rs E))
    kept rest true = All-cons (UsesPart L) o (outside_regions rs E) (All-head (UsesPart L) o E h) rest
    kept rest false = rest

-- what is seen as a part from a branch is one outside
seen_uses : (L M : Scope) → ((j : ℕ) (t : PlainType) (a : Rpl) → M.local j ≡ Some (part t a) → L.local j ≡ Some (part t a)) → (E : List EffectOwn) → All (UsesPart M) E → All (UsesPart L) E
seen_uses L M i E h = λ k d l. one (slice_index_or E k d) (h k d l)
  where
    one : (o : EffectOwn) → UsesPart M o → UsesPart L o
    one (does e) u = tt
    one (uses j e) u = (u.0, i j u.0 e.rpl u.1, u.2)

loop_part : (L : Scope) (j : ℕ) (t : PlainType) (a : Rpl) → (in_loop_branch L).local j ≡ Some (part t a) → L.local j ≡ Some (part t a)
loop_part L j t a e = let z = seen_local (L.local j) (part t a) e in z.1 ∙ ap (λ y. Some y) (seen_part z.0 t a z.2)

-- what is cut is an array in scope that mentions no index of its own
pub cuts_in : (P : PlainProgram) (wt : WellTyped P) (L : Scope) → GoodScope L → {source : Source} {t : PlainType} {a : Rpl} {E : List EffectOwn} → Cuts P L source t a E →
    TypeInScope L 0 (array t a false)
cuts_in P wt L good (cuts_array h ty full) = subst (TypeInScope L 0) ty (typed_in P wt L good h)
cuts_in P wt L good (cuts_part {k = k} {t = t} {a = a} e) = good.each k (part t a) e

pub free_slots : (L : Scope) (k : ℕ) → All (λ i. IsFree L (k + i)) (0 ∷ 1 ∷ 2 ∷ 3 ∷ 4 ∷ []) → (i : ℕ) → i < 5 → IsFree L (k + i)
free_slots L k h zero l = h 0 0 (omega arith)
free_slots L k h (suc zero) l = h 1 0 (omega arith)
free_slots L k h (suc (suc zero)) l = h 2 0 (omega arith)
free_slots L k h (suc (suc (suc zero))) l = h 3 0 (omega arith)
free_slots L k h (suc (suc (suc (suc zero)))) l = h 4 0 (omega arith)
free_slots L k h (suc (suc (suc (suc (suc i))))) l = absurd (omega (arith, l))

-- the slots of a part are free in a branch too
pub free_in_branch : (L : Scope) (k : ℕ) → ((i : ℕ) → i < 5 → IsFree L (k + i)) → (i : ℕ) → i < 5 → IsFree (in_loop_branch L) (k + i)
free_in_branch L k h i l = free_in_loop L (k + i) (h i l)

pub own_part : (L : Scope) (k : ℕ) (t : PlainType) (a : Rpl) (u : PlainType) (c : Rpl) → (with_part k t a L).local k ≡ Some (part u c) → c ≡ a
own_part L k t a u c e = let z : part t a ≡ part u c = (let q : Some (part t a) ≡ Some (part u c) = sym (part_is_local L k t a) ∙ e in cc) in cc

-- after a construct over parts
module _ (L : Scope) (k : ℕ) (source : Source) (t : PlainType) (a : Rpl) (E : List EffectOwn) where
  -- a part that is seen inside is that of the construct or one outside
  inner_part : (j : ℕ) (u : PlainType) (c : Rpl) → (with_part k t a L).local j ≡ Some (part u c) → (j == k) ≡ false → L.local j ≡ Some (part u c)
  inner_part j u c e n = go (part_local L k t a j (part u c) e)
    where
      go : PartLocal L k t a j (part u c) → L.local j ≡ Some (part u c)
      go (inl h) = absurd (let z : constant int ≡ part u c = h.1 in cc)
      go (inr (inl h)) = absurd (let z : reserved ≡ part u c = h.3 in cc)
      go (inr (inr (inl h))) = absurd (false≢true (sym n ∙ eq-eqb j k h.0))
      go (inr (inr (inr h))) = h

  after_use : ((j : ℕ) → source ≡ of_part j → L.local j ≡ Some (part t a)) → (o : EffectOwn) → UsesPart (with_part k t a L) o → UsesPart L (own_after k source o)
  after_use is (does e) h = tt
  after_use is (uses j e) h = ⊎_elim
      (λ q. subst (UsesPart L) (sym (cond-true (j == k) (handed_on source e) (uses j e) q)) (handed source is (own_part L k t a h.0 e.rpl (subst (λ z. (with_part k t a L).local z ≡ Some (part h.0 e.rpl)) (eqb-true j k q) h.1))))
      (λ q. subst (UsesPart L) (sym (cond-false (j == k) (handed_on source e) (uses j e) q)) (h.0, inner_part j h.0 e.rpl h.1 q, h.2))
      (cases_Bool (j == k))
    where
      handed : (s : Source) → ((i : ℕ) → s ≡ of_part i → L.local i ≡ Some (part t a)) → e.rpl ≡ a → UsesPart L (handed_on s e)
      handed (of_array x) is c = tt
      handed (of_part i) is c = (t, is i refl ∙ ap (λ z. Some (part t z)) (sym c), h.2)

cut_part : {P : PlainProgram} {L : Scope} {source : Source} {t : PlainType} {a : Rpl} {E : List EffectOwn} → Cuts P L source t a E → (j : ℕ) → source ≡ of_part j →
    L.local j ≡ Some (part t a)
cut_part (cuts_array {e = e} h ty full) j q = absurd (let z : of_array e ≡ of_part j = q in cc)
cut_part {L = L} (cuts_part {k = k} {t = t} {a = a} e) j q = let z : k ≡ j = (let y : of_part k ≡ of_part j = q in cc) in subst (λ y. L.local y ≡ Some (part t a)) z e

-- in a loop's branch a part is seen as one
in_loop : (L : Scope) (j : ℕ) (t : PlainType) (a : Rpl) → L.local j ≡ Some (part t a) → (in_loop_branch L).local j ≡ Some (part t a)
in_loop L j t a e = ap (option_map read_alone) e

module _ (P : PlainProgram) (wt : WellTyped P) where
  cut_uses : {L : Scope} {source : Source} {t : PlainType} {a : Rpl} {E : List EffectOwn} → Cuts P L source t a E → All (UsesPart L) E
  cut_uses {L} (cuts_array h ty full) = expr_uses P L h
  cut_uses {L} (cuts_part e) = none_used L

  mutual
    stmt_uses : {L : Scope} {s : TypedStmt} {E : List EffectOwn} → Passes P L s E → GoodScope L → All (UsesPart L) E
    stmt_uses {L} (store lx h sub) good = expr_uses P L h
    stmt_uses {L} (store_field {E = E} {F = F} ho ty fe kn he sub) good = both_used L E _ (expr_uses P L ho) (both_used L F _ (expr_uses P L he) (one_does L _))
    stmt_uses {L} (store_element {E = E} {F = F} {G = G} ha ty hi ti rg he sub) good =
        both_used L E _ (expr_uses P L ha) (both_used L F _ (expr_uses P L hi) (both_used L G _ (expr_uses P L he) (one_does L _)))
    stmt_uses {L} (store_part {k = k} {t = t} {E = E} {F = F} e hi ti he sub) good =
        both_used L E _ (expr_uses P L hi) (both_used L F _ (expr_uses P L he) (one_uses L k t _ e refl))
    stmt_uses {L} (perform ip h) good = expr_uses P L h
    stmt_uses (nested p) good = stmts_use p good
    stmt_uses {L} (choice {E = E} {F = F} h ty p) good = both_used L E F (expr_uses P L h) (stmts_use p good)
    stmt_uses {L} (choice_else {E = E} {F = F} {G = G} h ty p r) good = both_used L E _ (expr_uses P L h) (both_used L F G (stmts_use p good) (stmts_use r good))
    stmt_uses {L} (while_loop {E = E} {F = F} h ty p) good = both_used L E F (expr_uses P L h) (stmts_use p good)
    stmt_uses {L} (return_nothing e) good = none_used L
    stmt_uses {L} (return_value e h sub) good = expr_uses P L h
    stmt_uses {L} (print_int h ty) good = expr_uses P L h
    stmt_uses {L} (print_boolean h ty) good = expr_uses P L h
    stmt_uses {L} print_text good = none_used L
    stmt_uses {L} (atomic {E = E} p se) good = marked_uses L true E (stmts_use p (good_block L good))
    stmt_uses {L} (cobegin {forking = forking} {Es = Es} nd_free p nc) good = branches_use L forking (joined Es) (all_use p (λ j d l. absurd (omega (arith, l))) good)
    stmt_uses {L} (foreach {forking = forking} {x = x} {E = E} {F = F} {G = G} nd_free hs ts hc tc free p ic) good =
        both_used L E _ (expr_uses P L hs) (both_used L F _ (expr_uses P L hc)
        (seen_uses L (in_loop_branch L) (loop_part L) _ (outside_uses (in_loop_branch L) (good_loop L good) x (constant int) (free_in_loop L x free).0
        (λ t a e. (let z : constant int ≡ part t a = e in cc)) (after_branches forking G)
        (branches_use (with_local x (constant int) (in_loop_branch L)) forking G
        (stmts_use p (good_declare (in_loop_branch L) (good_loop L good) x true int (free_in_loop L x free) tt))))))
    stmt_uses {L} (foreach_parts {k = k} {source = source} {t = t} {a = a} {E = E} {F = F} {G = G} cu hc tc free p ic lc) good =
        let inner = stmts_use p (good_part (in_loop_branch L) k t a (free_in_branch L k (free_slots L k free)) (good_loop L good)
        (wider_type L (in_loop_branch L) (loop_wider L) 0 (array t a false) (cuts_in P wt L good cu))) in
        let after = All-map (UsesPart (in_loop_branch L)) (own_after k source) G
        (λ j d l. after_use (in_loop_branch L) k source t a G (λ i q. in_loop L i t a (cut_part cu i q)) (slice_index_or G j d) (inner j d l)) in
        both_used L E _ (cut_uses cu) (both_used L F _ (expr_uses P L hc)
        (seen_uses L (in_loop_branch L) (loop_part L) _
        (general_uses (in_loop_branch L) (good_loop L good) (k + 4) (free_in_branch L k (free_slots L k free) 4 (omega arith)).0
        (after_branches Deterministic (after_parts k source G)) (marked_uses (in_loop_branch L) false (after_parts k source G) after))))

    pub stmts_use : {L : Scope} {ss : TypedStmts} {E : List EffectOwn} → AllPass P L ss E → GoodScope L → All (UsesPart L) E
    stmts_use {L} no_more good = none_used L
    stmts_use {L} (then' {E = E} {F = F} p c rest) good = both_used L E F (stmt_uses p good) (stmts_use rest good)
    stmts_use {L} (declare {x = x} {t = t} {is_final = is_final} {E = E} {F = F} free gt h sub rest) good =
        both_used L E (outside_variable x F) (expr_uses P L h) (outside_uses L good x (declared_as is_final t) free.0 (no_part is_final t) F
        (stmts_use rest (good_declare L good x is_final t free (good_type P L 0 t gt))))
    stmts_use {L} (declare_regions {rs = rs} {F = F} fr rest) good = regions_use L rs F (stmts_use rest (good_regions L good rs))

    pub all_use : {L : Scope} {others : List ℕ} {bs : TypedBranches} {Es : List (List EffectOwn)} → BranchesPass P L others bs Es → All (IsVariable L) others → GoodScope L →
        All (UsesPart L) (joined Es)
    all_use {L} no_branch v good = none_used L
    all_use {L} {others} (one_branch {copies = copies} {bs = bs} {E = E} {Es = Es} cv ca p rest) v good =
        both_used L E (joined Es)
        (seen_uses L (in_branch copies (others ++ all_copies bs) L) (λ j t a e. seen_as_part L copies (others ++ all_copies bs) j t a e) E
        (stmts_use p (good_branch L copies (others ++ all_copies bs) (All-append (IsVariable L) others (all_copies bs) v (copies_variables rest)) good)))
        (all_use rest (All-append (IsVariable L) others copies v cv) good)
