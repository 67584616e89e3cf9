-- Statements that pass in the judgement do nothing but to what is in scope.
use Rattle.std.proofs.Common.{◌≡◌, ◌∙◌, ◌⊎◌, ℕ, ◌+◌, ◌==◌, Bool, true, false, not, ◌||◌, cond, List, [], ◌∷◌, ◌++◌, All, map, inl, inr, Option, Some, None, option_map, refl, sym, ap, subst, arith}
use Rattle.std.specs.List.{list_any}
use Rattle.std.proofs.lemmas.Bool.{eqb-true, eq-eqb, false≢true}
use Rattle.std.proofs.lemmas.List.Elements.{All-head, All-tail, All-nil, All-append}
use Rattle.lang_base.specs.declared.effect.Effect.{Effect}
use Rattle.lang_base.specs.declared.elems.Elem.{Elem}
use Rattle.lang_base.specs.declared.elems.Elem.TheVariants.{Name, At, Any, Star, Local}
use Rattle.lang_base.specs.declared.elems.Index.TheVariants.{Literal, Variable, Renamed, Own}
use Rattle.lang_base.specs.declared.region.Rpl.{Rpl}
use Rattle.lang_base.specs.Regions.{general_elem, generalised}
use Rattle.lang_base.specs.Types.{PlainType, int, array}
use Rattle.lang_typed.specs.declared.stmt.Forking.{Forking}
use Rattle.lang_typed.specs.declared.stmt.Forking.TheVariants.{Deterministic, Nondeterministic}
use Rattle.lang_typed.specs.Effects.{does, uses, effect_of, mapped, marked, after_branches, outside_variable, begins_in, outside_regions, handed_on, own_after, after_parts}
use Rattle.lang_typed.specs.Effects.{Own as Done}
use Rattle.lang_typed.specs.Plain.{PlainProgram, TypedStmt, TypedStmts, TypedBranches, Source, of_array, of_part}
use Rattle.lang_typed.specs.Scope.{Scope, variable, frozen, constant, part, reserved, with_local, with_regions, in_atomic_block, read_alone, in_loop_branch, seen_in_branch, in_branch}
use Rattle.lang_typed.specs.Scope.{Local as Slot}
use Rattle.lang_typed.specs.Statements.{declared_as, with_part, IsFree, IsVariable, joined, all_copies, Cuts, Passes, AllPass, BranchesPass}
use Rattle.lang_typed.specs.Typing.{index_elem}
use Rattle.sound_bodies.specs.Naming.{ElemNames, Anything, ElemsName, PathNames, TypeNames, IsIndex, IsRegion, SlotNames, LocalsName, DoneIn, AllDoneIn, Signed}
use Rattle.sound_bodies.proofs.scope.InScope.{Over, AllOver, elems_more, type_more, slot_more, at_path, substituted_names, good_type, done_append, index_names, has_names}

some_same : {A : Type 0} {x y : A} → Some x ≡ Some y → x ≡ y
some_same e = cc

-- how a scope is left: of the index variables one alone goes, and everything else was there

pub record Leaves (L M : Scope) (x : ℕ) : Type 0 where
  pub index : (v : ℕ) → IsIndex M v → (v ≡ x) ⊎ IsIndex L v
  pub region : (r : ℕ) → IsRegion M r → IsRegion L r
  pub parts : (k : ℕ) (t : PlainType) (a : Rpl) → M.local k ≡ Some (part t a) → L.local k ≡ Some (part t a)

module _ (L M : Scope) (x : ℕ) (index : (v : ℕ) → IsIndex M v → (v ≡ x) ⊎ IsIndex L v)
  where
    general_names : (R S : ℕ → Type 0) → ((r : ℕ) → R r → S r) → (e : Elem) → ElemNames (IsIndex M) R e → ElemNames (IsIndex L) S (general_elem x e)
    general_names R S regions (Name n) h = tt
    general_names R S regions (At (Literal k)) h = tt
    general_names R S regions (At (Variable v)) h = by (x == v) refl
      where
        by : (b : Bool) → (x == v) ≡ b → ElemNames (IsIndex L) S (cond b Any (At (Variable v)))
        by true is = tt
        by false is = elim (index v h) [ inl same ↦ absurd (false≢true (sym is ∙ eq-eqb x v (sym same))) | inr there ↦ there ]
    general_names R S regions (At (Renamed v)) h = tt
    general_names R S regions (At (Own d)) h = tt
    general_names R S regions Any h = tt
    general_names R S regions Star h = tt
    general_names R S regions (Local r n) h = regions r h

    all_general : (R S : ℕ → Type 0) → ((r : ℕ) → R r → S r) → (es : List Elem) → ElemsName (IsIndex M) R es → ElemsName (IsIndex L) S (map (general_elem x) es)
    all_general R S regions [] h = tt
    all_general R S regions (e ∷ es) h = (general_names R S regions e h.0, all_general Anything Anything (λ r k. k) es h.1)

    pub path_general : ((r : ℕ) → IsRegion M r → IsRegion L r) → (a : Rpl) → PathNames (IsIndex M) (IsRegion M) a → PathNames (IsIndex L) (IsRegion L) (generalised x a)
    unfolding generalised
    path_general regions a h = all_general (IsRegion M) (IsRegion L) regions a.elems h

-- a path without the variable stays as it is
module _ (L : Scope) (x : ℕ) (none : IsIndex L x → ⊥)
  where
    elem_stays : (R : ℕ → Type 0) (e : Elem) → ElemNames (IsIndex L) R e → general_elem x e ≡ e
    elem_stays R (Name n) h = refl
    elem_stays R (At (Literal k)) h = refl
    elem_stays R (At (Variable v)) h = by (x == v) refl
      where
        by : (b : Bool) → (x == v) ≡ b → cond b Any (At (Variable v)) ≡ At (Variable v)
        by true is = absurd (none (subst (IsIndex L) (sym (eqb-true x v is)) h))
        by false is = refl
    elem_stays R (At (Renamed v)) h = refl
    elem_stays R (At (Own d)) h = refl
    elem_stays R Any h = refl
    elem_stays R Star h = refl
    elem_stays R (Local r n) h = refl

    elems_stay : (R : ℕ → Type 0) (es : List Elem) → ElemsName (IsIndex L) R es → map (general_elem x) es ≡ es
    elems_stay R [] h = refl
    elems_stay R (e ∷ es) h = ap (λ z. z ∷ map (general_elem x) es) (elem_stays R e h.0) ∙ ap (λ z. e ∷ z) (elems_stay Anything es h.1)

    pub path_stays : (a : Rpl) → PathNames (IsIndex L) (IsRegion L) a → generalised x a ≡ a
    unfolding generalised
    path_stays a h = ap (λ z. record { head = a.head; elems = z }) (elems_stay (IsRegion L) a.elems h)

-- outside the scope of an index variable
module _ (L M : Scope) (x : ℕ) (locals : LocalsName L) (none : IsIndex L x → ⊥) (index : (v : ℕ) → IsIndex M v → (v ≡ x) ⊎ IsIndex L v) (regions : (r : ℕ) → IsRegion M r → IsRegion L r)
  where
    one_outside : (o : Done) → Over (IsIndex M) (IsRegion M) L o → DoneIn L (mapped (λ e. record e { rpl = generalised x e.rpl }) o)
    one_outside (does e) h = path_general L M x index regions e.rpl h
    one_outside (uses k e) h =
        let names = (locals k (part h.0 e.rpl) h.1).0 in
        let same = path_stays L x none e.rpl names in
        (subst (PathNames (IsIndex L) (IsRegion L)) (sym same) names, (h.0, subst (λ z. L.local k ≡ Some (part h.0 z)) (sym same) h.1))

    pub outside_over : (G : List Done) → AllOver (IsIndex M) (IsRegion M) L G → AllDoneIn L (outside_variable x G)
    outside_over [] h = tt
    outside_over (o ∷ G) h = (one_outside o h.0, outside_over G h.1)

    module _ (parts : (k : ℕ) (t : PlainType) (a : Rpl) → M.local k ≡ Some (part t a) → L.local k ≡ Some (part t a))
      where
        over : (o : Done) → DoneIn M o → Over (IsIndex M) (IsRegion M) L o
        over (does e) h = h
        over (uses k e) h = (h.1.0, parts k h.1.0 e.rpl h.1.1)

        pub done_outside : (G : List Done) → AllDoneIn M G → AllDoneIn L (outside_variable x G)
        done_outside [] h = tt
        done_outside (o ∷ G) h = (one_outside o (over o h.0), done_outside G h.1)

-- outside a scope that has no index variable of its own
module _ (L M : Scope) (index : (v : ℕ) → IsIndex M v → IsIndex L v) (regions : (r : ℕ) → IsRegion M r → IsRegion L r)
    (parts : (k : ℕ) (t : PlainType) (a : Rpl) → M.local k ≡ Some (part t a) → L.local k ≡ Some (part t a))
  where
    one_seen : (o : Done) → DoneIn M o → DoneIn L o
    one_seen (does e) h = elems_more (IsIndex M) (IsRegion M) (IsIndex L) (IsRegion L) index regions e.rpl.elems h
    one_seen (uses k e) h = (elems_more (IsIndex M) (IsRegion M) (IsIndex L) (IsRegion L) index regions e.rpl.elems h.0, (h.1.0, parts k h.1.0 e.rpl h.1.1))

    pub done_seen : (G : List Done) → AllDoneIn M G → AllDoneIn L G
    done_seen [] h = tt
    done_seen (o ∷ G) h = (one_seen o h.0, done_seen G h.1)

-- marks
one_marked : (L : Scope) (b : Bool) (o : Done) → DoneIn L o → DoneIn L (marked b o)
one_marked L b (does e) h = h
one_marked L b (uses k e) h = h

pub all_marked : (L : Scope) (b : Bool) (G : List Done) → AllDoneIn L G → AllDoneIn L (map (marked b) G)
all_marked L b [] h = tt
all_marked L b (o ∷ G) h = (one_marked L b o h.0, all_marked L b G h.1)

pub following_branches : (L : Scope) (forking : Forking) (G : List Done) → AllDoneIn L G → AllDoneIn L (after_branches forking G)
following_branches L Deterministic G h = all_marked L false G h
following_branches L Nondeterministic G h = h

-- one local more

pub back_index : (L : Scope) (x : ℕ) (l : Slot) (v : ℕ) → IsIndex (with_local x l L) v → ((v ≡ x) × (l ≡ constant int)) ⊎ IsIndex L v
back_index L x l v h = by (v == x) refl h
  where
    by : (b : Bool) → (v == x) ≡ b → cond b (Some l) (L.local v) ≡ Some (constant int) → ((v ≡ x) × (l ≡ constant int)) ⊎ IsIndex L v
    by true is h = inl (eqb-true v x is, some_same h)
    by false is h = inr h

pub back_part : (L : Scope) (x : ℕ) (l : Slot) (k : ℕ) (t : PlainType) (a : Rpl) → (with_local x l L).local k ≡ Some (part t a) → ((k ≡ x) × (l ≡ part t a)) ⊎ (L.local k ≡ Some (part t a))
back_part L x l k t a h = by (k == x) refl h
  where
    by : (b : Bool) → (k == x) ≡ b → cond b (Some l) (L.local k) ≡ Some (part t a) → ((k ≡ x) × (l ≡ part t a)) ⊎ (L.local k ≡ Some (part t a))
    by true is h = inl (eqb-true k x is, some_same h)
    by false is h = inr h

kept_index : (L : Scope) (x : ℕ) (l : Slot) → (IsIndex L x → ⊥) → (v : ℕ) → IsIndex L v → IsIndex (with_local x l L) v
kept_index L x l none v h = by (v == x) refl
  where
    by : (b : Bool) → (v == x) ≡ b → cond b (Some l) (L.local v) ≡ Some (constant int)
    by true is = absurd (none (subst (IsIndex L) (eqb-true v x is) h))
    by false is = h

pub locals_with : (L : Scope) (x : ℕ) (l : Slot) → (IsIndex L x → ⊥) → LocalsName L → SlotNames (IsIndex L) (IsRegion L) l → LocalsName (with_local x l L)
locals_with L x l none locals names y m h = by (y == x) h
  where
    more : (m : Slot) → SlotNames (IsIndex L) (IsRegion L) m → SlotNames (IsIndex (with_local x l L)) (IsRegion L) m
    more m k = slot_more (IsIndex L) (IsRegion L) (IsIndex (with_local x l L)) (IsRegion L) (kept_index L x l none) (λ r k. k) m k

    by : (b : Bool) → cond b (Some l) (L.local y) ≡ Some m → SlotNames (IsIndex (with_local x l L)) (IsRegion L) m
    by true h = subst (SlotNames (IsIndex (with_local x l L)) (IsRegion L)) (some_same h) (more l names)
    by false h = more m (locals y m h)

pub free_none : (L : Scope) (x : ℕ) → L.local x ≡ None → IsIndex L x → ⊥
free_none L x none h = let clash = sym none ∙ h in cc

none_with : (L : Scope) (x : ℕ) (l : Slot) (y : ℕ) → (l ≡ constant int → ⊥) → (IsIndex L y → ⊥) → IsIndex (with_local x l L) y → ⊥
none_with L x l y other none h = elim (back_index L x l y h) [ inl same ↦ other same.1 | inr there ↦ none there ]

-- seen from a branch of a loop

pub alone_index : (o : Option Slot) → option_map read_alone o ≡ Some (constant int) → o ≡ Some (constant int)
alone_index None h = cc
alone_index (Some (variable t)) h = cc
alone_index (Some (frozen t)) h = cc
alone_index (Some (constant t)) h = h
alone_index (Some (part t a)) h = cc
alone_index (Some reserved) h = cc

pub alone_part : (o : Option Slot) (t : PlainType) (a : Rpl) → option_map read_alone o ≡ Some (part t a) → o ≡ Some (part t a)
alone_part None t a h = cc
alone_part (Some (variable u)) t a h = cc
alone_part (Some (frozen u)) t a h = cc
alone_part (Some (constant u)) t a h = cc
alone_part (Some (part u b)) t a h = h
alone_part (Some reserved) t a h = cc

alone_names : (V R : ℕ → Type 0) (l : Slot) → SlotNames V R l → SlotNames V R (read_alone l)
alone_names V R (variable t) h = h
alone_names V R (frozen t) h = h
alone_names V R (constant t) h = h
alone_names V R (part t a) h = h
alone_names V R reserved h = h

pub locals_loop : (L : Scope) → LocalsName L → LocalsName (in_loop_branch L)
locals_loop L locals y m h = by (L.local y) (locals y) h
  where
    by : (o : Option Slot) → ((l : Slot) → o ≡ Some l → SlotNames (IsIndex L) (IsRegion L) l) → option_map read_alone o ≡ Some m → SlotNames (IsIndex (in_loop_branch L)) (IsRegion L) m
    by None names h = cc
    by (Some l) names h =
        subst (SlotNames (IsIndex (in_loop_branch L)) (IsRegion L)) (some_same h)
        (alone_names (IsIndex (in_loop_branch L)) (IsRegion L) l
        (slot_more (IsIndex L) (IsRegion L) (IsIndex (in_loop_branch L)) (IsRegion L) (λ v k. ap (option_map read_alone) k) (λ r k. k) l (names l refl)))

-- seen from a branch beside others

any_variable : (L : Scope) (v : ℕ) (ys : List ℕ) → All (IsVariable L) ys → list_any (λ y. v == y) ys ≡ true → IsVariable L v
any_variable L v [] all h = cc
any_variable L v (y ∷ ys) all h = by (λ k. any_variable L v ys (All-tail (IsVariable L) y ys all) k) (v == y) refl h
  where
    by : (list_any (λ y. v == y) ys ≡ true → IsVariable L v) → (b : Bool) → (v == y) ≡ b → (b || list_any (λ y. v == y) ys) ≡ true → IsVariable L v
    by next true is h = subst (IsVariable L) (sym (eqb-true v y is)) (All-head (IsVariable L) y ys all)
    by next false is h = next h

variable_none : (L : Scope) (v : ℕ) → IsVariable L v → IsIndex L v → ⊥
variable_none L v w h = let clash = sym w.1 ∙ h in cc

pub seen_index : (own others : List ℕ) (v : ℕ) (o : Option Slot) → seen_in_branch own others v o ≡ Some (constant int) → o ≡ Some (constant int)
seen_index own others v o h = by (list_any (λ y. v == y) others) (list_any (λ y. v == y) own) h
  where
    none : (o : Option Slot) → option_map (λ k. reserved) o ≡ Some (constant int) → o ≡ Some (constant int)
    none None h = cc
    none (Some l) h = cc

    by : (b c : Bool) → cond b (option_map (λ k. reserved) o) (cond c o (option_map read_alone o)) ≡ Some (constant int) → o ≡ Some (constant int)
    by true c h = none o h
    by false true h = h
    by false false h = alone_index o h

pub seen_part : (own others : List ℕ) (v : ℕ) (o : Option Slot) (t : PlainType) (a : Rpl) → seen_in_branch own others v o ≡ Some (part t a) → o ≡ Some (part t a)
seen_part own others v o t a h = by (list_any (λ y. v == y) others) (list_any (λ y. v == y) own) h
  where
    none : (o : Option Slot) → option_map (λ k. reserved) o ≡ Some (part t a) → o ≡ Some (part t a)
    none None h = cc
    none (Some l) h = cc

    by : (b c : Bool) → cond b (option_map (λ k. reserved) o) (cond c o (option_map read_alone o)) ≡ Some (part t a) → o ≡ Some (part t a)
    by true c h = none o h
    by false true h = h
    by false false h = alone_part o t a h

pub locals_branch : (L : Scope) (own others : List ℕ) → All (IsVariable L) others → LocalsName L → LocalsName (in_branch own others L)
locals_branch L own others all locals y m h = by (list_any (λ z. y == z) others) (list_any (λ z. y == z) own) (L.local y) (locals y) h
  where
    kept : (v : ℕ) → IsIndex L v → IsIndex (in_branch own others L) v
    kept v k = at (list_any (λ z. v == z) others) refl (list_any (λ z. v == z) own)
      where
        at : (b : Bool) → list_any (λ z. v == z) others ≡ b → (c : Bool) → cond b (option_map (λ k. reserved) (L.local v)) (cond c (L.local v) (option_map read_alone (L.local v))) ≡ Some (constant int)
        at true is c = absurd (variable_none L v (any_variable L v others all is) k)
        at false is true = k
        at false is false = ap (option_map read_alone) k

    more : (m : Slot) → SlotNames (IsIndex L) (IsRegion L) m → SlotNames (IsIndex (in_branch own others L)) (IsRegion L) m
    more m k = slot_more (IsIndex L) (IsRegion L) (IsIndex (in_branch own others L)) (IsRegion L) kept (λ r k. k) m k

    by : (b c : Bool) (o : Option Slot) → ((l : Slot) → o ≡ Some l → SlotNames (IsIndex L) (IsRegion L) l) →
        cond b (option_map (λ k. reserved) o) (cond c o (option_map read_alone o)) ≡ Some m → SlotNames (IsIndex (in_branch own others L)) (IsRegion L) m
    by true c None names h = cc
    by true c (Some l) names h = subst (SlotNames (IsIndex (in_branch own others L)) (IsRegion L)) (some_same h) tt
    by false true o names h = more m (names m h)
    by false false None names h = cc
    by false false (Some l) names h = subst (SlotNames (IsIndex (in_branch own others L)) (IsRegion L)) (some_same h) (alone_names (IsIndex (in_branch own others L)) (IsRegion L) l (more l (names l refl)))

-- local regions that are declared

pub region_kept : (L : Scope) (rs : List ℕ) (r : ℕ) → IsRegion L r → IsRegion (with_regions rs L) r
region_kept L rs r h = by (list_any (λ q. r == q) rs)
  where
    by : (b : Bool) → cond b true (L.regions r) ≡ true
    by true = refl
    by false = h

pub locals_regions : (L : Scope) (rs : List ℕ) → LocalsName L → LocalsName (with_regions rs L)
locals_regions L rs locals y m h = slot_more (IsIndex L) (IsRegion L) (IsIndex L) (IsRegion (with_regions rs L)) (λ v k. k) (region_kept L rs) m (locals y m h)

region_out : (L : Scope) (rs : List ℕ) (es : List Elem) → begins_in rs es ≡ false → ElemsName (IsIndex L) (IsRegion (with_regions rs L)) es → ElemsName (IsIndex L) (IsRegion L) es
region_out L rs [] none h = tt
region_out L rs (Local r n ∷ es) none h = (subst (λ b. cond b true (L.regions r) ≡ true) none h.0, h.1)
region_out L rs (Name n ∷ es) none h = h
region_out L rs (At (Literal k) ∷ es) none h = h
region_out L rs (At (Variable x) ∷ es) none h = h
region_out L rs (At (Renamed x) ∷ es) none h = h
region_out L rs (At (Own d) ∷ es) none h = h
region_out L rs (Any ∷ es) none h = h
region_out L rs (Star ∷ es) none h = h

one_out : (L : Scope) (rs : List ℕ) (o : Done) → begins_in rs (effect_of o).rpl.elems ≡ false → DoneIn (with_regions rs L) o → DoneIn L o
one_out L rs (does e) none h = region_out L rs e.rpl.elems none h
one_out L rs (uses k e) none h = (region_out L rs e.rpl.elems none h.0, h.1)

pub regions_out : (L : Scope) (rs : List ℕ) (F : List Done) → AllDoneIn (with_regions rs L) F → AllDoneIn L (outside_regions rs F)
regions_out L rs [] h = tt
regions_out L rs (o ∷ F) h = by (regions_out L rs F h.1) (begins_in rs (effect_of o).rpl.elems) refl
  where
    by : AllDoneIn L (outside_regions rs F) → (b : Bool) → begins_in rs (effect_of o).rpl.elems ≡ b → AllDoneIn L (cond (not b) (o ∷ outside_regions rs F) (outside_regions rs F))
    by next true is = next
    by next false is = (one_out L rs o is h.0, next)

-- after a construct over parts

module _ (L : Scope) (k : ℕ) (t : PlainType) (a : Rpl)
  where
    abbrev Parted : Scope
    Parted = with_part k t a (in_loop_branch L)

    abbrev Fourth : Scope
    Fourth = with_local (k + 3) reserved (with_local (k + 2) reserved (with_local (k + 1) reserved (with_local k (part t a) (in_loop_branch L))))

    pub parted_index : (v : ℕ) → IsIndex Parted v → (v ≡ k + 4) ⊎ IsIndex L v
    parted_index v h = elim (back_index Fourth (k + 4) (constant int) v h) [
      | inl same ↦ inl same.0
      | inr h3 ↦ inr (elim (back_index (with_local (k + 2) reserved (with_local (k + 1) reserved (with_local k (part t a) (in_loop_branch L)))) (k + 3) reserved v h3) [
        | inl same ↦ absurd (no_reserved same.1)
        | inr h2 ↦ elim (back_index (with_local (k + 1) reserved (with_local k (part t a) (in_loop_branch L))) (k + 2) reserved v h2) [
          | inl same ↦ absurd (no_reserved same.1)
          | inr h1 ↦ elim (back_index (with_local k (part t a) (in_loop_branch L)) (k + 1) reserved v h1) [
            | inl same ↦ absurd (no_reserved same.1)
            | inr h0 ↦ elim (back_index (in_loop_branch L) k (part t a) v h0) [ inl same ↦ absurd (no_part same.1) | inr there ↦ alone_index (L.local v) there ]
          ]
        ]
      ])
    ]
      where
        no_reserved : reserved ≡ constant int → ⊥
        no_reserved e = cc

        no_part : part t a ≡ constant int → ⊥
        no_part e = cc

    pub parted_part : (j : ℕ) (u : PlainType) (b : Rpl) → Parted.local j ≡ Some (part u b) → ((j ≡ k) × (a ≡ b)) ⊎ (L.local j ≡ Some (part u b))
    parted_part j u b h = elim (back_part Fourth (k + 4) (constant int) j u b h) [
      | inl same ↦ absurd (no_constant same.1)
      | inr h3 ↦ elim (back_part (with_local (k + 2) reserved (with_local (k + 1) reserved (with_local k (part t a) (in_loop_branch L)))) (k + 3) reserved j u b h3) [
        | inl same ↦ absurd (no_reserved same.1)
        | inr h2 ↦ elim (back_part (with_local (k + 1) reserved (with_local k (part t a) (in_loop_branch L))) (k + 2) reserved j u b h2) [
          | inl same ↦ absurd (no_reserved same.1)
          | inr h1 ↦ elim (back_part (with_local k (part t a) (in_loop_branch L)) (k + 1) reserved j u b h1) [
            | inl same ↦ absurd (no_reserved same.1)
            | inr h0 ↦ elim (back_part (in_loop_branch L) k (part t a) j u b h0) [ inl same ↦ inl (same.0, path_is same.1) | inr there ↦ inr (alone_part (L.local j) u b there) ]
          ]
        ]
      ]
    ]
      where
        no_reserved : reserved ≡ part u b → ⊥
        no_reserved e = cc

        no_constant : constant int ≡ part u b → ⊥
        no_constant e = cc

        path_is : part t a ≡ part u b → a ≡ b
        path_is e = cc

    pub locals_parted : LocalsName L → (IsIndex L k → ⊥) × (IsIndex L (k + 1) → ⊥) × (IsIndex L (k + 2) → ⊥) × (IsIndex L (k + 3) → ⊥) × (IsIndex L (k + 4) → ⊥) → TypeNames (IsIndex L) (IsRegion L) (array t a false) → LocalsName Parted
    locals_parted locals none ty =
        let inner : (x : ℕ) → (IsIndex L x → ⊥) → IsIndex (in_loop_branch L) x → ⊥ = λ x n h. n (alone_index (L.local x) h) in
        let n0 : IsIndex (in_loop_branch L) k → ⊥ = inner k none.0 in
        let n1 = none_with (in_loop_branch L) k (part t a) (k + 1) no_part (inner (k + 1) none.1) in
        let n2 = none_with (with_local k (part t a) (in_loop_branch L)) (k + 1) reserved (k + 2) no_reserved (none_with (in_loop_branch L) k (part t a) (k + 2) no_part (inner (k + 2) none.2)) in
        let n3 = none_with (with_local (k + 1) reserved (with_local k (part t a) (in_loop_branch L))) (k + 2) reserved (k + 3) no_reserved
        (none_with (with_local k (part t a) (in_loop_branch L)) (k + 1) reserved (k + 3) no_reserved (none_with (in_loop_branch L) k (part t a) (k + 3) no_part (inner (k + 3) none.3))) in
        let n4 = none_with (with_local (k + 2) reserved (with_local (k + 1) reserved (with_local k (part t a) (in_loop_branch L)))) (k + 3) reserved (k + 4) no_reserved
        (none_with (with_local (k + 1) reserved (with_local k (part t a) (in_loop_branch L))) (k + 2) reserved (k + 4) no_reserved
        (none_with (with_local k (part t a) (in_loop_branch L)) (k + 1) reserved (k + 4) no_reserved (none_with (in_loop_branch L) k (part t a) (k + 4) no_part (inner (k + 4) none.4)))) in
        let more : (v : ℕ) → IsIndex L v → IsIndex (in_loop_branch L) v = λ v h. ap (option_map read_alone) h in
        let l0 = locals_with (in_loop_branch L) k (part t a) n0 (locals_loop L locals)
        (type_more (IsIndex L) (IsRegion L) (IsIndex (in_loop_branch L)) (IsRegion L) more (λ r h. h) (array t a false) ty) in
        let l1 = locals_with (with_local k (part t a) (in_loop_branch L)) (k + 1) reserved n1 l0 tt in
        let l2 = locals_with (with_local (k + 1) reserved (with_local k (part t a) (in_loop_branch L))) (k + 2) reserved n2 l1 tt in
        let l3 = locals_with (with_local (k + 2) reserved (with_local (k + 1) reserved (with_local k (part t a) (in_loop_branch L)))) (k + 3) reserved n3 l2 tt in
        locals_with Fourth (k + 4) (constant int) n4 l3 tt
      where
        no_reserved : reserved ≡ constant int → ⊥
        no_reserved e = cc

        no_part : part t a ≡ constant int → ⊥
        no_part e = cc

    -- what the part was used for is done to the array, or to the part that was cut
    module _ (source : Source) (free : L.local k ≡ None) (cut : (j : ℕ) → source ≡ of_part j → L.local j ≡ Some (part t a))
      where
        handed_over : (s : Source) (e : Effect) → s ≡ source → a ≡ e.rpl → PathNames (IsIndex Parted) (IsRegion Parted) e.rpl → Over (IsIndex Parted) (IsRegion Parted) L (handed_on s e)
        handed_over (of_array x) e same path h = h
        handed_over (of_part j) e same path h = (t, subst (λ z. L.local j ≡ Some (part t z)) path (cut j (sym same)))

        own_over : (o : Done) → DoneIn Parted o → Over (IsIndex Parted) (IsRegion Parted) L (own_after k source o)
        own_over (does e) h = h
        own_over (uses j e) h = by (j == k) refl
          where
            by : (b : Bool) → (j == k) ≡ b → Over (IsIndex Parted) (IsRegion Parted) L (cond b (handed_on source e) (uses j e))
            by true is = elim (parted_part j h.1.0 e.rpl h.1.1) [
              | inl same ↦ handed_over source e refl same.1 h.0
              | inr there ↦ absurd (no_part_there (sym free ∙ subst (λ z. L.local z ≡ Some (part h.1.0 e.rpl)) (eqb-true j k is) there))
            ]
              where
                no_part_there : {u : PlainType} {b : Rpl} → None ≡ Some (part u b) → ⊥
                no_part_there e = cc
            by false is = elim (parted_part j h.1.0 e.rpl h.1.1) [
              | inl same ↦ absurd (false≢true (sym is ∙ eq-eqb j k same.0))
              | inr there ↦ (h.1.0, there)
            ]

        pub all_over : (G : List Done) → AllDoneIn Parted G → AllOver (IsIndex Parted) (IsRegion Parted) L (after_parts k source G)
        all_over [] h = tt
        all_over (o ∷ G) h = (own_over o h.0, all_over G h.1)

        over_marked : (o : Done) → Over (IsIndex Parted) (IsRegion Parted) L o → Over (IsIndex Parted) (IsRegion Parted) L (marked false o)
        over_marked (does e) h = h
        over_marked (uses j e) h = h

        all_over_marked : (G : List Done) → AllOver (IsIndex Parted) (IsRegion Parted) L G → AllOver (IsIndex Parted) (IsRegion Parted) L (map (marked false) G)
        all_over_marked [] h = tt
        all_over_marked (o ∷ G) h = (over_marked o h.0, all_over_marked G h.1)

        pub done_parts : LocalsName L → (IsIndex L (k + 4) → ⊥) → (G : List Done) → AllDoneIn Parted G → AllDoneIn L (outside_variable (k + 4) (after_branches Deterministic (after_parts k source G)))
        done_parts locals none G h = outside_over L Parted (k + 4) locals none parted_index (λ r q. q) (map (marked false) (after_parts k source G)) (all_over_marked (after_parts k source G) (all_over G h))

-- statements

module _ (P : PlainProgram) (signed : Signed P)
  where
    pub declared_names : (L : Scope) (is_final : Bool) (t : PlainType) → TypeNames (IsIndex L) (IsRegion L) t → SlotNames (IsIndex L) (IsRegion L) (declared_as is_final t)
    declared_names L true t h = h
    declared_names L false t h = h

    cut_names : (L : Scope) → LocalsName L → {source : Source} {t : PlainType} {a : Rpl} {E : List Done} → Cuts P L source t a E →
        TypeNames (IsIndex L) (IsRegion L) (array t a false) × AllDoneIn L E × ((j : ℕ) → source ≡ of_part j → L.local j ≡ Some (part t a))
    cut_names L locals (Cuts.cuts_array {e = e} {t = t} {a = a} {E = E} h ty full) =
        let n = has_names P signed L locals h in
        (subst (TypeNames (IsIndex L) (IsRegion L)) ty n.0, n.1, λ j same. cc)
    cut_names L locals (Cuts.cuts_part {k = k} {t = t} {a = a} is) = (locals k (part t a) is, tt, λ j same. subst (λ z. L.local z ≡ Some (part t a)) (part_of same) is)
      where
        part_of : {i j : ℕ} → of_part i ≡ of_part j → i ≡ j
        part_of e = cc

    pub part_parts : (x : ℕ) (l : Slot) (L : Scope) → ((t : PlainType) (a : Rpl) → l ≡ part t a → ⊥) → (k : ℕ) (t : PlainType) (a : Rpl) → (with_local x l L).local k ≡ Some (part t a) → L.local k ≡ Some (part t a)
    part_parts x l L other k t a h = elim (back_part L x l k t a h) [ inl same ↦ absurd (other t a same.1) | inr there ↦ there ]

    pub no_constant_part : (u t : PlainType) (a : Rpl) → constant u ≡ part t a → ⊥
    no_constant_part u t a e = cc

    pub declared_no_part : (is_final : Bool) (u t : PlainType) (a : Rpl) → declared_as is_final u ≡ part t a → ⊥
    declared_no_part true u t a e = cc
    declared_no_part false u t a e = cc

    pub only_index : (L : Scope) (x : ℕ) (l : Slot) (v : ℕ) → IsIndex (with_local x l L) v → (v ≡ x) ⊎ IsIndex L v
    only_index L x l v h = elim (back_index L x l v h) [ inl same ↦ inl same.0 | inr there ↦ inr there ]

    all_free : (L : Scope) (k : ℕ) → All (λ i. IsFree L (k + i)) (0 ∷ 1 ∷ 2 ∷ 3 ∷ 4 ∷ []) → (L.local (k + 0) ≡ None) × (L.local (k + 1) ≡ None) × (L.local (k + 2) ≡ None) × (L.local (k + 3) ≡ None) × (L.local (k + 4) ≡ None)
    all_free L k all =
        let F : ℕ → Type 0 = λ i. IsFree L (k + i) in
        let t1 = All-tail F 0 (1 ∷ 2 ∷ 3 ∷ 4 ∷ []) all in
        let t2 = All-tail F 1 (2 ∷ 3 ∷ 4 ∷ []) t1 in
        let t3 = All-tail F 2 (3 ∷ 4 ∷ []) t2 in
        let t4 = All-tail F 3 (4 ∷ []) t3 in
        ((All-head F 0 (1 ∷ 2 ∷ 3 ∷ 4 ∷ []) all).0, (All-head F 1 (2 ∷ 3 ∷ 4 ∷ []) t1).0, (All-head F 2 (3 ∷ 4 ∷ []) t2).0, (All-head F 3 (4 ∷ []) t3).0, (All-head F 4 [] t4).0)

    all_copied : (L : Scope) {others : List ℕ} {bs : TypedBranches} {Es : List (List Done)} → BranchesPass P L others bs Es → All (IsVariable L) (all_copies bs)
    all_copied L BranchesPass.no_branch = All-nil (IsVariable L)
    all_copied L (BranchesPass.one_branch {copies = copies} {bs = bs} all apart d rest) = All-append (IsVariable L) copies (all_copies bs) all (all_copied L rest)

    mutual
      -- a statement
      pub passes_names : {L : Scope} {s : TypedStmt} {E : List Done} → LocalsName L → Passes P L s E → AllDoneIn L E
      passes_names {L} locals (Passes.store l h s) = (has_names P signed L locals h).1
      passes_names {L} locals (Passes.store_field {c = c} {k = k} {args = args} {f = f} {E = E} {F = F} h ty fd kn hv s) =
          let i = has_names P signed L locals h in
          let all = subst (TypeNames (IsIndex L) (IsRegion L)) ty i.0 in
          done_append L E _ i.1 (done_append L F _ (has_names P signed L locals hv).1 (substituted_names (IsIndex L) (IsRegion L) args all f.region (signed.fields c k f fd).1, tt))
      passes_names {L} locals (Passes.store_element {i = i} {rpl = rpl} {E = E} {F = F} {G = G} ha ty hi ti mi hv s) =
          let a = has_names P signed L locals ha in
          let p = subst (TypeNames (IsIndex L) (IsRegion L)) ty a.0 in
          done_append L E _ a.1 (done_append L F _ (has_names P signed L locals hi).1 (done_append L G _ (has_names P signed L locals hv).1 (at_path (IsIndex L) (IsRegion L) 0 (index_elem L i) rpl (index_names L i) p.0, tt)))
      passes_names {L} locals (Passes.store_part {k = k} {t = t} {a = a} {E = E} {F = F} is hi ti hv s) =
          done_append L E _ (has_names P signed L locals hi).1 (done_append L F _ (has_names P signed L locals hv).1 (((locals k (part t a) is).0, (t, is)), tt))
      passes_names {L} locals (Passes.perform p h) = (has_names P signed L locals h).1
      passes_names locals (Passes.nested d) = all_names locals d
      passes_names {L} locals (Passes.choice {E = E} h ty d) = done_append L E _ (has_names P signed L locals h).1 (all_names locals d)
      passes_names {L} locals (Passes.choice_else {E = E} {F = F} h ty d e) = done_append L E _ (has_names P signed L locals h).1 (done_append L F _ (all_names locals d) (all_names locals e))
      passes_names {L} locals (Passes.while_loop {E = E} h ty d) = done_append L E _ (has_names P signed L locals h).1 (all_names locals d)
      passes_names locals (Passes.return_nothing r) = tt
      passes_names {L} locals (Passes.return_value r h s) = (has_names P signed L locals h).1
      passes_names {L} locals (Passes.print_int h ty) = (has_names P signed L locals h).1
      passes_names {L} locals (Passes.print_boolean h ty) = (has_names P signed L locals h).1
      passes_names locals Passes.print_text = tt
      passes_names {L} locals (Passes.atomic {E = E} d same) = all_marked L true E (all_names {L = in_atomic_block L} locals d)
      passes_names {L} locals (Passes.cobegin {forking = forking} {Es = Es} c d n) = following_branches L forking (joined Es) (branches_names locals (All-nil (IsVariable L)) d)
      passes_names {L} locals (Passes.foreach {forking = forking} {x = x} {E = E} {F = F} {G = G} c hs ts hc tc free d clash) =
          let none = free_none L x free.0 in
          let M : Scope = with_local x (constant int) (in_loop_branch L) in
          let inner = locals_with (in_loop_branch L) x (constant int) (λ h. none (alone_index (L.local x) h)) (locals_loop L locals) tt in
          done_append L E _ (has_names P signed L locals hs).1
          (done_append L F _ (has_names P signed L locals hc).1
          (done_outside L M x locals none
          (λ v h. elim (only_index (in_loop_branch L) x (constant int) v h) [ inl same ↦ inl same | inr there ↦ inr (alone_index (L.local v) there) ]) (λ r h. h)
          (λ k t a h. alone_part (L.local k) t a (part_parts x (constant int) (in_loop_branch L) (no_constant_part int) k t a h))
          (after_branches forking G) (following_branches M forking G (all_names inner d))))
      passes_names {L} locals (Passes.foreach_parts {k = k} {source = source} {t = t} {a = a} {E = E} {F = F} {G = G} cut hc tc free d clash other) =
          let c = cut_names L locals cut in
          let f = all_free L k free in
          let same : k + 0 ≡ k = omega arith in
          let free_k : L.local k ≡ None = subst (λ z. L.local z ≡ None) same f.0 in
          let none : (IsIndex L k → ⊥) × (IsIndex L (k + 1) → ⊥) × (IsIndex L (k + 2) → ⊥) × (IsIndex L (k + 3) → ⊥) × (IsIndex L (k + 4) → ⊥) =
          (free_none L k free_k, free_none L (k + 1) f.1, free_none L (k + 2) f.2, free_none L (k + 3) f.3, free_none L (k + 4) f.4) in
          done_append L E _ c.1
          (done_append L F _ (has_names P signed L locals hc).1
          (done_parts L k t a source free_k c.2 locals (free_none L (k + 4) f.4) G (all_names (locals_parted L k t a locals none c.0) d)))

      -- the statements of a block
      pub all_names : {L : Scope} {ss : TypedStmts} {E : List Done} → LocalsName L → AllPass P L ss E → AllDoneIn L E
      all_names locals AllPass.no_more = tt
      all_names {L} locals (AllPass.then' {E = E} {F = F} d c rest) = done_append L E F (passes_names locals d) (all_names locals rest)
      all_names {L} locals (AllPass.declare {x = x} {t = t} {is_final = is_final} {E = E} {F = F} free good h s rest) =
          let none = free_none L x free.0 in
          let inner = locals_with L x (declared_as is_final t) none locals (declared_names L is_final t (good_type P L 0 t good)) in
          done_append L E _ (has_names P signed L locals h).1
          (done_outside L (with_local x (declared_as is_final t) L) x locals none (only_index L x (declared_as is_final t)) (λ r q. q)
          (part_parts x (declared_as is_final t) L (declared_no_part is_final t)) F (all_names inner rest))
      all_names {L} locals (AllPass.declare_regions {rs = rs} {F = F} fresh rest) = regions_out L rs F (all_names (locals_regions L rs locals) rest)

      branches_names : {L : Scope} {others : List ℕ} {bs : TypedBranches} {Es : List (List Done)} → LocalsName L → All (IsVariable L) others → BranchesPass P L others bs Es → AllDoneIn L (joined Es)
      branches_names locals all BranchesPass.no_branch = tt
      branches_names {L} {others} locals all (BranchesPass.one_branch {copies = copies} {bs = bs} {E = E} {Es = Es} own apart d rest) =
          let beside : List ℕ = others ++ all_copies bs in
          let none = All-append (IsVariable L) others (all_copies bs) all (all_copied L rest) in
          done_append L E (joined Es)
          (done_seen L (in_branch copies beside L) (λ v h. seen_index copies beside v (L.local v) h) (λ r h. h) (λ k t a h. seen_part copies beside k (L.local k) t a h) E
          (all_names (locals_branch L copies beside none locals) d))
          (branches_names locals (All-append (IsVariable L) others copies all own) rest)
