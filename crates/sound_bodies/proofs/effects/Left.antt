-- What is left of effects after a scope: the checker takes them all at once, the judgement name by name.
use Rattle.std.proofs.Common.{◌≡◌, ◌∙◌, ◌⊎◌, ℕ, ◌+◌, ◌<◌, ◌≤◌, ◌==◌, Bool, true, false, not, cond, nat_le, List, [], ◌∷◌, ◌++◌, map, Contains, inl, inr, ⊎_elim, Option, Some, None, refl, sym, ap, subst, arith}
use Rattle.std.specs.List.{list_any}
use Rattle.std.proofs.lemmas.Bool.{cases_Bool, eq-eqb, ne_eqb, leb-true, leb-false, false≢true}
use Rattle.std.proofs.lemmas.List.Elements.{Contains-append_left, Contains-append_right, Contains-append_cases}
use Rattle.lang_base.specs.declared.effect.Effect.{Effect}
use Rattle.lang_base.specs.declared.elems.Elem.{Elem}
use Rattle.lang_base.specs.declared.elems.Elem.TheVariants.{Name, At, Any, Star, Local}
use Rattle.lang_base.specs.declared.elems.Index.TheVariants.{Literal, Variable, Renamed, Own}
use Rattle.lang_base.specs.declared.region.Rpl.{Rpl}
use Rattle.lang_base.specs.Effects.{added, gathered}
use Rattle.lang_base.specs.Regions.{general_elem, generalised}
use Rattle.lang_base.specs.Types.{PlainType}
use Rattle.lang_typed.specs.Effects.{does, uses, mapped, marked, outside_variable, begins_in, outside_regions}
use Rattle.lang_typed.specs.Effects.{Own as Done}
use Rattle.lang_typed.specs.Scope.{Scope, part}
use Rattle.lang_typed.specs.Scope.{Local as Slot}
use Rattle.body_exprs.specs.declared.found.Found.{Found}
use Rattle.body_check.specs.declared.leaving.Leaving.{Leaving}
use Rattle.body_check.specs.declared.leaving.Marks.{Marks}
use Rattle.body_check.specs.declared.leaving.Marks.TheVariants as marks
use Rattle.body_check.specs.Gathering.{all_left, taken_in}
use Rattle.body_check.specs.Gathering.{before as put_before}
use Rattle.body_check.specs.Leaving.{left_elem, left_path, left_mark, begins_inside, left_effect}
use Rattle.body_check.specs.Walks.{nothing_found}
use Rattle.sound_bodies.specs.Gathered.{Gathers}
use Rattle.sound_bodies.specs.Naming.{ElemNames, Anything, ElemsName, PathNames, IsIndex, IsRegion, DoneIn, AllDoneIn}
use Rattle.sound_bodies.proofs.effects.Gathered.{nothing_in, head_in, later_in, in_cases, added_from, added_kept, added_new}
use Rattle.sound_bodies.proofs.scope.InScope.{Over, AllOver, elems_more, any_elem}
use Rattle.sound_lemmas.proofs.Lists.{some_same}

-- what is left of what is done; what is done through parts that are seen from outside stays

abbrev onto : Option Effect → List Done → List Done
onto None rest = rest
onto (Some e) rest = does e ∷ rest

abbrev left_onto : Leaving → Done → List Done → List Done
left_onto l (does e) rest = onto (left_effect l e) rest
left_onto l (uses k e) rest = uses k e ∷ rest

abbrev pub left : Leaving → List Done → List Done
left l [] = []
left l (o ∷ D) = left_onto l o (left l D)

onto_append : (o : Option Effect) (D F : List Done) → onto o (D ++ F) ≡ onto o D ++ F
onto_append None D F = refl
onto_append (Some e) D F = refl

left_onto_append : (l : Leaving) (o : Done) (D F : List Done) → left_onto l o (D ++ F) ≡ left_onto l o D ++ F
left_onto_append l (does e) D F = onto_append (left_effect l e) D F
left_onto_append l (uses k e) D F = refl

pub left_append : (l : Leaving) (D F : List Done) → left l (D ++ F) ≡ left l D ++ left l F
left_append l [] F = refl
left_append l (o ∷ D) F = ap (left_onto l o) (left_append l D F) ∙ left_onto_append l o (left l D) (left l F)

-- members

pub does_same : {e f : Effect} → does e ≡ does f → e ≡ f
does_same h = cc

pub differ : {k : ℕ} {e f : Effect} → uses k e ≡ does f → ⊥
differ h = cc

module _ (l : Leaving)
  where
    left_does : (D : List Done) (e : Effect) → Contains (left l D) (does e) → (d : Effect) × Contains D (does d) × (left_effect l d ≡ Some e)
    left_does [] e c = absurd (nothing_in (does e) c)
    left_does (uses k d ∷ D) e c = ⊎_elim (λ same. absurd (differ same)) (λ later. (let w = left_does D e later in (w.0, later_in (uses k d) D (does w.0) w.1, w.2))) (in_cases (uses k d) (left l D) (does e) c)
    left_does (does d ∷ D) e c = by (λ later. left_does D e later) (left_effect l d) refl c
      where
        by : (Contains (left l D) (does e) → (f : Effect) × Contains D (does f) × (left_effect l f ≡ Some e)) → (o : Option Effect) → left_effect l d ≡ o → Contains (onto o (left l D)) (does e) →
            (f : Effect) × Contains (does d ∷ D) (does f) × (left_effect l f ≡ Some e)
        by next None is c = let w = next c in (w.0, later_in (does d) D (does w.0) w.1, w.2)
        by next (Some f) is c =
            ⊎_elim (λ same. (d, head_in (does d) D, is ∙ ap Some (does_same same))) (λ later. (let w = next later in (w.0, later_in (does d) D (does w.0) w.1, w.2))) (in_cases (does f) (left l D) (does e) c)

    left_uses : (D : List Done) (k : ℕ) (e : Effect) → Contains (left l D) (uses k e) → Contains D (uses k e)
    left_uses [] k e c = absurd (nothing_in (uses k e) c)
    left_uses (uses j d ∷ D) k e c =
        ⊎_elim (λ same. subst (λ z. Contains (uses j d ∷ D) z) same (head_in (uses j d) D)) (λ later. later_in (uses j d) D (uses k e) (left_uses D k e later)) (in_cases (uses j d) (left l D) (uses k e) c)
    left_uses (does d ∷ D) k e c = later_in (does d) D (uses k e) (by (λ later. left_uses D k e later) (left_effect l d) c)
      where
        by : (Contains (left l D) (uses k e) → Contains D (uses k e)) → (o : Option Effect) → Contains (onto o (left l D)) (uses k e) → Contains D (uses k e)
        by next None c = next c
        by next (Some f) c = ⊎_elim (λ same. absurd (differ (sym same))) (λ later. next later) (in_cases (does f) (left l D) (uses k e) c)

    onto_kept : (o : Option Effect) (D : List Done) (x : Done) → Contains D x → Contains (onto o D) x
    onto_kept None D x c = c
    onto_kept (Some f) D x c = later_in (does f) D x c

    left_onto_kept : (o : Done) (D : List Done) (x : Done) → Contains D x → Contains (left_onto l o D) x
    left_onto_kept (does d) D x c = onto_kept (left_effect l d) D x c
    left_onto_kept (uses k d) D x c = later_in (uses k d) D x c

    onto_new : (o : Option Effect) (D : List Done) (e : Effect) → o ≡ Some e → Contains (onto o D) (does e)
    onto_new None D e is = cc
    onto_new (Some f) D e is = subst (λ z. Contains (does f ∷ D) (does z)) (some_same is) (head_in (does f) D)

    does_left : (D : List Done) (d e : Effect) → Contains D (does d) → left_effect l d ≡ Some e → Contains (left l D) (does e)
    does_left [] d e c is = absurd (nothing_in (does d) c)
    does_left (o ∷ D) d e c is =
        ⊎_elim (λ same. subst (λ z. Contains (left_onto l z (left l D)) (does e)) (sym same) (onto_new (left_effect l d) (left l D) e is))
        (λ later. left_onto_kept o (left l D) (does e) (does_left D d e later is)) (in_cases o D (does d) c)

    uses_left : (D : List Done) (k : ℕ) (e : Effect) → Contains D (uses k e) → Contains (left l D) (uses k e)
    uses_left [] k e c = absurd (nothing_in (uses k e) c)
    uses_left (o ∷ D) k e c =
        ⊎_elim (λ same. subst (λ z. Contains (left_onto l z (left l D)) (uses k e)) (sym same) (head_in (uses k e) (left l D)))
        (λ later. left_onto_kept o (left l D) (uses k e) (uses_left D k e later)) (in_cases o D (uses k e) c)

    -- the same of the checker's lists
    before_cases : (es : List Effect) (e : Effect) → Contains (all_left l es) e → (d : Effect) × Contains es d × (left_effect l d ≡ Some e)
    before_cases [] e c = absurd (nothing_in e c)
    before_cases (d ∷ es) e c = by (λ later. before_cases es e later) (left_effect l d) refl c
      where
        by : (Contains (all_left l es) e → (f : Effect) × Contains es f × (left_effect l f ≡ Some e)) → (o : Option Effect) → left_effect l d ≡ o → Contains (put_before o (all_left l es)) e →
            (f : Effect) × Contains (d ∷ es) f × (left_effect l f ≡ Some e)
        by next None is c = let w = next c in (w.0, later_in d es w.0 w.1, w.2)
        by next (Some f) is c = ⊎_elim (λ same. (d, head_in d es, is ∙ ap Some same)) (λ later. (let w = next later in (w.0, later_in d es w.0 w.1, w.2))) (in_cases f (all_left l es) e c)

    before_kept : (o : Option Effect) (es : List Effect) (e : Effect) → Contains es e → Contains (put_before o es) e
    before_kept None es e c = c
    before_kept (Some f) es e c = later_in f es e c

    before_new : (o : Option Effect) (es : List Effect) (e : Effect) → o ≡ Some e → Contains (put_before o es) e
    before_new None es e is = cc
    before_new (Some f) es e is = subst (λ z. Contains (f ∷ es) z) (some_same is) (head_in f es)

    in_left : (es : List Effect) (d e : Effect) → Contains es d → left_effect l d ≡ Some e → Contains (all_left l es) e
    in_left [] d e c is = absurd (nothing_in d c)
    in_left (x ∷ es) d e c is =
        ⊎_elim (λ same. subst (λ z. Contains (put_before (left_effect l z) (all_left l es)) e) (sym same) (before_new (left_effect l d) (all_left l es) e is))
        (λ later. before_kept (left_effect l x) (all_left l es) e (in_left es d e later is)) (in_cases x es d c)

pub gathered_from : (xs ys : List Effect) (e : Effect) → Contains (gathered xs ys) e → Contains xs e ⊎ Contains ys e
gathered_from xs [] e c = inl c
gathered_from xs (f ∷ ys) e c =
    ⊎_elim (λ first. ⊎_elim (λ here. inl here) (λ same. inr (subst (λ z. Contains (f ∷ ys) z) same (head_in f ys))) (added_from xs f e first)) (λ later. inr (later_in f ys e later)) (gathered_from (added xs f) ys e c)

pub gathered_kept : (xs ys : List Effect) (e : Effect) → Contains xs e → Contains (gathered xs ys) e
gathered_kept xs [] e c = c
gathered_kept xs (f ∷ ys) e c = gathered_kept (added xs f) ys e (added_kept xs f e c)

pub gathered_new : (xs ys : List Effect) (e : Effect) → Contains ys e → Contains (gathered xs ys) e
gathered_new xs [] e c = absurd (nothing_in e c)
gathered_new xs (f ∷ ys) e c =
    ⊎_elim (λ same. subst (λ z. Contains (gathered (added xs f) ys) z) same (gathered_kept (added xs f) ys f (added_new xs f))) (λ later. gathered_new (added xs f) ys e later) (in_cases f ys e c)

-- after a scope whose effects were gathered by themselves
pub taken : (l : Leaving) (f g : Found) (D : List Done) → Gathers nothing_found D g → Gathers f (left l D) (taken_in l f g)
taken l f g D h (does e) = (
  λ c. ⊎_elim (λ outer. inl outer)
      (λ inner.
      (let w = before_cases l g.effects e inner in
      inr (does_left l D w.0 e (⊎_elim (λ none. absurd (nothing_in w.0 none)) (λ there. there) ((h (does w.0)).0 w.1)) w.2)))
      (gathered_from f.effects (all_left l g.effects) e c),
  λ s. ⊎_elim (λ outer. gathered_kept f.effects (all_left l g.effects) e outer)
      (λ c. (let w = left_does l D e c in gathered_new f.effects (all_left l g.effects) e (in_left l g.effects w.0 e ((h (does w.0)).1 (inr w.1)) w.2))) s,
)
taken l f g D h (uses k e) = (
  λ i. ⊎_elim (λ outer. inl (i.0, outer, i.2, i.3))
      (λ inner. inr (uses_left l D k e (⊎_elim (λ none. absurd (nothing_in none.0 none.1)) (λ there. there) ((h (uses k e)).0 (i.0, inner, i.2, i.3)))))
      (Contains-append_cases f.uses g.uses i.0 i.1),
  λ s. ⊎_elim (λ i. (i.0, Contains-append_left f.uses g.uses i.0 i.1, i.2, i.3))
      (λ c. (let i = (h (uses k e)).1 (inr (left_uses l D k e c)) in (i.0, Contains-append_right f.uses g.uses i.0 i.1, i.2, i.3))) s,
)

-- tests of numbers

le_true : (a b : ℕ) → a ≤ b → nat_le a b ≡ true
le_true a b l = ⊎_elim (λ t. t) (λ f. absurd (let k = leb-false a b f in omega (arith, k, l))) (cases_Bool (nat_le a b))

le_false : (a b : ℕ) → b < a → nat_le a b ≡ false
le_false a b l = ⊎_elim (λ t. absurd (let k = leb-true a b t in omega (arith, k, l))) (λ f. f) (cases_Bool (nat_le a b))

-- what may be named by a piece that begins where so many slots and local regions are declared: what is in scope there, and
-- what is declared later

abbrev pub Later : (ℕ → Type 0) → ℕ → ℕ → Type 0
Later V n x = V x ⊎ (n ≤ x)

abbrev pub RawIn : Scope → ℕ → ℕ → Done → Type 0
RawIn L n m o = Over (Later (IsIndex L) n) (Later (IsRegion L) m) L o

abbrev pub AllRaw : Scope → ℕ → ℕ → List Done → Type 0
AllRaw L n m D = AllOver (Later (IsIndex L) n) (Later (IsRegion L) m) L D

-- the slots and the local regions in scope have numbers below these
pub record Below (L : Scope) (n m : ℕ) : Type 0 where
  pub locals : (x : ℕ) (l : Slot) → L.local x ≡ Some l → x < n
  pub regions : (r : ℕ) → IsRegion L r → r < m

raw_of : (L : Scope) (n m : ℕ) (o : Done) → DoneIn L o → RawIn L n m o
raw_of L n m (does e) h = elems_more (IsIndex L) (IsRegion L) (Later (IsIndex L) n) (Later (IsRegion L) m) (λ x k. inl k) (λ r k. inl k) e.rpl.elems h
raw_of L n m (uses k e) h = h.1

pub all_raw_of : (L : Scope) (n m : ℕ) (E : List Done) → AllDoneIn L E → AllRaw L n m E
all_raw_of L n m [] h = tt
all_raw_of L n m (o ∷ E) h = (raw_of L n m o h.0, all_raw_of L n m E h.1)

pub raw_append : (L : Scope) (n m : ℕ) (D F : List Done) → AllRaw L n m D → AllRaw L n m F → AllRaw L n m (D ++ F)
raw_append L n m [] F h k = k
raw_append L n m (o ∷ D) F h k = (h.0, raw_append L n m D F h.1 k)

-- where fewer were declared before
raw_before : (L M : Scope) (n m n' m' : ℕ) → ((x : ℕ) → Later (IsIndex M) n' x → Later (IsIndex L) n x) → ((r : ℕ) → Later (IsRegion M) m' r → Later (IsRegion L) m r) →
    ((k : ℕ) (t : PlainType) (a : Rpl) → M.local k ≡ Some (part t a) → L.local k ≡ Some (part t a)) → (o : Done) → RawIn M n' m' o → RawIn L n m o
raw_before L M n m n' m' variables regions parts (does e) h = elems_more (Later (IsIndex M) n') (Later (IsRegion M) m') (Later (IsIndex L) n) (Later (IsRegion L) m) variables regions e.rpl.elems h
raw_before L M n m n' m' variables regions parts (uses k e) h = (h.0, parts k h.0 e.rpl h.1)

pub all_raw_before : (L M : Scope) (n m n' m' : ℕ) → ((x : ℕ) → Later (IsIndex M) n' x → Later (IsIndex L) n x) → ((r : ℕ) → Later (IsRegion M) m' r → Later (IsRegion L) m r) →
    ((k : ℕ) (t : PlainType) (a : Rpl) → M.local k ≡ Some (part t a) → L.local k ≡ Some (part t a)) → (D : List Done) → AllRaw M n' m' D → AllRaw L n m D
all_raw_before L M n m n' m' variables regions parts [] h = tt
all_raw_before L M n m n' m' variables regions parts (o ∷ D) h = (raw_before L M n m n' m' variables regions parts o h.0, all_raw_before L M n m n' m' variables regions parts D h.1)

-- how a path is left by a first slot, and by another one

abbrev Same : (Elem → Elem) → (Elem → Elem) → (ℕ → Type 0) → Type 0
Same f g V = (e : Elem) → ElemNames V Anything e → f e ≡ g e

same_elems : (f g : Elem → Elem) (V R : ℕ → Type 0) → Same f g V → (es : List Elem) → ElemsName V R es → map f es ≡ map g es
same_elems f g V R same [] h = refl
same_elems f g V R same (e ∷ es) h = ap (λ z. z ∷ map f es) (same e (any_elem V R e h.0)) ∙ ap (λ z. g e ∷ z) (same_elems f g V Anything same es h.1)

variables_same : (f g : Elem → Elem) (V : ℕ → Type 0) → ((e : Elem) → ((x : ℕ) → e ≡ At (Variable x) → ⊥) → f e ≡ g e) → ((x : ℕ) → V x → f (At (Variable x)) ≡ g (At (Variable x))) → Same f g V
variables_same f g V other at (Name n) h = other (Name n) (λ x e. cc)
variables_same f g V other at (At (Literal k)) h = other (At (Literal k)) (λ x e. cc)
variables_same f g V other at (At (Variable x)) h = at x h
variables_same f g V other at (At (Renamed x)) h = other (At (Renamed x)) (λ y e. cc)
variables_same f g V other at (At (Own d)) h = other (At (Own d)) (λ x e. cc)
variables_same f g V other at Any h = other Any (λ x e. cc)
variables_same f g V other at Star h = other Star (λ x e. cc)
variables_same f g V other at (Local r n) h = other (Local r n) (λ x e. cc)

left_other : (n : ℕ) (e : Elem) → ((x : ℕ) → e ≡ At (Variable x) → ⊥) → left_elem n e ≡ e
left_other n (Name k) none = refl
left_other n (At (Literal k)) none = refl
left_other n (At (Variable x)) none = absurd (none x refl)
left_other n (At (Renamed x)) none = refl
left_other n (At (Own d)) none = refl
left_other n Any none = refl
left_other n Star none = refl
left_other n (Local r k) none = refl

general_other : (n : ℕ) (e : Elem) → ((x : ℕ) → e ≡ At (Variable x) → ⊥) → general_elem n e ≡ e
general_other n (Name k) none = refl
general_other n (At (Literal k)) none = refl
general_other n (At (Variable x)) none = absurd (none x refl)
general_other n (At (Renamed x)) none = refl
general_other n (At (Own d)) none = refl
general_other n Any none = refl
general_other n Star none = refl
general_other n (Local r k) none = refl

map_id : (es : List Elem) → map (λ e. e) es ≡ es
map_id [] = refl
map_id (e ∷ es) = ap (λ z. e ∷ z) (map_id es)

map_twice : (f g : Elem → Elem) (es : List Elem) → map f (map g es) ≡ map (λ e. f (g e)) es
map_twice f g [] = refl
map_twice f g (e ∷ es) = ap (λ z. f (g e) ∷ z) (map_twice f g es)

-- a path that names none of the later slots stays
pub path_kept : (V R : ℕ → Type 0) (n : ℕ) → ((x : ℕ) → V x → x < n) → (a : Rpl) → PathNames V R a → left_path n a ≡ a
path_kept V R n below a h = ap (λ z. record { head = a.head; elems = z }) (same_elems (left_elem n) (λ e. e) V R (variables_same (left_elem n) (λ e. e) V (left_other n) at) a.elems h ∙ map_id a.elems)
  where
    at : (x : ℕ) → V x → left_elem n (At (Variable x)) ≡ At (Variable x)
    at x v = ap (λ b. cond b Any (At (Variable x))) (le_false n x (below x v))

-- so does one where all later slots are those of both
path_further : (V R : ℕ → Type 0) (n n' : ℕ) → ((x : ℕ) → V x → ((x < n) × (x < n')) ⊎ ((n ≤ x) × (n' ≤ x))) → (a : Rpl) → PathNames V R a → left_path n a ≡ left_path n' a
path_further V R n n' sides a h =
    ap (λ z. record { head = a.head; elems = z }) (same_elems (left_elem n) (left_elem n') V R (variables_same (left_elem n) (left_elem n') V (λ e none. left_other n e none ∙ sym (left_other n' e none)) at) a.elems h)
  where
    at : (x : ℕ) → V x → left_elem n (At (Variable x)) ≡ left_elem n' (At (Variable x))
    at x v = ⊎_elim
        (λ both. ap (λ b. cond b Any (At (Variable x))) (le_false n x both.0 ∙ sym (le_false n' x both.1)))
        (λ both. ap (λ b. cond b Any (At (Variable x))) (le_true n x both.0 ∙ sym (le_true n' x both.1))) (sides x v)

-- one slot is left first, or the later ones
path_stepped : (n : ℕ) (a : Rpl) → left_path n a ≡ generalised n (left_path (n + 1) a)
unfolding generalised
path_stepped n a = ap (λ z. record { head = a.head; elems = z }) (same_elems (left_elem n) (λ e. general_elem n (left_elem (n + 1) e)) Anything Anything same a.elems (anything a.elems) ∙ sym (map_twice (general_elem n) (left_elem (n + 1)) a.elems))
  where
    any_elem : (e : Elem) → ElemNames Anything Anything e
    any_elem (Name n) = tt
    any_elem (At (Literal k)) = tt
    any_elem (At (Variable x)) = tt
    any_elem (At (Renamed x)) = tt
    any_elem (At (Own d)) = tt
    any_elem Any = tt
    any_elem Star = tt
    any_elem (Local r n) = tt

    anything : (es : List Elem) → ElemsName Anything Anything es
    anything [] = tt
    anything (e ∷ es) = (any_elem e, anything es)

    at : (x : ℕ) → cond (nat_le n x) Any (At (Variable x)) ≡ general_elem n (cond (nat_le (n + 1) x) Any (At (Variable x)))
    at x = ⊎_elim
        (λ t. (let l = leb-true (n + 1) x t in ap (λ b. cond b Any (At (Variable x))) (le_true n x (omega (arith, l))) ∙ sym (ap (λ b. general_elem n (cond b Any (At (Variable x)))) t)))
        (λ f. (let l = leb-false (n + 1) x f in here l ∙ sym (ap (λ b. general_elem n (cond b Any (At (Variable x)))) f))) (cases_Bool (nat_le (n + 1) x))
      where
        here : x < n + 1 → cond (nat_le n x) Any (At (Variable x)) ≡ cond (n == x) Any (At (Variable x))
        here l = ap (λ b. cond b Any (At (Variable x))) (⊎_elim
            (λ t. (let k = leb-true n x t in t ∙ sym (eq-eqb n x (omega (arith, k, l)))))
            (λ f. (let k = leb-false n x f in f ∙ sym (ne_eqb n x (λ e. omega (arith, k, e))))) (cases_Bool (nat_le n x)))

    same : Same (left_elem n) (λ e. general_elem n (left_elem (n + 1) e)) Anything
    same = variables_same (left_elem n) (λ e. general_elem n (left_elem (n + 1) e)) Anything
        (λ e none. left_other n e none ∙ sym (ap (general_elem n) (left_other (n + 1) e none) ∙ general_other n e none)) (λ x v. at x)

-- leaving at one slot where no later one is named
path_general : (V R : ℕ → Type 0) (n x : ℕ) → n ≤ x → ((y : ℕ) → V y → (y ≡ x) ⊎ (y < n)) → (a : Rpl) → PathNames V R a → left_path n a ≡ generalised x a
unfolding generalised
path_general V R n x from sides a h =
    ap (λ z. record { head = a.head; elems = z }) (same_elems (left_elem n) (general_elem x) V R (variables_same (left_elem n) (general_elem x) V (λ e none. left_other n e none ∙ sym (general_other x e none)) at) a.elems h)
  where
    at : (y : ℕ) → V y → left_elem n (At (Variable y)) ≡ general_elem x (At (Variable y))
    at y v = ap (λ b. cond b Any (At (Variable y))) (⊎_elim
        (λ e. (let l : n ≤ y = omega (arith, e, from) in le_true n y l ∙ sym (eq-eqb x y (sym e))))
        (λ l. le_false n y l ∙ sym (ne_eqb x y (λ e. omega (arith, l, e, from)))) (sides y v))

-- the first element of a path

first_kept : (V R : ℕ → Type 0) (m : ℕ) → ((r : ℕ) → R r → r < m) → (es : List Elem) → ElemsName V R es → begins_inside m es ≡ false
first_kept V R m below [] h = refl
first_kept V R m below (Name n ∷ es) h = refl
first_kept V R m below (At (Literal k) ∷ es) h = refl
first_kept V R m below (At (Variable x) ∷ es) h = refl
first_kept V R m below (At (Renamed x) ∷ es) h = refl
first_kept V R m below (At (Own d) ∷ es) h = refl
first_kept V R m below (Any ∷ es) h = refl
first_kept V R m below (Star ∷ es) h = refl
first_kept V R m below (Local r n ∷ es) h = le_false m r (below r h.0)

first_further : (V R : ℕ → Type 0) (m m' : ℕ) → ((r : ℕ) → R r → ((r < m) × (r < m')) ⊎ ((m ≤ r) × (m' ≤ r))) → (es : List Elem) → ElemsName V R es → begins_inside m es ≡ begins_inside m' es
first_further V R m m' sides [] h = refl
first_further V R m m' sides (Name n ∷ es) h = refl
first_further V R m m' sides (At (Literal k) ∷ es) h = refl
first_further V R m m' sides (At (Variable x) ∷ es) h = refl
first_further V R m m' sides (At (Renamed x) ∷ es) h = refl
first_further V R m m' sides (At (Own d) ∷ es) h = refl
first_further V R m m' sides (Any ∷ es) h = refl
first_further V R m m' sides (Star ∷ es) h = refl
first_further V R m m' sides (Local r n ∷ es) h = ⊎_elim (λ both. le_false m r both.0 ∙ sym (le_false m' r both.1)) (λ both. le_true m r both.0 ∙ sym (le_true m' r both.1)) (sides r h.0)

-- the marks that are left

abbrev pub marked_by : Marks → Done → Done
marked_by marks.Kept o = o
marked_by marks.Dropped o = marked false o
marked_by marks.Set o = marked true o

abbrev effect_with : Marks → Effect → Rpl → Effect
effect_with m e a = record { access = e.access; atomic = left_mark m e.atomic; rpl = a }

does_marked : (m : Marks) (e : Effect) → does (effect_with m e e.rpl) ≡ marked_by m (does e)
does_marked marks.Kept e = refl
does_marked marks.Dropped e = refl
does_marked marks.Set e = refl

uses_marked : (m : Marks) (k : ℕ) (e : Effect) → uses k e ≡ marked_by m (uses k e)
uses_marked marks.Kept k e = refl
uses_marked marks.Dropped k e = refl
uses_marked marks.Set k e = refl

does_general : (m : Marks) (x : ℕ) (e : Effect) → does (effect_with m e (generalised x e.rpl)) ≡ mapped (λ d. record d { rpl = generalised x d.rpl }) (marked_by m (does e))
does_general marks.Kept x e = refl
does_general marks.Dropped x e = refl
does_general marks.Set x e = refl

uses_general : (m : Marks) (x k : ℕ) (e : Effect) → generalised x e.rpl ≡ e.rpl → uses k e ≡ mapped (λ d. record d { rpl = generalised x d.rpl }) (marked_by m (uses k e))
uses_general marks.Kept x k e same = ap (λ z. uses k (record e { rpl = z })) (sym same)
uses_general marks.Dropped x k e same = ap (λ z. uses k (record e { rpl = z })) (sym same)
uses_general marks.Set x k e same = ap (λ z. uses k (record e { rpl = z })) (sym same)

-- where none of the later slots and regions is named
module _ (l : Leaving) (V R : ℕ → Type 0) (N : Scope) (slots : (x : ℕ) → V x → x < l.first_slot) (regions : (r : ℕ) → R r → r < l.first_region)
  where
    effect_kept : (e : Effect) → PathNames V R e.rpl → left_effect l e ≡ Some (effect_with l.marks e e.rpl)
    effect_kept e h =
        ap (λ b. cond b None (Some (effect_with l.marks e (left_path l.first_slot e.rpl)))) (first_kept V R l.first_region regions e.rpl.elems h)
        ∙ ap (λ z. Some (effect_with l.marks e z)) (path_kept V R l.first_slot slots e.rpl h)

    one_kept : (o : Done) (rest : List Done) → Over V R N o → left_onto l o rest ≡ marked_by l.marks o ∷ rest
    one_kept (does e) rest h = ap (λ z. onto z rest) (effect_kept e h) ∙ ap (λ z. z ∷ rest) (does_marked l.marks e)
    one_kept (uses k e) rest h = ap (λ z. z ∷ rest) (uses_marked l.marks k e)

    pub left_kept : (E : List Done) → AllOver V R N E → left l E ≡ map (marked_by l.marks) E
    left_kept [] h = refl
    left_kept (o ∷ E) h = one_kept o (left l E) h.0 ∙ ap (λ z. marked_by l.marks o ∷ z) (left_kept E h.1)

-- where one of the later slots is named, and no part is of a path that names it
module _ (l : Leaving) (V R : ℕ → Type 0) (N : Scope) (x : ℕ) (from : l.first_slot ≤ x) (slots : (y : ℕ) → V y → (y ≡ x) ⊎ (y < l.first_slot)) (regions : (r : ℕ) → R r → r < l.first_region)
    (parts : (k : ℕ) (t : PlainType) (a : Rpl) → N.local k ≡ Some (part t a) → generalised x a ≡ a)
  where
    effect_general : (e : Effect) → PathNames V R e.rpl → left_effect l e ≡ Some (effect_with l.marks e (generalised x e.rpl))
    effect_general e h =
        ap (λ b. cond b None (Some (effect_with l.marks e (left_path l.first_slot e.rpl)))) (first_kept V R l.first_region regions e.rpl.elems h)
        ∙ ap (λ z. Some (effect_with l.marks e z)) (path_general V R l.first_slot x from slots e.rpl h)

    one_general : (o : Done) (rest : List Done) → Over V R N o → left_onto l o rest ≡ mapped (λ d. record d { rpl = generalised x d.rpl }) (marked_by l.marks o) ∷ rest
    one_general (does e) rest h = ap (λ z. onto z rest) (effect_general e h) ∙ ap (λ z. z ∷ rest) (does_general l.marks x e)
    one_general (uses k e) rest h = ap (λ z. z ∷ rest) (uses_general l.marks x k e (parts k h.0 e.rpl h.1))

    pub left_general : (E : List Done) → AllOver V R N E → left l E ≡ outside_variable x (map (marked_by l.marks) E)
    left_general [] h = refl
    left_general (o ∷ E) h = one_general o (left l E) h.0 ∙ ap (λ z. mapped (λ d. record d { rpl = generalised x d.rpl }) (marked_by l.marks o) ∷ z) (left_general E h.1)

-- where later slots and regions are later ones of both
module _ (n m n' m' : ℕ) (V R : ℕ → Type 0) (N : Scope) (slots : (x : ℕ) → V x → ((x < n) × (x < n')) ⊎ ((n ≤ x) × (n' ≤ x))) (regions : (r : ℕ) → R r → ((r < m) × (r < m')) ⊎ ((m ≤ r) × (m' ≤ r)))
  where
    abbrev from_first : Leaving
    from_first = record { first_slot = n; first_region = m; marks = marks.Kept }

    abbrev from_second : Leaving
    from_second = record { first_slot = n'; first_region = m'; marks = marks.Kept }

    one_further : (o : Done) (rest : List Done) → Over V R N o → left_onto from_first o rest ≡ left_onto from_second o rest
    one_further (does e) rest h =
        ap (λ b. onto (cond b None (Some (effect_with marks.Kept e (left_path n e.rpl)))) rest) (first_further V R m m' regions e.rpl.elems h)
        ∙ ap (λ z. onto (cond (begins_inside m' e.rpl.elems) None (Some (effect_with marks.Kept e z))) rest) (path_further V R n n' slots e.rpl h)
    one_further (uses k e) rest h = refl

    pub left_further : (D : List Done) → AllOver V R N D → left from_first D ≡ left from_second D
    left_further [] h = refl
    left_further (o ∷ D) h = one_further o (left from_first D) h.0 ∙ ap (left_onto from_second o) (left_further D h.1)

-- one slot is left after the later ones
module _ (n m : ℕ) (V R : ℕ → Type 0) (N : Scope) (parts : (k : ℕ) (t : PlainType) (a : Rpl) → N.local k ≡ Some (part t a) → generalised n a ≡ a)
  where
    abbrev from_here : Leaving
    from_here = record { first_slot = n; first_region = m; marks = marks.Kept }

    abbrev from_next : Leaving
    from_next = record { first_slot = n + 1; first_region = m; marks = marks.Kept }

    one_stepped : (o : Done) (rest : List Done) → Over V R N o → left_onto from_here o (outside_variable n rest) ≡ outside_variable n (left_onto from_next o rest)
    one_stepped (does e) rest h = by (begins_inside m e.rpl.elems)
      where
        by : (b : Bool) → onto (cond b None (Some (effect_with marks.Kept e (left_path n e.rpl)))) (outside_variable n rest) ≡ outside_variable n (onto (cond b None (Some (effect_with marks.Kept e (left_path (n + 1) e.rpl)))) rest)
        by true = refl
        by false = ap (λ z. does (effect_with marks.Kept e z) ∷ outside_variable n rest) (path_stepped n e.rpl)
    one_stepped (uses k e) rest h = ap (λ z. uses k (record e { rpl = z }) ∷ outside_variable n rest) (sym (parts k h.0 e.rpl h.1))

    pub left_stepped : (D : List Done) → AllOver V R N D → left from_here D ≡ outside_variable n (left from_next D)
    left_stepped [] h = refl
    left_stepped (o ∷ D) h = ap (left_onto from_here o) (left_stepped D h.1) ∙ one_stepped o (left from_next D) h.0

-- the local regions between two numbers are left after the later ones
module _ (n m m' : ℕ) (rs : List ℕ) (V R : ℕ → Type 0) (N : Scope) (further : m ≤ m') (between : (r : ℕ) → m ≤ r → r < m' → list_any (λ q. r == q) rs ≡ true)
    (none : (r : ℕ) → r < m → list_any (λ q. r == q) rs ≡ false) (parts : (k : ℕ) (t : PlainType) (a : Rpl) → N.local k ≡ Some (part t a) → begins_in rs a.elems ≡ false)
  where
    abbrev from_begin : Leaving
    from_begin = record { first_slot = n; first_region = m; marks = marks.Kept }

    abbrev from_end : Leaving
    from_end = record { first_slot = n; first_region = m'; marks = marks.Kept }

    data Sides (es : List Elem) : Type 0 where
      later : begins_inside m es ≡ true → begins_inside m' es ≡ true → Sides es
      among : begins_inside m es ≡ true → begins_inside m' es ≡ false → begins_in rs es ≡ true → Sides es
      before : begins_inside m es ≡ false → begins_inside m' es ≡ false → begins_in rs es ≡ false → Sides es

    sides : (es : List Elem) → Sides es
    sides [] = before refl refl refl
    sides (Name k ∷ es) = before refl refl refl
    sides (At (Literal k) ∷ es) = before refl refl refl
    sides (At (Variable x) ∷ es) = before refl refl refl
    sides (At (Renamed x) ∷ es) = before refl refl refl
    sides (At (Own d) ∷ es) = before refl refl refl
    sides (Any ∷ es) = before refl refl refl
    sides (Star ∷ es) = before refl refl refl
    sides (Local r k ∷ es) = ⊎_elim
        (λ t. (let a = leb-true m r t in ⊎_elim (λ u. later t u) (λ f. (let b = leb-false m' r f in among t f (between r a b))) (cases_Bool (nat_le m' r))))
        (λ f. (let b = leb-false m r f in before f (le_false m' r (omega (arith, b, further))) (none r b))) (cases_Bool (nat_le m r))

    left_begins : (es : List Elem) → begins_in rs (map (left_elem n) es) ≡ begins_in rs es
    left_begins [] = refl
    left_begins (Name k ∷ es) = refl
    left_begins (At (Literal k) ∷ es) = refl
    left_begins (At (Variable x) ∷ es) = by (nat_le n x)
      where
        by : (b : Bool) → begins_in rs (cond b Any (At (Variable x)) ∷ map (left_elem n) es) ≡ false
        by true = refl
        by false = refl
    left_begins (At (Renamed x) ∷ es) = refl
    left_begins (At (Own d) ∷ es) = refl
    left_begins (Any ∷ es) = refl
    left_begins (Star ∷ es) = refl
    left_begins (Local r k ∷ es) = refl

    one_region : (o : Done) (rest : List Done) → Over V R N o → left_onto from_begin o (outside_regions rs rest) ≡ outside_regions rs (left_onto from_end o rest)
    one_region (does e) rest h = by (begins_inside m e.rpl.elems) (begins_inside m' e.rpl.elems) (sides e.rpl.elems) refl refl
      where
        abbrev' : Effect
        abbrev' = effect_with marks.Kept e (left_path n e.rpl)

        kept : (c : Bool) → begins_in rs (map (left_elem n) e.rpl.elems) ≡ c → outside_regions rs (does abbrev' ∷ rest) ≡ cond (not c) (does abbrev' ∷ outside_regions rs rest) (outside_regions rs rest)
        kept c is = ap (λ z. cond (not z) (does abbrev' ∷ outside_regions rs rest) (outside_regions rs rest)) is

        by : (b c : Bool) → Sides e.rpl.elems → begins_inside m e.rpl.elems ≡ b → begins_inside m' e.rpl.elems ≡ c →
            onto (cond b None (Some abbrev')) (outside_regions rs rest) ≡ outside_regions rs (onto (cond c None (Some abbrev')) rest)
        by true true s is_b is_c = refl
        by true false (among p q in_rs) is_b is_c = sym (kept true (left_begins e.rpl.elems ∙ in_rs))
        by true false (later p q) is_b is_c = absurd (false≢true (sym is_c ∙ q))
        by true false (before p q out) is_b is_c = absurd (false≢true (sym p ∙ is_b))
        by false false (before p q out) is_b is_c = sym (kept false (left_begins e.rpl.elems ∙ out))
        by false false (later p q) is_b is_c = absurd (false≢true (sym is_b ∙ p))
        by false false (among p q in_rs) is_b is_c = absurd (false≢true (sym is_b ∙ p))
        by false true (before p q out) is_b is_c = absurd (false≢true (sym q ∙ is_c))
        by false true (later p q) is_b is_c = absurd (false≢true (sym is_b ∙ p))
        by false true (among p q in_rs) is_b is_c = absurd (false≢true (sym is_b ∙ p))
    one_region (uses k e) rest h = sym (ap (λ z. cond (not z) (uses k e ∷ outside_regions rs rest) (outside_regions rs rest)) (parts k h.0 e.rpl h.1))

    pub left_regions : (D : List Done) → AllOver V R N D → left from_begin D ≡ outside_regions rs (left from_end D)
    left_regions [] h = refl
    left_regions (o ∷ D) h = ap (left_onto from_begin o) (left_regions D h.1) ∙ one_region o (left from_end D) h.0
