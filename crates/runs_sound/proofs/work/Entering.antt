-- A member that is entered at an object begins in a frame that fits, and does what its caller's types and effects say.
use Rattle.std.proofs.Common.{◌≡◌, ◌<◌, inl, inr, ℕ, zero, suc, true, List, [], ◌∷◌, ◌++◌, length, refl, sym, ap, ◌∙◌, subst, arith, Option, Some, None, IsTrue, slice_get, slice_index_or}
use Rattle.std.specs.Prelude.{All, option_map}
use Rattle.std.specs.List.{AllZip}
use Rattle.std.proofs.lemmas.List.{get_or_append_left}
use Rattle.std.proofs.lemmas.List.Elements.{All-head, All-tail, All-cons, All-append}
use Rattle.std.proofs.lemmas.Bool.{false≢true}
use Rattle.std.proofs.lemmas.Option.{slice_get_within}
use Rattle.lang_base.specs.declared.effect.Constraint.{Constraint}
use Rattle.lang_base.specs.declared.elems.Elem.{Elem}
use Rattle.lang_base.specs.declared.elems.Elem.TheVariants.{At, Any, Star, Local}
use Rattle.lang_base.specs.declared.elems.Elem.TheVariants as elem
use Rattle.lang_base.specs.declared.elems.Index.TheVariants.{Literal, Variable, Renamed, Own}
use Rattle.lang_base.specs.declared.region.Head.TheVariants.{Param}
use Rattle.lang_base.specs.declared.region.Rpl.{Rpl}
use Rattle.lang_base.specs.Apart.{apart}
use Rattle.lang_base.specs.Matching.{Env, IsEnv, Holds, put_in}
use Rattle.lang_base.specs.Regions.{within, fully_specified, substituted}
use Rattle.lang_base.specs.Types.{PlainType, int, boolean, void, null, class, array}
use Rattle.lang_typed.specs.Plain.{PlainProgram, PlainClass, PlainMember}
use Rattle.lang_typed.specs.Scope.{Scope, variable, frozen, constant, part, member_at}
use Rattle.lang_typed.specs.Scope.{Local as ScopeLocal}
use Rattle.lang_typed.specs.Table.{params_from, own_paths, class_scope, member_scope, first_locals, body_scope, GoodMember, GoodConstraint}
use Rattle.lang_typed.specs.Types.{GoodType}
use Rattle.lang_typed.specs.WellTyped.{WellTyped}
use Rattle.lang_meaning.specs.Counts.{padded}
use Rattle.lang_meaning.specs.Expressions.{entered}
use Rattle.lang_meaning.specs.Regions.{unmade_from}
use Rattle.region_paths.proofs.Putting.{specified_matches_one}
use Rattle.region_paths.proofs.Envs.{stays_apart}
use Rattle.runs_theory.specs.Objects.{Path, Value, Null, Object, Region}
use Rattle.runs_theory.specs.Objects.{Name as ObjectName}
use Rattle.runs_program.specs.Steps.{named_by}
use Rattle.runs_sound.specs.Settings.{elems_of, ArePlain, EndAtomic, class_setting, class_env}
use Rattle.runs_sound.specs.Shapes.{object, Is, AllMatch, GoodObject, Instance, FitsIn}
use Rattle.runs_sound.specs.Frames.{State, LocalFits, FrameFits}
use Rattle.runs_sound.specs.Scopes.{InScope, PathInScope, TypeInScope, LocalInScope, GoodScope}
use Rattle.runs_sound.proofs.paths.Atomic.{both_atomic}
use Rattle.runs_sound.proofs.scopes.Closed.{ClosedPath, closed_holds, closed_path}
use Rattle.runs_sound.proofs.scopes.Codes.{unmade_one}
use Rattle.runs_sound.proofs.paths.Including.{includes_own, includes_up, put_root}
use Rattle.runs_sound.proofs.classes.Types.{Stands}
use Rattle.runs_sound.proofs.classes.Classes.{all_get}
use Rattle.runs_sound.proofs.scopes.InScope.{good_type, good_path}
use Rattle.runs_sound.proofs.classes.Members.{Shown, class_params, plain_both}

-- what stands for a path lies in the path with arguments put in

pub within_put : (n : ℕ) (env inner : Env) (args : List Rpl) → Stands n 0 env inner args → (a : Rpl) → ClosedPath n 0 a →
    within (put_in inner a) (put_in env (substituted args a)) ≡ true
within_put n env inner args s a c = subst (λ z. within z (put_in env (substituted args a)) ≡ true) (sym (put_root inner a))
    (includes_up n env inner args s a c (put_in inner a).elems (includes_own inner a))

-- constraints that hold with arguments put in hold of the regions that these match
pub given_holds : (n : ℕ) (given : List Constraint) (env inner : Env) (args : List Rpl) → IsEnv given env → Stands n 0 env inner args →
    (cs : List Constraint) →
    All (λ (c : Constraint). ClosedPath n 0 c.left × ClosedPath n 0 c.right) cs → All (λ (c : Constraint). IsTrue
    (apart given (substituted args c.left) (substituted args c.right))) cs → All (Holds inner) cs
given_holds n given env inner args v s cs cl h = λ k c l.
    (let z = cl k c l in
    let x = slice_index_or cs k c in
    stays_apart given env v (substituted args x.left) (substituted args x.right) (put_in inner x.left) (put_in inner x.right) (h k c l)
    (within_put n env inner args s x.left z.0) (within_put n env inner args s x.right z.1))

-- the slots of a frame

padded_at : (n x : ℕ) (vs : List Value) → x < n → slice_index_or (padded n vs) x Null ≡ slice_index_or vs x Null
padded_at zero x vs l = absurd (omega (arith, l))
padded_at (suc n) zero [] l = refl
padded_at (suc n) zero (v ∷ vs) l = refl
padded_at (suc n) (suc x) [] l = padded_at n x [] (omega (arith, l))
padded_at (suc n) (suc x) (v ∷ vs) l = padded_at n x vs (omega (arith, l))

padded_length : (n : ℕ) (vs : List Value) → length (padded n vs) ≡ n
padded_length zero vs = refl
padded_length (suc n) [] = ap (λ k. suc k) (padded_length n [])
padded_length (suc n) (v ∷ vs) = ap (λ k. suc k) (padded_length n vs)

unmade_length : (p : Path) (r n : ℕ) → length (unmade_from (named_by p) r n) ≡ n
unmade_length p r zero = refl
unmade_length p r (suc n) = ap (λ k. suc k) (unmade_length p (suc r) n)

shown_match : (env : Env) (args : List Rpl) (rs : List Region) → Shown env args rs → AllMatch env args rs
shown_match env args rs s = go args rs s.puts s.full
  where
    go : (args : List Rpl) (rs : List Region) → AllZip (λ a r. elems_of r ≡ (put_in env a).elems) args rs →
        All (λ a. IsTrue (fully_specified a)) args → AllMatch env args rs
    go [] [] p f = tt
    go [] (r ∷ rs) p f = p
    go (a ∷ args) [] p f = p
    go (a ∷ args) (r ∷ rs) p f = (
      (specified_matches_one env a (All-head (λ a. IsTrue (fully_specified a)) a args f) (elems_of r)).1 p.0,
      go args rs p.1
          (All-tail (λ a. IsTrue (fully_specified a)) a args f),
    )

-- in another scope, where nothing but region parameters is spoken of
module _ (M L : Scope) (none : (x : ℕ) → M.local x ≡ None) (no_region : (r : ℕ) → M.regions r ≡ true → ⊥) where
  other_elem : (D : ℕ) (x : Elem) → InScope M D x → InScope L D x
  other_elem D (elem.Name n) g = tt
  other_elem D (At (Literal k)) g = tt
  other_elem D (At (Variable x)) g = absurd (let e : None ≡ Some (constant int) = sym (none x) ∙ g in cc)
  other_elem D (At (Renamed x)) g = g
  other_elem D (At (Own d)) g = g
  other_elem D Any g = tt
  other_elem D Star g = tt
  other_elem D (Local r n) g = absurd (no_region r g.1)

  pub other_type : (D : ℕ) (t : PlainType) → TypeInScope M D t → TypeInScope L D t
  other_type D int g = tt
  other_type D boolean g = tt
  other_type D void g = tt
  other_type D null g = tt
  other_type D (class c args) g = λ k d l j e m. other_elem D _ (g k d l j e m)
  other_type D (array t a named) g = (λ j e m. other_elem (suc D) _ (g.0 j e m), other_type (suc D) t g.1, g.2)

module _ (P : PlainProgram) (wt : WellTyped P) (n : ℕ) (m : PlainMember) (there : member_at P n ≡ Some m) where
  abbrev good : GoodMember P wt.member_nd_free n m
  good = wt.members n m there

  abbrev pub scope : Scope
  scope = body_scope good.class wt.member_nd_free n m

  formal_local : (x : ℕ) (o : Option PlainType) (l : ScopeLocal) → option_map variable o ≡ Some l → (t : PlainType) × (o ≡ Some t) × (l ≡ variable t)
  formal_local x None l e = absurd (let z : None ≡ Some l = e in cc)
  formal_local x (Some t) l e = (t, refl, (let z : Some (variable t) ≡ Some l = e in cc))

  params_in : (L : Scope) (j k : ℕ) → All (PathInScope L 0) (params_from j k)
  params_in L j zero = λ i d l. absurd (omega (arith, l))
  params_in L j (suc k) = All-cons (PathInScope L 0) (record { head = Param j; elems = [] }) (params_from (suc j) k)
      (λ i d l. absurd (omega (arith, l))) (params_in L (suc j) k)

  constraint_in : (M : Scope) → ((y : ℕ) → M.local y ≡ None) → ((r : ℕ) → M.regions r ≡ true → ⊥) → (c : Constraint) → GoodConstraint P M c →
      PathInScope scope 0 c.left × PathInScope scope 0 c.right
  constraint_in M none nor c h = (
    λ k d l. other_elem M scope none nor 0 _
        (good_path P M 0 c.left h.0 k d l),
    λ k d l. other_elem M scope none nor 0 _ (good_path P M 0 c.right h.1 k d l),
  )

  pub body_good : GoodScope scope
  body_good = record {
    each = go;
    slots = slots;
    parts = λ k t a e. absurd (no_part k t a e);
    result = λ t e. (let z : m.result ≡ t = cc in subst (TypeInScope scope 0) z (elim good.result [
      | inl v ↦ subst (TypeInScope scope 0) (sym v) tt
      | inr r ↦ other_type (member_scope good.class m) scope (λ y. refl) (λ r t. false≢true t) 0 m.result (good_type P (member_scope good.class m) 0 m.result r)
    ]));
    given = All-append (λ (c : Constraint). PathInScope scope 0 c.left × PathInScope scope 0 c.right) good.class.given m.given
        (λ k c l. constraint_in (class_scope good.class) (λ y. refl) (λ r t. false≢true t) _ ((wt.classes m.class good.class good.is).given k c l))
        (λ k c l. constraint_in (member_scope good.class m) (λ y. refl) (λ r t. false≢true t) _ (good.given k c l));
  }
    where
      go : (x : ℕ) (l : ScopeLocal) → first_locals good.class m x ≡ Some l → LocalInScope scope l
      go zero l e = let z : frozen (class m.class (own_paths good.class)) ≡ l = cc in subst (LocalInScope scope) z (params_in scope 0 (length good.class.params))
      go (suc x) l e =
          let z = formal_local x (slice_get m.formals x) l e in
          subst (LocalInScope scope) (sym z.2)
          (other_type (member_scope good.class m) scope (λ y. refl) (λ r t. false≢true t) 0 z.0
          (good_type P (member_scope good.class m) 0 z.0 (all_get (GoodType P (member_scope good.class m) 0) m.formals x z.0 good.formals z.1)))

      slots : (x : ℕ) (l : ScopeLocal) → first_locals good.class m x ≡ Some l → x < m.slots
      slots zero l e = let r = good.room in omega (arith, r)
      slots (suc x) l e = let z = formal_local x (slice_get m.formals x) l e in let w = slice_get_within m.formals x z.0 z.1 in let r = good.room in omega (arith, r, w)

      no_part : (x : ℕ) (t : PlainType) (a : Rpl) → first_locals good.class m x ≡ Some (part t a) → ⊥
      no_part zero t a e = let z : Some (frozen (class m.class (own_paths good.class))) ≡ Some (part t a) = e in cc
      no_part (suc x) t a e = let z = formal_local x (slice_get m.formals x) (part t a) e in let q : part t a ≡ variable z.0 = z.2 in cc

  -- the frame in which it begins, at an object or as its constructor
  pub entered_fits : (path : Path) (st : State) (zs own : List Region) (left : ℕ) → GoodObject P m.class zs → ArePlain own → EndAtomic P.region_names m.params own →
      All (Holds (class_env (zs ++ own))) m.given →
      (o : ObjectName) → (d : ℕ) (made : List Region) → st.shapes o ≡ Some (object d made) → GoodObject P d made → Is P d made m.class zs →
      (vs : List Value) → ((x : ℕ) (t : PlainType) → slice_get m.formals x ≡ Some t →
      FitsIn P st.shapes (class_env (zs ++ own)) t (slice_index_or vs x Null)) →
      FrameFits P path st (class_setting (zs ++ own)) scope (entered (named_by path) m (Object o ∷ vs) (zs ++ own) left)
  entered_fits path st zs own left gz plain own_atomic given o d made shape gd is_one vs fits = record {
    regions = refl;
    plain = plain_both P wt zs own gz.plain plain;
    atomic = both_atomic P.region_names good.class.params m.params zs own arity (subst (λ (k : PlainClass). EndAtomic P.region_names k.params zs) same_class gz.atomic) own_atomic;
    given = All-append (Holds (class_env (zs ++ own))) good.class.given m.given class_given given;
    index = λ x e. absurd (no_constant x e);
    made = λ r e. absurd (false≢true e);
    distinct = unmade_one;
    old = λ r. refl;
    slots = padded_length m.slots (Object o ∷ vs);
    local_regions = unmade_length path 0 m.local_regions;
    each = each;
  }
    where
      same_class : gz.class ≡ good.class
      same_class = let z : Some gz.class ≡ Some good.class = sym gz.is ∙ good.is in cc

      arity : length zs ≡ length good.class.params
      arity = gz.arity ∙ ap (λ (k : PlainClass). length k.params) same_class

      class_given : All (Holds (class_env (zs ++ own))) good.class.given
      class_given = λ k c l.
          (let z = (wt.classes m.class good.class good.is).given k c l in
          closed_holds (length good.class.params) (class_env zs) (class_env (zs ++ own))
          (record { region = λ p h. ap elems_of (sym (get_or_append_left zs own [] p (omega (arith, h, arity)))); own = λ d h. refl }) _
          (closed_path P (class_scope good.class) (λ y. refl) 0 _ z.0) (closed_path P (class_scope good.class) (λ y. refl) 0 _ z.1)
          (subst (λ (q : PlainClass). All (Holds (class_env zs)) q.given) same_class gz.given k c l))

      no_constant : (x : ℕ) → first_locals good.class m x ≡ Some (constant int) → ⊥
      no_constant zero e = let z : Some (frozen (class m.class (own_paths good.class))) ≡ Some (constant int) = e in cc
      no_constant (suc x) e = let z = formal_local x (slice_get m.formals x) (constant int) e in let q : constant int ≡ variable z.0 = z.2 in cc

      this : Instance P st.shapes (class_env (zs ++ own)) m.class (own_paths good.class) o
      this = record {
        class = d;
        made_with = made;
        regions = zs;
        shape = shape;
        good = gd;
        is_one = is_one;
        matches = subst (λ k. AllMatch (class_env (zs ++ own)) (params_from 0 k) zs) arity
            (shown_match (class_env (zs ++ own)) (params_from 0 (length zs)) zs (class_params zs own));
      }

      values : List Value
      values = padded m.slots (Object o ∷ vs)

      each : (x : ℕ) (l : ScopeLocal) → first_locals good.class m x ≡ Some l →
          LocalFits P st.shapes (class_setting (zs ++ own)) (padded m.slots (Object o ∷ vs)) x l
      each zero l e =
          let z : frozen (class m.class (own_paths good.class)) ≡ l = cc in
          let s = padded_at m.slots zero (Object o ∷ vs) (let r = good.room in omega (arith, r)) in
          subst (λ l. LocalFits P st.shapes (class_setting (zs ++ own)) (padded m.slots (Object o ∷ vs)) zero l) z
          (subst (FitsIn P st.shapes (class_env (zs ++ own)) (class m.class (own_paths good.class))) (sym s) this)
      each (suc x) l e =
          let z = formal_local x (slice_get m.formals x) l e in
          let s = padded_at m.slots (suc x) (Object o ∷ vs) (let r = good.room in let w = slice_get_within m.formals x z.0 z.1 in omega (arith, r, w)) in
          subst (λ l. LocalFits P st.shapes (class_setting (zs ++ own)) (padded m.slots (Object o ∷ vs)) (suc x) l) (sym z.2)
          (subst (FitsIn P st.shapes (class_env (zs ++ own)) z.0) (sym s) (fits x z.0 z.1))
