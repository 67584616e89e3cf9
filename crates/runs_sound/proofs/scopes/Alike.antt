-- Settings that are alike in what a scope speaks of: its types have the same values, and its frames fit both.
use Rattle.std.proofs.Common.{◌≡◌, ◌≢◌, ◌<◌, ℕ, ℤ, zero, suc, ◌+◌, false, List, [], length, refl, sym, ap, ◌∙◌, subst, arith, Some, IsTrue, slice_set}
use Rattle.std.proofs.lemmas.List.{get_or-set_same, get_or-set_other}
use Rattle.lang_base.specs.declared.effect.Constraint.{Constraint}
use Rattle.lang_base.specs.declared.elems.Elem.{Elem}
use Rattle.lang_base.specs.declared.elems.Elem.TheVariants.{Name, At, Any, Star, Local}
use Rattle.lang_base.specs.declared.elems.Index.TheVariants.{Literal, Variable, Renamed, Own}
use Rattle.lang_base.specs.declared.region.Head.{Head}
use Rattle.lang_base.specs.declared.region.Head.TheVariants.{Root, Param}
use Rattle.lang_base.specs.declared.region.Rpl.{Rpl}
use Rattle.lang_base.specs.Apart.{apart}
use Rattle.lang_base.specs.Matching.{Env, Holds, put_elem, put_in, head_region, Matches}
use Rattle.lang_base.specs.Types.{PlainType, int, boolean, void, null, class, array}
use Rattle.lang_typed.specs.Plain.{PlainProgram}
use Rattle.lang_typed.specs.Scope.{Scope, variable, frozen, constant, part, reserved}
use Rattle.lang_typed.specs.Scope.{Local as ScopeLocal}
use Rattle.lang_meaning.specs.Counts.{number, slot_value}
use Rattle.region_paths.specs.Laws.{AgreeOn}
use Rattle.region_paths.proofs.Reading.{matches_by_what_occurs}
use Rattle.runs_theory.specs.Objects.{Value}
use Rattle.runs_sound.specs.Settings.{Setting, region_in, env_of, local_code, after_own, under}
use Rattle.runs_sound.specs.Shapes.{Shapes, SameIn, FitsIn}
use Rattle.runs_sound.specs.Frames.{LocalFits}
use Rattle.runs_sound.specs.Scopes.{InScope, PathInScope, TypeInScope, LocalInScope}
use Rattle.runs_sound.specs.Accesses.{Includes}
use Rattle.runs_sound.proofs.paths.Including.{includes_same}
use Rattle.runs_sound.proofs.scopes.Closed.{put_agree}
use Rattle.runs_sound.proofs.classes.Types.{match_same, fits_same}

-- environments that agree on what is in scope, with so many array types around
pub record EnvAlike (L : Scope) (depth : ℕ) (env other : Env) : Type 0 where
  pub region : (p : ℕ) → env.region p ≡ other.region p
  pub index : (x : ℕ) → L.local x ≡ Some (constant int) → env.index x ≡ other.index x
  pub made : (r : ℕ) → IsTrue (L.regions r) → env.made r 0 ≡ other.made r 0
  pub own : (d : ℕ) → d < depth → env.own d ≡ other.own d

pub alike_back : {L : Scope} {depth : ℕ} {env other : Env} → EnvAlike L depth env other → EnvAlike L depth other env
alike_back a = record { region = λ p. sym (a.region p); index = λ x e. sym (a.index x e); made = λ r i. sym (a.made r i); own = λ d l. sym (a.own d l) }

own_alike : (depth : ℕ) (k : ℤ) (f g : ℕ → ℤ) → ((d : ℕ) → d < depth → f d ≡ g d) → (d : ℕ) → d < suc depth → after_own k f d ≡ after_own k g d
own_alike depth k f g h zero l = refl
own_alike depth k f g h (suc d) l = h d (omega (arith, l))

pub alike_under : {L : Scope} {depth : ℕ} {env other : Env} (k : ℤ) → EnvAlike L depth env other → EnvAlike L (suc depth) (under k env) (under k other)
alike_under {L} {depth} {env} {other} k a = record { region = a.region; index = a.index; made = a.made; own = own_alike depth k env.own other.own a.own }

elem_alike : (L : Scope) (depth : ℕ) (env other : Env) → EnvAlike L depth env other → (x : Elem) → InScope L depth x → put_elem env x ≡ put_elem other x
elem_alike L depth env other a (Name n) s = refl
elem_alike L depth env other a (At (Literal k)) s = refl
elem_alike L depth env other a (At (Variable x)) s = ap (λ z. At (Literal z)) (a.index x s)
elem_alike L depth env other a (At (Renamed x)) s = absurd s
elem_alike L depth env other a (At (Own d)) s = ap (λ z. At (Literal z)) (a.own d s)
elem_alike L depth env other a Any s = refl
elem_alike L depth env other a Star s = refl
elem_alike L depth env other a (Local r n) s =
    let e = a.made r s.1 in
    let k : n ≡ 0 = s.0 in
    subst (λ z. put_elem env (Local r z) ≡ put_elem other (Local r z)) (sym k) (λ i. Local (e i).0 (e i).1)

head_alike : (env other : Env) → ((p : ℕ) → env.region p ≡ other.region p) → (h : Head) → head_region env h ≡ head_region other h
head_alike env other e Root = refl
head_alike env other e (Param p) = e p

pub alike_on : (L : Scope) (depth : ℕ) (env other : Env) → EnvAlike L depth env other → (a : Rpl) → PathInScope L depth a → AgreeOn env other a
alike_on L depth env other g a s = record { head = head_alike env other g.region a.head; elems = λ k d l. elem_alike L depth env other g _ (s k d l) }

pub alike_matches : (L : Scope) (depth : ℕ) (env other : Env) → EnvAlike L depth env other → (a : Rpl) → PathInScope L depth a → (r : List Elem) →
    Matches env a r → Matches other a r
alike_matches L depth env other g a s r m = (matches_by_what_occurs env other a (alike_on L depth env other g a s) r).0 m

pub alike_includes : (L : Scope) (depth : ℕ) (env other : Env) → EnvAlike L depth env other → (a : Rpl) → PathInScope L depth a → (r : List Elem) →
    Includes env a r → Includes other a r
alike_includes L depth env other g a s r m = includes_same env other a a r (put_agree env other a (alike_on L depth env other g a s)) m

pub alike_holds : (L : Scope) (env other : Env) → EnvAlike L 0 env other → (c : Constraint) → PathInScope L 0 c.left → PathInScope L 0 c.right →
    Holds env c → Holds other c
alike_holds L env other g c l r h =
    ap (λ z. apart [] z (put_in other c.right)) (sym (put_agree env other c.left (alike_on L 0 env other g c.left l)))
    ∙ ap (λ z. apart [] (put_in env c.left) z) (sym (put_agree env other c.right (alike_on L 0 env other g c.right r))) ∙ h

pub alike_same : (L : Scope) (depth : ℕ) (env other : Env) → EnvAlike L depth env other → (t : PlainType) → TypeInScope L depth t → SameIn env t other t
alike_same L depth env other g int s = tt
alike_same L depth env other g boolean s = tt
alike_same L depth env other g void s = tt
alike_same L depth env other g null s = tt
alike_same L depth env other g (class c args) s = (
  refl,
  λ rs. (
    match_same env other args (λ k x l. alike_matches L depth env other g _ (s k x l)) rs,
    match_same other env args
        (λ k x l. alike_matches L depth other env (alike_back g) _ (s k x l)) rs,
  ),
)
alike_same L depth env other g (array t a named) s = (
  λ k r. (
    alike_matches L (suc depth) (under k env) (under k other) (alike_under k g) a s.0 r,
    alike_matches L (suc depth) (under k other)
        (under k env) (alike_back (alike_under k g)) a s.0 r,
  ),
  λ k. alike_same L (suc depth) (under k env) (under k other) (alike_under k g) t s.1,
)

-- settings that agree on what is in scope
pub record Alike (L : Scope) (g k : Setting) : Type 0 where
  pub regions : g.regions ≡ k.regions
  pub index : (x : ℕ) → L.local x ≡ Some (constant int) → g.index x ≡ k.index x
  pub made : (r : ℕ) → IsTrue (L.regions r) → g.made r ≡ k.made r
  pub part : (x : ℕ) (t : PlainType) (a : Rpl) → L.local x ≡ Some (part t a) → g.part x ≡ k.part x

pub setting_back : {L : Scope} {g k : Setting} → Alike L g k → Alike L k g
setting_back a = record { regions = sym a.regions; index = λ x e. sym (a.index x e); made = λ r i. sym (a.made r i); part = λ x t b e. sym (a.part x t b e) }

pub setting_alike : {L : Scope} {g k : Setting} → Alike L g k → EnvAlike L 0 (env_of g) (env_of k)
setting_alike {L} {g} {k} a = record {
  region = λ p. ap (λ rs. region_in rs p) a.regions;
  index = a.index;
  made = λ r i. ap local_code (a.made r i);
  own = λ d l. refl;
}

pub fits_alike : (P : PlainProgram) (S : Shapes) (L : Scope) (g k : Setting) → Alike L g k → (t : PlainType) → TypeInScope L 0 t → (v : Value) →
    FitsIn P S (env_of g) t v → FitsIn P S (env_of k) t v
fits_alike P S L g k a t s v f = fits_same P S (env_of g) t (env_of k) t (alike_same L 0 (env_of g) (env_of k) (setting_alike a) t s) v f

pub local_alike : (P : PlainProgram) (S : Shapes) (L : Scope) (g k : Setting) → Alike L g k → (vs : List Value) (x : ℕ) (l : ScopeLocal) →
    L.local x ≡ Some l → LocalInScope L l → LocalFits P S g vs x l → LocalFits P S k vs x l
local_alike P S L g k a vs x (variable t) e s f = fits_alike P S L g k a t s (slot_value vs x) f
local_alike P S L g k a vs x (frozen t) e s f = fits_alike P S L g k a t s (slot_value vs x) f
local_alike P S L g k a vs x (constant t) e s f = fits_alike P S L g k a t s (slot_value vs x) f
local_alike P S L g k a vs x (part t b) e s f = record {
  no_index = f.no_index;
  none_mentioned = f.none_mentioned;
  array = fits_alike P S L g k a (array t b false) s (slot_value vs x) f.array;
  first = f.first;
  len = f.len;
  places = sym (a.part x t b e) ∙ f.places;
}
local_alike P S L g k a vs x reserved e s f = tt

-- a slot that is set

pub set_other : (vs : List Value) (x y : ℕ) (v : Value) → y ≢ x → slot_value (slice_set vs x v) y ≡ slot_value vs y
set_other vs x y v ne = get_or-set_other vs x y v _ ne

pub set_same : (vs : List Value) (x : ℕ) (v : Value) → x < length vs → slot_value (slice_set vs x v) x ≡ v
set_same vs x v l = get_or-set_same vs x v _ l

-- locals whose slots are left alone
pub local_kept : (P : PlainProgram) (S : Shapes) (g : Setting) (vs : List Value) (z : ℕ) (v : Value) (x : ℕ) (l : ScopeLocal) → x ≢ z →
    ((t : PlainType) (a : Rpl) → l ≡ part t a → (x + 1 ≢ z) × (x + 2 ≢ z)) →
    LocalFits P S g vs x l → LocalFits P S g (slice_set vs z v) x l
local_kept P S g vs z v x (variable t) ne np f = subst (FitsIn P S (env_of g) t) (sym (set_other vs z x v ne)) f
local_kept P S g vs z v x (frozen t) ne np f = subst (FitsIn P S (env_of g) t) (sym (set_other vs z x v ne)) f
local_kept P S g vs z v x (constant t) ne np f = subst (FitsIn P S (env_of g) t) (sym (set_other vs z x v ne)) f
local_kept P S g vs z v x (part t a) ne np f =
    let n = np t a refl in
    let e0 = sym (set_other vs z x v ne) in
    let e1 = sym (set_other vs z (x + 1) v n.0) in
    let e2 = sym (set_other vs z (x + 2) v n.1) in
    record {
      no_index = f.no_index;
      none_mentioned = f.none_mentioned;
      array = subst (FitsIn P S (env_of g) (array t a false)) e0 f.array;
      first = subst (FitsIn P S (env_of g) int) e1 f.first;
      len = subst (FitsIn P S (env_of g) int) e2 f.len;
      places = f.places ∙ (λ i. record { array = e0 i; first = number (e1 i); len = number (e2 i) });
    }
local_kept P S g vs z v x reserved ne np f = tt
