-- Paths and types of a class speak of its region parameters, of names, numbers and own indices alone: what they match depends on
-- the regions of these parameters.
use Rattle.std.proofs.Common.{◌≡◌, ◌<◌, ℕ, ℤ, zero, suc, true, List, [], ◌∷◌, ◌++◌, map, length, refl, sym, ap, ◌∙◌, subst, arith, Some, None, inl, inr}
use Rattle.std.specs.Prelude.{All}
use Rattle.std.proofs.lemmas.List.Elements.{All-head, All-tail}
use Rattle.lang_base.specs.declared.elems.Elem.{Elem}
use Rattle.lang_base.specs.declared.elems.Elem.TheVariants.{Name, At, Any, Star, Local}
use Rattle.lang_base.specs.declared.elems.Index.TheVariants.{Literal, Variable, Renamed, Own}
use Rattle.lang_base.specs.declared.region.Head.{Head}
use Rattle.lang_base.specs.declared.region.Head.TheVariants.{Root, Param}
use Rattle.lang_base.specs.declared.region.Rpl.{Rpl}
use Rattle.lang_base.specs.declared.effect.Constraint.{Constraint}
use Rattle.lang_base.specs.Apart.{apart}
use Rattle.lang_base.specs.Matching.{Env, Holds, put_elem, put_in, head_region, Matches}
use Rattle.lang_base.specs.Types.{PlainType, int, boolean, void, null, class, array}
use Rattle.lang_typed.specs.Plain.{PlainProgram}
use Rattle.lang_typed.specs.Scope.{Scope, constant}
use Rattle.lang_typed.specs.Types.{GoodElem, GoodHead, GoodPath, GoodType}
use Rattle.region_paths.specs.Laws.{AgreeOn}
use Rattle.region_paths.proofs.Reading.{matches_by_what_occurs}
use Rattle.runs_sound.specs.Settings.{after_own, under}

abbrev pub IsClosed : ℕ → Elem → Type 0
IsClosed depth (Name n) = Unit {0}
IsClosed depth (At (Literal k)) = Unit {0}
IsClosed depth (At (Own d)) = d < depth
IsClosed depth (At (Variable x)) = ⊥
IsClosed depth (At (Renamed x)) = ⊥
IsClosed depth Any = Unit {0}
IsClosed depth Star = Unit {0}
IsClosed depth (Local r n) = ⊥

-- with fewer region parameters than this
pub record ClosedPath (n depth : ℕ) (a : Rpl) : Type 0 where
  pub head : (p : ℕ) → a.head ≡ Param p → p < n
  pub elems : All (IsClosed depth) a.elems

abbrev pub ClosedType : ℕ → ℕ → PlainType → Type 0
ClosedType n depth (class c args) = All (ClosedPath n depth) args
ClosedType n depth (array t a named) = ClosedPath n (suc depth) a × ClosedType n (suc depth) t
ClosedType n depth int = Unit {0}
ClosedType n depth boolean = Unit {0}
ClosedType n depth void = Unit {0}
ClosedType n depth null = Unit {0}

-- environments that agree on these parameters, and on the own indices of so many array types around
pub record Agrees (n depth : ℕ) (env other : Env) : Type 0 where
  pub region : (p : ℕ) → p < n → env.region p ≡ other.region p
  pub own : (d : ℕ) → d < depth → env.own d ≡ other.own d

pub agrees_back : {n depth : ℕ} {env other : Env} → Agrees n depth env other → Agrees n depth other env
agrees_back a = record { region = λ p l. sym (a.region p l); own = λ d l. sym (a.own d l) }

own_under : (depth : ℕ) (k : ℤ) (f g : ℕ → ℤ) → ((d : ℕ) → d < depth → f d ≡ g d) → (d : ℕ) → d < suc depth → after_own k f d ≡ after_own k g d
own_under depth k f g h zero l = refl
own_under depth k f g h (suc d) l = h d (omega (arith, l))

pub agrees_under : {n depth : ℕ} {env other : Env} (k : ℤ) → Agrees n depth env other → Agrees n (suc depth) (under k env) (under k other)
agrees_under {n} {depth} {env} {other} k a = record { region = a.region; own = own_under depth k env.own other.own a.own }

elem_agree : (n depth : ℕ) (env other : Env) → Agrees n depth env other → (x : Elem) → IsClosed depth x → put_elem env x ≡ put_elem other x
elem_agree n depth env other a (Name m) c = refl
elem_agree n depth env other a (At (Literal k)) c = refl
elem_agree n depth env other a (At (Own d)) c = ap (λ z. At (Literal z)) (a.own d c)
elem_agree n depth env other a (At (Variable x)) c = absurd c
elem_agree n depth env other a (At (Renamed x)) c = absurd c
elem_agree n depth env other a Any c = refl
elem_agree n depth env other a Star c = refl
elem_agree n depth env other a (Local r m) c = absurd c

head_agree : (n depth : ℕ) (env other : Env) → Agrees n depth env other → (h : Head) → ((p : ℕ) → h ≡ Param p → p < n) →
    head_region env h ≡ head_region other h
head_agree n depth env other a Root c = refl
head_agree n depth env other a (Param p) c = a.region p (c p refl)

pub agree_on : (n depth : ℕ) (env other : Env) → Agrees n depth env other → (a : Rpl) → ClosedPath n depth a → AgreeOn env other a
agree_on n depth env other g a c = record { head = head_agree n depth env other g a.head c.head; elems = λ k d l. elem_agree n depth env other g _ (c.elems k d l) }

pub closed_matches : (n depth : ℕ) (env other : Env) → Agrees n depth env other → (a : Rpl) → ClosedPath n depth a → (r : List Elem) →
    Matches env a r → Matches other a r
closed_matches n depth env other g a c r m = (matches_by_what_occurs env other a (agree_on n depth env other g a c) r).0 m

pub map_agree : (env other : Env) (a : List Elem) → All (λ x. put_elem env x ≡ put_elem other x) a → map (put_elem env) a ≡ map (put_elem other) a
map_agree env other [] h = refl
map_agree env other (x ∷ a) h =
    let e = All-head (λ x. put_elem env x ≡ put_elem other x) x a h in
    let t = map_agree env other a (All-tail (λ x. put_elem env x ≡ put_elem other x) x a h) in
    λ i. e i ∷ t i

pub put_agree : (env other : Env) (a : Rpl) → AgreeOn env other a → put_in env a ≡ put_in other a
unfolding put_in
put_agree env other a g =
    let e = g.head in
    let t = map_agree env other a.elems g.elems in
    λ i. record { head = Root; elems = e i ++ t i }

pub closed_put : (n depth : ℕ) (env other : Env) → Agrees n depth env other → (a : Rpl) → ClosedPath n depth a → put_in env a ≡ put_in other a
closed_put n depth env other g a c = put_agree env other a (agree_on n depth env other g a c)

pub closed_holds : (n : ℕ) (env other : Env) → Agrees n 0 env other → (c : Constraint) → ClosedPath n 0 c.left → ClosedPath n 0 c.right → Holds env c →
    Holds other c
closed_holds n env other g c l r h =
    ap (λ z. apart [] z (put_in other c.right)) (sym (closed_put n 0 env other g c.left l)) ∙ ap (λ z. apart [] (put_in env c.left) z)
    (sym (closed_put n 0 env other g c.right r)) ∙ h

-- where no local and no local region is in scope, what is well formed is closed
module _ (P : PlainProgram) (L : Scope) (none : (x : ℕ) → L.local x ≡ None) where
  closed_elem : (depth : ℕ) (x : Elem) → GoodElem P L depth x → IsClosed depth x
  closed_elem depth (Name n) g = tt
  closed_elem depth (At (Literal k)) g = tt
  closed_elem depth (At (Variable x)) g = let e : None ≡ Some (constant int) = sym (none x) ∙ g in cc
  closed_elem depth (At (Renamed x)) g = g
  closed_elem depth (At (Own d)) g = g
  closed_elem depth Any g = tt
  closed_elem depth Star g = tt
  closed_elem depth (Local r n) g = g

  closed_head : (h : Head) → GoodHead L h → (p : ℕ) → h ≡ Param p → p < length L.atomic
  closed_head Root g p e = let q : Root ≡ Param p = e in cc
  closed_head (Param q) g p e = let s : q ≡ p = cc in subst (λ z. z < length L.atomic) s g

  pub closed_path : (depth : ℕ) (a : Rpl) → GoodPath P L depth a → ClosedPath (length L.atomic) depth a
  closed_path depth a g = record { head = closed_head a.head g.begins; elems = λ k d l. closed_elem depth _ (g.elems k d l) }

  module _ (no_region : (r : ℕ) → L.regions r ≡ true → ⊥) where
    pub closed_type : (depth : ℕ) (t : PlainType) → GoodType P L depth t → ClosedType (length L.atomic) depth t
    closed_type depth int g = tt
    closed_type depth boolean g = tt
    closed_type depth void g = absurd g
    closed_type depth null g = absurd g
    closed_type depth (class c args) g = λ k d l. closed_path depth _ (g.2.paths k d l)
    closed_type depth (array t a named) g = (
      elim g.0 [
        | inl p ↦ closed_path (suc depth) a p
        | inr q ↦ absurd
            (no_region q.0.region q.0.in_scope)
      ],
      closed_type (suc depth) t g.1,
    )
