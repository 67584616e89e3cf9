-- Which regions lie in a path, where an environment is put in: also regions that have `*` and `[?]` in them.
use Rattle.std.proofs.Common.{◌≡◌, ⊎_elim, ℕ, ℤ, true, false, ◌==◌, cond, List, [], ◌∷◌, ◌++◌, map, refl, sym, ap, ◌∙◌, subst, arith, append_assoc, IsTrue}
use Rattle.std.specs.Prelude.{All}
use Rattle.std.proofs.lemmas.Bool.{and_parts, cases_Bool, cond-true, cond-false, false≢true}
use Rattle.std.proofs.lemmas.List.{map-append}
use Rattle.std.proofs.lemmas.List.Elements.{All-head, All-tail}
use Rattle.lang_base.specs.declared.effect.Constraint.{Constraint}
use Rattle.lang_base.specs.declared.elems.Elem.{Elem}
use Rattle.lang_base.specs.declared.elems.Elem.TheVariants.{Name, At, Any, Star, Local}
use Rattle.lang_base.specs.declared.elems.Index.TheVariants.{Literal, Variable, Renamed, Own}
use Rattle.lang_base.specs.declared.region.Head.{Head}
use Rattle.lang_base.specs.declared.region.Head.TheVariants.{Root, Param}
use Rattle.lang_base.specs.declared.region.Rpl.{Rpl}
use Rattle.lang_base.specs.Apart.{apart}
use Rattle.lang_base.specs.Matching.{is_plain, all_plain, number_of, Env, IsEnv, put_elem, put_in, head_region, Fits, FitsAll, Matches}
use Rattle.lang_base.specs.Regions.{is_star, is_local, elem_within, within, fully_specified, argument, put_at, substituted, general_elem, generalised}
use Rattle.region_paths.proofs.Inclusion.{Covers, one, stop, skip, none, Covers-from, Covers-to, Covers-append, Covers-refl, Covers-trans, elem_within-cases, elem_within-refl, within-refl, within-trans}
use Rattle.region_paths.proofs.Putting.{specified_matches_one}
use Rattle.region_paths.proofs.Envs.{apart_self, put-within, stays_apart}
use Rattle.lang_typed.specs.Scope.{Scope}
use Rattle.runs_sound.specs.Settings.{Setting, env_of, with_number}
use Rattle.runs_sound.specs.Accesses.{at_root, Includes}
use Rattle.runs_sound.specs.Scopes.{InScope, PathInScope}
use Rattle.runs_sound.proofs.scopes.Closed.{ClosedPath, closed_put}
use Rattle.runs_sound.proofs.classes.Types.{Stands}

-- as a derivation
pub covers_of : (env : Env) (a : Rpl) (r : List Elem) → Includes env a r → Covers (head_region env a.head ++ map (put_elem env) a.elems) r
unfolding within put_in
covers_of env a r h = Covers-from (head_region env a.head ++ map (put_elem env) a.elems) r h

pub of_covers : (env : Env) (a : Rpl) (r : List Elem) → Covers (head_region env a.head ++ map (put_elem env) a.elems) r → Includes env a r
unfolding within put_in
of_covers env a r h = Covers-to h

pub put_elems : (env : Env) (a : Rpl) → (put_in env a).elems ≡ head_region env a.head ++ map (put_elem env) a.elems
unfolding put_in
put_elems env a = refl

pub put_root : (env : Env) (a : Rpl) → put_in env a ≡ at_root (put_in env a).elems
unfolding put_in
put_root env a = refl

-- a path includes its own elements, with the environment put in
pub includes_own : (env : Env) (a : Rpl) → Includes env a (put_in env a).elems
unfolding put_in
includes_own env a = within-refl (put_in env a)

pub includes_same : (env other : Env) (a b : Rpl) (r : List Elem) → put_in env a ≡ put_in other b → Includes env a r → Includes other b r
includes_same env other a b r e h = subst (λ z. within (at_root r) z ≡ true) e h

pub includes_within : (env other : Env) (a b : Rpl) (r : List Elem) → within (put_in env a) (put_in other b) ≡ true → Includes env a r → Includes other b r
includes_within env other a b r w h = within-trans (at_root r) (put_in env a) (put_in other b) h w

-- what a path includes, one that it lies in includes
pub includes_more : (given : List Constraint) (env : Env) → IsEnv given env → (a b : Rpl) → within a b ≡ true → (r : List Elem) → Includes env a r → Includes env b r
includes_more given env v a b w r h = includes_within env env a b r (put-within given env v a b w) h

-- regions in paths that are apart are apart, and so no region is in both
pub includes_apart : (given : List Constraint) (env : Env) → IsEnv given env → (a b : Rpl) → apart given a b ≡ true → (r q : List Elem) → Includes env a r → Includes env b q →
    apart [] (at_root r) (at_root q) ≡ true
includes_apart given env v a b h r q m n = stays_apart given env v a b (at_root r) (at_root q) h m n

pub none_in_both : (given : List Constraint) (env : Env) → IsEnv given env → (a b : Rpl) → apart given a b ≡ true → (r : List Elem) → Includes env a r → Includes env b r → ⊥
none_in_both given env v a b h r m n = apart_self (at_root r) (includes_apart given env v a b h r r m n)

-- a local region lies in itself alone
pub local_within : (x y : Elem) → is_local y ≡ true → elem_within x y ≡ true → x ≡ y
local_within x y l w = ⊎_elim (λ e. e) (λ p. absurd (false≢true (sym (ap is_local p.0) ∙ l))) (elem_within-cases x y w)

-- a region that a path matches lies in it

plain_local : (x : Elem) → is_plain x ≡ true → is_local x ≡ false
plain_local (Name n) h = refl
plain_local (At (Literal k)) h = refl
plain_local (At (Variable v)) h = refl
plain_local (At (Renamed v)) h = refl
plain_local (At (Own d)) h = refl
plain_local Any h = refl
plain_local Star h = refl
plain_local (Local r n) h = absurd (false≢true h)

star_plain : (r b a : List Elem) → all_plain r ≡ true → Covers (Star ∷ b) a → Covers (Star ∷ b) (r ++ a)
star_plain [] b a h d = d
star_plain (x ∷ r) b a h d = let p = and_parts (is_plain x) _ h in skip (plain_local x p.0) (star_plain r b a p.1 d)

one_fits : (env : Env) (x y : Elem) (r : List Elem) → r ≡ y ∷ [] → elem_within y (put_elem env x) ≡ true → is_star (put_elem env x) ≡ false → {b a : List Elem} → Covers b a →
    Covers (put_elem env x ∷ b) (r ++ a)
one_fits env x y r e w s {b = b} {a = a} d = subst (λ z. Covers (put_elem env x ∷ b) (z ++ a)) (sym e) (one w s d)

piece_covers : (env : Env) (x : Elem) (r : List Elem) → Fits env x r → {b a : List Elem} → Covers b a → Covers (put_elem env x ∷ b) (r ++ a)
piece_covers env (Name n) r f d = one_fits env (Name n) (Name n) r f (elem_within-refl (Name n)) refl d
piece_covers env (At i) r f d = let k = At (Literal (number_of env i)) in one_fits env (At i) k r f (elem_within-refl k) refl d
piece_covers env Any r f d = one_fits env Any (At (Literal f.0)) r f.1 refl refl d
piece_covers env Star r f {b = b} {a = a} d = star_plain r b a f (stop d)
piece_covers env (Local m n) r f d =
    one_fits env (Local m n) (Local (env.made m n).0 (env.made m n).1) r f (elem_within-refl (Local (env.made m n).0 (env.made m n).1)) refl d

fits_covers : (env : Env) (a r : List Elem) → FitsAll env a r → Covers (map (put_elem env) a) r
fits_covers env [] r f = subst (λ z. Covers [] z) (sym f) none
fits_covers env (x ∷ a) r f = subst (λ z. Covers (put_elem env x ∷ map (put_elem env) a) z) (sym f.2) (piece_covers env x f.0 f.3 (fits_covers env a f.1 f.4))

pub includes_matched : (env : Env) (a : Rpl) (r : List Elem) → Matches env a r → Includes env a r
unfolding Matches
includes_matched env a r m = of_covers env a r (subst (λ z. Covers (head_region env a.head ++ map (put_elem env) a.elems) z) (sym m.1)
    (Covers-append (Covers-refl (head_region env a.head)) (fits_covers env a.elems m.0 m.2)))

-- outside the scope of an index variable

general_covers : (g : Setting) (x : ℕ) (k : ℤ) (L : Scope) (a : List Elem) → All (InScope L 0) a →
    Covers (map (put_elem (env_of g)) (map (general_elem x) a)) (map (put_elem (env_of (with_number x k g))) a)
general_covers g x k L [] s = none
general_covers g x k L (y ∷ a) s = go y (All-head (InScope L 0) y a s) (general_covers g x k L a (All-tail (InScope L 0) y a s))
  where
    here : (z w : Elem) → elem_within w z ≡ true → is_star z ≡ false → Covers (map (put_elem (env_of g)) (map (general_elem x) a)) (map (put_elem (env_of (with_number x k g))) a) →
        Covers (z ∷ map (put_elem (env_of g)) (map (general_elem x) a)) (w ∷ map (put_elem (env_of (with_number x k g))) a)
    here z w e n rest = one e n rest

    go : (y : Elem) → InScope L 0 y → Covers (map (put_elem (env_of g)) (map (general_elem x) a)) (map (put_elem (env_of (with_number x k g))) a) →
        Covers (put_elem (env_of g) (general_elem x y) ∷ map (put_elem (env_of g)) (map (general_elem x) a))
        (put_elem (env_of (with_number x k g)) y ∷ map (put_elem (env_of (with_number x k g))) a)
    go (Name n) i rest = here (Name n) (Name n) (elem_within-refl (Name n)) refl rest
    go (At (Literal j)) i rest = here (At (Literal j)) (At (Literal j)) (elem_within-refl (At (Literal j))) refl rest
    go (At (Variable w)) i rest = ⊎_elim
        (λ t. subst (λ z. Covers (put_elem (env_of g) z ∷ map (put_elem (env_of g)) (map (general_elem x) a))
        (At (Literal (cond (x == w) k (g.index w))) ∷ map (put_elem (env_of (with_number x k g))) a)) (sym (cond-true (x == w) Any (At (Variable w)) t))
        (here Any (At (Literal (cond (x == w) k (g.index w)))) refl refl rest))
        (λ f. subst (λ z. Covers (put_elem (env_of g) z ∷ map (put_elem (env_of g)) (map (general_elem x) a))
        (At (Literal (cond (x == w) k (g.index w))) ∷ map (put_elem (env_of (with_number x k g))) a)) (sym (cond-false (x == w) Any (At (Variable w)) f))
        (subst (λ j. Covers (At (Literal (g.index w)) ∷ map (put_elem (env_of g)) (map (general_elem x) a)) (At (Literal j) ∷ map (put_elem (env_of (with_number x k g))) a))
        (sym (cond-false (x == w) k (g.index w) f)) (here (At (Literal (g.index w))) (At (Literal (g.index w))) (elem_within-refl (At (Literal (g.index w)))) refl rest)))
        (cases_Bool (x == w))
    go (At (Renamed w)) i rest = absurd i
    go (At (Own d)) i rest = absurd (omega (arith, i))
    go Any i rest = here Any Any refl refl rest
    go Star i rest = skip refl (stop rest)
    go (Local r n) i rest = let l = Local ((env_of g).made r n).0 ((env_of g).made r n).1 in here l l (elem_within-refl l) refl rest

head_number : (g : Setting) (x : ℕ) (k : ℤ) (h : Head) → head_region (env_of (with_number x k g)) h ≡ head_region (env_of g) h
head_number g x k Root = refl
head_number g x k (Param p) = refl

pub includes_general : (g : Setting) (x : ℕ) (k : ℤ) (L : Scope) (a : Rpl) → PathInScope L 0 a → (r : List Elem) → Includes (env_of (with_number x k g)) a r →
    Includes (env_of g) (generalised x a) r
unfolding generalised
includes_general g x k L a s r h = of_covers (env_of g) (generalised x a) r (Covers-trans
    (subst (λ z. Covers (head_region (env_of g) a.head ++ map (put_elem (env_of g)) (map (general_elem x) a.elems)) (z ++ map (put_elem (env_of (with_number x k g))) a.elems))
    (sym (head_number g x k a.head)) (Covers-append (Covers-refl (head_region (env_of g) a.head)) (general_covers g x k L a.elems s)))
    (covers_of (env_of (with_number x k g)) a r h))

-- where arguments are put in

root_put : (env inner : Env) (a : List Elem) → (n : ℕ) (h : Head) → ClosedPath n 0 (record { head = h; elems = a }) → map (put_elem inner) a ≡ map (put_elem env) a
unfolding put_in
root_put env inner a n h c =
    ap (λ (z : Rpl). z.elems) (closed_put 0 0 inner env (record { region = λ p l. absurd (omega (arith, l)); own = λ d l. absurd (omega (arith, l)) }) (record { head = Root; elems = a })
    (record { head = λ p e. (let q : Root ≡ Param p = e in absurd (cc)); elems = c.elems }))

-- the elements of an argument, and after them
argument_elems : (env : Env) (arg : Rpl) (a : List Elem) →
    (head_region env arg.head ++ map (put_elem env) arg.elems) ++ map (put_elem env) a ≡ head_region env arg.head ++ map (put_elem env) (arg.elems ++ a)
argument_elems env arg a = append_assoc (head_region env arg.head) (map (put_elem env) arg.elems) (map (put_elem env) a)
    ∙ ap (λ z. head_region env arg.head ++ z) (sym (map-append (put_elem env) arg.elems a))

up_covers : (n : ℕ) (env inner : Env) (args : List Rpl) → Stands n 0 env inner args → (h : Head) (a : List Elem) → ClosedPath n 0 (record { head = h; elems = a }) →
    Covers (head_region env (put_at h a args).head ++ map (put_elem env) (put_at h a args).elems) (head_region inner h ++ map (put_elem inner) a)
up_covers n env inner args s Root a c = subst (λ z. Covers (map (put_elem env) a) z) (sym (root_put env inner a n Root c)) (Covers-refl (map (put_elem env) a))
up_covers n env inner args s (Param p) a c =
    let arg = argument args p in
    let m = covers_of env arg (inner.region p) (includes_matched env arg (inner.region p) (s.match p (c.head p refl))) in
    subst (λ z. Covers z (inner.region p ++ map (put_elem inner) a)) (argument_elems env arg a)
    (Covers-append m (subst (λ z. Covers (map (put_elem env) a) z) (sym (root_put env inner a n (Param p) c)) (Covers-refl (map (put_elem env) a))))

pub includes_up : (n : ℕ) (env inner : Env) (args : List Rpl) → Stands n 0 env inner args → (a : Rpl) → ClosedPath n 0 a → (r : List Elem) → Includes inner a r →
    Includes env (substituted args a) r
unfolding substituted
includes_up n env inner args s a c r h = of_covers env (substituted args a) r (Covers-trans (up_covers n env inner args s a.head a.elems c) (covers_of inner a r h))

down_same : (n : ℕ) (env inner : Env) (args : List Rpl) → Stands n 0 env inner args → ((p : ℕ) → IsTrue (fully_specified (argument args p))) → (h : Head) (a : List Elem) →
    ClosedPath n 0 (record { head = h; elems = a }) →
    head_region env (put_at h a args).head ++ map (put_elem env) (put_at h a args).elems ≡ head_region inner h ++ map (put_elem inner) a
down_same n env inner args s full Root a c = sym (root_put env inner a n Root c)
down_same n env inner args s full (Param p) a c =
    let arg = argument args p in
    let e = (specified_matches_one env arg (full p) (inner.region p)).0 (s.match p (c.head p refl)) ∙ put_elems env arg in
    let k = root_put env inner a n (Param p) c in
    sym (argument_elems env arg a) ∙ (λ i. (sym e) i ++ (sym k) i)

pub includes_down : (n : ℕ) (env inner : Env) (args : List Rpl) → Stands n 0 env inner args → ((p : ℕ) → IsTrue (fully_specified (argument args p))) → (a : Rpl) → ClosedPath n 0 a →
    (r : List Elem) → Includes env (substituted args a) r → Includes inner a r
unfolding substituted
includes_down n env inner args s full a c r h =
    of_covers inner a r (subst (λ z. Covers z r) (down_same n env inner args s full a.head a.elems c) (covers_of env (substituted args a) r h))
