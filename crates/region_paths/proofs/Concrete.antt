-- Concrete regions: what is matched is one, and one that lies in a path with the environment put in is matched.
use Rattle.std.proofs.Common.{◌≡◌, pos, true, List, [], ◌∷◌, ◌++◌, map, refl, ap, ◌∙◌}
use Rattle.std.proofs.lemmas.Bool.{and_parts, and_from, false≢true}
use Rattle.lang_base.specs.declared.elems.Elem.{Elem}
use Rattle.lang_base.specs.declared.elems.Elem.TheVariants.{Name, At, Any, Star, Local}
use Rattle.lang_base.specs.declared.elems.Index.TheVariants.{Literal}
use Rattle.lang_base.specs.declared.region.Head.{Head}
use Rattle.lang_base.specs.declared.region.Head.TheVariants.{Root, Param}
use Rattle.lang_base.specs.declared.region.Rpl.{Rpl}
use Rattle.lang_base.specs.declared.effect.Constraint.{Constraint}
use Rattle.lang_base.specs.Regions.{within}
use Rattle.lang_base.specs.Matching.{is_plain, all_plain, is_concrete, all_concrete, Env, IsEnv, put_elem, put_in, head_region, Fits, FitsAll, Matches}
use Rattle.region_paths.proofs.Inclusion.{Covers-from}
use Rattle.region_paths.proofs.Fitting.{FitsAll-within}
use Rattle.region_paths.proofs.Putting.{FitsAll-split}

pub all_concrete-append : (r q : List Elem) → all_concrete r ≡ true → all_concrete q ≡ true → all_concrete (r ++ q) ≡ true
all_concrete-append [] q h k = k
all_concrete-append (x ∷ r) q h k = let p = and_parts (is_concrete x) _ h in and_from _ _ p.0 (all_concrete-append r q p.1 k)

plain-concrete : (x : Elem) → is_plain x ≡ true → is_concrete x ≡ true
plain-concrete (Name n) h = refl
plain-concrete (At (Literal k)) h = refl
plain-concrete x h = absurd (false≢true h)

pub all_plain-concrete : (r : List Elem) → all_plain r ≡ true → all_concrete r ≡ true
all_plain-concrete [] h = refl
all_plain-concrete (x ∷ r) h = let p = and_parts (is_plain x) _ h in and_from _ _ (plain-concrete x p.0) (all_plain-concrete r p.1)

fits-concrete : (env : Env) (x : Elem) (r : List Elem) → Fits env x r → all_concrete r ≡ true
fits-concrete env (Name n) r f = ap all_concrete f
fits-concrete env (At i) r f = ap all_concrete f
fits-concrete env Any r f = ap all_concrete f.1
fits-concrete env Star r f = all_plain-concrete r f
fits-concrete env (Local a b) r f = ap all_concrete f

FitsAll-concrete : (env : Env) (a r : List Elem) → FitsAll env a r → all_concrete r ≡ true
FitsAll-concrete env [] r f = ap all_concrete f
FitsAll-concrete env (x ∷ a) r f =
    ap all_concrete f.2 ∙ all_concrete-append f.0 f.1 (fits-concrete env x f.0 f.3) (FitsAll-concrete env a f.1 f.4)

region-concrete : (given : List Constraint) (env : Env) → IsEnv given env → (h : Head) → all_concrete (head_region env h) ≡ true
region-concrete given env v Root = refl
region-concrete given env v (Param p) = all_plain-concrete (env.region p) (v.regions p)

pub matches_concrete : (given : List Constraint) (env : Env) → IsEnv given env → (a : Rpl) (r : List Elem) → Matches env a r → all_concrete r ≡ true
unfolding Matches
matches_concrete given env v a r m =
    ap all_concrete m.1 ∙ all_concrete-append (head_region env a.head) m.0 (region-concrete given env v a.head) (FitsAll-concrete env a.elems m.0 m.2)

-- in a run a local region stands for itself
run : Env
run = record { region = λ p. []; index = λ v. pos 0; renamed = λ v. pos 0; own = λ d. pos 0; made = λ a b. (a, b) }

fits-self : (x : Elem) → is_concrete x ≡ true → Fits run x (x ∷ [])
unfolding run
fits-self (Name n) h = refl
fits-self (At (Literal k)) h = refl
fits-self (Local a b) h = refl
fits-self x h = absurd (false≢true h)

FitsAll-self : (r : List Elem) → all_concrete r ≡ true → FitsAll run r r
FitsAll-self [] h = refl
FitsAll-self (x ∷ r) h = let p = and_parts (is_concrete x) _ h in (x ∷ [], r, refl, fits-self x p.0, FitsAll-self r p.1)

fits-put : (env : Env) (x : Elem) (r : List Elem) → Fits run (put_elem env x) r → Fits env x r
unfolding run
fits-put env (Name n) r f = f
fits-put env (At i) r f = f
fits-put env Any r f = f
fits-put env Star r f = f
fits-put env (Local a b) r f = f

FitsAll-put : (env : Env) (a r : List Elem) → FitsAll run (map (put_elem env) a) r → FitsAll env a r
FitsAll-put env [] r f = f
FitsAll-put env (x ∷ a) r f = (f.0, f.1, f.2, fits-put env x f.0 f.3, FitsAll-put env a f.1 f.4)

fits-plain : (x : Elem) (r : List Elem) → is_plain x ≡ true → Fits run x r → r ≡ x ∷ []
fits-plain (Name n) r h f = f
fits-plain (At (Literal k)) r h f = f
fits-plain x r h f = absurd (false≢true h)

FitsAll-plain : (a r : List Elem) → all_plain a ≡ true → FitsAll run a r → r ≡ a
FitsAll-plain [] r h f = f
FitsAll-plain (x ∷ a) r h f =
    let p = and_parts (is_plain x) _ h in
    f.2 ∙ ap (λ z. z ++ f.1) (fits-plain x f.0 p.0 f.3) ∙ ap (λ z. x ∷ z) (FitsAll-plain a f.1 p.1 f.4)

region-plain : (given : List Constraint) (env : Env) → IsEnv given env → (h : Head) → all_plain (head_region env h) ≡ true
region-plain given env v Root = refl
region-plain given env v (Param p) = v.regions p

pub within_matches : (given : List Constraint) (env : Env) → IsEnv given env → (a : Rpl) (r : List Elem) → all_concrete r ≡ true →
    within (record { head = Root; elems = r }) (put_in env a) ≡ true → Matches env a r
unfolding within put_in Matches
within_matches given env v a r c w =
    let reg = head_region env a.head in
    let f = FitsAll-within run (Covers-from (reg ++ map (put_elem env) a.elems) r w) r (FitsAll-self r c) in
    let s = FitsAll-split run reg (map (put_elem env) a.elems) r f in
    (s.1, s.2 ∙ ap (λ z. z ++ s.1) (FitsAll-plain reg s.0 (region-plain given env v a.head) s.3), FitsAll-put env a.elems s.1 s.4)
