-- What inclusion says of matching.
use Rattle.std.proofs.Common.{◌≡◌, true, false, List, [], ◌∷◌, ◌++◌, refl, sym, ap, ◌∙◌, subst, ⊎_elim, append_assoc}
use Rattle.std.proofs.lemmas.Bool.{and_parts, and_from, false≢true, eqb-true}
use Rattle.lang_base.specs.declared.elems.Elem.{Elem}
use Rattle.lang_base.specs.declared.elems.Elem.TheVariants.{Name, At, Any, Star, Local}
use Rattle.lang_base.specs.declared.region.Head.{Head}
use Rattle.lang_base.specs.declared.region.Head.TheVariants.{Root, Param}
use Rattle.lang_base.specs.declared.region.Rpl.{Rpl}
use Rattle.lang_base.specs.declared.effect.Constraint.{Constraint}
use Rattle.lang_base.specs.Regions.{is_local, is_index, elem_within, begins_with_star, heads_within, within}
use Rattle.lang_base.specs.Matching.{is_plain, all_plain, Env, IsEnv, number_of, head_region, Fits, FitsAll, Matches, MatchesMore}
use Rattle.region_paths.proofs.Inclusion.{Covers, none, one, stop, skip, Covers-from, star_is, elem_within-cases}

pub all_plain-append : (r q : List Elem) → all_plain r ≡ true → all_plain q ≡ true → all_plain (r ++ q) ≡ true
all_plain-append [] q h k = k
all_plain-append (x ∷ r) q h k = let p = and_parts (is_plain x) _ h in and_from _ _ p.0 (all_plain-append r q p.1 k)

-- what an element other than a local region fits has no local region
fits-plain : (env : Env) (x : Elem) (r : List Elem) → is_local x ≡ false → Fits env x r → all_plain r ≡ true
fits-plain env (Name n) r l f = ap all_plain f
fits-plain env (At i) r l f = ap all_plain f
fits-plain env Any r l f = ap all_plain f.1
fits-plain env Star r l f = f
fits-plain env (Local a b) r l f = absurd (false≢true (sym l))

fits-index : (env : Env) (x : Elem) (r : List Elem) → is_index x ≡ true → Fits env x r → Fits env Any r
fits-index env (At i) r h f = (number_of env i, f)
fits-index env Any r h f = f
fits-index env x r h f = absurd (false≢true h)

fits-within : (env : Env) (x y : Elem) (r : List Elem) → elem_within x y ≡ true → Fits env x r → Fits env y r
fits-within env x y r e f =
    ⊎_elim
    (λ s. subst (λ z. Fits env z r) s f)
    (λ p. subst (λ z. Fits env z r) (sym p.0) (fits-index env x r p.1 f))
    (elem_within-cases x y e)

star_fits_more : (env : Env) (b p r : List Elem) → all_plain p ≡ true → FitsAll env (Star ∷ b) r → FitsAll env (Star ∷ b) (p ++ r)
star_fits_more env b p r h f = (p ++ f.0, f.1, ap (λ z. p ++ z) f.2 ∙ sym (append_assoc p f.0 f.1), all_plain-append p f.0 h f.3, f.4)

pub FitsAll-within : (env : Env) {b a : List Elem} → Covers b a → (r : List Elem) → FitsAll env a r → FitsAll env b r
FitsAll-within env none r f = f
FitsAll-within env (one {y = y} {x = x} e s d) r f = (f.0, f.1, f.2, fits-within env x y f.0 e f.3, FitsAll-within env d f.1 f.4)
FitsAll-within env (stop d) r f = ([], r, refl, refl, FitsAll-within env d r f)
FitsAll-within env (skip {x = x} {b = b} l d) r f =
    subst (λ z. FitsAll env (Star ∷ b) z) (sym f.2) (star_fits_more env b f.0 f.1 (fits-plain env x f.0 l f.3) (FitsAll-within env d f.1 f.4))

starred : (b : List Elem) → begins_with_star b ≡ true → (c : List Elem) × (b ≡ Star ∷ c)
starred [] h = absurd (false≢true h)
starred (x ∷ c) h = (c, ap (λ z. z ∷ c) (star_is x h))

-- the same with the heads before the lists
heads_match : (given : List Constraint) (env : Env) → IsEnv given env → (h k : Head) (b rest : List Elem) → heads_within h k b ≡ true → FitsAll env b rest →
    (more : List Elem) × (head_region env h ++ rest ≡ head_region env k ++ more) × FitsAll env b more
heads_match given env v Root Root b rest e f = (rest, refl, f)
heads_match given env v (Param p) (Param q) b rest e f = (rest, ap (λ z. env.region z ++ rest) (eqb-true p q e), f)
heads_match given env v (Param p) Root b rest e f =
    let c = starred b e in
    (env.region p ++ rest, refl, subst (λ z. FitsAll env z (env.region p ++ rest)) (sym c.1) (star_fits_more env c.0 (env.region p) rest (v.regions p) (subst (λ z. FitsAll env z rest) c.1 f)))
heads_match given env v Root (Param q) b rest e f = absurd (false≢true e)

pub matches_more : (given : List Constraint) (env : Env) → IsEnv given env → (a b : Rpl) → within a b ≡ true → MatchesMore env a b
unfolding within Matches
matches_more given env v a b w = λ r m.
    let p = and_parts (heads_within a.head b.head b.elems) _ w in
    let f = FitsAll-within env (Covers-from b.elems a.elems p.1) m.0 m.2 in
    let k = heads_match given env v a.head b.head b.elems m.0 p.0 f in
    (k.0, m.1 ∙ k.1, k.2)
