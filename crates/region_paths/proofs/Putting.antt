-- What putting arguments in and making a variable general say of matching.
use Rattle.std.proofs.Common.{◌≡◌, ◌↔◌, ◌≤◌, ◌+◌, ℕ, ℤ, pos, Bool, true, false, cond, eqb, List, [], ◌∷◌, ◌++◌, map, refl, sym, ap, ◌∙◌, subst, ⊎_elim}
use Rattle.std.proofs.Common.{append_assoc, arith}
use Rattle.std.specs.Prelude.{count_by}
use Rattle.std.proofs.lemmas.Bool.{and_parts, and_from, false≢true, cases_Bool, eqb-true, eq-eqb, ne_eqb, cond-true, cond-false, false_from_ne_true}
use Rattle.std.proofs.lemmas.List.{map-append}
use Rattle.std.proofs.lemmas.List.Sums.{sum_by-append}
use Rattle.lang_base.specs.declared.elems.Elem.{Elem}
use Rattle.lang_base.specs.declared.elems.Elem.TheVariants.{Name, At, Any, Star, Local}
use Rattle.lang_base.specs.declared.elems.Index.{Index}
use Rattle.lang_base.specs.declared.elems.Index.TheVariants.{Literal, Variable, Renamed, Own}
use Rattle.lang_base.specs.declared.region.Head.{Head}
use Rattle.lang_base.specs.declared.region.Head.TheVariants.{Root, Param}
use Rattle.lang_base.specs.declared.region.Rpl.{Rpl}
use Rattle.lang_base.specs.Regions.{is_star, is_specified, all_specified, same_elem, elem_within, within, argument, put_at, substituted, general_elem}
use Rattle.lang_base.specs.Regions.{generalised}
use Rattle.lang_base.specs.Matching.{Env, IsEnv, number_of, put_elem, put_in, head_region, Fits, FitsAll, Matches, with_regions, with_index}
use Rattle.region_paths.proofs.Inclusion.{Covers, none, one, stop, skip, Covers-to, star_is, elem_within-refl, heads_within-same}
use Rattle.region_paths.proofs.Same.{same_elem-is}

-- what fits what, joined and split

FitsAll-append : (env : Env) (a b r q : List Elem) → FitsAll env a r → FitsAll env b q → FitsAll env (a ++ b) (r ++ q)
FitsAll-append env [] b r q f g = subst (λ z. FitsAll env b (z ++ q)) (sym f) g
FitsAll-append env (x ∷ a) b r q f g =
    (f.0, f.1 ++ q, ap (λ z. z ++ q) f.2 ∙ append_assoc f.0 f.1 q, f.3, FitsAll-append env a b f.1 q f.4 g)

pub FitsAll-split : (env : Env) (a b r : List Elem) → FitsAll env (a ++ b) r → (p q : List Elem) × (r ≡ p ++ q) × FitsAll env a p × FitsAll env b q
FitsAll-split env [] b r f = ([], r, refl, refl, f)
FitsAll-split env (x ∷ a) b r f =
    let k = FitsAll-split env a b f.1 f.4 in
    (f.0 ++ k.0, k.1, f.2 ∙ ap (λ z. f.0 ++ z) k.2 ∙ sym (append_assoc f.0 k.0 k.1), (f.0, k.0, refl, f.3, k.3), k.4)

some_fit : (env : Env) (x : Elem) → (r : List Elem) × Fits env x r
some_fit env (Name n) = (Name n ∷ [], refl)
some_fit env (At i) = (At (Literal (number_of env i)) ∷ [], refl)
some_fit env Any = (At (Literal (pos 0)) ∷ [], (pos 0, refl))
some_fit env Star = ([], refl)
some_fit env (Local a b) = (Local (env.made a b).0 (env.made a b).1 ∷ [], refl)

some_fit_all : (env : Env) (a : List Elem) → (r : List Elem) × FitsAll env a r
some_fit_all env [] = ([], refl)
some_fit_all env (x ∷ a) = let f = some_fit env x in let g = some_fit_all env a in (f.0 ++ g.0, (f.0, g.0, refl, f.1, g.1))

-- every path matches some region
some_region : (env : Env) (a : Rpl) → (r : List Elem) × Matches env a r
unfolding Matches
some_region env a = let f = some_fit_all env a.elems in (head_region env a.head ++ f.0, (f.0, refl, f.1))

-- the regions of the parameters matter to the head alone
module _ (env : Env) (g : ℕ → List Elem) where
  number-regions : (i : Index) → number_of env i ≡ number_of (with_regions env g) i
  number-regions (Literal k) = refl
  number-regions (Variable v) = refl
  number-regions (Renamed v) = refl
  number-regions (Own d) = refl

  fits-regions : (x : Elem) (r : List Elem) → Fits env x r → Fits (with_regions env g) x r
  fits-regions (Name n) r f = f
  fits-regions (At i) r f = f ∙ ap (λ k. At (Literal k) ∷ []) (number-regions i)
  fits-regions Any r f = f
  fits-regions Star r f = f
  fits-regions (Local a b) r f = f

  fits-no_regions : (x : Elem) (r : List Elem) → Fits (with_regions env g) x r → Fits env x r
  fits-no_regions (Name n) r f = f
  fits-no_regions (At i) r f = f ∙ ap (λ k. At (Literal k) ∷ []) (sym (number-regions i))
  fits-no_regions Any r f = f
  fits-no_regions Star r f = f
  fits-no_regions (Local a b) r f = f

  FitsAll-regions : (a r : List Elem) → FitsAll env a r → FitsAll (with_regions env g) a r
  FitsAll-regions [] r f = f
  FitsAll-regions (x ∷ a) r f = (f.0, f.1, f.2, fits-regions x f.0 f.3, FitsAll-regions a f.1 f.4)

  FitsAll-no_regions : (a r : List Elem) → FitsAll (with_regions env g) a r → FitsAll env a r
  FitsAll-no_regions [] r f = f
  FitsAll-no_regions (x ∷ a) r f = (f.0, f.1, f.2, fits-no_regions x f.0 f.3, FitsAll-no_regions a f.1 f.4)

  pub put_elem-regions : (x : Elem) → put_elem env x ≡ put_elem (with_regions env g) x
  put_elem-regions (Name n) = refl
  put_elem-regions (At i) = ap (λ k. At (Literal k)) (number-regions i)
  put_elem-regions Any = refl
  put_elem-regions Star = refl
  put_elem-regions (Local a b) = refl

  map_put-regions : (a : List Elem) → map (put_elem env) a ≡ map (put_elem (with_regions env g)) a
  map_put-regions [] = refl
  map_put-regions (x ∷ a) = ap (λ z. z ∷ map (put_elem env) a) (put_elem-regions x) ∙ ap (λ z. put_elem (with_regions env g) x ∷ z) (map_put-regions a)

-- one region for one parameter, and some region that its argument matches for each other
chosen : Env → List Rpl → ℕ → List Elem → ℕ → List Elem
chosen env args p q = λ x. cond (eqb p x) q (some_region env (argument args x)).0

chosen-at : (env : Env) (args : List Rpl) (p : ℕ) (q : List Elem) → chosen env args p q p ≡ q
unfolding chosen
chosen-at env args p q = cond-true (eqb p p) _ _ (eq-eqb p p refl)

chosen-match : (env : Env) (args : List Rpl) (p : ℕ) (q : List Elem) → Matches env (argument args p) q → (x : ℕ) →
    Matches env (argument args x) (chosen env args p q x)
unfolding chosen
chosen-match env args p q m x =
    ⊎_elim
    (λ e. subst (λ z. Matches env (argument args x) z) (sym (cond-true (eqb p x) _ _ e)) (subst (λ y. Matches env (argument args y) q) (eqb-true p x e) m))
    (λ e. subst (λ z. Matches env (argument args x) z) (sym (cond-false (eqb p x) _ _ e)) (some_region env (argument args x)).1)
    (cases_Bool (eqb p x))

Bound : Env → List Rpl → Head → List Elem → List Elem → Type 0
Bound env args h e r = (regions : ℕ → List Elem) × ((p : ℕ) → Matches env (argument args p) (regions p)) × Matches (with_regions env regions) (record { head = h; elems = e }) r

bound_from : (env : Env) (args : List Rpl) (h : Head) (e r : List Elem) → Matches env (put_at h e args) r → Bound env args h e r
unfolding Matches Bound
bound_from env args Root e r m =
    let regions = λ (p : ℕ). (some_region env (argument args p)).0 in
    (regions, λ p. (some_region env (argument args p)).1, (m.0, m.1, FitsAll-regions env regions e m.0 m.2))
bound_from env args (Param p) e r m =
    let arg = argument args p in
    let s = FitsAll-split env arg.elems e m.0 m.2 in
    let q = head_region env arg.head ++ s.0 in
    let regions = chosen env args p q in (
      regions,
      chosen-match env args p q (s.0, refl, s.3),
      (
        s.1,
        m.1 ∙ ap (λ z. head_region env arg.head ++ z) s.2 ∙ sym (append_assoc (head_region env arg.head) s.0 s.1)
            ∙ ap (λ z. z ++ s.1) (sym (chosen-at env args p q)),
        FitsAll-regions env regions e s.1 s.4,
      ),
    )

bound_to : (env : Env) (args : List Rpl) (h : Head) (e r : List Elem) → Bound env args h e r → Matches env (put_at h e args) r
unfolding Matches Bound
bound_to env args Root e r b = let m = b.2 in (m.0, m.1, FitsAll-no_regions env b.0 e m.0 m.2)
bound_to env args (Param p) e r b =
    let arg = argument args p in
    let m = b.2 in
    let n = b.1 p in (
      n.0 ++ m.0,
      m.1 ∙ ap (λ z. z ++ m.0) n.1 ∙ append_assoc (head_region env arg.head) n.0 m.0,
      FitsAll-append env arg.elems e n.0 m.0 n.2 (FitsAll-no_regions env b.0 e m.0 m.2),
    )

pub substitution_matches : (env : Env) (args : List Rpl) (a : Rpl) (r : List Elem) →
    Matches env (substituted args a) r ↔ ((regions : ℕ → List Elem) × ((p : ℕ) → Matches env (argument args p) (regions p)) × Matches (with_regions env regions) a r)
unfolding substituted Bound
substitution_matches env args a r = (λ m. bound_from env args a.head a.elems r m, λ b. bound_to env args a.head a.elems r b)

argument_regions : Env → List Rpl → ℕ → List Elem
argument_regions env args p = (put_in env (argument args p)).elems

puts_in : (env : Env) (args : List Rpl) (h : Head) (e : List Elem) →
    put_in env (put_at h e args) ≡ put_in (with_regions env (argument_regions env args)) (record { head = h; elems = e })
unfolding put_in argument_regions
puts_in env args Root e = ap (λ z. record { head = Root; elems = z }) (map_put-regions env (argument_regions env args) e)
puts_in env args (Param p) e =
    let arg = argument args p in
    let reg = head_region env arg.head in
    ap (λ z. record { head = Root; elems = z })
    (ap (λ z. reg ++ z) (map-append (put_elem env) arg.elems e) ∙ sym (append_assoc reg _ _)
    ∙ ap (λ z. (reg ++ map (put_elem env) arg.elems) ++ z) (map_put-regions env (argument_regions env args) e))

pub substitution_puts_in : (env : Env) (args : List Rpl) (a : Rpl) →
    put_in env (substituted args a) ≡ put_in (with_regions env (λ p. (put_in env (argument args p)).elems)) a
unfolding substituted argument_regions
substitution_puts_in env args a = puts_in env args a.head a.elems

-- a variable made general

general_fits : (env : Env) (v w : ℕ) (k : ℤ) (r : List Elem) (b : Bool) → r ≡ At (Literal (cond b k (env.index w))) ∷ [] →
    Fits env (cond b Any (At (Variable w))) r
general_fits env v w k r true f = (k, f)
general_fits env v w k r false f = f

fits-general : (env : Env) (v : ℕ) (k : ℤ) (x : Elem) (r : List Elem) → Fits (with_index env v k) x r → Fits env (general_elem v x) r
fits-general env v k (Name n) r f = f
fits-general env v k (At (Variable w)) r f = general_fits env v w k r (eqb v w) f
fits-general env v k (At (Literal j)) r f = f
fits-general env v k (At (Renamed w)) r f = f
fits-general env v k (At (Own d)) r f = f
fits-general env v k Any r f = f
fits-general env v k Star r f = f
fits-general env v k (Local a b) r f = f

FitsAll-general : (env : Env) (v : ℕ) (k : ℤ) (a r : List Elem) → FitsAll (with_index env v k) a r → FitsAll env (map (general_elem v) a) r
FitsAll-general env v k [] r f = f
FitsAll-general env v k (x ∷ a) r f = (f.0, f.1, f.2, fits-general env v k x f.0 f.3, FitsAll-general env v k a f.1 f.4)

head_region-index : (env : Env) (v : ℕ) (k : ℤ) (h : Head) → head_region (with_index env v k) h ≡ head_region env h
head_region-index env v k Root = refl
head_region-index env v k (Param p) = refl

pub general_matches_more : (env : Env) (a : Rpl) (v : ℕ) (k : ℤ) (r : List Elem) → Matches (with_index env v k) a r → Matches env (generalised v a) r
unfolding Matches generalised
general_matches_more env a v k r m =
    (m.0, m.1 ∙ ap (λ z. z ++ m.0) (head_region-index env v k a.head), FitsAll-general env v k a.elems m.0 m.2)

general_elem-within : (v : ℕ) (x : Elem) → elem_within x (general_elem v x) ≡ true
general_elem-within v (Name n) = elem_within-refl (Name n)
general_elem-within v (At (Literal j)) = elem_within-refl (At (Literal j))
general_elem-within v (At (Renamed w)) = elem_within-refl (At (Renamed w))
general_elem-within v (At (Own d)) = elem_within-refl (At (Own d))
general_elem-within v (At (Variable w)) = var_within (eqb v w)
  where
    var_within : (b : Bool) → elem_within (At (Variable w)) (cond b Any (At (Variable w))) ≡ true
    var_within true = refl
    var_within false = elem_within-refl (At (Variable w))
general_elem-within v Any = refl
general_elem-within v Star = refl
general_elem-within v (Local a b) = elem_within-refl (Local a b)

general_elem-star : (v : ℕ) (x : Elem) → is_star (general_elem v x) ≡ is_star x
general_elem-star v (Name n) = refl
general_elem-star v (At (Literal j)) = refl
general_elem-star v (At (Renamed w)) = refl
general_elem-star v (At (Own d)) = refl
general_elem-star v (At (Variable w)) = var_star (eqb v w)
  where
    var_star : (b : Bool) → is_star (cond b Any (At (Variable w))) ≡ false
    var_star true = refl
    var_star false = refl
general_elem-star v Any = refl
general_elem-star v Star = refl
general_elem-star v (Local a b) = refl

Covers-general : (v : ℕ) (a : List Elem) → Covers (map (general_elem v) a) a
Covers-general v [] = none
Covers-general v (Star ∷ a) = skip refl (stop (Covers-general v a))
Covers-general v (x ∷ a) =
    ⊎_elim
    (λ s. subst (λ z. Covers (general_elem v z ∷ map (general_elem v) a) (z ∷ a)) (sym (star_is x s)) (skip refl (stop (Covers-general v a))))
    (λ s. one (general_elem-within v x) (general_elem-star v x ∙ s) (Covers-general v a))
    (cases_Bool (is_star x))

pub included_in_general : (a : Rpl) (v : ℕ) → within a (generalised v a) ≡ true
unfolding within generalised
included_in_general a v = and_from _ _ (heads_within-same a.head _) (Covers-to (Covers-general v a.elems))

general_var-index : (env : Env) (v w : ℕ) (k : ℤ) (r : List Elem) (b : Bool) → eqb v w ≡ b →
    Fits env (cond b Any (At (Variable w))) r ↔ Fits (with_index env v k) (cond b Any (At (Variable w))) r
general_var-index env v w k r true e = (λ f. f, λ f. f)
general_var-index env v w k r false e =
    let s : cond (eqb v w) k (env.index w) ≡ env.index w = cond-false (eqb v w) _ _ e in
    (λ f. f ∙ ap (λ z. At (Literal z) ∷ []) (sym s), λ f. f ∙ ap (λ z. At (Literal z) ∷ []) s)

fits_general-index : (env : Env) (v : ℕ) (k : ℤ) (x : Elem) (r : List Elem) → Fits env (general_elem v x) r ↔ Fits (with_index env v k) (general_elem v x) r
fits_general-index env v k (Name n) r = (λ f. f, λ f. f)
fits_general-index env v k (At (Literal j)) r = (λ f. f, λ f. f)
fits_general-index env v k (At (Renamed w)) r = (λ f. f, λ f. f)
fits_general-index env v k (At (Own d)) r = (λ f. f, λ f. f)
fits_general-index env v k (At (Variable w)) r = general_var-index env v w k r (eqb v w) refl
fits_general-index env v k Any r = (λ f. f, λ f. f)
fits_general-index env v k Star r = (λ f. f, λ f. f)
fits_general-index env v k (Local a b) r = (λ f. f, λ f. f)

FitsAll_general-index : (env : Env) (v : ℕ) (k : ℤ) (a r : List Elem) →
    FitsAll env (map (general_elem v) a) r ↔ FitsAll (with_index env v k) (map (general_elem v) a) r
FitsAll_general-index env v k [] r = (λ f. f, λ f. f)
FitsAll_general-index env v k (x ∷ a) r = (
  λ f. (f.0, f.1, f.2, (fits_general-index env v k x f.0).0 f.3, (FitsAll_general-index env v k a f.1).0 f.4),
  λ f. (f.0, f.1, f.2, (fits_general-index env v k x f.0).1 f.3, (FitsAll_general-index env v k a f.1).1 f.4),
)

pub general_forgets : (env : Env) (a : Rpl) (v : ℕ) (k : ℤ) (r : List Elem) → Matches env (generalised v a) r ↔ Matches (with_index env v k) (generalised v a) r
unfolding Matches generalised
general_forgets env a v k r = (
  λ m. (m.0, m.1 ∙ ap (λ z. z ++ m.0) (sym (head_region-index env v k a.head)), (FitsAll_general-index env v k a.elems m.0).0 m.2),
  λ m. (m.0, m.1 ∙ ap (λ z. z ++ m.0) (head_region-index env v k a.head), (FitsAll_general-index env v k a.elems m.0).1 m.2),
)

-- where the variable stands at most once

fits-not_var : (env : Env) (v : ℕ) (k : ℤ) (x : Elem) (r : List Elem) → same_elem x (At (Variable v)) ≡ false → Fits env (general_elem v x) r →
    Fits (with_index env v k) x r
fits-not_var env v k (Name n) r e f = f
fits-not_var env v k (At (Literal j)) r e f = f
fits-not_var env v k (At (Renamed w)) r e f = f
fits-not_var env v k (At (Own d)) r e f = f
fits-not_var env v k (At (Variable w)) r e f =
    let n : eqb v w ≡ false = ne_eqb v w (λ s. false≢true (sym e ∙ eq-eqb w v (sym s))) in
    subst (λ z. Fits env z r) (cond-false (eqb v w) _ _ n) f ∙ ap (λ z. At (Literal z) ∷ []) (sym (cond-false (eqb v w) k (env.index w) n))
fits-not_var env v k Any r e f = f
fits-not_var env v k Star r e f = f
fits-not_var env v k (Local a b) r e f = f

stands : ℕ → List Elem → ℕ
stands v a = count_by (λ x. same_elem x (At (Variable v))) a

stands-cons : (v : ℕ) (x : Elem) (a : List Elem) → stands v (x ∷ a) ≡ cond (same_elem x (At (Variable v))) 1 0 + stands v a
unfolding stands
stands-cons v x a =
    sum_by-append (λ y. cond (same_elem y (At (Variable v))) 1 0) (x ∷ []) a
    ∙ ap (λ z. z + stands v a) (let e : 0 + cond {A = ℕ} (same_elem x (At (Variable v))) 1 0 ≡ cond (same_elem x (At (Variable v))) 1 0 = omega arith in e)

no_stand : (n : ℕ) (b : Bool) (m : ℕ) → cond b 1 0 + n ≤ m → b ≡ true → n + 1 ≤ m
no_stand n true m h e = omega arith
no_stand n false m h e = absurd (false≢true e)

fewer : (n : ℕ) (b : Bool) (m : ℕ) → cond b 1 0 + n ≤ m → n ≤ m
fewer n true m h = omega arith
fewer n false m h = omega arith

FitsAll-no_var : (env : Env) (v : ℕ) (k : ℤ) (a r : List Elem) → stands v a ≤ 0 → FitsAll env (map (general_elem v) a) r → FitsAll (with_index env v k) a r
unfolding stands
FitsAll-no_var env v k [] r h f = f
FitsAll-no_var env v k (x ∷ a) r h0 f =
    let h = subst (λ z. z ≤ 0) (stands-cons v x a) h0 in
    let e : same_elem x (At (Variable v)) ≡ false =
    false_from_ne_true _ (λ t. absurd (omega (arith, no_stand (stands v a) (same_elem x (At (Variable v))) 0 h t))) in
    (f.0, f.1, f.2, fits-not_var env v k x f.0 e f.3, FitsAll-no_var env v k a f.1 (fewer (stands v a) (same_elem x (At (Variable v))) 0 h) f.4)

FitsAll-one_var : (env : Env) (v : ℕ) (a r : List Elem) → stands v a ≤ 1 → FitsAll env (map (general_elem v) a) r → (k : ℤ) × FitsAll (with_index env v k) a r
unfolding stands
FitsAll-one_var env v [] r h f = (pos 0, f)
FitsAll-one_var env v (x ∷ a) r h0 f =
    let h = subst (λ z. z ≤ 1) (stands-cons v x a) h0 in
    ⊎_elim
    (λ t. let same = same_elem-is x (At (Variable v)) t in
    let i = subst (λ z. Fits env (general_elem v z) f.0) same f.3 in
    let any : Fits env Any f.0 = subst (λ z. Fits env z f.0) (cond-true (eqb v v) Any (At (Variable v)) (eq-eqb v v refl)) i in
    let here : Fits (with_index env v any.0) (At (Variable v)) f.0 =
    any.1 ∙ ap (λ z. At (Literal z) ∷ []) (sym (cond-true (eqb v v) any.0 (env.index v) (eq-eqb v v refl))) in
    let none_left : stands v a ≤ 0 = omega (arith, no_stand (stands v a) (same_elem x (At (Variable v))) 1 h t) in
    (any.0, (f.0, f.1, f.2, subst (λ z. Fits (with_index env v any.0) z f.0) (sym same) here, FitsAll-no_var env v any.0 a f.1 none_left f.4)))
    (λ e. let g = FitsAll-one_var env v a f.1 (fewer (stands v a) (same_elem x (At (Variable v))) 1 h) f.4 in
    (g.0, (f.0, f.1, f.2, fits-not_var env v g.0 x f.0 e f.3, g.1)))
    (cases_Bool (same_elem x (At (Variable v))))

pub general_matches_no_more : (env : Env) (a : Rpl) (v : ℕ) → count_by (λ x. same_elem x (At (Variable v))) a.elems ≤ 1 → (r : List Elem) →
    Matches env (generalised v a) r → (k : ℤ) × Matches (with_index env v k) a r
unfolding Matches generalised stands
general_matches_no_more env a v h r m =
    let f = FitsAll-one_var env v a.elems m.0 h m.2 in
    (f.0, (m.0, m.1 ∙ ap (λ z. z ++ m.0) (sym (head_region-index env v f.0 a.head)), f.1))

-- a fully specified path

fits-specified : (env : Env) (x : Elem) (r : List Elem) → is_specified x ≡ true → Fits env x r ↔ (r ≡ put_elem env x ∷ [])
fits-specified env (Name n) r h = (λ f. f, λ f. f)
fits-specified env (At i) r h = (λ f. f, λ f. f)
fits-specified env (Local a b) r h = (λ f. f, λ f. f)
fits-specified env x r h = absurd (false≢true h)

FitsAll-specified : (env : Env) (a r : List Elem) → all_specified a ≡ true → FitsAll env a r ↔ (r ≡ map (put_elem env) a)
FitsAll-specified env [] r h = (λ f. f, λ f. f)
FitsAll-specified env (x ∷ a) r h =
    let p = and_parts (is_specified x) _ h in (
      λ f. f.2 ∙ ap (λ z. z ++ f.1) ((fits-specified env x f.0 p.0).0 f.3) ∙ ap (λ z. put_elem env x ∷ z) ((FitsAll-specified env a f.1 p.1).0 f.4),
      λ e. (put_elem env x ∷ [], map (put_elem env) a, e, (fits-specified env x (put_elem env x ∷ []) p.0).1 refl, (FitsAll-specified env a (map (put_elem env) a) p.1).1 refl),
    )

pub specified_matches_one : (env : Env) (a : Rpl) → all_specified a.elems ≡ true → (r : List Elem) → Matches env a r ↔ (r ≡ (put_in env a).elems)
unfolding Matches put_in
specified_matches_one env a h r = (
  λ m. m.1 ∙ ap (λ z. head_region env a.head ++ z) ((FitsAll-specified env a.elems m.0 h).0 m.2),
  λ e. (map (put_elem env) a.elems, e, (FitsAll-specified env a.elems (map (put_elem env) a.elems) h).1 refl),
)

-- an environment: no parameter stands for more than the root, and copies have another number

zero_not_one : pos 0 ≡ pos 1 → ⊥
zero_not_one e = cc

pub environments_exist : (env : Env) × IsEnv [] env
environments_exist = (
  record { region = λ p. []; index = λ v. pos 0; renamed = λ v. pos 1; own = λ d. pos 0; made = λ a b. (a, b) },
  record { regions = λ p. refl; copies = λ v. zero_not_one; locals = λ a b c d e. (ap (λ z. z.0) e, ap (λ z. z.1) e); constraints = λ k d h. absurd (omega arith) },
)
