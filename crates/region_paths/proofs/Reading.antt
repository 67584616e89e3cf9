-- What a path matches depends on what occurs in it alone, and so an index put in, a copy and a known argument are read back.
use Rattle.std.proofs.Common.{◌≡◌, ◌≢◌, ◌↔◌, ◌==◌, ℕ, ℤ, zero, suc, pos, negsuc, Bool, true, false, cond, IsTrue, List, [], ◌∷◌, ◌++◌, map, refl, sym, ap}
use Rattle.std.proofs.Common.{◌∙◌, subst, ⊎_elim, append_assoc}
use Rattle.std.specs.Prelude.{All}
use Rattle.std.proofs.lemmas.Bool.{and_parts, false≢true, cases_Bool, eqb-true, cond-true, cond-false}
use Rattle.std.proofs.lemmas.List.{append-nil}
use Rattle.std.proofs.lemmas.List.Elements.{All-head, All-tail}
use Rattle.lang_base.specs.declared.elems.Elem.{Elem}
use Rattle.lang_base.specs.declared.elems.Elem.TheVariants.{Name, At, Any, Star, Local}
use Rattle.lang_base.specs.declared.elems.Index.{Index}
use Rattle.lang_base.specs.declared.elems.Index.TheVariants.{Literal, Variable, Renamed, Own}
use Rattle.lang_base.specs.declared.region.Head.{Head}
use Rattle.lang_base.specs.declared.region.Head.TheVariants.{Root, Param}
use Rattle.lang_base.specs.declared.region.Rpl.{Rpl}
use Rattle.lang_base.specs.declared.effect.Constraint.{Constraint}
use Rattle.lang_base.specs.Apart.{apart}
use Rattle.lang_base.specs.Regions.{all_specified, argument, put_at, substituted}
use Rattle.lang_base.specs.Matching.{all_plain, Env, IsEnv, Holds, number_of, put_elem, put_in, head_region, Fits, FitsAll, Matches, with_regions, with_index}
use Rattle.lang_base.specs.Branches.{renamed_elem, renamed_rpl}
use Rattle.lang_base.specs.Types.{elem_at, path_at}
use Rattle.region_paths.specs.Laws.{AgreeOn, with_own, parameter, is_no_copy, no_copies, HasNoCopies, another, with_copy}
use Rattle.region_paths.proofs.Putting.{FitsAll-split, put_elem-regions, specified_matches_one}

-- what occurs

fits-agree : (env other : Env) (x : Elem) (r : List Elem) → put_elem env x ≡ put_elem other x → Fits env x r → Fits other x r
fits-agree env other (Name n) r e f = f
fits-agree env other (At i) r e f = f ∙ ap (λ z. z ∷ []) e
fits-agree env other Any r e f = f
fits-agree env other Star r e f = f
fits-agree env other (Local a b) r e f = f ∙ ap (λ z. z ∷ []) e

FitsAll-agree : (env other : Env) (a r : List Elem) → All (λ x. put_elem env x ≡ put_elem other x) a → FitsAll env a r → FitsAll other a r
FitsAll-agree env other [] r e f = f
FitsAll-agree env other (x ∷ a) r e f = (
  f.0,
  f.1,
  f.2,
  fits-agree env other x f.0 (All-head (λ y. put_elem env y ≡ put_elem other y) x a e) f.3,
  FitsAll-agree env other a f.1 (All-tail (λ y. put_elem env y ≡ put_elem other y) x a e) f.4,
)

agree-matches : (env other : Env) (a : Rpl) → AgreeOn env other a → (r : List Elem) → Matches env a r → Matches other a r
unfolding Matches
agree-matches env other a e r m = (m.0, m.1 ∙ ap (λ z. z ++ m.0) e.head, FitsAll-agree env other a.elems m.0 e.elems m.2)

agree-back : (env other : Env) (a : Rpl) → AgreeOn env other a → AgreeOn other env a
agree-back env other a e = record { head = sym e.head; elems = λ k d lt. sym (e.elems k d lt) }

pub matches_by_what_occurs : (env other : Env) (a : Rpl) → AgreeOn env other a → (r : List Elem) → Matches env a r ↔ Matches other a r
matches_by_what_occurs env other a e r = (agree-matches env other a e r, agree-matches other env a (agree-back env other a e) r)

-- an element put in for each of a path

FitsAll-onto : (env other : Env) (f : Elem → Elem) → ((x : Elem) (r : List Elem) → Fits other x r → Fits env (f x) r) → (a r : List Elem) → FitsAll other a r →
    FitsAll env (map f a) r
FitsAll-onto env other f h [] r m = m
FitsAll-onto env other f h (x ∷ a) r m = (m.0, m.1, m.2, h x m.0 m.3, FitsAll-onto env other f h a m.1 m.4)

FitsAll-from : (env other : Env) (f : Elem → Elem) → ((x : Elem) (r : List Elem) → Fits env (f x) r → Fits other x r) → (a r : List Elem) →
    FitsAll env (map f a) r → FitsAll other a r
FitsAll-from env other f h [] r m = m
FitsAll-from env other f h (x ∷ a) r m = (m.0, m.1, m.2, h x m.0 m.3, FitsAll-from env other f h a m.1 m.4)

-- the own index of an array type

own-onto : (env : Env) (d e : ℕ) (x : Elem) (k : ℤ) (r : List Elem) (b : Bool) → Fits env x (At (Literal k) ∷ []) →
    r ≡ At (Literal (cond b k (env.own e))) ∷ [] → Fits env (cond b x (At (Own e))) r
own-onto env d e x k r true h f = subst (Fits env x) (sym f) h
own-onto env d e x k r false h f = f

fits-onto : (env : Env) (d : ℕ) (x : Elem) (k : ℤ) → Fits env x (At (Literal k) ∷ []) → (y : Elem) (r : List Elem) → Fits (with_own env d k) y r →
    Fits env (elem_at d x y) r
fits-onto env d x k h (At (Own e)) r f = own-onto env d e x k r (d == e) h f
fits-onto env d x k h (At (Literal j)) r f = f
fits-onto env d x k h (At (Variable v)) r f = f
fits-onto env d x k h (At (Renamed v)) r f = f
fits-onto env d x k h (Name n) r f = f
fits-onto env d x k h Any r f = f
fits-onto env d x k h Star r f = f
fits-onto env d x k h (Local a b) r f = f

own-region : (env : Env) (d : ℕ) (k : ℤ) (h : Head) → head_region (with_own env d k) h ≡ head_region env h
own-region env d k Root = refl
own-region env d k (Param p) = refl

pub own_index_matches_more : (env : Env) (a : Rpl) (d : ℕ) (x : Elem) (k : ℤ) → Fits env x (At (Literal k) ∷ []) → (r : List Elem) →
    Matches (with_own env d k) a r → Matches env (path_at d x a) r
unfolding Matches
own_index_matches_more env a d x k h r m =
    (m.0, m.1 ∙ ap (λ z. z ++ m.0) (own-region env d k a.head), FitsAll-onto env (with_own env d k) (elem_at d x) (fits-onto env d x k h) a.elems m.0 m.2)

own-from : (env : Env) (e : ℕ) (x : Index) (r : List Elem) (b : Bool) → Fits env (cond b (At x) (At (Own e))) r →
    r ≡ At (Literal (cond b (number_of env x) (env.own e))) ∷ []
own-from env e x r true f = f
own-from env e x r false f = f

fits-from : (env : Env) (d : ℕ) (x : Index) (y : Elem) (r : List Elem) → Fits env (elem_at d (At x) y) r → Fits (with_own env d (number_of env x)) y r
fits-from env d x (At (Own e)) r f = own-from env e x r (d == e) f
fits-from env d x (At (Literal j)) r f = f
fits-from env d x (At (Variable v)) r f = f
fits-from env d x (At (Renamed v)) r f = f
fits-from env d x (Name n) r f = f
fits-from env d x Any r f = f
fits-from env d x Star r f = f
fits-from env d x (Local a b) r f = f

own_index_read : (env : Env) (a : Rpl) (d : ℕ) (x : Index) (r : List Elem) → Matches env (path_at d (At x) a) r → Matches (with_own env d (number_of env x)) a r
unfolding Matches
own_index_read env a d x r m =
    let k = number_of env x in
    (m.0, m.1 ∙ ap (λ z. z ++ m.0) (sym (own-region env d k a.head)), FitsAll-from env (with_own env d k) (elem_at d (At x)) (fits-from env d x) a.elems m.0 m.2)

pub own_index_puts_in : (env : Env) (a : Rpl) (d : ℕ) (x : Index) (r : List Elem) →
    Matches env (path_at d (At x) a) r ↔ Matches (with_own env d (number_of env x)) a r
own_index_puts_in env a d x r = (own_index_read env a d x r, own_index_matches_more env a d (At x) (number_of env x) refl r)

-- the renamed copy of a variable

copy-of : (env : Env) (v w : ℕ) (b : Bool) → (v == w) ≡ b → number_of env (cond b (Renamed w) (Variable w)) ≡ cond b (env.renamed v) (env.index w)
copy-of env v w true e = ap env.renamed (sym (eqb-true v w e))
copy-of env v w false e = refl

copy-at : (v w : ℕ) (b : Bool) → cond b (At (Renamed w)) (At (Variable w)) ≡ At (cond b (Renamed w) (Variable w))
copy-at v w true = refl
copy-at v w false = refl

put_elem-renamed : (env : Env) (v : ℕ) (x : Elem) → put_elem env (renamed_elem v x) ≡ put_elem (with_index env v (env.renamed v)) x
put_elem-renamed env v (At (Variable w)) = ap (put_elem env) (copy-at v w (v == w)) ∙ ap (λ k. At (Literal k)) (copy-of env v w (v == w) refl)
put_elem-renamed env v (At (Literal j)) = refl
put_elem-renamed env v (At (Renamed w)) = refl
put_elem-renamed env v (At (Own d)) = refl
put_elem-renamed env v (Name n) = refl
put_elem-renamed env v Any = refl
put_elem-renamed env v Star = refl
put_elem-renamed env v (Local a b) = refl

fits-renamed : (env : Env) (v : ℕ) (x : Elem) (r : List Elem) → Fits env (renamed_elem v x) r ↔ Fits (with_index env v (env.renamed v)) x r
fits-renamed env v (At (Variable w)) r =
    let e = put_elem-renamed env v (At (Variable w)) in
    let at = copy-at v w (v == w) in (
      λ f. subst (λ z. Fits env z r) at f ∙ ap (λ z. z ∷ []) (ap (put_elem env) (sym at) ∙ e),
      λ f. subst (λ z. Fits env z r) (sym at) (f ∙ ap (λ z. z ∷ []) (sym e ∙ ap (put_elem env) at)),
    )
fits-renamed env v (At (Literal j)) r = (λ f. f, λ f. f)
fits-renamed env v (At (Renamed w)) r = (λ f. f, λ f. f)
fits-renamed env v (At (Own d)) r = (λ f. f, λ f. f)
fits-renamed env v (Name n) r = (λ f. f, λ f. f)
fits-renamed env v Any r = (λ f. f, λ f. f)
fits-renamed env v Star r = (λ f. f, λ f. f)
fits-renamed env v (Local a b) r = (λ f. f, λ f. f)

index-region : (env : Env) (v : ℕ) (k : ℤ) (h : Head) → head_region (with_index env v k) h ≡ head_region env h
index-region env v k Root = refl
index-region env v k (Param p) = refl

pub renamed_matches : (env : Env) (a : Rpl) (v : ℕ) (r : List Elem) → Matches env (renamed_rpl v a) r ↔ Matches (with_index env v (env.renamed v)) a r
unfolding Matches
renamed_matches env a v r =
    let other = with_index env v (env.renamed v) in
    let region = index-region env v (env.renamed v) a.head in (
      λ m. (m.0, m.1 ∙ ap (λ z. z ++ m.0) (sym region), FitsAll-from env other (renamed_elem v) (λ x s. (fits-renamed env v x s).0) a.elems m.0 m.2),
      λ m. (m.0, m.1 ∙ ap (λ z. z ++ m.0) region, FitsAll-onto env other (renamed_elem v) (λ x s. (fits-renamed env v x s).1) a.elems m.0 m.2),
    )

-- arguments that are known, and parameters for themselves

Known : Env → List Rpl → (ℕ → List Elem) → Head → Type 0
Known env args regions h = (p : ℕ) → h ≡ Param p → (all_specified (argument args p).elems ≡ true) × Matches env (argument args p) (regions p)

known : (env : Env) (args : List Rpl) (regions : ℕ → List Elem) (h : Head) (e r : List Elem) → Known env args regions h → Matches env (put_at h e args) r →
    Matches (with_regions env regions) (record { head = h; elems = e }) r
unfolding Matches Known
known env args regions Root e r k m = (m.0, m.1, FitsAll-agree env (with_regions env regions) e m.0 (λ i d lt. put_elem-regions env regions _) m.2)
known env args regions (Param p) e r k m =
    let arg = argument args p in
    let full = k p refl in
    let s = FitsAll-split env arg.elems e m.0 m.2 in
    let q = head_region env arg.head ++ s.0 in
    let mine : Matches env arg q = (s.0, refl, s.3) in
    let same : q ≡ regions p = (specified_matches_one env arg full.0 q).0 mine ∙ sym ((specified_matches_one env arg full.0 (regions p)).0 full.1) in (
      s.1,
      m.1 ∙ ap (λ z. head_region env arg.head ++ z) s.2 ∙ sym (append_assoc (head_region env arg.head) s.0 s.1) ∙ ap (λ z. z ++ s.1) same,
      FitsAll-agree env (with_regions env regions) e s.1 (λ i d lt. put_elem-regions env regions _) s.4,
    )

pub known_argument_matches : (env : Env) (args : List Rpl) (a : Rpl) (regions : ℕ → List Elem) →
    ((p : ℕ) → a.head ≡ Param p → (all_specified (argument args p).elems ≡ true) × Matches env (argument args p) (regions p)) → (r : List Elem) →
    Matches env (substituted args a) r → Matches (with_regions env regions) a r
unfolding substituted Known
known_argument_matches env args a regions k r m = known env args regions a.head a.elems r k m

pub parameter_matches_itself : (env : Env) (p : ℕ) (r : List Elem) → Matches env (parameter p) r ↔ (r ≡ env.region p)
unfolding Matches
parameter_matches_itself env p r =
    let none = append-nil (env.region p) in
    (λ m. m.1 ∙ ap (λ z. env.region p ++ z) m.2 ∙ none, λ e. ([], e ∙ sym none, refl))

own_put : (args : List Rpl) (h : Head) (e : List Elem) → ((p : ℕ) → argument args p ≡ parameter p) → put_at h e args ≡ record { head = h; elems = e }
own_put args Root e own = refl
own_put args (Param p) e own = ap (λ (z : Rpl). record { head = z.head; elems = z.elems ++ e }) (own p)

pub own_parameters_put_in : (args : List Rpl) (a : Rpl) → ((p : ℕ) → argument args p ≡ parameter p) → substituted args a ≡ a
unfolding substituted
own_parameters_put_in args a own = own_put args a.head a.elems own

-- numbers for copies

another-differs : (k : ℤ) → k ≡ another k → ⊥
another-differs (pos zero) e = cc
another-differs (pos (suc n)) e = cc
another-differs (negsuc n) e = cc

copy-apart : (env : Env) (v w : ℕ) (j : ℤ) → env.index v ≢ j → env.index w ≢ cond (v == w) j (another (env.index w))
copy-apart env v w j ne e =
    ⊎_elim
    (λ t. ne (ap env.index (eqb-true v w t) ∙ e ∙ cond-true (v == w) j (another (env.index w)) t))
    (λ f. another-differs (env.index w) (e ∙ cond-false (v == w) j (another (env.index w)) f))
    (cases_Bool (v == w))

put_elem-copy : (env : Env) (v : ℕ) (j : ℤ) (x : Elem) → is_no_copy x ≡ true → put_elem env x ≡ put_elem (with_copy env v j) x
put_elem-copy env v j (At (Renamed w)) h = absurd (false≢true h)
put_elem-copy env v j (At (Literal k)) h = refl
put_elem-copy env v j (At (Variable w)) h = refl
put_elem-copy env v j (At (Own d)) h = refl
put_elem-copy env v j (Name n) h = refl
put_elem-copy env v j Any h = refl
put_elem-copy env v j Star h = refl
put_elem-copy env v j (Local a b) h = refl

map_put-copy : (env : Env) (v : ℕ) (j : ℤ) (a : List Elem) → no_copies a ≡ true → map (put_elem env) a ≡ map (put_elem (with_copy env v j)) a
map_put-copy env v j [] h = refl
map_put-copy env v j (x ∷ a) h =
    let p = and_parts (is_no_copy x) _ h in
    ap (λ z. z ∷ map (put_elem env) a) (put_elem-copy env v j x p.0) ∙ ap (λ z. put_elem (with_copy env v j) x ∷ z) (map_put-copy env v j a p.1)

copy-region : (env : Env) (v : ℕ) (j : ℤ) (h : Head) → head_region env h ≡ head_region (with_copy env v j) h
copy-region env v j Root = refl
copy-region env v j (Param p) = refl

put_in-copy : (env : Env) (v : ℕ) (j : ℤ) (a : Rpl) → no_copies a.elems ≡ true → put_in env a ≡ put_in (with_copy env v j) a
unfolding put_in
put_in-copy env v j a h =
    ap (λ z. record { head = Root; elems = z ++ map (put_elem env) a.elems }) (copy-region env v j a.head)
    ∙ ap (λ z. record { head = Root; elems = head_region (with_copy env v j) a.head ++ z }) (map_put-copy env v j a.elems h)

holds-copy : (env : Env) (v : ℕ) (j : ℤ) (c : Constraint) → HasNoCopies c → Holds env c → Holds (with_copy env v j) c
holds-copy env v j c h k =
    let p = and_parts (no_copies c.left.elems) _ h in
    ap (λ z. apart [] z (put_in (with_copy env v j) c.right)) (sym (put_in-copy env v j c.left p.0))
    ∙ ap (λ z. apart [] (put_in env c.left) z) (sym (put_in-copy env v j c.right p.1))
    ∙ k

pub copies_exist : (given : List Constraint) (env : Env) → ((p : ℕ) → IsTrue (all_plain (env.region p))) →
    ((a b c d : ℕ) → env.made a b ≡ env.made c d → (a ≡ c) × (b ≡ d)) → All (Holds env) given → All HasNoCopies given → (v : ℕ) (j : ℤ) → env.index v ≢ j →
    IsEnv given (with_copy env v j)
copies_exist given env plain made hold none v j ne = record {
  regions = plain;
  copies = λ w. copy-apart env v w j ne;
  locals = made;
  constraints = λ k d lt. holds-copy env v j _ (none k d lt) (hold k d lt);
}
