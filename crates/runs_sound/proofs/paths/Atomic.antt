-- What atomic paths match ends by an atomic name, and so do the regions that atomic parameters stand for.
use Rattle.std.proofs.Common.{◌≡◌, ◌<◌, ◌≤◌, ⊎_elim, ◌⊎◌, inl, inr, ℕ, zero, suc, ◌+◌, ◌-◌, Bool, true, false, ◌&&◌, ◌||◌, List, [], ◌∷◌, ◌++◌, map, length, refl, sym, ap, ◌∙◌, subst, arith, Some, slice_get, slice_index_or}
use Rattle.std.proofs.lemmas.List.{get_or_append_left, get_or-append-add}
use Rattle.std.proofs.lemmas.Bool.{and_parts, and_from, or_left, or_right, false≢true, cases_lt}
use Rattle.std.proofs.lemmas.Option.{slice_get-get_or}
use Rattle.lang_base.specs.declared.elems.Elem.{Elem}
use Rattle.lang_base.specs.declared.elems.Elem.TheVariants.{Name, At, Any, Star, Local}
use Rattle.lang_base.specs.declared.region.Head.{Head}
use Rattle.lang_base.specs.declared.region.Head.TheVariants.{Root, Param}
use Rattle.lang_base.specs.declared.region.Rpl.{Rpl}
use Rattle.lang_base.specs.Branches.{Atomic, is_atomic_name, all_index, ends_atomic, atomic_head, atomic_path}
use Rattle.lang_base.specs.Matching.{Env, put_elem, Fits, FitsAll, Matches, head_region}
use Rattle.lang_base.specs.Regions.{is_index, elem_within, argument}
use Rattle.runs_theory.specs.Objects.{Region}
use Rattle.region_paths.proofs.Inclusion.{Covers, one, stop, skip, none, elem_within-cases}
use Rattle.runs_sound.specs.Accesses.{Includes}
use Rattle.runs_sound.proofs.paths.Including.{covers_of}
use Rattle.runs_sound.specs.Settings.{elems_of, region_in, EndAtomic}
use Rattle.runs_sound.specs.Shapes.{AllMatch}

or_cases : (x y : Bool) → (x || y) ≡ true → (x ≡ true) ⊎ (y ≡ true)
or_cases true y e = inl refl
or_cases false y e = inr e

pub ends_after : (names : List Bool) (xs ys : List Elem) → ends_atomic names ys ≡ true → ends_atomic names (xs ++ ys) ≡ true
ends_after names [] ys h = h
ends_after names (x ∷ xs) ys h = or_right (is_atomic_name names x && all_index (xs ++ ys)) _ (ends_after names xs ys h)

index_both : (xs ys : List Elem) → all_index xs ≡ true → all_index ys ≡ true → all_index (xs ++ ys) ≡ true
index_both [] ys h k = k
index_both (At i ∷ xs) ys h k = index_both xs ys h k
index_both (Any ∷ xs) ys h k = index_both xs ys h k
index_both (Name n ∷ xs) ys h k = absurd (false≢true h)
index_both (Star ∷ xs) ys h k = absurd (false≢true h)
index_both (Local r n ∷ xs) ys h k = absurd (false≢true h)

ends_before : (names : List Bool) (xs ys : List Elem) → ends_atomic names xs ≡ true → all_index ys ≡ true → ends_atomic names (xs ++ ys) ≡ true
ends_before names [] ys h k = absurd (false≢true h)
ends_before names (x ∷ xs) ys h k = ⊎_elim
    (λ e. (let p = and_parts (is_atomic_name names x) _ e in
    or_left (is_atomic_name names x && all_index (xs ++ ys)) (ends_atomic names (xs ++ ys)) (and_from _ _ p.0 (index_both xs ys p.1 k))))
    (λ e. or_right (is_atomic_name names x && all_index (xs ++ ys)) _ (ends_before names xs ys e k)) (or_cases (is_atomic_name names x && all_index xs) (ends_atomic names xs) h)

-- what elements fit

index_piece : (env : Env) (x : Elem) (a piece rest : List Elem) → all_index (x ∷ a) ≡ true → Fits env x piece → all_index rest ≡ true → all_index (piece ++ rest) ≡ true
index_piece env (At i) a piece rest h f k = subst (λ z. all_index (z ++ rest) ≡ true) (sym f) k
index_piece env Any a piece rest h f k = subst (λ z. all_index (z ++ rest) ≡ true) (sym f.1) k
index_piece env (Name n) a piece rest h f k = absurd (false≢true h)
index_piece env Star a piece rest h f k = absurd (false≢true h)
index_piece env (Local r n) a piece rest h f k = absurd (false≢true h)

index_tail : (x : Elem) (a : List Elem) → all_index (x ∷ a) ≡ true → all_index a ≡ true
index_tail (At i) a h = h
index_tail Any a h = h
index_tail (Name n) a h = absurd (false≢true h)
index_tail Star a h = absurd (false≢true h)
index_tail (Local r n) a h = absurd (false≢true h)

fits_index : (env : Env) (a r : List Elem) → all_index a ≡ true → FitsAll env a r → all_index r ≡ true
fits_index env [] r h f = subst (λ z. all_index z ≡ true) (sym f) refl
fits_index env (x ∷ a) r h f = subst (λ z. all_index z ≡ true) (sym f.2) (index_piece env x a f.0 f.1 h f.3 (fits_index env a f.1 (index_tail x a h) f.4))

ends_piece : (names : List Bool) (env : Env) (x : Elem) (piece rest : List Elem) → is_atomic_name names x ≡ true → Fits env x piece → all_index rest ≡ true →
    ends_atomic names (piece ++ rest) ≡ true
ends_piece names env (Name n) piece rest h f k = subst (λ z. ends_atomic names (z ++ rest) ≡ true) (sym f) (or_left (is_atomic_name names (Name n) && all_index rest) (ends_atomic names rest) (and_from _ _ h k))
ends_piece names env (At i) piece rest h f k = absurd (false≢true h)
ends_piece names env Any piece rest h f k = absurd (false≢true h)
ends_piece names env Star piece rest h f k = absurd (false≢true h)
ends_piece names env (Local r n) piece rest h f k = absurd (false≢true h)

fits_ends : (names : List Bool) (env : Env) (a r : List Elem) → ends_atomic names a ≡ true → FitsAll env a r → ends_atomic names r ≡ true
fits_ends names env [] r h f = absurd (false≢true h)
fits_ends names env (x ∷ a) r h f = subst (λ z. ends_atomic names z ≡ true) (sym f.2) (⊎_elim
    (λ e. (let p = and_parts (is_atomic_name names x) _ e in ends_piece names env x f.0 f.1 p.0 f.3 (fits_index env a f.1 p.1 f.4)))
    (λ e. ends_after names f.0 f.1 (fits_ends names env a f.1 e f.4)) (or_cases (is_atomic_name names x && all_index a) (ends_atomic names a) h))

-- atomic parameters stand for regions that end so, in an environment
abbrev pub EnvAtomic : Atomic → Env → Type 0
EnvAtomic atomic env = (p : ℕ) → slice_index_or atomic.params p false ≡ true → ends_atomic atomic.names (env.region p) ≡ true

head_ends : (atomic : Atomic) (env : Env) → EnvAtomic atomic env → (h : Head) → atomic_head atomic.params h ≡ true → ends_atomic atomic.names (head_region env h) ≡ true
head_ends atomic env i Root e = absurd (false≢true e)
head_ends atomic env i (Param p) e = i p e

pub matches_ends : (atomic : Atomic) (env : Env) → EnvAtomic atomic env → (a : Rpl) (r : List Elem) → atomic_path atomic a ≡ true → Matches env a r →
    ends_atomic atomic.names r ≡ true
unfolding atomic_path Matches
matches_ends atomic env i a r h m = subst (λ z. ends_atomic atomic.names z ≡ true) (sym m.1) (⊎_elim
    (λ e. ends_after atomic.names (head_region env a.head) m.0 (fits_ends atomic.names env a.elems m.0 e m.2))
    (λ e. (let p = and_parts (all_index a.elems) _ e in
    ends_before atomic.names (head_region env a.head) m.0 (head_ends atomic env i a.head p.1) (fits_index env a.elems m.0 p.0 m.2)))
    (or_cases (ends_atomic atomic.names a.elems) (all_index a.elems && atomic_head atomic.params a.head) h))

-- what lies in a path that ends so ends so

index_covers : {b a : List Elem} → Covers b a → all_index b ≡ true → all_index a ≡ true
index_covers none h = refl
index_covers (one {y = y} {x = x} {b = b} w s c) h =
    let p = and_parts (is_index y) (all_index b) h in
    and_from _ _ (⊎_elim (λ e. ap is_index e ∙ p.0) (λ q. q.1) (elem_within-cases x y w)) (index_covers c p.1)
index_covers (stop c) h = absurd (false≢true h)
index_covers (skip l c) h = absurd (false≢true h)

name_covers : (names : List Bool) (x y : Elem) → elem_within x y ≡ true → is_atomic_name names y ≡ true → is_atomic_name names x ≡ true
name_covers names x y w h = ⊎_elim (λ e. ap (is_atomic_name names) e ∙ h)
    (λ q. absurd (false≢true (sym (ap (is_atomic_name names) q.0) ∙ h))) (elem_within-cases x y w)

ends_covers : (names : List Bool) {b a : List Elem} → Covers b a → ends_atomic names b ≡ true → ends_atomic names a ≡ true
ends_covers names none h = absurd (false≢true h)
ends_covers names (one {y = y} {x = x} {b = b} {a = a} w s c) h = ⊎_elim
    (λ e. (let p = and_parts (is_atomic_name names y) (all_index b) e in
    or_left _ (ends_atomic names a) (and_from _ _ (name_covers names x y w p.0) (index_covers c p.1))))
    (λ e. or_right (is_atomic_name names x && all_index a) _ (ends_covers names c e)) (or_cases (is_atomic_name names y && all_index b) (ends_atomic names b) h)
ends_covers names (stop c) h = ends_covers names c h
ends_covers names (skip {x = x} {a = a} l c) h = or_right (is_atomic_name names x && all_index a) _ (ends_covers names c h)

index_put : (env : Env) (a : List Elem) → all_index a ≡ true → all_index (map (put_elem env) a) ≡ true
index_put env [] h = refl
index_put env (At i ∷ a) h = index_put env a h
index_put env (Any ∷ a) h = index_put env a h
index_put env (Name n ∷ a) h = absurd (false≢true h)
index_put env (Star ∷ a) h = absurd (false≢true h)
index_put env (Local r n ∷ a) h = absurd (false≢true h)

name_put : (names : List Bool) (env : Env) (x : Elem) → is_atomic_name names x ≡ true → is_atomic_name names (put_elem env x) ≡ true
name_put names env (Name n) h = h
name_put names env (At i) h = absurd (false≢true h)
name_put names env Any h = absurd (false≢true h)
name_put names env Star h = absurd (false≢true h)
name_put names env (Local r n) h = absurd (false≢true h)

ends_put : (names : List Bool) (env : Env) (a : List Elem) → ends_atomic names a ≡ true → ends_atomic names (map (put_elem env) a) ≡ true
ends_put names env [] h = absurd (false≢true h)
ends_put names env (x ∷ a) h = ⊎_elim
    (λ e. (let p = and_parts (is_atomic_name names x) (all_index a) e in or_left _ _ (and_from _ _ (name_put names env x p.0) (index_put env a p.1))))
    (λ e. or_right (is_atomic_name names (put_elem env x) && all_index (map (put_elem env) a)) _ (ends_put names env a e))
    (or_cases (is_atomic_name names x && all_index a) (ends_atomic names a) h)

pub includes_ends : (atomic : Atomic) (env : Env) → EnvAtomic atomic env → (a : Rpl) (r : List Elem) → atomic_path atomic a ≡ true → Includes env a r →
    ends_atomic atomic.names r ≡ true
unfolding atomic_path
includes_ends atomic env i a r h m = ends_covers atomic.names (covers_of env a r m) (⊎_elim
    (λ e. ends_after atomic.names (head_region env a.head) (map (put_elem env) a.elems) (ends_put atomic.names env a.elems e))
    (λ e. (let p = and_parts (all_index a.elems) _ e in
    ends_before atomic.names (head_region env a.head) (map (put_elem env) a.elems) (head_ends atomic env i a.head p.1) (index_put env a.elems p.0)))
    (or_cases (ends_atomic atomic.names a.elems) (all_index a.elems && atomic_head atomic.params a.head) h))

-- regions that arguments match

at_true : (params : List Bool) (p : ℕ) → slice_index_or params p false ≡ true → (p < length params) × (slice_get params p ≡ Some true)
at_true [] p h = absurd (false≢true h)
at_true (c ∷ params) zero h = (omega arith, ap (λ z. Some z) h)
at_true (c ∷ params) (suc p) h = let z = at_true params p h in (let l = z.0 in omega (arith, l), z.1)

pub args_atomic : (atomic : Atomic) (env : Env) → EnvAtomic atomic env → (params : List Bool) (args : List Rpl) (rs : List Region) → length args ≡ length params →
    ((p : ℕ) → p < length params → Matches env (argument args p) (region_in rs p)) →
    ((p : ℕ) (a : Rpl) → slice_get params p ≡ Some true → slice_get args p ≡ Some a → atomic_path atomic a ≡ true) → EndAtomic atomic.names params rs
args_atomic atomic env i params args rs n match paths p h =
    let z = at_true params p h in
    let l = z.0 in
    matches_ends atomic env i (argument args p) (region_in rs p)
    (paths p (argument args p) z.1 (slice_get-get_or args p (record { head = Param p; elems = [] }) (omega (arith, l, n)))) (match p z.0)

pub match_at : (env : Env) (args : List Rpl) (rs : List Region) → AllMatch env args rs → (p : ℕ) (b : Rpl) → p < length args → Matches env (slice_index_or args p b) (region_in rs p)
match_at env [] rs m p b l = absurd (omega (arith, l))
match_at env (a ∷ args) [] m p b l = absurd m
match_at env (a ∷ args) (r ∷ rs) m zero b l = m.0
match_at env (a ∷ args) (r ∷ rs) m (suc p) b l = match_at env args rs m.1 p b (omega (arith, l))

-- of a class, and after them of a method
pub both_atomic : (names ps qs : List Bool) (rs own : List Region) → length rs ≡ length ps → EndAtomic names ps rs → EndAtomic names qs own → EndAtomic names (ps ++ qs) (rs ++ own)
both_atomic names ps qs rs own n h k p e = ⊎_elim first second (cases_lt p (length ps))
  where
    first : p < length ps → ends_atomic names (region_in (rs ++ own) p) ≡ true
    first l = subst (λ (z : Region). ends_atomic names (elems_of z) ≡ true) (sym (get_or_append_left rs own [] p (omega (arith, l, n))))
        (h p (sym (get_or_append_left ps qs false p l) ∙ e))

    second : length ps ≤ p → ends_atomic names (region_in (rs ++ own) p) ≡ true
    second l =
        let i = p - length ps in
        let a : length ps + i ≡ p = omega (arith, l) in
        let b : length rs + i ≡ p = omega (arith, l, n) in
        subst (λ z. ends_atomic names (region_in (rs ++ own) z) ≡ true) b
        (subst (λ (z : Region). ends_atomic names (elems_of z) ≡ true) (sym (get_or-append-add rs own i []))
        (k i (sym (get_or-append-add ps qs i false) ∙ ap (λ z. slice_index_or (ps ++ qs) z false) a ∙ e)))
