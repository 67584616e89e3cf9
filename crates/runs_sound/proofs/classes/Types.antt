-- Types of the same values, and values that fit a type in an environment.
use Rattle.std.proofs.Common.{◌≡◌, ◌<◌, ℕ, ℤ, zero, suc, true, List, [], ◌∷◌, ◌++◌, map, refl, sym, ap, ◌∙◌, subst, arith, IsTrue, slice_index_or, append_assoc}
use Rattle.std.specs.Prelude.{All}
use Rattle.std.proofs.lemmas.List.Folds.{list_any_at}
use Rattle.std.proofs.lemmas.List.Elements.{All-head, All-tail}
use Rattle.std.proofs.lemmas.Bool.{eq-eqb, or_left, or_right}
use Rattle.lang_base.specs.declared.elems.Elem.{Elem}
use Rattle.lang_base.specs.declared.elems.Elem.TheVariants.{At, Any, Star, Local}
use Rattle.lang_base.specs.declared.elems.Elem.TheVariants as elem
use Rattle.lang_base.specs.declared.elems.Index.TheVariants.{Literal, Variable, Renamed, Own}
use Rattle.lang_base.specs.declared.region.Head.{Head}
use Rattle.lang_base.specs.declared.region.Head.TheVariants.{Root, Param}
use Rattle.lang_base.specs.declared.region.Rpl.{Rpl}
use Rattle.lang_base.specs.Matching.{Env, put_elem, head_region, FitsAll, Matches, with_regions}
use Rattle.lang_base.specs.Regions.{fully_specified, argument, put_at, substituted}
use Rattle.lang_base.specs.Types.{PlainType, int, boolean, void, null, class, array, type_with, has_param, mentions_param, rigid_in_param, SameType}
use Rattle.lang_typed.specs.Plain.{PlainProgram}
use Rattle.region_paths.proofs.Reading.{matches_by_what_occurs, known_argument_matches}
use Rattle.runs_theory.specs.Objects.{Name, Value, Int, Boolean, Null, Object, Region}
use Rattle.runs_sound.specs.Settings.{env_of, elems_of, after_own, under}
use Rattle.runs_sound.specs.Shapes.{Shapes, Grows, AllMatch, Instance, SameIn, ArrayInstance, IsNullOr, FitsIn}
use Rattle.runs_sound.proofs.scopes.Closed.{IsClosed, ClosedPath, ClosedType, Agrees, agrees_back, agrees_under, closed_matches}

-- each path of a list

pub match_same : (env other : Env) (args : List Rpl) → All (λ a. (r : List Elem) → Matches env a r → Matches other a r) args → (rs : List Region) →
    AllMatch env args rs → AllMatch other args rs
match_same env other [] h [] m = m
match_same env other [] h (r ∷ rs) m = absurd m
match_same env other (a ∷ args) h [] m = absurd m
match_same env other (a ∷ args) h (r ∷ rs) m = (
  All-head (λ a. (r : List Elem) → Matches env a r → Matches other a r) a args h (elems_of r) m.0,
  match_same env other args
      (All-tail (λ a. (r : List Elem) → Matches env a r → Matches other a r) a args h) rs m.1,
)

pub match_onto : (env other : Env) (f : Rpl → Rpl) (args : List Rpl) → All (λ a. (r : List Elem) → Matches env a r → Matches other (f a) r) args →
    (rs : List Region) → AllMatch env args rs → AllMatch other (map f args) rs
match_onto env other f [] h [] m = m
match_onto env other f [] h (r ∷ rs) m = absurd m
match_onto env other f (a ∷ args) h [] m = absurd m
match_onto env other f (a ∷ args) h (r ∷ rs) m = (
  All-head (λ a. (r : List Elem) → Matches env a r → Matches other (f a) r) a args h (elems_of r) m.0,
  match_onto env other f args
      (All-tail (λ a. (r : List Elem) → Matches env a r → Matches other (f a) r) a args h) rs m.1,
)

pub match_from : (env other : Env) (f : Rpl → Rpl) (args : List Rpl) → All (λ a. (r : List Elem) → Matches other (f a) r → Matches env a r) args →
    (rs : List Region) → AllMatch other (map f args) rs → AllMatch env args rs
match_from env other f [] h [] m = m
match_from env other f [] h (r ∷ rs) m = absurd m
match_from env other f (a ∷ args) h [] m = absurd m
match_from env other f (a ∷ args) h (r ∷ rs) m = (
  All-head (λ a. (r : List Elem) → Matches other (f a) r → Matches env a r) a args h (elems_of r) m.0,
  match_from env other f args
      (All-tail (λ a. (r : List Elem) → Matches other (f a) r → Matches env a r) a args h) rs m.1,
)

-- types of the same values

pub same_refl : (env : Env) (t : PlainType) → SameIn env t env t
same_refl env int = tt
same_refl env boolean = tt
same_refl env void = tt
same_refl env null = tt
same_refl env (class c args) = (refl, λ rs. (λ m. m, λ m. m))
same_refl env (array t a named) = (λ k r. (λ m. m, λ m. m), λ k. same_refl (under k env) t)

pub same_sym : (env : Env) (t : PlainType) (other : Env) (u : PlainType) → SameIn env t other u → SameIn other u env t
same_sym env int other int s = tt
same_sym env boolean other boolean s = tt
same_sym env void other void s = tt
same_sym env null other null s = tt
same_sym env (class c args) other (class d args') s = (sym s.0, λ rs. ((s.1 rs).1, (s.1 rs).0))
same_sym env (array t a named) other (array u b named') s = (λ k r. ((s.0 k r).1, (s.0 k r).0), λ k. same_sym (under k env) t (under k other) u (s.1 k))
same_sym env _ other _ s = absurd s

pub same_trans : (env : Env) (t : PlainType) (other : Env) (u : PlainType) (third : Env) (w : PlainType) → SameIn env t other u →
    SameIn other u third w → SameIn env t third w
same_trans env int other int third w s z = z
same_trans env boolean other boolean third w s z = z
same_trans env void other void third w s z = z
same_trans env null other null third w s z = z
same_trans env (class c args) other (class d args') third (class e args'') s z =
    (s.0 ∙ z.0, λ rs. (λ m. (z.1 rs).0 ((s.1 rs).0 m), λ m. (s.1 rs).1 ((z.1 rs).1 m)))
same_trans env (class c args) other (class d args') third _ s z = absurd z
same_trans env (array t a named) other (array u b named') third (array w c named'') s z =
    (λ k r. (λ m. (z.0 k r).0 ((s.0 k r).0 m), λ m. (s.0 k r).1 ((z.0 k r).1 m)), λ k. same_trans (under k env) t (under k other) u (under k third) w (s.1 k) (z.1 k))
same_trans env (array t a named) other (array u b named') third _ s z = absurd z
same_trans env _ other _ third w s z = absurd s

pub null_or : (A B : Name → Type 0) → ((n : Name) → A n → B n) → (v : Value) → IsNullOr A v → IsNullOr B v
null_or A B h Null f = tt
null_or A B h (Object n) f = h n f
null_or A B h (Int k) f = f
null_or A B h (Boolean c) f = f

module _ (P : PlainProgram) (S : Shapes) where
  pub instance_onto : (env other : Env) (c d : ℕ) (args args' : List Rpl) → c ≡ d →
      ((rs : List Region) → AllMatch env args rs → AllMatch other args' rs) → (n : Name) → Instance P S env c args n → Instance P S other d args' n
  instance_onto env other c d args args' e h n i =
      subst (λ d. Instance P S other d args' n) e
      (record { class = i.class; made_with = i.made_with; regions = i.regions; shape = i.shape; good = i.good; is_one = i.is_one; matches = h i.regions i.matches })

  pub array_onto : (env other : Env) (t u : PlainType) (a b : Rpl) → ((k : ℤ) (r : List Elem) → Matches (under k env) a r → Matches (under k other) b r) →
      ((k : ℤ) → SameIn (under k other) u (under k env) t) → (n : Name) → ArrayInstance S env t a n → ArrayInstance S other u b n
  array_onto env other t u a b h s n i = record {
    setting = i.setting;
    element = i.element;
    rpl = i.rpl;
    shape = i.shape;
    region = λ k. h k _ (i.region k);
    same = λ k. same_trans (under k other) u (under k env) t (under k (env_of i.setting)) i.element (s k) (i.same k);
  }

  pub fits_same : (env : Env) (t : PlainType) (other : Env) (u : PlainType) → SameIn env t other u → (v : Value) → FitsIn P S env t v → FitsIn P S other u v
  fits_same env int other int s v f = f
  fits_same env boolean other boolean s v f = f
  fits_same env void other void s v f = f
  fits_same env null other null s v f = f
  fits_same env (class c args) other (class d args') s v f =
      null_or (Instance P S env c args) (Instance P S other d args') (instance_onto env other c d args args' s.0 (λ rs m. (s.1 rs).0 m)) v f
  fits_same env (array t a named) other (array u b named') s v f =
      null_or (ArrayInstance S env t a) (ArrayInstance S other u b) (array_onto env other t u a b (λ k r m. (s.0 k r).0 m) (λ k. same_sym (under k env) t (under k other) u (s.1 k))) v f
  fits_same env _ other _ s v f = absurd s

-- what has been made stays

pub fits_grows : (P : PlainProgram) (S T : Shapes) → Grows S T → (env : Env) (t : PlainType) (v : Value) → FitsIn P S env t v → FitsIn P T env t v
fits_grows P S T g env int v f = f
fits_grows P S T g env boolean v f = f
fits_grows P S T g env void v f = f
fits_grows P S T g env null v f = f
fits_grows P S T g env (class c args) v f =
    null_or (Instance P S env c args) (Instance P T env c args)
    (λ n i. record { class = i.class; made_with = i.made_with; regions = i.regions; shape = g n _ i.shape; good = i.good; is_one = i.is_one; matches = i.matches }) v f
fits_grows P S T g env (array t a named) v f =
    null_or (ArrayInstance S env t a) (ArrayInstance T env t a)
    (λ n i. record { setting = i.setting; element = i.element; rpl = i.rpl; shape = g n _ i.shape; region = i.region; same = i.same }) v f

-- names of indices don't matter

pub same_type : (env : Env) (t u : PlainType) → SameType t u → SameIn env t env u
same_type env int int e = tt
same_type env boolean boolean e = tt
same_type env void void e = tt
same_type env null null e = tt
same_type env (class c args) (class d args') e =
    let h : c ≡ d = cc in let k : args ≡ args' = cc in subst (λ z. SameIn env (class c args) env (class z args')) h
    (subst (λ z. SameIn env (class c args) env (class c z)) k (same_refl env (class c args)))
same_type env (array t a named) (array u b named') e =
    let h : SameType t u = cc in
    let k : a ≡ b = cc in
    (λ j r. (λ m. subst (λ z. Matches (under j env) z r) k m, λ m. subst (λ z. Matches (under j env) z r) (sym k) m), λ j. same_type (under j env) t u h)
same_type env int boolean e = cc
same_type env int void e = cc
same_type env int null e = cc
same_type env int (class c args) e = cc
same_type env int (array t a named) e = cc
same_type env boolean int e = cc
same_type env boolean void e = cc
same_type env boolean null e = cc
same_type env boolean (class c args) e = cc
same_type env boolean (array t a named) e = cc
same_type env void int e = cc
same_type env void boolean e = cc
same_type env void null e = cc
same_type env void (class c args) e = cc
same_type env void (array t a named) e = cc
same_type env null int e = cc
same_type env null boolean e = cc
same_type env null void e = cc
same_type env null (class c args) e = cc
same_type env null (array t a named) e = cc
same_type env (class c args) int e = cc
same_type env (class c args) boolean e = cc
same_type env (class c args) void e = cc
same_type env (class c args) null e = cc
same_type env (class c args) (array t a named) e = cc
same_type env (array t a named) int e = cc
same_type env (array t a named) boolean e = cc
same_type env (array t a named) void e = cc
same_type env (array t a named) null e = cc
same_type env (array t a named) (class c args) e = cc

-- closed types, in environments that agree

pub closed_same : (n depth : ℕ) (env other : Env) → Agrees n depth env other → (t : PlainType) → ClosedType n depth t → SameIn env t other t
closed_same n depth env other g int c = tt
closed_same n depth env other g boolean c = tt
closed_same n depth env other g void c = tt
closed_same n depth env other g null c = tt
closed_same n depth env other g (class d args) c = (
  refl,
  λ rs. (
    match_same env other args (λ k x l. closed_matches n depth env other g _ (c k x l)) rs,
    match_same other env args
        (λ k x l. closed_matches n depth other env (agrees_back g) _ (c k x l)) rs,
  ),
)
closed_same n depth env other g (array t a named) c = (
  λ k r. (
    closed_matches n (suc depth) (under k env) (under k other) (agrees_under k g) a c.0 r,
    closed_matches n (suc depth) (under k other)
        (under k env) (agrees_back (agrees_under k g)) a c.0 r,
  ),
  λ k. closed_same n (suc depth) (under k env) (under k other) (agrees_under k g) t c.1,
)

-- arguments put in

abbrev pub NoOwn : Elem → Type 0
NoOwn (At (Own d)) = ⊥
NoOwn (At (Literal k)) = Unit {0}
NoOwn (At (Variable x)) = Unit {0}
NoOwn (At (Renamed x)) = Unit {0}
NoOwn (elem.Name n) = Unit {0}
NoOwn Any = Unit {0}
NoOwn Star = Unit {0}
NoOwn (Local r n) = Unit {0}

-- each argument, which speaks of no own index, matches the region that its parameter stands for
pub record Stands (n depth : ℕ) (env inner : Env) (args : List Rpl) : Type 0 where
  pub match : (p : ℕ) → p < n → Matches env (argument args p) (inner.region p)
  pub alone : (p : ℕ) → p < n → All NoOwn (argument args p).elems
  pub own : (d : ℕ) → d < depth → env.own d ≡ inner.own d

put_under : (k : ℤ) (env : Env) (x : Elem) → NoOwn x → put_elem env x ≡ put_elem (under k env) x
put_under k env (At (Own d)) h = absurd h
put_under k env (At (Literal j)) h = refl
put_under k env (At (Variable x)) h = refl
put_under k env (At (Renamed x)) h = refl
put_under k env (elem.Name n) h = refl
put_under k env Any h = refl
put_under k env Star h = refl
put_under k env (Local r n) h = refl

head_under : (k : ℤ) (env : Env) (h : Head) → head_region env h ≡ head_region (under k env) h
head_under k env Root = refl
head_under k env (Param p) = refl

alone_under : (k : ℤ) (env : Env) (a : Rpl) → All NoOwn a.elems → (r : List Elem) → Matches env a r → Matches (under k env) a r
alone_under k env a h r m =
    (matches_by_what_occurs env (under k env) a (record { head = head_under k env a.head; elems = λ j d l. put_under k env _ (h j d l) }) r).0 m

own_both : (depth : ℕ) (k : ℤ) (f g : ℕ → ℤ) → ((d : ℕ) → d < depth → f d ≡ g d) → (d : ℕ) → d < suc depth → after_own k f d ≡ after_own k g d
own_both depth k f g h zero l = refl
own_both depth k f g h (suc d) l = h d (omega (arith, l))

pub stands_under : {n depth : ℕ} {env inner : Env} {args : List Rpl} (k : ℤ) → Stands n depth env inner args →
    Stands n (suc depth) (under k env) (under k inner) args
stands_under {n} {depth} {env} {inner} {args} k s = record {
  match = λ p l. alone_under k env (argument args p) (s.alone p l) (inner.region p) (s.match p l);
  alone = s.alone;
  own = own_both depth k env.own inner.own s.own;
}

fits_agree : (env other : Env) (a : List Elem) → All (λ x. put_elem env x ≡ put_elem other x) a → (r : List Elem) → FitsAll env a r → FitsAll other a r
unfolding Matches
fits_agree env other a h r f =
    let m = (matches_by_what_occurs env other (record { head = Root; elems = a }) (record { head = refl; elems = h }) r).0 (r, refl, f) in
    subst (FitsAll other a) (sym m.1) m.2

pub fits_append : (env : Env) (a b r q : List Elem) → FitsAll env a r → FitsAll env b q → FitsAll env (a ++ b) (r ++ q)
fits_append env [] b r q f g = subst (λ z. FitsAll env b (z ++ q)) (sym f) g
fits_append env (x ∷ a) b r q f g = (f.0, f.1 ++ q, ap (λ z. z ++ q) f.2 ∙ append_assoc f.0 f.1 q, f.3, fits_append env a b f.1 q f.4 g)

put_inner : (depth : ℕ) (env inner : Env) → ((d : ℕ) → d < depth → env.own d ≡ inner.own d) → (x : Elem) → IsClosed depth x →
    put_elem inner x ≡ put_elem env x
put_inner depth env inner h (elem.Name m) c = refl
put_inner depth env inner h (At (Literal k)) c = refl
put_inner depth env inner h (At (Own d)) c = ap (λ z. At (Literal z)) (sym (h d c))
put_inner depth env inner h (At (Variable x)) c = absurd c
put_inner depth env inner h (At (Renamed x)) c = absurd c
put_inner depth env inner h Any c = refl
put_inner depth env inner h Star c = refl
put_inner depth env inner h (Local r m) c = absurd c

up_at : (n depth : ℕ) (env inner : Env) (args : List Rpl) → Stands n depth env inner args → (h : Head) (a : List Elem) →
    ((p : ℕ) → h ≡ Param p → p < n) → All (IsClosed depth) a →
    (r : List Elem) → Matches inner (record { head = h; elems = a }) r → Matches env (put_at h a args) r
unfolding Matches
up_at n depth env inner args s Root a hd c r m = (m.0, m.1, fits_agree inner env a (λ k d l. put_inner depth env inner s.own _ (c k d l)) m.0 m.2)
up_at n depth env inner args s (Param p) a hd c r m =
    let arg = argument args p in
    let f = s.match p (hd p refl) in (
      f.0 ++ m.0,
      m.1 ∙ ap (λ z. z ++ m.0) f.1 ∙ append_assoc (head_region env arg.head) f.0 m.0,
      fits_append env arg.elems a f.0 m.0 f.2 (fits_agree inner env a (λ k d l. put_inner depth env inner s.own _ (c k d l)) m.0 m.2),
    )

pub path_up : (n depth : ℕ) (env inner : Env) (args : List Rpl) → Stands n depth env inner args → (a : Rpl) → ClosedPath n depth a → (r : List Elem) →
    Matches inner a r → Matches env (substituted args a) r
unfolding substituted
path_up n depth env inner args s a c r m = up_at n depth env inner args s a.head a.elems c.head c.elems r m

pub path_down : (n depth : ℕ) (env inner : Env) (args : List Rpl) → Stands n depth env inner args → (a : Rpl) → ClosedPath n depth a →
    ((p : ℕ) → a.head ≡ Param p → IsTrue (fully_specified (argument args p))) → (r : List Elem) → Matches env (substituted args a) r → Matches inner a r
path_down n depth env inner args s a c full r m =
    closed_matches n depth (with_regions env inner.region) inner (record { region = λ p l. refl; own = s.own }) a c r
    (known_argument_matches env args a inner.region (λ p e. (full p e, s.match p (c.head p e))) r m)

has_own_param : (a : Rpl) (p : ℕ) → a.head ≡ Param p → has_param p a ≡ true
has_own_param a p e = ap (λ h. has_param p (record { head = h; elems = a.elems })) e ∙ eq-eqb p p refl

-- where each argument that the type mentions is fully specified, it has the same values
pub same_with : (n depth : ℕ) (env inner : Env) (args : List Rpl) → Stands n depth env inner args → (t : PlainType) → ClosedType n depth t →
    ((p : ℕ) → IsTrue (mentions_param p t) → IsTrue (fully_specified (argument args p))) → SameIn env (type_with args t) inner t
same_with n depth env inner args s int c full = tt
same_with n depth env inner args s boolean c full = tt
same_with n depth env inner args s void c full = tt
same_with n depth env inner args s null c full = tt
same_with n depth env inner args s (class d ps) c full = (
  refl,
  λ rs. (
    match_from inner env (substituted args) ps (λ k x l. path_down n depth env inner args s _ (c k x l) (λ p e. full p (list_any_at (has_param p) ps k x l (has_own_param (slice_index_or ps k x) p e)))) rs,
    match_onto inner env (substituted args) ps (λ k x l. path_up n depth env inner args s _ (c k x l)) rs,
  ),
)
same_with n depth env inner args s (array t a named) c full = (
  λ k r. (
    path_down n (suc depth) (under k env) (under k inner) args (stands_under k s) a c.0 (λ p e. full p (or_left _ _ (has_own_param a p e))) r,
    path_up n (suc depth) (under k env) (under k inner) args (stands_under k s) a c.0 r,
  ),
  λ k. same_with n (suc depth) (under k env) (under k inner) args (stands_under k s) t c.1 (λ p e. full p (or_right _ _ e)),
)

-- a value of the class's type is one of the type with arguments, where the type isn't rigid in one that is known in part
pub fits_with_up : (P : PlainProgram) (S : Shapes) (n : ℕ) (env inner : Env) (args : List Rpl) → Stands n 0 env inner args → (t : PlainType) →
    ClosedType n 0 t →
    ((p : ℕ) → IsTrue (rigid_in_param p t) → IsTrue (fully_specified (argument args p))) → (v : Value) → FitsIn P S inner t v →
    FitsIn P S env (type_with args t) v
fits_with_up P S n env inner args s int c steady v f = f
fits_with_up P S n env inner args s boolean c steady v f = f
fits_with_up P S n env inner args s void c steady v f = f
fits_with_up P S n env inner args s null c steady v f = f
fits_with_up P S n env inner args s (class d ps) c steady v f =
    null_or (Instance P S inner d ps) (Instance P S env d (map (substituted args) ps))
    (instance_onto P S inner env d d ps (map (substituted args) ps) refl
    (match_onto inner env (substituted args) ps (λ k x l. path_up n 0 env inner args s _ (c k x l)))) v f
fits_with_up P S n env inner args s (array t a named) c steady v f =
    null_or (ArrayInstance S inner t a) (ArrayInstance S env (type_with args t) (substituted args a))
    (array_onto P S inner env t (type_with args t) a (substituted args a)
    (λ k. path_up n 1 (under k env) (under k inner) args (stands_under k s) a c.0)
    (λ k. same_with n 1 (under k env) (under k inner) args (stands_under k s) t c.1 steady)) v f

pub fits_with_down : (P : PlainProgram) (S : Shapes) (n : ℕ) (env inner : Env) (args : List Rpl) → Stands n 0 env inner args → (t : PlainType) →
    ClosedType n 0 t →
    ((p : ℕ) → IsTrue (mentions_param p t) → IsTrue (fully_specified (argument args p))) → (v : Value) → FitsIn P S env (type_with args t) v →
    FitsIn P S inner t v
fits_with_down P S n env inner args s t c known v f = fits_same P S env (type_with args t) inner t (same_with n 0 env inner args s t c known) v f
