-- Paths and types over so many region parameters that name nothing else of a body, and what is put in for their parameters.
use Rattle.std.proofs.Common.{◌≡◌, ◌∙◌, ℕ, zero, suc, ◌<◌, ◌≤◌, Bool, true, false, ◌&&◌, ◌||◌, List, [], ◌∷◌, ◌++◌, map, length, slice_index_or, refl, sym, ap, subst, append_assoc, arith}
use Rattle.std.proofs.lemmas.Bool.{and_parts, eqb-true, eq-eqb}
use Rattle.std.proofs.lemmas.List.{get_or-map}
use Rattle.std.specs.List.{list_any}
use Rattle.lang_base.specs.declared.elems.Elem.{Elem}
use Rattle.lang_base.specs.declared.region.Head.{Head}
use Rattle.lang_base.specs.declared.region.Head.TheVariants.{Root, Param}
use Rattle.lang_base.specs.declared.region.Rpl.{Rpl}
use Rattle.lang_base.specs.Regions.{is_specified, all_specified, fully_specified, following, argument, put_at, substituted, same_head}
use Rattle.lang_base.specs.Types.{PlainType, int, boolean, void, null, class, array, type_with, has_param, mentions_param, rigid_in_param}
use Rattle.lang_typed.specs.Types.{Known, Readable}
use Rattle.sound_bodies.specs.Seen.{can_stand}
use Rattle.sound_bodies.specs.Naming.{Nothing, PathNames, PathsName, TypeNames}
use Rattle.sound_bodies.proofs.scope.InScope.{substituted_names}

-- a path may begin with one of so many region parameters, which have numbers
abbrev pub HeadIn : ℕ → Head → Type 0
HeadIn n Root = Unit {0}
HeadIn n (Param p) = (p < n) × (p ≤ 4294967295)

abbrev pub PathIn : ℕ → Rpl → Type 0
PathIn n a = HeadIn n a.head × PathNames Nothing Nothing a

abbrev pub PathsIn : ℕ → List Rpl → Type 0
PathsIn n [] = Unit {0}
PathsIn n (a ∷ rest) = PathIn n a × PathsIn n rest

-- and so may each path of the type of a value
abbrev pub TypeIn : ℕ → PlainType → Type 0
TypeIn n int = Unit {0}
TypeIn n boolean = Unit {0}
TypeIn n void = ⊥
TypeIn n null = ⊥
TypeIn n (class c args) = PathsIn n args
TypeIn n (array t a named) = PathIn n a × TypeIn n t

pub type_stands : (n : ℕ) (t : PlainType) → TypeIn n t → can_stand t ≡ true
type_stands n int h = refl
type_stands n boolean h = refl
type_stands n void h = absurd h
type_stands n null h = absurd h
type_stands n (class c args) h = refl
type_stands n (array t a named) h = refl

pub paths_name : (n : ℕ) (args : List Rpl) → PathsIn n args → PathsName Nothing Nothing args
paths_name n [] h = tt
paths_name n (a ∷ args) h = (h.0.1, paths_name n args h.1)

pub type_names : (n : ℕ) (t : PlainType) → TypeIn n t → TypeNames Nothing Nothing t
type_names n int h = tt
type_names n boolean h = tt
type_names n void h = absurd h
type_names n null h = absurd h
type_names n (class c args) h = paths_name n args h
type_names n (array t a named) h = (h.0.1, type_stands n t h.1, type_names n t h.1)

-- parameters that a type mentions have numbers
param_few : (n p : ℕ) (g : Head) → HeadIn n g → same_head g (Param p) ≡ true → (p < n) × (p ≤ 4294967295)
param_few n p Root h k = cc
param_few n p (Param q) h k = let same = eqb-true q p k in subst (λ z. (z < n) × (z ≤ 4294967295)) same h

either : {A : Type 0} (b c : Bool) → (b ≡ true → A) → (c ≡ true → A) → b || c ≡ true → A
either true c first next k = first refl
either false c first next k = next k

paths_few : (n p : ℕ) (args : List Rpl) → PathsIn n args → list_any (has_param p) args ≡ true → (p < n) × (p ≤ 4294967295)
paths_few n p [] h k = cc
paths_few n p (a ∷ args) h k = either (has_param p a) (list_any (has_param p) args) (param_few n p a.head h.0.0) (paths_few n p args h.1) k

pub type_few : (n p : ℕ) (t : PlainType) → TypeIn n t → mentions_param p t ≡ true → (p < n) × (p ≤ 4294967295)
type_few n p int h k = cc
type_few n p boolean h k = cc
type_few n p void h k = cc
type_few n p null h k = cc
type_few n p (class c args) h k = paths_few n p args h k
type_few n p (array t a named) h k = either (has_param p a) (mentions_param p t) (param_few n p a.head h.0.0) (type_few n p t h.1) k

abbrev whole : ℕ → Rpl
whole p = record { head = Param p; elems = [] }

-- arguments put into arguments
arg_put : (args above : List Rpl) (p : ℕ) → p < length above → argument (map (substituted args) above) p ≡ substituted args (argument above p)
arg_put args above p l = get_or-map (substituted args) above p (whole p) (whole p) l

put_after : (args : List Rpl) (h : Head) (xs ys : List Elem) → put_at h (xs ++ ys) args ≡ following (put_at h xs args) ys
put_after args Root xs ys = refl
put_after args (Param p) xs ys = ap (λ es. record { head = (argument args p).head; elems = es }) (sym (append_assoc (argument args p).elems xs ys))

put_twice : (args above : List Rpl) (h : Head) (es : List Elem) → HeadIn (length above) h → substituted args (put_at h es above) ≡ put_at h es (map (substituted args) above)
unfolding substituted
put_twice args above Root es i = refl
put_twice args above (Param p) es i =
    let b = argument above p in
    put_after args b.head b.elems es ∙ ap (λ (z : Rpl). following z es) (sym (arg_put args above p i.0))

pub path_twice : (args above : List Rpl) (a : Rpl) → PathIn (length above) a → substituted args (substituted above a) ≡ substituted (map (substituted args) above) a
unfolding substituted
path_twice args above a i = put_twice args above a.head a.elems i.0

paths_twice : (args above : List Rpl) (ps : List Rpl) → PathsIn (length above) ps → map (substituted args) (map (substituted above) ps) ≡ map (substituted (map (substituted args) above)) ps
paths_twice args above [] i = refl
paths_twice args above (a ∷ ps) i =
    ap (λ z. z ∷ map (substituted args) (map (substituted above) ps)) (path_twice args above a i.0)
    ∙ ap (λ z. substituted (map (substituted args) above) a ∷ z) (paths_twice args above ps i.1)

pub type_twice : (args above : List Rpl) (t : PlainType) → TypeIn (length above) t → type_with args (type_with above t) ≡ type_with (map (substituted args) above) t
type_twice args above int i = refl
type_twice args above boolean i = refl
type_twice args above void i = refl
type_twice args above null i = refl
type_twice args above (class c ps) i = ap (class c) (paths_twice args above ps i)
type_twice args above (array t a named) i =
    ap (λ z. array z (substituted args (substituted above a)) named) (type_twice args above t i.1)
    ∙ ap (λ z. array (type_with (map (substituted args) above) t) z named) (path_twice args above a i.0)

-- what is put in stays over its own parameters
arg_in : (n : ℕ) (args : List Rpl) (p : ℕ) (d : Rpl) → PathsIn n args → p < length args → PathIn n (slice_index_or args p d)
arg_in n [] p d h l = absurd (omega (arith, l))
arg_in n (a ∷ args) zero d h l = h.0
arg_in n (a ∷ args) (suc p) d h l = arg_in n args p d h.1 (omega (arith, l))

head_put : (n : ℕ) (args : List Rpl) (h : Head) (es : List Elem) → PathsIn n args → HeadIn (length args) h → HeadIn n (put_at h es args).head
head_put n args Root es all i = tt
head_put n args (Param p) es all i = (arg_in n args p (whole p) all i.0).0

pub path_put : (n : ℕ) (args : List Rpl) (a : Rpl) → PathsIn n args → PathIn (length args) a → PathIn n (substituted args a)
unfolding substituted
path_put n args a all i = (head_put n args a.head a.elems all i.0, substituted_names Nothing Nothing args (paths_name n args all) a i.1)

paths_put : (n : ℕ) (args ps : List Rpl) → PathsIn n args → PathsIn (length args) ps → PathsIn n (map (substituted args) ps)
paths_put n args [] all i = tt
paths_put n args (a ∷ ps) all i = (path_put n args a all i.0, paths_put n args ps all i.1)

pub type_put : (n : ℕ) (args : List Rpl) (t : PlainType) → PathsIn n args → TypeIn (length args) t → TypeIn n (type_with args t)
type_put n args int all i = tt
type_put n args boolean all i = tt
type_put n args void all i = absurd i
type_put n args null all i = absurd i
type_put n args (class c ps) all i = paths_put n args ps all i
type_put n args (array t a named) all i = (path_put n args a all i.0, type_put n args t all i.1)

-- the parameter in a type with arguments put in comes out of an argument that the type mentions
record Comes (above : List Rpl) (p : ℕ) (test : ℕ → Bool) : Type 0 where
  at : ℕ
  mentioned : test at ≡ true
  within : at < length above
  begins : has_param p (argument above at) ≡ true

head_comes : (above : List Rpl) (p : ℕ) (h : Head) (es : List Elem) → HeadIn (length above) h → same_head (put_at h es above).head (Param p) ≡ true → Comes above p (λ q. same_head h (Param q))
head_comes above p Root es i k = cc
head_comes above p (Param q) es i k = record { at = q; mentioned = eq-eqb q q refl; within = i.0; begins = k }

path_comes : (above : List Rpl) (p : ℕ) (a : Rpl) → PathIn (length above) a → has_param p (substituted above a) ≡ true → Comes above p (λ q. has_param q a)
unfolding substituted
path_comes above p a i k = head_comes above p a.head a.elems i.0 k

comes_first : {above : List Rpl} {p : ℕ} (test other : ℕ → Bool) → Comes above p test → Comes above p (λ q. test q || other q)
comes_first test other w = record { at = w.at; mentioned = ap (λ b. b || other w.at) w.mentioned; within = w.within; begins = w.begins }

comes_next : {above : List Rpl} {p : ℕ} (test other : ℕ → Bool) → Comes above p other → Comes above p (λ q. test q || other q)
comes_next test other w = record { at = w.at; mentioned = by (test w.at) w.mentioned; within = w.within; begins = w.begins }
  where
    by : (b : Bool) → other w.at ≡ true → b || other w.at ≡ true
    by true k = refl
    by false k = k

comes_either : {above : List Rpl} {p : ℕ} (test other : ℕ → Bool) (b c : Bool) → (b ≡ true → Comes above p test) → (c ≡ true → Comes above p other) → b || c ≡ true → Comes above p (λ q. test q || other q)
comes_either test other true c first next k = comes_first test other (first refl)
comes_either test other false c first next k = comes_next test other (next k)

paths_come : (above : List Rpl) (p : ℕ) (ps : List Rpl) → PathsIn (length above) ps → list_any (has_param p) (map (substituted above) ps) ≡ true → Comes above p (λ q. list_any (has_param q) ps)
paths_come above p [] i k = cc
paths_come above p (a ∷ ps) i k =
    comes_either (λ q. has_param q a) (λ q. list_any (has_param q) ps) (has_param p (substituted above a)) (list_any (has_param p) (map (substituted above) ps))
    (path_comes above p a i.0) (paths_come above p ps i.1) k

type_comes : (above : List Rpl) (p : ℕ) (t : PlainType) → TypeIn (length above) t → mentions_param p (type_with above t) ≡ true → Comes above p (λ q. mentions_param q t)
type_comes above p int i k = cc
type_comes above p boolean i k = cc
type_comes above p void i k = cc
type_comes above p null i k = cc
type_comes above p (class c ps) i k = paths_come above p ps i k
type_comes above p (array t a named) i k =
    comes_either (λ q. has_param q a) (λ q. mentions_param q t) (has_param p (substituted above a)) (mentions_param p (type_with above t))
    (path_comes above p a i.0) (type_comes above p t i.1) k

rigid_comes : (above : List Rpl) (p : ℕ) (t : PlainType) → TypeIn (length above) t → rigid_in_param p (type_with above t) ≡ true → Comes above p (λ q. rigid_in_param q t)
rigid_comes above p int i k = cc
rigid_comes above p boolean i k = cc
rigid_comes above p void i k = cc
rigid_comes above p null i k = cc
rigid_comes above p (class c ps) i k = cc
rigid_comes above p (array t a named) i k = type_comes above p t i.1 k

-- where an argument is fully specified once others are put in, so is the one that its parameter stands for
first_full : (xs ys : List Elem) → all_specified (xs ++ ys) ≡ true → all_specified xs ≡ true
first_full [] ys h = refl
first_full (x ∷ xs) ys h =
    let p = and_parts (is_specified x) (all_specified (xs ++ ys)) h in
    ap (λ b. b && all_specified xs) p.0 ∙ first_full xs ys p.1

put_full : (args : List Rpl) (p : ℕ) (h : Head) (es : List Elem) → same_head h (Param p) ≡ true → fully_specified (put_at h es args) ≡ true → fully_specified (argument args p) ≡ true
put_full args p Root es s f = cc
put_full args p (Param q) es s f = let same = eqb-true q p s in subst (λ z. fully_specified (argument args z) ≡ true) same (first_full (argument args q).elems es f)

path_full : (args : List Rpl) (p : ℕ) (a : Rpl) → has_param p a ≡ true → fully_specified (substituted args a) ≡ true → fully_specified (argument args p) ≡ true
unfolding substituted
path_full args p a s f = put_full args p a.head a.elems s f

comes_full : (args above : List Rpl) (p : ℕ) (test : ℕ → Bool) → Comes above p test → ((q : ℕ) → test q ≡ true → fully_specified (argument (map (substituted args) above) q) ≡ true) → fully_specified (argument args p) ≡ true
comes_full args above p test w full =
    path_full args p (argument above w.at) w.begins (ap fully_specified (sym (arg_put args above w.at w.within)) ∙ full w.at w.mentioned)

pub known_put : (args above : List Rpl) (t : PlainType) → TypeIn (length above) t → Known (map (substituted args) above) t → Known args (type_with above t)
known_put args above t i known p k = comes_full args above p (λ q. mentions_param q t) (type_comes above p t i k) known

pub readable_put : (args above : List Rpl) (t : PlainType) → TypeIn (length above) t → Readable (map (substituted args) above) t → Readable args (type_with above t)
readable_put args above t i readable p k = comes_full args above p (λ q. rigid_in_param q t) (rigid_comes above p t i k) readable
