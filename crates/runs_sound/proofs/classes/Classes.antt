-- What a class table in order says of objects: their regions and fields, seen as those of a class above theirs.
use Rattle.std.proofs.Common.{◌≡◌, ◌<◌, ℕ, ℤ, zero, suc, pos, true, false, List, [], ◌∷◌, ◌++◌, map, length, refl, sym, ap, ◌∙◌, subst, arith, Option, Some, None, IsTrue, slice_get, slice_index_or}
use Rattle.std.specs.Prelude.{All, option_and_then}
use Rattle.std.proofs.lemmas.List.{get_or-map, length-map, map-append}
use Rattle.std.proofs.lemmas.List.Elements.{All-head, All-tail, All-cons, All-map}
use Rattle.std.proofs.lemmas.Bool.{false≢true, and_parts, and_from}
use Rattle.std.proofs.lemmas.Option.{get_or_from_slice_get, slice_get_within}
use Rattle.lang_base.specs.declared.effect.Constraint.{Constraint}
use Rattle.lang_base.specs.declared.elems.Elem.{Elem}
use Rattle.lang_base.specs.declared.elems.Elem.TheVariants.{At, Any, Star, Local}
use Rattle.lang_base.specs.declared.elems.Elem.TheVariants as elem
use Rattle.lang_base.specs.declared.elems.Index.TheVariants.{Literal, Variable, Renamed, Own}
use Rattle.lang_base.specs.declared.region.Head.{Head}
use Rattle.lang_base.specs.declared.region.Head.TheVariants.{Root, Param}
use Rattle.lang_base.specs.declared.region.Rpl.{Rpl}
use Rattle.lang_base.specs.Matching.{is_plain, all_plain, Env, IsEnv, Holds, put_elem, put_in, Matches}
use Rattle.lang_base.specs.Matching.{head_region as env_region}
use Rattle.lang_base.specs.Regions.{is_local, is_specified, all_specified, fully_specified, within, argument, put_at, substituted}
use Rattle.lang_base.specs.Types.{PlainType, int, boolean, void, null, class, array, type_with, all_within}
use Rattle.lang_typed.specs.Plain.{PlainProgram, PlainClass, PlainField, PlainParent}
use Rattle.lang_typed.specs.Scope.{class_at, field_at, parent_of, atomic_in}
use Rattle.lang_typed.specs.Table.{class_scope, field_with, GoodField, Extends}
use Rattle.lang_typed.specs.Types.{Subtype, ints, booleans, null_object, null_array, objects, arrays, inherits}
use Rattle.lang_typed.specs.WellTyped.{WellTyped}
use Rattle.lang_meaning.specs.Regions.{Around, part_of, head_region, concrete}
use Rattle.lang_meaning.specs.Values.{Naming}
use Rattle.region_paths.proofs.Fitting.{all_plain-append, matches_more}
use Rattle.region_paths.proofs.Putting.{specified_matches_one, substitution_puts_in}
use Rattle.region_paths.proofs.Envs.{constraint_carried}
use Rattle.runs_theory.specs.Objects.{LocalRegion, Value, Int, Boolean, Null, Object, Region}
use Rattle.runs_theory.specs.Objects.{Name as ObjectName}
use Rattle.runs_program.specs.Steps.{named_by}
use Rattle.runs_sound.specs.Settings.{elem_of, elems_of, region_in, ArePlain, class_setting, class_env, under}
use Rattle.runs_sound.specs.Shapes.{Shapes, regions_of_parent, Is, same, up, AllMatch, GoodObject, Instance, SameIn, ArrayInstance, FitsIn}
use Rattle.runs_sound.proofs.paths.Atomic.{args_atomic}
use Rattle.runs_sound.proofs.scopes.Closed.{IsClosed, ClosedPath, closed_put, closed_holds, closed_path, closed_type}
use Rattle.runs_sound.proofs.scopes.Codes.{setting_env, unmade_one}
use Rattle.runs_sound.proofs.classes.Types.{same_refl, same_sym, same_trans, same_type, null_or, array_onto, NoOwn, Stands, path_up, same_with}

-- a path with a frame put in, as a path with an environment put in
pub concrete_elems : (names : Naming ObjectName LocalRegion) (f : Around ObjectName LocalRegion) (env : Env) (a : Rpl) →
    elems_of (head_region f.regions a.head) ≡ env_region env a.head → All (λ x. elem_of (part_of names f x) ≡ put_elem env x) a.elems →
    elems_of (concrete names f a) ≡ (put_in env a).elems
unfolding put_in
concrete_elems names f env a h e =
    let t = go a.elems e in
    map-append elem_of (head_region f.regions a.head) (map (part_of names f) a.elems) ∙ (λ i. h i ++ t i)
  where
    go : (xs : List Elem) → All (λ x. elem_of (part_of names f x) ≡ put_elem env x) xs → map elem_of (map (part_of names f) xs) ≡ map (put_elem env) xs
    go [] e = refl
    go (x ∷ xs) e =
        let h = All-head (λ x. elem_of (part_of names f x) ≡ put_elem env x) x xs e in
        let t = go xs (All-tail (λ x. elem_of (part_of names f x) ≡ put_elem env x) x xs e) in
        λ i. h i ∷ t i

class_elem : (rs : List Region) (x : Elem) → IsClosed 0 x → elem_of (part_of (named_by []) (record { values = []; regions = rs; locals = [] }) x) ≡ put_elem (class_env rs) x
class_elem rs (elem.Name n) c = refl
class_elem rs (At (Literal k)) c = refl
class_elem rs (At (Own d)) c = absurd (omega (arith, c))
class_elem rs (At (Variable x)) c = absurd c
class_elem rs (At (Renamed x)) c = absurd c
class_elem rs Any c = refl
class_elem rs Star c = refl
class_elem rs (Local r n) c = absurd c

class_head : (rs : List Region) (h : Head) → elems_of (head_region rs h) ≡ env_region (class_env rs) h
class_head rs Root = refl
class_head rs (Param p) = refl

pub class_concrete : (n : ℕ) (rs : List Region) (a : Rpl) → ClosedPath n 0 a →
    elems_of (concrete (named_by []) (record { values = []; regions = rs; locals = [] }) a) ≡ (put_in (class_env rs) a).elems
class_concrete n rs a c = concrete_elems (named_by []) (record { values = []; regions = rs; locals = [] }) (class_env rs) a (class_head rs a.head)
    (λ k d l. class_elem rs _ (c.elems k d l))

pub parent_region : (n : ℕ) (rs : List Region) (args : List Rpl) → All (ClosedPath n 0) args → (p : ℕ) → p < length args →
    region_in (map (λ a. concrete (named_by []) (record { values = []; regions = rs; locals = [] }) a) args) p ≡ (put_in (class_env rs) (argument args p)).elems
parent_region n rs args c p l =
    ap elems_of (get_or-map (λ a. concrete (named_by []) (record { values = []; regions = rs; locals = [] }) a) args p (record { head = Param p; elems = [] }) [] l)
    ∙ class_concrete n rs (argument args p) (c p (record { head = Param p; elems = [] }) l)

closed_alone : (x : Elem) → IsClosed 0 x → NoOwn x
closed_alone (elem.Name n) c = tt
closed_alone (At (Literal k)) c = tt
closed_alone (At (Own d)) c = omega (arith, c)
closed_alone (At (Variable x)) c = tt
closed_alone (At (Renamed x)) c = tt
closed_alone Any c = tt
closed_alone Star c = tt
closed_alone (Local r n) c = tt

pub path_alone : (n : ℕ) (a : Rpl) → ClosedPath n 0 a → All NoOwn a.elems
path_alone n a c = λ k d l. closed_alone _ (c.elems k d l)

-- a fully specified path without local regions is plain in a run
plain_elem : (env : Env) (x : Elem) → is_specified x ≡ true → is_local x ≡ false → is_plain (put_elem env x) ≡ true
plain_elem env (elem.Name n) s l = refl
plain_elem env (At i) s l = refl
plain_elem env Any s l = absurd (false≢true s)
plain_elem env Star s l = absurd (false≢true s)
plain_elem env (Local r n) s l = absurd (false≢true (sym l))

plain_elems : (env : Env) (a : List Elem) → all_specified a ≡ true → All (λ x. is_local x ≡ false) a → all_plain (map (put_elem env) a) ≡ true
plain_elems env [] s l = refl
plain_elems env (x ∷ a) s l =
    let p = and_parts (is_specified x) _ s in
    and_from _ _ (plain_elem env x p.0 (All-head (λ x. is_local x ≡ false) x a l)) (plain_elems env a p.1 (All-tail (λ x. is_local x ≡ false) x a l))

plain_head : (env : Env) → ((p : ℕ) → all_plain (env.region p) ≡ true) → (h : Head) → all_plain (env_region env h) ≡ true
plain_head env r Root = refl
plain_head env r (Param p) = r p

pub plain_put : (env : Env) → ((p : ℕ) → all_plain (env.region p) ≡ true) → (a : Rpl) → fully_specified a ≡ true →
    All (λ x. is_local x ≡ false) a.elems → all_plain (put_in env a).elems ≡ true
unfolding put_in
plain_put env r a s l = all_plain-append (env_region env a.head) (map (put_elem env) a.elems) (plain_head env r a.head) (plain_elems env a.elems s l)

closed_local : (x : Elem) → IsClosed 0 x → is_local x ≡ false
closed_local (elem.Name n) c = refl
closed_local (At i) c = refl
closed_local Any c = refl
closed_local Star c = refl
closed_local (Local r n) c = absurd c

get_front : {A : Type 0} (xs ys : List A) (k : ℕ) (x : A) → slice_get xs k ≡ Some x → slice_get (xs ++ ys) k ≡ Some x
get_front [] ys k x e = absurd (let q : None ≡ Some x = e in cc)
get_front (y ∷ xs) ys zero x e = e
get_front (y ∷ xs) ys (suc k) x e = get_front xs ys k x e

get_map : {A B : Type 0} (f : A → B) (xs : List A) (k : ℕ) (x : A) → slice_get xs k ≡ Some x → slice_get (map f xs) k ≡ Some (f x)
get_map f [] k x e = absurd (let q : None ≡ Some x = e in cc)
get_map f (y ∷ xs) zero x e = let q : y ≡ x = cc in ap (λ z. Some (f z)) q
get_map f (y ∷ xs) (suc k) x e = get_map f xs k x e

-- what holds of each, at one
pub all_get : {A : Type 0} (Q : A → Type 0) (xs : List A) (k : ℕ) (x : A) → All Q xs → slice_get xs k ≡ Some x → Q x
all_get Q xs k x h e = subst Q (get_or_from_slice_get xs k x x e) (h k x (slice_get_within xs k x e))

-- no local regions of a run in an environment of an array type or none
pub env_under : (k : ℤ) (env : Env) → IsEnv [] env → IsEnv [] (under k env)
env_under k env v = record { regions = v.regions; copies = v.copies; locals = v.locals; constraints = λ j d l. absurd (omega (arith, l)) }

pub env_alone : (given : List Constraint) (env : Env) → IsEnv given env → IsEnv [] env
env_alone given env v = record { regions = v.regions; copies = v.copies; locals = v.locals; constraints = λ j d l. absurd (omega (arith, l)) }

all_more : (env : Env) → IsEnv [] env → (as' bs : List Rpl) → all_within as' bs ≡ true → (rs : List Region) → AllMatch env as' rs → AllMatch env bs rs
all_more env v [] [] w [] m = m
all_more env v [] [] w (r ∷ rs) m = absurd m
all_more env v [] (b ∷ bs) w rs m = absurd (false≢true w)
all_more env v (a ∷ as') [] w rs m = absurd (false≢true w)
all_more env v (a ∷ as') (b ∷ bs) w [] m = absurd m
all_more env v (a ∷ as') (b ∷ bs) w (r ∷ rs) m =
    let p = and_parts (within a b) _ w in
    (matches_more [] env v a b p.0 (elems_of r) m.0, all_more env v as' bs p.1 rs m.1)

-- the path at a place matches the region there
match_at : (env : Env) (args : List Rpl) (rs : List Region) (p : ℕ) (b : Rpl) → AllMatch env args rs → p < length args →
    Matches env (slice_index_or args p b) (region_in rs p)
match_at env [] rs p b m l = absurd (omega (arith, l))
match_at env (a ∷ args) [] p b m l = absurd m
match_at env (a ∷ args) (r ∷ rs) zero b m l = m.0
match_at env (a ∷ args) (r ∷ rs) (suc p) b m l = match_at env args rs p b m.1 (omega (arith, l))

pub match_length : (env : Env) (args : List Rpl) (rs : List Region) → AllMatch env args rs → length args ≡ length rs
match_length env [] [] m = refl
match_length env [] (r ∷ rs) m = absurd m
match_length env (a ∷ args) [] m = absurd m
match_length env (a ∷ args) (r ∷ rs) m = ap (λ n. suc n) (match_length env args rs m.1)

argument_alone : (args : List Rpl) (p : ℕ) (b : Rpl) → All NoOwn b.elems → All (λ a. All NoOwn a.elems) args → All NoOwn (slice_index_or args p b).elems
argument_alone [] p b hb h = hb
argument_alone (a ∷ args) zero b hb h = All-head (λ a. All NoOwn a.elems) a args h
argument_alone (a ∷ args) (suc p) b hb h = argument_alone args p b hb (All-tail (λ a. All NoOwn a.elems) a args h)

none_at_all : {A : Type 0} (Q : A → Type 0) → All Q []
none_at_all Q = λ k d l. absurd (omega (arith, l))

all_both : {A : Type 0} (Q : A → Type 0) (xs ys : List A) → All Q xs → All Q ys → All Q (xs ++ ys)
all_both Q [] ys h k = k
all_both Q (x ∷ xs) ys h k = All-cons Q x (xs ++ ys) (All-head Q x xs h) (all_both Q xs ys (All-tail Q x xs h) k)

pub arguments_alone : (args : List Rpl) → All (λ a. All NoOwn a.elems) args → (p : ℕ) → All NoOwn (argument args p).elems
arguments_alone args h p = argument_alone args p (record { head = Param p; elems = [] }) (none_at_all NoOwn) h

alone_at : (args : List Rpl) → All (λ a. All NoOwn a.elems) args → (h : Head) (a : List Elem) → All NoOwn a → All NoOwn (put_at h a args).elems
alone_at args al Root a h = h
alone_at args al (Param p) a h = all_both NoOwn (argument args p).elems a (arguments_alone args al p) h

pub alone_put : (args : List Rpl) → All (λ a. All NoOwn a.elems) args → (a : Rpl) → All NoOwn a.elems → All NoOwn (substituted args a).elems
unfolding substituted
alone_put args al a h = alone_at args al a.head a.elems h

-- a type of objects whose arguments speak of no own index
abbrev pub IsAlone : PlainType → Type 0
IsAlone (class c args) = All (λ a. All NoOwn a.elems) args
IsAlone (array t a named) = Unit {0}
IsAlone int = Unit {0}
IsAlone boolean = Unit {0}
IsAlone void = Unit {0}
IsAlone null = Unit {0}

-- arguments that match the regions of an object
pub stands_args : (n : ℕ) (env : Env) (args : List Rpl) (rs : List Region) → AllMatch env args rs → length rs ≡ n → All (λ a. All NoOwn a.elems) args →
    (env.own ≡ λ d. pos 0) →
    Stands n 0 env (class_env rs) args
stands_args n env args rs m e al o = record {
  match = λ p l. match_at env args rs p (record { head = Param p; elems = [] }) m
      (let k : length args ≡ length rs = match_length env args rs m in omega (arith, k, e, l));
  alone = λ p l. arguments_alone args al p;
  own = λ d l. absurd (omega (arith, l));
}

module _ (P : PlainProgram) (wt : WellTyped P) where
  pub parent_extends : {c : ℕ} {k : PlainClass} {p : PlainParent} → class_at P c ≡ Some k → parent_of P c ≡ Some p → Extends P wt.rank c k p
  parent_extends {c} {k} {p} e q = (wt.classes c k e).parent p (sym (ap (λ z. option_and_then (λ (class : PlainClass). class.parent) z) e) ∙ q)

  module _ (c : ℕ) (k : PlainClass) (p : PlainParent) (x : Extends P wt.rank c k p) where
    pub parent_closed : All (ClosedPath (length k.params) 0) p.args
    parent_closed = λ j d l. closed_path P (class_scope k) (λ y. refl) 0 _ (x.args.paths j d l)

    parent_stands : (depth : ℕ) (rs : List Region) → Stands (length x.above.params) depth (class_env rs) (class_env (regions_of_parent rs p)) p.args
    parent_stands depth rs = record {
      match = λ q l. (let l' : q < length p.args = (let z = x.args.arity in omega (arith, z, l)) in
          (specified_matches_one (class_env rs) (argument p.args q) (x.full q (record { head = Param q; elems = [] }) l') _).1
          (parent_region (length k.params) rs p.args parent_closed q l'));
      alone = λ q l. arguments_alone p.args (λ j d h. path_alone (length k.params) _ (parent_closed j d h)) q;
      own = λ d l. refl;
    }

    -- with the parent's arguments put in, or seen from the parent
    put_parent : (rs : List Region) (a : Rpl) → ClosedPath (length x.above.params) 0 a →
        put_in (class_env rs) (substituted p.args a) ≡ put_in (class_env (regions_of_parent rs p)) a
    put_parent rs a cl =
        substitution_puts_in (class_env rs) p.args a
        ∙ closed_put (length x.above.params) 0 _ (class_env (regions_of_parent rs p))
        (record { region = λ q l. sym (parent_region (length k.params) rs p.args parent_closed q (let z = x.args.arity in omega (arith, z, l))); own = λ d l. refl }) a cl

    parent_plain : (rs : List Region) → ArePlain rs → ArePlain (regions_of_parent rs p)
    parent_plain rs plain q = go (slice_get p.args q) refl
      where
        within' : (l : q < length p.args) → all_plain (region_in (regions_of_parent rs p) q) ≡ true
        within' l =
            ap all_plain (parent_region (length k.params) rs p.args parent_closed q l)
            ∙ plain_put (class_env rs) plain (argument p.args q) (x.full q (record { head = Param q; elems = [] }) l)
            (λ j d h. closed_local _ ((parent_closed q (record { head = Param q; elems = [] }) l).elems j d h))

        past : (args : List Rpl) (q : ℕ) → slice_get args q ≡ None → all_plain (region_in (map (λ a. concrete (named_by []) (record { values = []; regions = rs; locals = [] }) a) args) q) ≡ true
        past [] q e = refl
        past (a ∷ args) zero e = absurd (let z : Some a ≡ None = e in cc)
        past (a ∷ args) (suc q) e = past args q e

        go : (o : Option Rpl) → slice_get p.args q ≡ o → all_plain (region_in (regions_of_parent rs p) q) ≡ true
        go None e = past p.args q e
        go (Some a) e = within' (slice_get_within p.args q a e)

    parent_given : (rs : List Region) → ArePlain rs → All (Holds (class_env rs)) k.given → All (Holds (class_env (regions_of_parent rs p))) x.above.given
    parent_given rs plain h = λ j d l.
        (let good = (wt.classes p.class x.above x.is).given j d l in
        closed_holds (length x.above.params) _ (class_env (regions_of_parent rs p))
        (record { region = λ q l. sym (parent_region (length k.params) rs p.args parent_closed q (let z = x.args.arity in omega (arith, z, l))); own = λ d l. refl }) _
        (closed_path P (class_scope x.above) (λ y. refl) 0 _ good.0) (closed_path P (class_scope x.above) (λ y. refl) 0 _ good.1)
        (constraint_carried k.given (class_env rs) (setting_env k.given (class_setting rs) plain unmade_one h) p.args _ (x.args.hold j d l)))

  pub good_parent : {c : ℕ} {rs : List Region} {p : PlainParent} → GoodObject P c rs → parent_of P c ≡ Some p → GoodObject P p.class (regions_of_parent rs p)
  good_parent {c} {rs} {p} g e =
      let x = parent_extends g.is e in
      record {
        class = x.above;
        is = x.is;
        arity = length-map p.args (λ a. concrete (named_by []) (record { values = []; regions = rs; locals = [] }) a) ∙ x.args.arity;
        plain = parent_plain c g.class p x rs g.plain;
        atomic = args_atomic (atomic_in P (class_scope g.class)) (class_env rs) g.atomic x.above.params p.args (regions_of_parent rs p) x.args.arity
            (parent_stands c g.class p x 0 rs).match x.args.atomic;
        given = parent_given c g.class p x rs g.plain g.given;
      }

  pub good_is : {d c : ℕ} {rs qs : List Region} → Is P d rs c qs → GoodObject P d rs → GoodObject P c qs
  good_is same g = g
  good_is (up e h) g = good_is h (good_parent g e)

  pub is_up : {d c : ℕ} {rs qs : List Region} {p : PlainParent} → Is P d rs c qs → parent_of P c ≡ Some p → Is P d rs p.class (regions_of_parent qs p)
  is_up same e = up e same
  is_up (up f h) e = up f (is_up h e)

  -- a field is one of its class
  pub field_good : (c : ℕ) (k : PlainClass) (j : ℕ) (f : PlainField) → class_at P c ≡ Some k → field_at P c j ≡ Some f → GoodField P k f
  field_good c k j f e q = all_get (GoodField P k) k.fields j f (wt.classes c k e).fields
      (sym (ap (λ z. option_and_then (λ (class : PlainClass). slice_get class.fields j) z) e) ∙ q)

  -- a field of a class above, at the object's own class
  pub record FieldAt (d : ℕ) (rs qs : List Region) (j : ℕ) (f : PlainField) : Type 0 where
    pub field : PlainField
    pub there : field_at P d j ≡ Some field
    pub region : (put_in (class_env rs) field.region).elems ≡ (put_in (class_env qs) f.region).elems
    pub types : SameIn (class_env rs) field.ty (class_env qs) f.ty

  pub field_is : {d c : ℕ} {rs qs : List Region} (j : ℕ) (f : PlainField) → Is P d rs c qs → GoodObject P d rs → field_at P c j ≡ Some f → FieldAt d rs qs j f
  field_is {d} {c} {rs} {qs} j f same g e = record { field = f; there = e; region = refl; types = same_refl (class_env rs) f.ty }
  field_is {d} {c} {rs} {qs} j f (up {p = p} q h) g e =
      let x = parent_extends g.is q in
      let i = field_is j f h (good_parent g q) e in
      let good = field_good p.class x.above j i.field x.is i.there in
      let there : slice_get x.above.fields j ≡ Some i.field = sym (ap (λ z. option_and_then (λ (class : PlainClass). slice_get class.fields j) z) x.is) ∙ i.there in
      let n = length x.above.params in
      record {
        field = field_with p.args i.field;
        there = ap (λ z. option_and_then (λ (class : PlainClass). slice_get class.fields j) z) g.is ∙ ap (λ z. slice_get z j) x.fields
            ∙ get_front (map (field_with p.args) x.above.fields) x.own_fields j (field_with p.args i.field) (get_map (field_with p.args) x.above.fields j i.field there);
        region = ap (λ (z : Rpl). z.elems) (put_parent d g.class p x rs i.field.region
            (closed_path P (class_scope x.above) (λ y. refl) 0 i.field.region good.path)) ∙ i.region;
        types = same_trans (class_env rs) (type_with p.args i.field.ty) (class_env (regions_of_parent rs p)) i.field.ty (class_env qs) f.ty
            (same_with n 0 (class_env rs) (class_env (regions_of_parent rs p)) p.args (parent_stands d g.class p x 0 rs) i.field.ty
            (closed_type P (class_scope x.above) (λ y. refl) (λ r e. false≢true e) 0 i.field.ty good.ty)
            (λ q _. full_at p.args x.full q)) i.types;
      }
    where
      -- where there is no argument, the parameter itself is fully specified
      full_at : (args : List Rpl) → All (λ a. IsTrue (fully_specified a)) args → (q : ℕ) → fully_specified (argument args q) ≡ true
      full_at args h q = go args h q (record { head = Param q; elems = [] }) refl
        where
          go : (args : List Rpl) → All (λ a. IsTrue (fully_specified a)) args → (q : ℕ) (b : Rpl) → fully_specified b ≡ true →
              fully_specified (slice_index_or args q b) ≡ true
          go [] h q b e = e
          go (a ∷ args) h zero b e = All-head (λ a. IsTrue (fully_specified a)) a args h
          go (a ∷ args) h (suc q) b e = go args (All-tail (λ a. IsTrue (fully_specified a)) a args h) q b e

  -- an object of a class is one of its superclass
  pub instance_parent : (S : Shapes) (env : Env) → (env.own ≡ λ d. pos 0) → (c : ℕ) (args : List Rpl) (p : PlainParent) →
      All (λ a. All NoOwn a.elems) args → parent_of P c ≡ Some p →
      (n : ObjectName) → Instance P S env c args n → Instance P S env p.class (map (substituted args) p.args) n
  instance_parent S env o c args p al e n i =
      let g = good_is i.is_one i.good in
      let x = parent_extends g.is e in
      record {
        class = i.class;
        made_with = i.made_with;
        regions = regions_of_parent i.regions p;
        shape = i.shape;
        good = i.good;
        is_one = is_up i.is_one e;
        matches = go (stands_args (length g.class.params) env args i.regions i.matches g.arity al o) p.args (parent_closed c g.class p x) x.full;
      }
    where
      go : {m : ℕ} → Stands m 0 env (class_env i.regions) args → (ps : List Rpl) → All (ClosedPath m 0) ps → All (λ a. IsTrue (fully_specified a)) ps →
          AllMatch env (map (substituted args) ps) (map (λ a. concrete (named_by []) (record { values = []; regions = i.regions; locals = [] }) a) ps)
      go s [] cl fu = tt
      go {m} s (a ∷ ps) cl fu =
          let c0 = All-head (ClosedPath m 0) a ps cl in (
            path_up m 0 env (class_env i.regions) args s a c0 _
                ((specified_matches_one (class_env i.regions) a (All-head (λ a. IsTrue (fully_specified a)) a ps fu) _).1 (class_concrete m i.regions a c0)),
            go s ps (All-tail (ClosedPath m 0) a ps cl) (All-tail (λ a. IsTrue (fully_specified a)) a ps fu),
          )

  null_subtype : (S : Shapes) (env : Env) {c : ℕ} {rs : List Rpl} {t : PlainType} → Subtype P (class c rs) t → FitsIn P S env t Null
  null_subtype S env (objects h) = tt
  null_subtype S env (inherits e h) = null_subtype S env h

  pub subtype_fits : (S : Shapes) (env : Env) → IsEnv [] env → (env.own ≡ λ d. pos 0) → {t u : PlainType} → Subtype P t u → IsAlone t → (v : Value) →
      FitsIn P S env t v → FitsIn P S env u v
  subtype_fits S env w o ints al v f = f
  subtype_fits S env w o booleans al v f = f
  subtype_fits S env w o (null_object {c = c} {args = args}) al v f = null_or (λ n. ⊥) (Instance P S env c args) (λ n z. absurd z) v f
  subtype_fits S env w o (null_array {t = t} {a = a}) al v f = null_or (λ n. ⊥) (ArrayInstance S env t a) (λ n z. absurd z) v f
  subtype_fits S env w o (objects {c = c} {rs = rs} {ss = ss} h) al v f =
      null_or (Instance P S env c rs) (Instance P S env c ss)
      (λ n i. record { class = i.class; made_with = i.made_with; regions = i.regions; shape = i.shape; good = i.good; is_one = i.is_one; matches = all_more env w rs ss h i.regions i.matches }) v f
  subtype_fits S env w o (arrays {t = t} {u = u} {a = a} {b = b} h s) al v f =
      null_or (ArrayInstance S env t a) (ArrayInstance S env u b)
      (array_onto P S env env t u a b (λ k r m. matches_more [] (under k env) (env_under k env w) a b h r m)
      (λ k. same_sym (under k env) t (under k env) u (same_type (under k env) t u s))) v f
  subtype_fits S env w o (inherits {c = c} {rs = rs} {p = p} {t = t} e h) al Null f = null_subtype S env h
  subtype_fits S env w o (inherits {c = c} {rs = rs} {p = p} {t = t} e h) al (Int k) f = absurd f
  subtype_fits S env w o (inherits {c = c} {rs = rs} {p = p} {t = t} e h) al (Boolean k) f = absurd f
  subtype_fits S env w o (inherits {c = c} {rs = rs} {p = p} {t = t} e h) al (Object n) f =
      let g = good_is f.is_one f.good in
      let x = parent_extends g.is e in
      subtype_fits S env w o h
      (All-map (λ a. All NoOwn a.elems) (substituted rs) p.args (λ j d l. alone_put rs al _ (path_alone (length g.class.params) _ (parent_closed c g.class p x j d l))))
      (Object n) (instance_parent S env o c rs p al e n f)
