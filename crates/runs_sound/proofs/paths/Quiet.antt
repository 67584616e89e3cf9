-- Effects that don't clash speak of no two accesses that meet.
use Rattle.std.proofs.Common.{◌≡◌, ◌≢◌, ◌⊎◌, inl, inr, ⊎_elim, ℕ, ℤ, Bool, true, false, not, ◌==◌, ◌&&◌, ◌||◌, List, [], ◌∷◌, ◌++◌, map, refl, sym, ap, ◌∙◌, subst, Option, Some, None, slice_index_or}
use Rattle.std.specs.Prelude.{All}
use Rattle.std.proofs.lemmas.List.Elements.{All-head, All-tail}
use Rattle.std.proofs.lemmas.Bool.{cases_Bool, cond-true, cond-false, eq-eqb, false≢true, and_from, and_parts, or_left, or_right}
use Rattle.lang_base.specs.declared.effect.Constraint.{Constraint}
use Rattle.lang_base.specs.declared.effect.Effect.{Effect}
use Rattle.lang_base.specs.declared.elems.Elem.{Elem}
use Rattle.lang_base.specs.declared.elems.Elem.TheVariants.{Name, At, Any, Star, Local}
use Rattle.lang_base.specs.declared.elems.Index.TheVariants.{Literal, Variable, Renamed, Own}
use Rattle.lang_base.specs.declared.region.Head.{Head}
use Rattle.lang_base.specs.declared.region.Head.TheVariants.{Root, Param}
use Rattle.lang_base.specs.declared.region.Rpl.{Rpl}
use Rattle.lang_base.specs.Apart.{apart}
use Rattle.lang_base.specs.Branches.{Atomic, atomic_path, ends_atomic, ordered_by_blocks, clashes, some_clashes, lists_clash, iterations_clash, renamed_elem, renamed_rpl, renamed_effect}
use Rattle.lang_base.specs.Effects.{is_write, interferes}
use Rattle.lang_base.specs.Matching.{Env, IsEnv, put_elem, put_in, head_region}
use Rattle.lang_typed.specs.Effects.{Own as EffectOwn, does, uses, effect_of, as_effects}
use Rattle.lang_typed.specs.declared.stmt.Forking.{Forking}
use Rattle.lang_typed.specs.declared.stmt.Forking.TheVariants.{Deterministic, Nondeterministic}
use Rattle.lang_typed.specs.Plain.{PlainProgram}
use Rattle.lang_typed.specs.Scope.{Scope, atomic_for}
use Rattle.region_paths.specs.Laws.{HasNoCopies}
use Rattle.region_paths.specs.Laws.{another, with_copy}
use Rattle.region_paths.proofs.Reading.{copies_exist}
use Rattle.runs_sound.specs.Settings.{EndAtomic, Setting, env_of, with_number}
use Rattle.runs_sound.specs.Accesses.{Access, at_root, Includes, Speaks, Covers, LiesIn}
use Rattle.runs_sound.specs.Branches.{Meet, Quiet, Separate}
use Rattle.runs_sound.specs.Scopes.{InScope, PathInScope}
use Rattle.runs_sound.specs.Laws.{BranchesQuiet, IterationsQuiet, NdBranchesQuiet, NdBranchesSeparate, NdIterationsQuiet, NdIterationsSeparate}
use Rattle.runs_sound.proofs.paths.Atomic.{EnvAtomic, includes_ends}
use Rattle.runs_sound.proofs.scopes.Closed.{put_agree}
use Rattle.runs_sound.proofs.paths.Including.{includes_apart, includes_same, none_in_both}

-- one of these effects matches the access, in an environment
abbrev pub Reach : Env → Effect → Access → Type 0
Reach env e a = Includes env e.rpl a.region × (a.write ≡ true → is_write e.access ≡ true) × (e.atomic ≡ true → a.guarded ≡ true)

abbrev pub Reaches : Env → List Effect → Access → Type 0
Reaches env [] a = ⊥
Reaches env (e ∷ es) a = Reach env e a ⊎ Reaches env es a

or_parts : (x y : Bool) → (x || y) ≡ false → (x ≡ false) × (y ≡ false)
or_parts false y e = (refl, e)
or_parts true y e = absurd (false≢true (sym e))

or_cases : (x y : Bool) → (x || y) ≡ true → (x ≡ true) ⊎ (y ≡ true)
or_cases true y e = inl refl
or_cases false y e = inr e

-- a write that doesn't interfere is apart, or blocks order it
write_apart : (w p y : Bool) → ((w && not p) && not y) ≡ false → w ≡ true → (p ≡ true) ⊎ (y ≡ true)
write_apart true true y h e = inl refl
write_apart true false true h e = inr refl
write_apart true false false h e = absurd (false≢true (sym h))
write_apart false p y h e = absurd (false≢true e)

effects_apart : (given : List Constraint) (nd : Option Atomic) (e f : Effect) → clashes given nd e f ≡ false → (is_write e.access || is_write f.access) ≡ true →
    (apart given e.rpl f.rpl ≡ true) ⊎ (ordered_by_blocks nd e f ≡ true)
unfolding clashes interferes
effects_apart given nd e f h w = write_apart (is_write e.access || is_write f.access) (apart given e.rpl f.rpl) (ordered_by_blocks nd e f) h w

-- what is left where accesses meet: where blocks order effects, that both stand in atomic blocks, in an atomic region
abbrev pub IsOrdered : Option Atomic → Access → Access → Type 0
IsOrdered None a c = ⊥
IsOrdered (Some atomic) a c = (a.guarded ≡ true) × (c.guarded ≡ true) × (ends_atomic atomic.names a.region ≡ true)

abbrev pub AtomicEnv : Option Atomic → Env → Type 0
AtomicEnv None env = Unit {0}
AtomicEnv (Some atomic) env = EnvAtomic atomic env

ordered_quiet : (nd : Option Atomic) (env : Env) → AtomicEnv nd env → (e f : Effect) (a c : Access) → ordered_by_blocks nd e f ≡ true → Reach env e a → (f.atomic ≡ true → c.guarded ≡ true) →
    IsOrdered nd a c
ordered_quiet None env i e f a c h x y = absurd (false≢true h)
ordered_quiet (Some atomic) env i e f a c h x y =
    let p = and_parts (e.atomic && f.atomic) _ h in
    let marks = and_parts e.atomic f.atomic p.0 in
    let paths = and_parts (atomic_path atomic e.rpl) _ p.1 in
    (x.2 marks.0, y marks.1, includes_ends atomic env i e.rpl a.region paths.0 x.0)

-- what holds of each two effects that don't clash holds of two lists of which none does
module _ (given : List Constraint) (nd : Option Atomic) (env : Env) (a c : Access) (C : Type 0)
    (pair : (e f : Effect) → clashes given nd e f ≡ false → Reach env e a → Reach env f c → C) where
  one_apart : (e : Effect) (fs : List Effect) → some_clashes given nd e fs ≡ false → Reach env e a → Reaches env fs c → C
  one_apart e [] h x y = absurd y
  one_apart e (f ∷ fs) h x y = let p = or_parts (clashes given nd e f) _ h in elim y [ inl z ↦ pair e f p.0 x z | inr z ↦ one_apart e fs p.1 x z ]

  lists_apart : (es fs : List Effect) → lists_clash given nd es fs ≡ false → Reaches env es a → Reaches env fs c → C
  lists_apart [] fs h x y = absurd x
  lists_apart (e ∷ es) fs h x y = let p = or_parts (some_clashes given nd e fs) _ h in elim x [ inl z ↦ one_apart e fs p.0 z y | inr z ↦ lists_apart es fs p.1 z y ]

module _ (given : List Constraint) (nd : Option Atomic) (env : Env) (v : IsEnv given env) (i : AtomicEnv nd env) (a c : Access) where
  one_writes : (e f : Effect) → (a.write || c.write) ≡ true → Reach env e a → Reach env f c → (is_write e.access || is_write f.access) ≡ true
  one_writes e f w x y = ⊎_elim (λ t. or_left (is_write e.access) (is_write f.access) (x.1 t)) (λ t. or_right (is_write e.access) (is_write f.access) (y.1 t))
      (or_cases a.write c.write w)

  pair_quiet : Meet a c → (e f : Effect) → clashes given nd e f ≡ false → Reach env e a → Reach env f c → IsOrdered nd a c
  pair_quiet meet e f h x y =
      ⊎_elim (λ p. absurd (none_in_both given env v e.rpl f.rpl p a.region x.0 (subst (λ z. Includes env f.rpl z) (sym meet.region) y.0)))
      (λ o. ordered_quiet nd env i e f a c o x y.2) (effects_apart given nd e f h (one_writes e f meet.write x y))

  pub lists_quiet : Meet a c → (es fs : List Effect) → lists_clash given nd es fs ≡ false → Reaches env es a → Reaches env fs c → IsOrdered nd a c
  lists_quiet meet es fs h x y = lists_apart given nd env a c (IsOrdered nd a c) (pair_quiet meet) es fs h x y

  -- where not both stand in atomic blocks the regions are apart
  not_ordered : (nd : Option Atomic) → (a.guarded && c.guarded) ≡ false → IsOrdered nd a c → ⊥
  not_ordered None u o = o
  not_ordered (Some atomic) u o = false≢true (sym u ∙ and_from _ _ o.0 o.1)

  pair_separate : (a.write || c.write) ≡ true → (a.guarded && c.guarded) ≡ false → (e f : Effect) → clashes given nd e f ≡ false → Reach env e a → Reach env f c →
      apart [] (at_root a.region) (at_root c.region) ≡ true
  pair_separate w u e f h x y =
      ⊎_elim (λ p. includes_apart given env v e.rpl f.rpl p a.region c.region x.0 y.0)
      (λ o. absurd (not_ordered nd u (ordered_quiet nd env i e f a c o x y.2))) (effects_apart given nd e f h (one_writes e f w x y))

  pub lists_separate : (a.write || c.write) ≡ true → (a.guarded && c.guarded) ≡ false → (es fs : List Effect) → lists_clash given nd es fs ≡ false → Reaches env es a → Reaches env fs c →
      apart [] (at_root a.region) (at_root c.region) ≡ true
  lists_separate w u es fs h x y = lists_apart given nd env a c (apart [] (at_root a.region) (at_root c.region) ≡ true) (pair_separate w u) es fs h x y

own_speaks : (g : Setting) (o : EffectOwn) (a : Access) → Covers g o a → Speaks g (effect_of o) a
own_speaks g (does e) a h = h
own_speaks g (uses k e) a h = h.0

-- an effect as it is said in another environment, where it matches the same
abbrev IsMoved : Setting → Env → (Effect → Effect) → EffectOwn → Type 0
IsMoved g env f o =
    ((r : List Elem) → Includes (env_of g) (effect_of o).rpl r → Includes env (f (effect_of o)).rpl r) × ((f (effect_of o)).access ≡ (effect_of o).access)
    × ((f (effect_of o)).atomic ≡ (effect_of o).atomic)

-- what lies in effects is reached, in an environment in which they match the same
reached : (g : Setting) (env : Env) (f : Effect → Effect) → (a : Access) (E : List EffectOwn) → All (IsMoved g env f) E → LiesIn g E a →
    Reaches env (map f (as_effects E)) a
reached g env f a [] s h = h
reached g env f a (o ∷ E) s h = elim h [
  | inl c ↦ (let q = own_speaks g o a c in
      let m = All-head (IsMoved g env f) o E s in
      inl (m.0 a.region q.includes, λ w. ap is_write m.1 ∙ q.writes w, λ t. q.guarded (sym m.2 ∙ t)))
  | inr r ↦ inr (reached g env f a E (All-tail (IsMoved g env f) o E s) r)
]

map_same : {A : Type 0} (xs : List A) → map (λ x. x) xs ≡ xs
map_same [] = refl
map_same (x ∷ xs) = ap (λ z. x ∷ z) (map_same xs)

pub reached_same : (g : Setting) (a : Access) (E : List EffectOwn) → LiesIn g E a → Reaches (env_of g) (as_effects E) a
reached_same g a E h = subst (λ z. Reaches (env_of g) z a) (map_same (as_effects E)) (reached g (env_of g) (λ e. e) a E (λ k d l. (λ r m. m, refl, refl)) h)

branches_ordered : (given : List Constraint) (nd : Option Atomic) (g : Setting) → IsEnv given (env_of g) → AtomicEnv nd (env_of g) → (E F : List EffectOwn) →
    lists_clash given nd (as_effects E) (as_effects F) ≡ false → (a c : Access) → Meet a c → LiesIn g E a → LiesIn g F c → IsOrdered nd a c
branches_ordered given nd g v i E F h a c meet x y =
    lists_quiet given nd (env_of g) v i a c meet (as_effects E) (as_effects F) h (reached_same g a E x) (reached_same g c F y)

pub branches_quiet : BranchesQuiet
branches_quiet P given g v E F h a c meet x y = branches_ordered given None g v tt E F h a c meet x y

pub nd_branches_quiet : NdBranchesQuiet
nd_branches_quiet P given params g v i E F h a c meet x y =
    branches_ordered given (Some (record { names = P.region_names; params = params })) g v i E F h a c meet x y

pub nd_branches_separate : NdBranchesSeparate
nd_branches_separate P given params g v i E F h a c w u x y =
    lists_separate given (Some (record { names = P.region_names; params = params })) (env_of g) v i a c w u (as_effects E) (as_effects F) h (reached_same g a E x) (reached_same g c F y)

-- iterations

put_copy : (env : Env) (x : ℕ) (k : ℤ) (L : Scope) (y : Elem) → InScope L 0 y → put_elem env y ≡ put_elem (with_copy env x k) y
put_copy env x k L (Name n) s = refl
put_copy env x k L (At (Literal j)) s = refl
put_copy env x k L (At (Variable w)) s = refl
put_copy env x k L (At (Renamed w)) s = absurd s
put_copy env x k L (At (Own d)) s = refl
put_copy env x k L Any s = refl
put_copy env x k L Star s = refl
put_copy env x k L (Local r n) s = refl

head_copy : (env : Env) (x : ℕ) (k : ℤ) (h : Head) → head_region env h ≡ head_region (with_copy env x k) h
head_copy env x k Root = refl
head_copy env x k (Param p) = refl

put_other : (g : Setting) (x : ℕ) (j k : ℤ) (L : Scope) (y : Elem) → InScope L 0 y →
    put_elem (env_of (with_number x k g)) y ≡ put_elem (with_copy (env_of (with_number x j g)) x k) (renamed_elem x y)
put_other g x j k L (Name n) s = refl
put_other g x j k L (At (Literal i)) s = refl
put_other g x j k L (At (Variable w)) s = ⊎_elim
    (λ t. ap (λ z. At (Literal z)) (cond-true (x == w) k (g.index w) t ∙ sym (cond-true (x == w) k (another ((env_of (with_number x j g)).index w)) t))
    ∙ sym (ap (put_elem (with_copy (env_of (with_number x j g)) x k)) (cond-true (x == w) (At (Renamed w)) (At (Variable w)) t)))
    (λ f. ap (λ z. At (Literal z)) (cond-false (x == w) k (g.index w) f ∙ sym (cond-false (x == w) j (g.index w) f))
    ∙ sym (ap (put_elem (with_copy (env_of (with_number x j g)) x k)) (cond-false (x == w) (At (Renamed w)) (At (Variable w)) f)))
    (cases_Bool (x == w))
put_other g x j k L (At (Renamed w)) s = absurd s
put_other g x j k L (At (Own d)) s = refl
put_other g x j k L Any s = refl
put_other g x j k L Star s = refl
put_other g x j k L (Local r n) s = refl

all_other : (g : Setting) (x : ℕ) (j k : ℤ) (L : Scope) (a : List Elem) → All (InScope L 0) a →
    map (put_elem (env_of (with_number x k g))) a ≡ map (put_elem (with_copy (env_of (with_number x j g)) x k)) (map (renamed_elem x) a)
all_other g x j k L [] s = refl
all_other g x j k L (y ∷ a) s =
    let e = put_other g x j k L y (All-head (InScope L 0) y a s) in
    let r = all_other g x j k L a (All-tail (InScope L 0) y a s) in
    λ i. e i ∷ r i

head_other : (g : Setting) (x : ℕ) (j k : ℤ) (h : Head) → head_region (env_of (with_number x k g)) h ≡ head_region (with_copy (env_of (with_number x j g)) x k) h
head_other g x j k Root = refl
head_other g x j k (Param p) = refl

path_other : (g : Setting) (x : ℕ) (j k : ℤ) (L : Scope) (a : Rpl) → PathInScope L 0 a →
    put_in (env_of (with_number x k g)) a ≡ put_in (with_copy (env_of (with_number x j g)) x k) (renamed_rpl x a)
unfolding put_in
path_other g x j k L a s =
    let e = head_other g x j k a.head in
    let r = all_other g x j k L a.elems s in
    λ i. record { head = Root; elems = e i ++ r i }

-- of two iterations of a loop, in one environment in which the second is the copy
module _ (given : List Constraint) (nd : Option Atomic) (L : Scope) (g : Setting) (x : ℕ) (j k : ℤ) (v : IsEnv given (env_of (with_number x j g))) (i : AtomicEnv nd (env_of g))
    (none : All HasNoCopies given) (E : List EffectOwn) (s : All (λ o. PathInScope L 0 (effect_of o).rpl) E) (ne : j ≢ k) where
  abbrev both_env : Env
  both_env = with_copy (env_of (with_number x j g)) x k

  both_atomic_env : AtomicEnv nd both_env
  both_atomic_env = moved nd i
    where
      moved : (nd : Option Atomic) → AtomicEnv nd (env_of g) → AtomicEnv nd (with_copy (env_of (with_number x j g)) x k)
      moved None i = tt
      moved (Some atomic) i = i

  both_is_env : IsEnv given both_env
  both_is_env =
      let number_is : (env_of (with_number x j g)).index x ≡ j = cond-true (x == x) j (g.index x) (eq-eqb x x refl) in
      copies_exist given (env_of (with_number x j g)) v.regions v.locals v.constraints none x k (λ e. ne (sym number_is ∙ e))

  first_reached : (a : Access) → LiesIn (with_number x j g) E a → Reaches both_env (as_effects E) a
  first_reached a la = subst (λ z. Reaches both_env z a) (map_same (as_effects E))
      (reached (with_number x j g) both_env (λ e. e) a E (λ i d l. (λ r m. first (effect_of (slice_index_or E i d)).rpl (s i d l) r m, refl, refl)) la)
    where
      first : (b : Rpl) → PathInScope L 0 b → (r : List Elem) → Includes (env_of (with_number x j g)) b r → Includes both_env b r
      first b t r m = includes_same (env_of (with_number x j g)) both_env b b r (put_agree (env_of (with_number x j g)) both_env b
          (record { head = head_copy (env_of (with_number x j g)) x k b.head; elems = λ i d l. put_copy (env_of (with_number x j g)) x k L _ (t i d l) })) m

  second_reached : (c : Access) → LiesIn (with_number x k g) E c → Reaches both_env (map (renamed_effect x) (as_effects E)) c
  second_reached c lc = reached (with_number x k g) both_env (renamed_effect x) c E
      (λ i d l. (λ r m. second (effect_of (slice_index_or E i d)).rpl (s i d l) r m, refl, refl)) lc
    where
      second : (b : Rpl) → PathInScope L 0 b → (r : List Elem) → Includes (env_of (with_number x k g)) b r → Includes both_env (renamed_rpl x b) r
      second b t r m = includes_same (env_of (with_number x k g)) both_env b (renamed_rpl x b) r (path_other g x j k L b t) m

  iterations_ordered : iterations_clash given nd x (as_effects E) ≡ false → (a c : Access) → Meet a c → LiesIn (with_number x j g) E a → LiesIn (with_number x k g) E c → IsOrdered nd a c
  iterations_ordered h a c meet la lc =
      lists_quiet given nd both_env both_is_env both_atomic_env a c meet (as_effects E) (map (renamed_effect x) (as_effects E)) h (first_reached a la) (second_reached c lc)

  iterations_separate : iterations_clash given nd x (as_effects E) ≡ false → Separate (with_number x j g) E (with_number x k g) E
  iterations_separate h a c w u la lc =
      lists_separate given nd both_env both_is_env both_atomic_env a c w u (as_effects E) (map (renamed_effect x) (as_effects E)) h (first_reached a la) (second_reached c lc)

pub iterations_quiet : IterationsQuiet
iterations_quiet P given L g x j k v none E s h ne a c meet la lc = iterations_ordered given None L g x j k v tt none E s ne h a c meet la lc

pub nd_iterations_quiet : NdIterationsQuiet
nd_iterations_quiet P given params L g x j k v i none E s h ne a c meet la lc =
    iterations_ordered given (Some (record { names = P.region_names; params = params })) L g x j k v i none E s ne h a c meet la lc

pub nd_iterations_separate : NdIterationsSeparate
nd_iterations_separate P given params L g x j k v i none E s h ne =
    iterations_separate given (Some (record { names = P.region_names; params = params })) L g x j k v i none E s ne h

-- branches and iterations of either kind
pub branches_quiet_of : (P : PlainProgram) (forking : Forking) (L : Scope) (g : Setting) → IsEnv L.given (env_of g) → EndAtomic P.region_names L.atomic g.regions → (E F : List EffectOwn) →
    lists_clash L.given (atomic_for forking P L) (as_effects E) (as_effects F) ≡ false → Quiet P forking g E g F
branches_quiet_of P Deterministic L g v i E F h = branches_quiet P L.given g v E F h
branches_quiet_of P Nondeterministic L g v i E F h = nd_branches_quiet P L.given L.atomic g v i E F h

pub iterations_quiet_of : (P : PlainProgram) (forking : Forking) (L M : Scope) (g : Setting) (x : ℕ) (j k : ℤ) → IsEnv L.given (env_of (with_number x j g)) →
    EndAtomic P.region_names L.atomic g.regions → All HasNoCopies L.given → (E : List EffectOwn) → All (λ o. PathInScope M 0 (effect_of o).rpl) E →
    iterations_clash L.given (atomic_for forking P L) x (as_effects E) ≡ false → j ≢ k → Quiet P forking (with_number x j g) E (with_number x k g) E
iterations_quiet_of P Deterministic L M g x j k v i none E s h ne = iterations_quiet P L.given M g x j k v none E s h ne
iterations_quiet_of P Nondeterministic L M g x j k v i none E s h ne = nd_iterations_quiet P L.given L.atomic M g x j k v i none E s h ne

pub branches_separate_of : (P : PlainProgram) (forking : Forking) (L : Scope) (g : Setting) → IsEnv L.given (env_of g) → EndAtomic P.region_names L.atomic g.regions → (E F : List EffectOwn) →
    lists_clash L.given (atomic_for forking P L) (as_effects E) (as_effects F) ≡ false → forking ≡ Nondeterministic → Separate g E g F
branches_separate_of P Deterministic L g v i E F h kind = absurd (let z : ◌≡◌ {A = Forking} Deterministic Nondeterministic = kind in cc)
branches_separate_of P Nondeterministic L g v i E F h kind = nd_branches_separate P L.given L.atomic g v i E F h

pub iterations_separate_of : (P : PlainProgram) (forking : Forking) (L M : Scope) (g : Setting) (x : ℕ) (j k : ℤ) → IsEnv L.given (env_of (with_number x j g)) →
    EndAtomic P.region_names L.atomic g.regions → All HasNoCopies L.given → (E : List EffectOwn) → All (λ o. PathInScope M 0 (effect_of o).rpl) E →
    iterations_clash L.given (atomic_for forking P L) x (as_effects E) ≡ false → j ≢ k → forking ≡ Nondeterministic → Separate (with_number x j g) E (with_number x k g) E
iterations_separate_of P Deterministic L M g x j k v i none E s h ne kind = absurd (let z : ◌≡◌ {A = Forking} Deterministic Nondeterministic = kind in cc)
iterations_separate_of P Nondeterministic L M g x j k v i none E s h ne kind = nd_iterations_separate P L.given L.atomic M g x j k v i none E s h ne
