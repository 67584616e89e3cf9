-- Local regions that are declared are in scope for the judgement too.
use Rattle.std.proofs.Common.{◌≡◌, ◌∙◌, ◌⊎◌, ◌<◌, ◌≤◌, ◌+◌, ◌==◌, ◌||◌, ℕ, Bool, true, false, cond, IsTrue, List, [], ◌∷◌, ◌++◌, All, length, slice_get, inl, inr, ⊎_elim, Option, Some, None, option_and_then, refl, sym, ap, subst, arith}
use Rattle.std.specs.List.{list_any}
use Rattle.std.proofs.lemmas.Bool.{cases_Bool, eqb-true, eqb-false, false≢true}
use Rattle.std.proofs.lemmas.List.Elements.{All-nil, All-cons}
use Rattle.lang_base.specs.declared.elems.Elem.{Elem}
use Rattle.lang_base.specs.declared.elems.Elem.TheVariants.{Name, At, Any, Star, Local}
use Rattle.lang_base.specs.declared.elems.Index.TheVariants.{Literal, Variable, Renamed, Own}
use Rattle.lang_base.specs.declared.place.Place.{Place}
use Rattle.lang_base.specs.declared.refusal.Kind.TheVariants as kind
use Rattle.decl_resolve.specs.Names.{last_from}
use Rattle.decl_resolve.specs.Scoped.{value_in}
use Rattle.syntax_tree.specs.declared.region.Named.{Named}
use Rattle.syntax_tree.specs.Plain as tree
use Rattle.lang_typed.specs.Plain.{PlainProgram, statement}
use Rattle.lang_typed.specs.Plain as typed
use Rattle.lang_typed.specs.Scope.{Scope, part}
use Rattle.lang_typed.specs.Scope.{with_regions as with_these}
use Rattle.lang_typed.specs.Effects.{begins_in, outside_regions}
use Rattle.lang_typed.specs.Effects.{Own as Done}
use Rattle.lang_typed.specs.Statements.{AllPass}
use Rattle.body_exprs.specs.declared.env.Env.{Env}
use Rattle.body_exprs.specs.Env.{table_of, with_region, has_room, region_declared}
use Rattle.body_check.specs.declared.leaving.Marks.TheVariants as marks
use Rattle.body_check.specs.declared.node.Around.{Around}
use Rattle.body_check.specs.declared.node.Node.{Node}
use Rattle.body_check.specs.Noting.{with_fault, fault_of}
use Rattle.body_check.specs.Simple.{is_region_name, region_noted, regions_noted, with_regions, regions_made}
use Rattle.body_check.specs.Walks.{Walk}
use Rattle.sound_lemmas.proofs.Bodies.{regions_free}
use Rattle.sound_lemmas.proofs.Free.{noted_reported}
use Rattle.sound_lemmas.proofs.Lists.{some_same, got_first, got_later, there}
use Rattle.sound_bodies.specs.Naming.{ElemsName, IsIndex, IsRegion, Signed}
use Rattle.sound_bodies.specs.Ready.{Ready, Room}
use Rattle.sound_bodies.specs.Seen.{Tells, Sees, InStep, Returns}
use Rattle.sound_bodies.proofs.scope.Declaring.{last_push, last_within}
use Rattle.sound_bodies.proofs.effects.Gathered.{nothing_gathered}
use Rattle.sound_bodies.proofs.scope.Growing.{step_region, step_regions}
use Rattle.sound_bodies.proofs.scope.InScopeStatements.{region_kept, locals_regions}
use Rattle.sound_bodies.proofs.effects.Left.{left, left_regions, Later, AllRaw, all_raw_before}
use Rattle.sound_bodies.proofs.scope.Readiness.{row_less}
use Rattle.sound_bodies.proofs.statements.Statements.{here, On, Goes}

-- the value of a name, with one more after
pushed_value : {A : Type 0} (names : List ℕ) (values : List A) (name : ℕ) (value : A) → length names ≡ length values → (n : ℕ) →
    option_and_then (λ p. slice_get (values ++ value ∷ []) p) (last_from 0 None (names ++ name ∷ []) n) ≡ cond (name == n) (Some value) (option_and_then (λ p. slice_get values p) (last_from 0 None names n))
pushed_value {A} names values name value long n =
    ap (option_and_then (λ p. slice_get (values ++ value ∷ []) p)) (last_push 0 None names name n) ∙ by (name == n) (last_from 0 None names n) (λ p e. last_within 0 None names n p e)
  where
    old : (p : ℕ) → p < length values → slice_get (values ++ value ∷ []) p ≡ slice_get values p
    old p l = let w = there values p l in got_first values (value ∷ []) p w.0 w.1 ∙ sym w.1

    by : (b : Bool) (o : Option ℕ) → ((p : ℕ) → o ≡ Some p → (None ≡ Some p) ⊎ (p < 0 + length names)) →
        option_and_then (λ p. slice_get (values ++ value ∷ []) p) (cond b (Some (0 + length names)) o) ≡ cond b (Some value) (option_and_then (λ p. slice_get values p) o)
    by true o below =
        let at : 0 + length names ≡ length values + 0 = omega (arith, long) in
        got_later values (value ∷ []) (0 + length names) 0 value at refl
    by false None below = refl
    by false (Some p) below = old p (⊎_elim (λ none. absurd (no none)) (λ l. omega (arith, l, long)) (below p refl))
      where
        no : {p : ℕ} → None ≡ Some p → ⊥
        no e = cc

-- what the declarations of local regions leave
pub record Declared (env u : Env) (rs : List ℕ) : Type 0 where
  pub is : u ≡ record env { regions = u.regions; declared = u.declared }
  pub further : env.declared ≤ u.declared
  pub among : (r : ℕ) → env.declared ≤ r → r < u.declared → list_any (λ q. r == q) rs ≡ true
  pub range : (r : ℕ) → list_any (λ q. r == q) rs ≡ true → (env.declared ≤ r) × (r < u.declared)
  pub each : All (λ r. (env.declared ≤ r) × (r < u.declared)) rs
  pub values : (name number : ℕ) → value_in u.regions name ≡ Some number → (value_in env.regions name ≡ Some number) ⊎ ((env.declared ≤ number) × (number < u.declared))

region_room : (env : Env) (named : Named) (node : Node) → fault_of (region_noted env named node) ≡ None → has_room env ≡ true
region_room env named node h = by (has_room env) h
  where
    faulty : (x : Node) → fault_of (with_fault x kind.TooLong named.place) ≡ None → ⊥
    faulty x h = let clash = sym (noted_reported x.faults (record { kind = kind.TooLong; place = named.place })) ∙ h in cc

    by : (b : Bool) → fault_of (cond b (cond (is_region_name env named.name) (with_fault node kind.Duplicate named.place) node) (with_fault (cond (is_region_name env named.name) (with_fault node kind.Duplicate named.place) node) kind.TooLong named.place)) ≡ None →
        b ≡ true
    by true h = refl
    by false h = absurd (faulty (cond (is_region_name env named.name) (with_fault node kind.Duplicate named.place) node) h)

or_first : (a b : Bool) → a ≡ true → (a || b) ≡ true
or_first true b h = refl
or_first false b h = cc

or_second : (a b : Bool) → b ≡ true → (a || b) ≡ true
or_second true b h = refl
or_second false b h = h

or_split : (a b : Bool) → (a || b) ≡ true → (a ≡ true) ⊎ (b ≡ true)
or_split true b h = inl refl
or_split false b h = inr h

-- one region, and then those after it
one_more : (env u : Env) (name : ℕ) (rs : List ℕ) → length env.regions.names ≡ length env.regions.values → Declared (with_region env name) u rs → Declared env u (env.declared ∷ rs)
one_more env u name rs long d = record {
  is = d.is;
  further = (let l = d.further in omega (arith, l));
  among = λ r l k. by_number r l k;
  range = λ r h. ⊎_elim (λ e. (let same = eqb-true r env.declared e in let l = d.further in (omega (arith, same), omega (arith, same, l)))) (λ t. (let w = d.range r t in (let a = w.0 in omega (arith, a), w.1)))
      (or_split (r == env.declared) (list_any (λ q. r == q) rs) h);
  each = All-cons (λ r. (env.declared ≤ r) × (r < u.declared)) env.declared rs (omega arith, (let l = d.further in omega (arith, l))) (λ k q l. (let e = d.each k q l in (let a = e.0 in omega (arith, a), e.1)));
  values = λ n number h. ⊎_elim (λ before. by_name (name == n) n number (sym (pushed_value env.regions.names env.regions.values name env.declared long n) ∙ before)) (λ later. inr (let a = later.0 in omega (arith, a), later.1)) (d.values n number h);
}
  where
    by_number : (r : ℕ) → env.declared ≤ r → r < u.declared → ((r == env.declared) || list_any (λ q. r == q) rs) ≡ true
    by_number r l k = ⊎_elim (λ t. or_first (r == env.declared) (list_any (λ q. r == q) rs) t)
        (λ f. or_second (r == env.declared) (list_any (λ q. r == q) rs) (d.among r (further f) k)) (cases_Bool (r == env.declared))
      where
        further : (r == env.declared) ≡ false → env.declared + 1 ≤ r
        further f = let ne = eqb-false r env.declared f in omega (arith, l, ne)

    by_name : (b : Bool) (n number : ℕ) → cond b (Some env.declared) (value_in env.regions n) ≡ Some number → (value_in env.regions n ≡ Some number) ⊎ ((env.declared ≤ number) × (number < u.declared))
    by_name true n number h = let same = some_same h in let l = d.further in inr (omega (arith, same), omega (arith, same, l))
    by_name false n number h = inl h

pub regions_are : (env : Env) (node : Node) (names : List Named) → InStep env → fault_of (regions_noted env node names) ≡ None → Declared env (with_regions env names) (regions_made env names)
regions_are env node [] step free = record {
  is = refl;
  further = omega arith;
  among = λ r l k. absurd (omega (arith, l, k));
  range = λ r h. absurd (false≢true h);
  each = All-nil (λ r. (env.declared ≤ r) × (r < env.declared));
  values = λ name number h. inl h;
}
regions_are env node (named ∷ names) step free =
    let has_one = region_room env named node (regions_free (region_declared env named.name) (region_noted env named node) names free) in
    by (has_room env) has_one (λ rest. one_more env (with_regions (with_region env named.name) names) named.name (regions_made (with_region env named.name) names) step.regions rest)
    (regions_are (region_declared env named.name) (region_noted env named node) names (step_region env named.name step) free)
  where
    by : (b : Bool) → b ≡ true →
        (Declared (with_region env named.name) (with_regions (with_region env named.name) names) (regions_made (with_region env named.name) names) →
        Declared env (with_regions (with_region env named.name) names) (env.declared ∷ regions_made (with_region env named.name) names)) →
        Declared (cond b (with_region env named.name) env) (with_regions (cond b (with_region env named.name) env) names) (regions_made (cond b (with_region env named.name) env) names) →
        Declared env (with_regions (cond b (with_region env named.name) env) names) (env.declared ∷ regions_made (cond b (with_region env named.name) env) names)
    by true h next rest = next rest
    by false h next rest = cc

module _ (P : PlainProgram) (signed : Signed P) (L : Scope) (params : List Bool) (around : Around) (reads assigns : ℕ → Bool) (w : Walk) (ready : Ready P L w.env params around reads assigns) (names : List Named) (node : Node)
    (free : fault_of (regions_noted w.env node names) ≡ None)
  where
    module _ (rs : List ℕ) (u : Env) (d : Declared w.env u rs) (step : InStep u)
      where
        abbrev M : Scope
        M = with_these rs L

        slots_same : u.slots ≡ w.env.slots
        slots_same = ap (λ (z : Env). z.slots) d.is

        new_region : (r : ℕ) → IsRegion M r → ((w.env.declared ≤ r) × (r < u.declared)) ⊎ IsRegion L r
        new_region r h = by (list_any (λ q. r == q) rs) refl h
          where
            by : (b : Bool) → list_any (λ q. r == q) rs ≡ b → cond b true (L.regions r) ≡ true → ((w.env.declared ≤ r) × (r < u.declared)) ⊎ IsRegion L r
            by true is h = inl (d.range r is)
            by false is h = inr h

        ready_regions : (r a : ℕ → Bool) → ((x : ℕ) → IsTrue (r x) → IsTrue (reads x)) → ((x : ℕ) → IsTrue (a x) → IsTrue (assigns x)) → Ready P M u params around r a
        ready_regions r a reads_so assigns_so = record {
          tells = subst (λ (z : Env). Tells P (table_of z) L.member_nd_free) (sym d.is) ready.tells;
          sees = subst (λ z. Sees P M z r a) (sym d.is) (record {
            given = ready.sees.given;
            supers = ready.sees.supers;
            self = ready.sees.self;
            locals = λ name row h. row_less (reads name) (assigns name) (r name) (a name) row (L.local row.slot) (reads_so name) (assigns_so name) (ready.sees.locals name row h);
            declared = ready.sees.declared;
            indices = ready.sees.indices;
            params = ready.sees.params;
            regions = λ name number h. ⊎_elim (λ old. region_kept L rs number (ready.sees.regions name number old)) (λ new. ap (λ b. cond b true (L.regions number)) (d.among number new.0 new.1)) (d.values name number h);
          });
          step = step;
          locals = locals_regions L rs ready.locals;
          below = λ x l h. (let k = ready.below x l h in let s = slots_same in omega (arith, k, s));
          regions = λ n h. ⊎_elim (λ new. new.1) (λ old. (let k = ready.regions n old in let f = d.further in omega (arith, k, f))) (new_region n h);
          returns = subst (λ z. Returns M z around) (sym d.is) (record { value = ready.returns.value; nothing = ready.returns.nothing });
          atomic = ready.atomic;
        }

        none_before : (r : ℕ) → r < w.env.declared → list_any (λ q. r == q) rs ≡ false
        none_before r l = ⊎_elim (λ t. absurd (let k = (d.range r t).0 in omega (arith, k, l))) (λ f. f) (cases_Bool (list_any (λ q. r == q) rs))

        first_out : (es : List Elem) → ElemsName (IsIndex L) (IsRegion L) es → begins_in rs es ≡ false
        first_out [] h = refl
        first_out (Name n ∷ es) h = refl
        first_out (At (Literal k) ∷ es) h = refl
        first_out (At (Variable x) ∷ es) h = refl
        first_out (At (Renamed x) ∷ es) h = refl
        first_out (At (Own k) ∷ es) h = refl
        first_out (Any ∷ es) h = refl
        first_out (Star ∷ es) h = refl
        first_out (Local r n ∷ es) h = none_before r (ready.regions r h.0)

        not_yet : (r : ℕ) → w.env.declared ≤ r → L.regions r ≡ false
        not_yet r l = ⊎_elim (λ t. absurd (let k = ready.regions r t in omega (arith, k, l))) (λ f. f) (cases_Bool (L.regions r))

        leaves_regions : (n : ℕ) → n ≡ w.env.slots → (D : List Done) → AllRaw M n u.declared D →
            left (here w.env) D ≡ outside_regions rs (left (record { first_slot = n; first_region = u.declared; marks = marks.Kept }) D)
        leaves_regions n same D raw =
            ap (λ k. left (record { first_slot = k; first_region = w.env.declared; marks = marks.Kept }) D) (sym same)
            ∙ left_regions n w.env.declared u.declared rs (Later (IsIndex M) n) (Later (IsRegion M) u.declared) M d.further d.among none_before
            (λ k t a h. first_out a.elems (ready.locals k (part t a) h).0) D raw

        on_regions : (place : Place) → Room L u → On P signed L M w (statement place (typed.local_regions rs)) (record { env = u; found = w.found })
        on_regions place room = record {
          effects = [];
          out = outside_regions rs;
          none = refl;
          inside' = tt;
          gathers = nothing_gathered w.found;
          following' = λ ss F c rest. AllPass.declare_regions (λ k q l. (let e = d.each k q l in (not_yet _ e.0, (let s = room.regions in let b = e.1 in omega (arith, b, s))))) rest;
          leaves = λ D raw. leaves_regions u.slots slots_same D raw;
          raws = λ D raw. all_raw_before L M w.env.slots w.env.declared u.slots u.declared (λ x h. ⊎_elim (λ i. inl i) (λ l. (let s = slots_same in inr (omega (arith, l, s)))) h)
              (λ r h. ⊎_elim (λ i. ⊎_elim (λ new. inr new.0) (λ old. inl old) (new_region r i)) (λ l. (let f = d.further in inr (omega (arith, l, f)))) h) (λ k t a h. h) D raw;
        }

        goes_regions : (place : Place) (declared : List Named) → Goes P signed L params around reads assigns (tree.local_regions declared) w (statement place (typed.local_regions rs)) (record { env = u; found = w.found })
        goes_regions place declared = record {
          nd_free = λ c. c;
          scope = M;
          slots = refl;
          local_regions = refl;
          same_nd_free = refl;
          ready = λ r a reads_so assigns_so. ready_regions r a (λ x h. reads_so x refl h) (λ x h. assigns_so x refl h);
          on = λ room nd_free. on_regions place room;
        }

    -- a declaration of local regions
    pub regions_go : (place : Place) → Goes P signed L params around reads assigns (tree.local_regions names) w (statement place (typed.local_regions (regions_made w.env names))) (record { env = with_regions w.env names; found = w.found })
    regions_go place = goes_regions (regions_made w.env names) (with_regions w.env names) (regions_are w.env node names ready.step free) (step_regions w.env names ready.step) place names
