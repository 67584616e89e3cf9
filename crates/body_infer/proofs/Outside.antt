-- What is seen outside the scope of several things.
use Rattle.std.proofs.Common.{◌≡◌, ◌∙◌, ℕ, Bool, true, false, not, ◌==◌, ◌||◌, cond, List, [], ◌∷◌, ◌++◌, map, refl, ap, sym}
use Rattle.std.specs.List.{list_any}
use Rattle.lang_base.specs.declared.effect.Effect.{Effect}
use Rattle.lang_base.specs.declared.elems.Elem.{Elem}
use Rattle.lang_base.specs.declared.elems.Elem.TheVariants as e
use Rattle.lang_base.specs.declared.elems.Index.TheVariants as i
use Rattle.lang_base.specs.Regions.{general_elem, generalised}
use Rattle.lang_typed.specs.Effects.{Own, does, uses, effect_of, begins_in, mapped, outside_variable, outside_regions}
use Rattle.body_infer.specs.Walked.{outside_elem, outside, outside_all}

or_false : (a : Bool) → (a || false) ≡ a
or_false true = refl
or_false false = refl

or_assoc : (a b c : Bool) → ((a || b) || c) ≡ (a || (b || c))
or_assoc true b c = refl
or_assoc false b c = refl

any_append : (f : ℕ → Bool) (xs ys : List ℕ) → list_any f (xs ++ ys) ≡ (list_any f xs || list_any f ys)
any_append f [] ys = refl
any_append f (x ∷ xs) ys = ap (λ b. f x || b) (any_append f xs ys) ∙ sym (or_assoc (f x) (list_any f xs) (list_any f ys))

-- one element
elem_none : (x : Elem) → outside_elem [] x ≡ x
elem_none (e.Name n) = refl
elem_none (e.At (i.Literal n)) = refl
elem_none (e.At (i.Variable n)) = refl
elem_none (e.At (i.Renamed n)) = refl
elem_none (e.At (i.Own n)) = refl
elem_none e.Any = refl
elem_none e.Star = refl
elem_none (e.Local r n) = refl

elem_one : (v : ℕ) (x : Elem) → outside_elem (v ∷ []) x ≡ general_elem v x
elem_one v (e.Name n) = refl
elem_one v (e.At (i.Literal n)) = refl
elem_one v (e.At (i.Variable n)) = ap (λ b. cond b e.Any (e.At (i.Variable n))) (or_false (v == n))
elem_one v (e.At (i.Renamed n)) = refl
elem_one v (e.At (i.Own n)) = refl
elem_one v e.Any = refl
elem_one v e.Star = refl
elem_one v (e.Local r n) = refl

variable_twice : (vs : List ℕ) (n : ℕ) (a b : Bool) → list_any (λ v. v == n) vs ≡ a → outside_elem vs (cond b e.Any (e.At (i.Variable n))) ≡ cond (a || b) e.Any (e.At (i.Variable n))
variable_twice vs n true true h = refl
variable_twice vs n false true h = refl
variable_twice vs n true false h = ap (λ b. cond b e.Any (e.At (i.Variable n))) h
variable_twice vs n false false h = ap (λ b. cond b e.Any (e.At (i.Variable n))) h

elem_twice : (vs ws : List ℕ) (x : Elem) → outside_elem vs (outside_elem ws x) ≡ outside_elem (vs ++ ws) x
elem_twice vs ws (e.Name n) = refl
elem_twice vs ws (e.At (i.Literal n)) = refl
elem_twice vs ws (e.At (i.Variable n)) =
    variable_twice vs n (list_any (λ v. v == n) vs) (list_any (λ v. v == n) ws) refl
    ∙ ap (λ b. cond b e.Any (e.At (i.Variable n))) (sym (any_append (λ v. v == n) vs ws))
elem_twice vs ws (e.At (i.Renamed n)) = refl
elem_twice vs ws (e.At (i.Own n)) = refl
elem_twice vs ws e.Any = refl
elem_twice vs ws e.Star = refl
elem_twice vs ws (e.Local r n) = refl

-- a path
elems_none : (xs : List Elem) → map (outside_elem []) xs ≡ xs
elems_none [] = refl
elems_none (x ∷ xs) = cc (elem_none x, elems_none xs)

elems_one : (v : ℕ) (xs : List Elem) → map (outside_elem (v ∷ [])) xs ≡ map (general_elem v) xs
elems_one v [] = refl
elems_one v (x ∷ xs) = cc (elem_one v x, elems_one v xs)

elems_twice : (vs ws : List ℕ) (xs : List Elem) → map (outside_elem vs) (map (outside_elem ws) xs) ≡ map (outside_elem (vs ++ ws)) xs
elems_twice vs ws [] = refl
elems_twice vs ws (x ∷ xs) = cc (elem_twice vs ws x, elems_twice vs ws xs)

-- an effect
effect_none : (d : Effect) → outside [] d ≡ d
effect_none d = ap (λ xs. record d { rpl = record d.rpl { elems = xs } }) (elems_none d.rpl.elems)

effect_one : (v : ℕ) (d : Effect) → outside (v ∷ []) d ≡ record d { rpl = generalised v d.rpl }
unfolding generalised
effect_one v d = ap (λ xs. record d { rpl = record d.rpl { elems = xs } }) (elems_one v d.rpl.elems)

effect_twice : (vs ws : List ℕ) (d : Effect) → outside vs (outside ws d) ≡ outside (vs ++ ws) d
effect_twice vs ws d = ap (λ xs. record d { rpl = record d.rpl { elems = xs } }) (elems_twice vs ws d.rpl.elems)

own_none : (o : Own) → mapped (outside []) o ≡ o
own_none (does d) = ap does (effect_none d)
own_none (uses k d) = ap (uses k) (effect_none d)

own_one : (v : ℕ) (o : Own) → mapped (outside (v ∷ [])) o ≡ mapped (λ d. record d { rpl = generalised v d.rpl }) o
own_one v (does d) = ap does (effect_one v d)
own_one v (uses k d) = ap (uses k) (effect_one v d)

own_twice : (vs ws : List ℕ) (o : Own) → mapped (outside vs) (mapped (outside ws) o) ≡ mapped (outside (vs ++ ws)) o
own_twice vs ws (does d) = ap does (effect_twice vs ws d)
own_twice vs ws (uses k d) = ap (uses k) (effect_twice vs ws d)

-- where a path begins
begins_nowhere : (xs : List Elem) → begins_in [] xs ≡ false
begins_nowhere [] = refl
begins_nowhere (e.Name n ∷ xs) = refl
begins_nowhere (e.At n ∷ xs) = refl
begins_nowhere (e.Any ∷ xs) = refl
begins_nowhere (e.Star ∷ xs) = refl
begins_nowhere (e.Local r n ∷ xs) = refl

begins_variable : (rs : List ℕ) (n : ℕ) (b : Bool) (xs : List Elem) → begins_in rs (cond b e.Any (e.At (i.Variable n)) ∷ xs) ≡ false
begins_variable rs n true xs = refl
begins_variable rs n false xs = refl

begins_outside : (rs vs : List ℕ) (xs : List Elem) → begins_in rs (map (outside_elem vs) xs) ≡ begins_in rs xs
begins_outside rs vs [] = refl
begins_outside rs vs (e.Name n ∷ xs) = refl
begins_outside rs vs (e.At (i.Literal n) ∷ xs) = refl
begins_outside rs vs (e.At (i.Variable n) ∷ xs) = begins_variable rs n (list_any (λ v. v == n) vs) (map (outside_elem vs) xs)
begins_outside rs vs (e.At (i.Renamed n) ∷ xs) = refl
begins_outside rs vs (e.At (i.Own n) ∷ xs) = refl
begins_outside rs vs (e.Any ∷ xs) = refl
begins_outside rs vs (e.Star ∷ xs) = refl
begins_outside rs vs (e.Local r n ∷ xs) = refl

own_begins : (rs vs : List ℕ) (o : Own) → begins_in rs (effect_of (mapped (outside vs) o)).rpl.elems ≡ begins_in rs (effect_of o).rpl.elems
own_begins rs vs (does d) = begins_outside rs vs d.rpl.elems
own_begins rs vs (uses k d) = begins_outside rs vs d.rpl.elems

begins_append : (rs qs : List ℕ) (xs : List Elem) → begins_in (rs ++ qs) xs ≡ (begins_in rs xs || begins_in qs xs)
begins_append rs qs [] = refl
begins_append rs qs (e.Name n ∷ xs) = refl
begins_append rs qs (e.At n ∷ xs) = refl
begins_append rs qs (e.Any ∷ xs) = refl
begins_append rs qs (e.Star ∷ xs) = refl
begins_append rs qs (e.Local r n ∷ xs) = any_append (λ q. r == q) rs qs

-- all effects
pub outside_none : (os : List Own) → outside_all [] [] os ≡ os
outside_none [] = refl
outside_none (o ∷ os) = rw (begins_nowhere (effect_of o).rpl.elems) (cc (own_none o, outside_none os))

pub outside_one : (v : ℕ) (os : List Own) → outside_all (v ∷ []) [] os ≡ outside_variable v os
outside_one v [] = refl
outside_one v (o ∷ os) = rw (begins_nowhere (effect_of o).rpl.elems) (cc (own_one v o, outside_one v os))

kept_one : (b : Bool) (o p : Own) (os ps : List Own) → p ≡ o → ps ≡ os → cond b ps (p ∷ ps) ≡ cond (not b) (o ∷ os) os
kept_one true o p os ps e h = h
kept_one false o p os ps e h = cc

pub outside_some : (rs : List ℕ) (os : List Own) → outside_all [] rs os ≡ outside_regions rs os
outside_some rs [] = refl
outside_some rs (o ∷ os) = kept_one (begins_in rs (effect_of o).rpl.elems) o (mapped (outside []) o) (outside_regions rs os) (outside_all [] rs os) (own_none o) (outside_some rs os)

joined_one : (b : Bool) (o : Own) (os ps qs : List Own) → ps ≡ os ++ qs → cond b ps (o ∷ ps) ≡ cond b os (o ∷ os) ++ qs
joined_one true o os ps qs e = e
joined_one false o os ps qs e = cc

pub outside_append : (vs rs : List ℕ) (os ps : List Own) → outside_all vs rs (os ++ ps) ≡ outside_all vs rs os ++ outside_all vs rs ps
outside_append vs rs [] ps = refl
outside_append vs rs (o ∷ os) ps =
    joined_one (begins_in rs (effect_of o).rpl.elems) (mapped (outside vs) o) (outside_all vs rs os) (outside_all vs rs (os ++ ps)) (outside_all vs rs ps) (outside_append vs rs os ps)

twice_one : (vs ws rs : List ℕ) (o : Own) (a b : Bool) (os ps : List Own) → begins_in rs (effect_of o).rpl.elems ≡ a → outside_all vs rs os ≡ ps →
    outside_all vs rs (cond b os (mapped (outside ws) o ∷ os)) ≡ cond (a || b) ps (mapped (outside (vs ++ ws)) o ∷ ps)
twice_one vs ws rs o true true os ps h g = g
twice_one vs ws rs o false true os ps h g = g
twice_one vs ws rs o true false os ps h g = rw (own_begins rs ws o ∙ h) g
twice_one vs ws rs o false false os ps h g = rw (own_begins rs ws o ∙ h) (cc (own_twice vs ws o))

pub outside_twice : (vs rs ws qs : List ℕ) (os : List Own) → outside_all vs rs (outside_all ws qs os) ≡ outside_all (vs ++ ws) (rs ++ qs) os
outside_twice vs rs ws qs [] = refl
outside_twice vs rs ws qs (o ∷ os) =
    twice_one vs ws rs o (begins_in rs (effect_of o).rpl.elems) (begins_in qs (effect_of o).rpl.elems) (outside_all ws qs os) (outside_all (vs ++ ws) (rs ++ qs) os) refl (outside_twice vs rs ws qs os)
    ∙ ap (λ b. cond b (outside_all (vs ++ ws) (rs ++ qs) os) (mapped (outside (vs ++ ws)) o ∷ outside_all (vs ++ ws) (rs ++ qs) os)) (sym (begins_append rs qs (effect_of o).rpl.elems))
