-- The items of a summary by their access, each once, are its items.
use Rattle.std.proofs.Common.{◌≡◌, ◌∙◌, ◌⊎◌, ⊎_elim, inl, inr, Bool, true, false, cond, List, [], ◌∷◌, ◌++◌, refl, ap, sym, subst, arith}
use Rattle.std.specs.Prelude.{◌||◌, Contains}
use Rattle.std.specs.List.{filter}
use Rattle.std.proofs.lemmas.Bool.{false≢true}
use Rattle.std.proofs.lemmas.List.Elements.{Contains-append_cases, Contains-append_left, Contains-append_right, Contains-push, Contains-push_cases}
use Rattle.lang_base.specs.declared.effect.Access.{Access}
use Rattle.lang_base.specs.declared.effect.Access.TheVariants.{Read, Write}
use Rattle.lang_base.specs.declared.effect.Effect.{Effect}
use Rattle.lang_base.specs.Effects.{added, gathered, has_effect, same_access, same_effect}
use Rattle.lang_typed.specs.Statements.{SameEffects}
use Rattle.region_effects.proofs.Sets.{same_effect-is}
use Rattle.body_infer.specs.Lines.{items_of}
use Rattle.sound_infer.proofs.written.Choosing.{first_or_later, here, later}

no_item : (e : Effect) → Contains [] e → ⊥
no_item e c = let l = c.1 in omega (arith, l)

has_in : (es : List Effect) (e : Effect) → has_effect es e ≡ true → Contains es e
has_in [] e h = absurd (false≢true h)
has_in (f ∷ es) e h = by (has_in es e) (same_effect f e) refl h
  where
    by : (has_effect es e ≡ true → Contains es e) → (b : Bool) → same_effect f e ≡ b → (b || has_effect es e) ≡ true → Contains (f ∷ es) e
    by next true is h = subst (Contains (f ∷ es)) (same_effect-is f e is) (here f es)
    by next false is h = later f es e (next h)

-- in a list that is gathered on stands what was gathered, and what there is more

added_from : (es : List Effect) (f e : Effect) → Contains (added es f) e → Contains es e ⊎ (f ≡ e)
added_from es f e c = by (has_effect es f) c
  where
    by : (b : Bool) → Contains (cond b es (es ++ f ∷ [])) e → Contains es e ⊎ (f ≡ e)
    by true c = inl c
    by false c = Contains-push_cases es f e c

added_kept : (es : List Effect) (f e : Effect) → Contains es e → Contains (added es f) e
added_kept es f e c = by (has_effect es f)
  where
    by : (b : Bool) → Contains (cond b es (es ++ f ∷ [])) e
    by true = c
    by false = Contains-append_left es (f ∷ []) e c

added_new : (es : List Effect) (f : Effect) → Contains (added es f) f
added_new es f = by (has_effect es f) refl
  where
    by : (b : Bool) → has_effect es f ≡ b → Contains (cond b es (es ++ f ∷ [])) f
    by true h = has_in es f h
    by false h = Contains-push es f

gathered_from : (es fs : List Effect) (e : Effect) → Contains (gathered es fs) e → Contains es e ⊎ Contains fs e
gathered_from es [] e c = inl c
gathered_from es (f ∷ fs) e c =
    ⊎_elim (λ was. ⊎_elim (λ old. inl old) (λ new. inr (subst (Contains (f ∷ fs)) new (here f fs))) (added_from es f e was)) (λ more. inr (later f fs e more)) (gathered_from (added es f) fs e c)

gathered_kept : (es fs : List Effect) (e : Effect) → Contains es e → Contains (gathered es fs) e
gathered_kept es [] e c = c
gathered_kept es (f ∷ fs) e c = gathered_kept (added es f) fs e (added_kept es f e c)

gathered_new : (es fs : List Effect) (e : Effect) → Contains fs e → Contains (gathered es fs) e
gathered_new es [] e c = absurd (no_item e c)
gathered_new es (f ∷ fs) e c =
    ⊎_elim (λ same. subst (Contains (gathered (added es f) fs)) same (gathered_kept (added es f) fs f (added_new es f))) (λ more. gathered_new (added es f) fs e more) (first_or_later f fs e c)

-- what a test keeps

filter_from : (test : Effect → Bool) (es : List Effect) (e : Effect) → Contains (filter test es) e → Contains es e × (test e ≡ true)
filter_from test [] e c = absurd (no_item e c)
filter_from test (f ∷ es) e c = by (filter_from test es e) (test f) refl c
  where
    by : (Contains (filter test es) e → Contains es e × (test e ≡ true)) → (b : Bool) → test f ≡ b → Contains (cond b (f ∷ filter test es) (filter test es)) e → Contains (f ∷ es) e × (test e ≡ true)
    by next true is c = ⊎_elim (λ same. (subst (Contains (f ∷ es)) same (here f es), ap test (sym same) ∙ is)) (λ more. (let w = next more in (later f es e w.0, w.1))) (first_or_later f (filter test es) e c)
    by next false is c = let w = next c in (later f es e w.0, w.1)

filter_kept : (test : Effect → Bool) (es : List Effect) (e : Effect) → test e ≡ true → Contains es e → Contains (filter test es) e
filter_kept test [] e holds c = c
filter_kept test (f ∷ es) e holds c = by (filter_kept test es e holds) (test f) refl (first_or_later f es e c)
  where
    by : (Contains es e → Contains (filter test es) e) → (b : Bool) → test f ≡ b → (f ≡ e) ⊎ Contains es e → Contains (cond b (f ∷ filter test es) (filter test es)) e
    by next true is (inl same) = subst (Contains (f ∷ filter test es)) same (here f (filter test es))
    by next true is (inr more) = later f (filter test es) e (next more)
    by next false is (inl same) = absurd (false≢true (sym is ∙ ap test same ∙ holds))
    by next false is (inr more) = next more

access_is : (a b : Access) → same_access a b ≡ true → a ≡ b
access_is Read Read h = refl
access_is Write Write h = refl
access_is Read Write h = absurd (false≢true h)
access_is Write Read h = absurd (false≢true h)

same_itself : (a : Access) → same_access a a ≡ true
same_itself Read = refl
same_itself Write = refl

-- an item of one access is one of all, and has that access
pub item_from : (access : Access) (es : List Effect) (e : Effect) → Contains (items_of access es) e → Contains es e × (e.access ≡ access)
item_from access es e c =
    let test : Effect → Bool = λ item. same_access item.access access in
    let w = filter_from test es e (⊎_elim (λ none. absurd (no_item e none)) (λ some. some) (gathered_from [] (filter test es) e c)) in
    (w.0, access_is e.access access w.1)

item_kept : (es : List Effect) (e : Effect) → Contains es e → Contains (items_of e.access es) e
item_kept es e c =
    let test : Effect → Bool = λ item. same_access item.access e.access in
    gathered_new [] (filter test es) e (filter_kept test es e (same_itself e.access) c)

pub same_items : (es : List Effect) → SameEffects es (items_of Read es ++ items_of Write es)
same_items es e = (
  λ c. by e.access (item_kept es e c),
  λ c. ⊎_elim (λ r. (item_from Read es e r).0) (λ w. (item_from Write es e w).0) (Contains-append_cases (items_of Read es) (items_of Write es) e c),
)
  where
    by : (access : Access) → Contains (items_of access es) e → Contains (items_of Read es ++ items_of Write es) e
    by Read c = Contains-append_left (items_of Read es) (items_of Write es) e c
    by Write c = Contains-append_right (items_of Read es) (items_of Write es) e c

-- where there is an item, there is one of some access
pub some_items : (e : Effect) (es : List Effect) → items_of Read (e ∷ es) ≡ [] → items_of Write (e ∷ es) ≡ [] → ⊥
some_items e es r w =
    no_item e (subst (λ all. Contains all e) (ap (λ all. all ++ items_of Write (e ∷ es)) r ∙ w) ((same_items (e ∷ es) e).0 (here e es)))
