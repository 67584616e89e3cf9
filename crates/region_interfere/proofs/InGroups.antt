-- Effects by groups: an effect clashes with none of a list but those of its group and those that belong to none.
use Rattle.std.proofs.Common.{◌≡◌, Bool, true, false, not, ◌&&◌, ◌||◌, cond, List, [], ◌∷◌, ◌++◌, Option, Some, None, refl, sym, ap, ◌∙◌}
use Rattle.std.specs.List.{filter}
use Rattle.std.specs.Prelude.{unwrap_or}
use Rattle.std.specs.Borrow.{Bor}
use Rattle.indexmap.specs.IndexMap.{IndexMap, get_by}
use Rattle.lang_base.specs.Keys.{elems_eq}
use Rattle.std.proofs.lemmas.Bool.{and_right, false≢true}
use Rattle.std.proofs.lemmas.List.{append-nil}
use Rattle.std.proofs.lemmas.List.Elements.{filter-append}
use Rattle.lang_base.specs.declared.elems.Elem.{Elem}
use Rattle.lang_base.proofs.Equal.{elems_decides}
use Rattle.lang_base.specs.declared.effect.Effect.{Effect}
use Rattle.lang_base.specs.declared.effect.Constraint.{Constraint}
use Rattle.lang_base.specs.Apart.{apart}
use Rattle.lang_base.specs.Effects.{is_write, interferes}
use Rattle.lang_base.specs.Branches.{Atomic, clashes, some_clashes}
use Rattle.region_interfere.specs.declared.key.Key.{Key}
use Rattle.region_interfere.specs.Groups.{key_of, is_key}
use Rattle.region_interfere.specs.InGroups.{is_none, is_in, is_in_none, in_group, in_no_group, group_of, Sorted}
use Rattle.region_interfere.proofs.Filtered.{quiet-clash}
use Rattle.region_interfere.proofs.Keys.{keys-apart}
use Rattle.region_interfere.proofs.Noted.{unwrapped, cond_at}

-- two filters that leave out together only what isn't met
or-mixed : (p q m s t : Bool) → (p ≡ false → q ≡ false → m ≡ false) → ((p && m) || s) || ((q && m) || t) ≡ m || (s || t)
or-mixed p q true s t h = some-holds p q (λ a b. false≢true (sym (h a b)))
  where
    some-holds : (p q : Bool) → (p ≡ false → q ≡ false → ⊥) → ((p && true) || s) || ((q && true) || t) ≡ true
    some-holds true q k = refl
    some-holds false true k = right s
      where
        right : (s : Bool) → s || true ≡ true
        right true = refl
        right false = refl
    some-holds false false k = absurd (k refl refl)
or-mixed true true false s t h = refl
or-mixed true false false s t h = refl
or-mixed false true false s t h = refl
or-mixed false false false s t h = refl

module _ (given : List Constraint) (nd : Option Atomic) where
  some_clashes-step : (p : Effect → Bool) (e f : Effect) (fs : List Effect) →
      some_clashes given nd e (filter p (f ∷ fs)) ≡ (p f && clashes given nd e f) || some_clashes given nd e (filter p fs)
  some_clashes-step p e f fs = by_case (p f)
    where
      by_case : (b : Bool) →
          some_clashes given nd e (cond b (f ∷ filter p fs) (filter p fs)) ≡ (b && clashes given nd e f) || some_clashes given nd e (filter p fs)
      by_case true = refl
      by_case false = refl

  two-filters : (p q : Effect → Bool) (e : Effect) → ((f : Effect) → p f ≡ false → q f ≡ false → clashes given nd e f ≡ false) → (fs : List Effect) →
      some_clashes given nd e (filter p fs) || some_clashes given nd e (filter q fs) ≡ some_clashes given nd e fs
  two-filters p q e h [] = refl
  two-filters p q e h (f ∷ fs) =
      ap (λ z. z || some_clashes given nd e (filter q (f ∷ fs))) (some_clashes-step p e f fs)
      ∙ ap (λ z. ((p f && clashes given nd e f) || some_clashes given nd e (filter p fs)) || z) (some_clashes-step q e f fs)
      ∙ or-mixed (p f) (q f) (clashes given nd e f) (some_clashes given nd e (filter p fs)) (some_clashes given nd e (filter q fs)) (h f)
      ∙ ap (λ z. clashes given nd e f || z) (two-filters p q e h fs)

-- effects of different groups don't interfere
other-group : (given : List Constraint) (key : Key) (e f : Effect) (k : List Elem) → key_of key e ≡ Some k → is_in key k f ≡ false → is_in_none key f ≡ false →
    interferes given e f ≡ false
unfolding interferes
other-group given key e f k ke out keyed = and_right (is_write e.access || is_write f.access) _ (ap not (by_key (key_of key f) refl out keyed))
  where
    by_key : (o : Option (List Elem)) → key_of key f ≡ o → is_key o k ≡ false → is_none o ≡ false → apart given e.rpl f.rpl ≡ true
    by_key None kf a b = absurd (false≢true (sym b))
    by_key (Some l) kf a b = keys-apart given key e f k l ke kf (λ s. false≢true (sym a ∙ (elems_decides l k).1 (sym s)))

or-false : (b : Bool) → b || false ≡ b
or-false true = refl
or-false false = refl

pub clashes-by_group : (given : List Constraint) (nd : Option Atomic) (key : Key) (e : Effect) (fs : List Effect) →
    some_clashes given nd e (in_group key (key_of key e) fs) || some_clashes given nd e (in_no_group key (key_of key e) fs) ≡ some_clashes given nd e fs
clashes-by_group given nd key e fs = by_key (key_of key e) refl
  where
    by_key : (o : Option (List Elem)) → key_of key e ≡ o →
        some_clashes given nd e (in_group key o fs) || some_clashes given nd e (in_no_group key o fs) ≡ some_clashes given nd e fs
    by_key None ke = or-false (some_clashes given nd e fs)
    by_key (Some k) ke =
        two-filters given nd (is_in key k) (is_in_none key) e (λ f out keyed. quiet-clash given nd e f (other-group given key e f k ke out keyed)) fs

-- what is found in one part of a list, and in the other after that
pub one-tells : (found : List Effect → Bool) (fs one other near : List Effect) (b : Bool) → found one || found other ≡ found fs → b ≡ found near → near ≡ one →
    b ≡ true → b ≡ found fs
one-tells found fs one other near b both is same t =
    t ∙ sym (ap (λ z. z || found other) (ap found (sym same) ∙ sym is ∙ t)) ∙ both

pub other-tells : (found : List Effect → Bool) (fs one other near far : List Effect) (b d : Bool) → found one || found other ≡ found fs → b ≡ found near →
    near ≡ one → b ≡ false → d ≡ found far → far ≡ other → d ≡ found fs
other-tells found fs one other near far b d both is same f so like =
    so ∙ ap found like ∙ sym (ap (λ z. z || found other) (ap found (sym same) ∙ sym is ∙ f)) ∙ both

-- an effect put last in the group of those with its elements in common
pub put-there : {S : Type 0} (old new : IndexMap (Bor (List Elem)) (List Effect) S) (common q : List Elem) (g w : List Effect) (e : Effect) →
    get_by (λ k. elems_eq q k.now) new ≡ cond (elems_eq common q) (Some w) (get_by (λ k. elems_eq q k.now) old) → w ≡ g ++ e ∷ [] → group_of old common ≡ g →
    group_of new q ≡ cond (elems_eq common q) (group_of old q ++ e ∷ []) (group_of old q)
put-there old new common q g w e h is there =
    ap (λ o. unwrap_or o []) h ∙ unwrapped (elems_eq common q) w [] _
    ∙ ap (λ z. cond (elems_eq common q) z (group_of old q)) (is ∙ ap (λ z. z ++ e ∷ []) (sym there))
    ∙ cond_at common q (λ p. group_of old p ++ e ∷ []) (group_of old q)

filter-last : (p : Effect → Bool) (xs : List Effect) (e : Effect) → filter p (xs ++ e ∷ []) ≡ cond (p e) (filter p xs ++ e ∷ []) (filter p xs)
filter-last p xs e = filter-append p xs (e ∷ []) ∙ by (p e)
  where
    by : (b : Bool) → filter p xs ++ cond b (e ∷ []) [] ≡ cond b (filter p xs ++ e ∷ []) (filter p xs)
    by true = refl
    by false = append-nil (filter p xs)

-- an effect more that belongs to no group
pub sorted-none : {S : Type 0} (key : Key) (keyed : IndexMap (Bor (List Elem)) (List Effect) S) (rest more xs : List Effect) (e f : Effect) → Sorted key keyed rest xs →
    None ≡ key_of key e → f ≡ e → more ≡ rest ++ f ∷ [] → Sorted key keyed more (xs ++ e ∷ [])
sorted-none key keyed rest more xs e f s k same is = record {
  groups = λ q.
      let here = filter (is_in key q) xs in
      s.groups q ∙ sym (filter-last (is_in key q) xs e ∙ ap (λ o. cond (is_key o q) (here ++ e ∷ []) here) (sym k));
  rest =
      let here = filter (is_in_none key) xs in
      is ∙ ap (λ z. z ++ f ∷ []) s.rest ∙ ap (λ z. here ++ z ∷ []) same
      ∙ sym (filter-last (is_in_none key) xs e ∙ ap (λ o. cond (is_none o) (here ++ e ∷ []) here) (sym k));
}

-- an effect more that is put into its group
pub sorted-some : {S : Type 0} (key : Key) (old new : IndexMap (Bor (List Elem)) (List Effect) S) (rest xs : List Effect) (e f : Effect) (common : List Elem) →
    Sorted key old rest xs → Some common ≡ key_of key e → f ≡ e →
    ((q : List Elem) → group_of new q ≡ cond (elems_eq common q) (group_of old q ++ f ∷ []) (group_of old q)) → Sorted key new rest (xs ++ e ∷ [])
sorted-some key old new rest xs e f common s k same put = record {
  groups = λ q.
      let here = filter (is_in key q) xs in
      put q ∙ ap (λ z. cond (elems_eq common q) (z ++ f ∷ []) z) (s.groups q) ∙ ap (λ z. cond (elems_eq common q) (here ++ z ∷ []) here) same
      ∙ sym (filter-last (is_in key q) xs e ∙ ap (λ o. cond (is_key o q) (here ++ e ∷ []) here) (sym k));
  rest =
      let here = filter (is_in_none key) xs in
      s.rest ∙ sym (filter-last (is_in_none key) xs e ∙ ap (λ o. cond (is_none o) (here ++ e ∷ []) here) (sym k));
}
