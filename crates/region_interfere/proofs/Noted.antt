-- What groups show of branches, and what an effect more keeps.
use Rattle.std.proofs.Common.{◌≡◌, ◌==◌, ◌+◌, ◌<◌, ℕ, Bool, true, false, not, ◌||◌, cond, IsTrue, List, take, length, get_or, Option, Some, None, refl, sym, ap}
use Rattle.std.proofs.Common.{◌∙◌, subst, ⊎_elim, arith}
use Rattle.std.specs.List.{All}
use Rattle.std.specs.Prelude.{unwrap_or}
use Rattle.std.proofs.lemmas.Bool.{and_parts, and_from, or_cases, or_left, or_right, false≢true, eq-eqb, cond_both, cases_eq}
use Rattle.std.proofs.lemmas.List.{get_or_read}
use Rattle.std.proofs.lemmas.List.Elements.{All-more, All-weaker}
use Rattle.lang_base.specs.declared.elems.Elem.{Elem}
use Rattle.lang_base.specs.Keys.{elems_eq}
use Rattle.lang_base.proofs.Equal.{elems_decides}
use Rattle.lang_base.specs.declared.effect.Access.{Access}
use Rattle.lang_base.specs.declared.effect.Access.TheVariants.{Read, Write}
use Rattle.lang_base.specs.declared.effect.Effect.{Effect}
use Rattle.lang_base.specs.Effects.{is_write}
use Rattle.region_interfere.specs.declared.seen.Seen.{Seen}
use Rattle.region_interfere.specs.declared.seen.Seen.TheVariants.{Nobody, One, Many}
use Rattle.region_interfere.specs.declared.seen.Group.{Group}
use Rattle.region_interfere.specs.declared.grouping.Groups.{Groups}
use Rattle.region_interfere.specs.Groups.{seen_with, seen, group_with, group_shows, key_of, keyed_group, group_at, shows, is_key, with_unkeyed, Noted, Shows}
use Rattle.region_interfere.specs.Groups.{ShowsFirst}

seen-kept : (s : Seen) (i j : ℕ) → seen s i ≡ true → seen (seen_with s j) i ≡ true
seen-kept Nobody i j h = absurd (false≢true h)
seen-kept (One k) i j h = cond_both (k == j) (One k) Many (λ z. seen z i ≡ true) (λ _. h) (λ _. refl)
seen-kept Many i j h = refl

seen-there : (s : Seen) (j : ℕ) → seen (seen_with s j) j ≡ true
seen-there Nobody j = eq-eqb j j refl
seen-there (One k) j = cond_both (k == j) (One k) Many (λ z. seen z j ≡ true) (λ e. e) (λ _. refl)
seen-there Many j = refl

writers-kept : (s : Seen) (i j : ℕ) (v access : Access) → (not (is_write v) || seen s i) ≡ true →
    (not (is_write v) || seen (cond (is_write access) (seen_with s j) s) i) ≡ true
writers-kept s i j v Read h = h
writers-kept s i j v Write h = ⊎_elim (λ t. or_left _ _ t) (λ t. or_right (not (is_write v)) _ (seen-kept s i j t)) (or_cases (not (is_write v)) _ h)

group-kept : (g : Group) (i j : ℕ) (v access : Access) → group_shows g i v ≡ true → group_shows (group_with g j access) i v ≡ true
group-kept g i j v access h =
    let p = and_parts (seen g.any i) _ h in
    and_from _ _ (seen-kept g.any i j p.0) (writers-kept g.writers i j v access p.1)

writers-there : (s : Seen) (j : ℕ) (access : Access) → (not (is_write access) || seen (cond (is_write access) (seen_with s j) s) j) ≡ true
writers-there s j Write = seen-there s j
writers-there s j Read = refl

group-there : (g : Group) (j : ℕ) (access : Access) → group_shows (group_with g j access) j access ≡ true
group-there g j access = and_from _ _ (seen-there g.any j) (writers-there g.writers j access)

-- a value that may have been put
pub unwrapped : {X : Type 0} (b : Bool) (v d : X) (o : Option X) → unwrap_or (cond b (Some v) o) d ≡ cond b v (unwrap_or o d)
unwrapped true v d o = refl
unwrapped false v d o = refl

-- where the elements are these, the value may be that of these
pub cond_at : {X : Type 0} (p q : List Elem) (f : List Elem → X) (x : X) → cond (elems_eq p q) (f p) x ≡ cond (elems_eq p q) (f q) x
cond_at p q f x = by (elems_eq p q) (λ t. ap f ((elems_decides p q).0 t))
  where
    by : (b : Bool) → (b ≡ true → f p ≡ f q) → cond b (f p) x ≡ cond b (f q) x
    by true h = h refl
    by false h = refl

unkeyed-kept : (o : Option (List Elem)) (g : Group) (i j : ℕ) (v access : Access) → group_shows g i v ≡ true → group_shows (with_unkeyed o g j access) i v ≡ true
unkeyed-kept None g i j v access h = group-kept g i j v access h
unkeyed-kept (Some k) g i j v access h = h

group_at-kept : (old new : Groups) (j : ℕ) (e : Effect) → Noted old new j e → (o : Option (List Elem)) (i : ℕ) (v : Access) → group_shows (group_at old o) i v ≡ true →
    group_shows (group_at new o) i v ≡ true
group_at-kept old new j e n None i v h =
    subst (λ g. group_shows g i v ≡ true) (sym n.unkeyed) (unkeyed-kept (key_of old.key e) old.unkeyed i j v e.access h)
group_at-kept old new j e n (Some q) i v h =
    subst (λ g. group_shows g i v ≡ true) (sym (n.keyed q))
    (cond_both
    (is_key (key_of old.key e) q)
    (group_with (keyed_group old.keyed q) j e.access)
    (keyed_group old.keyed q)
    (λ g. group_shows g i v ≡ true)
    (λ _. group-kept (keyed_group old.keyed q) i j v e.access h)
    (λ _. h))

group_at-there : (old new : Groups) (j : ℕ) (access : Access) (o : Option (List Elem)) → new.unkeyed ≡ with_unkeyed o old.unkeyed j access →
    ((q : List Elem) → keyed_group new.keyed q ≡ cond (is_key o q) (group_with (keyed_group old.keyed q) j access) (keyed_group old.keyed q)) →
    group_shows (group_at new o) j access ≡ true
group_at-there old new j access None u k = subst (λ g. group_shows g j access ≡ true) (sym u) (group-there old.unkeyed j access)
group_at-there old new j access (Some q) u k =
    subst (λ g. group_shows g j access ≡ true)
    (sym (k q ∙ ap (λ b. cond b (group_with (keyed_group old.keyed q) j access) (keyed_group old.keyed q)) ((elems_decides q q).1 refl)))
    (group-there (keyed_group old.keyed q) j access)

noted-kept : (old new : Groups) (j : ℕ) (e : Effect) → Noted old new j e → (i : ℕ) (f : Effect) → shows old i f ≡ true → shows new i f ≡ true
noted-kept old new j e n i f h =
    let p = and_parts (group_shows old.all i f.access) _ h in
    and_from _ _
    (subst (λ g. group_shows g i f.access ≡ true) (sym n.all) (group-kept old.all i j f.access e.access p.0))
    (subst (λ key. group_shows (group_at new (key_of key f)) i f.access ≡ true) (sym n.key) (group_at-kept old new j e n (key_of old.key f) i f.access p.1))

noted-there : (old new : Groups) (j : ℕ) (e : Effect) → Noted old new j e → shows new j e ≡ true
noted-there old new j e n =
    and_from _ _
    (subst (λ g. group_shows g j e.access ≡ true) (sym n.all) (group-there old.all j e.access))
    (subst (λ key. group_shows (group_at new (key_of key e)) j e.access ≡ true) (sym n.key) (group_at-there old new j e.access (key_of old.key e) n.unkeyed n.keyed))

pub shows-more : (old mid new : Groups) (j i : ℕ) (es : List Effect) (e : Effect) → i < length es → e ≡ get_or es i e → Shows old mid j (take i es) →
    Noted mid new j e → Shows old new j (take (i + 1) es)
shows-more old mid new j i es e lt at s n = record {
  key = n.key ∙ s.key;
  kept = λ k f h. noted-kept mid new j e n k f (s.kept k f h);
  there =
      All-more
      (λ f. IsTrue (shows new j f))
      es
      i
      e
      lt
      (All-weaker (λ f. IsTrue (shows mid j f)) (λ f. IsTrue (shows new j f)) (λ f h. noted-kept mid new j e n j f h) (take i es) s.there)
      (subst (λ f. IsTrue (shows new j f)) at (noted-there mid new j e n));
}

pub shows-next : (old new : Groups) (branches : List (List Effect)) (i : ℕ) (x es : List Effect) → i < length branches → x ≡ get_or branches i x → es ≡ x →
    ShowsFirst old branches i → Shows old new i es → ShowsFirst new branches (i + 1)
shows-next old new branches i x es lt at is first s j d below =
    ⊎_elim
    (λ (e : j ≡ i).
    subst (λ k. All (λ f. IsTrue (shows new k f)) (get_or branches k d)) (sym e)
    (subst (All (λ f. IsTrue (shows new i f))) (is ∙ get_or_read branches i x lt at d) s.there))
    (λ ne. All-weaker (λ f. IsTrue (shows old j f)) (λ f. IsTrue (shows new j f)) (λ f h. s.kept j f h) (get_or branches j d) (first j d (omega arith)))
    (cases_eq j i)
