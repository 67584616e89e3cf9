-- Effects that are alone interfere with no effect of another branch.
use Rattle.std.proofs.Common.{◌≡◌, ◌≢◌, ℕ, true, false, not, ◌||◌, List, Option, Some, None, refl, sym, ap, ◌∙◌, subst, ⊎_elim}
use Rattle.std.proofs.lemmas.Bool.{and_parts, and_left, and_right, or_cases, false≢true, not-true, not-false, ne_eqb, eqb-true, cases_Bool}
use Rattle.lang_base.specs.declared.elems.Elem.{Elem}
use Rattle.lang_base.specs.declared.effect.Access.{Access}
use Rattle.lang_base.specs.declared.effect.Access.TheVariants.{Read, Write}
use Rattle.lang_base.specs.declared.effect.Effect.{Effect}
use Rattle.lang_base.specs.declared.effect.Constraint.{Constraint}
use Rattle.lang_base.specs.Apart.{apart}
use Rattle.lang_base.specs.Effects.{is_write, interferes}
use Rattle.region_interfere.specs.declared.seen.Seen.{Seen}
use Rattle.region_interfere.specs.declared.seen.Seen.TheVariants.{Nobody, One, Many}
use Rattle.region_interfere.specs.declared.seen.Group.{Group}
use Rattle.region_interfere.specs.declared.grouping.Groups.{Groups}
use Rattle.region_interfere.specs.declared.thin.Kinds.{Kinds}
use Rattle.region_interfere.specs.Groups.{seen, has_other, group_shows, group_meets, key_of, keyed_group, group_at, shows, alone_at, alone}
use Rattle.region_interfere.specs.Kept.{Grouped, kept, ThinnedBy}
use Rattle.region_interfere.specs.Thinned.{Thinned}
use Rattle.region_interfere.proofs.Keys.{same_or_other, keys-apart}

another : (s : Seen) (i j : ℕ) → i ≢ j → seen s j ≡ true → has_other s i ≡ true
another Nobody i j ne h = absurd (false≢true h)
another (One k) i j ne h = ap not (ne_eqb k i (λ e. ne (sym e ∙ eqb-true k j h)))
another Many i j ne h = refl

-- a group that shows an effect of another branch is met, if one of the two writes
met : (g : Group) (i j : ℕ) (a b : Access) → i ≢ j → (is_write a || is_write b) ≡ true → group_shows g j b ≡ true → group_meets g i a ≡ true
met g i j Write b ne w h = another g.any i j ne (and_parts (seen g.any j) _ h).0
met g i j Read Write ne w h = another g.writers i j ne (and_parts (seen g.any j) _ h).1
met g i j Read Read ne w h = absurd (false≢true w)

unmet : (g : Group) (i j : ℕ) (a b : Access) → i ≢ j → (is_write a || is_write b) ≡ true → group_shows g j b ≡ true → not (group_meets g i a) ≡ true → ⊥
unmet g i j a b ne w h k = false≢true (sym (not-true _ k) ∙ met g i j a b ne w h)

apart-alone : (g : Groups) (given : List Constraint) (e f : Effect) (i j : ℕ) → i ≢ j → (is_write e.access || is_write f.access) ≡ true → (o p : Option (List Elem)) →
    key_of g.key e ≡ o → key_of g.key f ≡ p → alone_at o g i e.access ≡ true → group_shows g.all j f.access ≡ true →
    group_shows (group_at g p) j f.access ≡ true → apart given e.rpl f.rpl ≡ true
apart-alone g given e f i j ne w None p ke kf a all s = absurd (unmet g.all i j e.access f.access ne w all a)
apart-alone g given e f i j ne w (Some k) None ke kf a all s =
    absurd (unmet g.unkeyed i j e.access f.access ne w s (and_parts (not (group_meets g.unkeyed i e.access)) _ a).0)
apart-alone g given e f i j ne w (Some k) (Some l) ke kf a all s =
    ⊎_elim
    (λ (same : k ≡ l).
    absurd (unmet (keyed_group g.keyed k) i j e.access f.access ne w
    (subst (λ z. group_shows (keyed_group g.keyed z) j f.access ≡ true) (sym same) s)
    (and_parts (not (group_meets g.unkeyed i e.access)) _ a).1))
    (λ differ. keys-apart given g.key e f k l ke kf differ)
    (same_or_other k l)

alone-quiet : (g : Groups) (given : List Constraint) (e f : Effect) (i j : ℕ) → i ≢ j → alone g i e ≡ true → shows g j f ≡ true → interferes given e f ≡ false
unfolding interferes
alone-quiet g given e f i j ne a s =
    let p = and_parts (group_shows g.all j f.access) _ s in
    ⊎_elim
    (λ w. and_right (is_write e.access || is_write f.access) _ (ap not (apart-alone g given e f i j ne w (key_of g.key e) (key_of g.key f) refl refl a p.0 p.1)))
    (λ n. and_left _ _ n)
    (cases_Bool (is_write e.access || is_write f.access))

pub thinned_from : (g : Kinds) (branches left : List (List Effect)) → Grouped g branches → ThinnedBy (kept g) branches left → Thinned branches left
thinned_from g branches left all t = record {
  keeps = kept g;
  lengths = t.0;
  kept = t.1;
  quiet = λ given i j d ne li lj k dk lk drop m dm lm.
      ⊎_elim
      (λ two. ⊎_elim
      (λ one. alone-quiet g.first given _ _ i j ne one (all.first j d lj m dm lm))
      (λ one. alone-quiet g.last given _ _ i j ne one (all.last j d lj m dm lm))
      (or_cases (alone g.first i _) _ two))
      (λ one. alone-quiet g.whole given _ _ i j ne one (all.whole j d lj m dm lm))
      (or_cases (alone g.first i _ || alone g.last i _) _ (not-false _ drop));
}
