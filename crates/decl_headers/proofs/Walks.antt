-- What a walk through the classes says a second time is what is wrong in each of them.
use Rattle.std.proofs.Common.{◌≡◌, ℕ, zero, suc, ◌+◌, ◌<◌, Bool, true, false, cond, List, [], ◌∷◌, ◌++◌, length, get_or, replicate, ◌⊎◌, inl, inr, Option, Some, None, refl, sym, ap, subst, ◌∙◌, arith, append_assoc}
use Rattle.std.proofs.lemmas.Bool.Decides.{eqb_tells}
use Rattle.std.proofs.lemmas.List.Concat.{flat_map-append}
use Rattle.std.proofs.lemmas.Option.{none-some}
use Rattle.std.specs.List.{flat_map, range_with_len}
use Rattle.std.specs.Option.{option_and_then, option_map_or}
use Rattle.std.specs.Prelude.{slice_get}
use Rattle.lang_base.specs.declared.refusal.Refusal.{Refusal}
use Rattle.syntax_tree.specs.declared.class.Class.{Class}
use Rattle.syntax_tree.specs.declared.region.Named.{Named}
use Rattle.decl_headers.specs.declared.forest.Step.{Step}
use Rattle.decl_headers.specs.declared.forest.Step.TheVariants as step
use Rattle.decl_headers.specs.Around.{Around, none_around, class_entered, class_faults, class_left, after_step, step_faults, way_faults}
use Rattle.decl_headers.specs.Headers.{chain}
use Rattle.decl_headers.specs.Members.{mark_of, all_entered}
use Rattle.decl_headers.specs.Rounds.{entry_of, superclasses, up}
use Rattle.decl_headers.specs.Second.{own_regions, own_fields, names_of, names_in, wrong_in_class, wrong_at, second_faults}
use Rattle.decl_headers.specs.Way.{IsForest, extensions, extending, roots, last_first, walk, walks, way_of, deep}
use Rattle.decl_headers.proofs.Among.{among_flat, from_flat, among_last, from_last, among_range, range_below}
use Rattle.decl_headers.proofs.Cycles.{up-first, up-then, entry_within, far_round, not_round}
use Rattle.decl_headers.proofs.Inside.{Clean, Below, class_declared, class_passed, class_second}
use Rattle.decl_headers.proofs.Marks.{IsNoOwner, Says, says_all_entered, mark_all_entered, none_said}
use Rattle.decl_headers.proofs.Order.{Among, same_noted}
use Rattle.decl_headers.proofs.Same.{Same, same_list, same_then, same_append}
use Rattle.decl_headers.proofs.Trees.{child_up, up_child, root_is, is_root}

-- nothing is higher above a class than there are classes
pub top_none : (parents : List (Option ℕ)) (n at : ℕ) → IsForest parents → length parents < n → up parents n at ≡ None
top_none parents n at sound far = by (up parents n at) refl
  where
    by : (o : Option ℕ) → up parents n at ≡ o → o ≡ None
    by None e = refl
    by (Some top) e = absurd (not_round parents top (sound.straight top) (far_round parents top n at far e))

-- a longer chain is the same where nothing is so high
chain_longer : (parents : List (Option ℕ)) (n at : ℕ) → up parents n at ≡ None → chain (entry_of parents) n at ≡ chain (entry_of parents) (suc n) at
chain_longer parents zero at h = cc
chain_longer parents (suc n) at h = by (entry_of parents at) refl (λ above. chain_longer parents n above)
  where
    by : (o : Option ℕ) → entry_of parents at ≡ o → ((above : ℕ) → up parents n above ≡ None → chain (entry_of parents) n above ≡ chain (entry_of parents) (suc n) above) →
        at ∷ option_map_or (λ above. chain (entry_of parents) n above) o [] ≡ at ∷ option_map_or (λ above. chain (entry_of parents) (suc n) above) o []
    by None e more = refl
    by (Some above) e more =
        let one : suc n ≡ n + 1 = omega arith in
        ap (λ z. at ∷ z) (more above (sym (ap (λ k. up parents k at) one ∙ up-then parents n 1 at above e) ∙ h))

-- above a class stands its superclass, and then what stands above that
pub superclasses_step : (parents : List (Option ℕ)) (at above : ℕ) → IsForest parents → entry_of parents at ≡ Some above → superclasses parents at ≡ above ∷ superclasses parents above
superclasses_step parents at above sound e = by (length parents) refl (entry_of parents above) refl
  where
    by : (n : ℕ) → length parents ≡ n → (o : Option ℕ) → entry_of parents above ≡ o → superclasses parents at ≡ above ∷ option_map_or (λ top. chain (entry_of parents) (length parents) top) o []
    by zero none o f = absurd (omega (arith, entry_within parents at above e))
    by (suc n) is o f =
        ap (λ z. option_map_or (λ top. chain (entry_of parents) (length parents) top) z []) e
        ∙ ap (λ k. chain (entry_of parents) k above) is
        ∙ ap (λ z. above ∷ option_map_or (λ top. chain (entry_of parents) n top) z []) f
        ∙ higher o f
      where
        higher : (o : Option ℕ) → entry_of parents above ≡ o → above ∷ option_map_or (λ top. chain (entry_of parents) n top) o [] ≡ above ∷ option_map_or (λ top. chain (entry_of parents) (length parents) top) o []
        higher None g = refl
        higher (Some top) g =
            let two : up parents 2 at ≡ Some top = ap (option_and_then (entry_of parents)) e ∙ g in
            let far : n + 2 ≡ suc (length parents) = omega arith in
            let none : up parents n top ≡ None = sym (up-then parents n 2 at top two) ∙ top_none parents (n + 2) at sound (omega (arith, far)) in
            ap (λ z. above ∷ z) (chain_longer parents n top none ∙ ap (λ k. chain (entry_of parents) k top) (sym is))

-- what is declared, a class above declares
abbrev AboveOwn : List (Option ℕ) → List ℕ → ℕ → Type 0
AboveOwn parents owners class = (x : ℕ) → (get_or owners x 0 ≡ 0) ⊎ ((owner : ℕ) × (d : ℕ) × (up parents (suc d) class ≡ Some owner) × (get_or owners x 0 ≡ mark_of owner))

-- so the class itself declares nothing yet
not_own : (parents : List (Option ℕ)) (owners : List ℕ) (class : ℕ) → IsForest parents → class < length parents → AboveOwn parents owners class → IsNoOwner owners class
not_own parents owners class sound below own x =
    elim (eqb_tells (get_or owners x 0) (mark_of class)) [
      | inr q ↦ q.0
      | inl p ↦ elim (own x) [
        | inl none ↦ absurd (omega (arith, p.1, none))
        | inr w ↦
            let counted = sound.counted in
            let same : w.0 ≡ class = omega (arith, p.1, w.3, counted, below) in
            absurd (not_round parents class (sound.straight class) (w.1, w.2 ∙ ap (λ k. Some k) same))
      ]
    ]

own_below : (parents : List (Option ℕ)) (owners : List ℕ) (class below : ℕ) (names : List Named) → entry_of parents below ≡ Some class → AboveOwn parents owners class → AboveOwn parents (all_entered owners class names) below
own_below parents owners class below names e own x = by _ (mark_all_entered owners class names x)
  where
    by : (b : Bool) → get_or (all_entered owners class names) x 0 ≡ cond b (mark_of class) (get_or owners x 0) → (get_or (all_entered owners class names) x 0 ≡ 0) ⊎ ((owner : ℕ) × (d : ℕ) × (up parents (suc d) below ≡ Some owner) × (get_or (all_entered owners class names) x 0 ≡ mark_of owner))
    by true is = inr (class, 0, e, is)
    by false is =
        elim (own x) [
          | inl none ↦ inl (is ∙ none)
          | inr w ↦ let one : suc (suc w.1) ≡ suc w.1 + 1 = omega arith in inr (w.0, suc w.1, ap (λ k. up parents k below) one ∙ up-then parents (suc w.1) 1 below class e ∙ w.2, is ∙ w.3)
        ]

-- the class is about to be entered: what it inherits is declared, and nothing else
record Ready (count : ℕ) (classes : List Class) (parents : List (Option ℕ)) (seen : Around) (class : ℕ) : Type 0 where
  clean : Clean count seen
  regions : Says count seen.regions (names_in own_regions classes (superclasses parents class))
  fields : Says count seen.fields (names_in own_fields classes (superclasses parents class))
  region_owners : AboveOwn parents seen.regions class
  field_owners : AboveOwn parents seen.fields class

handed_down : (own : Class → List Named) (classes : List Class) (parents : List (Option ℕ)) (number below : ℕ) (class : Class) → IsForest parents → entry_of parents below ≡ Some number → slice_get classes number ≡ Some class →
    names_in own classes (superclasses parents below) ≡ names_of (own class) ++ names_in own classes (superclasses parents number)
handed_down own classes parents number below class sound e is =
    ap (names_in own classes) (superclasses_step parents below number sound e)
    ∙ ap (λ o. option_map_or (λ one. names_of (own one)) o [] ++ names_in own classes (superclasses parents number)) is

ready_below : (count : ℕ) (classes : List Class) (parents : List (Option ℕ)) (seen : Around) (number below : ℕ) (class : Class) → IsForest parents → slice_get classes number ≡ Some class → entry_of parents below ≡ Some number → Ready count classes parents seen number → Ready count classes parents (class_entered seen number class) below
ready_below count classes parents seen number below class sound is e ready =
    subst (λ s. Ready count classes parents s below) (sym (class_declared count seen number class ready.clean)) (record {
      clean = record { methods = ready.clean.methods; constructors = ready.clean.constructors; params = ready.clean.params; formals = ready.clean.formals };
      regions = subst (λ known. Says count (all_entered seen.regions number (own_regions class)) known) (sym (handed_down own_regions classes parents number below class sound e is)) (says_all_entered count seen.regions _ number (own_regions class) ready.regions);
      fields = subst (λ known. Says count (all_entered seen.fields number (own_fields class)) known) (sym (handed_down own_fields classes parents number below class sound e is)) (says_all_entered count seen.fields _ number (own_fields class) ready.fields);
      region_owners = own_below parents seen.regions number below (own_regions class) e ready.region_owners;
      field_owners = own_below parents seen.fields number below (own_fields class) e ready.field_owners;
    })

-- the classes, as many as there are superclasses reported, each with names below a count
record Whole (count : ℕ) (classes : List Class) (parents : List (Option ℕ)) : Type 0 where
  sound : IsForest parents
  each : length parents ≡ length classes
  below : (at : ℕ) (class : Class) → slice_get classes at ≡ Some class → Below count class

pub class_at : (classes : List Class) (at : ℕ) → at < length classes → (class : Class) × (slice_get classes at ≡ Some class)
class_at [] at l = absurd (omega arith)
class_at (class ∷ classes) zero l = (class, refl)
class_at (class ∷ classes) (suc at) l = class_at classes at (omega arith)

-- what is declared after some steps
abbrev after_way : List Class → Around → List Step → Around
after_way classes seen [] = seen
after_way classes seen (s ∷ steps) = after_way classes (after_step classes seen s) steps

after-append : (classes : List Class) (seen : Around) (xs ys : List Step) → after_way classes seen (xs ++ ys) ≡ after_way classes (after_way classes seen xs) ys
after-append classes seen [] ys = refl
after-append classes seen (x ∷ xs) ys = after-append classes (after_step classes seen x) xs ys

faults-append : (classes : List Class) (seen : Around) (xs ys : List Step) → way_faults classes seen (xs ++ ys) ≡ way_faults classes seen xs ++ way_faults classes (after_way classes seen xs) ys
faults-append classes seen [] ys = refl
faults-append classes seen (x ∷ xs) ys =
    ap (λ z. step_faults classes seen x ++ z) (faults-append classes (after_step classes seen x) xs ys)
    ∙ sym (append_assoc (step_faults classes seen x) (way_faults classes (after_step classes seen x) xs) (way_faults classes (after_way classes (after_step classes seen x) xs) ys))

-- a walk through a class that is entered leaves what is declared as it was, and notes what is wrong in the classes inside
abbrev pub inside : List (List ℕ) → ℕ → ℕ → List ℕ
inside lists zero class = []
inside lists (suc n) class = class ∷ last_first (λ below. inside lists n below) (extending lists class)

record Walked (classes : List Class) (parents : List (Option ℕ)) (seen : Around) (steps : List Step) (through : List ℕ) : Type 0 where
  back : after_way classes seen steps ≡ seen
  reported : Same (way_faults classes seen steps) (flat_map (wrong_at classes parents) through)

walked_then : (classes : List Class) (parents : List (Option ℕ)) (seen : Around) (xs ys : List Step) (first more : List ℕ) → Walked classes parents seen xs first → Walked classes parents seen ys more → Walked classes parents seen (xs ++ ys) (first ++ more)
walked_then classes parents seen xs ys first more h k = record {
  back = after-append classes seen xs ys ∙ ap (λ s. after_way classes s ys) h.back ∙ k.back;
  reported = same_then _ _ _ (same_list _ _ (faults-append classes seen xs ys ∙ ap (λ s. way_faults classes seen xs ++ way_faults classes s ys) h.back))
      (same_then _ _ _ (same_append _ _ _ _ h.reported k.reported) (same_list _ _ (sym (flat_map-append (wrong_at classes parents) first more))));
}

walked_last : (classes : List Class) (parents : List (Option ℕ)) (seen : Around) (f : ℕ → List Step) (g : ℕ → List ℕ) (numbers : List ℕ) → ((one : ℕ) → Among one numbers → Walked classes parents seen (f one) (g one)) → Walked classes parents seen (last_first f numbers) (last_first g numbers)
walked_last classes parents seen f g [] h = record { back = refl; reported = same_list _ _ refl }
walked_last classes parents seen f g (one ∷ numbers) h =
    walked_then classes parents seen (last_first f numbers) (f one) (last_first g numbers) (g one) (walked_last classes parents seen f g numbers (λ other k. h other (inr k))) (h one (inl refl))

abbrev DoesWalk : ℕ → List Class → List (Option ℕ) → ℕ → Type 0
DoesWalk count classes parents n = (seen : Around) (class : ℕ) → class < length parents → Ready count classes parents seen class → Walked classes parents seen (walk (extensions parents) n class) (inside (extensions parents) n class)

step_in : (classes : List Class) (seen : Around) (number : ℕ) (class : Class) → slice_get classes number ≡ Some class → after_step classes seen (step.Enter number) ≡ class_entered seen number class
step_in classes seen number class is = ap (λ o. option_map_or (λ one. class_entered seen number one) o seen) is

step_out : (classes : List Class) (seen : Around) (number : ℕ) (class : Class) → slice_get classes number ≡ Some class → after_step classes seen (step.Leave number) ≡ class_left seen number class.members
step_out classes seen number class is = ap (λ o. option_map_or (λ one. class_left seen number one.members) o seen) is

walk_deeper : (count : ℕ) (classes : List Class) (parents : List (Option ℕ)) (n : ℕ) → Whole count classes parents → DoesWalk count classes parents n → DoesWalk count classes parents (suc n)
walk_deeper count classes parents n whole does seen number l ready =
    let sound = whole.sound in
    let found = class_at classes number (omega (arith, whole.each)) in
    let class = found.0 in
    let is = found.1 in
    let lists = extensions parents in
    let children = extending lists number in
    let entered = class_entered seen number class in
    let into = after_step classes seen (step.Enter number) in
    let down = last_first (λ below. walk lists n below) children in
    let numbers = last_first (λ below. inside lists n below) children in
    let in_is : into ≡ entered = step_in classes seen number class is in
    let through : Walked classes parents entered down numbers =
    walked_last classes parents entered (λ below. walk lists n below) (λ below. inside lists n below) children
    (λ below k. let e = child_up parents number below sound.counted k in does entered below (entry_within parents below number e) (ready_below count classes parents seen number below class sound is e ready)) in
    let same : Same (class_faults seen number class) (wrong_at classes parents number) =
    same_then _ _ _ (class_second count seen number class _ _ ready.clean ready.regions ready.fields (whole.below number class is))
    (same_list _ _ (sym (ap (λ o. option_map_or (λ one. wrong_in_class (names_in own_regions classes (superclasses parents number)) (names_in own_fields classes (superclasses parents number)) one) o []) is))) in
    record {
      back = ap (λ s. after_way classes s (down ++ step.Leave number ∷ [])) in_is
          ∙ after-append classes entered down (step.Leave number ∷ [])
          ∙ ap (λ s. after_step classes s (step.Leave number)) through.back
          ∙ step_out classes entered number class is
          ∙ class_passed count seen number class ready.clean (not_own parents seen.regions number sound l ready.region_owners) (not_own parents seen.fields number sound l ready.field_owners);
      reported = same_append _ _ _ _
          (same_then _ _ _ (same_list _ _ (ap (λ o. option_map_or (λ one. class_faults seen number one) o []) is)) same)
          (same_then _ _ _ (same_list _ _ (ap (λ s. way_faults classes s (down ++ step.Leave number ∷ [])) in_is ∙ faults-append classes entered down (step.Leave number ∷ []) ∙ append_nil (way_faults classes entered down))) through.reported);
    }
  where
    append_nil : (xs : List Refusal) → xs ++ [] ≡ xs
    append_nil [] = refl
    append_nil (x ∷ xs) = ap (λ z. x ∷ z) (append_nil xs)

walk_reported : (count : ℕ) (classes : List Class) (parents : List (Option ℕ)) (n : ℕ) → Whole count classes parents → DoesWalk count classes parents n
walk_reported count classes parents zero whole seen class l ready = record { back = refl; reported = same_list _ _ refl }
walk_reported count classes parents (suc n) whole seen class l ready = walk_deeper count classes parents n whole (walk_reported count classes parents n whole) seen class l ready

-- at a class without a superclass nothing is declared
root_ready : (count : ℕ) (classes : List Class) (parents : List (Option ℕ)) (root : ℕ) → entry_of parents root ≡ None → Ready count classes parents (none_around count) root
root_ready count classes parents root none = record {
  clean = record { methods = refl; constructors = refl; params = refl; formals = refl };
  regions = subst (λ above. Says count (replicate count 0) (names_in own_regions classes above)) (sym above) (none_said count);
  fields = subst (λ above. Says count (replicate count 0) (names_in own_fields classes above)) (sym above) (none_said count);
  region_owners = λ x. inl (zero_at count x);
  field_owners = λ x. inl (zero_at count x);
}
  where
    above : superclasses parents root ≡ []
    above = ap (λ o. option_map_or (λ one. chain (entry_of parents) (length parents) one) o []) none

    zero_at : (count x : ℕ) → ◌≡◌ {A = ℕ} (get_or (replicate count 0) x 0) 0
    zero_at zero x = refl
    zero_at (suc count) zero = refl
    zero_at (suc count) (suc x) = zero_at count x

abbrev pub insides : List (List ℕ) → ℕ → List ℕ → List ℕ
insides lists n classes = flat_map (inside lists n) classes

walks_reported : (count : ℕ) (classes : List Class) (parents : List (Option ℕ)) (n : ℕ) (numbers : List ℕ) → Whole count classes parents → ((one : ℕ) → Among one numbers → (one < length parents) × (entry_of parents one ≡ None)) →
    Walked classes parents (none_around count) (walks (extensions parents) n numbers) (insides (extensions parents) n numbers)
walks_reported count classes parents n [] whole all = record { back = refl; reported = same_list _ _ refl }
walks_reported count classes parents n (one ∷ numbers) whole all =
    let lists = extensions parents in
    let here = all one (inl refl) in
    walked_then classes parents (none_around count) (walk lists n one) (walks lists n numbers) (inside lists n one) (insides lists n numbers)
    (walk_reported count classes parents n whole (none_around count) one here.0 (root_ready count classes parents one here.1))
    (walks_reported count classes parents n numbers whole (λ other k. all other (inr k)))

-- every class is inside a class without a superclass, and no other numbers are
inside_within : (parents : List (Option ℕ)) (n class one : ℕ) → IsForest parents → class < length parents → Among one (inside (extensions parents) n class) → one < length parents
inside_within parents zero class one sound l h = absurd h
inside_within parents (suc n) class one sound l (inl e) = subst (λ k. k < length parents) (sym e) l
inside_within parents (suc n) class one sound l (inr h) =
    let w = from_last (λ below. inside (extensions parents) n below) one (extending (extensions parents) class) h in
    inside_within parents n w.0 one sound (entry_within parents w.0 class (child_up parents class w.0 sound.counted w.1)) w.2

inside_into : (parents : List (Option ℕ)) (d n class one : ℕ) → IsForest parents → class < length parents → d < n → up parents d one ≡ Some class → Among one (inside (extensions parents) n class)
inside_into parents zero zero class one sound l deep h = absurd (omega arith)
inside_into parents zero (suc n) class one sound l deep h = inl cc
inside_into parents (suc d) zero class one sound l deep h = absurd (omega arith)
inside_into parents (suc d) (suc n) class one sound l deep h = by (up parents d one) refl (λ k b e. inside_into parents d n k one sound b (omega arith) e)
  where
    by : (o : Option ℕ) → up parents d one ≡ o → ((k : ℕ) → k < length parents → up parents d one ≡ Some k → Among one (inside (extensions parents) n k)) → Among one (inside (extensions parents) (suc n) class)
    by None e more = absurd (none-some class (sym (ap (option_and_then (entry_of parents)) e) ∙ h))
    by (Some k) e more =
        let entry : entry_of parents k ≡ Some class = sym (ap (option_and_then (entry_of parents)) e) ∙ h in
        inr (among_last (λ below. inside (extensions parents) n below) one k (extending (extensions parents) class) (up_child parents class k sound.counted l entry) (more k (entry_within parents k class entry) e))

-- the topmost of the classes above a class
topmost : (parents : List (Option ℕ)) (n at : ℕ) → up parents n at ≡ None → (d : ℕ) × (d < n) × (top : ℕ) × (up parents d at ≡ Some top) × (entry_of parents top ≡ None)
topmost parents zero at h = absurd (none-some at (sym h))
topmost parents (suc n) at h = by (up parents n at) refl (λ e. topmost parents n at e)
  where
    by : (o : Option ℕ) → up parents n at ≡ o → (up parents n at ≡ None → (d : ℕ) × (d < n) × (top : ℕ) × (up parents d at ≡ Some top) × (entry_of parents top ≡ None)) → (d : ℕ) × (d < suc n) × (top : ℕ) × (up parents d at ≡ Some top) × (entry_of parents top ≡ None)
    by None e more = let w = more e in let l = w.1 in (w.0, omega arith, w.2, w.3, w.4)
    by (Some top) e more = (n, omega arith, top, e, sym (ap (option_and_then (entry_of parents)) e) ∙ h)

up_inside : (parents : List (Option ℕ)) (d at top : ℕ) → IsForest parents → at < length parents → up parents d at ≡ Some top → top < length parents
up_inside parents zero at top sound l h = let same : at ≡ top = cc in subst (λ k. k < length parents) same l
up_inside parents (suc d) at top sound l h =
    let one : suc d ≡ 1 + d = omega arith in
    let f = up-first parents 1 d at top (ap (λ k. up parents k at) (sym one) ∙ h) in
    sound.within f.0 top f.2

pub all_inside : (parents : List (Option ℕ)) (at : ℕ) → IsForest parents → at < length parents → Among at (insides (extensions parents) (deep parents) (roots 0 parents))
all_inside parents at sound l =
    let w = topmost parents (suc (length parents)) at (top_none parents (suc (length parents)) at sound (omega arith)) in
    let below = w.1 in
    let in_range = up_inside parents w.0 at w.2 sound l w.3 in
    among_flat (inside (extensions parents) (deep parents)) at w.2 (roots 0 parents) (is_root parents w.2 sound.counted in_range w.4)
    (inside_into parents w.0 (deep parents) w.2 at sound in_range (omega arith) w.3)

only_inside : (parents : List (Option ℕ)) (at : ℕ) → IsForest parents → Among at (insides (extensions parents) (deep parents) (roots 0 parents)) → at < length parents
only_inside parents at sound h =
    let w = from_flat (inside (extensions parents) (deep parents)) at (roots 0 parents) h in
    inside_within parents (deep parents) w.0 at sound (root_is parents w.0 sound.counted w.1).0 w.2

-- what the way through the classes notes is what is wrong in them
pub way_second : (count : ℕ) (classes : List Class) (parents : List (Option ℕ)) → IsForest parents → length parents ≡ length classes → ((at : ℕ) (class : Class) → slice_get classes at ≡ Some class → Below count class) →
    Same (way_faults classes (none_around count) (way_of parents)) (second_faults classes parents)
way_second count classes parents sound each below =
    let whole : Whole count classes parents = record { sound = sound; each = each; below = below } in
    let walked = walks_reported count classes parents (deep parents) (roots 0 parents) whole (λ one k. root_is parents one sound.counted k) in
    same_then _ _ _ walked.reported (record {
      noted = λ faults. same_noted faults (flat_map wrong through) (flat_map wrong all)
          (λ f h. let w = from_flat wrong f through h in let l = only_inside parents w.0 sound w.1 in among_flat wrong f w.0 all (among_range w.0 0 (length classes) (omega arith) (omega arith)) w.2)
          (λ f h. let w = from_flat wrong f all h in let l = range_below w.0 0 (length classes) w.1 in among_flat wrong f w.0 through (all_inside parents w.0 sound (omega arith)) w.2);
    })
  where
    wrong : ℕ → List Refusal
    wrong = wrong_at classes parents

    through : List ℕ
    through = insides (extensions parents) (deep parents) (roots 0 parents)

    all : List ℕ
    all = range_with_len 0 (length classes)
