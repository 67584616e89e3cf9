-- What was gathered of a branch has the effects of the branch; so branches that are apart for the checker don't clash.
use Rattle.std.proofs.Common.{◌≡◌, ◌∙◌, ℕ, zero, suc, ◌<◌, ◌==◌, Bool, true, false, not, ◌||◌, cond, IsTrue, List, [], ◌∷◌, map, filter, length, slice_index_or, Contains, AllPairs, inr, ⊎_elim, Option, Some, None, refl, sym, ap, subst, arith}
use Rattle.std.proofs.lemmas.Bool.{or_parts, false_from_ne_true, false≢true}
use Rattle.lang_base.specs.declared.array_part.PartUse.{PartUse}
use Rattle.lang_base.specs.declared.effect.Constraint.{Constraint}
use Rattle.lang_base.specs.declared.effect.Effect.{Effect}
use Rattle.lang_base.specs.Branches.{Atomic, clashes, some_clashes, lists_clash, renamed_effect, iterations_clash}
use Rattle.lang_base.specs.Effects.{gathered, with_mark, all_marked}
use Rattle.lang_base.specs.Pairs.{NoPair}
use Rattle.region_interfere.specs.Uses.{use_effect, is_use_of, with_uses_of, with_other_uses, parts_interfere}
use Rattle.lang_typed.specs.Effects.{does, uses, effect_of, as_effects, is_through, through_part, besides_part, marked, after_block, own_after, after_parts}
use Rattle.lang_typed.specs.Effects.{Own as Done}
use Rattle.lang_typed.specs.Plain.{Source, of_array, of_part}
use Rattle.lang_typed.specs.Statements.{SameEffects}
use Rattle.body_exprs.specs.declared.found.Found.{Found}
use Rattle.body_check.specs.Checking.{outer_part}
use Rattle.body_check.specs.Gathering.{with_uses, entered, of_view, moved}
use Rattle.body_check.specs.Gathering.{handed_on as hand_on}
use Rattle.body_check.specs.Meeting.{interferes_with_some, some_interfere}
use Rattle.body_check.specs.Walks.{nothing_found}
use Rattle.sound_bodies.specs.Gathered.{InFound, Gathers}
use Rattle.sound_bodies.proofs.effects.Gathered.{nothing_in, head_in, later_in, in_cases}
use Rattle.sound_bodies.proofs.effects.Left.{gathered_from, gathered_kept, gathered_new}

-- members of mapped and filtered lists

pub mapped_in : {A B : Type 0} (f : A → B) (xs : List A) (x : A) → Contains xs x → Contains (map f xs) (f x)
mapped_in f [] x c = absurd (nothing_in x c)
mapped_in f (y ∷ xs) x c =
    ⊎_elim (λ same. subst (λ z. Contains (f y ∷ map f xs) (f z)) same (head_in (f y) (map f xs))) (λ later. later_in (f y) (map f xs) (f x) (mapped_in f xs x later)) (in_cases y xs x c)

pub mapped_from : {A B : Type 0} (f : A → B) (xs : List A) (y : B) → Contains (map f xs) y → (x : A) × Contains xs x × (f x ≡ y)
mapped_from f [] y c = absurd (nothing_in y c)
mapped_from f (x ∷ xs) y c =
    ⊎_elim (λ same. (x, head_in x xs, same)) (λ later. (let w = mapped_from f xs y later in (w.0, later_in x xs w.0 w.1, w.2))) (in_cases (f x) (map f xs) y c)

pub filtered_in : {A : Type 0} (p : A → Bool) (xs : List A) (x : A) → Contains xs x → p x ≡ true → Contains (filter p xs) x
filtered_in p [] x c t = absurd (nothing_in x c)
filtered_in p (y ∷ xs) x c t = by (λ later. filtered_in p xs x later t) (p y) refl
  where
    by : (Contains xs x → Contains (filter p xs) x) → (b : Bool) → p y ≡ b → Contains (cond b (y ∷ filter p xs) (filter p xs)) x
    by next true is = ⊎_elim (λ same. subst (λ z. Contains (y ∷ filter p xs) z) same (head_in y (filter p xs))) (λ later. later_in y (filter p xs) x (next later)) (in_cases y xs x c)
    by next false is = ⊎_elim (λ same. absurd (false≢true (sym is ∙ ap p same ∙ t))) (λ later. next later) (in_cases y xs x c)

pub filtered_from : {A : Type 0} (p : A → Bool) (xs : List A) (x : A) → Contains (filter p xs) x → Contains xs x × (p x ≡ true)
filtered_from p [] x c = absurd (nothing_in x c)
filtered_from p (y ∷ xs) x c = by (λ later. filtered_from p xs x later) (p y) refl c
  where
    by : (Contains (filter p xs) x → Contains xs x × (p x ≡ true)) → (b : Bool) → p y ≡ b → Contains (cond b (y ∷ filter p xs) (filter p xs)) x → Contains (y ∷ xs) x × (p x ≡ true)
    by next true is c =
        ⊎_elim (λ same. (subst (λ z. Contains (y ∷ xs) z) same (head_in y xs), ap p (sym same) ∙ is)) (λ later. (let w = next later in (later_in y xs x w.0, w.1))) (in_cases y (filter p xs) x c)
    by next false is c = let w = next c in (later_in y xs x w.0, w.1)

-- what was found of a piece that was gathered by itself

pub found_done : (g : Found) (E : List Done) → Gathers nothing_found E g → (o : Done) → InFound g o → Contains E o
found_done g E h (does e) i = ⊎_elim (λ none. absurd (nothing_in e none)) (λ there. there) ((h (does e)).0 i)
found_done g E h (uses k e) i = ⊎_elim (λ none. absurd (nothing_in none.0 none.1)) (λ there. there) ((h (uses k e)).0 i)

pub done_found : (g : Found) (E : List Done) → Gathers nothing_found E g → (o : Done) → Contains E o → InFound g o
done_found g E h o c = (h o).1 (inr c)

nothing_before : (o : Done) → InFound nothing_found o → ⊥
nothing_before (does e) i = nothing_in e i
nothing_before (uses k e) i = nothing_in i.0 i.1

gathers_by : (g : Found) (E : List Done) → ((o : Done) → InFound g o → Contains E o) → ((o : Done) → Contains E o → InFound g o) → Gathers nothing_found E g
gathers_by g E to from o = (λ i. inr (to o i), λ s. ⊎_elim (λ none. absurd (nothing_before o none)) (λ c. from o c) s)

use_in : (us : List PartUse) (e : Effect) → Contains (gathered [] (map use_effect us)) e → (u : PartUse) × Contains us u × (use_effect u ≡ e)
use_in us e c = mapped_from use_effect us e (⊎_elim (λ none. absurd (nothing_in e none)) (λ there. there) (gathered_from [] (map use_effect us) e c))

in_use : (us : List PartUse) (u : PartUse) (e : Effect) → Contains us u → use_effect u ≡ e → Contains (gathered [] (map use_effect us)) e
in_use us u e c is = gathered_new [] (map use_effect us) e (subst (λ z. Contains (map use_effect us) z) is (mapped_in use_effect us u c))

-- its effects, those through parts among them
pub same_effects : (g : Found) (E : List Done) → Gathers nothing_found E g → SameEffects (with_uses g.effects g.uses) (as_effects E)
same_effects g E h e = (to, λ c. (let w = mapped_from effect_of E e c in from w.0 w.1 w.2))
  where
    to : Contains (with_uses g.effects g.uses) e → Contains (as_effects E) e
    to c = ⊎_elim (λ here. mapped_in effect_of E (does e) (found_done g E h (does e) here))
        (λ used. (let w = use_in g.uses e used in mapped_in effect_of E (uses w.0.view e) (found_done g E h (uses w.0.view e) (w.0, w.1, refl, w.2))))
        (gathered_from g.effects (gathered [] (map use_effect g.uses)) e c)

    from : (o : Done) → Contains E o → effect_of o ≡ e → Contains (with_uses g.effects g.uses) e
    from (does d) c is = subst (λ z. Contains (with_uses g.effects g.uses) z) is (gathered_kept g.effects (gathered [] (map use_effect g.uses)) d (done_found g E h (does d) c))
    from (uses k d) c is =
        let i = done_found g E h (uses k d) c in
        gathered_new g.effects (gathered [] (map use_effect g.uses)) e (in_use g.uses i.0 e i.1 (i.3 ∙ is))

-- an atomic block marks its effects

pub gathers_marked : (g : Found) (E : List Done) → Gathers nothing_found E g → Gathers nothing_found (after_block E) (record g { effects = all_marked true g.effects })
gathers_marked g E h = gathers_by (record g { effects = all_marked true g.effects }) (after_block E) to from
  where
    to : (o : Done) → InFound (record g { effects = all_marked true g.effects }) o → Contains (after_block E) o
    to (does e) c =
        let w = mapped_from (with_mark true) g.effects e (⊎_elim (λ none. absurd (nothing_in e none)) (λ there. there) (gathered_from [] (map (with_mark true) g.effects) e c)) in
        subst (λ z. Contains (after_block E) (does z)) w.2 (mapped_in (marked true) E (does w.0) (found_done g E h (does w.0) w.1))
    to (uses k e) i = mapped_in (marked true) E (uses k e) (found_done g E h (uses k e) i)

    of : (o : Done) → Contains E o → InFound (record g { effects = all_marked true g.effects }) (marked true o)
    of (does d) c = gathered_new [] (map (with_mark true) g.effects) (with_mark true d) (mapped_in (with_mark true) g.effects d (done_found g E h (does d) c))
    of (uses k d) c = done_found g E h (uses k d) c

    from : (o : Done) → Contains (after_block E) o → InFound (record g { effects = all_marked true g.effects }) o
    from o c = let w = mapped_from (marked true) E o c in subst (InFound (record g { effects = all_marked true g.effects })) w.2 (of w.0 w.1)

-- an atomic block is entered with exactly what it does
pub same_entered : (g : Found) (E : List Done) → Gathers nothing_found E g → SameEffects (entered g) (as_effects (after_block E))
same_entered g E h = same_effects (record g { effects = all_marked true g.effects }) (after_block E) (gathers_marked g E h)

-- after a construct over parts

not_true : (b : Bool) → b ≡ false → not b ≡ true
not_true true h = cc
not_true false h = refl

true_not : (b : Bool) → not b ≡ true → b ≡ false
true_not true h = cc
true_not false h = refl

-- what an array was cut for is done to it
handed_to_array : (g : Found) (E : List Done) (k : ℕ) (a : _) → Gathers nothing_found E g → Gathers nothing_found (after_parts k (of_array a) E) (hand_on k None g)
handed_to_array g E k a h = gathers_by (hand_on k None g) (after_parts k (of_array a) E) to from
  where
    kept : (o : Done) → Contains E o → (b : Bool) → is_through k o ≡ b → Contains (after_parts k (of_array a) E) (cond b (does (effect_of o)) o)
    kept o c b is = subst (λ z. Contains (after_parts k (of_array a) E) (cond z (does (effect_of o)) o)) is (mapped_in (own_after k (of_array a)) E o c)

    to : (o : Done) → InFound (hand_on k None g) o → Contains (after_parts k (of_array a) E) o
    to (does e) c =
        ⊎_elim (λ here. kept (does e) (found_done g E h (does e) here) false refl)
        (λ used.
        (let w = use_in (filter (is_use_of k) g.uses) e used in
        let f = filtered_from (is_use_of k) g.uses w.0 w.1 in
        kept (uses w.0.view e) (found_done g E h (uses w.0.view e) (w.0, f.0, refl, w.2)) true f.1))
        (gathered_from g.effects (gathered [] (map use_effect (filter (is_use_of k) g.uses))) e c)
    to (uses j e) i =
        let f = filtered_from (λ u. not (is_use_of k u)) g.uses i.0 i.1 in
        kept (uses j e) (found_done g E h (uses j e) (i.0, f.0, i.2, i.3)) false (subst (λ z. (z == k) ≡ false) i.2 (true_not (is_use_of k i.0) f.1))

    of : (o : Done) → Contains E o → (b : Bool) → is_through k o ≡ b → InFound (hand_on k None g) (cond b (does (effect_of o)) o)
    of (does e) c true is = absurd (false≢true is)
    of (does e) c false is = gathered_kept g.effects (gathered [] (map use_effect (filter (is_use_of k) g.uses))) e (done_found g E h (does e) c)
    of (uses j e) c true is =
        let i = done_found g E h (uses j e) c in
        gathered_new g.effects (gathered [] (map use_effect (filter (is_use_of k) g.uses))) e
        (in_use (filter (is_use_of k) g.uses) i.0 e (filtered_in (is_use_of k) g.uses i.0 i.1 (subst (λ z. (z == k) ≡ true) (sym i.2) is)) i.3)
    of (uses j e) c false is =
        let i = done_found g E h (uses j e) c in
        (i.0, filtered_in (λ u. not (is_use_of k u)) g.uses i.0 i.1 (not_true (is_use_of k i.0) (subst (λ z. (z == k) ≡ false) (sym i.2) is)), i.2, i.3)

    from : (o : Done) → Contains (after_parts k (of_array a) E) o → InFound (hand_on k None g) o
    from o c = let w = mapped_from (own_after k (of_array a)) E o c in subst (InFound (hand_on k None g)) w.2 (of w.0 w.1 (is_through k w.0) refl)

-- what a part was cut for is done through it
handed_to_part : (g : Found) (E : List Done) (k outer : ℕ) → Gathers nothing_found E g → Gathers nothing_found (after_parts k (of_part outer) E) (hand_on k (Some outer) g)
handed_to_part g E k outer h = gathers_by (hand_on k (Some outer) g) (after_parts k (of_part outer) E) to from
  where
    kept : (o : Done) → Contains E o → (b : Bool) → is_through k o ≡ b → Contains (after_parts k (of_part outer) E) (cond b (uses outer (effect_of o)) o)
    kept o c b is = subst (λ z. Contains (after_parts k (of_part outer) E) (cond z (uses outer (effect_of o)) o)) is (mapped_in (own_after k (of_part outer)) E o c)

    reported : (u : PartUse) → Contains g.uses u → (b : Bool) → is_use_of k u ≡ b → (j : ℕ) (e : Effect) → (cond b (of_view outer u) u).view ≡ j → use_effect (cond b (of_view outer u) u) ≡ e →
        Contains (after_parts k (of_part outer) E) (uses j e)
    reported u c true is j e view effect =
        subst (λ z. Contains (after_parts k (of_part outer) E) (uses z e)) view
        (subst (λ z. Contains (after_parts k (of_part outer) E) (uses outer z)) effect (kept (uses u.view (use_effect u)) (found_done g E h (uses u.view (use_effect u)) (u, c, refl, refl)) true is))
    reported u c false is j e view effect =
        subst (λ z. Contains (after_parts k (of_part outer) E) (uses z e)) view
        (subst (λ z. Contains (after_parts k (of_part outer) E) (uses u.view z)) effect (kept (uses u.view (use_effect u)) (found_done g E h (uses u.view (use_effect u)) (u, c, refl, refl)) false is))

    to : (o : Done) → InFound (hand_on k (Some outer) g) o → Contains (after_parts k (of_part outer) E) o
    to (does e) c = kept (does e) (found_done g E h (does e) c) false refl
    to (uses j e) i =
        let w = mapped_from (moved k outer) g.uses i.0 i.1 in
        reported w.0 w.1 (is_use_of k w.0) refl j e (ap (λ (z : PartUse). z.view) w.2 ∙ i.2) (ap use_effect w.2 ∙ i.3)

    moved_by : (u : PartUse) (b : Bool) → is_use_of k u ≡ b → Contains g.uses u → Contains (map (moved k outer) g.uses) (cond b (of_view outer u) u)
    moved_by u b is c = subst (λ z. Contains (map (moved k outer) g.uses) (cond z (of_view outer u) u)) is (mapped_in (moved k outer) g.uses u c)

    of : (o : Done) → Contains E o → (b : Bool) → is_through k o ≡ b → InFound (hand_on k (Some outer) g) (cond b (uses outer (effect_of o)) o)
    of (does e) c true is = absurd (false≢true is)
    of (does e) c false is = done_found g E h (does e) c
    of (uses j e) c true is =
        let i = done_found g E h (uses j e) c in
        (of_view outer i.0, moved_by i.0 true (subst (λ z. (z == k) ≡ true) (sym i.2) is) i.1, refl, i.3)
    of (uses j e) c false is =
        let i = done_found g E h (uses j e) c in
        (i.0, moved_by i.0 false (subst (λ z. (z == k) ≡ false) (sym i.2) is) i.1, i.2, i.3)

    from : (o : Done) → Contains (after_parts k (of_part outer) E) o → InFound (hand_on k (Some outer) g) o
    from o c = let w = mapped_from (own_after k (of_part outer)) E o c in subst (InFound (hand_on k (Some outer) g)) w.2 (of w.0 w.1 (is_through k w.0) refl)

pub handed : (g : Found) (E : List Done) (k : ℕ) (source : Source) → Gathers nothing_found E g → Gathers nothing_found (after_parts k source E) (hand_on k (outer_part source) g)
handed g E k (of_array a) h = handed_to_array g E k a h
handed g E k (of_part outer) h = handed_to_part g E k outer h

-- clashes

-- the lists of effects of branches, for the checker and for the judgement
abbrev pub AllSame : List (List Effect) → List (List Done) → Type 0
AllSame [] [] = Unit {0}
AllSame [] (E ∷ Es) = ⊥
AllSame (F ∷ Fs) [] = ⊥
AllSame (F ∷ Fs) (E ∷ Es) = SameEffects F (as_effects E) × AllSame Fs Es

module _ (given : List Constraint) (nd : Option Atomic)
  where
    some_parts : (e : Effect) (fs : List Effect) → some_clashes given nd e fs ≡ false → (f : Effect) → Contains fs f → clashes given nd e f ≡ false
    some_parts e [] h f c = absurd (nothing_in f c)
    some_parts e (x ∷ fs) h f c =
        let p = or_parts (clashes given nd e x) (some_clashes given nd e fs) h in
        ⊎_elim (λ same. subst (λ z. clashes given nd e z ≡ false) same p.0) (λ later. some_parts e fs p.1 f later) (in_cases x fs f c)

    clash_parts : (es fs : List Effect) → lists_clash given nd es fs ≡ false → (e f : Effect) → Contains es e → Contains fs f → clashes given nd e f ≡ false
    clash_parts [] fs h e f c d = absurd (nothing_in e c)
    clash_parts (x ∷ es) fs h e f c d =
        let p = or_parts (some_clashes given nd x fs) (lists_clash given nd es fs) h in
        ⊎_elim (λ same. subst (λ z. clashes given nd z f ≡ false) same (some_parts x fs p.0 f d)) (λ later. clash_parts es fs p.1 e f later d) (in_cases x es e c)

    none_some : (e : Effect) (fs : List Effect) → ((f : Effect) → Contains fs f → clashes given nd e f ≡ false) → some_clashes given nd e fs ≡ false
    none_some e [] h = refl
    none_some e (x ∷ fs) h = ap (λ z. z || some_clashes given nd e fs) (h x (head_in x fs)) ∙ none_some e fs (λ f c. h f (later_in x fs f c))

    none_clash : (es fs : List Effect) → ((e f : Effect) → Contains es e → Contains fs f → clashes given nd e f ≡ false) → lists_clash given nd es fs ≡ false
    none_clash [] fs h = refl
    none_clash (x ∷ es) fs h = ap (λ z. z || lists_clash given nd es fs) (none_some x fs (λ f c. h x f (head_in x es) c)) ∙ none_clash es fs (λ e f c d. h e f (later_in x es e c) d)

    -- fewer effects clash no more
    pub clash_fewer : (es fs es' fs' : List Effect) → ((e : Effect) → Contains es' e → Contains es e) → ((f : Effect) → Contains fs' f → Contains fs f) → lists_clash given nd es fs ≡ false → lists_clash given nd es' fs' ≡ false
    clash_fewer es fs es' fs' first second h = none_clash es' fs' (λ e f c d. clash_parts es fs h e f (first e c) (second f d))

    pub iterations_fewer : (v : ℕ) (es es' : List Effect) → ((e : Effect) → Contains es' e → Contains es e) → iterations_clash given nd v es ≡ false → iterations_clash given nd v es' ≡ false
    iterations_fewer v es es' first h =
        clash_fewer es (map (renamed_effect v) es) es' (map (renamed_effect v) es') first
        (λ f c. (let w = mapped_from (renamed_effect v) es' f c in subst (λ z. Contains (map (renamed_effect v) es) z) w.2 (mapped_in (renamed_effect v) es w.0 (first w.0 w.1)))) h

    same_length : (Fs : List (List Effect)) (Es : List (List Done)) → AllSame Fs Es → length Es ≡ length Fs
    same_length [] [] h = refl
    same_length [] (E ∷ Es) h = absurd h
    same_length (F ∷ Fs) [] h = absurd h
    same_length (F ∷ Fs) (E ∷ Es) h = ap suc (same_length Fs Es h.1)

    same_at : (Fs : List (List Effect)) (Es : List (List Done)) → AllSame Fs Es → (i : ℕ) (F : List Effect) (E : List Done) → i < length Es → SameEffects (slice_index_or Fs i F) (as_effects (slice_index_or Es i E))
    same_at [] [] h i F E l = absurd (omega (arith, l))
    same_at [] (G ∷ Es) h i F E l = absurd h
    same_at (G ∷ Fs) [] h i F E l = absurd h
    same_at (G ∷ Fs) (H ∷ Es) h zero F E l = h.0
    same_at (G ∷ Fs) (H ∷ Es) h (suc i) F E l = same_at Fs Es h.1 i F E (omega (arith, l))

    -- the effects of branches of which no two interfere
    either_so : (a b : Bool) → (a || b) ≡ false → (a ≡ false) × (b ≡ false)
    either_so true b h = cc
    either_so false b h = (refl, h)

    none_interferes : (es : List Effect) (Fs : List (List Effect)) → interferes_with_some given nd es Fs ≡ false → (j : ℕ) (d : List Effect) → j < length Fs → lists_clash given nd es (slice_index_or Fs j d) ≡ false
    none_interferes es [] h j d lt = absurd (omega (arith, lt))
    none_interferes es (F ∷ Fs) h zero d lt = (either_so (lists_clash given nd es F) (interferes_with_some given nd es Fs) h).0
    none_interferes es (F ∷ Fs) h (suc j) d lt = none_interferes es Fs (either_so (lists_clash given nd es F) (interferes_with_some given nd es Fs) h).1 j d (omega (arith, lt))

    pub no_pair : (Fs : List (List Effect)) → some_interfere given nd Fs ≡ false → NoPair (λ es fs. IsTrue (lists_clash given nd es fs)) Fs
    no_pair [] h i j d order lt c = omega (arith, lt)
    no_pair (F ∷ Fs) h zero (suc j) d order lt c = false≢true (sym (none_interferes F Fs (either_so (interferes_with_some given nd F Fs) (some_interfere given nd Fs) h).0 j d (omega (arith, lt))) ∙ c)
    no_pair (F ∷ Fs) h (suc i) (suc j) d order lt c = no_pair Fs (either_so (interferes_with_some given nd F Fs) (some_interfere given nd Fs) h).1 i j d (omega (arith, order)) (omega (arith, lt)) c
    no_pair (F ∷ Fs) h i zero d order lt c = omega (arith, order)

    pub none_apart : (Fs : List (List Effect)) (Es : List (List Done)) → AllSame Fs Es → NoPair (λ es fs. IsTrue (lists_clash given nd es fs)) Fs →
        AllPairs (λ E F. lists_clash given nd (as_effects E) (as_effects F) ≡ false) Es
    none_apart Fs Es same apart i j E less within =
        let F : List Effect = [] in
        let first : i < length Es = omega (arith, less, within) in
        let within_both : j < length Fs = subst (λ z. j < z) (same_length Fs Es same) within in
        clash_fewer (slice_index_or Fs i F) (slice_index_or Fs j F) (as_effects (slice_index_or Es i E)) (as_effects (slice_index_or Es j E))
        (λ e c. (same_at Fs Es same i F E first e).1 c) (λ e c. (same_at Fs Es same j F E within e).1 c)
        (false_from_ne_true (lists_clash given nd (slice_index_or Fs i F) (slice_index_or Fs j F)) (apart i j F less within_both))

-- parts: what is done by other ways, and through a part

besides_in : (g : Found) (G : List Done) (k : ℕ) → Gathers nothing_found G g → (e : Effect) → Contains (besides_part k G) e → Contains (with_other_uses k g.effects g.uses) e
besides_in g G k h e c =
    let w = mapped_from effect_of (filter (λ o. not (is_through k o)) G) e c in
    let f = filtered_from (λ o. not (is_through k o)) G w.0 w.1 in of w.0 f.0 f.1 w.2
  where
    of : (o : Done) → Contains G o → not (is_through k o) ≡ true → effect_of o ≡ e → Contains (with_other_uses k g.effects g.uses) e
    of (does d) c t is = subst (λ z. Contains (with_other_uses k g.effects g.uses) z) is (gathered_kept g.effects (map use_effect (filter (λ u. not (is_use_of k u)) g.uses)) d (done_found g G h (does d) c))
    of (uses j d) c t is =
        let i = done_found g G h (uses j d) c in
        gathered_new g.effects (map use_effect (filter (λ u. not (is_use_of k u)) g.uses)) e
        (subst (λ z. Contains (map use_effect (filter (λ u. not (is_use_of k u)) g.uses)) z) (i.3 ∙ is)
        (mapped_in use_effect (filter (λ u. not (is_use_of k u)) g.uses) i.0 (filtered_in (λ u. not (is_use_of k u)) g.uses i.0 i.1 (subst (λ z. not (z == k) ≡ true) (sym i.2) t))))

through_in : (g : Found) (G : List Done) (k : ℕ) → Gathers nothing_found G g → (e : Effect) → Contains (through_part k G) e → Contains (with_uses_of k [] g.uses) e
through_in g G k h e c =
    let w = mapped_from effect_of (filter (is_through k) G) e c in
    let f = filtered_from (is_through k) G w.0 w.1 in of w.0 f.0 f.1 w.2
  where
    of : (o : Done) → Contains G o → is_through k o ≡ true → effect_of o ≡ e → Contains (with_uses_of k [] g.uses) e
    of (does d) c t is = absurd (false≢true t)
    of (uses j d) c t is =
        let i = done_found g G h (uses j d) c in
        gathered_new [] (map use_effect (filter (is_use_of k) g.uses)) e
        (subst (λ z. Contains (map use_effect (filter (is_use_of k) g.uses)) z) (i.3 ∙ is)
        (mapped_in use_effect (filter (is_use_of k) g.uses) i.0 (filtered_in (is_use_of k) g.uses i.0 i.1 (subst (λ z. (z == k) ≡ true) (sym i.2) t))))

pub parts_apart : (g : Found) (G : List Done) (given : List Constraint) (k var : ℕ) → Gathers nothing_found G g → parts_interfere given k var g.effects g.uses ≡ false →
    (iterations_clash given None var (besides_part k G) ≡ false) × (lists_clash given None (besides_part k G) (through_part k G) ≡ false)
parts_apart g G given k var h none =
    let p = or_parts (iterations_clash given None var (with_other_uses k g.effects g.uses)) (lists_clash given None (with_other_uses k g.effects g.uses) (with_uses_of k [] g.uses)) none in (
      iterations_fewer given None var (with_other_uses k g.effects g.uses) (besides_part k G) (besides_in g G k h) p.0,
      clash_fewer given None (with_other_uses k g.effects g.uses) (with_uses_of k [] g.uses) (besides_part k G) (through_part k G) (besides_in g G k h) (through_in g G k h) p.1,
    )
