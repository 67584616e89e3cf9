-- What asking a member does to what is kept.
use Rattle.std.proofs.Common.{◌≡◌, ◌∙◌, ◌<◌, ◌≤◌, ◌||◌, ◌⊎◌, ℕ, zero, suc, Bool, true, false, IsTrue, min, List, [], ◌∷◌, ◌++◌, map, length, Option, Some, None, Contains, slice_get, slice_set, inl, inr, ⊎_elim, refl, sym, ap, subst, arith}
use Rattle.std.specs.Option.{option_map, option_and_then}
use Rattle.std.proofs.lemmas.Option.{none-some, same_Some, slice_get-map, slice_get_within}
use Rattle.lang_base.specs.declared.effect.Access.TheVariants.{Read}
use Rattle.lang_base.specs.declared.effect.Effect.{Effect}
use Rattle.lang_base.specs.declared.region.Rpl.{Rpl}
use Rattle.lang_base.specs.Regions.{substituted}
use Rattle.lang_base.specs.Types.{PlainType}
use Rattle.lang_typed.specs.Plain.{PlainProgram, PlainClass, PlainMember}
use Rattle.lang_typed.specs.Scope.{class_at, member_at, row_at, constructor_of}
use Rattle.lang_typed.specs.Table.{body_scope}
use Rattle.lang_typed.specs.Effects.{does, effect_with}
use Rattle.body_infer.specs.declared.kept.Kept.{Kept}
use Rattle.body_infer.specs.declared.kept.Kept.TheVariants as kept
use Rattle.body_infer.specs.Kept.{Keeping, SaysOfEach, strength_of, strength_kept, item_kept, summary_kept, program_kept}
use Rattle.body_infer.specs.Doing.{seen_as, member_in, of_callee, of_constructor, constructed, effects_of_all}
use Rattle.body_infer.specs.Walked.{class_parts, summary_of, summary_in}
use Rattle.body_infer.specs.PostFixpoint.{takes, done_in, seen_below, IsAsked, by_body, by_override, IsPostFixpoint, KeepsNoMore}
use Rattle.body_infer.specs.Asked.{raised, raised_from, raised_here, raised_of, raised_in, kept_of_each, all_kept}
use Rattle.body_infer.specs.Passes.{Meets, MeetsBody, IsOverride, MeetsRow, room, Climbs, Rises}
use Rattle.body_infer.proofs.Calling.{callee_none, callee_some, callee_unknown, callee_unclassed, made_none, made_some, made_unknown, made_unclassed}
use Rattle.body_infer.proofs.Fewer.{Fewer, Weaker, Less, effect_by, fewer_none, fewer_alike, fewer_both, fewer_mapped, fewer_in, nothing_in}
use Rattle.body_infer.proofs.Growing.{Grows, block_less, effects_less}
use Rattle.body_infer.proofs.Same.{set_alike}
use Rattle.body_infer.proofs.Strength.{some_strength, raised_within, raised_meets, raised_at, raised_long, room_in_raised}

-- where something is said of each item, something is said of those of this member
pub said_at : (S : Keeping) (ms : List PlainMember) (n : ℕ) (m : PlainMember) → map length S ≡ map (λ m. length m.summary) ms → slice_get ms n ≡ Some m →
    (ks : List Kept) × (slice_get S n ≡ Some ks) × (length ks ≡ length m.summary)
said_at S [] n m e h = absurd (none-some m h)
said_at [] (first ∷ ms) n m e h = cc
said_at (ks ∷ S) (first ∷ ms) zero m e h =
    let long : length ks ≡ length first.summary = cc in
    (ks, refl, long ∙ ap (λ x. length x.summary) (same_Some first m h))
said_at (ks ∷ S) (first ∷ ms) (suc n) m e h =
    let rest : map length S ≡ map (λ m. length m.summary) ms = cc in
    said_at S ms n m rest h

-- what is left of a summary, where less is kept of each item

weaker_same : (e : Effect) → Weaker e e
weaker_same e = record { access = e.access; stronger = omega arith; is = refl }

item_less : (k l : Kept) (e : Effect) → strength_kept k e ≤ strength_kept l e → Fewer Weaker (item_kept k e) (item_kept l e)
item_less kept.Nothing l e h = tt
item_less kept.Read kept.Nothing e h = absurd (omega arith)
item_less kept.Read kept.Read e h = (inl (weaker_same (effect_by Read e)), tt)
item_less kept.Read kept.Whole e h = (inl (record { access = e.access; stronger = some_strength e.access; is = refl }), tt)
item_less kept.Whole kept.Nothing e h = absurd (omega (arith, some_strength e.access))
item_less kept.Whole kept.Read e h = (inl (record { access = Read; stronger = h; is = refl }), tt)
item_less kept.Whole kept.Whole e h = (inl (weaker_same e), tt)

pub summary_less : (ks ls : List Kept) (es : List Effect) → length ls ≡ length es →
    ((i : ℕ) (e : Effect) (k l : Kept) → slice_get es i ≡ Some e → slice_get ks i ≡ Some k → slice_get ls i ≡ Some l → strength_kept k e ≤ strength_kept l e) →
    Fewer Weaker (summary_kept ks es) (summary_kept ls es)
summary_less [] ls [] h g = tt
summary_less [] ls (e ∷ es) h g = tt
summary_less (k ∷ ks) ls [] h g = tt
summary_less (k ∷ ks) [] (e ∷ es) h g = absurd (omega arith)
summary_less (k ∷ ks) (l ∷ ls) (e ∷ es) h g =
    fewer_both Weaker (item_kept k e) (summary_kept ks es) (item_kept l e) (summary_kept ls es) (item_less k l e (g zero e k l refl refl refl))
    (summary_less ks ls es (omega arith) (λ i. g (suc i)))

with_less : (args : List Rpl) (d e : Effect) → Weaker d e → Less (does (effect_with args d)) (does (effect_with args e))
with_less args d e h = record { access = Weaker.access h; stronger = Weaker.stronger h; is = ap (λ x. does (effect_with args x)) (Weaker.is h) }

-- of one member, where the second keeping says something of each item
left_less : (P : PlainProgram) (S T : Keeping) (n : ℕ) (m : PlainMember) (ks ls : List Kept) → member_at P n ≡ Some m → slice_get S n ≡ Some ks → slice_get T n ≡ Some ls → length ls ≡ length m.summary →
    KeepsNoMore P S T → Fewer Weaker (summary_kept ks m.summary) (summary_kept ls m.summary)
left_less P S T n m ks ls is e g long h = summary_less ks ls m.summary long (λ i item k l a b c. h n i m ks ls item k l is e g a b c)

callee_less : (P : PlainProgram) (S T : Keeping) (n : ℕ) (m : PlainMember) (args : List Rpl) → member_at P n ≡ Some m → SaysOfEach P T → KeepsNoMore P S T →
    Fewer Less (summary_in S n m.summary args) (summary_in T n m.summary args)
callee_less P S T n m args is says h = by (slice_get S n) refl
  where
    by : (o : Option (List Kept)) → slice_get S n ≡ o → Fewer Less (summary_of o m.summary args) (summary_in T n m.summary args)
    by None e = tt
    by (Some ks) e =
        let w = said_at T P.members n m says is in
        subst (λ o. Fewer Less (summary_of (Some ks) m.summary args) (summary_of o m.summary args)) (sym w.1)
        (fewer_mapped Weaker Less (λ d. does (effect_with args d)) (with_less args) (summary_kept ks m.summary) (summary_kept w.0 m.summary) (left_less P S T n m ks w.0 is e w.1 w.2 h))

call_less : (P : PlainProgram) (S T : Keeping) → SaysOfEach P T → KeepsNoMore P S T → (t : PlainType) (row : Option ℕ) (regions : List Rpl) →
    Fewer Less (of_callee (program_kept S P) t (member_in (program_kept S P) row) regions) (of_callee (program_kept T P) t (member_in (program_kept T P) row) regions)
call_less P S T says h t None regions =
    fewer_none Less (of_callee (program_kept S P) t None regions) (of_callee (program_kept T P) t None regions) (callee_unknown (program_kept S P) t regions)
call_less P S T says h t (Some n) regions = by (member_at P n) (class_parts t) refl refl
  where
    by : (o : Option PlainMember) (parts : Option (ℕ × List Rpl)) → member_at P n ≡ o → class_parts t ≡ parts →
        Fewer Less (of_callee (program_kept S P) t (member_in (program_kept S P) (Some n)) regions) (of_callee (program_kept T P) t (member_in (program_kept T P) (Some n)) regions)
    by None parts e g =
        fewer_none Less (of_callee (program_kept S P) t (member_in (program_kept S P) (Some n)) regions) (of_callee (program_kept T P) t (member_in (program_kept T P) (Some n)) regions)
        (callee_none S P t n (Some n) regions refl e)
    by (Some m) None e g =
        fewer_none Less (of_callee (program_kept S P) t (member_in (program_kept S P) (Some n)) regions) (of_callee (program_kept T P) t (member_in (program_kept T P) (Some n)) regions)
        (callee_unclassed (program_kept S P) t (member_in (program_kept S P) (Some n)) regions g)
    by (Some m) (Some ca) e g =
        fewer_alike Less (of_callee (program_kept S P) t (member_in (program_kept S P) (Some n)) regions) (summary_in S n m.summary (seen_as P ca.0 ca.1 m.class ++ regions))
        (of_callee (program_kept T P) t (member_in (program_kept T P) (Some n)) regions) (summary_in T n m.summary (seen_as P ca.0 ca.1 m.class ++ regions))
        (callee_some S P t n ca.0 (Some n) m ca.1 regions refl e g) (callee_some T P t n ca.0 (Some n) m ca.1 regions refl e g)
        (callee_less P S T n m (seen_as P ca.0 ca.1 m.class ++ regions) e says h)

creation_less : (P : PlainProgram) (S T : Keeping) → SaysOfEach P T → KeepsNoMore P S T → (t : PlainType) →
    Fewer Less (of_constructor t (constructed (program_kept S P) t)) (of_constructor t (constructed (program_kept T P) t))
creation_less P S T says h t = by_class (class_parts t) refl
  where
    by_member : (c n : ℕ) (args : List Rpl) (o : Option PlainMember) → class_parts t ≡ Some (c, args) → constructor_of P c ≡ Some n → member_at P n ≡ o →
        Fewer Less (of_constructor t (constructed (program_kept S P) t)) (of_constructor t (constructed (program_kept T P) t))
    by_member c n args None g e is =
        fewer_none Less (of_constructor t (constructed (program_kept S P) t)) (of_constructor t (constructed (program_kept T P) t)) (made_none S P t n c args g e is)
    by_member c n args (Some m) g e is =
        fewer_alike Less (of_constructor t (constructed (program_kept S P) t)) (summary_in S n m.summary args)
        (of_constructor t (constructed (program_kept T P) t)) (summary_in T n m.summary args)
        (made_some S P t n c m args g e is) (made_some T P t n c m args g e is) (callee_less P S T n m args is says h)

    by_number : (c : ℕ) (args : List Rpl) (o : Option ℕ) → class_parts t ≡ Some (c, args) → constructor_of P c ≡ o →
        Fewer Less (of_constructor t (constructed (program_kept S P) t)) (of_constructor t (constructed (program_kept T P) t))
    by_number c args None g e =
        fewer_none Less (of_constructor t (constructed (program_kept S P) t)) (of_constructor t (constructed (program_kept T P) t)) (made_unknown (program_kept S P) t c args g e)
    by_number c args (Some n) g e = by_member c n args (member_at P n) g e refl

    by_class : (parts : Option (ℕ × List Rpl)) → class_parts t ≡ parts →
        Fewer Less (of_constructor t (constructed (program_kept S P) t)) (of_constructor t (constructed (program_kept T P) t))
    by_class None g =
        fewer_none Less (of_constructor t (constructed (program_kept S P) t)) (of_constructor t (constructed (program_kept T P) t)) (made_unclassed (program_kept S P) t g)
    by_class (Some ca) g = by_number ca.0 ca.1 (constructor_of P ca.0) g refl

pub grown : (P : PlainProgram) (S T : Keeping) → SaysOfEach P T → KeepsNoMore P S T → Grows (program_kept S P) (program_kept T P)
grown P S T says h = record {
  field = λ t c k access. refl;
  callee = λ t c r regions. call_less P S T says h t (row_at P c r) regions;
  constructor = creation_less P S T says h;
}

-- a body does less
pub body_less : (P : PlainProgram) (S T : Keeping) (k : PlainClass) (m : PlainMember) → SaysOfEach P T → KeepsNoMore P S T → Fewer Weaker (done_in P S k m) (done_in P T k m)
body_less P S T k m says h =
    effects_less (effects_of_all (program_kept S P) (body_scope k (λ x. false) 0 m) m.body) (effects_of_all (program_kept T P) (body_scope k (λ x. false) 0 m) m.body)
    (block_less (program_kept S P) (program_kept T P) (body_scope k (λ x. false) 0 m) (grown P S T says h) m.body)

-- what is asked where less is kept, is asked, and more, where more is kept

abbrev Asks : PlainProgram → Keeping → ℕ → PlainMember → (Effect → Effect) → List Effect → Type 0
Asks P T n m seen ds = (d : Effect) → Contains ds d → (e : Effect) × IsAsked P T n m seen e × Weaker d e

body_asks : (P : PlainProgram) (S T : Keeping) (n : ℕ) (m : PlainMember) (k : PlainClass) → class_at P m.class ≡ Some k → SaysOfEach P T → KeepsNoMore P S T →
    Asks P T n m (λ e. e) (done_in P S k m)
body_asks P S T n m k is says h = λ d c.
    let w = fewer_in Weaker (done_in P S k m) (done_in P T k m) d (body_less P S T k m says h) c in
    (w.0, by_body k w.0 is w.1, w.2)

row_asks : (P : PlainProgram) (S T : Keeping) (c r n j : ℕ) (k : PlainClass) (m over : PlainMember) → IsOverride P c r n j k m over → SaysOfEach P T → KeepsNoMore P S T →
    Asks P T n m (effect_with (seen_below P c k m)) (all_kept S P j)
row_asks P S T c r n j k m over is says h = by (slice_get S j) (member_at P j) refl (IsOverride.own is)
  where
    by : (o : Option (List Kept)) (q : Option PlainMember) → slice_get S j ≡ o → q ≡ Some over → Asks P T n m (effect_with (seen_below P c k m)) (kept_of_each o q)
    by None q e g = λ d x. absurd (nothing_in d x)
    by (Some ks) None e g = absurd (none-some over g)
    by (Some ks) (Some q) e g = λ d x.
        let same : Contains (summary_kept ks over.summary) d = subst (λ v. Contains (summary_kept ks v.summary) d) (same_Some q over g) x in
        let said = said_at T P.members j over says (IsOverride.own is) in
        let less = left_less P S T j over ks said.0 (IsOverride.own is) e said.1 said.2 h in
        let w = fewer_in Weaker (summary_kept ks over.summary) (summary_kept said.0 over.summary) d less same in
        (w.0, by_override c r j k (IsOverride.parent is) over said.0 w.0 (IsOverride.class is) (IsOverride.extends is) (IsOverride.above is) (IsOverride.row is) (IsOverride.own is) (IsOverride.here is) said.1 w.1, w.2)

-- raising a member

set_cases : {A : Type 0} (S : List A) (n i : ℕ) (x y : A) → slice_get (slice_set S n x) i ≡ Some y → ((i ≡ n) × (y ≡ x)) ⊎ (slice_get S i ≡ Some y)
set_cases [] n i x y h = inr h
set_cases (z ∷ S) zero zero x y h = inl (refl, sym (same_Some x y h))
set_cases (z ∷ S) zero (suc i) x y h = inr h
set_cases (z ∷ S) (suc n) zero x y h = inr h
set_cases (z ∷ S) (suc n) (suc i) x y h = ⊎_elim (λ w. inl (ap suc w.0, w.1)) (λ w. inr w) (set_cases S n i x y h)

set_there : {A : Type 0} (S : List A) (n : ℕ) (x y : A) → slice_get S n ≡ Some y → slice_get (slice_set S n x) n ≡ Some x
set_there [] n x y h = absurd (none-some y h)
set_there (z ∷ S) zero x y h = refl
set_there (z ∷ S) (suc n) x y h = set_there S n x y h

abbrev places_by : (Effect → Effect) → List Effect → List Rpl
places_by seen es = map (λ e. (seen e).rpl) es

-- how an item is seen changes its place alone
abbrev SeesMarks : (Effect → Effect) → Type 0
SeesMarks seen = (e d : Effect) → takes (record e { rpl = (seen e).rpl }) d ≡ takes (seen e) d

place_there : (seen : Effect → Effect) (es : List Effect) (i : ℕ) (e : Effect) → slice_get es i ≡ Some e → slice_get (places_by seen es) i ≡ Some (seen e).rpl
place_there seen es i e h = slice_get-map (λ x. (seen x).rpl) es i ∙ ap (option_map (λ x. (seen x).rpl)) h

-- what is kept of an item that was raised, by its old state
item_raised : (seen : Effect → Effect) (es ds : List Effect) (old : List Kept) (i : ℕ) (item : Effect) (k : Kept) → slice_get es i ≡ Some item → slice_get (raised_from 0 es (places_by seen es) ds old) i ≡ Some k →
    (was : Kept) × (slice_get old i ≡ Some was) × (k ≡ raised item (seen item).rpl ds was)
item_raised seen es ds old i item k e h =
    let w = raised_at 0 i i es (places_by seen es) ds old k (omega arith) h in
    (w.0, w.1, w.2 ∙ ap (λ x. raised_here x (slice_get (places_by seen es) i) ds w.0) e ∙ ap (λ x. raised_here (Some item) x ds w.0) (place_there seen es i item e))

asked_within : (P : PlainProgram) (T : Keeping) (n i : ℕ) (m : PlainMember) (seen : Effect → Effect) (ls : List Kept) (item d e : Effect) (l : Kept) → SeesMarks seen → IsPostFixpoint P T →
    member_at P n ≡ Some m → slice_get T n ≡ Some ls → slice_get m.summary i ≡ Some item → slice_get ls i ≡ Some l → IsAsked P T n m seen e → Weaker d e →
    IsTrue (takes (record item { rpl = (seen item).rpl }) d) → min (strength_of d.access) (strength_of item.access) ≤ strength_kept l item
asked_within P T n i m seen ls item d e l marks post_fixpoint is g a b asked weak t =
    let known : IsTrue (takes (seen item) e) = subst (λ x. IsTrue (takes (seen item) x)) (sym (Weaker.is weak)) (sym (marks item d) ∙ t) in
    let kept : min (strength_of e.access) (strength_of item.access) ≤ strength_kept l item = post_fixpoint n i m ls item e l seen is g asked a b known in
    let access : strength_of e.access ≡ strength_of (Weaker.access weak) = ap (λ x. strength_of x.access) (Weaker.is weak) in
    let stronger : strength_of d.access ≤ strength_of (Weaker.access weak) = Weaker.stronger weak in
    omega arith

raised_below : (P : PlainProgram) (S T : Keeping) (n : ℕ) (m : PlainMember) (seen : Effect → Effect) (ds : List Effect) → SeesMarks seen → member_at P n ≡ Some m → IsPostFixpoint P T → Asks P T n m seen ds →
    KeepsNoMore P S T → KeepsNoMore P (raised_in S n m.summary (places_by seen m.summary) ds) T
raised_below P S T n m seen ds marks is post_fixpoint asks h = by (slice_get S n) refl
  where
    by : (o : Option (List Kept)) → slice_get S n ≡ o → KeepsNoMore P (raised_of S n m.summary (places_by seen m.summary) ds o) T
    by None e = h
    by (Some old) e = λ v i q ks ls item k l there a b c f g.
        ⊎_elim
        (λ w.
        let same : q ≡ m = same_Some q m (sym there ∙ ap (member_at P) w.0 ∙ is) in
        let c' : slice_get m.summary i ≡ Some item = ap (λ x. slice_get x.summary i) (sym same) ∙ c in
        let b' : slice_get T n ≡ Some ls = ap (slice_get T) (sym w.0) ∙ b in
        let r = item_raised seen m.summary ds old i item k c' (ap (λ x. slice_get x i) (sym w.1) ∙ f) in
        let below : strength_kept r.0 item ≤ strength_kept l item = h n i m old ls item r.0 l is e b' c' r.1 g in
        subst (λ x. strength_kept x item ≤ strength_kept l item) (sym r.2)
        (raised_within item (seen item).rpl ds r.0 (strength_kept l item) below
        (λ d x t. (let y = asks d x in asked_within P T n i m seen ls item d y.0 l marks post_fixpoint is b' c' g y.1 y.2 t))))
        (λ other. h v i q ks ls item k l there other b c f g)
        (set_cases S n v (raised_from 0 m.summary (places_by seen m.summary) ds old) ks a)

raised_post_fixpoint : (S : Keeping) (n : ℕ) (m : PlainMember) (seen : Effect → Effect) (ds : List Effect) → SeesMarks seen → raised_in S n m.summary (places_by seen m.summary) ds ≡ S → Meets S n m seen ds
raised_post_fixpoint S n m seen ds marks still = λ i ks item d k a b c x t.
    let new = raised_from 0 m.summary (places_by seen m.summary) ds ks in
    let set : slice_set S n new ≡ S = ap (raised_of S n m.summary (places_by seen m.summary) ds) (sym a) ∙ still in
    let same : new ≡ ks = same_Some new ks (sym (set_there S n new ks a) ∙ ap (λ U. slice_get U n) set ∙ a) in
    let r = item_raised seen m.summary ds ks i item k b (ap (λ y. slice_get y i) same ∙ c) in
    let was : r.0 ≡ k = same_Some r.0 k (sym r.1 ∙ c) in
    raised_meets item (seen item).rpl ds k d (r.2 ∙ ap (raised item (seen item).rpl ds) was) x (marks item d ∙ t)

raised_alike : (S : Keeping) (n : ℕ) (items : List Effect) (places : List Rpl) (ds : List Effect) → map length (raised_in S n items places ds) ≡ map length S
raised_alike S n items places ds = by (slice_get S n) refl
  where
    by : (o : Option (List Kept)) → slice_get S n ≡ o → map length (raised_of S n items places ds o) ≡ map length S
    by None e = refl
    by (Some ks) e = set_alike S n ks (raised_from 0 items places ds ks) e (raised_long 0 items places ds ks)

raised_rises : (P : PlainProgram) (S T : Keeping) (n : ℕ) (m : PlainMember) (seen : Effect → Effect) (ds : List Effect) (risen : Bool) → SeesMarks seen → member_at P n ≡ Some m →
    ((L : Keeping) → SaysOfEach P L → KeepsNoMore P S L → Asks P L n m seen ds) →
    T ≡ raised_in S n m.summary (places_by seen m.summary) ds → (risen ≡ false → T ≡ S) → (risen ≡ true → T ≡ S → ⊥) → Rises P S T risen
raised_rises P S T n m seen ds risen marks is asks new still moved = record {
  climbs = record {
    same = ap (map length) new ∙ raised_alike S n m.summary (places_by seen m.summary) ds;
    below = λ L says post_fixpoint h. subst (λ U. KeepsNoMore P U L) (sym new) (raised_below P S L n m seen ds marks is post_fixpoint (asks L says h) h);
  };
  still = still;
  less = λ e. ⊎_elim (λ i. absurd (moved e (new ∙ i))) (λ l. subst (λ U. room U < room S) (sym new) l) (room_in_raised S n m.summary (places_by seen m.summary) ds);
}

pub body_rises : (P : PlainProgram) (S T : Keeping) (n : ℕ) (m : PlainMember) (k : PlainClass) (risen : Bool) → member_at P n ≡ Some m → class_at P m.class ≡ Some k →
    T ≡ raised_in S n m.summary (map (λ e. e.rpl) m.summary) (done_in P S k m) → (risen ≡ false → T ≡ S) → (risen ≡ true → T ≡ S → ⊥) → Rises P S T risen
body_rises P S T n m k risen is of new still moved =
    raised_rises P S T n m (λ e. e) (done_in P S k m) risen (λ e d. refl) is (λ L says h. body_asks P S L n m k of says h) new still moved

pub row_rises : (P : PlainProgram) (S T : Keeping) (c r n j : ℕ) (k : PlainClass) (m over : PlainMember) (risen : Bool) → IsOverride P c r n j k m over →
    T ≡ raised_in S n m.summary (map (λ e. substituted (seen_below P c k m) e.rpl) m.summary) (all_kept S P j) → (risen ≡ false → T ≡ S) → (risen ≡ true → T ≡ S → ⊥) → Rises P S T risen
row_rises P S T c r n j k m over risen is new still moved =
    raised_rises P S T n m (effect_with (seen_below P c k m)) (all_kept S P j) risen (λ e d. refl) (IsOverride.member is) (λ L says h. row_asks P S L c r n j k m over is says h) new still moved

-- where nothing rose, what was asked for is kept

pub body_met : (P : PlainProgram) (S T : Keeping) (n : ℕ) (m : PlainMember) (k : PlainClass) → member_at P n ≡ Some m → class_at P m.class ≡ Some k →
    T ≡ raised_in S n m.summary (map (λ e. e.rpl) m.summary) (done_in P S k m) → T ≡ S → MeetsBody P T n
body_met P S T n m k is of new still = λ q l there this.
    let same : m ≡ q = same_Some m q (sym is ∙ there) in
    let this' : class_at P m.class ≡ Some l = ap (λ x. class_at P x.class) same ∙ this in
    let alike : k ≡ l = same_Some k l (sym of ∙ this') in
    let met : Meets S n m (λ e. e) (done_in P S k m) = raised_post_fixpoint S n m (λ e. e) (done_in P S k m) (λ e d. refl) (sym new ∙ still) in
    subst (λ U. Meets U n q (λ e. e) (done_in P U l q)) (sym still) (subst (λ x. Meets S n q (λ e. e) (done_in P S x q)) alike (subst (λ x. Meets S n x (λ e. e) (done_in P S k x)) same met))

pub row_met : (P : PlainProgram) (S T : Keeping) (c r n j : ℕ) (k : PlainClass) (m over : PlainMember) → IsOverride P c r n j k m over →
    T ≡ raised_in S n m.summary (map (λ e. substituted (seen_below P c k m) e.rpl) m.summary) (all_kept S P j) → T ≡ S → MeetsRow P T c r
row_met P S T c r n j k m over is new still = λ v i l q other there.
    let class : k ≡ l = same_Some k l (sym (IsOverride.class is) ∙ IsOverride.class there) in
    let parent : IsOverride.parent is ≡ IsOverride.parent there =
    same_Some (IsOverride.parent is) (IsOverride.parent there) (sym (IsOverride.extends is) ∙ ap (λ x. x.parent) class ∙ IsOverride.extends there) in
    let above : n ≡ v = same_Some n v (sym (IsOverride.above is) ∙ ap (λ x. row_at P x.class r) parent ∙ IsOverride.above there) in
    let row : j ≡ i = same_Some j i (sym (IsOverride.row is) ∙ IsOverride.row there) in
    let member : m ≡ q = same_Some m q (sym (IsOverride.member is) ∙ ap (member_at P) above ∙ IsOverride.member there) in
    let met : Meets S n m (effect_with (seen_below P c k m)) (all_kept S P j) = raised_post_fixpoint S n m (effect_with (seen_below P c k m)) (all_kept S P j) (λ e d. refl) (sym new ∙ still) in
    subst (λ U. Meets U v q (effect_with (seen_below P c l q)) (all_kept U P i)) (sym still)
    (subst (λ x. Meets S v q (effect_with (seen_below P c l q)) (all_kept S P x)) row
    (subst (λ x. Meets S v q (effect_with (seen_below P c x q)) (all_kept S P j)) class
    (subst (λ x. Meets S v x (effect_with (seen_below P c k x)) (all_kept S P j)) member
    (subst (λ x. Meets S x m (effect_with (seen_below P c k m)) (all_kept S P j)) above met))))

-- one step, none, and two

pub climbs_none : (P : PlainProgram) (S : Keeping) → Climbs P S S
climbs_none P S = record { same = refl; below = λ L says post_fixpoint h. h }

pub climbs_then : (P : PlainProgram) (S T U : Keeping) → Climbs P S T → Climbs P T U → Climbs P S U
climbs_then P S T U h g = record { same = Climbs.same g ∙ Climbs.same h; below = λ L says post_fixpoint i. Climbs.below g L says post_fixpoint (Climbs.below h L says post_fixpoint i) }

pub climbs_rising : (P : PlainProgram) (S T U : Keeping) (risen : Bool) → Climbs P S T → Rises P T U risen → Climbs P S U
climbs_rising P S T U risen h g = climbs_then P S T U h (Rises.climbs g)

pub rises_none : (P : PlainProgram) (S : Keeping) → Rises P S S false
rises_none P S = record { climbs = climbs_none P S; still = λ e. refl; less = λ e. cc }

pub rises_both : (P : PlainProgram) (S T U : Keeping) (a b : Bool) → Rises P S T a → Rises P T U b → Rises P S U (a || b)
rises_both P S T U true true h g = record {
  climbs = climbs_then P S T U (Rises.climbs h) (Rises.climbs g);
  still = λ e. cc;
  less = λ e. (let x = Rises.less h refl in let y = Rises.less g refl in omega (arith, x, y));
}
rises_both P S T U true false h g = record {
  climbs = climbs_then P S T U (Rises.climbs h) (Rises.climbs g);
  still = λ e. cc;
  less = λ e. subst (λ V. room V < room S) (sym (Rises.still g refl)) (Rises.less h refl);
}
rises_both P S T U false true h g = record {
  climbs = climbs_then P S T U (Rises.climbs h) (Rises.climbs g);
  still = λ e. cc;
  less = λ e. subst (λ V. room U < room V) (Rises.still h refl) (Rises.less g refl);
}
rises_both P S T U false false h g = record {
  climbs = climbs_then P S T U (Rises.climbs h) (Rises.climbs g);
  still = λ e. Rises.still g refl ∙ Rises.still h refl;
  less = λ e. cc;
}

pub neither : (a b : Bool) → (a || b) ≡ false → (a ≡ false) × (b ≡ false)
neither true b e = cc
neither false b e = (refl, e)

pub risen_before : (a b risen : Bool) → a ≡ true → risen ≡ a → risen ≡ (a || b)
risen_before true b risen e g = g
risen_before false b risen e g = cc

pub risen_now : (a b risen : Bool) → a ≡ false → risen ≡ b → risen ≡ (a || b)
risen_now true b risen e g = cc
risen_now false b risen e g = g

-- members, rows and classes that aren't there ask for nothing

pub bodies_all : (P : PlainProgram) (S : Keeping) (end : ℕ) → length P.members ≤ end → ((n : ℕ) → n < end → MeetsBody P S n) → (n : ℕ) → MeetsBody P S n
bodies_all P S end all met = λ n m k is of. let below = slice_get_within P.members n m is in met n (omega (arith, below)) m k is of

pub rows_all : (P : PlainProgram) (S : Keeping) (c end : ℕ) (k : PlainClass) → class_at P c ≡ Some k → length k.rows ≤ end → ((r : ℕ) → r < end → MeetsRow P S c r) → (r : ℕ) → MeetsRow P S c r
rows_all P S c end k is all met = λ r n j l m over there.
    let same : slice_get k.rows r ≡ Some j = sym (ap (option_and_then (λ class. slice_get class.rows r)) is) ∙ IsOverride.row there in
    let below = slice_get_within k.rows r j same in
    met r (omega (arith, below)) n j l m over there

pub classes_all : (P : PlainProgram) (S : Keeping) (end : ℕ) → length P.classes ≤ end → ((c r : ℕ) → c < end → MeetsRow P S c r) → (c r : ℕ) → MeetsRow P S c r
classes_all P S end all met = λ c r n j k m over there.
    let below = slice_get_within P.classes c k (IsOverride.class there) in
    met c r (omega (arith, below)) n j k m over there

-- where all is kept that bodies and overriding members ask for, that is post_fixpoint

asked_met : (P : PlainProgram) (S : Keeping) (n : ℕ) (m : PlainMember) (seen : Effect → Effect) (d : Effect) → ((v : ℕ) → MeetsBody P S v) → ((c r : ℕ) → MeetsRow P S c r) → member_at P n ≡ Some m →
    IsAsked P S n m seen d → (ds : List Effect) × Contains ds d × Meets S n m seen ds
asked_met P S n m _ _ bodies rows is (by_body k d of x) = (done_in P S k m, x, bodies n m k is of)
asked_met P S n m _ _ bodies rows is (by_override c r j k p over ks d a b e f g h i x) =
    let kept : summary_kept ks over.summary ≡ all_kept S P j = ap (λ o. kept_of_each o (Some over)) (sym i) ∙ ap (kept_of_each (slice_get S j)) (sym g) in
    (all_kept S P j, subst (λ ds. Contains ds d) kept x, rows c r n j k m over (record { class = a; parent = p; extends = b; above = e; row = f; member = is; own = g; here = h }))

pub post_fixpoint_of : (P : PlainProgram) (S : Keeping) → ((n : ℕ) → MeetsBody P S n) → ((c r : ℕ) → MeetsRow P S c r) → IsPostFixpoint P S
post_fixpoint_of P S bodies rows = λ n i m ks item d kept seen is a asked b c t.
    let w = asked_met P S n m seen d bodies rows is asked in
    w.2 i ks item d kept a b c w.1 t
