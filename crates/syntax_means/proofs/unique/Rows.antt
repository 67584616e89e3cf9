-- A class has one row of each name, and stands below another in one way.
use Rattle.std.proofs.Common.{◌≡◌, ◌∙◌, ◌⊎◌, ℕ, zero, suc, ◌+◌, ◌<◌, ◌≤◌, ◌==◌, Bool, true, false, cond, List, [], ◌∷◌, ◌++◌, length, map, slice_set, inl, inr, Option, Some, None, option_map, refl, ap, sym, subst, arith}
use Rattle.std.proofs.lemmas.Bool.{eq-eqb, eqb-true}
use Rattle.std.proofs.lemmas.Option.{slice_get_within}
use Rattle.std.specs.List.{position_from}
use Rattle.std.specs.Option.{option_map_or}
use Rattle.std.specs.Prelude.{slice_get}
use Rattle.lang_base.specs.declared.region.Rpl.{Rpl}
use Rattle.lang_base.specs.Regions.{substituted}
use Rattle.syntax_tree.specs.declared.class.Class.{Class}
use Rattle.syntax_tree.specs.declared.class.Method.{Method}
use Rattle.syntax_tree.specs.declared.class.MethodResult.{MethodResult}
use Rattle.syntax_tree.specs.declared.class.MethodResult.TheVariants as outcome
use Rattle.syntax_tree.specs.declared.class.Program.{Program}
use Rattle.lang_typed.specs.Plain.{PlainProgram, PlainClass, PlainParent}
use Rattle.lang_typed.specs.Scope.{Above, class_at, parent_of, row_at}
use Rattle.lang_typed.specs.WellTyped.{WellTyped}
use Rattle.syntax_means.specs.Declares.{OwnMethod, all_methods, method_name}
use Rattle.syntax_means.specs.Means.{Means, in_row, row_named, rows_above, with_method, with_methods}
use Rattle.syntax_means.proofs.unique.Lists.{some_same, both_some, and_then_there, there}

-- where the first of a list that passes a test stands, and where none does

position_none : {A : Type 0} (test : A → Bool) (at : ℕ) (xs : List A) → position_from test at xs ≡ None → (i : ℕ) (x : A) → slice_get xs i ≡ Some x → test x ≡ true → ⊥
position_none test at [] none i x e t = cc
position_none {A} test at (y ∷ xs) none i x e t = by (test y) refl none i e (position_none test (at + 1) xs)
  where
    by : (b : Bool) → test y ≡ b → cond b (Some at) (position_from test (at + 1) xs) ≡ None → (i : ℕ) → slice_get (y ∷ xs) i ≡ Some x →
        (position_from test (at + 1) xs ≡ None → (j : ℕ) (z : A) → slice_get xs j ≡ Some z → test z ≡ true → ⊥) → ⊥
    by true is h i d more = cc
    by false is h zero d more = let same = ap test (some_same d) in cc (is, same, t)
    by false is h (suc j) d more = more h j x d t

record Found {A : Type 0} (test : A → Bool) (at : ℕ) (xs : List A) (r : ℕ) : Type 0 where
  place : ℕ
  so : r ≡ at + place
  element : A
  there : slice_get xs place ≡ Some element
  passes : test element ≡ true

position_some : {A : Type 0} (test : A → Bool) (at : ℕ) (xs : List A) (r : ℕ) → position_from test at xs ≡ Some r → Found test at xs r
position_some test at [] r e = cc
position_some {A} test at (y ∷ xs) r e = by (test y) refl e (position_some test (at + 1) xs r)
  where
    by : (b : Bool) → test y ≡ b → cond b (Some at) (position_from test (at + 1) xs) ≡ Some r → (position_from test (at + 1) xs ≡ Some r → Found test (at + 1) xs r) → Found test at (y ∷ xs) r
    by true is h more = let same = some_same h in record { place = 0; so = omega (arith, same); element = y; there = refl; passes = is }
    by false is h more =
        let w = more h in
        let on = w.so in
        record { place = suc w.place; so = omega (arith, on); element = w.element; there = w.there; passes = w.passes }

-- what a list has after a change
set_from : (xs : List ℕ) (at value r m : ℕ) → slice_get (slice_set xs at value) r ≡ Some m → (slice_get xs r ≡ Some m) ⊎ ((r ≡ at) × (m ≡ value))
set_from [] at value r m e = inl e
set_from (x ∷ xs) zero value zero m e = inr (refl, sym (some_same e))
set_from (x ∷ xs) zero value (suc r) m e = inl e
set_from (x ∷ xs) (suc at) value zero m e = inl e
set_from (x ∷ xs) (suc at) value (suc r) m e =
    elim (set_from xs at value r m e) [
      | inl old ↦ inl old
      | inr new ↦ inr (ap suc new.0, new.1)
    ]

pushed_from : (xs : List ℕ) (value r m : ℕ) → slice_get (xs ++ value ∷ []) r ≡ Some m → (slice_get xs r ≡ Some m) ⊎ ((r ≡ length xs) × (m ≡ value))
pushed_from [] value zero m e = inr (refl, sym (some_same e))
pushed_from [] value (suc r) m e = cc
pushed_from (x ∷ xs) value zero m e = inl e
pushed_from (x ∷ xs) value (suc r) m e =
    elim (pushed_from xs value r m e) [
      | inl old ↦ inl old
      | inr new ↦ inr (ap suc new.0, new.1)
    ]

module _ (tree : Program)
  where
    abbrev IsNamed : ℕ → ℕ → Bool
    IsNamed name n = option_map_or (λ m. m == name) (method_name tree n) false

    named_passes : (name n : ℕ) → method_name tree n ≡ Some name → IsNamed name n ≡ true
    named_passes name n e = ap (λ (o : Option ℕ). option_map_or (λ m. m == name) o false) e ∙ eq-eqb name name refl

    passes_named : (name n : ℕ) → IsNamed name n ≡ true → method_name tree n ≡ Some name
    passes_named name n e = by (method_name tree n) e
      where
        by : (o : Option ℕ) → option_map_or (λ m. m == name) o false ≡ true → o ≡ Some name
        by None h = cc
        by (Some m) h = ap Some (eqb-true m name h)

    -- no two rows have one name
    abbrev NamedOnce : List ℕ → Type 0
    NamedOnce rows = (i j m n name : ℕ) → slice_get rows i ≡ Some m → slice_get rows j ≡ Some n → method_name tree m ≡ Some name → method_name tree n ≡ Some name → i ≡ j

    set_once : (rows : List ℕ) (r value name x : ℕ) → method_name tree value ≡ Some name → slice_get rows r ≡ Some x → method_name tree x ≡ Some name → NamedOnce rows → NamedOnce (slice_set rows r value)
    set_once rows r value name x named at same once i j m n other e d f g = by (set_from rows r value i m e) (set_from rows r value j n d)
      where
        is : (a : ℕ) → a ≡ value → method_name tree a ≡ Some other → name ≡ other
        is a so h = both_some named (ap (method_name tree) (sym so) ∙ h)

        by : (slice_get rows i ≡ Some m) ⊎ ((i ≡ r) × (m ≡ value)) → (slice_get rows j ≡ Some n) ⊎ ((j ≡ r) × (n ≡ value)) → i ≡ j
        by (inl h) (inl k) = once i j m n other h k f g
        by (inl h) (inr k) = once i r m x other h at f (same ∙ ap Some (is n k.1 g)) ∙ sym k.0
        by (inr h) (inl k) = h.0 ∙ once r j x n other at k (same ∙ ap Some (is m h.1 f)) g
        by (inr h) (inr k) = h.0 ∙ sym k.0

    pushed_once : (rows : List ℕ) (value name : ℕ) → method_name tree value ≡ Some name → ((i x : ℕ) → slice_get rows i ≡ Some x → method_name tree x ≡ Some name → ⊥) → NamedOnce rows →
        NamedOnce (rows ++ value ∷ [])
    pushed_once rows value name named new once i j m n other e d f g = by (pushed_from rows value i m e) (pushed_from rows value j n d)
      where
        is : (a : ℕ) → a ≡ value → method_name tree a ≡ Some other → other ≡ name
        is a so h = both_some h (ap (method_name tree) so ∙ named)

        by : (slice_get rows i ≡ Some m) ⊎ ((i ≡ length rows) × (m ≡ value)) → (slice_get rows j ≡ Some n) ⊎ ((j ≡ length rows) × (n ≡ value)) → i ≡ j
        by (inl h) (inl k) = once i j m n other h k f g
        by (inl h) (inr k) = absurd (new i m h (f ∙ ap Some (is n k.1 g)))
        by (inr h) (inl k) = absurd (new j n k (g ∙ ap Some (is m h.1 f)))
        by (inr h) (inr k) = h.0 ∙ sym k.0

    in_row_once : (n name : ℕ) (rows : List ℕ) → method_name tree n ≡ Some name → NamedOnce rows → NamedOnce (in_row n (row_named tree name rows) rows)
    in_row_once n name rows named once = by (row_named tree name rows) refl
      where
        by : (o : Option ℕ) → row_named tree name rows ≡ o → NamedOnce (in_row n o rows)
        by None e = pushed_once rows n name named (λ i x h k. position_none (IsNamed name) 0 rows e i x h (named_passes name x k)) once
        by (Some r) e =
            let w = position_some (IsNamed name) 0 rows r e in
            let so = w.so in
            let same : w.place ≡ r = omega (arith, so) in
            set_once rows r n name w.element named (subst (λ k. slice_get rows k ≡ Some w.element) same w.there) (passes_named name w.element w.passes) once

    with_method_once : (n : ℕ) (method : Method) (result : MethodResult) (rows : List ℕ) → method_name tree n ≡ Some method.name → NamedOnce rows → NamedOnce (with_method tree n method result rows)
    with_method_once n method outcome.Constructor rows named once = once
    with_method_once n method outcome.Void rows named once = in_row_once n method.name rows named once
    with_method_once n method (outcome.Value kind) rows named once = in_row_once n method.name rows named once

    methods_once : (c n : ℕ) (more : List OwnMethod) (rows : List ℕ) → ((i : ℕ) (own : OwnMethod) → slice_get more i ≡ Some own → slice_get (all_methods tree) (n + i) ≡ Some own) → NamedOnce rows →
        NamedOnce (with_methods tree c n more rows)
    methods_once c n [] rows stands once = once
    methods_once c n (own ∷ more) rows stands once =
        methods_once c (suc n) more (cond (own.class == c) (with_method tree n own.method own.method.result rows) rows)
        (λ i one e. (let same : n + suc i ≡ suc n + i = omega arith in subst (λ k. slice_get (all_methods tree) k ≡ Some one) same (stands (suc i) one e))) (by (own.class == c))
      where
        plain : n + 0 ≡ n
        plain = omega arith

        named : method_name tree n ≡ Some own.method.name
        named = ap (option_map (λ (own : OwnMethod). own.method.name)) (subst (λ k. slice_get (all_methods tree) k ≡ Some own) plain (stands 0 own refl))

        by : (b : Bool) → NamedOnce (cond b (with_method tree n own.method own.method.result rows) rows)
        by true = with_method_once n own.method own.method.result rows named once
        by false = once

    module _ (P : PlainProgram) (m : Means tree P) (typed : WellTyped P)
      where
        rows_are_once : (fuel c : ℕ) (k : PlainClass) → typed.rank c < fuel → class_at P c ≡ Some k → (class : Class) → slice_get tree.classes c ≡ Some class → NamedOnce k.rows
        rows_are_once zero c k less e class t = absurd (omega (arith, less))
        rows_are_once (suc fuel) c k less e class t =
            let w = m.classes c class k t e in
            subst NamedOnce (sym w.rows) (methods_once c 0 (all_methods tree) (rows_above P k.parent) (λ i own h. (let same : i ≡ 0 + i = omega arith in subst (λ z. slice_get (all_methods tree) z ≡ Some own) same h))
            (by k.parent refl (rows_are_once fuel)))
          where
            by : (o : Option PlainParent) → k.parent ≡ o →
                ((b : ℕ) (x : PlainClass) → typed.rank b < fuel → class_at P b ≡ Some x → (upper : Class) → slice_get tree.classes b ≡ Some upper → NamedOnce x.rows) → NamedOnce (rows_above P o)
            by None up more = λ i j a b name h g f d. cc
            by (Some p) up more =
                let x = (typed.classes c k e).parent p up in
                let first = x.before in
                let within = slice_get_within P.classes p.class x.above x.is in
                let long = m.as_many_classes in
                let upper = there tree.classes p.class (omega (arith, within, long)) in
                subst NamedOnce (sym (ap (λ (o : Option PlainClass). option_map_or (λ (k : PlainClass). k.rows) o []) x.is)) (more p.class x.above (omega (arith, first, less)) x.is upper.0 upper.1)

        pub rows_once : (c r q i j name : ℕ) → row_at P c r ≡ Some i → row_at P c q ≡ Some j → method_name tree i ≡ Some name → method_name tree j ≡ Some name → r ≡ q
        rows_once c r q i j name e d f g =
            let x = and_then_there (λ (k : PlainClass). slice_get k.rows r) (class_at P c) i e in
            let y = and_then_there (λ (k : PlainClass). slice_get k.rows q) (class_at P c) j d in
            let same : y.0 ≡ x.0 = both_some y.1 x.1 in
            let other = subst (λ (k : PlainClass). slice_get k.rows q ≡ Some j) same y.2 in
            let within = slice_get_within P.classes c x.0 x.1 in
            let long = m.as_many_classes in
            let class = there tree.classes c (omega (arith, within, long)) in
            rows_are_once (suc (typed.rank c)) c x.0 (omega arith) x.1 class.0 class.1 r q i j name x.2 other f g

module _ (P : PlainProgram) (typed : WellTyped P)
  where
    parent_before : (c : ℕ) (p : PlainParent) → parent_of P c ≡ Some p → typed.rank p.class < typed.rank c
    parent_before c p e = let w = and_then_there (λ (k : PlainClass). k.parent) (class_at P c) p e in ((typed.classes c w.0 w.1).parent p w.2).before

    above_rank : {c d : ℕ} {args above : List Rpl} → Above P c args d above → typed.rank d ≤ typed.rank c
    above_rank Above.itself = omega arith
    above_rank (Above.through_parent {c = c} {p = p} up rest) =
        let less = parent_before c p up in
        let more = above_rank rest in
        omega (arith, less, more)

    not_above : (c d : ℕ) (p : PlainParent) {args above : List Rpl} → c ≡ d → parent_of P c ≡ Some p → Above P p.class args d above → ⊥
    not_above c d p same up rest =
        let less = parent_before c p up in
        let more = above_rank rest in
        let rank = ap typed.rank same in
        omega (arith, less, more, rank)

    above_same : {c d e : ℕ} {args a b : List Rpl} → d ≡ e → Above P c args d a → Above P c args e b → a ≡ b
    above_same same Above.itself Above.itself = refl
    above_same {c} {e = e} same Above.itself (Above.through_parent {p = p} up rest) = absurd (not_above c e p same up rest)
    above_same {c} {d} same (Above.through_parent {p = p} up rest) Above.itself = absurd (not_above c d p (sym same) up rest)
    above_same {e = e} {args = args} {b = b} same (Above.through_parent {p = p} up rest) (Above.through_parent {p = q} up' rest') =
        let parent : q ≡ p = both_some up' up in
        above_same same rest (subst (λ (z : PlainParent). Above P z.class (map (substituted args) z.args) e b) parent rest')

    pub above_once : (c d : ℕ) (args a b : List Rpl) → Above P c args d a → Above P c args d b → a ≡ b
    above_once c d args a b h g = above_same refl h g
