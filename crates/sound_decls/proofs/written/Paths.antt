-- Region paths and region arguments that are written without a fault are good where they stand.
use Rattle.std.proofs.Common.{◌≡◌, ◌∙◌, ◌⊎◌, ℕ, suc, ◌+◌, ◌<◌, ◌≤◌, ◌==◌, min, Bool, true, false, ◌&&◌, ◌||◌, cond, IsTrue, fold, List, [], ◌∷◌, ◌++◌, All, map, drop, length, slice_index_or, inl, inr, Option, None, Some, option_map, option_and_then, refl, sym, ap, subst, arith}
use Rattle.std.proofs.lemmas.List.Elements.{All-nil, All-cons, All-push}
use Rattle.std.specs.List.{list_all, position_from}
use Rattle.std.specs.Option.{option_map_or, option_or, option_flatten}
use Rattle.lang_base.specs.declared.elems.Elem.{Elem}
use Rattle.lang_base.specs.declared.elems.Elem.TheVariants.{Name, At, Local}
use Rattle.lang_base.specs.declared.elems.Index.{Index}
use Rattle.lang_base.specs.declared.elems.Index.TheVariants.{Variable, Own}
use Rattle.lang_base.specs.declared.region.Head.TheVariants.{Param}
use Rattle.lang_base.specs.declared.region.Rpl.{Rpl}
use Rattle.lang_base.specs.Branches.{Atomic, is_atomic_name, all_index, ends_atomic, atomic_head, atomic_path}
use Rattle.lang_base.specs.Regions.{is_index, all_specified, fully_specified}
use Rattle.lang_base.specs.Regions.{is_specified as elem_specified}
use Rattle.lang_base.specs.Types.{PlainType as ty}
use Rattle.decl_headers.specs.Headers.{class_of, region_of, atomic_regions}
use Rattle.syntax_tree.specs.declared.region.ElemTree.{ElemTree}
use Rattle.syntax_tree.specs.declared.region.ElemTree.TheVariants as elem
use Rattle.syntax_tree.specs.declared.region.Named.{Named}
use Rattle.syntax_tree.specs.declared.region.RName.{RName}
use Rattle.syntax_tree.specs.declared.region.RplHead.{RplHead}
use Rattle.syntax_tree.specs.declared.region.RplHead.TheVariants as head
use Rattle.syntax_tree.specs.declared.region.RplTree.{RplTree}
use Rattle.syntax_tree.specs.declared.region.Suffix.{Suffix}
use Rattle.decl_resolve.specs.declared.scope.ParamFound.{ParamFound}
use Rattle.decl_resolve.specs.Args.{root_path, begins_local}
use Rattle.decl_resolve.specs.Index.{PlainIndex, is_named, names_around}
use Rattle.decl_resolve.specs.Paths.{is_specified, region_meant, is_atomic_region}
use Rattle.decl_resolve.specs.Reading.{index_meant, elem_meant, head_param, head_local, below_root, begun, head_meant, region_atomic, begun_atomic, head_atomic, atomic_with, path_atomic, longer, goes_on, path_meant}
use Rattle.decl_resolve.specs.Scoped.{value_in}
use Rattle.decl_resolve.specs.Scopes.{PlainScope, param_meant}
use Rattle.lang_typed.specs.Plain.{PlainProgram}
use Rattle.lang_typed.specs.Scope.{Scope, constant, atomic_in}
use Rattle.lang_typed.specs.Types.{GoodElem, GoodPath, LocalPath}
use Rattle.sound_lemmas.proofs.Lists.{some_same, and_then_there, map_there}

-- the names around a place mean what is in scope
pub record Meaning (P : PlainProgram) (L : Scope) (scope : PlainScope) : Type 0 where
  pub regions : (class name number : ℕ) → region_of scope.headers class name ≡ Some number → number < length P.region_names
  pub atomic : P.region_names ≡ atomic_regions scope.headers
  pub params : (name : ℕ) (param : ParamFound) → param_meant scope name ≡ Some param → (param.number < length L.atomic) × (slice_index_or L.atomic param.number false ≡ param.atomic)
  pub variables : (name slot : ℕ) → value_in scope.variables name ≡ Some (Some slot) → L.local slot ≡ Some (constant ty.int)
  pub locals : (name number : ℕ) → value_in scope.regions name ≡ Some number → IsTrue (L.regions number)
  pub given : L.given ≡ scope.given

-- array types around a place
abbrev pub own : Option Named → ℕ
own None = 0
own (Some named) = 1

abbrev pub depth_of : PlainIndex → ℕ
depth_of around = length (drop around.inside around.suffixes) + own around.made

named_below : (name : ℕ) (suffixes : List Suffix) (made : Option Named) (base k : ℕ) → position_from (is_named name) base (map (λ suffix. suffix.index) suffixes ++ made ∷ []) ≡ Some k →
    k < base + (length suffixes + own made)
named_below name [] None base k h = cc
named_below name [] (Some named) base k h = by (named.name == name) h
  where
    by : (b : Bool) → cond b (Some base) None ≡ Some k → k < base + 1
    by true h = let same = some_same h in omega (arith, same)
    by false h = cc
named_below name (suffix ∷ suffixes) made base k h = by (named_below name suffixes made (base + 1) k) (is_named name suffix.index) h
  where
    by : (position_from (is_named name) (base + 1) (map (λ suffix. suffix.index) suffixes ++ made ∷ []) ≡ Some k → k < base + 1 + (length suffixes + own made)) → (b : Bool) →
        cond b (Some base) (position_from (is_named name) (base + 1) (map (λ suffix. suffix.index) suffixes ++ made ∷ [])) ≡ Some k → k < base + (suc (length suffixes) + own made)
    by next true h = let same = some_same h in omega (arith, same)
    by next false h = let below = next h in omega (arith, below)

-- what a longer path keeps of a shorter one

pub none_goes_on : (scope : PlainScope) (around : PlainIndex) (elems : List ElemTree) (a : Rpl) → goes_on scope around None elems ≡ Some a → ⊥
none_goes_on scope around [] a h = cc
none_goes_on scope around (x ∷ elems) a h = none_goes_on scope around elems a h

pub goes_step : (scope : PlainScope) (around : PlainIndex) (x : ElemTree) (elems : List ElemTree) (b a : Rpl) → goes_on scope around (Some b) (x ∷ elems) ≡ Some a →
    (e : Elem) × (elem_meant scope around x ≡ Some e) × (goes_on scope around (Some (longer b e)) elems ≡ Some a)
goes_step scope around x elems b a h = by (elem_meant scope around x) h
  where
    by : (o : Option Elem) → goes_on scope around (option_map (longer b) o) elems ≡ Some a → (e : Elem) × (o ≡ Some e) × (goes_on scope around (Some (longer b e)) elems ≡ Some a)
    by None h = absurd (none_goes_on scope around elems a h)
    by (Some e) h = (e, refl, h)

-- lists of elements with one more after

specified_push : (xs : List Elem) (e : Elem) → all_specified xs ≡ true → elem_specified e ≡ true → all_specified (xs ++ e ∷ []) ≡ true
specified_push [] e h k = by (elem_specified e) k
  where
    by : (b : Bool) → b ≡ true → (b && true) ≡ true
    by true k = refl
    by false k = k
specified_push (x ∷ xs) e h k = by (elem_specified x) h (λ r. specified_push xs e r k)
  where
    by : (b : Bool) → (b && all_specified xs) ≡ true → (all_specified xs ≡ true → all_specified (xs ++ e ∷ []) ≡ true) → (b && all_specified (xs ++ e ∷ [])) ≡ true
    by true h next = next h
    by false h next = h

index_push : (xs : List Elem) (e : Elem) → all_index (xs ++ e ∷ []) ≡ (all_index xs && is_index e)
index_push [] e = by (is_index e)
  where
    by : (b : Bool) → (b && true) ≡ b
    by true = refl
    by false = refl
index_push (x ∷ xs) e = by (is_index x) (index_push xs e)
  where
    by : (b : Bool) → all_index (xs ++ e ∷ []) ≡ (all_index xs && is_index e) → (b && all_index (xs ++ e ∷ [])) ≡ ((b && all_index xs) && is_index e)
    by true next = next
    by false next = refl

-- an index leaves it as it is, and any other element decides
ends_index : (names : List Bool) (xs : List Elem) (e : Elem) → is_index e ≡ true → is_atomic_name names e ≡ false → ends_atomic names (xs ++ e ∷ []) ≡ ends_atomic names xs
ends_index names [] e i n = by (is_atomic_name names e) n
  where
    by : (b : Bool) → b ≡ false → ((b && true) || false) ≡ false
    by true n = cc
    by false n = refl
ends_index names (x ∷ xs) e i n = by (is_atomic_name names x) (all_index (xs ++ e ∷ [])) (ends_atomic names (xs ++ e ∷ [])) (all_index xs) (index_push xs e) (ends_index names xs e i n)
  where
    and_true : (b c : Bool) → c ≡ true → (b && c) ≡ b
    and_true true true h = refl
    and_true false c h = refl
    and_true true false h = cc

    by : (a l r m : Bool) → l ≡ (m && is_index e) → r ≡ ends_atomic names xs → ((a && l) || r) ≡ ((a && m) || ends_atomic names xs)
    by a l r m same next = ap (λ z. (a && z) || r) (same ∙ and_true m (is_index e) i) ∙ ap (λ z. (a && m) || z) next

ends_other : (names : List Bool) (xs : List Elem) (e : Elem) → is_index e ≡ false → ends_atomic names (xs ++ e ∷ []) ≡ is_atomic_name names e
ends_other names [] e i = by (is_atomic_name names e)
  where
    by : (b : Bool) → ((b && true) || false) ≡ b
    by true = refl
    by false = refl
ends_other names (x ∷ xs) e i = by (is_atomic_name names x) (all_index (xs ++ e ∷ [])) (ends_atomic names (xs ++ e ∷ [])) (index_push xs e) (ends_other names xs e i)
  where
    and_false : (b c : Bool) → c ≡ false → (b && c) ≡ false
    and_false true false h = refl
    and_false false c h = refl
    and_false true true h = cc

    by : (a l r : Bool) → l ≡ (all_index xs && is_index e) → r ≡ is_atomic_name names e → ((a && l) || r) ≡ is_atomic_name names e
    by a l r same next =
        ap (λ z. z || r) (and_false a l (same ∙ and_false (all_index xs) (is_index e) i)) ∙ next

module _ (P : PlainProgram) (L : Scope) (scope : PlainScope) (means : Meaning P L scope)
  where
    abbrev A : Atomic
    A = atomic_in P L

    region_there : (name : RName) (n : ℕ) → region_meant scope.headers scope.class name ≡ Some n → n < length P.region_names
    region_there name n h = by name.second h
      where
        by : (o : Option Named) → option_map_or (λ second. option_and_then (λ class. region_of scope.headers class second.name) (class_of scope.headers name.first.name)) o (region_of scope.headers scope.class name.first.name) ≡ Some n →
            n < length P.region_names
        by None h = means.regions scope.class name.first.name n h
        by (Some second) h =
            let w = and_then_there (λ class. region_of scope.headers class second.name) (class_of scope.headers name.first.name) n h in
            means.regions w.0 second.name n w.2

    elem_good : (around : PlainIndex) (depth : ℕ) → depth_of around ≤ depth → (x : ElemTree) (e : Elem) → elem_meant scope around x ≡ Some e → GoodElem P L depth e
    elem_good around depth deep (elem.Name name) e h =
        let w = map_there (λ number. Name number) (region_meant scope.headers scope.class name) e h in
        subst (GoodElem P L depth) w.2 (region_there name w.0 w.1)
    elem_good around depth deep elem.Star e h = subst (GoodElem P L depth) (some_same h) tt
    elem_good around depth deep elem.Any e h = subst (GoodElem P L depth) (some_same h) tt
    elem_good around depth deep (elem.Lit k) e h = subst (GoodElem P L depth) (some_same h) tt
    elem_good around depth deep (elem.Index named) e h =
        let w = map_there (λ index. At index) (index_meant scope around named.name) e h in
        subst (GoodElem P L depth) w.2
        (by (position_from (is_named named.name) 0 (names_around around)) (value_in scope.variables named.name) w.0 (λ k is. named_below named.name (drop around.inside around.suffixes) around.made 0 k is) (means.variables named.name) w.1)
      where
        by : (o : Option ℕ) (v : Option (Option ℕ)) (i : Index) → ((k : ℕ) → o ≡ Some k → k < 0 + depth_of around) → ((slot : ℕ) → v ≡ Some (Some slot) → L.local slot ≡ Some (constant ty.int)) →
            option_or (option_map (λ k. Own (min k 4294967295)) o) (option_map (λ slot. Variable slot) (option_flatten v)) ≡ Some i → GoodElem P L depth (At i)
        by (Some k) v i below known h =
            let l = below k refl in
            let within : min k 4294967295 < depth = omega (arith, l, deep) in
            subst (λ z. GoodElem P L depth (At z)) (some_same h) within
        by None (Some (Some slot)) i below known h = subst (λ z. GoodElem P L depth (At z)) (some_same h) (known slot refl)
        by None (Some None) i below known h = cc
        by None None i below known h = cc

    -- a path that begins where one may, or at a local region in scope
    pub data Begun (depth : ℕ) (a : Rpl) : Type 0 where
      good : GoodPath P L depth a → Begun depth a
      in_local : LocalPath P L depth a → Begun depth a

    begun_longer : (depth : ℕ) (b : Rpl) (e : Elem) → GoodElem P L depth e → Begun depth b → Begun depth (longer b e)
    begun_longer depth b e g (good h) = good (record { begins = h.begins; elems = All-push (GoodElem P L depth) b.elems e h.elems g })
    begun_longer depth b e g (in_local h) =
        in_local (record { region = h.region; rest = h.rest ++ e ∷ []; is = ap (λ z. longer z e) h.is; in_scope = h.in_scope; elems = All-push (GoodElem P L depth) h.rest e h.elems g })

    begun_on : (around : PlainIndex) (depth : ℕ) → depth_of around ≤ depth → (elems : List ElemTree) (b a : Rpl) → Begun depth b → goes_on scope around (Some b) elems ≡ Some a → Begun depth a
    begun_on around depth deep [] b a k h = subst (Begun depth) (some_same h) k
    begun_on around depth deep (x ∷ elems) b a k h =
        let w = goes_step scope around x elems b a h in
        begun_on around depth deep elems (longer b w.0) a (begun_longer depth b w.0 (elem_good around depth deep x w.0 w.1) k) w.2

    nothing_good : (depth : ℕ) → All (GoodElem P L depth) []
    nothing_good depth = All-nil (GoodElem P L depth)

    head_begun : (depth : ℕ) (h : RplHead) (b : Rpl) → head_meant scope h ≡ Some b → Begun depth b
    head_begun depth head.Root b h = subst (Begun depth) (some_same h) (good (record { begins = tt; elems = nothing_good depth }))
    head_begun depth (head.Name name) b h = by name.second h (λ number is. region_there name number is)
      where
        from : (p : Option ParamFound) (l : Option ℕ) (r : Option ℕ) → ((param : ParamFound) → p ≡ Some param → param.number < length L.atomic) → ((number : ℕ) → l ≡ Some number → IsTrue (L.regions number)) →
            ((number : ℕ) → r ≡ Some number → number < length P.region_names) → begun p l r ≡ Some b → Begun depth b
        from (Some param) l r f g k h = subst (Begun depth) (some_same h) (good (record { begins = f param refl; elems = nothing_good depth }))
        from None (Some number) r f g k h =
            subst (Begun depth) (some_same h) (in_local (record { region = number; rest = []; is = refl; in_scope = g number refl; elems = nothing_good depth }))
        from None None (Some number) f g k h =
            subst (Begun depth) (some_same h) (good (record { begins = tt; elems = All-cons (GoodElem P L depth) (Name number) [] (k number refl) (nothing_good depth) }))
        from None None None f g k h = cc

        by : (o : Option Named) → begun (option_map_or (λ second. None) o (param_meant scope name.first.name)) (option_map_or (λ second. None) o (value_in scope.regions name.first.name))
            (region_meant scope.headers scope.class name) ≡ Some b → ((number : ℕ) → region_meant scope.headers scope.class name ≡ Some number → number < length P.region_names) → Begun depth b
        by None h there = from (param_meant scope name.first.name) (value_in scope.regions name.first.name) (region_meant scope.headers scope.class name)
            (λ param is. (means.params name.first.name param is).0) (means.locals name.first.name) there h
        by (Some second) h there = from None None (region_meant scope.headers scope.class name) (λ param is. cc) (λ number is. cc) there h

    from_some : (around : PlainIndex) (elems : List ElemTree) (o : Option Rpl) (a : Rpl) → goes_on scope around o elems ≡ Some a → (b : Rpl) × (o ≡ Some b)
    from_some around elems None a h = absurd (none_goes_on scope around elems a h)
    from_some around elems (Some b) a h = (b, refl)

    pub path_begun : (around : PlainIndex) (depth : ℕ) → depth_of around ≤ depth → (tree : RplTree) (a : Rpl) → path_meant scope around tree ≡ Some a → Begun depth a
    path_begun around depth deep tree a h =
        let w = from_some around tree.elems (head_meant scope tree.head) a h in
        begun_on around depth deep tree.elems w.0 a (head_begun depth tree.head w.0 w.1) (sym (ap (λ o. goes_on scope around o tree.elems) w.1) ∙ h)

    pub begun_either : (depth : ℕ) (a : Rpl) → Begun depth a → GoodPath P L depth a ⊎ LocalPath P L depth a
    begun_either depth a (good h) = inl h
    begun_either depth a (in_local h) = inr h

    -- a path that doesn't begin at a local region
    pub not_local : (depth : ℕ) (a : Rpl) → Begun depth a → begins_local a.elems ≡ false → GoodPath P L depth a
    not_local depth a (good h) n = h
    not_local depth a (in_local h) n = let begins : true ≡ false = sym (ap (λ (z : Rpl). begins_local z.elems) h.is) ∙ n in cc

    -- where each element that is written is fully specified, the path is
    full_on : (around : PlainIndex) (elems : List ElemTree) (b a : Rpl) → fully_specified b ≡ true → list_all is_specified elems ≡ true → goes_on scope around (Some b) elems ≡ Some a → fully_specified a ≡ true
    full_on around [] b a k s h = ap fully_specified (sym (some_same h)) ∙ k
    full_on around (x ∷ elems) b a k s h =
        let w = goes_step scope around x elems b a h in
        let parts = both_true (is_specified x) (list_all is_specified elems) s in
        full_on around elems (longer b w.0) a (specified_push b.elems w.0 k (specified x w.0 parts.0 w.1)) parts.1 w.2
      where
        both_true : (b c : Bool) → (b && c) ≡ true → (b ≡ true) × (c ≡ true)
        both_true true c h = (refl, h)
        both_true false c h = cc

        specified : (x : ElemTree) (e : Elem) → is_specified x ≡ true → elem_meant scope around x ≡ Some e → elem_specified e ≡ true
        specified (elem.Name name) e s h =
            let w = map_there (λ number. Name number) (region_meant scope.headers scope.class name) e h in
            ap elem_specified (sym w.2)
        specified elem.Star e s h = cc
        specified elem.Any e s h = cc
        specified (elem.Lit k) e s h = ap elem_specified (sym (some_same h))
        specified (elem.Index named) e s h =
            let w = map_there (λ index. At index) (index_meant scope around named.name) e h in
            ap elem_specified (sym w.2)

    head_full : (h : RplHead) (b : Rpl) → head_meant scope h ≡ Some b → fully_specified b ≡ true
    head_full head.Root b h = ap fully_specified (sym (some_same h))
    head_full (head.Name name) b h = by (head_param scope name) (head_local scope name) (region_meant scope.headers scope.class name) h
      where
        by : (p : Option ParamFound) (l : Option ℕ) (r : Option ℕ) → begun p l r ≡ Some b → fully_specified b ≡ true
        by (Some param) l r h = ap fully_specified (sym (some_same h))
        by None (Some number) r h = ap fully_specified (sym (some_same h))
        by None None (Some number) h = ap fully_specified (sym (some_same h))
        by None None None h = cc

    pub path_full : (around : PlainIndex) (tree : RplTree) (a : Rpl) → list_all is_specified tree.elems ≡ true → path_meant scope around tree ≡ Some a → fully_specified a ≡ true
    path_full around tree a s h =
        let w = from_some around tree.elems (head_meant scope tree.head) a h in
        full_on around tree.elems w.0 a (head_full tree.head w.0 w.1) s (sym (ap (λ o. goes_on scope around o tree.elems) w.1) ∙ h)

    -- whether it is atomic is what is reported of the written one

    atomic_names : (n : ℕ) → slice_index_or P.region_names n false ≡ is_atomic_region scope.headers n
    atomic_names n = ap (λ z. slice_index_or z n false) means.atomic

    atomic_other : (b : Rpl) (e : Elem) → is_index e ≡ false → atomic_path A (longer b e) ≡ is_atomic_name P.region_names e
    unfolding atomic_path
    atomic_other b e i = by (ends_atomic P.region_names (b.elems ++ e ∷ [])) (all_index (b.elems ++ e ∷ [])) (ends_other P.region_names b.elems e i) (index_push b.elems e ∙ no (all_index b.elems))
      where
        no : (c : Bool) → (c && is_index e) ≡ false
        no true = i
        no false = refl

        by : (x y : Bool) → x ≡ is_atomic_name P.region_names e → y ≡ false → (x || (y && atomic_head L.atomic b.head)) ≡ is_atomic_name P.region_names e
        by true y s k = s
        by false true s k = cc
        by false false s k = s

    atomic_index : (b : Rpl) (e : Elem) → is_index e ≡ true → is_atomic_name P.region_names e ≡ false → atomic_path A (longer b e) ≡ atomic_path A b
    unfolding atomic_path
    atomic_index b e i n =
        ap (λ z. z || (all_index (b.elems ++ e ∷ []) && atomic_head L.atomic b.head)) (ends_index P.region_names b.elems e i n)
        ∙ ap (λ z. ends_atomic P.region_names b.elems || (z && atomic_head L.atomic b.head)) (index_push b.elems e ∙ yes (all_index b.elems))
      where
        yes : (c : Bool) → (c && is_index e) ≡ c
        yes true = i
        yes false = refl

    atomic_step : (around : PlainIndex) (x : ElemTree) (e : Elem) (b : Rpl) (o : Option Bool) → elem_meant scope around x ≡ Some e → o ≡ Some (atomic_path A b) → atomic_with scope o x ≡ Some (atomic_path A (longer b e))
    atomic_step around (elem.Name name) e b o h k =
        let w = map_there (λ number. Name number) (region_meant scope.headers scope.class name) e h in
        ap (option_map (is_atomic_region scope.headers)) w.1
        ∙ ap Some (sym (atomic_names w.0) ∙ ap (is_atomic_name P.region_names) w.2 ∙ sym (atomic_other b e (ap is_index (sym w.2))))
    atomic_step around elem.Star e b o h k = ap Some (ap (is_atomic_name P.region_names) (some_same h) ∙ sym (atomic_other b e (ap is_index (sym (some_same h)))))
    atomic_step around elem.Any e b o h k = k ∙ ap Some (sym (atomic_index b e (ap is_index (sym (some_same h))) (ap (is_atomic_name P.region_names) (sym (some_same h)))))
    atomic_step around (elem.Lit j) e b o h k = k ∙ ap Some (sym (atomic_index b e (ap is_index (sym (some_same h))) (ap (is_atomic_name P.region_names) (sym (some_same h)))))
    atomic_step around (elem.Index named) e b o h k =
        let w = map_there (λ index. At index) (index_meant scope around named.name) e h in
        k ∙ ap Some (sym (atomic_index b e (ap is_index (sym w.2)) (ap (is_atomic_name P.region_names) (sym w.2))))

    atomic_on : (around : PlainIndex) (elems : List ElemTree) (b a : Rpl) (o : Option Bool) → o ≡ Some (atomic_path A b) → goes_on scope around (Some b) elems ≡ Some a →
        fold (atomic_with scope) o elems ≡ Some (atomic_path A a)
    atomic_on around [] b a o k h = k ∙ ap (λ z. Some (atomic_path A z)) (some_same h)
    atomic_on around (x ∷ elems) b a o k h =
        let w = goes_step scope around x elems b a h in
        atomic_on around elems (longer b w.0) a (atomic_with scope o x) (atomic_step around x w.0 b o w.1 k) w.2

    root_atomic : atomic_path A root_path ≡ false
    unfolding atomic_path
    root_atomic = refl

    param_atomic : (n : ℕ) → atomic_path A (record { head = Param n; elems = [] }) ≡ slice_index_or L.atomic n false
    unfolding atomic_path
    param_atomic n = refl

    head_reported : (h : RplHead) (b : Rpl) → head_meant scope h ≡ Some b → head_atomic scope h ≡ Some (atomic_path A b)
    head_reported head.Root b h = ap Some (sym root_atomic ∙ ap (atomic_path A) (some_same h))
    head_reported (head.Name name) b h = by name.second h
      where
        under : (e : Elem) → is_index e ≡ false → is_atomic_name P.region_names e ≡ atomic_path A (below_root e)
        under e i = sym (atomic_other root_path e i)

        from : (p : Option ParamFound) (l : Option ℕ) (r : Option ℕ) → ((param : ParamFound) → p ≡ Some param → slice_index_or L.atomic param.number false ≡ param.atomic) →
            begun p l r ≡ Some b → begun_atomic p l (option_map (is_atomic_region scope.headers) r) ≡ Some (atomic_path A b)
        from (Some param) l r f h = ap Some (sym (param_atomic param.number ∙ f param refl) ∙ ap (atomic_path A) (some_same h))
        from None (Some number) r f h = ap Some (under (Local number 0) refl ∙ ap (atomic_path A) (some_same h))
        from None None (Some number) f h = ap Some (sym (atomic_names number) ∙ under (Name number) refl ∙ ap (atomic_path A) (some_same h))
        from None None None f h = cc

        by : (o : Option Named) → begun (option_map_or (λ second. None) o (param_meant scope name.first.name)) (option_map_or (λ second. None) o (value_in scope.regions name.first.name))
            (region_meant scope.headers scope.class name) ≡ Some b →
            begun_atomic (option_map_or (λ second. None) o (param_meant scope name.first.name)) (option_map_or (λ second. None) o (value_in scope.regions name.first.name)) (region_atomic scope name) ≡ Some (atomic_path A b)
        by None h = from (param_meant scope name.first.name) (value_in scope.regions name.first.name) (region_meant scope.headers scope.class name) (λ param is. (means.params name.first.name param is).1) h
        by (Some second) h = from None None (region_meant scope.headers scope.class name) (λ param is. cc) h

    pub path_reported_atomic : (around : PlainIndex) (tree : RplTree) (a : Rpl) → path_meant scope around tree ≡ Some a → path_atomic scope tree ≡ Some (atomic_path A a)
    path_reported_atomic around tree a h =
        let w = from_some around tree.elems (head_meant scope tree.head) a h in
        atomic_on around tree.elems w.0 a (head_atomic scope tree.head) (head_reported tree.head w.0 w.1) (sym (ap (λ o. goes_on scope around o tree.elems) w.1) ∙ h)
