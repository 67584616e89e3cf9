-- What is good over the region parameters of a class is good where arguments that are fully specified are put in for them.
use Rattle.std.proofs.Common.{◌≡◌, ◌∙◌, ◌<◌, ℕ, suc, Bool, true, false, ◌&&◌, ◌||◌, IsTrue, List, [], ◌∷◌, ◌++◌, All, map, length, get_or, slice_get, append_assoc, inl, ⊎_elim, Some, refl, sym, ap, subst, arith}
use Rattle.std.proofs.lemmas.Bool.{and_parts, and_from, or_cases, or_left, or_right, false≢true}
use Rattle.std.proofs.lemmas.List.{length-map, get_or-map}
use Rattle.std.proofs.lemmas.List.Elements.{All-nil, All-head, All-tail, All-append, All-weaker, All-map}
use Rattle.std.proofs.lemmas.Option.{slice_get-get_or, slice_get-map, slice_get_within}
use Rattle.std.specs.List.{list_any}
use Rattle.lang_base.specs.declared.elems.Elem.{Elem}
use Rattle.lang_base.specs.declared.elems.Elem.TheVariants.{Name, At, Any, Star, Local}
use Rattle.lang_base.specs.declared.elems.Index.TheVariants.{Literal, Variable, Renamed, Own}
use Rattle.lang_base.specs.declared.region.Head.{Head}
use Rattle.lang_base.specs.declared.region.Head.TheVariants.{Root, Param}
use Rattle.lang_base.specs.declared.region.Rpl.{Rpl}
use Rattle.lang_base.specs.Apart.{apart}
use Rattle.lang_base.specs.Branches.{is_atomic_name, all_index, ends_atomic, atomic_head, atomic_path}
use Rattle.lang_base.specs.Regions.{is_index, is_specified, all_specified, fully_specified, same_elem, argument, following, put_at, substituted}
use Rattle.lang_base.specs.Types.{PlainType, type_with, has_index, mentions_index}
use Rattle.lang_base.specs.Types.{PlainType as ty}
use Rattle.lang_typed.specs.Plain.{PlainProgram, PlainClass}
use Rattle.lang_typed.specs.Scope.{Scope, constant, class_at, atomic_in}
use Rattle.lang_typed.specs.Table.{GoodConstraint, class_scope}
use Rattle.lang_typed.specs.Types.{GoodElem, GoodHead, GoodPath, LocalPath, GoodArgs, GoodType, IsFlat}
use Rattle.sound_lemmas.proofs.Lists.{some_same, map_there}
use Rattle.sound_decls.proofs.written.Putting.{is_firm, all_firm, put_head, put_front, put_is, apart_put}

-- arguments put in twice

after_put : (args : List Rpl) (r : Rpl) (e : List Elem) → substituted args (following r e) ≡ following (substituted args r) e
unfolding substituted
after_put args r e = by r.head
  where
    by : (h : Head) → put_at h (r.elems ++ e) args ≡ following (put_at h r.elems args) e
    by Root = refl
    by (Param q) = ap (λ z. record { head = (argument args q).head; elems = z }) (sym (append_assoc (argument args q).elems r.elems e))

put_twice : (args paths : List Rpl) (h : Head) (e : List Elem) (n : ℕ) → n ≡ length paths → ((p : ℕ) → h ≡ Param p → p < n) →
    substituted args (put_at h e paths) ≡ put_at h e (map (substituted args) paths)
put_twice args paths Root e n same within = put_is args (record { head = Root; elems = e })
put_twice args paths (Param p) e n same within =
    let l = within p refl in
    after_put args (argument paths p) e ∙ ap (λ z. following z e) (sym (get_or-map (substituted args) paths p (record { head = Param p; elems = [] }) (record { head = Param p; elems = [] }) (omega (arith, l, same))))

-- lists of elements, one after the other

ends_after : (names : List Bool) (r e : List Elem) → ends_atomic names e ≡ true → ends_atomic names (r ++ e) ≡ true
ends_after names [] e h = h
ends_after names (x ∷ r) e h = or_right (is_atomic_name names x && all_index (r ++ e)) _ (ends_after names r e h)

index_both : (r e : List Elem) → all_index r ≡ true → all_index e ≡ true → all_index (r ++ e) ≡ true
index_both [] e h k = k
index_both (x ∷ r) e h k = let p = and_parts (is_index x) _ h in and_from _ _ p.0 (index_both r e p.1 k)

ends_before : (names : List Bool) (r e : List Elem) → ends_atomic names r ≡ true → all_index e ≡ true → ends_atomic names (r ++ e) ≡ true
ends_before names [] e h k = absurd (false≢true h)
ends_before names (x ∷ r) e h k =
    ⊎_elim
    (λ here. let p = and_parts (is_atomic_name names x) _ here in or_left _ _ (and_from _ _ p.0 (index_both r e p.1 k)))
    (λ later. or_right (is_atomic_name names x && all_index (r ++ e)) _ (ends_before names r e later k))
    (or_cases (is_atomic_name names x && all_index r) _ h)

-- the first scope has neither constant locals nor local regions
module _ (P : PlainProgram) (L M : Scope) (args : List Rpl) (good : GoodArgs P M 0 L.atomic L.given [] args) (full : All (λ a. IsTrue (fully_specified a)) args)
    (closed : (x : ℕ) → L.local x ≡ Some (constant ty.int) → ⊥) (no_regions : (r : ℕ) → L.regions r ≡ false)
    (constraints : (c : ℕ) (k : PlainClass) → class_at P c ≡ Some k → All (GoodConstraint P (class_scope k)) k.given)
  where
    firm_elem : (x : Elem) → GoodElem P M 0 x → is_specified x ≡ true → is_firm x ≡ true
    firm_elem (Name n) g h = refl
    firm_elem (At i) g h = refl
    firm_elem Any g h = refl
    firm_elem Star g h = h
    firm_elem (Local r n) g h = absurd g

    firm_path : (e : List Elem) → All (GoodElem P M 0) e → all_specified e ≡ true → all_firm e ≡ true
    firm_path [] g h = refl
    firm_path (x ∷ e) g h =
        let p = and_parts (is_specified x) _ h in
        and_from _ _ (firm_elem x (All-head (GoodElem P M 0) x e g) p.0) (firm_path e (All-tail (GoodElem P M 0) x e g) p.1)

    firm_at : (paths : List Rpl) → All (GoodPath P M 0) paths → All (λ a. IsTrue (fully_specified a)) paths → (p : ℕ) (d : Rpl) → all_firm d.elems ≡ true → all_firm (get_or paths p d).elems ≡ true
    firm_at [] g f p d h = h
    firm_at (a ∷ paths) g f ℕ.zero d h = firm_path a.elems (All-head (GoodPath P M 0) a paths g).elems (All-head (λ a. IsTrue (fully_specified a)) a paths f)
    firm_at (a ∷ paths) g f (suc p) d h = firm_at paths (All-tail (GoodPath P M 0) a paths g) (All-tail (λ a. IsTrue (fully_specified a)) a paths f) p d h

    firm : (p : ℕ) → all_firm (argument args p).elems ≡ true
    firm p = firm_at args good.paths full p (record { head = Param p; elems = [] }) refl

    -- the argument for a parameter in scope
    argued : (p : ℕ) → p < length L.atomic → GoodPath P M 0 (argument args p)
    argued p l = let a = good.arity in good.paths p (record { head = Param p; elems = [] }) (omega (arith, l, a))

    elem_same : (depth : ℕ) (x : Elem) → GoodElem P L depth x → GoodElem P M depth x
    elem_same depth (Name n) h = h
    elem_same depth (At (Literal k)) h = tt
    elem_same depth (At (Variable x)) h = absurd (closed x h)
    elem_same depth (At (Renamed x)) h = h
    elem_same depth (At (Own d)) h = h
    elem_same depth Any h = tt
    elem_same depth Star h = tt
    elem_same depth (Local r n) h = h

    elem_deeper : (depth : ℕ) (x : Elem) → GoodElem P M 0 x → GoodElem P M depth x
    elem_deeper depth (Name n) h = h
    elem_deeper depth (At (Literal k)) h = tt
    elem_deeper depth (At (Variable x)) h = h
    elem_deeper depth (At (Renamed x)) h = h
    elem_deeper depth (At (Own d)) h = absurd (omega (arith, h))
    elem_deeper depth Any h = tt
    elem_deeper depth Star h = tt
    elem_deeper depth (Local r n) h = h

    head_put : (h : Head) → GoodHead L h → GoodHead M (put_head args h)
    head_put Root g = tt
    head_put (Param p) g = (argued p g).begins

    front_put : (h : Head) → GoodHead L h → All (GoodElem P M 0) (put_front args h)
    front_put Root g = All-nil (GoodElem P M 0)
    front_put (Param p) g = (argued p g).elems

    pub path_put : (depth : ℕ) (a : Rpl) → GoodPath P L depth a → GoodPath P M depth (substituted args a)
    path_put depth a h =
        subst (GoodPath P M depth) (sym (put_is args a)) (record {
          begins = head_put a.head h.begins;
          elems = All-append (GoodElem P M depth) (put_front args a.head) a.elems
              (All-weaker (GoodElem P M 0) (GoodElem P M depth) (elem_deeper depth) (put_front args a.head) (front_put a.head h.begins))
              (All-weaker (GoodElem P L depth) (GoodElem P M depth) (elem_same depth) a.elems h.elems);
        })

    full_front : (h : Head) → GoodHead L h → all_specified (put_front args h) ≡ true
    full_front Root g = refl
    full_front (Param p) g = let a = good.arity in full p (record { head = Param p; elems = [] }) (omega (arith, g, a))

    specified_both : (r e : List Elem) → all_specified r ≡ true → all_specified e ≡ true → all_specified (r ++ e) ≡ true
    specified_both [] e h k = k
    specified_both (x ∷ r) e h k = let p = and_parts (is_specified x) _ h in and_from _ _ p.0 (specified_both r e p.1 k)

    pub full_put : (a : Rpl) → GoodHead L a.head → fully_specified a ≡ true → fully_specified (substituted args a) ≡ true
    full_put a g h = ap fully_specified (put_is args a) ∙ specified_both (put_front args a.head) a.elems (full_front a.head g) h

    -- atomic paths
    atomic_from : (h : Head) (e : List Elem) → GoodHead L h → (ends_atomic P.region_names e || (all_index e && atomic_head L.atomic h)) ≡ true →
        (ends_atomic P.region_names (put_front args h ++ e) || (all_index (put_front args h ++ e) && atomic_head M.atomic (put_head args h))) ≡ true
    unfolding atomic_path
    atomic_from Root e g h = h
    atomic_from (Param p) e g h =
        ⊎_elim
        (λ ends. or_left _ _ (ends_after P.region_names (argument args p).elems e ends))
        (λ heads.
        let i = and_parts (all_index e) _ heads in
        let a = good.arity in
        let within : p < length args = omega (arith, g, a) in
        let declared = slice_get-get_or L.atomic p false g ∙ ap Some i.1 in
        let k = good.atomic p (argument args p) declared (slice_get-get_or args p (record { head = Param p; elems = [] }) within) in
        ⊎_elim
        (λ ends. or_left _ _ (ends_before P.region_names (argument args p).elems e ends i.0))
        (λ both. let q = and_parts (all_index (argument args p).elems) _ both in or_right (ends_atomic P.region_names ((argument args p).elems ++ e)) _ (and_from _ _ (index_both (argument args p).elems e q.0 i.0) q.1))
        (or_cases (ends_atomic P.region_names (argument args p).elems) _ k))
        (or_cases (ends_atomic P.region_names e) _ h)

    atomic_put : (a : Rpl) → GoodHead L a.head → atomic_path (atomic_in P L) a ≡ true → atomic_path (atomic_in P M) (substituted args a) ≡ true
    unfolding atomic_path
    atomic_put a g h = ap (atomic_path (atomic_in P M)) (put_is args a) ∙ atomic_from a.head a.elems g h

    -- region arguments
    twice : (paths : List Rpl) (a : Rpl) (n : ℕ) → n ≡ length paths → ((p : ℕ) → a.head ≡ Param p → p < n) → substituted args (substituted paths a) ≡ substituted (map (substituted args) paths) a
    unfolding substituted
    twice paths a n same within = put_twice args paths a.head a.elems n same within

    pub args_put : (depth : ℕ) (k : PlainClass) (paths : List Rpl) → All (GoodConstraint P (class_scope k)) k.given → GoodArgs P L depth k.params k.given [] paths →
        GoodArgs P M depth k.params k.given [] (map (substituted args) paths)
    args_put depth k paths given h = record {
      arity = length-map paths (substituted args) ∙ h.arity;
      paths = All-map (GoodPath P M depth) (substituted args) paths (All-weaker (GoodPath P L depth) (λ a. GoodPath P M depth (substituted args a)) (path_put depth) paths h.paths);
      atomic = λ p a declared at.
          let w = map_there (substituted args) (slice_get paths p) a (sym (slice_get-map (substituted args) paths p) ∙ at) in
          let l = slice_get_within paths p w.0 w.1 in
          let g = h.paths p w.0 l in
          subst (λ z. atomic_path (atomic_in P M) z ≡ true) w.2 (atomic_put w.0 (subst (λ (z : Rpl). GoodHead L z.head) (same p w.0 w.1) g.begins) (h.atomic p w.0 declared w.1));
      hold = λ i d l.
          let g = given i d l in
          subst (λ z. apart M.given z (substituted (map (substituted args) paths) (get_or k.given i d).right) ≡ true) (twice paths (get_or k.given i d).left (length k.params) (sym h.arity) (below (get_or k.given i d).left g.0))
          (subst (λ z. apart M.given (substituted args (substituted paths (get_or k.given i d).left)) z ≡ true) (twice paths (get_or k.given i d).right (length k.params) (sym h.arity) (below (get_or k.given i d).right g.1))
          (apart_put args firm L.given M.given good.hold (substituted paths (get_or k.given i d).left) (substituted paths (get_or k.given i d).right) (h.hold i d l)));
    }
      where
        same : (p : ℕ) (a : Rpl) → slice_get paths p ≡ Some a → get_or paths p a ≡ a
        same p a e = some_same (sym (slice_get-get_or paths p a (slice_get_within paths p a e)) ∙ e)

        below : (a : Rpl) → GoodPath P (class_scope k) 0 a → (p : ℕ) → a.head ≡ Param p → p < length k.params
        below a g p e = subst (GoodHead (class_scope k)) e g.begins

    -- own indices of array types
    no_own : (n : ℕ) (x : Elem) → GoodElem P M 0 x → same_elem x (At (Own n)) ≡ false
    no_own n (Name m) g = refl
    no_own n (At (Literal k)) g = refl
    no_own n (At (Variable x)) g = refl
    no_own n (At (Renamed x)) g = refl
    no_own n (At (Own d)) g = absurd (omega (arith, g))
    no_own n Any g = refl
    no_own n Star g = refl
    no_own n (Local r m) g = refl

    own_after : (n : ℕ) (r e : List Elem) → All (GoodElem P M 0) r → list_any (λ x. same_elem x (At (Own n))) (r ++ e) ≡ list_any (λ x. same_elem x (At (Own n))) e
    own_after n [] e g = refl
    own_after n (x ∷ r) e g =
        ap (λ b. b || list_any (λ x. same_elem x (At (Own n))) (r ++ e)) (no_own n x (All-head (GoodElem P M 0) x r g)) ∙ own_after n r e (All-tail (GoodElem P M 0) x r g)

    index_put : (n : ℕ) (a : Rpl) → GoodHead L a.head → has_index n (substituted args a) ≡ has_index n a
    index_put n a g = ap (has_index n) (put_is args a) ∙ own_after n (put_front args a.head) a.elems (front_put a.head g)

    indices_put : (n depth : ℕ) (paths : List Rpl) → All (GoodPath P L depth) paths → list_any (has_index n) (map (substituted args) paths) ≡ list_any (has_index n) paths
    indices_put n depth [] g = refl
    indices_put n depth (a ∷ paths) g =
        ap (λ b. b || list_any (has_index n) (map (substituted args) paths)) (index_put n a (All-head (GoodPath P L depth) a paths g).begins)
        ∙ ap (λ b. has_index n a || b) (indices_put n depth paths (All-tail (GoodPath P L depth) a paths g))

    not_local : (depth : ℕ) (t : PlainType) (a : Rpl) → LocalPath P L 1 a × IsFlat t × (depth ≡ 0) → ⊥
    not_local depth t a h = let in_scope = h.0.in_scope in let none = no_regions h.0.region in let no : false ≡ true = sym none ∙ in_scope in false≢true no

    array_path : (depth : ℕ) (t : PlainType) (a : Rpl) (named : Bool) → GoodType P L depth (ty.array t a named) → GoodPath P L (suc depth) a
    array_path depth t a named h = ⊎_elim (λ p. p) (λ p. absurd (not_local depth t a p)) h.0

    mentions_put : (n depth : ℕ) (t : PlainType) → GoodType P L depth t → mentions_index n (type_with args t) ≡ mentions_index n t
    mentions_put n depth ty.int h = refl
    mentions_put n depth ty.boolean h = refl
    mentions_put n depth ty.void h = refl
    mentions_put n depth ty.null h = refl
    mentions_put n depth (ty.class c paths) h = indices_put n depth paths h.2.paths
    mentions_put n depth (ty.array t a named) h =
        ap (λ b. b || mentions_index (suc n) (type_with args t)) (index_put (suc n) a (array_path depth t a named h).begins)
        ∙ ap (λ b. has_index (suc n) a || b) (mentions_put (suc n) (suc depth) t h.1)

    pub type_put : (depth : ℕ) (t : PlainType) → GoodType P L depth t → GoodType P M depth (type_with args t)
    type_put depth ty.int h = tt
    type_put depth ty.boolean h = tt
    type_put depth ty.void h = h
    type_put depth ty.null h = h
    type_put depth (ty.class c paths) h = (h.0, h.1, args_put depth h.0 paths (constraints c h.0 h.1) h.2)
    type_put depth (ty.array t a named) h =
        let p = array_path depth t a named h in (
          inl (path_put (suc depth) a p),
          type_put (suc depth) t h.1,
          λ none. (index_put 0 a p.begins ∙ (h.2 none).0, mentions_put 0 (suc depth) t h.1 ∙ (h.2 none).1),
        )
