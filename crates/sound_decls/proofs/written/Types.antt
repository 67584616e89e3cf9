-- A written type without faults is good where it stands.
use Rattle.std.proofs.Common.{◌≡◌, ◌∙◌, ◌⊎◌, ℕ, zero, suc, ◌+◌, ◌<◌, ◌≤◌, ◌==◌, Bool, true, false, not, ◌&&◌, cond, nat_le, is_some, List, [], ◌∷◌, ◌++◌, map, drop, length, slice_get, inl, inr, Option, None, Some, option_map, refl, sym, ap, subst, arith}
use Rattle.std.proofs.lemmas.Bool.{false_from_ne_true, false≢true, and_parts, leb-true}
use Rattle.std.proofs.lemmas.List.Elements.{All-nil}
use Rattle.std.specs.List.{cons_option}
use Rattle.std.specs.Option.{option_map_or}
use Rattle.lang_base.specs.declared.place.Place.{Place}
use Rattle.lang_base.specs.declared.region.Rpl.{Rpl}
use Rattle.lang_base.specs.Types.{PlainType, has_index, mentions_index}
use Rattle.lang_base.specs.Types.PlainType.{class, array}
use Rattle.lang_base.specs.declared.refusal.Kind.TheVariants as kind
use Rattle.decl_headers.specs.Headers.{class_of}
use Rattle.syntax_tree.specs.declared.region.BaseTree.{BaseTree}
use Rattle.syntax_tree.specs.declared.region.BaseTree.TheVariants as base
use Rattle.syntax_tree.specs.declared.region.Named.{Named}
use Rattle.syntax_tree.specs.declared.region.RplTree.{RplTree}
use Rattle.syntax_tree.specs.declared.region.Suffix.{Suffix}
use Rattle.syntax_tree.specs.declared.region.TypeTree.{TypeTree}
use Rattle.decl_resolve.specs.Args.{root_path, begins_local, first_local, local_fault, args_faults}
use Rattle.decl_resolve.specs.Classes.{params_in, constraints_in, class_args, class_faults, class_type, constraint_fault}
use Rattle.decl_resolve.specs.Constraints.{all_hold}
use Rattle.decl_resolve.specs.Index.{PlainIndex}
use Rattle.decl_resolve.specs.Reading.{path_meant, path_faults, local_with, arg_faults, args_read}
use Rattle.decl_resolve.specs.Scopes.{PlainScope}
use Rattle.decl_resolve.specs.Written.{no_need, base_read, base_parts, base_type, base_faults, is_flat, at_suffix, suffix_parts, suffix_local, paths_from, parts_from, local_from, is_indexed, arrays_from, type_read, type_parts, judged_type, judged_faults, type_index, type_meant, type_faults}
use Rattle.lang_typed.specs.Plain.{PlainProgram, PlainClass}
use Rattle.lang_typed.specs.Scope.{Scope, class_at}
use Rattle.lang_typed.specs.Types.{GoodPath, LocalPath, GoodArgs, GoodType, IsFlat}
use Rattle.sound_lemmas.proofs.Free.{NoFaults, free_split, append_none, fault_none, not_false}
use Rattle.sound_lemmas.proofs.Known.{path_known}
use Rattle.sound_lemmas.proofs.Lists.{some_same, map_there}
use Rattle.sound_decls.proofs.written.Args.{args_good}
use Rattle.sound_decls.proofs.written.Indices.{is_written, AllSpeak, TypeSpeaks, own_reported, array_speaks, path_speaks, args_speak}
use Rattle.sound_decls.proofs.written.Paths.{Meaning, own, path_begun, begun_either}

-- the index names around what stands inside the rest of the suffixes
abbrev pub names_of : List Suffix → Option Named → List (Option Named)
names_of rest made = map (λ suffix. suffix.index) rest ++ made ∷ []

written_below : (rest : List Suffix) (made : Option Named) (j : ℕ) → is_written (names_of rest made) j ≡ true → j < suc (length rest)
written_below [] made zero h = omega arith
written_below [] made (suc j) h = cc
written_below (suffix ∷ rest) made zero h = omega arith
written_below (suffix ∷ rest) made (suc j) h = let l = written_below rest made j h in omega (arith, l)

drop_tail : {A : Type 0} (n : ℕ) (xs ys : List A) (y : A) → drop n xs ≡ y ∷ ys → drop (suc n) xs ≡ ys
drop_tail zero [] ys y h = cc
drop_tail zero (x ∷ xs) ys y h = let same : xs ≡ ys = cc in same
drop_tail (suc n) [] ys y h = cc
drop_tail (suc n) (x ∷ xs) ys y h = drop_tail n xs ys y h

drop_head : {A : Type 0} (n : ℕ) (xs ys : List A) (y : A) → drop n xs ≡ y ∷ ys → slice_get xs n ≡ Some y
drop_head zero [] ys y h = cc
drop_head zero (x ∷ xs) ys y h = let same : x ≡ y = cc in ap Some same
drop_head (suc n) [] ys y h = cc
drop_head (suc n) (x ∷ xs) ys y h = drop_head n xs ys y h

-- an array type is good, and mentions own indices of array types with index names alone
pub array_good : (P : PlainProgram) (L : Scope) (depth : ℕ) (first : Option Named) (names : List (Option Named)) (t : PlainType) (a : Rpl) →
    GoodType P L (suc depth) t → TypeSpeaks (first ∷ names) t → GoodPath P L (suc depth) a ⊎ (LocalPath P L 1 a × IsFlat t × (depth ≡ 0)) → AllSpeak (first ∷ names) a.elems →
    GoodType P L depth (array t a (is_some first)) × TypeSpeaks names (array t a (is_some first))
array_good P L depth first names t a good speaks path own =
    ((path, good, λ none. (silent (has_index 0 a) (λ h. own_reported (first ∷ names) 0 a.elems own h) none, silent (mentions_index 0 t) (λ h. speaks 0 h) none)), array_speaks first names t a (is_some first) own speaks)
  where
    silent : (b : Bool) → (b ≡ true → is_some first ≡ true) → is_some first ≡ false → b ≡ false
    silent b h none = false_from_ne_true b (λ t. false≢true (sym none ∙ h t))

dropped_short : {A : Type 0} (n : ℕ) (xs : List A) → length (drop n xs) ≤ length xs
dropped_short zero xs = omega arith
dropped_short (suc n) [] = omega arith
dropped_short (suc n) (x ∷ xs) = let l = dropped_short n xs in omega (arith, l)

-- own indices have numbers of 32 bits
pub few_written : (suffixes : List Suffix) (made : Option Named) → length suffixes ≤ 4294967295 → (at : ℕ) (j : ℕ) → is_written (names_of (drop at suffixes) made) j ≡ true → j ≤ 4294967295
few_written suffixes made few at j h =
    let l = written_below (drop at suffixes) made j h in
    let s = dropped_short at suffixes in
    omega (arith, l, s, few)

-- the class names around a place mean classes of the program
pub record ClassesMean (P : PlainProgram) (scope : PlainScope) : Type 0 where
  pub classes : (name at : ℕ) → class_of scope.headers name ≡ Some at →
      (k : PlainClass) × (class_at P at ≡ Some k) × (k.params ≡ map (λ param. param.atomic) (params_in scope.headers at)) × (k.given ≡ constraints_in scope.classes_given at)

-- a path that doesn't begin at a local region
pub not_in_local : (P : PlainProgram) (L : Scope) (depth : ℕ) (a : Rpl) → GoodPath P L depth a ⊎ LocalPath P L depth a → begins_local a.elems ≡ false → GoodPath P L depth a
not_in_local P L depth a (inl h) none = h
not_in_local P L depth a (inr h) none = let begins : true ≡ false = sym (ap (λ (z : Rpl). begins_local z.elems) h.is) ∙ none in cc

-- no local region is reported of where one path is read after another
local_kept : (scope : PlainScope) (around : PlainIndex) (at : ℕ) (before : Option Place) (rest : List Suffix) → local_from scope around at before rest ≡ None → before ≡ None
local_kept scope around at before [] h = h
local_kept scope around at before (suffix ∷ rest) h = kept before suffix.rpl (local_kept scope around (at + 1) (suffix_local scope (at_suffix around at) before suffix) rest h)
  where
    read : (before : Option Place) (tree : RplTree) (o : Option Rpl) → option_map_or (λ rpl. first_local before rpl tree.place) o before ≡ None → before ≡ None
    read None tree o h = refl
    read (Some p) tree None h = h
    read (Some p) tree (Some rpl) h = h

    kept : (before : Option Place) (o : Option RplTree) → option_map_or (local_with scope (at_suffix around at) before) o before ≡ None → before ≡ None
    kept before None h = h
    kept before (Some tree) h = read before tree (path_meant scope (at_suffix around at) tree) h

none_short : (scope : PlainScope) (around : PlainIndex) (at : ℕ) (rest : List Suffix) → length rest ≤ 0 → local_from scope around at None rest ≡ None
none_short scope around at [] l = refl
none_short scope around at (suffix ∷ rest) l = absurd (omega (arith, l))

module _ (P : PlainProgram) (L : Scope) (scope : PlainScope) (means : Meaning P L scope) (classes : ClassesMean P scope) (suffixes : List Suffix) (made : Option Named) (within : ℕ)
    (deep : own made ≤ within) (few : length suffixes ≤ 4294967295)
  where
    abbrev around : PlainIndex
    around = record { suffixes = suffixes; inside = 0; made = made }

    written_few : (at : ℕ) (j : ℕ) → is_written (names_of (drop at suffixes) made) j ≡ true → j ≤ 4294967295
    written_few = few_written suffixes made few

    -- what is read at a suffix
    record Suffixed (at : ℕ) (suffix : Suffix) (rest : List Suffix) (written : Option RplTree) (a : Rpl) : Type 0 where
      meant : option_map_or (path_meant scope (at_suffix around at)) written (Some root_path) ≡ Some a
      path : GoodPath P L (suc (within + length rest)) a ⊎ LocalPath P L (suc (within + length rest)) a
      speaks : AllSpeak (names_of (suffix ∷ rest) made) a.elems
      outside : option_map_or (local_with scope (at_suffix around at) None) written None ≡ None → begins_local a.elems ≡ false

    -- the path at a suffix
    suffix_path : (at : ℕ) (suffix : Suffix) (rest : List Suffix) → drop at suffixes ≡ suffix ∷ rest → NoFaults (suffix_parts scope (at_suffix around at) suffix) → (a : Rpl) × Suffixed at suffix rest suffix.rpl a
    suffix_path at suffix rest is free = by suffix.rpl free
      where
        depth_is : length (drop at suffixes) + own made ≤ suc (within + length rest)
        depth_is = let same = ap length is in omega (arith, same, deep)

        first : (tree : RplTree) (a : Rpl) → option_map_or (λ rpl. first_local None rpl tree.place) (Some a) None ≡ None → begins_local a.elems ≡ false
        first tree a h = of (begins_local a.elems) h
          where
            of : (b : Bool) → cond (true && b) (Some tree.place) None ≡ None → b ≡ false
            of true h = cc
            of false h = refl

        by : (o : Option RplTree) → NoFaults (option_map_or (λ tree. path_faults scope (at_suffix around at) no_need tree ∷ []) o []) → (a : Rpl) × Suffixed at suffix rest o a
        by None free = (root_path, record { meant = refl; path = inl (record { begins = tt; elems = All-nil _ }); speaks = tt; outside = λ _. refl })
        by (Some tree) free =
            let w = path_known scope (at_suffix around at) no_need tree free.0 in (
              w.0,
              record {
                meant = w.1;
                path = begun_either P L scope means (suc (within + length rest)) w.0 (path_begun P L scope means (at_suffix around at) (suc (within + length rest)) depth_is tree w.0 w.1);
                speaks = subst (λ z. AllSpeak (names_of z made) w.0.elems) is (path_speaks scope (at_suffix around at) (written_few at) tree w.0 w.1);
                outside = λ none. first tree w.0 (sym (ap (λ o. option_map_or (λ rpl. first_local None rpl tree.place) o None) w.1) ∙ none);
              },
            )

    -- only the path of an array of ints or booleans that is no element may begin at a local region
    abbrev Locals : ℕ → List Suffix → PlainType → Type 0
    Locals at rest t = (local_from scope around at None rest ≡ None) ⊎ (IsFlat t × (within + length rest ≤ 1))

    path_fits : (at : ℕ) (suffix : Suffix) (rest : List Suffix) (t : PlainType) (a : Rpl) → Suffixed at suffix rest suffix.rpl a → Locals at (suffix ∷ rest) t →
        (GoodPath P L (suc (within + length rest)) a ⊎ (LocalPath P L 1 a × IsFlat t × (within + length rest ≡ 0))) × (local_from scope around (at + 1) None rest ≡ None)
    path_fits at suffix rest t a w (inl none) =
        let k = local_kept scope around (at + 1) (suffix_local scope (at_suffix around at) None suffix) rest none in
        (inl (not_in_local P L (suc (within + length rest)) a w.path (w.outside k)), subst (λ o. local_from scope around (at + 1) o rest ≡ None) k none)
    path_fits at suffix rest t a w (inr flat) =
        let l = flat.1 in
        let shallow : within + length rest ≡ 0 = omega (arith, l) in
        let short : length rest ≤ 0 = omega (arith, l) in (
          elim w.path [ inl good ↦ inl good | inr in_local ↦ inr (subst (λ z. LocalPath P L (suc z) a) shallow in_local, flat.0, shallow) ],
          none_short scope around (at + 1) rest short,
        )

    abbrev Good : List Suffix → ℕ → PlainType → Type 0
    Good rest depth t = GoodType P L depth t × TypeSpeaks (names_of rest made) t

    -- an array type for each suffix
    arrays_good : (rest : List Suffix) (at : ℕ) (t : PlainType) → drop at suffixes ≡ rest → NoFaults (parts_from scope around at rest) → Locals at rest t → Good rest (within + length rest) t →
        Good [] within (arrays_from around at t (paths_from scope around at rest))
    arrays_good [] at t is free local good = let same : within + 0 ≡ within = omega arith in (subst (λ z. GoodType P L z t) same good.0, good.1)
    arrays_good (suffix ∷ rest) at t is free local good =
        let f = free_split (suffix_parts scope (at_suffix around at) suffix) (parts_from scope around (at + 1) rest) free in
        let w = suffix_path at suffix rest is f.0 in
        let p = path_fits at suffix rest t w.0 w.1 local in
        let same : within + suc (length rest) ≡ suc (within + length rest) = omega arith in
        let next : suc at ≡ at + 1 = omega arith in
        let one = array_good P L (within + length rest) suffix.index (names_of rest made) t w.0 (subst (λ z. GoodType P L z t) same good.0) good.1 p.0 w.1.speaks in
        let indexed : is_some suffix.index ≡ is_indexed around at = sym (ap (λ o. option_map_or (λ (suffix : Suffix). is_some suffix.index) o false) (drop_head at suffixes rest suffix is)) in
        subst (λ o. Good [] within (arrays_from around at t (cons_option o (paths_from scope around (at + 1) rest)))) (sym w.1.meant)
        (arrays_good rest (at + 1) (array t w.0 (is_indexed around at)) (subst (λ z. drop z suffixes ≡ rest) next (drop_tail at suffixes rest suffix is)) f.1 (inl p.1)
        (subst (λ b. Good rest (within + length rest) (array t w.0 b)) indexed one))

    abbrev Based : BaseTree → PlainType → Type 0
    Based tree t = Good suffixes (within + length suffixes) t × (is_flat (base_read scope around tree) ≡ true → IsFlat t)

    -- what a type begins with
    base_good : (tree : BaseTree) (place : Place) (t : PlainType) → NoFaults (base_parts scope around tree) → base_faults scope (base_read scope around tree) place ≡ [] →
        base_type scope (base_read scope around tree) ≡ Some t → Based tree t
    base_good base.Int place t free reported is = subst (Based base.Int) (some_same is) ((tt, λ k h. cc), λ _. inl refl)
    base_good base.Bool place t free reported is = subst (Based base.Bool) (some_same is) ((tt, λ k h. cc), λ _. inr refl)
    base_good (base.Class name args) place t free reported is = (by (class_of scope.headers name.name) (classes.classes name.name) free reported is, λ flat. cc)
      where
        depth_is : length suffixes + own made ≤ within + length suffixes
        depth_is = omega (arith, deep)

        held : (at : ℕ) (rs : List Rpl) (o : Option (List Rpl)) → o ≡ Some rs → option_map_or (constraint_fault scope.given (constraints_in scope.classes_given at) place) o [] ≡ [] →
            all_hold scope.given rs (constraints_in scope.classes_given at) ≡ true
        held at rs o is h =
            not_false (all_hold scope.given rs (constraints_in scope.classes_given at))
            (fault_none (not (all_hold scope.given rs (constraints_in scope.classes_given at))) kind.Constraint place
            (sym (ap (λ z. option_map_or (constraint_fault scope.given (constraints_in scope.classes_given at) place) z []) is) ∙ h))

        by : (o : Option ℕ) →
            ((at : ℕ) → o ≡ Some at → (k : PlainClass) × (class_at P at ≡ Some k) × (k.params ≡ map (λ param. param.atomic) (params_in scope.headers at)) × (k.given ≡ constraints_in scope.classes_given at)) →
            NoFaults (arg_faults scope around (option_map_or (params_in scope.headers) o []) false args) → class_faults scope.headers scope.classes_given scope.given name o (args_read scope around args) place ≡ [] →
            class_type scope.headers o (args_read scope around args) ≡ Some t → Good suffixes (within + length suffixes) t
        by None means_class free reported is = cc
        by (Some at) means_class free reported is =
            let k = means_class at refl in
            let w = map_there (class at) (class_args scope.headers at (args_read scope around args)) t is in
            let f = append_none (args_faults (args_read scope around args).local (length args) (params_in scope.headers at) place) _ reported in
            let hold = held at w.0 (class_args scope.headers at (args_read scope around args)) w.1 f.1 in
            let g = args_good P L scope means around (within + length suffixes) depth_is (params_in scope.headers at) false place args w.0 [] (constraints_in scope.classes_given at) free f.0 w.1 hold in
            subst (Good suffixes (within + length suffixes)) w.2 (
              (k.0, k.1, subst (λ z. GoodArgs P L (within + length suffixes) z k.0.given [] w.0) (sym k.2) (subst (λ z. GoodArgs P L (within + length suffixes) (map (λ param. param.atomic) (params_in scope.headers at)) z [] w.0) (sym k.3) g.0)),
              args_speak scope around (written_few 0) at args (params_in scope.headers at) w.0 w.1,
            )

    -- a type that is read
    pub judged_good : (tree : BaseTree) (place : Place) (t : PlainType) → NoFaults (type_parts scope around tree) → base_faults scope (base_read scope around tree) place ≡ [] →
        (local_from scope around 0 None suffixes ≡ None) ⊎ ((is_flat (base_read scope around tree) ≡ true) × (within + length suffixes ≤ 1)) → judged_type scope around (type_read scope around tree) ≡ Some t →
        Good [] within t × (is_flat (base_read scope around tree) ≡ true → length suffixes ≡ 0 → IsFlat t)
    judged_good tree place t free reported local is =
        let f = free_split (base_parts scope around tree) (parts_from scope around 0 suffixes) free in
        by f.1 (length (paths_from scope around 0 suffixes) == length suffixes) (base_type scope (base_read scope around tree)) (λ u. base_good tree place u f.0 reported) is
      where
        plain : (rest : List Suffix) (u : PlainType) → length rest ≡ 0 → arrays_from around 0 u (paths_from scope around 0 rest) ≡ u
        plain [] u l = refl
        plain (suffix ∷ rest) u l = absurd (omega (arith, l))

        by : NoFaults (parts_from scope around 0 suffixes) → (b : Bool) (o : Option PlainType) → ((u : PlainType) → o ≡ Some u → Based tree u) →
            cond b (option_map (λ elem. arrays_from around 0 elem (paths_from scope around 0 suffixes)) o) None ≡ Some t →
            Good [] within t × (is_flat (base_read scope around tree) ≡ true → length suffixes ≡ 0 → IsFlat t)
        by free false o good is = cc
        by free true None good is = cc
        by free true (Some u) good is =
            let g = good u refl in
            let e = some_same is in (
              subst (Good [] within) e (arrays_good suffixes 0 u refl free (elim local [ inl none ↦ inl none | inr flat ↦ inr (g.1 flat.0, flat.1) ]) g.0),
              λ flat none. subst IsFlat (sym (plain suffixes u none) ∙ e) (g.1 flat),
            )

-- a written type without faults is good where it stands
pub type_good : (P : PlainProgram) (L : Scope) (scope : PlainScope) → Meaning P L scope → ClassesMean P scope → (tree : TypeTree) (t : PlainType) → length tree.suffixes ≤ 4294967295 →
    NoFaults (type_faults scope tree) → type_meant scope tree ≡ Some t → GoodType P L 0 t
type_good P L scope means classes tree t few free is =
    let f = free_split (type_parts scope (type_index tree) tree.base) (judged_faults scope (type_index tree) (type_read scope (type_index tree) tree.base) tree.place ∷ []) free in
    let j = append_none (local_fault (local_from scope (type_index tree) 0 None tree.suffixes) (is_flat (base_read scope (type_index tree) tree.base) && nat_le (length tree.suffixes) 1))
    (base_faults scope (base_read scope (type_index tree) tree.base) tree.place) f.1.0 in
    (judged_good P L scope means classes tree.suffixes None 0 (omega arith) few tree.base tree.place t f.0 j.1
    (local_reported (local_from scope (type_index tree) 0 None tree.suffixes) (is_flat (base_read scope (type_index tree) tree.base)) j.0) is).0.0
  where
    local_reported : (o : Option Place) (b : Bool) → local_fault o (b && nat_le (length tree.suffixes) 1) ≡ [] → (o ≡ None) ⊎ ((b ≡ true) × (0 + length tree.suffixes ≤ 1))
    local_reported None b h = inl refl
    local_reported (Some p) b h =
        let a = and_parts b (nat_le (length tree.suffixes) 1) (not_false (b && nat_le (length tree.suffixes) 1) (fault_none (not (b && nat_le (length tree.suffixes) 1)) kind.LocalRegion p h)) in
        let l = leb-true (length tree.suffixes) 1 a.1 in
        inr (a.0, omega (arith, l))
