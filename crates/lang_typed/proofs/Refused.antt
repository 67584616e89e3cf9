-- The small programs that aren't well typed.
use Rattle.std.proofs.Common.{◌≡◌, ℕ, Bool, true, false, List, [], ◌∷◌, None, Some, refl, sym, subst, ◌∙◌, arith, option_map}
use Rattle.std.proofs.lemmas.Bool.{false≢true}
use Rattle.lang_base.specs.declared.elems.Elem.TheVariants.{Name, At}
use Rattle.lang_base.specs.declared.elems.Index.TheVariants.{Variable}
use Rattle.lang_base.specs.declared.elems.Index.TheVariants as index
use Rattle.lang_base.specs.declared.region.Head.TheVariants.{Param}
use Rattle.lang_base.specs.declared.region.Rpl.{Rpl}
use Rattle.lang_base.specs.Apart.{apart}
use Rattle.lang_base.specs.Branches.{clashes, lists_clash, iterations_clash}
use Rattle.lang_base.specs.Effects.{interferes}
use Rattle.lang_base.specs.Regions.{within, substituted, fully_specified, argument}
use Rattle.lang_base.specs.Types.{PlainType, int, class, array, path_at}
use Rattle.lang_typed.specs.Plain.{PlainClass, PlainField, TypedStmts, more_stmts, no_stmts}
use Rattle.lang_typed.specs.Effects.{Own, writes, as_effects}
use Rattle.lang_typed.specs.Scope.{Scope, constant, variable, with_local, read_alone, in_loop_branch}
use Rattle.lang_typed.specs.Samples.{two_fields, two_branches, two_writes, writes_field, by_index, fills_one, fills_array, filled, cell, unlinks, linked, in_a, any_below_a, below_root, main_class, main_member, program_of}
use Rattle.lang_typed.specs.Statements.{AllPass, store_field, store_element, cobegin, foreach, declare, no_more, then', no_branch, one_branch}
use Rattle.lang_typed.specs.Table.{GoodMember, body_scope}
use Rattle.lang_typed.specs.Types.{Known}
use Rattle.lang_typed.specs.Typing.{literal_int, read_local, variable_elem}
use Rattle.lang_typed.specs.WellTyped.{WellTyped}
use Rattle.lang_typed.proofs.Single.{some_is}

-- the body of the method of a well-typed program passes in `Main`
body_passes : (fields : List PlainField) (classes : List PlainClass) (slots : ℕ) (body : TypedStmts) → WellTyped (program_of fields classes slots body) →
    (never : ℕ → Bool) × (E : List Own) × AllPass (program_of fields classes slots body) (body_scope (main_class fields) never 0 (main_member slots body)) body E
body_passes fields classes slots body w =
    let g : GoodMember (program_of fields classes slots body) w.member_nd_free 0 (main_member slots body) = w.members 0 (main_member slots body) refl in (
      w.member_nd_free,
      g.effects,
      subst (λ k. AllPass (program_of fields classes slots body) (body_scope k w.member_nd_free 0 (main_member slots body)) body g.effects)
          (sym (some_is (main_class fields) g.class g.is)) g.passes,
    )

-- a branch that writes the first field writes in A
wrote_is : (L : Scope) (v : ℕ) (E : List Own) → AllPass (two_writes 0) L (more_stmts (writes_field 0 v) no_stmts) E → as_effects E ≡ writes in_a ∷ []
unfolding substituted
wrote_is L v E (then' (store_field {args = args} {f = f} (read_local h) t there k (literal_int z) s) c no_more) =
    subst (λ (z : PlainField). writes (substituted args z.region) ∷ [] ≡ writes in_a ∷ []) (some_is _ f there) refl

-- two writes in one region clash
one_region : lists_clash [] None (writes in_a ∷ []) (writes in_a ∷ []) ≡ true
unfolding clashes interferes apart within
one_region = refl

both_write : (L : Scope) (E : List Own) → L.given ≡ [] → AllPass (two_writes 0) L (two_branches 0) E → ⊥
both_write L E given (then' (cobegin c (one_branch {E = F} v a p (one_branch {E = G} v' a' q no_branch)) clash) d r) =
    let e : lists_clash L.given None (as_effects F) (as_effects G) ≡ false = clash 0 1 [] (omega arith) (omega arith) in
    let e' : lists_clash [] None (writes in_a ∷ []) (writes in_a ∷ []) ≡ false =
    subst (λ z. lists_clash z None (writes in_a ∷ []) (writes in_a ∷ []) ≡ false) given
    (subst (λ z. lists_clash L.given None z (writes in_a ∷ []) ≡ false) (wrote_is _ 1 F p) (subst (λ z. lists_clash L.given None (as_effects F) z ≡ false) (wrote_is _ 2 G q) e)) in
    false≢true (sym e' ∙ one_region)

pub field_twice : WellTyped (two_writes 0) → ⊥
field_twice w = let b = body_passes two_fields [] 2 (two_branches 0) w in both_write _ b.1 refl b.2

-- an iteration that writes at the index of another local writes there in each
abbrev at_slot_3 : Rpl
at_slot_3 = path_at 0 (At (Variable 3)) (below_root (Name 0 ∷ At (index.Own 0) ∷ []))

array_is : (t u : PlainType) (a b : Rpl) (n m : Bool) → array t a n ≡ array u b m → a ≡ b
array_is t u a b n m e = cc

fills_is : (L : Scope) (E : List Own) → L.local 3 ≡ Some (constant int) →
    AllPass (filled 4 3) (with_local 4 (constant int) (in_loop_branch L)) (more_stmts (fills_one 4 3) no_stmts) E → as_effects E ≡ writes at_slot_3 ∷ []
fills_is L E h (then' (store_element {t = t} {rpl = rpl} {named = n} (read_local a) is (read_local i) it k (read_local v) s) c no_more) =
    subst (λ z. writes (path_at 0 (variable_elem 3 (option_map read_alone z)) rpl) ∷ [] ≡ writes at_slot_3 ∷ []) (sym h)
    (subst (λ z. writes (path_at 0 (At (Variable 3)) z) ∷ [] ≡ writes at_slot_3 ∷ []) (array_is _ _ _ _ _ _ is) refl)

one_clash : iterations_clash [] None 4 (writes at_slot_3 ∷ []) ≡ true
unfolding clashes interferes apart within
one_clash = refl

one_index : (L : Scope) (E : List Own) → L.given ≡ [] → AllPass (filled 4 3) L (fills_array 4 3) E → ⊥
one_index L E given (then' x c r) = elim x [ ]
one_index L E given (declare f g h s (then' x c r)) = elim x [ ]
one_index L E given (declare f g h s (declare f' g' h' s' (then' (foreach {G = G} c a it b jt free p clash) d r))) =
    let e : iterations_clash [] None 4 (writes at_slot_3 ∷ []) ≡ false =
    subst (λ z. iterations_clash z None 4 (writes at_slot_3 ∷ []) ≡ false) given (subst (λ z. iterations_clash L.given None 4 z ≡ false) (fills_is (with_local 3 (constant int) (with_local 2 (variable by_index) L)) G refl p) clash) in
    false≢true (sym e ∙ one_clash)

pub element_often : WellTyped (filled 4 3) → ⊥
element_often w = let b = body_passes [] [] 5 (fills_array 4 3) w in one_index _ b.1 refl b.2

-- the loop's variable is in scope already
not_free : (L : Scope) (E : List Own) → AllPass (filled 3 3) L (fills_array 3 3) E → ⊥
not_free L E (then' x c r) = elim x [ ]
not_free L E (declare f g h s (then' x c r)) = elim x [ ]
not_free L E (declare f g h s (declare f' g' h' s' (then' (foreach c a it b jt free p clash) d r))) = absurd (let z : Some _ ≡ None = free.0 in cc)

pub element_of_same : WellTyped (filled 3 3) → ⊥
element_of_same w = let b = body_passes [] [] 5 (fills_array 3 3) w in not_free _ b.1 b.2

abbrev own_path : Rpl
own_path = record { head = Param 0; elems = [] }

class_is : (c d : ℕ) (rs ss : List Rpl) → class c rs ≡ class d ss → rs ≡ ss
class_is c d rs ss e = cc

in_part : (L : Scope) (E : List Own) → AllPass (linked any_below_a) L (unlinks any_below_a) E → ⊥
in_part L E (then' x c r) = elim x [ ]
in_part L E (declare f g h s (then' (store_field {args = args} {f = m} o is there known e u) d r)) =
    let k : Known args (class 1 (own_path ∷ [])) = subst (λ (z : PlainField). Known args z.ty) (sym (some_is _ m there)) known in
    false≢true (subst (λ z. fully_specified (argument z 0) ≡ true) (sym (class_is 1 1 (any_below_a ∷ []) args is)) (k 0 refl))

pub partial_write : WellTyped (linked any_below_a) → ⊥
partial_write w = let b = body_passes [] (cell ∷ []) 3 (unlinks any_below_a) w in in_part _ b.1 b.2
