-- Statements: one rule a construct, with the effects that it has.
use Rattle.std.specs.Prelude.{◌≡◌, ◌↔◌, ℕ, ◌==◌, ◌+◌, ◌<◌, ◌⊎◌, Bool, true, false, cond, ◌&&◌, ◌||◌, IsTrue, List, [], ◌∷◌, ◌++◌, All, AllPairs, Contains, Some, None}
use Rattle.std.specs.List.{list_any}
use Rattle.lang_base.specs.declared.effect.Effect.{Effect}
use Rattle.lang_base.specs.declared.place.Place.{Place}
use Rattle.lang_base.specs.declared.region.Rpl.{Rpl}
use Rattle.lang_base.specs.Branches.{lists_clash, iterations_clash}
use Rattle.lang_base.specs.Regions.{is_any, substituted, fully_specified}
use Rattle.lang_base.specs.Types.{PlainType, int, boolean, void, class, array, type_with, path_at, type_at, mentions_index}
use Rattle.lang_typed.specs.declared.stmt.Forking.{Forking}
use Rattle.lang_typed.specs.declared.stmt.Forking.TheVariants.{Deterministic}
use Rattle.lang_typed.specs.Plain.{PlainProgram, PlainField, TypedExpr, type_of, form_of, Source, of_array, of_part, TypedStmt, statement, TypedStmts, no_stmts, more_stmts, TypedBranches, no_branches, more_branches}
use Rattle.lang_typed.specs.Plain.{ExprForm as expr}
use Rattle.lang_typed.specs.Plain.{StmtForm as form}
use Rattle.lang_typed.specs.Scope.{Scope, Local, variable, constant, part, reserved, with_local, with_regions, in_atomic_block, in_loop_branch, in_branch, field_at, atomic_for}
use Rattle.lang_typed.specs.Effects.{Own, does, uses, writes, as_effects, through_part, besides_part, after_block, after_branches, outside_variable, outside_regions, after_parts}
use Rattle.lang_typed.specs.Types.{GoodType, Subtype, Known}
use Rattle.lang_typed.specs.Typing.{Has, index_elem}

-- a statement completes unless it is a `return`, a block in which one doesn't, or an `if` with an `else` of which neither part does
abbrev mutual
  pub completes : TypedStmt → Bool
  completes (statement at form.return_nothing) = false
  completes (statement at (form.return_value e)) = false
  completes (statement at (form.block ss)) = all_complete ss
  completes (statement at (form.choice_else test a b)) = completes a || completes b
  completes s = true

  pub all_complete : TypedStmts → Bool
  all_complete no_stmts = true
  all_complete (more_stmts s ss) = completes s && all_complete ss

-- a final local keeps its value
abbrev pub declared_as : Bool → PlainType → Local
declared_as is_final t = cond is_final (constant t) (variable t)

-- the slots of a part: its own, three more, and that of the loop's variable
abbrev pub with_part : ℕ → PlainType → Rpl → Scope → Scope
with_part k t a L =
    with_local (k + 4) (constant int) (with_local (k + 3) reserved (with_local (k + 2) reserved (with_local (k + 1) reserved (with_local k (part t a) L))))

-- a slot of the member that nothing in scope has
abbrev pub IsFree : Scope → ℕ → Type 0
IsFree L x = (L.local x ≡ None) × (x < L.slots)

-- the first has exactly the effects of the second
abbrev pub SameEffects : List Effect → List Effect → Type 0
SameEffects F E = (e : Effect) → Contains F e ↔ Contains E e

-- no two branches clash
abbrev pub NoClash : PlainProgram → Forking → Scope → List (List Own) → Type 0
NoClash P forking L Es = AllPairs (λ E F. lists_clash L.given (atomic_for forking P L) (as_effects E) (as_effects F) ≡ false) Es

abbrev pub joined : List (List Own) → List Own
joined [] = []
joined (E ∷ Es) = E ++ joined Es

abbrev pub all_copies : TypedBranches → List ℕ
all_copies no_branches = []
all_copies (more_branches copies s bs) = copies ++ all_copies bs

-- none of the first is among the second
abbrev pub AreApart : List ℕ → List ℕ → Type 0
AreApart xs ys = All (λ x. list_any (λ y. x == y) ys ≡ false) xs

abbrev pub IsVariable : Scope → ℕ → Type 0
IsVariable L x = (t : PlainType) × (L.local x ≡ Some (variable t))

abbrev pub IsPerformed : TypedExpr → Type 0
IsPerformed e = ((of : TypedExpr) × (c r : ℕ) × (regions : _) × (es : _) × (form_of e ≡ expr.call of c r regions es)) ⊎ ((es : _) × (form_of e ≡ expr.create es))

-- what is cut into parts: an array whose type is written without an index name, or a part; its elements and their region
pub data Cuts (P : PlainProgram) (L : Scope) : Source → PlainType → Rpl → List Own → Type 0 where
  cuts_array : {e : TypedExpr} {t : PlainType} {a : Rpl} {E : List Own} →
      Has P L e E → type_of e ≡ array t a false → IsTrue (fully_specified a) → Cuts P L (of_array e) t a E
  cuts_part : {k : ℕ} {t : PlainType} {a : Rpl} → L.local k ≡ Some (part t a) → Cuts P L (of_part k) t a []

mutual
  pub data Passes (P : PlainProgram) : Scope → TypedStmt → List Own → Type 0 where
    store : {L : Scope} {at : Place} {x : ℕ} {t : PlainType} {e : TypedExpr} {E : List Own} →
        L.local x ≡ Some (variable t) → Has P L e E → Subtype P (type_of e) t → Passes P L (statement at (form.store x e)) E
    -- o.f = e: writes the field's region; the field's type is known
    store_field : {L : Scope} {at : Place} {o e : TypedExpr} {c k : ℕ} {args : List Rpl} {f : PlainField} {E F : List Own} →
        Has P L o E → type_of o ≡ class c args → field_at P c k ≡ Some f → Known args f.ty →
        Has P L e F → Subtype P (type_of e) (type_with args f.ty) →
        Passes P L (statement at (form.store_field o c k e)) (E ++ (F ++ does (writes (substituted args f.region)) ∷ []))
    -- a[i] = e: writes the array's region at the index; at one that isn't known the element's type may not mention it
    store_element : {L : Scope} {at : Place} {a i e : TypedExpr} {t : PlainType} {rpl : Rpl} {named : Bool} {E F G : List Own} →
        Has P L a E → type_of a ≡ array t rpl named → Has P L i F → type_of i ≡ int →
        (IsTrue (is_any (index_elem L i)) → mentions_index 0 t ≡ false) →
        Has P L e G → Subtype P (type_of e) (type_at 0 (index_elem L i) t) →
        Passes P L (statement at (form.store_element a i e)) (E ++ (F ++ (G ++ does (writes (path_at 0 (index_elem L i) rpl)) ∷ [])))
    store_part : {L : Scope} {at : Place} {k : ℕ} {t : PlainType} {a : Rpl} {i e : TypedExpr} {E F : List Own} →
        L.local k ≡ Some (part t a) → Has P L i E → type_of i ≡ int → Has P L e F → Subtype P (type_of e) t →
        Passes P L (statement at (form.store_part k i e)) (E ++ (F ++ uses k (writes a) ∷ []))
    perform : {L : Scope} {at : Place} {e : TypedExpr} {E : List Own} → IsPerformed e → Has P L e E → Passes P L (statement at (form.perform e)) E
    nested : {L : Scope} {at : Place} {ss : TypedStmts} {E : List Own} → AllPass P L ss E → Passes P L (statement at (form.block ss)) E
    -- a part without braces is a block of its own
    choice : {L : Scope} {at : Place} {e : TypedExpr} {s : TypedStmt} {E F : List Own} →
        Has P L e E → type_of e ≡ boolean → AllPass P L (more_stmts s no_stmts) F → Passes P L (statement at (form.choice e s)) (E ++ F)
    choice_else : {L : Scope} {at : Place} {e : TypedExpr} {s t : TypedStmt} {E F G : List Own} →
        Has P L e E → type_of e ≡ boolean → AllPass P L (more_stmts s no_stmts) F → AllPass P L (more_stmts t no_stmts) G →
        Passes P L (statement at (form.choice_else e s t)) (E ++ (F ++ G))
    while_loop : {L : Scope} {at : Place} {e : TypedExpr} {s : TypedStmt} {E F : List Own} →
        Has P L e E → type_of e ≡ boolean → AllPass P L (more_stmts s no_stmts) F → Passes P L (statement at (form.while_loop e s)) (E ++ F)
    return_nothing : {L : Scope} {at : Place} → L.result ≡ Some void → Passes P L (statement at form.return_nothing) []
    return_value : {L : Scope} {at : Place} {e : TypedExpr} {t : PlainType} {E : List Own} →
        L.result ≡ Some t → Has P L e E → Subtype P (type_of e) t → Passes P L (statement at (form.return_value e)) E
    print_int : {L : Scope} {at : Place} {e : TypedExpr} {E : List Own} → Has P L e E → type_of e ≡ int → Passes P L (statement at (form.print_int e)) E
    print_boolean : {L : Scope} {at : Place} {e : TypedExpr} {E : List Own} → Has P L e E → type_of e ≡ boolean → Passes P L (statement at (form.print_boolean e)) E
    print_text : {L : Scope} {at : Place} {text : List ℕ} → Passes P L (statement at (form.print_text text)) []
    -- an atomic block: all that it does is marked, and with exactly that it is entered; it reaches no nd construct
    atomic : {L : Scope} {at : Place} {entry : List Effect} {ss : TypedStmts} {E : List Own} →
        AllPass P (in_atomic_block L) ss E → SameEffects entry (as_effects (after_block E)) →
        Passes P L (statement at (form.atomic entry ss)) (after_block E)
    -- no two branches clash, and none sees what another assigns
    cobegin : {L : Scope} {at : Place} {forking : Forking} {bs : TypedBranches} {Es : List (List Own)} →
        (IsTrue L.nd_free → forking ≡ Deterministic) → BranchesPass P L [] bs Es → NoClash P forking L Es →
        Passes P L (statement at (form.cobegin forking bs)) (after_branches forking (joined Es))
    -- no iteration clashes with another, of which the loop's variable is the renamed copy
    foreach : {L : Scope} {at : Place} {forking : Forking} {x : ℕ} {start count : TypedExpr} {s : TypedStmt} {E F G : List Own} →
        (IsTrue L.nd_free → forking ≡ Deterministic) → Has P L start E → type_of start ≡ int → Has P L count F → type_of count ≡ int →
        IsFree L x → AllPass P (with_local x (constant int) (in_loop_branch L)) (more_stmts s no_stmts) G →
        iterations_clash L.given (atomic_for forking P L) x (as_effects G) ≡ false →
        Passes P L (statement at (form.foreach forking x start count s)) (E ++ (F ++ outside_variable x (after_branches forking G)))
    -- the same of parts: what isn't done through the iteration's own part clashes neither with another iteration nor with
    -- what is done through a part
    foreach_parts : {L : Scope} {at : Place} {k : ℕ} {source : Source} {count : TypedExpr} {s : TypedStmt} {t : PlainType} {a : Rpl} {E F G : List Own} →
        Cuts P L source t a E → Has P L count F → type_of count ≡ int → All (λ i. IsFree L (k + i)) (0 ∷ 1 ∷ 2 ∷ 3 ∷ 4 ∷ []) →
        AllPass P (with_part k t a (in_loop_branch L)) (more_stmts s no_stmts) G →
        iterations_clash L.given None (k + 4) (besides_part k G) ≡ false → lists_clash L.given None (besides_part k G) (through_part k G) ≡ false →
        Passes P L (statement at (form.foreach_parts k source count s))
        (E ++ (F ++ outside_variable (k + 4) (after_branches Deterministic (after_parts k source G))))

  -- the statements of a block, one after the other; none stands behind one that doesn't complete
  pub data AllPass (P : PlainProgram) : Scope → TypedStmts → List Own → Type 0 where
    no_more : {L : Scope} → AllPass P L no_stmts []
    then' : {L : Scope} {s : TypedStmt} {ss : TypedStmts} {E F : List Own} →
        Passes P L s E → IsTrue (completes s) ⊎ (ss ≡ no_stmts) → AllPass P L ss F → AllPass P L (more_stmts s ss) (E ++ F)
    -- t x = e; where x was free, up to the end of the block
    declare : {L : Scope} {at : Place} {x : ℕ} {t : PlainType} {is_final : Bool} {e : TypedExpr} {ss : TypedStmts} {E F : List Own} →
        IsFree L x → GoodType P L 0 t → Has P L e E → Subtype P (type_of e) t →
        AllPass P (with_local x (declared_as is_final t) L) ss F →
        AllPass P L (more_stmts (statement at (form.declare x t is_final e)) ss) (E ++ outside_variable x F)
    declare_regions : {L : Scope} {at : Place} {rs : List ℕ} {ss : TypedStmts} {F : List Own} →
        All (λ r. (L.regions r ≡ false) × (r < L.local_regions)) rs → AllPass P (with_regions rs L) ss F →
        AllPass P L (more_stmts (statement at (form.local_regions rs)) ss) (outside_regions rs F)

  -- the branches of a `cobegin`, after ones that assign these outer locals; no two branches assign the same one
  pub data BranchesPass (P : PlainProgram) : Scope → List ℕ → TypedBranches → List (List Own) → Type 0 where
    no_branch : {L : Scope} {others : List ℕ} → BranchesPass P L others no_branches []
    one_branch : {L : Scope} {others copies : List ℕ} {s : TypedStmt} {bs : TypedBranches} {E : List Own} {Es : List (List Own)} →
        All (IsVariable L) copies → AreApart copies (others ++ all_copies bs) →
        AllPass P (in_branch copies (others ++ all_copies bs) L) (more_stmts s no_stmts) E →
        BranchesPass P L (others ++ copies) bs Es → BranchesPass P L others (more_branches copies s bs) (E ∷ Es)
