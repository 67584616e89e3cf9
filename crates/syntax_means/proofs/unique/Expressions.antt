-- An expression means one typed expression, in two programs that agree, where the judgement fixes the types.
use Rattle.std.proofs.Common.{◌≡◌, ◌∙◌, ℕ, Bool, List, [], ◌∷◌, ◌++◌, Some, refl, ap, sym, subst}
use Rattle.lang_base.specs.declared.place.Place.{Place}
use Rattle.lang_base.specs.declared.region.Rpl.{Rpl}
use Rattle.lang_base.specs.Types.{PlainType, type_with, type_at}
use Rattle.lang_base.specs.Types.{PlainType as ty}
use Rattle.syntax_tree.specs.declared.class.Program.{Program}
use Rattle.syntax_tree.specs.declared.region.RplTree.{RplTree}
use Rattle.syntax_tree.specs.Plain.{PlainExpr, PlainExprs}
use Rattle.lang_typed.specs.Effects.{Own}
use Rattle.lang_typed.specs.Plain.{PlainProgram, PlainField, PlainMember, TypedExpr, typed, type_of, TypedExprs, no_exprs, more_exprs}
use Rattle.lang_typed.specs.Plain.{ExprForm as form}
use Rattle.lang_typed.specs.Scope.{Scope, Above, part, field_at, member_at, row_at}
use Rattle.lang_typed.specs.Typing.{Has, Fit, Holds, index_elem}
use Rattle.syntax_means.specs.Bodies.{ExprMeans, ExprsMean, FieldIn}
use Rattle.syntax_means.specs.Declares.{method_name}
use Rattle.syntax_means.specs.Paths.{Around, ArgsMean}
use Rattle.syntax_means.proofs.unique.Agreed.{Agreed, above_one, field_same, row_one, row_same, slot_one}
use Rattle.syntax_means.proofs.unique.Lists.{both_some}
use Rattle.syntax_means.proofs.unique.Paths.{OneNumber, args_one, class_one, form_one, path_or_root_one}
use Rattle.syntax_means.proofs.unique.Scopes.{ScopesAlike, held_one, held_no_part, part_not_held, part_one, element_same}

-- each of the actuals has its type
abbrev pub AllHave : PlainProgram → Scope → TypedExprs → Type 0
AllHave P L no_exprs = Unit {0}
AllHave P L (more_exprs e es) = ((E : List Own) × Has P L e E) × AllHave P L es

all_have : {P : PlainProgram} {L : Scope} {es : TypedExprs} {ts : List PlainType} {F : List Own} → Fit P L es ts F → AllHave P L es
all_have Fit.none = tt
all_have (Fit.one_more {E = E} h fits rest) = ((E, h), all_have rest)

-- where an expression is one in both, the classes and the arguments that its type has are the same
class_same : {o p : TypedExpr} {c d : ℕ} {a b : List Rpl} → o ≡ p → type_of o ≡ ty.class c a → type_of p ≡ ty.class d b → (c ≡ d) × (a ≡ b)
class_same {c = c} {d = d} {a = a} {b = b} same e f = let both : ty.class c a ≡ ty.class d b = sym e ∙ ap type_of same ∙ f in (cc both, cc both)

array_same : {o p : TypedExpr} {t u : PlainType} {a b : Rpl} {named other : Bool} → o ≡ p → type_of o ≡ ty.array t a named → type_of p ≡ ty.array u b other → t ≡ u
array_same {t = t} {u = u} {a = a} {b = b} {named = named} {other = other} same e f = let both : ty.array t a named ≡ ty.array u b other = sym e ∙ ap type_of same ∙ f in cc both

no_class_array : {o p : TypedExpr} {c : ℕ} {a : List Rpl} {t : PlainType} {b : Rpl} {named : Bool} → o ≡ p → type_of o ≡ ty.class c a → type_of p ≡ ty.array t b named → ⊥
no_class_array {c = c} {a = a} {t = t} {b = b} {named = named} same e f = let both : ty.class c a ≡ ty.array t b named = sym e ∙ ap type_of same ∙ f in cc both

index_same : {L M : Scope} → ScopesAlike L M → (i : TypedExpr) → index_elem L i ≡ index_elem M i
index_same seen (typed place t (form.int k)) = refl
index_same seen (typed place t (form.boolean b)) = refl
index_same seen (typed place t form.null) = refl
index_same seen (typed place t (form.local x)) = element_same x (seen.local x)
index_same seen (typed place t (form.field o c k)) = refl
index_same seen (typed place t (form.element a i)) = refl
index_same seen (typed place t (form.array_length a)) = refl
index_same seen (typed place t (form.call o c r regions es)) = refl
index_same seen (typed place t (form.create es)) = refl
index_same seen (typed place t (form.create_array n)) = refl
index_same seen (typed place t (form.unary o e)) = refl
index_same seen (typed place t (form.binary o a b)) = refl
index_same seen (typed place t (form.both a b)) = refl
index_same seen (typed place t (form.either a b)) = refl
index_same seen (typed place t (form.part_length k)) = refl
index_same seen (typed place t (form.part_element k i)) = refl

module _ {tree : Program} {P Q : PlainProgram} (agreed : Agreed tree P Q) (class : ℕ) (params : List ℕ) (one : OneNumber tree params) (locals regions : List (ℕ × ℕ)) {L M : Scope} (seen : ScopesAlike L M)
  where
    abbrev here : PlainProgram → Around
    here R = record { tree = tree; typed = R; class = class; params = params; locals = locals; regions = regions }

    -- a local that can be read
    local_same : {at : Place} {x y : ℕ} {t u : PlainType} → x ≡ y → Holds (L.local x) t → Holds (M.local y) u → typed at t (form.local x) ≡ typed at u (form.local y)
    local_same {at} {x} {y} {t} {u} same h i =
        let type : t ≡ u = held_one (seen.local x) h (subst (λ z. Holds (M.local z) u) (sym same) i) in
        cc (same, type)

    -- a field: the class is that of the receiver
    pub slot_same : (name c d j k : ℕ) → c ≡ d → FieldIn (here P) name c j → FieldIn (here Q) name d k → j ≡ k
    slot_same name c d j k same e f = slot_one agreed name c j k e (subst (λ z. FieldIn (here Q) name z k) (sym same) f)

    field_type : {c d j k : ℕ} {a b : List Rpl} {f g : PlainField} {t u : PlainType} → c ≡ d → a ≡ b → j ≡ k → field_at P c j ≡ Some f → field_at Q d k ≡ Some g → t ≡ type_with a f.ty → u ≡ type_with b g.ty → t ≡ u
    field_type {c} {d} {j} {k} {a} {b} {f} {g} class args slot e h is other =
        let moved : field_at Q c j ≡ Some g = ap (λ z. field_at Q z j) class ∙ ap (field_at Q d) slot ∙ h in
        let field : f ≡ g = both_some e (field_same agreed c j ∙ moved) in
        is ∙ ap (λ z. type_with z f.ty) args ∙ ap (λ (z : PlainField). type_with b z.ty) field ∙ sym other

    read_same : {at : Place} {name : ℕ} {o p : TypedExpr} {c d j k : ℕ} {a b : List Rpl} {f g : PlainField} {t u : PlainType} → o ≡ p → FieldIn (here P) name c j → FieldIn (here Q) name d k →
        type_of o ≡ ty.class c a → type_of p ≡ ty.class d b → field_at P c j ≡ Some f → field_at Q d k ≡ Some g → t ≡ type_with a f.ty → u ≡ type_with b g.ty →
        typed at t (form.field o c j) ≡ typed at u (form.field p d k)
    read_same {name = name} {c = c} {d = d} {j = j} {k = k} {t = t} {u = u} same m n e h x y is other =
        let w = class_same same e h in
        let slot : j ≡ k = slot_same name c d j k w.0 m n in
        let type : t ≡ u = field_type w.0 w.1 slot x y is other in
        cc (same, w.0, slot, type)

    element_one : {at : Place} {a b i j : TypedExpr} {t s u v : PlainType} → a ≡ b → i ≡ j → t ≡ s → u ≡ type_at 0 (index_elem L i) t → v ≡ type_at 0 (index_elem M j) s →
        typed at u (form.element a i) ≡ typed at v (form.element b j)
    element_one {i = i} {t = t} {u = u} {v = v} array index elements is other =
        let type : u ≡ v = is ∙ ap (λ z. type_at 0 z t) (index_same seen i) ∙ ap (λ z. type_at 0 (index_elem M z) t) index ∙ ap (type_at 0 (index_elem M _)) elements ∙ sym other in
        cc (array, index, type)

    part_at : {j k : ℕ} {t u : PlainType} {a b : Rpl} → j ≡ k → L.local j ≡ Some (part t a) → M.local k ≡ Some (part u b) → (t ≡ u) × (a ≡ b)
    part_at {j} {k} {u = u} {b = b} same e f = part_one (seen.local j) e (subst (λ z. M.local z ≡ Some (part u b)) (sym same) f)

    -- one local isn't both read and a part
    pub no_held_part : {j k : ℕ} {t u : PlainType} {a : Rpl} → j ≡ k → Holds (L.local j) t → M.local k ≡ Some (part u a) → ⊥
    no_held_part {j} {k} {u = u} {a = a} same h f = held_no_part (seen.local j) h (subst (λ z. M.local z ≡ Some (part u a)) (sym same) f)

    pub no_part_held : {j k : ℕ} {t u : PlainType} {a : Rpl} → j ≡ k → L.local j ≡ Some (part u a) → Holds (M.local k) t → ⊥
    no_part_held {j} {k} {t = t} same f h = part_not_held (seen.local j) f (subst (λ z. Holds (M.local z) t) (sym same) h)

    -- a call: of the one row of its name in the class of the receiver
    record Called (R : PlainProgram) (o : TypedExpr) (c r n : ℕ) (name : ℕ) (paths : List RplTree) (given : List Rpl) (m : PlainMember) (t : PlainType) : Type 0 where
      row : row_at R c r ≡ Some n
      named : method_name tree n ≡ Some name
      is : member_at R n ≡ Some m
      means : ArgsMean (here R) [] m.params paths given
      args : List Rpl
      of : type_of o ≡ ty.class c args
      owned : List Rpl
      above : Above R c args m.class owned
      type : t ≡ type_with (owned ++ given) m.result

    -- what the judgement knows of the member in the row, and what the tree means by it
    called : {R : PlainProgram} {o : TypedExpr} {c r n k : ℕ} {name : ℕ} {paths : List RplTree} {rs args owned : List Rpl} {m l : PlainMember} {t : PlainType} →
        row_at R c r ≡ Some n → method_name tree n ≡ Some name → member_at R n ≡ Some m → ArgsMean (here R) [] m.params paths rs → type_of o ≡ ty.class c args →
        row_at R c r ≡ Some k → member_at R k ≡ Some l → Above R c args l.class owned → t ≡ type_with (owned ++ rs) l.result → Called R o c r n name paths rs m t
    called {R} {o} {c} {r} {n} {k} {name} {paths} {rs} {args} {owned} {m} {l} {t} row named is means of same_row other above type =
        let number : k ≡ n = both_some same_row row in
        let member : l ≡ m = both_some other (ap (member_at R) number ∙ is) in
        record {
          row = row;
          named = named;
          is = is;
          means = means;
          args = args;
          of = of;
          owned = owned;
          above = subst (λ (z : PlainMember). Above R c args z.class owned) member above;
          type = type ∙ ap (λ (z : PlainMember). type_with (owned ++ rs) z.result) member;
        }

    call_same : {at : Place} {name : ℕ} {paths : List RplTree} {o p : TypedExpr} {c d r q i j : ℕ} {g h : List Rpl} {m k : PlainMember} {t u : PlainType} {es fs : TypedExprs} → o ≡ p → es ≡ fs →
        Called P o c r i name paths g m t → Called Q p d q j name paths h k u → typed at t (form.call o c r g es) ≡ typed at u (form.call p d q h fs)
    call_same {name = name} {paths = paths} {c = c} {d = d} {r = r} {q = q} {i = i} {j = j} {g = g} {h = h} {m = m} {k = k} {t = t} {u = u} object actuals x y =
        let w = class_same object x.of y.of in
        let row : r ≡ q = row_one agreed c r q i j name x.row (ap (λ z. row_at Q z q) w.0 ∙ y.row) x.named y.named in
        let moved : row_at Q c r ≡ Some j = ap (λ z. row_at Q z r) w.0 ∙ ap (row_at Q d) row ∙ y.row in
        let number : j ≡ i = both_some moved (sym (row_same agreed c r) ∙ x.row) in
        let signature = agreed.signatures i m k x.is (ap (member_at Q) (sym number) ∙ y.is) in
        let given : g ≡ h = args_one (here P) Q agreed.same one [] m.params k.params paths g h signature.params x.means y.means in
        let first = subst (λ z. Above P c z m.class x.owned) w.1 x.above in
        let second = subst (λ z. Above Q z y.args k.class y.owned) (sym w.0) y.above in
        let third = subst (λ z. Above Q c y.args z y.owned) (sym signature.class) second in
        let owned : x.owned ≡ y.owned = above_one agreed c m.class y.args x.owned y.owned first third in
        let type : t ≡ u = x.type ∙ ap (λ z. type_with (z ++ g) m.result) owned ∙ ap (λ z. type_with (y.owned ++ z) m.result) given ∙ ap (type_with (y.owned ++ h)) signature.result ∙ sym y.type in
        cc (object, actuals, w.0, row, given, type)

    mutual
      pub expr_one : {e : PlainExpr} {v w : TypedExpr} {E F : List Own} → ExprMeans (here P) e v → ExprMeans (here Q) e w → Has P L v E → Has Q M w F → v ≡ w
      expr_one ExprMeans.an_int ExprMeans.an_int (Has.literal_int f) (Has.literal_int g) = refl
      expr_one ExprMeans.a_boolean ExprMeans.a_boolean Has.literal_boolean Has.literal_boolean = refl
      expr_one ExprMeans.a_null ExprMeans.a_null Has.literal_null Has.literal_null = refl
      expr_one ExprMeans.itself ExprMeans.itself (Has.read_local h) (Has.read_local i) = local_same refl h i
      expr_one (ExprMeans.a_local e) (ExprMeans.a_local d) (Has.read_local h) (Has.read_local i) = local_same (both_some e d) h i
      expr_one (ExprMeans.a_field m f) (ExprMeans.a_field n g) (Has.read_field h a b c d) (Has.read_field h' a' b' c' d') = read_same (expr_one m n h h') f g a a' b b' d d'
      expr_one (ExprMeans.a_field m f) (ExprMeans.array_length n l) (Has.read_field h a b c d) (Has.length_of_array h' a') = absurd (no_class_array (expr_one m n h h') a a')
      expr_one (ExprMeans.a_field (ExprMeans.a_local e) f) (ExprMeans.part_length d l) (Has.read_field (Has.read_local h) a b c g) (Has.length_of_part i) = absurd (no_held_part (both_some e d) h i)
      expr_one (ExprMeans.array_length m l) (ExprMeans.a_field n g) (Has.length_of_array h a) (Has.read_field h' a' b' c' d') = absurd (no_class_array (sym (expr_one m n h h')) a' a)
      expr_one (ExprMeans.array_length m l) (ExprMeans.array_length n k) (Has.length_of_array h a) (Has.length_of_array h' a') = let same = expr_one m n h h' in cc same
      expr_one (ExprMeans.array_length (ExprMeans.a_local e) l) (ExprMeans.part_length d k) (Has.length_of_array (Has.read_local h) a) (Has.length_of_part i) = absurd (no_held_part (both_some e d) h i)
      expr_one (ExprMeans.part_length e l) (ExprMeans.a_field (ExprMeans.a_local d) g) (Has.length_of_part i) (Has.read_field (Has.read_local h) a b c f) = absurd (no_part_held (both_some e d) i h)
      expr_one (ExprMeans.part_length e l) (ExprMeans.array_length (ExprMeans.a_local d) k) (Has.length_of_part i) (Has.length_of_array (Has.read_local h) a) = absurd (no_part_held (both_some e d) i h)
      expr_one (ExprMeans.part_length e l) (ExprMeans.part_length d k) (Has.length_of_part i) (Has.length_of_part j) = let same = both_some e d in cc same
      expr_one (ExprMeans.an_element m i) (ExprMeans.an_element n j) (Has.read_element h a g b r c) (Has.read_element h' a' g' b' r' c') =
          let array = expr_one m n h h' in
          element_one array (expr_one i j g g') (array_same array a a') c c'
      expr_one (ExprMeans.an_element (ExprMeans.a_local e) i) (ExprMeans.part_element d j) (Has.read_element (Has.read_local h) a g b r c) (Has.read_part k g' b') = absurd (no_held_part (both_some e d) h k)
      expr_one (ExprMeans.part_element e i) (ExprMeans.an_element (ExprMeans.a_local d) j) (Has.read_part k g b) (Has.read_element (Has.read_local h) a' g' b' r' c') = absurd (no_part_held (both_some e d) k h)
      expr_one (ExprMeans.part_element e i) (ExprMeans.part_element d j) (Has.read_part k g b) (Has.read_part k' g' b') =
          let same = both_some e d in
          let type = part_at same k k' in
          let index = expr_one i j g g' in
          cc (same, type.0, index)
      expr_one (ExprMeans.a_call m row name is args es) (ExprMeans.a_call m' row' name' is' args' es') (Has.call_method h a b c d g f k r fits s e) (Has.call_method h' a' b' c' d' g' f' k' r' fits' s' e') =
          call_same (expr_one m m' h h') (exprs_one es es' (all_have fits) (all_have fits')) (called row name is args a b c d e) (called row' name' is' args' a' b' c' d' e')
      expr_one (ExprMeans.a_creation {name = name} {paths = paths} c es) (ExprMeans.a_creation c' es') (Has.create_object a b d e) (Has.create_object a' b' d' e') =
          let w = class_one (here P) Q agreed.same one [] name paths _ _ _ _ c c' in
          cc (w.0, w.1)
      expr_one (ExprMeans.a_creation {name = name} {paths = paths} c es) (ExprMeans.a_creation c' es') (Has.create_object a b d e) (Has.construct_object a' b' d' e' i' fits' s') =
          let w = class_one (here P) Q agreed.same one [] name paths _ _ _ _ c c' in
          let actuals = exprs_one es es' tt (all_have fits') in
          cc (w.0, w.1, actuals)
      expr_one (ExprMeans.a_creation {name = name} {paths = paths} c es) (ExprMeans.a_creation c' es') (Has.construct_object a b d e i fits s) (Has.create_object a' b' d' e') =
          let w = class_one (here P) Q agreed.same one [] name paths _ _ _ _ c c' in
          let actuals = exprs_one es es' (all_have fits) tt in
          cc (w.0, w.1, actuals)
      expr_one (ExprMeans.a_creation {name = name} {paths = paths} c es) (ExprMeans.a_creation c' es') (Has.construct_object a b d e i fits s) (Has.construct_object a' b' d' e' i' fits' s') =
          let w = class_one (here P) Q agreed.same one [] name paths _ _ _ _ c c' in
          let actuals = exprs_one es es' (all_have fits) (all_have fits') in
          cc (w.0, w.1, actuals)
      expr_one (ExprMeans.an_array {base = base} {suffixes = suffixes} {path = path} {index = index} t a named n) (ExprMeans.an_array t' a' named' n') (Has.make_array b c h i) (Has.make_array b' c' h' i') =
          let elements = form_one (here P) Q agreed.same one (index ∷ []) base suffixes _ _ t t' in
          let region = path_or_root_one (here P) Q agreed.same one (index ∷ []) path _ _ a a' in
          let has_name = named ∙ sym named' in
          let size = expr_one n n' h h' in
          cc (elements, region, has_name, size)
      expr_one (ExprMeans.one_operand m) (ExprMeans.one_operand n) (Has.negative h a) (Has.negative h' a') = let same = expr_one m n h h' in cc same
      expr_one (ExprMeans.one_operand m) (ExprMeans.one_operand n) (Has.negation h a) (Has.negation h' a') = let same = expr_one m n h h' in cc same
      expr_one (ExprMeans.two_operands m i) (ExprMeans.two_operands n j) (Has.operation h g a b) (Has.operation h' g' a' b') =
          let first = expr_one m n h h' in
          let second = expr_one i j g g' in
          let type = b ∙ sym b' in
          cc (first, second, type)
      expr_one (ExprMeans.conjunction m i) (ExprMeans.conjunction n j) (Has.conjunction h a g b) (Has.conjunction h' a' g' b') =
          let first = expr_one m n h h' in
          let second = expr_one i j g g' in
          cc (first, second)
      expr_one (ExprMeans.disjunction m i) (ExprMeans.disjunction n j) (Has.disjunction h a g b) (Has.disjunction h' a' g' b') =
          let first = expr_one m n h h' in
          let second = expr_one i j g g' in
          cc (first, second)

      exprs_one : {ds : PlainExprs} {es fs : TypedExprs} → ExprsMean (here P) ds es → ExprsMean (here Q) ds fs → AllHave P L es → AllHave Q M fs → es ≡ fs
      exprs_one ExprsMean.no_exprs ExprsMean.no_exprs h i = refl
      exprs_one (ExprsMean.more_exprs m ms) (ExprsMean.more_exprs n ns) h i =
          let first = expr_one m n h.0.1 i.0.1 in
          let rest = exprs_one ms ns h.1 i.1 in
          cc (first, rest)
