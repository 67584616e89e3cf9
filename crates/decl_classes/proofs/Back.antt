-- Rows are known by their plain rows, and plain rows are those of their rows.
use Rattle.std.proofs.Common.{◌≡◌, ◌∙◌, List, [], ◌∷◌, map, refl, ap, subst}
use Rattle.lang_base.specs.declared.ty.Super.{Super}
use Rattle.lang_base.specs.declared.ty.Ty.{Ty, fold-roll-Ty, ind-Ty, roll-Ty, map-Ty}
use Rattle.lang_base.specs.declared.ty.Ty.TheOpen.{Ty-F}
use Rattle.lang_base.specs.Types.{PlainType, plain_type, type_step}
use Rattle.lang_base.specs.Types.{PlainType as ty}
use Rattle.decl_table.specs.declared.rows.FieldRow.{FieldRow}
use Rattle.decl_table.specs.declared.rows.MethodRow.{MethodRow}
use Rattle.decl_table.specs.Plain.{PlainSuper, PlainField, PlainMethod, plain_super, plain_field, plain_method}
use Rattle.decl_classes.specs.Tables.{type_of, super_of, field_of, method_of}

-- a type of which it is known that it comes back
abbrev Back : Type 0
Back = (t : Ty) × (type_of (plain_type t) ≡ t)

step_back : (y : Ty-F Back) → type_of (type_step (map-Ty Ty PlainType plain_type (map-Ty Back Ty (λ e. e.0) y))) ≡ roll-Ty (map-Ty Back Ty (λ e. e.0) y)
step_back Ty-F.Int = refl
step_back Ty-F.Bool = refl
step_back Ty-F.Void = refl
step_back Ty-F.Null = refl
step_back (Ty-F.Class number args) = refl
step_back (Ty-F.Array elem rpl named) = ap (λ z. roll-Ty (Ty-F.Array z rpl named)) elem.1

pub type_came_back : (t : Ty) → type_of (plain_type t) ≡ t
type_came_back = ind-Ty (λ t. type_of (plain_type t) ≡ t)
    (λ x y is. ap type_of (fold-roll-Ty PlainType type_step x) ∙ subst (λ (z : Ty-F Ty). type_of (type_step (map-Ty Ty PlainType plain_type z)) ≡ roll-Ty z) is (step_back y))

-- all of a list come back
all_back : {A B : Type 0} (there : A → B) (back : B → A) → ((a : A) → back (there a) ≡ a) → (xs : List A) → map back (map there xs) ≡ xs
all_back there back came [] = refl
all_back there back came (x ∷ xs) = ap (λ y. y ∷ map back (map there xs)) (came x) ∙ ap (λ ys. x ∷ ys) (all_back there back came xs)

pub supers_back : (rows : List Super) → map super_of (map plain_super rows) ≡ rows
supers_back = all_back plain_super super_of (λ row. ap (λ parent. record row { parent = parent }) (type_came_back row.parent))

pub fields_back : (rows : List FieldRow) → map field_of (map plain_field rows) ≡ rows
fields_back = all_back plain_field field_of (λ row. ap (λ t. record row { ty = t }) (type_came_back row.ty))

pub methods_back : (rows : List MethodRow) → map method_of (map plain_method rows) ≡ rows
methods_back = all_back plain_method method_of
    (λ row. ap (λ params. record row { params = params; result = type_of (plain_type row.result) }) (all_back plain_type type_of type_came_back row.params)
    ∙ ap (λ t. record row { result = t }) (type_came_back row.result))

-- and the other way around
type_there : (t : PlainType) → plain_type (type_of t) ≡ t
type_there ty.int = fold-roll-Ty PlainType type_step Ty-F.Int
type_there ty.boolean = fold-roll-Ty PlainType type_step Ty-F.Bool
type_there ty.void = fold-roll-Ty PlainType type_step Ty-F.Void
type_there ty.null = fold-roll-Ty PlainType type_step Ty-F.Null
type_there (ty.class number args) = fold-roll-Ty PlainType type_step (Ty-F.Class number args)
type_there (ty.array elem rpl named) =
    fold-roll-Ty PlainType type_step (Ty-F.Array (type_of elem) rpl named) ∙ ap (λ plain. ty.array plain rpl named) (type_there elem)

pub supers_there : (rows : List PlainSuper) → map plain_super (map super_of rows) ≡ rows
supers_there = all_back super_of plain_super (λ row. ap (λ parent. record row { parent = parent }) (type_there row.parent))

pub fields_there : (rows : List PlainField) → map plain_field (map field_of rows) ≡ rows
fields_there = all_back field_of plain_field (λ row. ap (λ t. record row { ty = t }) (type_there row.ty))

pub methods_there : (rows : List PlainMethod) → map plain_method (map method_of rows) ≡ rows
methods_there = all_back method_of plain_method
    (λ row. ap (λ params. record row { params = params; result = plain_type (type_of row.result) }) (all_back type_of plain_type type_there row.params)
    ∙ ap (λ t. record row { result = t }) (type_there row.result))
