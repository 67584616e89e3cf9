-- What stands in cells and what looks answer, where things are what their shapes say.
use Rattle.std.proofs.Common.{◌≡◌, ◌<◌, ℕ, ℤ, pos, [], length, refl, sym, ap, ◌∙◌, subst, arith, Option, Some, None, slice_get, nat_lt}
use Rattle.std.specs.Prelude.{option_and_then, option_map}
use Rattle.std.specs.Option.{option_map_or}
use Rattle.std.proofs.lemmas.Bool.{lt-ltb, cond-true}
use Rattle.std.proofs.lemmas.List.{length-map}
use Rattle.std.proofs.lemmas.Option.{slice_get-map, slice_get_within}
use Rattle.lang_base.specs.declared.region.Rpl.{Rpl}
use Rattle.lang_base.specs.Matching.{Env}
use Rattle.lang_base.specs.Types.{PlainType, int, boolean, void, null, class, array}
use Rattle.lang_typed.specs.Plain.{PlainProgram, PlainClass, PlainField}
use Rattle.lang_typed.specs.Scope.{class_at, field_at}
use Rattle.lang_meaning.specs.Expressions.{first_of, class_fields}
use Rattle.runs_theory.specs.Actions.{Class}
use Rattle.runs_theory.specs.Objects.{Null, Thing, An_object, An_array, or_else, size, first_value, slot_of}
use Rattle.runs_theory.specs.Runs.{seen}
use Rattle.runs_sound.specs.Settings.{class_env}
use Rattle.runs_sound.specs.Shapes.{Shape, object, elements, Shapes, FitsIn, CellAt, of_object, of_array, Describes}
use Rattle.runs_sound.specs.Work.{IsArray, LookFits}
use Rattle.runs_sound.proofs.numbers.Ints.{zero_fits}

-- the default value of a type has it
pub first_fits : (P : PlainProgram) (S : Shapes) (env : Env) (t : PlainType) → FitsIn P S env t (first_of t)
first_fits P S env int = zero_fits
first_fits P S env boolean = tt
first_fits P S env void = tt
first_fits P S env null = tt
first_fits P S env (class c args) = tt
first_fits P S env (array t a named) = tt

-- the cell at an index has one type and one region
pub one_cell : {P : PlainProgram} {s : Shape} {i : ℤ} {env env' : Env} {t u : PlainType} {a c : Rpl} → CellAt P s i env t a → CellAt P s i env' u c →
    (Q : Env → PlainType → Rpl → Type 0) → Q env t a → Q env' u c
one_cell (of_object {c = c} {k = k} {rs = rs} {f = f} e) (of_object {f = f'} e') Q h =
    let z : Some f ≡ Some f' = sym e ∙ e' in
    let q : f ≡ f' = cc in
    subst (λ (y : PlainField). Q (class_env rs) y.ty y.region) q h
one_cell of_array of_array Q h = h

fields_at : (P : PlainProgram) (o : Option PlainClass) (k : ℕ) (f : PlainField) → option_and_then (λ (c : PlainClass). slice_get c.fields k) o ≡ Some f →
    slice_get (option_map_or (λ (c : PlainClass). c.fields) o []) k ≡ Some f
fields_at P None k f e = absurd (let z : None ≡ Some f = e in cc)
fields_at P (Some c) k f e = e

-- a field of a class is among its fields
pub field_there : (P : PlainProgram) (c k : ℕ) (f : PlainField) → field_at P c k ≡ Some f → slice_get (class_fields P c) k ≡ Some f
field_there P c k f e = fields_at P (class_at P c) k f e

slot_there : (k n : ℕ) → k < n → slot_of (pos k) n ≡ Some k
slot_there k n l = cond-true (nat_lt k n) (Some k) None (lt-ltb k n l)

-- only an array's index is out of bounds
pub out_is_array : {P : PlainProgram} {s : Shape} {i : ℤ} {env : Env} {t : PlainType} {a : Rpl} → CellAt P s i env t a → (u : Thing) → Describes P s u → slot_of i (size u) ≡ None → IsArray s
out_is_array {P} (of_object {c = c} {k = k} {f = f} e) (An_object d qs fields) h out =
    let l = slice_get_within (class_fields P c) k f (field_there P c k f e) in
    let n : length fields ≡ length (class_fields P c) = ap length h.3 ∙ length-map (class_fields P c) (λ (f : PlainField). first_of f.ty) in
    absurd (let z : None ≡ Some k = sym out ∙ slot_there k (length fields) (omega (arith, l, n)) in cc)
out_is_array (of_object e) (An_array region len first) h out = absurd h
out_is_array of_array u h out = tt

-- the first value of a cell has its type
pub first_value_fits : {P : PlainProgram} (S : Shapes) {s : Shape} {k : ℕ} {env : Env} {t : PlainType} {a : Rpl} → CellAt P s (pos k) env t a → (u : Thing) → Describes P s u →
    FitsIn P S env t (first_value u k)
first_value_fits {P} S (of_object {c = c} {k = k} {rs = rs} {f = f} e) (An_object d qs fields) h =
    let there : slice_get fields k ≡ Some (first_of f.ty) =
    ap (λ l. slice_get l k) h.3 ∙ slice_get-map (λ (f : PlainField). first_of f.ty) (class_fields P c) k ∙ ap (option_map (λ (f : PlainField). first_of f.ty)) (field_there P c k f e) in
    subst (λ o. FitsIn P S (class_env rs) f.ty (or_else o Null)) (sym there) (first_fits P S (class_env rs) f.ty)
first_value_fits S (of_object e) (An_array region len first) h = absurd h
first_value_fits {P} S {env = env} (of_array {t = t}) (An_array region len first) h = subst (λ v. FitsIn P S env t v) (sym h.2) (first_fits P S env t)
first_value_fits S of_array (An_object d qs fields) h = absurd h

-- what a look sees is what the shape says
pub look_fits : (P : PlainProgram) (s : Shape) (u : Thing) → Describes P s u → LookFits s (seen u)
look_fits P (object c rs) (An_object d qs fields) h = let e = sym h.0 in let f = sym h.1 in λ i. Class (e i) (f i)
look_fits P (object c rs) (An_array region len first) h = absurd h
look_fits P (elements g t a) (An_array region len first) h = (len, h.1, refl)
look_fits P (elements g t a) (An_object d qs fields) h = absurd h
