-- Methods that are numbered on from those that stand before them.
use Rattle.std.proofs.Common.{◌≡◌, ◌∙◌, ℕ, ◌+◌, List, ◌∷◌, ◌++◌, map, length, ap, sym, append_assoc, arith}
use Rattle.std.proofs.lemmas.List.{length-map, length-append}
use Rattle.lang_base.specs.declared.effect.Constraint.{Constraint}
use Rattle.syntax_tree.specs.declared.class.Class.{Class}
use Rattle.decl_headers.specs.declared.header.Headers.{Headers}
use Rattle.decl_headers.specs.Numbers.{as_number}
use Rattle.decl_table.specs.declared.rows.MethodRow.{MethodRow}
use Rattle.decl_classes.specs.Around.{class_scope}
use Rattle.decl_table.specs.Plain.{PlainMethod, plain_method}
use Rattle.decl_classes.specs.Rows.{methods_from, methods_meant}

-- one class more is read
pub methods_step : (headers : Headers) (given : List (List Constraint)) (at : ℕ) (old new : List MethodRow) (class : Class) (left rest : List Class) (whole : List PlainMethod)
    → left ≡ class ∷ rest
    → map plain_method new ≡ map plain_method old ++ methods_from (class_scope headers given (as_number at)) (length old) class.members
    → map plain_method old ++ methods_meant headers given at (length old) left ≡ whole
    → map plain_method new ++ methods_meant headers given (at + 1) (length new) rest ≡ whole
methods_step headers given at old new class left rest whole is more before =
    let own = methods_from (class_scope headers given (as_number at)) (length old) class.members in
    let following = λ (n : ℕ). methods_meant headers given (at + 1) n rest in
    let count : length new ≡ length old + length own =
    omega (arith, length-map new plain_method, length-map old plain_method, length-append (map plain_method old) own, ap length more) in
    ap (λ n. map plain_method new ++ following n) count
    ∙ ap (λ rows. rows ++ following (length old + length own)) more
    ∙ append_assoc (map plain_method old) own (following (length old + length own))
    ∙ ap (λ l. map plain_method old ++ methods_meant headers given at (length old) l) (sym is)
    ∙ before
