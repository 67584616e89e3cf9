-- Two well-typed programs that a tree means are one, but for what it leaves open.
use Rattle.std.proofs.Common.{◌≡◌, ◌∙◌, ℕ, zero, suc, List, [], ◌∷◌, codes, slice_index_or, Some, option_map, refl, ap, sym, subst, arith}
use Rattle.std.proofs.lemmas.Option.{slice_get_within}
use Rattle.std.specs.Prelude.{slice_get}
use Rattle.lang_base.specs.Types.{PlainType, void, int}
use Rattle.syntax_tree.specs.declared.class.MethodResult.{MethodResult}
use Rattle.syntax_tree.specs.declared.class.MethodResult.TheVariants as outcome
use Rattle.syntax_tree.specs.declared.class.Program.{Program}
use Rattle.lang_typed.specs.Plain.{PlainProgram}
use Rattle.lang_typed.specs.WellTyped.{WellTyped}
use Rattle.syntax_means.specs.Declares.{ClassNamed, DeclaresMethod, OwnMethod, all_methods, spelled}
use Rattle.syntax_means.specs.Means.{Means, ResultMeans}
use Rattle.syntax_means.specs.Paths.{Around}
use Rattle.syntax_means.specs.Unambiguous.{IsUnambiguous}
use Rattle.syntax_means.proofs.Alike.{ProgramsAlike}
use Rattle.syntax_means.proofs.unique.Apart.{IsApart}
use Rattle.syntax_means.proofs.unique.Classes.{classes_same}
use Rattle.syntax_means.proofs.unique.Lists.{both_some, there}
use Rattle.syntax_means.proofs.unique.Members.{member_alike}

-- a name that is spelled somehow is among the names
spelled_there : (names : List (List ℕ)) (name : ℕ) (text : List ℕ) → (text ≡ [] → ⊥) → slice_index_or names name [] ≡ text → slice_get names name ≡ Some text
spelled_there [] name text some e = absurd (some (sym e))
spelled_there (one ∷ names) zero text some e = ap Some e
spelled_there (one ∷ names) (suc name) text some e = spelled_there names name text some e

constructor_void : {A : Around} {r : MethodResult} {t : PlainType} → ResultMeans A r t → r ≡ outcome.Constructor → t ≡ void
constructor_void ResultMeans.of_constructor e = refl
constructor_void ResultMeans.nothing e = cc
constructor_void (ResultMeans.a_value m) e = cc

module _ (tree : Program) (P : PlainProgram) (clear : IsUnambiguous tree P) (apart : IsApart tree)
  where
    name_one : (a b : ℕ) (text : List ℕ) → (text ≡ [] → ⊥) → spelled tree a ≡ text → spelled tree b ≡ text → a ≡ b
    name_one a b text some e d = apart.names a b text (spelled_there tree.names a text some e) (spelled_there tree.names b text some d)

    -- the member by which a run begins is a method of its name, of the main class
    entered : (R : PlainProgram) (m : Means tree R) → WellTyped R → DeclaresMethod tree m.entry_name R.main_class R.main_member
    entered R m typed =
        let main = typed.main in
        let within = slice_get_within R.members R.main_member main.member main.member_is in
        let long = m.as_many_members in
        let w = there (all_methods tree) R.main_member (omega (arith, within, long)) in
        let v = m.members R.main_member w.0 main.member w.1 main.member_is in
        let class : w.0.class ≡ R.main_class = sym v.of_class ∙ main.own in
        let named : w.0.method.name ≡ m.entry_name = both_some (ap (option_map (λ (own : OwnMethod). own.method.name)) w.1) m.main_member in
        let no_constructor = λ (e : w.0.method.result ≡ outcome.Constructor). (let types : int ≡ void = sym main.result ∙ constructor_void v.result e in let no : ⊥ = cc types in no) in
        (w.0.method, w.1 ∙ ap (λ (c : ℕ). let own : OwnMethod = record { class = c; method = w.0.method } in Some own) class, no_constructor, named)

pub one_program : (tree : Program) (P Q : PlainProgram) → IsUnambiguous tree P → IsApart tree → Means tree P → Means tree Q → WellTyped P → WellTyped Q → ProgramsAlike P Q
one_program tree P Q clear apart m n typed other =
    let main_name = name_one tree P clear apart m.main_name n.main_name (codes "Main") (λ e. cc) m.main_spelled n.main_spelled in
    let main_class = clear.classes m.main_name P.main_class Q.main_class m.main_class (subst (λ z. ClassNamed tree z Q.main_class) (sym main_name) n.main_class) in
    let entry = name_one tree P clear apart m.entry_name n.entry_name (codes "main") (λ e. cc) m.entry_spelled n.entry_spelled in
    let first = entered tree P clear apart P m typed in
    let second = entered tree P clear apart Q n other in
    let named = subst (λ z. DeclaresMethod tree z Q.main_class Q.main_member) (sym entry) second in
    let placed = subst (λ z. DeclaresMethod tree m.entry_name z Q.main_member) (sym main_class) named in
    record {
      classes = classes_same tree P Q clear apart m n typed other;
      main_class = main_class;
      main_member = clear.methods m.entry_name P.main_class P.main_member Q.main_member first placed;
      many = m.as_many_members ∙ sym n.as_many_members;
      members = member_alike tree P Q clear apart m n typed other;
    }
