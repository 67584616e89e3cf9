-- Where a program has no nd construct, no method is marked, and so none leads to one that is.
use Rattle.std.proofs.Common.{◌≡◌, ◌∙◌, ℕ, zero, suc, Bool, true, false, not, IsTrue, List, [], ◌∷◌, ◌++◌, refl, sym}
use Rattle.std.proofs.lemmas.Bool.{false≢true, or_parts}
use Rattle.std.specs.List.{flat_map, list_any}
use Rattle.syntax_tree.specs.declared.class.Class.{Class}
use Rattle.syntax_tree.specs.declared.class.Member.{Member}
use Rattle.syntax_tree.specs.declared.class.Member.TheVariants as member
use Rattle.syntax_tree.specs.declared.class.Program.{Program}
use Rattle.syntax_tree.specs.Nd.{member_holds_nd, program_uses_nd}
use Rattle.body_assembly.specs.Assembled.{PlainBody}
use Rattle.decl_reach.specs.declared.reach.Edge.{Edge}
use Rattle.decl_table.specs.declared.table.Table.{Table}
use Rattle.decl_reach.specs.Bodies.{own_marks, class_marks, override_edges}
use Rattle.decl_reach.specs.Edges.{call_edges, without_forks}
use Rattle.decl_reach.specs.Reach.{is_marked}
use Rattle.decl_reach.proofs.Reaching.{IsAfter}
use Rattle.decl_table.specs.Table.{methods_of, is_forking}
use Rattle.decl_laws.proofs.Granted.{granted}
use Rattle.sound_lemmas.specs.Accepted.{IsAccepted}
use Rattle.sound_bodies.specs.Whole.{never_forks}

abbrev Unmarked : List Bool → Type 0
Unmarked marks = (at : ℕ) → is_marked marks at ≡ false

both_unmarked : (first more : List Bool) → Unmarked first → Unmarked more → Unmarked (first ++ more)
both_unmarked [] more h k at = k at
both_unmarked (mark ∷ first) more h k zero = h zero
both_unmarked (mark ∷ first) more h k (suc at) = both_unmarked first more (λ i. h (suc i)) k at

member_unmarked : (m : Member) → member_holds_nd m ≡ false → Unmarked (own_marks m)
member_unmarked (member.Regions is_atomic names) none at = refl
member_unmarked (member.Field declared) none at = refl
member_unmarked (member.Method method) none zero = none
member_unmarked (member.Method method) none (suc at) = refl

members_unmarked : (ms : List Member) → list_any member_holds_nd ms ≡ false → Unmarked (flat_map own_marks ms)
members_unmarked [] none = λ at. refl
members_unmarked (m ∷ ms) none =
    let p = or_parts (member_holds_nd m) (list_any member_holds_nd ms) none in
    both_unmarked (own_marks m) (flat_map own_marks ms) (member_unmarked m p.0) (members_unmarked ms p.1)

classes_unmarked : (classes : List Class) → list_any (λ (class : Class). list_any member_holds_nd class.members) classes ≡ false → Unmarked (flat_map class_marks classes)
classes_unmarked [] none = λ at. refl
classes_unmarked (class ∷ classes) none =
    let p = or_parts (list_any member_holds_nd class.members) (list_any (λ (k : Class). list_any member_holds_nd k.members) classes) none in
    both_unmarked (class_marks class) (flat_map class_marks classes) (members_unmarked class.members p.0) (classes_unmarked classes p.1)

none_after : {marks : List Bool} {edges : List Edge} {at : ℕ} → Unmarked marks → IsAfter marks edges at → ⊥
none_after none (IsAfter.itself at is) = false≢true (sym (none at) ∙ is)
none_after none (IsAfter.before at next within leads more) = none_after none more

pub none_forks : (program : Program) (table : Table) (bodies : List PlainBody) → IsAccepted program table bodies → program_uses_nd program ≡ false → (n : ℕ) → IsTrue (never_forks table n)
none_forks program table bodies accepted none n = by (is_forking table n) ((granted accepted.rows).reached.each n).0
  where
    by : (b : Bool) → (IsTrue b → IsAfter (flat_map class_marks program.classes) (call_edges (without_forks table) 0 0 program.classes ++ override_edges table (methods_of table)) n) → IsTrue (not b)
    by true following = absurd (none_after (classes_unmarked program.classes none) (following refl))
    by false following = refl
